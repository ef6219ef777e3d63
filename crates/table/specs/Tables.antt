-- Reading and changing a table.
use Rattle.std.specs.Prelude.{ℕ, ◌-◌, Bool, true, false, cond, replicate, Some, None, Option, slice_index, slice_index_or, slice_set}
use Rattle.lending.specs.declared.account.Account.{Account}
use Rattle.lending.specs.declared.offer.Offer.{Offer}
use Rattle.lending.specs.Sound.{securities, account_places, offer_places}
use Rattle.table.specs.declared.hour.Hour.{Hour}
use Rattle.table.specs.declared.hour.Hour.TheVariants.{Blank, Morning, Calling, Afternoon}
use Rattle.table.specs.declared.table.Table.{Table}

abbrev pub account_at : Table → ℕ → Option Account
account_at t place = slice_index_or t.accounts place None

abbrev pub offer_at : Table → ℕ → Option Offer
offer_at t place = slice_index_or t.offers place None

abbrev pub price_at : Table → ℕ → ℕ
price_at t security = slice_index t.prices security

abbrev pub blank : Hour → Bool
blank Blank = true
blank Morning = false
blank Calling = false
blank Afternoon = false

abbrev pub morning : Hour → Bool
morning Blank = false
morning Morning = true
morning Calling = false
morning Afternoon = false

abbrev pub calling : Hour → Bool
calling Blank = false
calling Morning = false
calling Calling = true
calling Afternoon = false

abbrev pub afternoon : Hour → Bool
afternoon Blank = false
afternoon Morning = false
afternoon Calling = false
afternoon Afternoon = true

-- how many elevens there were: one a day, and today's only in the afternoon
abbrev pub elevens : Table → ℕ
elevens t = cond (afternoon t.hour) t.day (t.day - 1)

abbrev pub with_account : Table → ℕ → Option Account → Table
with_account t place o = record { day = t.day; hour = t.hour; prices = t.prices; accounts = slice_set t.accounts place o; offers = t.offers; notices = t.notices; slips = t.slips }

abbrev pub with_offer : Table → ℕ → Option Offer → Table
with_offer t place o = record { day = t.day; hour = t.hour; prices = t.prices; accounts = t.accounts; offers = slice_set t.offers place o; notices = t.notices; slips = t.slips }

-- whether a place is taken
abbrev pub taken : {X : Type 0} → Option X → Bool
taken None = false
taken (Some x) = true

-- a new book's table: the blank hour of day 0, with every place empty
abbrev pub blank_table : Table
blank_table = record { day = 0; hour = Blank; prices = replicate securities 0; accounts = replicate account_places None; offers = replicate offer_places None; notices = 0; slips = 0 }
