-- Worked figures of the book: what its statement tells, and which rate stands.
use Rattle.std.specs.Prelude.{◌≡◌, ℕ, ◌<◌, ◌≤◌, true, Some, None}
use Rattle.lending.specs.declared.account.Account.{Account}
use Rattle.lending.specs.Measures.{top_units}
use Rattle.lending.specs.Sound.{securities, top_commission, offer_places}
use Rattle.table.specs.declared.refusal.Refusal.TheVariants.{RateTooHigh}
use Rattle.table.specs.declared.table.Table.{Table}
use Rattle.table.specs.Refusals.{naming}
use Rattle.table.specs.Tables.{offer_at, price_at, morning}
use Rattle.table.specs.Offers.{offer_act}
use Rattle.book.specs.Statements.{stated}
use Rattle.figures.specs.declared.books.BookFigures.{BookFigures}

-- a share costs 50 dollars
abbrev pub price : ℕ
price = 5000

abbrev pub worked : BookFigures
worked = record { floor = 60000000; target = 60000000 }

-- an offer to which nothing but its rate can be an obstacle
pub record Offerable (t : Table) (place security units commission : ℕ) : Type 0 where
  pub place_known : place < offer_places
  pub security_known : security < securities
  pub some_units : 1 ≤ units
  pub few_units : units ≤ top_units
  pub commission_known : commission ≤ top_commission
  pub in_the_morning : morning t.hour ≡ true
  pub place_empty : offer_at t place ≡ None
  pub priced : price_at t security ≡ price

pub record BookFiguresHold : Type 0 where
  -- ten applied units, whatever is pledged for them
  pub floor : (t : Table) (a : Account) (pledged : ℕ) → a.owed ≡ 0 → a.applied ≡ 10 → price_at t a.security ≡ price →
      (stated t (Some a) pledged).money.floor ≡ worked.floor
  pub target : (t : Table) (a : Account) (pledged : ℕ) → a.owed ≡ 0 → a.applied ≡ 10 → price_at t a.security ≡ price →
      (stated t (Some a) pledged).money.target ≡ worked.target
  -- the rate 350 stands
  pub rate_stands : (t : Table) (place security units commission : ℕ) → Offerable t place security units commission →
      (offer_act place security units 350 commission).cause t ≡ None
  -- and the rate 351 is refused by the number 8
  pub rate_refused : (t : Table) (place security units commission : ℕ) → Offerable t place security units commission →
      (offer_act place security units 351 commission).cause t ≡ Some RateTooHigh
  pub refused_by : (naming RateTooHigh).number ≡ 8
