-- What the calls of a run add up to. Only accepted calls count, and a call's figures are those from before it.
use Rattle.std.specs.Prelude.{ℕ, ◌+◌, cond, length, ℤ, pos, Ok, Err, ◌==◌, int_lt}
use Rattle.pledge.specs.Numbers.{Numbers}
use Rattle.sums.specs.Below.{below}
use Rattle.table.specs.declared.table.Table.{Table}
use Rattle.table.specs.Tables.{account_at, offer_at}
use Rattle.lending.specs.Eleven.{own_fee}
use Rattle.lending.specs.Sound.{account_places}
use Rattle.table.specs.Accounts.{balance_of}
use Rattle.table.specs.Offers.{unpaid}
use Rattle.margin.specs.Margins.{cover_at, target_at}
use Rattle.book.specs.Shelves.{backing}
use Rattle.all_laws.specs.Worlds.{World}
use Rattle.all_laws.specs.Calls.{Call, opens, enrols, offers, withdraws, applies, returns, deposits, pledges, releases, tens, examines, waits, elevens, pays_out, refunds, Calls, start, then}

-- both parts of a pair of earnings
abbrev pub both_parts : ℕ × ℕ → ℕ
both_parts p = p.0 + p.1

-- earned: both parts that are still unpaid, over all offers
abbrev pub earned : Table → ℕ
earned t = below (length t.offers) (λ k. both_parts (unpaid (offer_at t k)))

-- the statement's balance, and 0 at an empty place
abbrev pub balance_at : Table → ℕ → ℤ
balance_at t place = balance_of (account_at t place)

-- the sum over all account places
unfoldable pub all_places : (ℕ → ℕ) → ℕ
all_places f = below account_places f

-- What one call enters: cents at each account place, cents paid for offers, and notices.
pub record Entry : Type 0 where
  -- the cents given
  pub deposit : ℕ → ℕ
  -- what the account's pledges yield
  pub yield : ℕ → ℕ
  -- the fees charged to it
  pub fee : ℕ → ℕ
  -- what it is charged for a buy in
  pub cost : ℕ → ℕ
  -- the cents refunded to it
  pub refund : ℕ → ℕ
  -- both parts of the earnings that are paid
  pub paid : ℕ
  -- the notices that are given, found met, and bought in
  pub issued : ℕ
  pub met : ℕ
  pub bought : ℕ

abbrev pub nothing : ℕ → ℕ
nothing place = 0

-- so many cents at one place
abbrev pub only : ℕ → ℕ → ℕ → ℕ
only place cents k = cond (place == k) cents 0

abbrev pub no_entry : Entry
no_entry = record { deposit = nothing; yield = nothing; fee = nothing; cost = nothing; refund = nothing; paid = 0; issued = 0; met = 0; bought = 0 }

module _ {P Q : Type 0} (n : Numbers P) (m : Numbers Q) where
  abbrev pub entry : (w u : World P Q) → Call n m w u → Entry
  entry w u (opens b prices r d) = no_entry
  entry w u (enrols b account firm security r d) = no_entry
  entry w u (offers b place security units rate commission r d) = no_entry
  entry w u (withdraws b place (Ok p) d) =
      record { deposit = nothing; yield = nothing; fee = nothing; cost = nothing; refund = nothing; paid = both_parts p; issued = 0; met = 0; bought = 0 }
  entry w u (withdraws b place (Err e) d) = no_entry
  entry w u (applies b account units r d) = no_entry
  entry w u (returns b account units r d) = no_entry
  entry w u (deposits b account cents (Ok z) d) =
      record { deposit = only account cents; yield = nothing; fee = nothing; cost = nothing; refund = nothing; paid = 0; issued = 0; met = 0; bought = 0 }
  entry w u (deposits b account cents (Err e) d) = no_entry
  entry w u (pledges s account place p r d) = no_entry
  entry w u (releases s shelf place r d) = no_entry
  entry w u (tens b (Ok count) d) =
      record { deposit = nothing; yield = nothing; fee = nothing; cost = nothing; refund = nothing; paid = 0; issued = count; met = 0; bought = 0 }
  entry w u (tens b (Err e) d) = no_entry
  -- met: cover is at the target or above
  entry w u (examines b account (Ok found) d) =
      record {
        deposit = nothing;
        yield = nothing;
        fee = nothing;
        cost = nothing;
        refund = nothing;
        paid = 0;
        issued = 0;
        bought = 0;
        met = cond (int_lt (cover_at (backing n m w.shelves) w.book.ledger.table account) (pos (target_at w.book.ledger.table account))) 0 1;
      }
  entry w u (examines b account (Err e) d) = no_entry
  entry w u (waits b slip r d) = no_entry
  -- an account pays its share of what its security's offers earn
  entry w u (elevens b (Ok x) d) =
      record {
        deposit = nothing;
        yield = nothing;
        cost = nothing;
        refund = nothing;
        paid = 0;
        issued = 0;
        met = 0;
        bought = 0;
        fee = own_fee w.book.ledger.table.accounts w.book.ledger.table.offers;
      }
  entry w u (elevens b (Err e) d) = no_entry
  entry w u (pays_out b place (Ok p) d) =
      record { deposit = nothing; yield = nothing; fee = nothing; cost = nothing; refund = nothing; paid = both_parts p; issued = 0; met = 0; bought = 0 }
  entry w u (pays_out b place (Err e) d) = no_entry
  entry w u (refunds b s account (Ok cents) d) =
      record { deposit = nothing; yield = nothing; fee = nothing; cost = nothing; refund = only account cents; paid = 0; issued = 0; met = 0; bought = 0 }
  entry w u (refunds b s account (Err e) d) = no_entry

  -- a figure of the entries of a run, added up
  abbrev pub sum_over : (Entry → ℕ) → {w u : World P Q} → Calls n m w u → ℕ
  sum_over f start = 0
  sum_over f {u = u} (then t run call) = sum_over f run + f (entry t u call)
