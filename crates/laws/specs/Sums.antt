-- What the calls of a run add up to. Only accepted calls count.
use Rattle.std.specs.Prelude.{ℕ, ◌+◌, cond, List, [], ◌∷◌, ℤ, Ok, Err, Option, ◌==◌}
use Rattle.pledge.specs.Numbers.{Numbers}
use Rattle.sums.specs.Below.{below}
use Rattle.table.specs.declared.table.Table.{Table}
use Rattle.table.specs.Tables.{account_at}
use Rattle.lending.specs.Sound.{account_places}
use Rattle.table.specs.Accounts.{balance_of}
use Rattle.table.specs.Offers.{unpaid}
use Rattle.laws.specs.Worlds.{World}
use Rattle.laws.specs.Calls.{Call, opens, enrols, offers, withdraws, applies, returns, deposits, Calls, start, then}

-- both parts of a pair of earnings
abbrev pub both : ℕ × ℕ → ℕ
both p = p.0 + p.1

-- what f counts over the places of a list
abbrev pub over_places : {X : Type 0} → (Option X → ℕ) → List (Option X) → ℕ
over_places f [] = 0
over_places f (o ∷ os) = f o + over_places f os

-- earned: both parts that are still unpaid, over all offers
abbrev pub earned : Table → ℕ
earned t = over_places (λ o. both (unpaid o)) t.offers

-- the statement's balance, and 0 at an empty place
abbrev pub balance_at : Table → ℕ → ℤ
balance_at t place = balance_of (account_at t place)

-- the sum over all account places
unfoldable pub all_places : (ℕ → ℕ) → ℕ
all_places f = below account_places f

module _ {P Q : Type 0} (n : Numbers P) (m : Numbers Q) where
  -- the cents that a call puts on the account at a place
  abbrev pub deposited : ℕ → (w u : World P Q) → Call n m w u → ℕ
  deposited k w u (opens b prices r d) = 0
  deposited k w u (enrols b account firm security r d) = 0
  deposited k w u (offers b place security units rate commission r d) = 0
  deposited k w u (withdraws b place r d) = 0
  deposited k w u (applies b account units r d) = 0
  deposited k w u (returns b account units r d) = 0
  deposited k w u (deposits b account cents (Ok z) d) = cond (account == k) cents 0
  deposited k w u (deposits b account cents (Err e) d) = 0

  -- what the pledges of the account at a place yield in a call
  abbrev pub yielded : ℕ → (w u : World P Q) → Call n m w u → ℕ
  yielded k w u (opens b prices r d) = 0
  yielded k w u (enrols b account firm security r d) = 0
  yielded k w u (offers b place security units rate commission r d) = 0
  yielded k w u (withdraws b place r d) = 0
  yielded k w u (applies b account units r d) = 0
  yielded k w u (returns b account units r d) = 0
  yielded k w u (deposits b account cents r d) = 0

  -- the fees that a call charges to it
  abbrev pub charged : ℕ → (w u : World P Q) → Call n m w u → ℕ
  charged k w u (opens b prices r d) = 0
  charged k w u (enrols b account firm security r d) = 0
  charged k w u (offers b place security units rate commission r d) = 0
  charged k w u (withdraws b place r d) = 0
  charged k w u (applies b account units r d) = 0
  charged k w u (returns b account units r d) = 0
  charged k w u (deposits b account cents r d) = 0

  -- what a call costs it for a buy in
  abbrev pub cost : ℕ → (w u : World P Q) → Call n m w u → ℕ
  cost k w u (opens b prices r d) = 0
  cost k w u (enrols b account firm security r d) = 0
  cost k w u (offers b place security units rate commission r d) = 0
  cost k w u (withdraws b place r d) = 0
  cost k w u (applies b account units r d) = 0
  cost k w u (returns b account units r d) = 0
  cost k w u (deposits b account cents r d) = 0

  -- what a call refunds to it
  abbrev pub refunded : ℕ → (w u : World P Q) → Call n m w u → ℕ
  refunded k w u (opens b prices r d) = 0
  refunded k w u (enrols b account firm security r d) = 0
  refunded k w u (offers b place security units rate commission r d) = 0
  refunded k w u (withdraws b place r d) = 0
  refunded k w u (applies b account units r d) = 0
  refunded k w u (returns b account units r d) = 0
  refunded k w u (deposits b account cents r d) = 0

  -- both parts of the earnings that a call pays
  abbrev pub paid_by : (w u : World P Q) → Call n m w u → ℕ
  paid_by w u (opens b prices r d) = 0
  paid_by w u (enrols b account firm security r d) = 0
  paid_by w u (offers b place security units rate commission r d) = 0
  paid_by w u (withdraws b place (Ok p) d) = both p
  paid_by w u (withdraws b place (Err e) d) = 0
  paid_by w u (applies b account units r d) = 0
  paid_by w u (returns b account units r d) = 0
  paid_by w u (deposits b account cents r d) = 0

  -- the notices that a call gives
  abbrev pub issued_by : (w u : World P Q) → Call n m w u → ℕ
  issued_by w u (opens b prices r d) = 0
  issued_by w u (enrols b account firm security r d) = 0
  issued_by w u (offers b place security units rate commission r d) = 0
  issued_by w u (withdraws b place r d) = 0
  issued_by w u (applies b account units r d) = 0
  issued_by w u (returns b account units r d) = 0
  issued_by w u (deposits b account cents r d) = 0

  -- the notices that a call finds met
  abbrev pub met_by : (w u : World P Q) → Call n m w u → ℕ
  met_by w u (opens b prices r d) = 0
  met_by w u (enrols b account firm security r d) = 0
  met_by w u (offers b place security units rate commission r d) = 0
  met_by w u (withdraws b place r d) = 0
  met_by w u (applies b account units r d) = 0
  met_by w u (returns b account units r d) = 0
  met_by w u (deposits b account cents r d) = 0

  -- the buy ins that a call makes
  abbrev pub bought_by : (w u : World P Q) → Call n m w u → ℕ
  bought_by w u (opens b prices r d) = 0
  bought_by w u (enrols b account firm security r d) = 0
  bought_by w u (offers b place security units rate commission r d) = 0
  bought_by w u (withdraws b place r d) = 0
  bought_by w u (applies b account units r d) = 0
  bought_by w u (returns b account units r d) = 0
  bought_by w u (deposits b account cents r d) = 0

  -- the same over all calls of a run
  abbrev pub sum_over : ((w u : World P Q) → Call n m w u → ℕ) → {w u : World P Q} → Calls n m w u → ℕ
  sum_over f start = 0
  sum_over f {u = u} (then t run call) = sum_over f run + f t u call
