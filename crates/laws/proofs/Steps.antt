-- What one call moves.
use Rattle.std.proofs.Common.{◌≡◌, ℕ, ◌+◌, ◌<◌, false, not, length, ℤ, pos, ◌+ℤ◌, Some, None, Ok, Err, Option, refl, ap, ◌∙◌, arith}
use lib.Count.{ones}
use Rattle.std.specs.Option.{option_map}
use Rattle.std.proofs.lemmas.Int.{ints}
use Rattle.std.proofs.lemmas.Bool.{leb-false, or_parts}
use Rattle.pledge.specs.Numbers.{Numbers}
use Rattle.sums.proofs.Sums.{below_none}
use Rattle.lending.specs.declared.account.Account.{Account}
use Rattle.lending.specs.declared.offer.Offer.{Offer}
use Rattle.table.specs.declared.table.Table.{Table}
use Rattle.table.specs.Tables.{account_at, offer_at, taken, with_account, with_offer}
use Rattle.lending.specs.Sound.{account_places, offer_places}
use Rattle.table.specs.Accounts.{balance_of, with_owed, with_applied, with_balance, enrol_causes, deposit_causes}
use Rattle.table.specs.Offers.{unpaid, offered, offer_causes, withdraw_causes}
use Rattle.laws.specs.Worlds.{World}
use Rattle.laws.specs.Calls.{Call, opens, enrols, offers, withdraws, applies, returns, deposits}
use Rattle.laws.specs.Sums.{both, earned, balance_at, all_places, deposited, yielded, charged, cost, refunded, paid_by, issued_by, met_by, bought_by}
use Rattle.table.proofs.Causes.{clear}
use Rattle.laws.proofs.Places.{unseen, raised, resummed}

-- between two tables: what comes onto a balance and off it, what is earned and paid, and the notices
pub record Moves (s t : Table) (dep yie chg cos ref : ℕ → ℕ) (pay iss met bou : ℕ) : Type 0 where
  pub sum : (k : ℕ) → (balance_at t k +ℤ pos (chg k + cos k + ref k)) ≡ (balance_at s k +ℤ pos (dep k + yie k))
  pub earnings : all_places chg + earned s ≡ pay + earned t
  pub count : iss + ones s.notices ≡ met + bou + ones t.notices

pub none_charged : (f : ℕ → ℕ) → ((k : ℕ) → f k ≡ 0) → all_places f ≡ 0
unfolding all_places
none_charged f h = below_none account_places f (λ k _. h k)

-- nothing is moved
still : (s t : Table) → ((k : ℕ) → balance_at t k ≡ balance_at s k) → earned t ≡ earned s → t.notices ≡ s.notices →
    Moves s t (λ _. 0) (λ _. 0) (λ _. 0) (λ _. 0) (λ _. 0) 0 0 0 0
still s t b e n = record {
  sum = λ k. ap (λ z. z +ℤ pos 0) (b k);
  earnings = omega (arith, none_charged (λ _. 0) (λ _. refl));
  count = omega (arith, ap ones n);
}

same : (s t : Table) → t ≡ s → Moves s t (λ _. 0) (λ _. 0) (λ _. 0) (λ _. 0) (λ _. 0) 0 0 0 0
same s t e = still s t (λ k. ap (λ x. balance_at x k) e) (ap earned e) (ap (λ x. x.notices) e)

-- a write of an account that leaves the balance at its place
pub balances_stay : (s t : Table) (i : ℕ) (o : Option Account) → t ≡ with_account s i o → balance_of o ≡ balance_at s i →
    Moves s t (λ _. 0) (λ _. 0) (λ _. 0) (λ _. 0) (λ _. 0) 0 0 0 0
balances_stay s t i o e b = still s t (λ k. ap (λ x. balance_at x k) e ∙ unseen balance_of s.accounts i o b k) (ap earned e) (ap (λ x. x.notices) e)

empty_balance : (o : Option Account) → taken o ≡ false → pos 0 ≡ balance_of o
empty_balance None e = refl
empty_balance (Some a) e = let z : ◌≡◌ {A = ℕ} 0 1 = cc in absurd (omega arith)

applied_balance : (n : ℕ) (o : Option Account) → balance_of (option_map (with_applied n) o) ≡ balance_of o
applied_balance n None = refl
applied_balance n (Some a) = refl

owed_balance : (n : ℕ) (o : Option Account) → balance_of (option_map (with_owed n) o) ≡ balance_of o
owed_balance n None = refl
owed_balance n (Some a) = refl

set_balance : (z : ℤ) (o : Option Account) → not (taken o) ≡ false → balance_of (option_map (with_balance z) o) ≡ z
set_balance z None e = let q : ◌≡◌ {A = ℕ} 0 1 = cc in absurd (omega arith)
set_balance z (Some a) e = refl

empty_earned : (o : Option Offer) → taken o ≡ false → both (unpaid o) ≡ 0
empty_earned None e = refl
empty_earned (Some x) e = let z : ◌≡◌ {A = ℕ} 0 1 = cc in absurd (omega arith)

module _ {P Q : Type 0} (n : Numbers P) (m : Numbers Q) where
  abbrev pub Moved : (w u : World P Q) → Call n m w u → Type 0
  Moved w u call = Moves w.book.ledger.table u.book.ledger.table
      (λ k. deposited n m k w u call) (λ k. yielded n m k w u call) (λ k. charged n m k w u call) (λ k. cost n m k w u call) (λ k. refunded n m k w u call)
      (paid_by n m w u call) (issued_by n m w u call) (met_by n m w u call) (bought_by n m w u call)

  pub moved : (w u : World P Q) (call : Call n m w u) → Moved w u call
  moved w u (opens b prices (Ok x) d) = still _ _ (λ k. ap (λ t. balance_at t k) d.2) (ap earned d.2) (ap (λ t. t.notices) d.2)
  moved w u (opens b prices (Err e) d) = same _ _ d.1
  moved w u (enrols b account firm security (Ok x) d) =
      let s : Table = w.book.ledger.table in
      let ok = clear (enrol_causes account firm security s) d.0 in
      balances_stay s b.ledger.table account _ d.2 (empty_balance (account_at s account) ok.1.1.1.0)
  moved w u (enrols b account firm security (Err e) d) = same _ _ d.1
  moved w u (offers b place security units rate commission (Ok x) d) =
      let s : Table = w.book.ledger.table in
      let ok = clear (offer_causes place security units rate commission s) d.0 in
      let within : place < length s.offers = omega (arith, w.book.ledger.sound.sized.1, leb-false offer_places place (or_parts _ _ ok.0).0) in
      let new : Option Offer = Some (offered security units rate commission) in
      let none-earned : earned (with_offer s place new) ≡ earned s = omega (arith, resummed (λ o. both (unpaid o)) s.offers place new within, empty_earned (offer_at s place) ok.1.1.1.0) in
      still s b.ledger.table (λ k. ap (λ t. balance_at t k) d.2) (ap earned d.2 ∙ none-earned) (ap (λ t. t.notices) d.2)
  moved w u (offers b place security units rate commission (Err e) d) = same _ _ d.1
  moved w u (withdraws b place (Ok p) d) =
      let s : Table = w.book.ledger.table in
      let within : place < length s.offers = omega (arith, w.book.ledger.sound.sized.1, leb-false offer_places place (clear (withdraw_causes place s) d.0).0) in
      let less : earned (with_offer s place None) + both (unpaid (offer_at s place)) ≡ earned s = omega (arith, resummed (λ o. both (unpaid o)) s.offers place None within) in
      record {
        sum = λ k. ap (λ t. balance_at t k +ℤ pos 0) d.2;
        earnings = omega (arith, none_charged (λ _. 0) (λ _. refl), less, ap both d.1, ap earned d.2);
        count = omega (arith, ap (λ t. ones t.notices) d.2);
      }
  moved w u (withdraws b place (Err e) d) = same _ _ d.1
  moved w u (applies b account units (Ok x) d) = balances_stay w.book.ledger.table b.ledger.table account _ d.2 (applied_balance _ (account_at w.book.ledger.table account))
  moved w u (applies b account units (Err e) d) = same _ _ d.1
  moved w u (returns b account units (Ok x) d) = balances_stay w.book.ledger.table b.ledger.table account _ d.2 (owed_balance _ (account_at w.book.ledger.table account))
  moved w u (returns b account units (Err e) d) = same _ _ d.1
  moved w u (deposits b account cents (Ok z) d) =
      let s : Table = w.book.ledger.table in
      let ok = clear (deposit_causes account cents s) d.0 in
      let within : account < length s.accounts = omega (arith, w.book.ledger.sound.sized.0, leb-false account_places account ok.0) in
      record {
        sum = λ k.
            let up = ap (λ t. balance_at t k) d.2 ∙ raised s.accounts account cents _ within (set_balance _ (account_at s account) ok.1.1.1.0) k in
            omega (arith, ints, up);
        earnings = omega (arith, none_charged (λ _. 0) (λ _. refl), ap earned d.2);
        count = omega (arith, ap (λ t. ones t.notices) d.2);
      }
  moved w u (deposits b account cents (Err e) d) = same _ _ d.1
