-- What one call moves.
use Rattle.std.proofs.Common.{◌≡◌, ℕ, ◌+◌, ◌<◌, false, not, List, length, ℤ, pos, ◌+ℤ◌, Some, None, Ok, Err, Option, sym, refl, ap, ◌∙◌, arith}
use lib.Count.{ones}
use Rattle.std.specs.Option.{option_map}
use Rattle.std.proofs.lemmas.Int.{ints}
use Rattle.std.proofs.lemmas.Bool.{leb-false, not-false, or_parts, cond-true, cond-false}
use Rattle.pledge.specs.Numbers.{Numbers}
use Rattle.sums.specs.Below.{below}
use Rattle.sums.proofs.Sums.{below_none}
use Rattle.lending.specs.declared.account.Account.{Account}
use Rattle.lending.specs.declared.offer.Offer.{Offer}
use Rattle.table.specs.declared.table.Table.{Table}
use Rattle.table.specs.Elevens.{paid_out, pay_out_causes}
use Rattle.lending.specs.Eleven.{own_fee}
use Rattle.lending.proofs.After.{balance_less, unpaid_all}
use Rattle.lending.proofs.Totals.{fees_are}
use Rattle.table.specs.Tables.{elevens as so_far, account_at, offer_at, taken, with_account, with_offer}
use Rattle.lending.specs.Sound.{SoundAccounts, SoundOffers, account_places, offer_places}
use Rattle.table.specs.Accounts.{balance_of, with_owed, with_applied, with_balance, enrol_causes, deposit_causes}
use Rattle.table.specs.Offers.{unpaid, offered, offer_causes, withdraw_causes}
use Rattle.all_laws.specs.Worlds.{World}
use Rattle.all_laws.specs.Calls.{Call, opens, enrols, offers, withdraws, applies, returns, deposits, pledges, releases, tens, examines, waits, elevens, pays_out, refunds}
use Rattle.all_laws.specs.Entries.{Entry, no_entry, nothing, both_parts, earned, balance_at, all_places, entry}
use Rattle.table.proofs.Causes.{clear}
use Rattle.margin.specs.Notices.{ten_causes, examine_causes}
use Rattle.margin.specs.Refunds.{refund_causes}
use Rattle.bits.specs.Bit.{bit}
use Rattle.bits.proofs.Bits.{ones_without}
use Rattle.bits.proofs.Words.{ones_none}
use Rattle.book.specs.declared.examined.Examined.TheVariants.{Met, Short}
use Rattle.all_laws.proofs.Measured.{credit, in_morning, reached, missed}
use Rattle.all_laws.proofs.Places.{unseen, raised, lowered, resummed}

-- between two tables: what comes onto a balance and off it, what is earned and paid, and the notices
pub record Moves (s t : Table) (e : Entry) : Type 0 where
  pub sum : (k : ℕ) → (balance_at t k +ℤ pos (e.fee k + e.cost k + e.refund k)) ≡ (balance_at s k +ℤ pos (e.deposit k + e.yield k))
  pub earnings : all_places e.fee + earned s ≡ e.paid + earned t
  pub count : e.issued + ones s.notices ≡ e.met + e.bought + ones t.notices

pub none_charged : (f : ℕ → ℕ) → ((k : ℕ) → f k ≡ 0) → all_places f ≡ 0
unfolding all_places
none_charged f h = below_none account_places f (λ k _. h k)

-- what is charged at each place of a list is charged at all account places
all_charged : {X : Type 0} (f : ℕ → ℕ) (xs : List X) → length xs ≡ account_places → all_places f ≡ below (length xs) f
unfolding all_places
all_charged f xs e = ap (λ n. below n f) (sym e)

none_unpaid : (o : Option Offer) → both_parts (unpaid (option_map paid_out o)) ≡ 0
none_unpaid None = refl
none_unpaid (Some o) = refl

-- nothing is moved
still : (s t : Table) → ((k : ℕ) → balance_at t k ≡ balance_at s k) → earned t ≡ earned s → t.notices ≡ s.notices →
    Moves s t no_entry
still s t b e n = record {
  sum = λ k. ap (λ z. z +ℤ pos 0) (b k);
  earnings = omega (arith, none_charged nothing (λ _. refl));
  count = omega (arith, ap ones n);
}

same : (s t : Table) → t ≡ s → Moves s t no_entry
same s t e = still s t (λ k. ap (λ x. balance_at x k) e) (ap earned e) (ap (λ x. x.notices) e)

-- a write of an account that leaves the balance at its place
pub balances_stay : (s t : Table) (i : ℕ) (o : Option Account) → t ≡ with_account s i o → balance_of o ≡ balance_at s i →
    Moves s t no_entry
balances_stay s t i o e b = still s t (λ k. ap (λ x. balance_at x k) e ∙ unseen balance_of s.accounts i o b k) (ap earned e) (ap (λ x. x.notices) e)

empty_balance : (o : Option Account) → taken o ≡ false → pos 0 ≡ balance_of o
empty_balance None e = refl
empty_balance (Some a) e = let z : ◌≡◌ {A = ℕ} 0 1 = cc in absurd (omega arith)

applied_balance : (n : ℕ) (o : Option Account) → balance_of (option_map (with_applied n) o) ≡ balance_of o
applied_balance n None = refl
applied_balance n (Some a) = refl

owed_balance : (n : ℕ) (o : Option Account) → balance_of (option_map (with_owed n) o) ≡ balance_of o
owed_balance n None = refl
owed_balance n (Some a) = refl

set_balance : (z : ℤ) (o : Option Account) → not (taken o) ≡ false → balance_of (option_map (with_balance z) o) ≡ z
set_balance z None e = let q : ◌≡◌ {A = ℕ} 0 1 = cc in absurd (omega arith)
set_balance z (Some a) e = refl

empty_earned : (o : Option Offer) → taken o ≡ false → both_parts (unpaid o) ≡ 0
empty_earned None e = refl
empty_earned (Some x) e = let z : ◌≡◌ {A = ℕ} 0 1 = cc in absurd (omega arith)

module _ {P Q : Type 0} (n : Numbers P) (m : Numbers Q) where
  pub moved : (w u : World P Q) (call : Call n m w u) → Moves w.book.ledger.table u.book.ledger.table (entry n m w u call)
  moved w u (opens b prices (Ok x) d) = still _ _ (λ k. ap (λ t. balance_at t k) d.2) (ap earned d.2) (ap (λ t. t.notices) d.2)
  moved w u (opens b prices (Err e) d) = same _ _ d.1
  moved w u (enrols b account firm security (Ok x) d) =
      let s : Table = w.book.ledger.table in
      let ok = clear (enrol_causes account firm security s) d.0 in
      balances_stay s b.ledger.table account _ d.2 (empty_balance (account_at s account) ok.1.1.1.0)
  moved w u (enrols b account firm security (Err e) d) = same _ _ d.1
  moved w u (offers b place security units rate commission (Ok x) d) =
      let s : Table = w.book.ledger.table in
      let ok = clear (offer_causes place security units rate commission s) d.0 in
      let within : place < length s.offers = omega (arith, w.book.ledger.sound.sized.1, leb-false offer_places place (or_parts _ _ ok.0).0) in
      let new : Option Offer = Some (offered security units rate commission) in
      let none-earned : earned (with_offer s place new) ≡ earned s = omega (arith, resummed (λ o. both_parts (unpaid o)) s.offers place new within, empty_earned (offer_at s place) ok.1.1.1.0) in
      still s b.ledger.table (λ k. ap (λ t. balance_at t k) d.2) (ap earned d.2 ∙ none-earned) (ap (λ t. t.notices) d.2)
  moved w u (offers b place security units rate commission (Err e) d) = same _ _ d.1
  moved w u (withdraws b place (Ok p) d) =
      let s : Table = w.book.ledger.table in
      let within : place < length s.offers = omega (arith, w.book.ledger.sound.sized.1, leb-false offer_places place (clear (withdraw_causes place s) d.0).0) in
      let less : earned (with_offer s place None) + both_parts (unpaid (offer_at s place)) ≡ earned s = omega (arith, resummed (λ o. both_parts (unpaid o)) s.offers place None within) in
      record {
        sum = λ k. ap (λ t. balance_at t k +ℤ pos 0) d.2;
        earnings = omega (arith, none_charged nothing (λ _. refl), less, ap both_parts d.1, ap earned d.2);
        count = omega (arith, ap (λ t. ones t.notices) d.2);
      }
  moved w u (withdraws b place (Err e) d) = same _ _ d.1
  moved w u (applies b account units (Ok x) d) = balances_stay w.book.ledger.table b.ledger.table account _ d.2 (applied_balance _ (account_at w.book.ledger.table account))
  moved w u (applies b account units (Err e) d) = same _ _ d.1
  moved w u (returns b account units (Ok x) d) = balances_stay w.book.ledger.table b.ledger.table account _ d.2 (owed_balance _ (account_at w.book.ledger.table account))
  moved w u (returns b account units (Err e) d) = same _ _ d.1
  moved w u (deposits b account cents (Ok z) d) =
      let s : Table = w.book.ledger.table in
      let ok = clear (deposit_causes account cents s) d.0 in
      let within : account < length s.accounts = omega (arith, w.book.ledger.sound.sized.0, leb-false account_places account ok.0) in
      record {
        sum = λ k.
            let up = ap (λ t. balance_at t k) d.2 ∙ raised s.accounts account cents _ within (set_balance _ (account_at s account) ok.1.1.1.0) k in
            omega (arith, ints, up);
        earnings = omega (arith, none_charged nothing (λ _. refl), ap earned d.2);
        count = omega (arith, ap (λ t. ones t.notices) d.2);
      }
  moved w u (deposits b account cents (Err e) d) = same _ _ d.1
  moved w u (pledges s account place p r d) = same _ _ refl
  moved w u (releases s shelf place r d) = same _ _ refl
  moved w u (tens b (Ok given) d) =
      let s : Table = w.book.ledger.table in
      let none : s.notices ≡ 0 = w.book.ledger.sound.idle (in_morning s.hour (clear (ten_causes (length w.shelves.first) (length w.shelves.second) s) d.0).1.0) in
      record {
        sum = λ k. ap (λ t. balance_at t k +ℤ pos 0) d.2;
        earnings = omega (arith, none_charged nothing (λ _. refl), ap earned d.2);
        count = omega (arith, d.1, ap ones none, ones_none, ap (λ t. ones t.notices) d.2);
      }
  moved w u (tens b (Err e) d) = same _ _ d.1
  moved w u (examines b account (Ok Met) d) =
      let s : Table = w.book.ledger.table in
      let ok = clear (examine_causes (length w.shelves.first) (length w.shelves.second) account s) d.0 in
      let noticed = not-false (bit s.notices account) (or_parts _ _ ok.1.1.1.0).0 in
      let at_Target = cond-false {A = ℕ} _ 0 1 (reached _ _ d.1) in
      record {
        sum = λ k. ap (λ t. balance_at t k +ℤ pos 0) d.2;
        earnings = omega (arith, none_charged nothing (λ _. refl), ap earned d.2);
        count = omega (arith, at_Target, ones_without s.notices account noticed, ap (λ t. ones t.notices) d.2);
      }
  moved w u (examines b account (Ok (Short lack slip)) d) =
      let below-target = cond-true {A = ℕ} _ 0 1 (missed _ _ d.1.0) in
      record {
        sum = λ k. ap (λ t. balance_at t k +ℤ pos 0) d.3;
        earnings = omega (arith, none_charged nothing (λ _. refl), ap earned d.3);
        count = omega (arith, below-target, ap (λ t. ones t.notices) d.3);
      }
  moved w u (examines b account (Err e) d) = same _ _ d.1
  moved w u (waits b slip (Ok x) d) = still _ _ (λ k. ap (λ t. balance_at t k) d.2) (ap earned d.2) (ap (λ t. t.notices) d.2)
  moved w u (waits b slip (Err e) d) = same _ _ d.1
  moved w u (elevens b (Ok x) d) =
      let s : Table = w.book.ledger.table in
      let lenders : SoundOffers (so_far s) s.offers = λ k o e. (w.book.ledger.sound.terms k o e, w.book.ledger.sound.earnings k o e) in
      let loans : SoundAccounts (so_far s) s.accounts = λ k a e. (w.book.ledger.sound.loans k a e, w.book.ledger.sound.balances k a e) in
      record {
        sum = λ k.
            let less = ap (λ t. balance_at t k) d.2 ∙ balance_less s.accounts s.offers balance_of refl (λ _. refl) k in
            omega (arith, ints, less);
        earnings =
            let more = ap earned d.2 ∙ unpaid_all s.accounts s.offers (λ o. both_parts (unpaid o)) refl (λ _. refl) (so_far s) lenders in
            omega (arith, more, all_charged (own_fee s.accounts s.offers) s.accounts w.book.ledger.sound.sized.0, fees_are s.accounts s.offers (so_far s) loans);
        count = omega (arith, ap (λ t. ones t.notices) d.2);
      }
  moved w u (elevens b (Err e) d) = same _ _ d.1
  moved w u (pays_out b place (Ok p) d) =
      let s : Table = w.book.ledger.table in
      let within : place < length s.offers = omega (arith, w.book.ledger.sound.sized.1, leb-false offer_places place (clear (pay_out_causes place s) d.0).0) in
      let less = resummed (λ o. both_parts (unpaid o)) s.offers place (option_map paid_out (offer_at s place)) within in
      record {
        sum = λ k. ap (λ t. balance_at t k +ℤ pos 0) d.2;
        earnings = omega (arith, none_charged nothing (λ _. refl), less, none_unpaid (offer_at s place), ap both_parts d.1, ap earned d.2);
        count = omega (arith, ap (λ t. ones t.notices) d.2);
      }
  moved w u (pays_out b place (Err e) d) = same _ _ d.1
  moved w u (refunds b s account (Ok cents) d) =
      let t : Table = w.book.ledger.table in
      let after : b.ledger.table ≡ with_account t account None = ap (λ z. z.table) d.2 in
      let ok = clear (refund_causes (length w.shelves.first) (length w.shelves.second) account t) d.0 in
      let within : account < length t.accounts = omega (arith, w.book.ledger.sound.sized.0, leb-false account_places account (or_parts _ _ ok.0).1) in
      let paid : (pos 0 +ℤ pos cents) ≡ balance_at t account = ap (λ (c : ℕ). pos 0 +ℤ pos c) d.1 ∙ credit (balance_at t account) (or_parts _ _ ok.1.1.1.0).1 in
      record {
        sum = λ k. omega (arith, ints, ap (λ (x : Table). balance_at x k) after, lowered t.accounts account cents None within paid k);
        earnings = omega (arith, none_charged nothing (λ _. refl), ap earned after);
        count = omega (arith, ap (λ (x : Table). ones x.notices) after);
      }
  moved w u (refunds b s account (Err e) d) = same _ _ (ap (λ z. z.table) d.1)
