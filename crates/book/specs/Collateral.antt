-- Pledges that go onto a shelf, and come off it.
use Rattle.std.specs.Prelude.{◌≡◌, ℕ, Bool, length, ℤ, is_some, Some, None, Ok, Err, Option, Result}
use Rattle.pledge.specs.Numbers.{Numbers}
use Rattle.shelf.specs.declared.lodging.Lodging.{Lodging}
use Rattle.shelf.specs.Places.{at}
use Rattle.lending.specs.declared.account.Account.{Account}
use Rattle.table.specs.declared.refusal.Refusal.{Refusal}
use Rattle.table.specs.declared.table.Table.{Table}
use Rattle.table.specs.Act.{Act, first, also}
use Rattle.table.specs.Tables.{account_at}
use Rattle.margin.specs.Margins.{cover_at}
use Rattle.margin.specs.Pledges.{pledge_causes, release_causes, target_causes, backed, expiry_in}
use Rattle.book.specs.declared.pledged.Pledged.{Pledged}
use Rattle.book.specs.declared.pledged.Pledged.TheVariants.{First, Second}
use Rattle.book.specs.Shelves.{Shelves, with_first, with_second, emptied, backing, lodging_on}

-- a pledge taken into its place for the account that is found, so that the shelf is `full`; or there is a cause why not
abbrev pub TakenIn : {S : Type 0} → Option Refusal → Option Account → S → S → S → Result Account Refusal → Type 0
TakenIn cause o before full after (Ok a) = (cause ≡ None) × (o ≡ Some a) × (after ≡ full)
TakenIn cause o before full after (Err e) = (cause ≡ Some e) × (after ≡ before)

module _ {P Q : Type 0} (n : Numbers P) (m : Numbers Q) where
  -- whether a pledge's place on its shelf is filled already
  abbrev pub filled : Shelves P Q → ℕ → Pledged P Q → Bool
  filled s place (First p) = is_some (at s.first place)
  filled s place (Second q) = is_some (at s.second place)

  abbrev pub expiry_of : Pledged P Q → ℕ
  expiry_of (First p) = n.expiry p
  expiry_of (Second q) = m.expiry q

  -- the shelves with a pledge put into its place, for an account
  abbrev pub lodged : Shelves P Q → ℕ → ℕ → Pledged P Q → Shelves P Q
  lodged s account place (First p) = with_first s place (Some (record { account = account; pledge = p }))
  lodged s account place (Second q) = with_second s place (Some (record { account = account; pledge = q }))

  -- pledge: the place holds the pledge, and the account's cover with it is answered
  abbrev pub pledge_act : Table → ℕ → ℕ → Pledged P Q → Act (Shelves P Q) ℤ
  pledge_act t account place p = record {
    cause = λ s. first (pledge_causes t (length s.first) (length s.second) account place (filled s place p) (expiry_of p));
    value = λ s. cover_at (backing n m (lodged s account place p)) t account;
    done = λ s. lodged s account place p;
  }

  -- what is lodged in a place today
  abbrev pub lodging_today : Table → Shelves P Q → ℕ → ℕ → Option Lodging
  lodging_today t s shelf place = lodging_on n m s t.day shelf place

  -- the cover of the account that is backed by what a place holds, without it
  abbrev pub cover_without : Table → Shelves P Q → ℕ → ℕ → ℤ
  cover_without t s shelf place = cover_at (backing n m (emptied s shelf place)) t (backed (lodging_today t s shelf place))

  -- release: the place is empty, and the cover that is left to the account is answered
  abbrev pub release_act : Table → ℕ → ℕ → Act (Shelves P Q) ℤ
  release_act t shelf place = record {
    cause = λ s.
        let l = lodging_today t s shelf place in
        also (first (release_causes t (length s.first) (length s.second) shelf place l))
        (first (target_causes t (account_at t (backed l)) (expiry_in l) (cover_without t s shelf place)));
    value = λ s. cover_without t s shelf place;
    done = λ s. emptied s shelf place;
  }
