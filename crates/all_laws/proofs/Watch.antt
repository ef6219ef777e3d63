-- In the calling hour every account that is short has an open notice: what each call does to that.
use Rattle.std.proofs.Common.{◌≡◌, ℕ, zero, suc, ◌<◌, ◌≤◌, true, false, ◌&&◌, List, [], ◌∷◌, get_or, set, pos, ◌+ℤ◌, ◌≤ℤ◌, Some, None, Option, sym, refl, ◌∙◌, subst, inl, inr, arith}
use Rattle.std.specs.Option.{option_map}
use Rattle.std.proofs.lemmas.Int.{ints}
use Rattle.std.proofs.lemmas.Bool.{true≢false, cases_eq, and_parts, and_from}
use Rattle.bits.specs.Bit.{bit}
use Rattle.bits.proofs.Bits.{bit_without_other}
use Rattle.bits.proofs.Words.{bit_word}
use Rattle.lending.specs.declared.account.Account.{Account}
use Rattle.table.specs.declared.table.Table.{Table}
use Rattle.lending.specs.Sound.{account_places}
use Rattle.table.specs.Tables.{account_at, calling, with_account}
use Rattle.table.specs.Accounts.{balance_of, with_balance}
use Rattle.margin.specs.Backing.{Backing}
use Rattle.margin.specs.Margins.{cover_at, target_at, short, short_at}
use Rattle.margin.specs.Notices.{called, examined, short_word}
use Rattle.all_laws.proofs.Measured.{not_short, short_with_less}

abbrev pub Watched : Backing → Table → Type 0
Watched b t = (k : ℕ) → k < account_places → (calling t.hour && short_at b t k) ≡ true → bit t.notices k ≡ true

-- outside the calling hour there is nothing to watch
pub unwatched : (b : Backing) (t : Table) → calling t.hour ≡ false → Watched b t
unwatched b t h k l s = absurd (true≢false (sym (and_parts (calling t.hour) (short_at b t k) s).0 ∙ h))

-- what is watched stays so where no account becomes short
pub watched_still : (b c : Backing) (t : Table) → Watched b t → ((k : ℕ) → k < account_places → short_at c t k ≡ true → short_at b t k ≡ true) → Watched c t
watched_still b c t before h k l s =
    let parts = and_parts (calling t.hour) (short_at c t k) s in
    before k l (and_from (calling t.hour) (short_at b t k) parts.0 (h k l parts.1))

-- what holds of each place holds still where one place is written
each_place : {X : Type 0} (P : ℕ → Option X → Type 0) (xs : List (Option X)) (i : ℕ) (o : Option X) → P i o →
    ((k : ℕ) → P k (get_or xs k None)) → (k : ℕ) → P k (get_or (set xs i o) k None)
each_place P [] i o p h k = h k
each_place P (y ∷ ys) zero o p h zero = p
each_place P (y ∷ ys) zero o p h (suc k) = h (suc k)
each_place P (y ∷ ys) (suc i) o p h zero = h zero
each_place P (y ∷ ys) (suc i) o p h (suc k) = each_place (λ j. P (suc j)) ys i o p (λ j. h (suc j)) k

-- a deposit leaves no account short that was not
richer : (t : Table) (o : Option Account) (pledged cents : ℕ) → short t (option_map (with_balance (balance_of o +ℤ pos cents)) o) pledged ≡ true → short t o pledged ≡ true
richer t None pledged cents s = s
richer t (Some a) pledged cents s = short_with_less t (Some a) (Some (with_balance (a.balance +ℤ pos cents) a)) pledged pledged refl refl (omega (arith, ints)) s

pub deposit_watched : (b : Backing) (t : Table) (account cents : ℕ) → Watched b t →
    Watched b (with_account t account (option_map (with_balance (balance_of (account_at t account) +ℤ pos cents)) (account_at t account)))
deposit_watched b t account cents before =
    each_place (λ k o. k < account_places → (calling t.hour && short t o (b.covers k t.day)) ≡ true → bit t.notices k ≡ true)
    t.accounts account _
    (λ l s.
    let parts = and_parts (calling t.hour) (short t (option_map (with_balance (balance_of (account_at t account) +ℤ pos cents)) (account_at t account)) (b.covers account t.day)) s in
    before account l (and_from (calling t.hour) (short_at b t account) parts.0 (richer t (account_at t account) (b.covers account t.day) cents parts.1)))
    before

-- at ten every account that is short gets a notice
pub ten_watched : (b : Backing) (t : Table) → Watched b (called t (short_word b t))
ten_watched b t k l s = bit_word (λ place. short t (account_at t place) (b.covers place t.day)) account_places k l ∙ s

-- a notice that is met is closed, and its account is not short
pub met_watched : (b : Backing) (t : Table) (account : ℕ) → pos (target_at t account) ≤ℤ cover_at b t account → Watched b t → Watched b (examined t account None)
met_watched b t account reached before k l s =
    elim (cases_eq account k) [
      | inl e ↦
          let short-here = subst (λ (j : ℕ). short_at b t j ≡ true) (sym e) (and_parts (calling t.hour) (short_at b t k) s).1 in
          absurd (not_short t (account_at t account) (b.covers account t.day) reached short-here)
      | inr ne ↦ bit_without_other t.notices account k ne ∙ before k l s
    ]

-- shelves that cover at least as much leave no account short that was not
pub covers_watched : (b c : Backing) (t : Table) → ((k : ℕ) → b.covers k t.day ≤ c.covers k t.day) → Watched b t → Watched c t
covers_watched b c t more before =
    watched_still b c t before (λ k l s. short_with_less t (account_at t k) (account_at t k) (b.covers k t.day) (c.covers k t.day) refl refl (omega (arith, ints, more k)) s)
