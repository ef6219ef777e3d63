-- What keeps a table sound.
use Rattle.std.proofs.Common.{◌≡◌, ℕ, zero, suc, ◌+◌, ◌-◌, ◌<◌, ◌≤◌, Bool, true, false, not, cond, List, get_or, replicate, is_some, ℤ, pos, ◌≤ℤ◌, Some, None, Option, sym, refl, ap, ◌∙◌, subst, arith, length-set}
use denote.Enum.Bare.{sameb}
use Rattle.std.proofs.lemmas.Int.{ints}
use Rattle.std.proofs.lemmas.Bool.{true≢false}
use Rattle.bits.proofs.Words.{bit_none}
use Rattle.lending.specs.declared.account.Account.{Account}
use Rattle.lending.specs.declared.offer.Offer.{Offer}
use Rattle.lending.specs.Measures.{top_units}
use Rattle.lending.specs.Eleven.{accounts_after, offers_after}
use Rattle.lending.proofs.After.{accounts_long, offers_long, accounts_taken, accounts_sound, offers_sound}
use Rattle.lending.specs.Sound.{SoundLoan, SoundBalance, SoundAccount, SoundAccounts, SoundTerms, SoundEarnings, SoundOffers, securities, top_balance}
use Rattle.table.specs.contracts.hour.Hour.{the_type}
use Rattle.table.specs.declared.hour.Hour.{Hour}
use Rattle.table.specs.declared.hour.Hour.TheVariants as hour
use Rattle.table.specs.declared.table.Table.{Table}
use Rattle.table.specs.Act.{first}
use Rattle.table.specs.Tables.{account_at, elevens, blank, calling, afternoon, taken, with_account, blank_table}
use Rattle.table.specs.Limits.{last_day}
use Rattle.table.specs.Sound.{Sound, Begun}
use Rattle.table.specs.Days.{all_priced, open_act}
use Rattle.table.specs.Accounts.{enrolled, with_owed, with_applied, with_balance}
use Rattle.table.specs.Elevens.{eleven_causes, struck}
use Rattle.table.proofs.Prices.{priced_at}
use Rattle.table.proofs.Slots.{each_put, still_taken, of_none}

cond_le : (b : Bool) (m n k : ℕ) → m ≤ k → n ≤ k → cond b m n ≤ k
cond_le true m n k p q = p
cond_le false m n k p q = q

module _ (t : Table) (s : Sound t) where
  -- a sound account put where there may be one
  pub account_kept : (i : ℕ) (o : Option Account) → ((a : Account) → o ≡ Some a → SoundAccount (elevens t) a) →
      (taken (account_at t i) ≡ true → taken o ≡ true) → Sound (with_account t i o)
  account_kept i o h still = record {
    dated = s.dated;
    sized = (simp length-set s.sized.0, s.sized.1);
    priced = s.priced;
    loans = each_put SoundLoan t.accounts i o (λ a e. (h a e).0) s.loans;
    balances = each_put (SoundBalance (elevens t)) t.accounts i o (λ a e. (h a e).1) s.balances;
    terms = s.terms;
    earnings = s.earnings;
    held = s.held;
    noticed = λ n b. still_taken t.accounts i o still n (s.noticed n b);
    idle = s.idle;
  }

pub enrolled_sound : (e firm security : ℕ) → security < securities → SoundAccount e (enrolled firm security)
enrolled_sound e firm security h = ((h, omega arith, omega arith), (omega (arith, ints), omega (arith, ints)))

pub applied_sound : (e : ℕ) (a : Account) (n : ℕ) → SoundAccount e a → a.barred ≡ false → a.owed + n ≤ top_units → SoundAccount e (with_applied n a)
applied_sound e a n s free h = ((s.0.0, h, omega (arith, ap (λ b. cond b (a.owed + n) 0) free)), s.1)

when_none : (b : Bool) (n m : ℕ) → m ≤ n → cond b n 0 ≤ 0 → cond b m 0 ≤ 0
when_none true n m h e = omega arith
when_none false n m h e = e

pub returned_sound : (e : ℕ) (a : Account) (n : ℕ) → SoundAccount e a → n ≤ a.owed → SoundAccount e (with_owed n a)
returned_sound e a n s h = ((s.0.0, omega (arith, s.0.1), when_none a.barred (a.owed + a.applied) (n + a.applied) (omega arith) s.0.2), s.1)

pub raised_sound : (e : ℕ) (a : Account) (z : ℤ) → SoundAccount e a → a.balance ≤ℤ z → z ≤ℤ pos top_balance → SoundAccount e (with_balance z a)
raised_sound e a z s up h = (s.0, (omega (arith, ints, s.1.0), h))

-- what holds after some elevens holds after more
balance_later : (e f : ℕ) (a : Account) → e ≤ f → SoundBalance e a → SoundBalance f a
balance_later e f a h s = (omega (arith, ints, s.0), s.1)

earnings_later : (e f : ℕ) (o : Offer) → e ≤ f → SoundEarnings e o → SoundEarnings f o
earnings_later e f o h s = omega (arith, s)

pub elevens_most : (t : Table) → elevens t ≤ t.day
elevens_most t = cond_le (afternoon t.hour) t.day (t.day - 1) t.day (omega arith) (omega arith)

not_calling : (h : Hour) → (h ≡ hour.Calling → ⊥) → calling h ≡ false
not_calling hour.Blank n = refl
not_calling hour.Morning n = refl
not_calling hour.Calling n = absurd (n refl)
not_calling hour.Afternoon n = refl

-- a day begins
pub opened_kept : (t : Table) → Sound t → (prices : List ℕ) → all_priced prices ≡ true → t.day < last_day → (t.hour ≡ hour.Calling → ⊥) → Sound ((open_act prices).done t)
opened_kept t s prices p d n =
    let later : elevens t ≤ t.day + 1 - 1 = omega (arith, elevens_most t) in
    record {
      dated = omega arith;
      sized = s.sized;
      priced = priced_at prices p;
      loans = s.loans;
      balances = λ k a e. balance_later (elevens t) (t.day + 1 - 1) a later (s.balances k a e);
      terms = s.terms;
      earnings = λ k o e. earnings_later (elevens t) (t.day + 1 - 1) o later (s.earnings k o e);
      held = s.held;
      noticed = s.noticed;
      idle = λ _. s.idle (not_calling t.hour n);
    }

-- a table that equals a sound one is sound
pub kept_as : (t u : Table) → u ≡ t → Sound t → Sound u
kept_as t u e s = subst Sound (sym e) s

none_at : {X : Type 0} (P : X → Type 0) (n k : ℕ) (x : X) → get_or (replicate n None) k None ≡ Some x → P x
none_at P zero k x e = of_none P x e
none_at P (suc n) zero x e = of_none P x e
none_at P (suc n) (suc k) x e = none_at P n k x e

none_priced : (n k : ℕ) → ◌≡◌ {A = ℕ} (get_or (replicate n 0) k 0) 0
none_priced zero k = refl
none_priced (suc n) zero = refl
none_priced (suc n) (suc k) = none_priced n k

-- a new table is sound
new_sound : Sound blank_table
new_sound = record {
  dated = omega arith;
  sized = (refl, refl);
  priced = λ k. omega (arith, none_priced 8 k);
  loans = λ k a e. none_at SoundLoan 64 k a e;
  balances = λ k a e. none_at (SoundBalance 0) 64 k a e;
  terms = λ k o e. none_at SoundTerms 256 k o e;
  earnings = λ k o e. none_at (SoundEarnings 0) 256 k o e;
  held = λ n h. h;
  noticed = λ n h. absurd (true≢false (sym h ∙ bit_none n));
  idle = λ _. refl;
}

-- by other words for no notice and no slip too
pub blank_sound : {notices slips : ℕ} → notices ≡ 0 → slips ≡ 0 →
    Sound (record { day = 0; hour = hour.Blank; prices = blank_table.prices; accounts = blank_table.accounts; offers = blank_table.offers; notices = notices; slips = slips })
blank_sound p q = rw (p, q) new_sound

pub blank_begun : Begun blank_table
blank_begun h = absurd (true≢false h)

-- a place is taken if it was, where something stands in it as before
taken_mapped : {X : Type 0} (o p : Option X) → is_some o ≡ is_some p → taken p ≡ true → taken o ≡ true
taken_mapped None None e h = h
taken_mapped None (Some x) e h = e
taken_mapped (Some x) p e h = refl

-- eleven strikes
pub struck_kept : (t : Table) → Sound t → Begun t → t.hour ≡ hour.Calling → t.notices ≡ 0 → Sound (struck t)
struck_kept t s b calls none =
    let begun : 1 ≤ t.day = b (ap blank calls) in
    let so_far : elevens t ≡ t.day - 1 = ap (λ (h : Hour). cond (afternoon h) t.day (t.day - 1)) calls in
    let one_more : elevens t + 1 ≡ t.day = omega arith in
    let loans : SoundAccounts (elevens t) t.accounts = λ k a e. (s.loans k a e, s.balances k a e) in
    let lenders : SoundOffers (elevens t) t.offers = λ k o e. (s.terms k o e, s.earnings k o e) in
    let charged = subst (λ (n : ℕ). SoundAccounts n (accounts_after t.accounts t.offers)) one_more (accounts_sound t.accounts t.offers (elevens t) loans lenders) in
    let lent = subst (λ (n : ℕ). SoundOffers n (offers_after t.accounts t.offers)) one_more (offers_sound t.accounts t.offers (elevens t) lenders) in
    record {
      dated = s.dated;
      sized = (accounts_long t.accounts t.offers ∙ s.sized.0, offers_long t.accounts t.offers ∙ s.sized.1);
      priced = s.priced;
      loans = λ k a e. (charged k a e).0;
      balances = λ k a e. (charged k a e).1;
      terms = λ k o e. (lent k o e).0;
      earnings = λ k o e. (lent k o e).1;
      held = s.held;
      noticed = λ n m. taken_mapped _ _ (accounts_taken t.accounts t.offers n) (s.noticed n m);
      idle = λ _. none;
    }

-- an hour that a derived comparison tells from the calling hour by nothing
pub is_calling : (h : Hour) → false ≡ not (sameb the_type h hour.Calling) → h ≡ hour.Calling
is_calling hour.Blank e = absurd (true≢false (sym e))
is_calling hour.Morning e = absurd (true≢false (sym e))
is_calling hour.Calling e = refl
is_calling hour.Afternoon e = absurd (true≢false (sym e))

-- in the calling hour with no notice open eleven is not refused
pub strikes : (t : Table) → t.hour ≡ hour.Calling → t.notices ≡ 0 → first (eleven_causes t) ≡ None
strikes t calls none = rw (calls, none)

-- an afternoon's table with the accounts and offers after eleven
pub struck_is : (t : Table) (xs : List (Option Account)) (os : List (Option Offer)) → xs ≡ accounts_after t.accounts t.offers → os ≡ offers_after t.accounts t.offers →
    ◌≡◌ {A = Table} (record { day = t.day; hour = hour.Afternoon; prices = t.prices; accounts = xs; offers = os; notices = t.notices; slips = t.slips }) (struck t)
struck_is t xs os e f =
    ap (λ (ys : List (Option Account)). record { day = t.day; hour = hour.Afternoon; prices = t.prices; accounts = ys; offers = os; notices = t.notices; slips = t.slips }) e
    ∙ ap (λ (ps : List (Option Offer)). record { day = t.day; hour = hour.Afternoon; prices = t.prices; accounts = accounts_after t.accounts t.offers; offers = ps; notices = t.notices; slips = t.slips }) f
