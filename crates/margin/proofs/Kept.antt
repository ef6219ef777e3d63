-- What keeps a table sound where notices are given and closed, and slips are out and taken back.
use Rattle.std.proofs.Common.{◌≡◌, ℕ, ◌+◌, ◌*◌, ◌≤◌, Bool, true, false, set, ℤ, pos, negsuc, ◌≤ℤ◌, Some, None, Option, sym, refl, ap, ◌∙◌, subst, inl, inr, arith, length-set}
use Rattle.std.proofs.lemmas.Bool.{true≢false, both_ways, cond-true, cond-false}
use Rattle.std.proofs.lemmas.Int.{ints, by_lt_z}
use Rattle.std.specs.Option.{option_map}
use Rattle.bits.specs.Bit.{bit, with_bit, without_bit}
use Rattle.bits.proofs.Bits.{bit_without_same, bit_without_other, set_before, set_by, none_without}
use Rattle.bits.proofs.Words.{bit_none, word_holds}
use Rattle.lending.specs.declared.account.Account.{Account}
use Rattle.lending.specs.Sound.{SoundLoan, SoundBalance, SoundAccount, SoundEarnings, account_places, lowest, top_balance, top_cost}
use Rattle.shelf.specs.Limits.{top_cover}
use Rattle.table.specs.declared.hour.Hour.TheVariants.{Morning}
use Rattle.table.specs.declared.table.Table.{Table}
use Rattle.table.specs.Tables.{account_at, calling, elevens, taken, with_account}
use Rattle.table.specs.Sound.{Sound}
use Rattle.table.proofs.Slots.{each_put, of_some, of_none}
use Rattle.table.proofs.Kept.{account_kept}
use Rattle.margin.specs.declared.purchase.Purchase.{Purchase}
use Rattle.margin.specs.BuyIns.{Settles, bought, bought_in, closed_with, passes, settled}
use Rattle.margin.specs.Margins.{short}
use Rattle.margin.specs.Notices.{with_notices, with_slips, called, short_among}

-- an account that is short is there
pub short_there : (t : Table) (o : Option Account) (pledged : ℕ) → short t o pledged ≡ true → taken o ≡ true
short_there t None pledged h = h
short_there t (Some a) pledged h = refl

-- where no notice is open no slip is out
pub none_out : (t : Table) → Sound t → t.notices ≡ 0 → (n : ℕ) → bit t.slips n ≡ true → ⊥
none_out t s none n out = both_ways (bit t.notices n) (ap (λ w. bit w n) none ∙ bit_none n) (s.held n out)

-- a cost that does not pass the balance leaves nothing lacking
passes_none : (balance : ℤ) (cost : ℕ) → pos cost ≤ℤ balance → passes balance cost ≡ 0
passes_none (pos b) cost h = omega (arith, ints)
passes_none (negsuc b) cost h = absurd (omega (arith, ints))

-- the balance of an account that is bought in stays within its bounds
settled_sound : (e : ℕ) (p : Purchase) (yields : ℕ) → SoundAccount e p.account → (p.account.owed ≡ 0 → p.cost ≡ 0) → p.cost ≤ top_cost →
    p.lack ≡ passes p.account.balance p.cost → (p.lack ≡ 0 → yields ≡ 0) → yields ≤ 2 * top_cover →
    SoundAccount e (bought p.cost yields p.account)
settled_sound e p yields sound free most lack none few = ((sound.0.0, omega arith, omega arith), (low p.account.barred refl, high))
  where
    a : Account
    a = p.account

    low : (b : Bool) → a.barred ≡ b → lowest e true ≤ℤ settled a.balance p.cost yields
    low true is =
        let no-units : a.owed ≡ 0 = omega (arith, sound.0.2, cond-true a.barred (a.owed + a.applied) 0 is) in
        let debt = cond-true a.barred top_cost 0 is in
        omega (arith, ints, free no-units, sound.1.0)
    low false is =
        let debt = cond-false a.barred top_cost 0 is in
        omega (arith, ints, sound.1.0)

    high : settled a.balance p.cost yields ≤ℤ pos top_balance
    high = by_lt_z a.balance (pos p.cost) (λ under. omega (arith, ints)) (λ over.
        let nothing : yields ≡ 0 = none (lack ∙ passes_none a.balance p.cost over) in
        omega (arith, ints, sound.1.1))

-- a table with another account at a place, and these words for its notices and slips
abbrev pub closed_with_words : Table → ℕ → Option Account → ℕ → ℕ → Table
closed_with_words t k o notices slips =
    record { day = t.day; hour = t.hour; prices = t.prices; accounts = set t.accounts k o; offers = t.offers; notices = notices; slips = slips }

pub closed_words : (t : Table) (k : ℕ) (o : Option Account) {notices slips : ℕ} → notices ≡ without_bit t.notices k → slips ≡ without_bit t.slips k →
    closed_with_words t k o notices slips ≡ closed_with t k o
closed_words t k o {notices} p q =
    ap (λ m. closed_with_words t k o notices m) q ∙ ap (λ m. closed_with_words t k o m (without_bit t.slips k)) p

module _ (t : Table) (s : Sound t) where
  pub called_kept : (covers : ℕ → ℕ) → t.hour ≡ Morning → Sound (called t (short_among t covers))
  called_kept covers morning =
      let f : ℕ → Bool = λ place. short t (account_at t place) (covers place) in
      let none : t.notices ≡ 0 = s.idle (ap calling morning) in
      let as_before : elevens t ≡ elevens (called t (short_among t covers)) = ap (λ h. elevens (record { day = t.day; hour = h; prices = t.prices; accounts = t.accounts; offers = t.offers; notices = t.notices; slips = t.slips })) morning in
      record {
        dated = s.dated;
        sized = s.sized;
        priced = s.priced;
        loans = s.loans;
        balances = λ k a e. subst (λ (n : ℕ). SoundBalance n a) as_before (s.balances k a e);
        terms = s.terms;
        earnings = λ k o e. subst (λ (n : ℕ). SoundEarnings n o) as_before (s.earnings k o e);
        held = λ n out. absurd (none_out t s none n out);
        noticed = λ n noticed. short_there t (account_at t n) (covers n) (word_holds f account_places n noticed);
        idle = λ not_calling. absurd (true≢false not_calling);
      }

  -- a notice is closed that no slip holds
  pub closed_kept : (i : ℕ) → bit t.slips i ≡ false → Sound (with_notices t (without_bit t.notices i))
  closed_kept i free = record {
    dated = s.dated;
    sized = s.sized;
    priced = s.priced;
    loans = s.loans;
    balances = s.balances;
    terms = s.terms;
    earnings = s.earnings;
    held = λ n out. bit_without_other t.notices i n (λ e. both_ways (bit t.slips n) (ap (bit t.slips) (sym e) ∙ free) out) ∙ s.held n out;
    noticed = λ n noticed. s.noticed n (set_before t.notices i n noticed);
    idle = λ not_calling. none_without t.notices i (s.idle not_calling);
  }

  -- other slips are out, each where a notice is open
  slips_kept : (word : ℕ) → ((n : ℕ) → bit word n ≡ true → bit t.notices n ≡ true) → Sound (with_slips t word)
  slips_kept word h = record {
    dated = s.dated;
    sized = s.sized;
    priced = s.priced;
    loans = s.loans;
    balances = s.balances;
    terms = s.terms;
    earnings = s.earnings;
    held = h;
    noticed = s.noticed;
    idle = s.idle;
  }

  pub out_kept : (i : ℕ) → bit t.notices i ≡ true → Sound (with_slips t (with_bit t.slips i))
  out_kept i noticed = slips_kept (with_bit t.slips i) (λ n out.
      elim (set_by t.slips i n out) [
        | inl e ↦ ap (bit t.notices) (sym e) ∙ noticed
        | inr before ↦ s.held n before
      ])

  pub back_kept : (i : ℕ) → Sound (with_slips t (without_bit t.slips i))
  back_kept i = slips_kept (without_bit t.slips i) (λ n out. s.held n (set_before t.slips i n out))

  -- an account is bought in
  pub bought_in_kept : (i : ℕ) (p : Purchase) (yields : ℕ) → Settles t i p yields → Sound (bought_in i p.cost yields t)
  bought_in_kept i p yields h =
      let after : Account = bought p.cost yields p.account in
      let slot : option_map (bought p.cost yields) (account_at t i) ≡ Some after = ap (option_map (bought p.cost yields)) h.is in
      let sound : SoundAccount (elevens t) after = settled_sound (elevens t) p yields h.sound h.cost_none h.cost_most h.lack_is h.yields_none h.yields_most in
      let put : Sound (with_account t i (Some after)) = account_kept t s i (Some after) (of_some (SoundAccount (elevens t)) after sound) (λ _. refl) in
      subst (λ (o : Option Account). Sound (closed_with t i o)) (sym slot)
      (record {
        dated = put.dated;
        sized = put.sized;
        priced = put.priced;
        loans = put.loans;
        balances = put.balances;
        terms = put.terms;
        earnings = put.earnings;
        held = λ n out.
            bit_without_other t.notices i n (λ e. both_ways (bit (without_bit t.slips i) n) (subst (λ (j : ℕ). bit (without_bit t.slips i) j ≡ false) e (bit_without_same t.slips i)) out)
            ∙ s.held n (set_before t.slips i n out);
        noticed = λ n noticed. put.noticed n (set_before t.notices i n noticed);
        idle = λ not_calling. none_without t.notices i (s.idle not_calling);
      })

  -- an account place is emptied outside the calling hour
  pub vacated_kept : (i : ℕ) → calling t.hour ≡ false → Sound (with_account t i None)
  vacated_kept i idle = record {
    dated = s.dated;
    sized = (length-set t.accounts i None ∙ s.sized.0, s.sized.1);
    priced = s.priced;
    loans = each_put SoundLoan t.accounts i None (of_none SoundLoan) s.loans;
    balances = each_put (SoundBalance (elevens t)) t.accounts i None (of_none (SoundBalance (elevens t))) s.balances;
    terms = s.terms;
    earnings = s.earnings;
    held = s.held;
    noticed = λ n noticed. absurd (both_ways (bit t.notices n) (ap (λ w. bit w n) (s.idle idle) ∙ bit_none n) noticed);
    idle = s.idle;
  }
