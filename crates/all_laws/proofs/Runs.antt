-- The laws, over every run.
use Rattle.std.proofs.Common.{◌≡◌, ℕ, zero, suc, ◌+◌, ◌<◌, true, false, eqb, ltb, ◌⊎◌, length, get_or, replicate, pos, ◌<ℤ◌, None, Ok, Err, Decides, sym, refl, ap, ◌∙◌, subst, inl, inr, arith}
use lib.Count.{ones}
use lib.Signed.{lt_z}
use Rattle.std.proofs.lemmas.Int.{ints}
use Rattle.std.proofs.lemmas.Bool.{true≢false, false≢true, cases_Bool, and_from, eqb-true, lt-ltb, not-false}
use Rattle.std.proofs.lemmas.Bool.Decides.{Decides-and, Decides-at, Decides-ltb}
use Rattle.pledge.specs.Numbers.{Numbers, Rules}
use Rattle.sums.proofs.Sums.{below_added}
use Rattle.bits.proofs.Words.{ones_none, bit_none, bit_word}
use Rattle.bits.specs.Bit.{bit}
use Rattle.table.specs.declared.table.Table.{Table}
use Rattle.table.specs.Tables.{account_at, calling}
use Rattle.lending.specs.Sound.{account_places}
use Rattle.table.specs.Accounts.{balance_of, enrol_causes, apply_causes, return_causes}
use Rattle.table.specs.Offers.{unpaid, offer_causes, withdraw_causes}
use Rattle.table.specs.Elevens.{eleven_causes, pay_out_causes}
use Rattle.table.proofs.Causes.{clear}
use Rattle.margin.specs.Backing.{Backing}
use Rattle.margin.specs.Margins.{cover_at, floor_at, units_of, short_at}
use Rattle.book.specs.declared.book.Book.{Book}
use Rattle.book.specs.declared.examined.Examined.{Examined}
use Rattle.book.specs.declared.examined.Examined.TheVariants.{Met, Short}
use Rattle.book.specs.Shelves.{Shelves, backing}
use Rattle.book.specs.States.{State}
use Rattle.margin.specs.Refunds.{refund_causes}
use Rattle.book.specs.Examinations.{Examination}
use Rattle.all_laws.specs.Worlds.{World, New}
use Rattle.all_laws.specs.Calls.{Call, opens, enrols, offers, withdraws, applies, returns, deposits, pledges, releases, tens, examines, waits, elevens, pays_out, refunds, Calls, start, then}
use Rattle.all_laws.specs.Entries.{nothing, both_parts, earned, balance_at, all_places, sum_over, entry}
use Rattle.all_laws.specs.Laws.{AddsUp, BookLaws, HasUnits, AtFloor, AtTarget, is_met}
use Rattle.all_laws.proofs.Measured.{in_morning, in_afternoon, missed, is_below, is_reached}
use Rattle.all_laws.proofs.Places.{none_counted}
use Rattle.all_laws.proofs.Shelved.{pledge_watched, release_watched}
use Rattle.all_laws.proofs.Steps.{none_charged, moved}
use Rattle.all_laws.proofs.Watch.{Watched, unwatched, deposit_watched, ten_watched, met_watched}

none_there : (n k : ℕ) → balance_of (get_or (replicate n None) k None) ≡ pos 0
none_there zero k = refl
none_there (suc n) zero = refl
none_there (suc n) (suc k) = none_there n k

added : (f g : ℕ → ℕ) → all_places (λ k. f k + g k) ≡ all_places f + all_places g
unfolding all_places
added f g = below_added account_places f g

-- the table after a call is watched if the one that it equals is
watched_as : (b : Backing) (t u : Table) → u ≡ t → Watched b t → Watched b u
watched_as b t u e = subst (Watched b) (sym e)

-- a call of another hour leaves nothing to watch
idle_watched : (b : Backing) (t u : Table) → u ≡ t → calling t.hour ≡ false → Watched b u
idle_watched b t u e idle = watched_as b t u e (unwatched b t idle)

module _ {P Q : Type 0} (n : Numbers P) (m : Numbers Q) where
  watched_step : Rules n → Rules m → (w u : World P Q) → Call n m w u →
      Watched (backing n m w.shelves) w.book.ledger.table → Watched (backing n m u.shelves) u.book.ledger.table
  watched_step rn rm w u (opens b prices (Ok x) d) before = idle_watched (backing n m w.shelves) _ _ d.2 refl
  watched_step rn rm w u (opens b prices (Err e) d) before = watched_as (backing n m w.shelves) _ _ d.1 before
  watched_step rn rm w u (enrols b account firm security (Ok x) d) before =
      idle_watched (backing n m w.shelves) _ _ d.2 (in_morning w.book.ledger.table.hour (clear (enrol_causes account firm security w.book.ledger.table) d.0).1.1.0)
  watched_step rn rm w u (enrols b account firm security (Err e) d) before = watched_as (backing n m w.shelves) _ _ d.1 before
  watched_step rn rm w u (offers b place security units rate commission (Ok x) d) before =
      idle_watched (backing n m w.shelves) _ _ d.2 (in_morning w.book.ledger.table.hour (clear (offer_causes place security units rate commission w.book.ledger.table) d.0).1.1.0)
  watched_step rn rm w u (offers b place security units rate commission (Err e) d) before = watched_as (backing n m w.shelves) _ _ d.1 before
  watched_step rn rm w u (withdraws b place (Ok x) d) before =
      idle_watched (backing n m w.shelves) _ _ d.2 (in_morning w.book.ledger.table.hour (clear (withdraw_causes place w.book.ledger.table) d.0).1.0)
  watched_step rn rm w u (withdraws b place (Err e) d) before = watched_as (backing n m w.shelves) _ _ d.1 before
  watched_step rn rm w u (applies b account units (Ok x) d) before =
      idle_watched (backing n m w.shelves) _ _ d.2 (in_morning w.book.ledger.table.hour (clear (apply_causes account units w.book.ledger.table) d.0).1.1.0)
  watched_step rn rm w u (applies b account units (Err e) d) before = watched_as (backing n m w.shelves) _ _ d.1 before
  watched_step rn rm w u (returns b account units (Ok x) d) before =
      idle_watched (backing n m w.shelves) _ _ d.2 (in_morning w.book.ledger.table.hour (clear (return_causes account units w.book.ledger.table) d.0).1.1.0)
  watched_step rn rm w u (returns b account units (Err e) d) before = watched_as (backing n m w.shelves) _ _ d.1 before
  watched_step rn rm w u (deposits b account cents (Ok z) d) before =
      watched_as (backing n m w.shelves) _ _ d.2 (deposit_watched (backing n m w.shelves) w.book.ledger.table account cents before)
  watched_step rn rm w u (deposits b account cents (Err e) d) before = watched_as (backing n m w.shelves) _ _ d.1 before
  watched_step rn rm w u (pledges s account place p (Ok z) d) before =
      subst (λ (x : Shelves P Q). Watched (backing n m x) w.book.ledger.table) (sym d.2) (pledge_watched n m w.book.ledger.table w.shelves account place p d.0 before)
  watched_step rn rm w u (pledges s account place p (Err e) d) before =
      subst (λ (x : Shelves P Q). Watched (backing n m x) w.book.ledger.table) (sym d.1) before
  watched_step rn rm w u (releases s shelf place (Ok z) d) before =
      subst (λ (x : Shelves P Q). Watched (backing n m x) w.book.ledger.table) (sym d.2) (release_watched n m w.book.ledger.table w.shelves rn rm shelf place d.0 before)
  watched_step rn rm w u (releases s shelf place (Err e) d) before =
      subst (λ (x : Shelves P Q). Watched (backing n m x) w.book.ledger.table) (sym d.1) before
  watched_step rn rm w u (tens b (Ok given) d) before = watched_as (backing n m w.shelves) _ _ d.2 (ten_watched (backing n m w.shelves) w.book.ledger.table)
  watched_step rn rm w u (tens b (Err e) d) before = watched_as (backing n m w.shelves) _ _ d.1 before
  watched_step rn rm w u (examines b account (Ok Met) d) before =
      watched_as (backing n m w.shelves) _ _ d.2 (met_watched (backing n m w.shelves) w.book.ledger.table account d.1 before)
  watched_step rn rm w u (examines b account (Ok (Short lack slip)) d) before = watched_as (backing n m w.shelves) _ _ d.3 before
  watched_step rn rm w u (examines b account (Err e) d) before = watched_as (backing n m w.shelves) _ _ d.1 before
  watched_step rn rm w u (waits b slip (Ok x) d) before = watched_as (backing n m w.shelves) _ _ d.2 before
  watched_step rn rm w u (waits b slip (Err e) d) before = watched_as (backing n m w.shelves) _ _ d.1 before
  watched_step rn rm w u (elevens b (Ok x) d) before = idle_watched (backing n m w.shelves) _ _ d.2 refl
  watched_step rn rm w u (elevens b (Err e) d) before = watched_as (backing n m w.shelves) _ _ d.1 before
  watched_step rn rm w u (pays_out b place (Ok x) d) before =
      idle_watched (backing n m w.shelves) _ _ d.2 (in_afternoon w.book.ledger.table.hour (clear (pay_out_causes place w.book.ledger.table) d.0).1.0)
  watched_step rn rm w u (pays_out b place (Err e) d) before = watched_as (backing n m w.shelves) _ _ d.1 before
  watched_step rn rm w u (refunds b s account (Ok x) d) before =
      idle_watched (backing n m s) _ _ (ap (λ z. z.table) d.2)
      (in_afternoon w.book.ledger.table.hour (clear (refund_causes (length w.shelves.first) (length w.shelves.second) account w.book.ledger.table) d.0).1.0)
  watched_step rn rm w u (refunds b s account (Err e) d) before =
      subst (λ (z : State P Q). Watched (backing n m z.shelves) z.table) (sym d.1) before

  watched_run : Rules n → Rules m → (w u : World P Q) → New w → Calls n m w u → Watched (backing n m u.shelves) u.book.ledger.table
  watched_run rn rm w u new start = unwatched (backing n m w.shelves) w.book.ledger.table (ap (λ t. calling t.hour) new.blank)
  watched_run rn rm w u new (then t run call) = watched_step rn rm t u call (watched_run rn rm w t new run)

  -- what is short has units and cover below the floor
  decides_short : (b : Backing) (t : Table) (k : ℕ) → Decides (short_at b t k) ((0 < units_of (account_at t k)) × (cover_at b t k <ℤ pos (floor_at t k)))
  decides_short b t k =
      Decides-and (ltb 0 (units_of (account_at t k))) (lt_z (cover_at b t k) (pos (floor_at t k))) (Decides-ltb 0 (units_of (account_at t k)))
      (is_below (cover_at b t k) (floor_at t k), missed (cover_at b t k) (floor_at t k))

  added_up : (w u : World P Q) → New w → (run : Calls n m w u) → AddsUp n m run
  added_up w u new start = record {
    sum = λ k _.
        let none : balance_at w.book.ledger.table k ≡ pos 0 = ap (λ t. balance_at t k) new.blank ∙ none_there 64 k in
        omega (arith, ints, none);
    earnings =
        let none : earned w.book.ledger.table ≡ 0 = none_counted (λ o. both_parts (unpaid o)) 256 w.book.ledger.table.offers (ap (λ t. t.offers) new.blank) refl in
        omega (arith, none, none_charged nothing (λ _. refl));
    count = omega (arith, ap (λ t. ones t.notices) new.blank, ones_none);
  }
  added_up w u new (then t run call) =
      let before = added_up w t new run in
      let step = moved n m t u call in
      record {
        sum = λ k h. omega (arith, ints, before.sum k h, step.sum k);
        earnings = omega (arith, before.earnings, step.earnings, added (λ k. sum_over n m (λ e. e.fee k) run) (λ k. (entry n m t u call).fee k));
        count = omega (arith, before.count, step.count);
      }

  -- an examination finds met exactly what is at the target or above
  finds : (w : World P Q) (b : Book) (account : ℕ) (found : Examined) → Examination (backing n m w.shelves) account w.book.ledger.table b.ledger.table (Ok found) →
      Decides (is_met found) (AtTarget n m w account)
  finds w b account Met d = (λ _. d.1, λ _. refl)
  finds w b account (Short lack slip) d = (λ e. absurd (false≢true e), λ reached. absurd (omega (arith, ints, d.1.0)))

  -- in the calling hour an account with units has an open notice, or cover at its floor or above
  watches : Rules n → Rules m → (w u : World P Q) → New w → Calls n m w u → (k : ℕ) → k < account_places → calling u.book.ledger.table.hour ≡ true → HasUnits n m u k →
      (bit u.book.ledger.table.notices k ≡ true) ⊎ AtFloor n m u k
  watches rn rm w u new run k l in-calling units =
      let b : Backing = backing n m u.shelves in
      let t : Table = u.book.ledger.table in
      elim (cases_Bool (lt_z (cover_at b t k) (pos (floor_at t k)))) [
        | inl low ↦ inl (watched_run rn rm w u new run k l (and_from (calling t.hour) (short_at b t k) in-calling (and_from (ltb 0 (units_of (account_at t k))) (lt_z (cover_at b t k) (pos (floor_at t k))) (lt-ltb 0 (units_of (account_at t k)) units) low)))
        | inr reached ↦ inr (is_reached (cover_at b t k) (floor_at t k) reached)
      ]

  pub laws : Rules n → Rules m → BookLaws n m
  laws rn rm w u new run = record {
    adds_up = added_up w u new run;
    marked = λ b given d k l.
        Decides-at (bit b.ledger.table.notices k) (short_at (backing n m u.shelves) u.book.ledger.table k)
        (ap (λ t. bit t.notices k) d.2 ∙ bit_word (λ place. short_at (backing n m u.shelves) u.book.ledger.table place) account_places k l)
        (decides_short (backing n m u.shelves) u.book.ledger.table k);
    found_met = finds u;
    watched = watches rn rm w u new run;
    clear_at_eleven = λ b answer d k l units.
        let t : Table = u.book.ledger.table in
        let ok = clear (eleven_causes t) d.0 in
        let none : t.notices ≡ 0 = eqb-true t.notices 0 (not-false (eqb t.notices 0) ok.1.0) in
        elim (watches rn rm w u new run k l (not-false (calling t.hour) ok.0) units) [
          | inl noticed ↦ absurd (true≢false (sym noticed ∙ ap (λ x. bit x k) none ∙ bit_none k))
          | inr reached ↦ reached
        ];
  }
