-- The nearest candidate of a scan is the next turn.
use Rattle.std.proofs.Common.{◌≡◌, ℕ, zero, suc, ◌+◌, ◌<◌, Bool, true, false, cond, eqb, List, [], length, drop, Some, None, Option, sym, refl, ap, ◌∙◌, subst, inl, inr, add-one, arith, drop-cons}
use Rattle.std.specs.List.{filter_map, cons_option, enumerate_from, reduce, fold}
use Rattle.std.specs.Ordering.{min_by_ordering, ordering_then, nat_cmp}
use Rattle.std.proofs.lemmas.List.{drop_all}
use Rattle.std.proofs.lemmas.Bool.{cases_eq, both_ways}
use Rattle.std.proofs.lemmas.Bool.Decides.{nat_tests}
use Rattle.pledge.specs.Numbers.{Numbers}
use Rattle.shelf.specs.Places.{at}
use Rattle.shelf.specs.declared.held.Held.{Held}
use Rattle.draw.specs.Draws.{mine, turn_at, sooner}
use Rattle.draw.specs.Nexts.{NextIs, candidate, nearer}
use Rattle.draw.specs.declared.turn.Turn.{Turn}
use Rattle.draw.proofs.Orders.{sooner_self, sooner_not}

-- the order that turns derive, and the lesser of two in it
abbrev pub min_turn : Turn → Turn → Turn
min_turn x y = min_by_ordering (ordering_then (nat_cmp x.expiry y.expiry) (nat_cmp x.place y.place)) x y

min_is : (x y : Turn) → min_turn x y ≡ cond (sooner y x) y x
min_is x y = grind (arith, nat_tests)

-- the least of a turn, if there is one, and of others
abbrev among : Option Turn → List Turn → Option Turn
among None ts = reduce min_turn ts
among (Some t) ts = Some (fold min_turn t ts)

among_no_more : (o : Option Turn) → among o [] ≡ o
among_no_more None = refl
among_no_more (Some t) = refl

cond_some : (b : Bool) (x y : Turn) → Some (cond b y x) ≡ cond b (Some y) (Some x)
cond_some true x y = refl
cond_some false x y = refl

among_more : (best next : Option Turn) (ts : List Turn) → among best (cons_option next ts) ≡ among (nearer best next) ts
among_more None None ts = refl
among_more None (Some y) ts = refl
among_more (Some x) None ts = refl
among_more (Some x) (Some y) ts =
    ap (λ (t : Turn). Some (fold min_turn t ts)) (min_is x y) ∙ ap (λ (o : Option Turn). among o ts) (cond_some (sooner y x) x y)

module _ {P : Type 0} (n : Numbers P) (shelf : List (Option (Held P))) (account : ℕ) (from : Turn) where
  -- nearest k: the nearest candidate at places below k
  abbrev pub nearest : ℕ → Option Turn
  nearest zero = None
  nearest (suc k) = nearer (nearest k) (candidate n account from k (at shelf k))

  -- what a candidate says of place k
  record Candid (k : ℕ) (t : Turn) : Type 0 where
    pub held : mine account (at shelf k) ≡ true
    pub is : turn_at n shelf k ≡ t
    pub after : sooner t from ≡ false

  abbrev CandidIs : ℕ → Option Turn → Type 0
  CandidIs k None = mine account (at shelf k) ≡ true → sooner (turn_at n shelf k) from ≡ true
  CandidIs k (Some t) = Candid k t

  candid_held : (k : ℕ) (held : Held P) → at shelf k ≡ Some held → (s t : Bool) → eqb held.account account ≡ s →
      sooner (record { expiry = n.expiry held.pledge; place = k }) from ≡ t →
      CandidIs k (cond s (cond t None (Some (record { expiry = n.expiry held.pledge; place = k }))) None)
  candid_held k held e true true p q = λ _. rw e q
  candid_held k held e true false p q = record { held = rw e p; is = rw e; after = q }
  candid_held k held e false t p q = λ m. absurd (both_ways (eqb held.account account) p (rw e at m))

  candid_of : (k : ℕ) (place : Option (Held P)) → at shelf k ≡ place → CandidIs k (candidate n account from k place)
  candid_of k None e = λ m. absurd (both_ways false refl (rw e at m))
  candid_of k (Some held) e =
      candid_held k held e (eqb held.account account) (sooner (record { expiry = n.expiry held.pledge; place = k }) from) refl refl

  -- j is k or below it
  last_or_below : (Q : ℕ → Type 0) (k j : ℕ) → j < suc k → (j < k → Q j) → Q k → Q j
  last_or_below Q k j l below here = elim (cases_eq j k) [ inl e ↦ subst Q (sym e) here | inr ne ↦ below (omega (arith, ne)) ]

  -- not before t, if it is the account's and not before `from`
  abbrev NotBefore : Turn → ℕ → Type 0
  NotBefore t j = mine account (at shelf j) ≡ true → sooner (turn_at n shelf j) from ≡ false → sooner (turn_at n shelf j) t ≡ false

  -- place k is the first
  take_last : (k : ℕ) (t : Turn) → Candid k t → ((j : ℕ) → j < k → NotBefore t j) → NextIs n shelf account from (suc k) (Some t)
  take_last k t c before =
      subst (λ (u : Turn). sooner u from ≡ false → ((j : ℕ) → j < k → NotBefore u j) → NextIs n shelf account from (suc k) (Some u)) c.is
      (λ after before. record {
        within = omega arith;
        held = c.held;
        expiry_is = refl;
        after = after;
        first = λ j l. last_or_below (NotBefore (turn_at n shelf k)) k j l (before j) (λ _ _. sooner_self (turn_at n shelf k));
      }) c.after before

  -- the first of the places below k stays the first
  keep_first : (k : ℕ) (t : Turn) → NextIs n shelf account from k (Some t) → NotBefore t k → NextIs n shelf account from (suc k) (Some t)
  keep_first k t b last = record {
    within = omega (arith, b.within);
    held = b.held;
    expiry_is = b.expiry_is;
    after = b.after;
    first = λ j l. last_or_below (NotBefore t) k j l (b.first j) last;
  }

  one_more : (k : ℕ) (best next : Option Turn) → NextIs n shelf account from k best → CandidIs k next →
      NextIs n shelf account from (suc k) (nearer best next)
  one_more k None None b c =
      λ j l. last_or_below (λ j. mine account (at shelf j) ≡ true → sooner (turn_at n shelf j) from ≡ true) k j l (b j) c
  one_more k None (Some y) b c = take_last k y c (λ j l m a. absurd (both_ways _ a (b j l m)))
  one_more k (Some x) None b c = keep_first k x b (λ m a. absurd (both_ways _ a (c m)))
  one_more k (Some x) (Some y) b c = by (sooner y x) refl
    where
      by : (s : Bool) → sooner y x ≡ s → NextIs n shelf account from (suc k) (cond s (Some y) (Some x))
      by true s = take_last k y c (λ j l m a. sooner_not (turn_at n shelf j) y x (b.first j l m a) s)
      by false s = keep_first k x b (λ _ _. subst (λ (u : Turn). sooner u x ≡ false) (sym c.is) s)

  pub nearest_is : (k : ℕ) → NextIs n shelf account from k (nearest k)
  nearest_is zero = λ j l. absurd (omega arith)
  nearest_is (suc k) = one_more k (nearest k) (candidate n account from k (at shelf k)) (nearest_is k) (candid_of k (at shelf k) refl)

  -- the turns of the candidates from place i on
  abbrev turns_from : ℕ → List Turn
  turns_from i = filter_map (λ (p : ℕ × Option (Held P)). candidate n account from p.0 p.1) (enumerate_from i (drop i shelf))

  turns_more : (i : ℕ) → i < length shelf → turns_from i ≡ cons_option (candidate n account from i (at shelf i)) (turns_from (suc i))
  turns_more i l =
      ap (λ xs. filter_map (λ (p : ℕ × Option (Held P)). candidate n account from p.0 p.1) (enumerate_from i xs)) (drop-cons shelf i None l)
      ∙ ap (λ m. cons_option (candidate n account from i (at shelf i)) (filter_map (λ (p : ℕ × Option (Held P)). candidate n account from p.0 p.1) (enumerate_from m (drop (suc i) shelf)))) (add-one i)

  least_from : (d i : ℕ) → i + d ≡ length shelf → among (nearest i) (turns_from i) ≡ nearest (length shelf)
  least_from zero i e =
      let all : i ≡ length shelf = omega arith in
      ap (λ xs. among (nearest i) (filter_map (λ (p : ℕ × Option (Held P)). candidate n account from p.0 p.1) (enumerate_from i xs))) (drop_all i shelf (omega arith))
      ∙ among_no_more (nearest i) ∙ ap nearest all
  least_from (suc d) i e =
      ap (among (nearest i)) (turns_more i (omega arith))
      ∙ among_more (nearest i) (candidate n account from i (at shelf i)) (turns_from (suc i))
      ∙ least_from d (suc i) (omega arith)

  -- the least of all candidates is the next turn
  pub least_is : {t : Option Turn} → t ≡ reduce min_turn (filter_map (λ (p : ℕ × Option (Held P)). candidate n account from p.0 p.1) (enumerate_from 0 shelf)) →
      NextIs n shelf account from (length shelf) t
  least_is e = subst (λ (o : Option Turn). NextIs n shelf account from (length shelf) o) (sym (e ∙ least_from (length shelf) 0 (omega arith))) (nearest_is (length shelf))
