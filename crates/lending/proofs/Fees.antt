-- The accounts pay, one after another.
use Rattle.std.proofs.Common.{◌≡◌, ℕ, suc, ◌+◌, ◌*◌, ◌<◌, ◌≤◌, List, length, get_or, set, Some, None, Option, refl, ap, ◌∙◌, arith}
use Rattle.std.proofs.lemmas.Bool.Decides.{nat_tests}
use Rattle.std.specs.Option.{option_map}
use Rattle.sums.proofs.Sums.{below_more, below_most, below_up}
use Rattle.lending.specs.declared.account.Account.{Account}
use Rattle.lending.specs.Measures.{top_units}
use Rattle.lending.specs.Sound.{SoundAccounts}
use Rattle.lending.specs.Lending.{at, units_in, units_below, need_of, charged}
use Rattle.lending.specs.Eleven.{pays_at}
use Rattle.lending.specs.Steps.{pays}
use Rattle.lending.proofs.Bounds.{units_most}
use Rattle.lending.proofs.Passes.{Passed, passed_more}

-- the units below a place are no more than the most for each
pub units_below_most : (elevens : ℕ) (xs : List (Option Account)) → SoundAccounts elevens xs → (s n : ℕ) → units_below xs s n ≤ n * top_units
units_below_most elevens xs h s n = below_most n top_units (λ k. units_in s (at xs k)) (λ k l. units_most elevens s (at xs k) (h k))

pub own_units : (a : Account) → units_in a.security (Some a) ≡ a.owed + a.applied
own_units a = grind (arith, nat_tests)

-- what an account pays by the units before it is its fee
pub pays_is : (xs : List (Option Account)) (earned needs earlier : List ℕ) (k : ℕ) (p : Option Account) → at xs k ≡ p →
    ((s : ℕ) → get_or needs s 0 ≡ need_of xs s) → ((s : ℕ) → get_or earlier s 0 ≡ units_below xs s k) →
    pays earned needs earlier p ≡ pays_at xs (λ s. get_or earned s 0) k p
pays_is xs earned needs earlier k None e q c = refl
pays_is xs earned needs earlier k (Some a) e q c =
    let units : get_or earlier a.security 0 + (a.owed + a.applied) ≡ units_below xs a.security (suc k) = omega (arith, c a.security, ap (units_in a.security) e, own_units a) in
    let need = q a.security in
    let lower = c a.security in
    cc

-- an account after it paid
abbrev pub pay_at : List (Option Account) → List ℕ → ℕ → Account → Account
pay_at xs earned k a = charged a (pays_at xs (λ s. get_or earned s 0) k (at xs k))

-- the accounts below place i have paid
pub record Paying (xs : List (Option Account)) (earned : List ℕ) (ys : List (Option Account)) (earlier : List ℕ) (i : ℕ) : Type 0 where
  pub earlier_is : (s : ℕ) → get_or earlier s 0 ≡ units_below xs s i
  pub passed : Passed (pay_at xs earned) xs ys i

pub step : (xs : List (Option Account)) (earned needs : List ℕ) (ys : List (Option Account)) (earlier : List ℕ) (i : ℕ) (v : Option Account) (earlier' : List ℕ) →
    Paying xs earned ys earlier i → i < length xs → ((s : ℕ) → get_or needs s 0 ≡ need_of xs s) →
    v ≡ option_map (λ a. charged a (pays earned needs earlier (at ys i))) (at ys i) →
    ((s : ℕ) → get_or earlier' s 0 ≡ get_or earlier s 0 + units_in s (at ys i)) →
    Paying xs earned (set ys i v) earlier' (i + 1)
step xs earned needs ys earlier i v earlier' h l q after more =
    let here : at ys i ≡ at xs i = h.passed.rest i (omega arith) in
    let fee : pays earned needs earlier (at xs i) ≡ pays_at xs (λ s. get_or earned s 0) i (at xs i) = pays_is xs earned needs earlier i (at xs i) refl q h.earlier_is in
    record {
      earlier_is = λ s. omega (arith, more s, h.earlier_is s, ap (units_in s) here, below_more i (λ k. units_in s (at xs k)));
      passed = passed_more (pay_at xs earned) xs ys i v h.passed l
          (after ∙ ap (λ p. option_map (λ a. charged a (pays earned needs earlier p)) p) here ∙ ap (λ n. option_map (λ a. charged a n) (at xs i)) fee);
    }

module _ (xs : List (Option Account)) (earned : List ℕ) (ys : List (Option Account)) (earlier : List ℕ) (i : ℕ) (h : Paying xs earned ys earlier i) where
  -- the units up to a place are among the need
  pub within : (needs : List ℕ) → i < length xs → ((s : ℕ) → get_or needs s 0 ≡ need_of xs s) → (s : ℕ) → get_or earlier s 0 + units_in s (at ys i) ≤ get_or needs s 0
  within needs l q s = omega (arith, q s, h.earlier_is s, ap (units_in s) (h.passed.rest i (omega arith)), below_up (suc i) (length xs) (λ k. units_in s (at xs k)) (omega arith))
