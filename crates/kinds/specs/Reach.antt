-- How many blocks reach an ask: `reach` blocks do, and no fewer.
use Rattle.std.specs.Prelude.{◌≡◌, ℕ, ◌+◌, ◌*◌, ◌/◌, ◌%◌, ◌<◌, ◌≤◌, min, ◌==◌, refl}
use Rattle.std.proofs.Common.{subst, mul-le-mul_right, add-mul, one-mul, zero-mul, div-add-mod', mod-lt, arith}
use Rattle.std.proofs.Math.Nat.{zero-div, zero-mod}
use Rattle.std.proofs.lemmas.Bool.{cond_both, eqb-true, eqb-false}
use Rattle.kinds.specs.Bonds.{Fewest, reach}

pub reach_least : (ask price : ℕ) → 1 ≤ price → ask ≤ reach ask price * price
reach_least ask price h =
    cond_both (ask % price == 0) 0 1 (λ x. ask ≤ (ask / price + x) * price)
    (λ e. omega (arith, eqb-true _ _ e, add-mul (ask / price) 0 price, zero-mul price, div-add-mod' ask price))
    (λ e. omega (arith, add-mul (ask / price) 1 price, one-mul price, div-add-mod' ask price, mod-lt ask h))

pub reach_near : (ask price : ℕ) → 1 ≤ price → reach ask price * price < ask + price
reach_near ask price h =
    cond_both (ask % price == 0) 0 1 (λ x. (ask / price + x) * price < ask + price)
    (λ e. omega (arith, eqb-true _ _ e, add-mul (ask / price) 0 price, zero-mul price, div-add-mod' ask price))
    (λ e. omega (arith, add-mul (ask / price) 1 price, one-mul price, div-add-mod' ask price, eqb-false _ _ e))

pub reach_none : (price : ℕ) → reach 0 price ≡ 0
reach_none price =
    cond_both (0 % price == 0) 0 1 (λ x. 0 / price + x ≡ 0)
    (λ e. omega (arith, zero-div price))
    (λ e. absurd (eqb-false _ _ e (zero-mod price)))

-- fewer than `reach` blocks do not reach the ask
short_of_reach : (ask price m : ℕ) → 1 ≤ price → m < reach ask price → m * price < ask
short_of_reach ask price m h less =
    let one_more : (m + 1) * price ≤ reach ask price * price = mul-le-mul_right price (omega arith) in
    omega (arith, reach_near ask price h, add-mul m 1 price, one-mul price)

-- so `reach` blocks, or all where there are not so many, are the fewest
pub fewest : (all n ask price : ℕ) → n ≡ min (reach ask price) all → 1 ≤ price → Fewest all n ask price (n * price)
fewest all n ask price is h = record {
  paid = refl;
  within = omega arith;
  reached = λ some.
      let whole : reach ask price ≡ n = omega arith in
      subst (λ (x : ℕ). ask ≤ x * price) whole (reach_least ask price h);
  no_fewer = λ m few. short_of_reach ask price m h (omega arith);
}
