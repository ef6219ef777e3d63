-- The parts of the fees: they rise with the units, all units pay all, and none pays more than the highest rate.
use Rattle.std.proofs.Common.{◌≡◌, ℕ, zero, suc, ◌+◌, ◌-◌, ◌*◌, ◌/◌, ◌<◌, ◌≤◌, refl, ap, ◌∙◌, mul-le-mul_right, mul_assoc, mul_comm, mul-le-mul_left, mul-add, div-mul-le_self, arith}
use native.Mathlib.Nat.{mul-div_left, add-mul-div_left, zero-div}
use Rattle.std.proofs.lemmas.Nat.{le-div}
use Rattle.std.proofs.lemmas.Bool.Decides.{nat_tests}
use Rattle.lending.specs.Lending.{share}

div_up : (a b q : ℕ) → 0 < q → a ≤ b → a / q ≤ b / q
div_up a b q z l = le-div (a / q) b q z (omega (arith, div-mul-le_self a q))

share_some : (f c q : ℕ) → 0 < q → share f c q ≡ f * c / q
share_some f c q l = grind (arith, nat_tests)

pub share_none : (f c q : ℕ) → q ≡ 0 → share f c q ≡ 0
share_none f c q e = grind (arith, nat_tests)

pub share_zero : (f q : ℕ) → share f 0 q ≡ 0
share_zero f zero = refl
share_zero f (suc q) =
    let none : f * 0 ≡ 0 = omega arith in
    share_some f 0 (suc q) (omega arith) ∙ ap (λ n. n / suc q) none ∙ zero-div (suc q)

pub share_up : (f c d q : ℕ) → c ≤ d → share f c q ≤ share f d q
share_up f c d zero l = omega arith
share_up f c d (suc q) l =
    let up = div_up (f * c) (f * d) (suc q) (omega arith) (mul-le-mul_left f l) in
    omega (arith, share_some f c (suc q) (omega arith), share_some f d (suc q) (omega arith))

-- all units pay all
pub share_all : (f q : ℕ) → 0 < q → share f q q ≡ f
share_all f q l = share_some f q q l ∙ mul-div_left f l

-- where all units pay at most r each, so do any of them
pub share_step : (r f c d q : ℕ) → f ≤ r * q → share f (c + d) q - share f c q ≤ r * d
share_step r f c d zero l = omega arith
share_step r f c d (suc q) l =
    let p : 0 < suc q = omega arith in
    let split = mul-add f c d in
    let most : f * d ≤ r * suc q * d = mul-le-mul_right d l in
    let turned : r * suc q * d ≡ suc q * (r * d) = ap (λ x. x * d) (mul_comm r (suc q)) ∙ mul_assoc (suc q) r d in
    let sum : f * (c + d) ≤ f * c + suc q * (r * d) = omega arith in
    let up = div_up (f * (c + d)) (f * c + suc q * (r * d)) (suc q) p sum in
    omega (arith, share_some f (c + d) (suc q) p, share_some f c (suc q) p, add-mul-div_left (f * c) (r * d) {y = suc q} p)
