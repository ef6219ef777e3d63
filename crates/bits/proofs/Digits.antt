-- The digits of a word as numbers: digit n of w is (w / 2 ^ n) % 2.
use Rattle.std.proofs.Common.{◌≡◌, ℕ, zero, suc, ◌+◌, ◌/◌, ◌%◌, ◌^◌, true, false, sym, refl, ap, ◌∙◌, pow-suc, one-add, arith, pow_pos, shr-shr}
use native.Mathlib.Nat.{add-div_right}
use Rattle.std.proofs.lemmas.Bool.Decides.{nat_tests}
use Rattle.bits.specs.Bit.{bit}

pub set_digit : (w n : ℕ) → bit w n ≡ true → (w / 2 ^ n) % 2 ≡ 1
set_digit w n h = grind (arith, nat_tests)

pub clear_digit : (w n : ℕ) → bit w n ≡ false → (w / 2 ^ n) % 2 ≡ 0
clear_digit w n h = grind (arith, nat_tests)

-- one more 2 ^ n is one more in what stands at place n and above
pub shr_more : (w n : ℕ) → (w + 2 ^ n) / 2 ^ n ≡ w / 2 ^ n + 1
shr_more w n = add-div_right w (pow_pos n)

-- the places above the lowest are those of the half
half : (w n : ℕ) → w / 2 ^ suc n ≡ (w / 2) / 2 ^ n
half w n = sym (shr-shr w 1 n ∙ ap (λ x. w / 2 ^ x) (one-add n))

-- 2 ^ n added where digit n is 0 leaves every other digit
pub other_digit : (w n m : ℕ) → (w / 2 ^ n) % 2 ≡ 0 → (n ≡ m → ⊥) → ((w + 2 ^ n) / 2 ^ m) % 2 ≡ (w / 2 ^ m) % 2
other_digit w zero zero h ne = absurd (ne refl)
other_digit w zero (suc m) h ne =
    let same_half : (w + 1) / 2 ≡ w / 2 = omega arith in
    ap (λ x. x % 2) (half (w + 1) m ∙ ap (λ x. x / 2 ^ m) same_half ∙ sym (half w m))
other_digit w (suc n) zero h ne = omega (arith, pow-suc 2 n)
other_digit w (suc n) (suc m) h ne =
    let halved : (w + 2 ^ suc n) / 2 ≡ w / 2 + 2 ^ n = omega (arith, pow-suc 2 n) in
    let clear : (w / 2 / 2 ^ n) % 2 ≡ 0 = ap (λ x. x % 2) (sym (half w n)) ∙ h in
    ap (λ x. x % 2) (half (w + 2 ^ suc n) m ∙ ap (λ x. x / 2 ^ m) halved)
    ∙ other_digit (w / 2) n m clear (λ e. ne (ap suc e))
    ∙ ap (λ x. x % 2) (sym (half w m))
