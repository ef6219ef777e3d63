-- What the code's `|`, `&` and `!` make of one bit.
use Rattle.std.proofs.Common.{◌≡◌, ℕ, zero, suc, ◌+◌, ◌-◌, ◌*◌, ◌/◌, ◌%◌, ◌^◌, ◌<◌, true, false, ap, ◌∙◌, inl, inr, one-mul, pow-suc, zero-mul, one-add, arith}
use lib.Bits.{bit_and, bit_or, and_high, and_le_l, and_step, or_add_and}
use Rattle.std.proofs.lemmas.Nat.{pow_below}
use Rattle.std.proofs.lemmas.Bool.{cases_Bool, cond-true, cond-false}
use Rattle.bits.specs.Bit.{bit, with_bit, without_bit}
use Rattle.bits.proofs.Digits.{set_digit, clear_digit}

and_digit : (w n : ℕ) → bit_and w (2 ^ n) ≡ ((w / 2 ^ n) % 2) * 2 ^ n
and_digit w n =
    let mask : 2 ^ n ≡ 2 ^ (1 + n) - 2 ^ n = omega (arith, pow-suc 2 n, ap (λ x. 2 ^ x) (one-add n)) in
    ap (bit_and w) mask ∙ and_high w 1 n

and_set : (w n : ℕ) → bit w n ≡ true → bit_and w (2 ^ n) ≡ 2 ^ n
and_set w n h = and_digit w n ∙ ap (λ x. x * 2 ^ n) (set_digit w n h) ∙ one-mul (2 ^ n)

and_clear : (w n : ℕ) → bit w n ≡ false → bit_and w (2 ^ n) ≡ 0
and_clear w n h = and_digit w n ∙ ap (λ x. x * 2 ^ n) (clear_digit w n h) ∙ zero-mul (2 ^ n)

-- `word | (1 << n)`
pub or_bit : (w n : ℕ) → bit_or w (2 ^ n) ≡ with_bit w n
or_bit w n =
    let sum = or_add_and w (2 ^ n) in
    elim (cases_Bool (bit w n)) [
      | inl set ↦ omega (arith, and_set w n set, cond-true (bit w n) 0 (2 ^ n) set)
      | inr clear ↦ omega (arith, and_clear w n clear, cond-false (bit w n) 0 (2 ^ n) clear)
    ]

-- the bits of w that are not in x, and those that are, make up w
and_not : (k w x : ℕ) → w < 2 ^ k → x < 2 ^ k → bit_and w ((2 ^ k - 1) - x) + bit_and w x ≡ w
and_not zero w x h l = omega (arith, and_le_l w ((2 ^ 0 - 1) - x), and_le_l w x)
and_not (suc k) w x h l =
    let rest : ℕ = (2 ^ suc k - 1) - x in
    let twice = pow-suc 2 k in
    let half : rest / 2 ≡ (2 ^ k - 1) - x / 2 = omega arith in
    let last : rest % 2 ≡ 1 - x % 2 = omega arith in
    let halves = and_not k (w / 2) (x / 2) (omega arith) (omega arith) in
    omega (arith, and_step w rest, and_step w x, ap (bit_and (w / 2)) half)

-- `word & !(1 << n)`, in a word of k bits
pub and_not_bit : (k w n : ℕ) → n < k → w < 2 ^ k → bit_and w ((2 ^ k - 1) - 2 ^ n) ≡ without_bit w n
and_not_bit k w n l h =
    let parts = and_not k w (2 ^ n) h (pow_below n k l) in
    elim (cases_Bool (bit w n)) [
      | inl set ↦ omega (arith, and_set w n set, cond-true (bit w n) (2 ^ n) 0 set)
      | inr clear ↦ omega (arith, and_clear w n clear, cond-false (bit w n) (2 ^ n) 0 clear)
    ]
