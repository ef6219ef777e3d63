-- A word with one bit set or cleared: its bits, how many are set, and how large it is.
use Rattle.std.proofs.Common.{◌≡◌, ℕ, ◌+◌, ◌-◌, ◌*◌, ◌/◌, ◌%◌, ◌^◌, ◌<◌, ◌≤◌, true, false, eqb, ◌⊎◌, sym, ap, ◌∙◌, subst, inl, inr, add-zero, mul-le-mul_right, add-mul, one-mul, arith, pow_pos}
use native.Mathlib.Nat.{sub-zero}
use lib.Bits.{or_lt}
use lib.Count.{ones, ones_step, ones_cat}
use lib.Pow.{split}
use Rattle.std.proofs.lemmas.Nat.{pow_below, mod_below}
use Rattle.std.proofs.lemmas.Bool.{true≢false, cases_Bool, cases_eq, cond-true, cond-false}
use Rattle.bits.specs.Bit.{bit, with_bit, without_bit}
use Rattle.bits.proofs.Digits.{set_digit, clear_digit, shr_more, other_digit}
use Rattle.bits.proofs.Operators.{or_bit}

-- What 2 ^ n more makes of a word whose bit n is clear.

bit_add_same : (w n : ℕ) → bit w n ≡ false → bit (w + 2 ^ n) n ≡ true
bit_add_same w n clear =
    let was : (w / 2 ^ n) % 2 ≡ 0 = clear_digit w n clear in
    let is : (w / 2 ^ n + 1) % 2 ≡ 1 = omega arith in
    ap (λ x. eqb (x % 2) 1) (shr_more w n) ∙ ap (λ x. eqb x 1) is

bit_add_other : (w n m : ℕ) → bit w n ≡ false → (n ≡ m → ⊥) → bit (w + 2 ^ n) m ≡ bit w m
bit_add_other w n m clear ne = ap (λ x. eqb x 1) (other_digit w n m (clear_digit w n clear) ne)

ones_add : (w n : ℕ) → bit w n ≡ false → ones (w + 2 ^ n) ≡ ones w + 1
ones_add w n clear =
    let high : ℕ = w / 2 ^ n in
    let low : ℕ = w % 2 ^ n in
    let even : high % 2 ≡ 0 = clear_digit w n clear in
    let small : low < 2 ^ n = mod_below w (2 ^ n) (pow_pos n) in
    let product = add-mul high 1 (2 ^ n) in
    let more : (high + 1) * 2 ^ n + low ≡ w + 2 ^ n = omega (arith, split w n, one-mul (2 ^ n)) in
    let same_half : ones ((high + 1) / 2) ≡ ones (high / 2) = ap ones (omega arith) in
    let before = ap ones (sym (split w n)) ∙ ones_cat n high low small in
    let after = ap ones (sym more) ∙ ones_cat n (high + 1) low small in
    omega (arith, ones_step high, ones_step (high + 1))

-- What 2 ^ n less makes of a word whose bit n is set: the steps above, backwards.

bit_weighs : (w n : ℕ) → bit w n ≡ true → 2 ^ n ≤ w
bit_weighs w n set =
    let some : 1 ≤ w / 2 ^ n = omega (arith, set_digit w n set) in
    omega (arith, split w n, mul-le-mul_right (2 ^ n) some, one-mul (2 ^ n))

back : (w n : ℕ) → bit w n ≡ true → (w - 2 ^ n) + 2 ^ n ≡ w
back w n set = omega (arith, bit_weighs w n set)

bit_sub_same : (w n : ℕ) → bit w n ≡ true → bit (w - 2 ^ n) n ≡ false
bit_sub_same w n set =
    let less : ℕ = w - 2 ^ n in
    let was : w / 2 ^ n ≡ less / 2 ^ n + 1 = ap (λ x. x / 2 ^ n) (sym (back w n set)) ∙ shr_more less n in
    let is : (less / 2 ^ n) % 2 ≡ 0 = omega (arith, set_digit w n set) in
    ap (λ x. eqb x 1) is

bit_sub_other : (w n m : ℕ) → bit w n ≡ true → (n ≡ m → ⊥) → bit (w - 2 ^ n) m ≡ bit w m
bit_sub_other w n m set ne =
    sym (bit_add_other (w - 2 ^ n) n m (bit_sub_same w n set) ne) ∙ ap (λ x. bit x m) (back w n set)

ones_sub : (w n : ℕ) → bit w n ≡ true → ones (w - 2 ^ n) + 1 ≡ ones w
ones_sub w n set = sym (ones_add (w - 2 ^ n) n (bit_sub_same w n set)) ∙ ap ones (back w n set)

-- The word with a bit, and without it, by what the bit was.

pub with_set : (w n : ℕ) → bit w n ≡ true → with_bit w n ≡ w
with_set w n set = ap (λ x. w + x) (cond-true (bit w n) 0 (2 ^ n) set) ∙ add-zero w

pub with_clear : (w n : ℕ) → bit w n ≡ false → with_bit w n ≡ w + 2 ^ n
with_clear w n clear = ap (λ x. w + x) (cond-false (bit w n) 0 (2 ^ n) clear)

pub without_set : (w n : ℕ) → bit w n ≡ true → without_bit w n ≡ w - 2 ^ n
without_set w n set = ap (λ x. w - x) (cond-true (bit w n) (2 ^ n) 0 set)

pub without_clear : (w n : ℕ) → bit w n ≡ false → without_bit w n ≡ w
without_clear w n clear = ap (λ x. w - x) (cond-false (bit w n) (2 ^ n) 0 clear) ∙ sub-zero w

-- Its bits.

pub bit_with_same : (w n : ℕ) → bit (with_bit w n) n ≡ true
bit_with_same w n =
    elim (cases_Bool (bit w n)) [
      | inl set ↦ ap (λ x. bit x n) (with_set w n set) ∙ set
      | inr clear ↦ ap (λ x. bit x n) (with_clear w n clear) ∙ bit_add_same w n clear
    ]

pub bit_with_other : (w n m : ℕ) → (n ≡ m → ⊥) → bit (with_bit w n) m ≡ bit w m
bit_with_other w n m ne =
    elim (cases_Bool (bit w n)) [
      | inl set ↦ ap (λ x. bit x m) (with_set w n set)
      | inr clear ↦ ap (λ x. bit x m) (with_clear w n clear) ∙ bit_add_other w n m clear ne
    ]

pub bit_without_same : (w n : ℕ) → bit (without_bit w n) n ≡ false
bit_without_same w n =
    elim (cases_Bool (bit w n)) [
      | inl set ↦ ap (λ x. bit x n) (without_set w n set) ∙ bit_sub_same w n set
      | inr clear ↦ ap (λ x. bit x n) (without_clear w n clear) ∙ clear
    ]

pub bit_without_other : (w n m : ℕ) → (n ≡ m → ⊥) → bit (without_bit w n) m ≡ bit w m
bit_without_other w n m ne =
    elim (cases_Bool (bit w n)) [
      | inl set ↦ ap (λ x. bit x m) (without_set w n set) ∙ bit_sub_other w n m set ne
      | inr clear ↦ ap (λ x. bit x m) (without_clear w n clear)
    ]

-- How many of its bits are set.

pub ones_with : (w n : ℕ) → bit w n ≡ false → ones (with_bit w n) ≡ ones w + 1
ones_with w n clear = ap ones (with_clear w n clear) ∙ ones_add w n clear

pub ones_without : (w n : ℕ) → bit w n ≡ true → ones (without_bit w n) + 1 ≡ ones w
ones_without w n set = ap (λ x. ones x + 1) (without_set w n set) ∙ ones_sub w n set

-- A word of k bits stays one.

pub with_lt : (k w n : ℕ) → n < k → w < 2 ^ k → with_bit w n < 2 ^ k
with_lt k w n l h = subst (λ (x : ℕ). x < 2 ^ k) (or_bit w n) (or_lt k w (2 ^ n) h (pow_below n k l))

pub without_lt : (k w n : ℕ) → w < 2 ^ k → without_bit w n < 2 ^ k
without_lt k w n h = omega arith

-- Which bits were set, by those that are.

pub set_before : (w i n : ℕ) → bit (without_bit w i) n ≡ true → bit w n ≡ true
set_before w i n h =
    elim (cases_eq i n) [
      | inl e ↦ absurd (true≢false (sym h ∙ subst (λ (m : ℕ). bit (without_bit w i) m ≡ false) e (bit_without_same w i)))
      | inr ne ↦ sym (bit_without_other w i n ne) ∙ h
    ]

pub set_by : (w i n : ℕ) → bit (with_bit w i) n ≡ true → (i ≡ n) ⊎ (bit w n ≡ true)
set_by w i n h =
    elim (cases_eq i n) [
      | inl e ↦ inl e
      | inr ne ↦ inr (sym (bit_with_other w i n ne) ∙ h)
    ]

pub none_without : (w i : ℕ) → w ≡ 0 → without_bit w i ≡ 0
none_without w i e = omega arith
