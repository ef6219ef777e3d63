-- The word of the places at which f holds: how it is built, its bits, how many are set, and how large it is.
use Rattle.std.proofs.Common.{◌≡◌, ℕ, zero, suc, ◌+◌, ◌%◌, ◌^◌, ◌<◌, ◌≤◌, Bool, true, false, cond, eqb, sym, refl, ap, ◌∙◌, subst, inl, inr, add-zero, pow-suc, add-one, arith, pow_pos, pow_mono}
use native.Mathlib.Nat.{div-eq_of_lt}
use lib.Count.{ones}
use Rattle.std.proofs.lemmas.Bool.{true≢false, cases_Bool, cases_eq, cases_lt, cond-true, cond-false, cond_both}
use Rattle.bits.specs.Bit.{bit, with_bit, word_below, count_below}
use Rattle.bits.proofs.Bits.{with_clear, bit_with_same, bit_with_other, ones_with}

-- a word of n bits has none at place n
pub bit_above : (w n : ℕ) → w < 2 ^ n → bit w n ≡ false
bit_above w n h = ap (λ x. eqb (x % 2) 1) (div-eq_of_lt h)

pub bit_none : (n : ℕ) → bit 0 n ≡ false
bit_none n = bit_above 0 n (pow_pos n)

pub ones_none : ones 0 ≡ 0
unfolding ones
ones_none = refl

pub word_lt : (f : ℕ → Bool) (k : ℕ) → word_below f k < 2 ^ k
unfolding word_below
word_lt f zero = omega arith
word_lt f (suc k) =
    let rest = word_lt f k in
    let twice = pow-suc 2 k in
    cond_both (f k) (2 ^ k) 0 (λ x. word_below f k + x < 2 ^ suc k) (λ _. omega arith) (λ _. omega arith)

-- One place more: its bit is set where f holds there, and else nothing changes.

free : (f : ℕ → Bool) (k : ℕ) → bit (word_below f k) k ≡ false
free f k = bit_above (word_below f k) k (word_lt f k)

set_next : (f : ℕ → Bool) (k : ℕ) → f k ≡ true → word_below f (suc k) ≡ with_bit (word_below f k) k
unfolding word_below
set_next f k holds =
    ap (λ x. word_below f k + x) (cond-true (f k) (2 ^ k) 0 holds) ∙ sym (with_clear (word_below f k) k (free f k))

skip_next : (f : ℕ → Bool) (k : ℕ) → f k ≡ false → word_below f (suc k) ≡ word_below f k
unfolding word_below
skip_next f k fails = ap (λ x. word_below f k + x) (cond-false (f k) (2 ^ k) 0 fails) ∙ add-zero (word_below f k)

-- The same for a loop that builds the word: where it starts, and a turn with the bit set or not.

pub word_none : (f : ℕ → Bool) → word_below f 0 ≡ 0
unfolding word_below
word_none f = refl

pub word_set : (f : ℕ → Bool) (w k : ℕ) → w ≡ word_below f k → f k ≡ true → with_bit w k ≡ word_below f (k + 1)
word_set f w k e holds = ap (λ x. with_bit x k) e ∙ sym (ap (word_below f) (add-one k) ∙ set_next f k holds)

pub word_skip : (f : ℕ → Bool) (w k : ℕ) → w ≡ word_below f k → f k ≡ false → w ≡ word_below f (k + 1)
word_skip f w k e fails = e ∙ sym (ap (word_below f) (add-one k) ∙ skip_next f k fails)

-- Its bits.

last_bit : (f : ℕ → Bool) (k : ℕ) → bit (word_below f (suc k)) k ≡ f k
last_bit f k =
    elim (cases_Bool (f k)) [
      | inl holds ↦ ap (λ x. bit x k) (set_next f k holds) ∙ bit_with_same (word_below f k) k ∙ sym holds
      | inr fails ↦ ap (λ x. bit x k) (skip_next f k fails) ∙ free f k ∙ sym fails
    ]

earlier_bit : (f : ℕ → Bool) (k n : ℕ) → (k ≡ n → ⊥) → bit (word_below f (suc k)) n ≡ bit (word_below f k) n
earlier_bit f k n ne =
    elim (cases_Bool (f k)) [
      | inl holds ↦ ap (λ x. bit x n) (set_next f k holds) ∙ bit_with_other (word_below f k) k n ne
      | inr fails ↦ ap (λ x. bit x n) (skip_next f k fails)
    ]

pub bit_word : (f : ℕ → Bool) (k n : ℕ) → n < k → bit (word_below f k) n ≡ f n
bit_word f zero n h = absurd (omega arith)
bit_word f (suc k) n h =
    elim (cases_eq k n) [
      | inl e ↦ subst (λ (m : ℕ). bit (word_below f (suc k)) m ≡ f m) e (last_bit f k)
      | inr ne ↦ earlier_bit f k n ne ∙ bit_word f k n (omega (arith, ne))
    ]

-- How many of them are set.

pub ones_word : (f : ℕ → Bool) (k : ℕ) → ones (word_below f k) ≡ count_below f k
unfolding count_below
ones_word f zero = ap ones (word_none f) ∙ ones_none
ones_word f (suc k) =
    let rest = ones_word f k in
    elim (cases_Bool (f k)) [
      | inl holds ↦
          let one_more = ap ones (set_next f k holds) ∙ ones_with (word_below f k) k (free f k) in
          omega (arith, cond-true {A = ℕ} (f k) 1 0 holds)
      | inr fails ↦
          let as_before = ap ones (skip_next f k fails) in
          omega (arith, cond-false {A = ℕ} (f k) 1 0 fails)
    ]

-- Where the word has a bit set, f holds.

pub word_holds : (f : ℕ → Bool) (k n : ℕ) → bit (word_below f k) n ≡ true → f n ≡ true
word_holds f k n h =
    elim (cases_lt n k) [
      | inl l ↦ sym (bit_word f k n l) ∙ h
      | inr m ↦
          let room : 2 ^ k ≤ 2 ^ n = pow_mono m in
          absurd (true≢false (sym h ∙ bit_above (word_below f k) n (omega (arith, word_lt f k))))
    ]

-- Functions that agree below k have one word.

pub word_same : (f g : ℕ → Bool) (k : ℕ) → ((n : ℕ) → n < k → f n ≡ g n) → word_below f k ≡ word_below g k
unfolding word_below
word_same f g zero h = refl
word_same f g (suc k) h =
    let rest : word_below f k ≡ word_below g k = word_same f g k (λ n l. h n (omega arith)) in
    omega (arith, ap (λ b. cond b (2 ^ k) 0) (h k (omega arith)))
