-- The bits of a word. A word is a number, and its bit at place n weighs 2 ^ n.
use Rattle.std.specs.Prelude.{ℕ, zero, suc, ◌+◌, ◌-◌, ◌/◌, ◌%◌, ◌^◌, Bool, cond, ◌==◌}

-- bit w n: whether the bit of w at place n is set
abbrev pub bit : ℕ → ℕ → Bool
bit w n = (w / 2 ^ n) % 2 == 1

-- with_bit w n: w with the bit at place n set, the other bits as they are
abbrev pub with_bit : ℕ → ℕ → ℕ
with_bit w n = w + cond (bit w n) 0 (2 ^ n)

-- without_bit w n: w with the bit at place n clear, the other bits as they are
abbrev pub without_bit : ℕ → ℕ → ℕ
without_bit w n = w - cond (bit w n) (2 ^ n) 0

-- word_below f k: the word whose bits are set at those places below k where f holds, and at no other
unfoldable pub word_below : (ℕ → Bool) → ℕ → ℕ
word_below f zero = 0
word_below f (suc k) = word_below f k + cond (f k) (2 ^ k) 0

-- count_below f k: at how many places below k f holds
unfoldable pub count_below : (ℕ → Bool) → ℕ → ℕ
count_below f zero = 0
count_below f (suc k) = count_below f k + cond (f k) 1 0
