-- Bonds keep the rules of a pledge.
use Rattle.std.specs.Prelude.{◌≡◌, ℕ, ◌+◌, ◌-◌, ◌*◌, ◌≤◌, min, Bool, true, false, cond, ◌⊎◌, nat_le, nat_lt, refl}
use Rattle.std.proofs.Common.{sym, ap, subst, ◌∙◌, inl, inr, mul-le-mul, mul-le-mul_right, add-mul, zero-mul, arith}
use Rattle.std.proofs.lemmas.Bool.{cond_both, leb-true, ltb-true}
use Rattle.pledge.specs.Limits.{Priced}
use Rattle.pledge.specs.Numbers.{Rules, Drawn}
use Rattle.kinds.specs.Amounts.{block_cover, top_blocks}
use Rattle.kinds.specs.Bonds.{bonded, reach, covered_on, blocks_on, sold_on}
use Rattle.kinds.specs.declared.bond.Bond.{Bond}
use Rattle.kinds.specs.Reach.{reach_least, reach_near, reach_none}

-- a number that counts only where a test holds: it is no larger, keeps its order, and falls by what is taken from it
when_le : (t : Bool) (n m : ℕ) → n ≤ m → cond t n 0 ≤ m
when_le true n m h = h
when_le false n m h = omega arith

when_mono : (t : Bool) (n m : ℕ) → n ≤ m → cond t n 0 ≤ cond t m 0
when_mono true n m h = h
when_mono false n m h = omega arith

when_sub : (t : Bool) (n k : ℕ) → k ≤ cond t n 0 → cond t (n - k) 0 + k ≡ cond t n 0
when_sub true n k h = omega arith
when_sub false n k h = omega arith

smaller : (m n : ℕ) → ((min m n ≡ m) × (m ≤ n)) ⊎ ((min m n ≡ n) × (n ≤ m))
smaller m n = grind arith

-- what holds of either product holds of the product of the smaller
min_mul : (m n p : ℕ) (P : ℕ → Type 0) → (m ≤ n → P (m * p)) → (n ≤ m → P (n * p)) → P (min m n * p)
min_mul m n p P f g =
    elim (smaller m n) [
      | inl e ↦ subst (λ (x : ℕ). P (x * p)) (sym e.0) (f e.1)
      | inr e ↦ subst (λ (x : ℕ). P (x * p)) (sym e.0) (g e.1)
    ]

covered_most : (b : Bond) (day : ℕ) → covered_on b day ≤ top_blocks
covered_most b day = when_le (nat_lt day b.expiry) b.blocks top_blocks b.most

sold_most : (b : Bond) (day : ℕ) → blocks_on b day ≤ top_blocks
sold_most b day = when_le (nat_le day b.expiry) b.blocks top_blocks b.most

drawn : (b : Bond) (ask day price : ℕ) → Priced price →
    Drawn bonded b ask day price (bonded.yields b ask day price) (bonded.left b ask day price)
drawn b ask day price h =
    let all : ℕ = blocks_on b day in
    let n : ℕ = sold_on b ask day price in
    let fewer : b.blocks - n ≤ b.blocks = omega arith in
    let no_more : n * price ≤ reach ask price * price = mul-le-mul_right price (omega arith) in
    record {
      none = λ e.
          let nothing : reach ask price ≡ 0 = subst (λ (x : ℕ). reach x price ≡ 0) (sym e) (reach_none price) in
          let none_sold : n ≡ 0 = omega arith in
          ap (λ x. x * price) none_sold ∙ zero-mul price;
      near = λ _. omega (arith, reach_near ask price h.low);
      most = mul-le-mul_right price (omega arith);
      least = min_mul (reach ask price) all price (λ y. min ask (all * price) ≤ y)
          (λ _. omega (arith, reach_least ask price h.low))
          (λ _. omega arith);
      falls =
          sym (add-mul (cond (nat_le day b.expiry) (b.blocks - n) 0) n price)
          ∙ ap (λ x. x * price) (when_sub (nat_le day b.expiry) b.blocks n (omega arith));
      cover_falls = λ d. mul-le-mul_right block_cover (when_mono (nat_lt d b.expiry) _ _ fewer);
      payable_falls = λ d q. mul-le-mul_right q (when_mono (nat_le d b.expiry) _ _ fewer);
      expiry_stays = refl;
    }

pub rules : Rules bonded
rules = record {
  expiry_most = λ b. b.days;
  cover_most = λ b day. omega (arith, mul-le-mul_right block_cover (covered_most b day));
  payable_most = λ b day price h. omega (arith, mul-le-mul (sold_most b day) h.high);
  step_least = λ b price h. h.low;
  step_most = λ b price h. omega (arith, h.high);
  cover_ends = λ b day h.
      cond_both (nat_lt day b.expiry) b.blocks 0 (λ x. x * block_cover ≡ 0)
      (λ e. omega (arith, ltb-true day b.expiry e))
      (λ _. refl);
  payable_ends = λ b day price h.
      cond_both (nat_le day b.expiry) b.blocks 0 (λ x. x * price ≡ 0)
      (λ e. omega (arith, leb-true day b.expiry e))
      (λ _. zero-mul price);
  draws = drawn;
}
