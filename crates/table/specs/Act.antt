-- A call as a value: why it is refused, what it answers, and what it does.
use Rattle.std.specs.Prelude.{◌≡◌, ℕ, Bool, cond, ◌||◌, List, [], ◌∷◌, Some, None, Ok, Err, Option, Result, nat_lt}
use Rattle.table.specs.declared.refusal.Refusal.{Refusal}

pub record Act (W X : Type 0) : Type 0 where
  -- the refusal, if there is a cause for one
  pub cause : W → Option Refusal
  pub value : W → X
  pub done : W → W

-- the call `a` on `before` answers the result and leaves `after`; a refusal changes nothing
abbrev pub Acted : {W X : Type 0} → Act W X → W → W → Result X Refusal → Type 0
Acted a before after (Ok x) = (a.cause before ≡ None) × (x ≡ a.value before) × (after ≡ a.done before)
Acted a before after (Err e) = (a.cause before ≡ Some e) × (after ≡ before)

-- the first of a list of causes that holds
abbrev pub first : List (Bool × Refusal) → Option Refusal
first [] = None
first (p ∷ ps) = cond p.0 (Some p.1) (first ps)

-- a question is refused for a cause, or answered
abbrev pub Answered : {X : Type 0} → Option Refusal → X → Result X Refusal → Type 0
Answered cause value (Ok x) = (cause ≡ None) × (x ≡ value)
Answered cause value (Err e) = cause ≡ Some e

-- what is looked for is found, or there is a cause why not
abbrev pub Found : {X : Type 0} → Option Refusal → Option X → Result X Refusal → Type 0
Found cause o (Ok x) = (cause ≡ None) × (o ≡ Some x)
Found cause o (Err e) = cause ≡ Some e

-- the second of two causes counts where there is no first
abbrev pub also : Option Refusal → Option Refusal → Option Refusal
also None second = second
also (Some e) second = Some e

abbrev pub outside : ℕ → ℕ → ℕ → Bool
outside low high n = nat_lt n low || nat_lt high n
