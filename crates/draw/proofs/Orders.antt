-- The order of turns.
use Rattle.std.proofs.Common.{◌≡◌, ◌+◌, true, false, arith}
use Rattle.std.proofs.lemmas.Bool.Decides.{nat_tests}
use Rattle.draw.specs.Draws.{sooner}
use Rattle.draw.specs.declared.turn.Turn.{Turn}

-- the turn that no other comes before
abbrev pub start_turn : Turn
start_turn = record { expiry = 0; place = 0 }

-- past t: the turn right after t
abbrev pub past : Turn → Turn
past t = record { expiry = t.expiry; place = t.place + 1 }

pub sooner_self : (t : Turn) → sooner t t ≡ false
sooner_self t = grind (arith, nat_tests)

-- s comes before t, and t not after u
pub sooner_through : (s t u : Turn) → sooner s t ≡ true → sooner u t ≡ false → sooner s u ≡ true
sooner_through s t u p q = grind (arith, nat_tests)

-- t comes before u, and s not before u
pub sooner_not : (s t u : Turn) → sooner s u ≡ false → sooner t u ≡ true → sooner s t ≡ false
sooner_not s t u p q = grind (arith, nat_tests)

-- only t itself lies between t and the turn past it
pub sooner_past : (s t : Turn) → (s.place ≡ t.place → ⊥) → sooner s (past t) ≡ sooner s t
sooner_past s t ne = grind (arith, nat_tests)

pub sooner_here : (t : Turn) → sooner t (past t) ≡ true
sooner_here t = grind (arith, nat_tests)

pub sooner_start : (t : Turn) → sooner t start_turn ≡ false
sooner_start t = grind (arith, nat_tests)
