-- A call that is not refused.
use Rattle.std.proofs.Common.{◌≡◌, ℕ, Bool, true, false, List, [], ◌∷◌, None, refl, arith}
use Rattle.table.specs.declared.refusal.Refusal.{Refusal}
use Rattle.table.specs.Act.{first}

-- none of the causes holds
abbrev pub Clear : List (Bool × Refusal) → Type 0
Clear [] = Unit {0}
Clear (p ∷ ps) = (p.0 ≡ false) × Clear ps

pub clear : (ps : List (Bool × Refusal)) → first ps ≡ None → Clear ps
clear [] h = tt
clear ((true, e) ∷ ps) h = let z : ◌≡◌ {A = ℕ} 0 1 = cc in absurd (omega arith)
clear ((false, e) ∷ ps) h = (refl, clear ps h)
