-- A file has one meaning only.
use Rattle.std.proofs.Common.{◌≡◌, ℕ, List, ◌∷◌, refl, ap, ◌∙◌, arith}
use Rattle.dayfile.specs.Outcome.{Reading}
use Rattle.dayfile.specs.File.{Ending, Holds, at_end, at_fault, at_record, is_too_long, has_no_version, has_version, OneMeaning}

one_rest : (bs : List ℕ) {p : ℕ} {rs ss : List Reading} {e f : Ending} → Holds bs p rs e → Holds bs p ss f → (rs ≡ ss) × (e ≡ f)
one_rest bs (at_end p x) (at_end _ y) = (refl, refl)
one_rest bs (at_end p x) (at_fault _ g y) = let z : ◌≡◌ {A = ℕ} 0 1 = cc in absurd (omega arith)
one_rest bs (at_end p x) (at_record _ s n ss f y h) = let z : ◌≡◌ {A = ℕ} 0 1 = cc in absurd (omega arith)
one_rest bs (at_fault p f x) (at_end _ y) = let z : ◌≡◌ {A = ℕ} 0 1 = cc in absurd (omega arith)
one_rest bs (at_fault p f x) (at_fault _ g y) = let z : f ≡ g = cc in (refl, cc)
one_rest bs (at_fault p f x) (at_record _ s n ss g y h) = let z : ◌≡◌ {A = ℕ} 0 1 = cc in absurd (omega arith)
one_rest bs (at_record p r m rs e x g) (at_end _ y) = let z : ◌≡◌ {A = ℕ} 0 1 = cc in absurd (omega arith)
one_rest bs (at_record p r m rs e x g) (at_fault _ f y) = let z : ◌≡◌ {A = ℕ} 0 1 = cc in absurd (omega arith)
one_rest bs (at_record p r m rs e x g) (at_record _ s n ss f y h) =
    let same : r ≡ s = cc in
    let next : n ≡ m = cc in
    let rest = one_rest bs g (rw next at h) in
    (ap (λ z. z ∷ rs) same ∙ ap (λ z. s ∷ z) rest.0, rest.1)

pub one_meaning : (bs : List ℕ) → OneMeaning bs
one_meaning bs _ _ _ _ (is_too_long l) (is_too_long m) = (refl, refl)
one_meaning bs _ _ _ _ (is_too_long l) (has_no_version m v) = absurd (omega arith)
one_meaning bs _ _ _ _ (is_too_long l) (has_version rs e m v h) = absurd (omega arith)
one_meaning bs _ _ _ _ (has_no_version l v) (is_too_long m) = absurd (omega arith)
one_meaning bs _ _ _ _ (has_no_version l v) (has_no_version m w) = (refl, refl)
one_meaning bs _ _ _ _ (has_no_version l v) (has_version rs e m w h) = absurd (v w)
one_meaning bs _ _ _ _ (has_version rs e l v g) (is_too_long m) = absurd (omega arith)
one_meaning bs _ _ _ _ (has_version rs e l v g) (has_no_version m w) = absurd (w v)
one_meaning bs _ _ _ _ (has_version rs e l v g) (has_version ss f m w h) = one_rest bs g h
