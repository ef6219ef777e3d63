use Rattle.std.proofs.Common.{◌≡◌, ℕ, true, Ok, Err, Result, MatchResult, is_ok, refl}
use Rattle.instruction.specs.declared.kind.Kind.{Kind}
use Rattle.instruction.specs.declared.kind.UnknownKind.{UnknownKind}
use Rattle.instruction.specs.declared.unread.Unread.{Unread}
use Rattle.instruction.specs.Kinds.{known}
use Rattle.instruction.specs.Kind.{kind_number, Decodes}
use Rattle.instruction.proofs.read.read_instruction.Goals as goal

-- a kind that came out of the decoding has the number that went in
decoded : (n : ℕ) (r : Result Kind UnknownKind) (q : Result Kind Unread) (k : Kind) → q ≡ Ok k → Decodes n r → true ≡ is_ok r → (Q : UnknownKind → Type 0) → MatchResult r (λ x. q ≡ Ok x) Q → (kind_number k ≡ n) × (known n ≡ true)
decoded n (Ok x) q k is d o Q same = let e : k ≡ x = cc in (rw e d.0, d.1)
decoded n (Err e) q k is d o Q same = absurd (cc)

pub returns : goal.returns
returns c =
    let d = decoded c.args.kind c.try_from.result _ c.in_ok-kind.kind refl c.try_from.ensures c.in_ok-kind.ensures.variant _ c.in_ok-kind.ensures.cases in
    rw d.0 at c.read_fields.ensures
