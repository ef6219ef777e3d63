use Rattle.std.proofs.Common.{ap, ◌∙◌}
use lib.Bits.{bit_or}
use Rattle.std.proofs.lemmas.Nat.{one_shl}
use Rattle.bits.specs.Bit.{with_bit}
use Rattle.bits.proofs.Operators.{or_bit}
use Rattle.bits.proofs.places.Places.insert.Goals as goal

pub returns : goal.returns
returns c =
    let w = c.self.inside.word in
    ap (bit_or w) (one_shl c.args.place 64 c.requires) ∙ or_bit w c.args.place ∙ ap (λ x. with_bit x c.args.place) c.self.view_is
