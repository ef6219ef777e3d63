use Rattle.std.proofs.Common.{◌-◌, ◌^◌, ap, ◌∙◌, arith}
use lib.Bits.{bit_and}
use Rattle.std.proofs.lemmas.Nat.{one_shl}
use Rattle.bits.specs.Bit.{without_bit}
use Rattle.bits.proofs.Operators.{and_not_bit}
use Rattle.bits.proofs.places.Places.remove.Goals as goal

pub returns : goal.returns
returns c =
    let w = c.self.inside.word in
    ap (λ x. bit_and w ((2 ^ 64 - 1) - x)) (one_shl c.args.place 64 c.requires)
    ∙ and_not_bit 64 w c.args.place c.requires (omega arith) ∙ ap (λ x. without_bit x c.args.place) c.self.view_is
