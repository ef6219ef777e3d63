use Rattle.std.proofs.Common.{◌+◌, ◌<◌, cond, eqb, length, get_or, sym, ap, ◌∙◌, subst, arith}
use Rattle.std.specs.Option.{IfSome}
use Rattle.lending.specs.Sound.{top_elevens, SoundOffer}
use Rattle.lending.specs.Steps.{earns_in}
use Rattle.lending.proofs.Bounds.{parts_whole}
use Rattle.lending.proofs.Tallies.{added}
use Rattle.lending.proofs.lend.earn.Goals as goal

pub returns-in-Some-clause-earned : goal.returns-in-Some-clause-earned
returns-in-Some-clause-earned c = λ s.
    let o = c.in-Some.offer in
    let sound : SoundOffer top_elevens o = subst (λ p. IfSome p (SoundOffer top_elevens)) c.in-Some.is c.requires.sound in
    let own : o.security < length c.args.earned.now = omega arith in
    added c.args.earned.now o.security _ s own
    ∙ ap (λ n. get_or c.args.earned.now s 0 + cond (eqb o.security s) n 0) (parts_whole c.args.given o.rate o.commission sound.0.3)
    ∙ ap (λ p. get_or c.args.earned.now s 0 + earns_in s p c.args.given) (sym c.in-Some.is)
