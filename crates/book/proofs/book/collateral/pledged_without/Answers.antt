use Rattle.std.proofs.Common.{arith}
use Rattle.book.specs.Shelves.{both}
use Rattle.book.proofs.Releases.{covers_without}
use Rattle.book.proofs.book.collateral.pledged_without.Goals as goal

pub overflow_sub-result : goal.overflow_sub-result
overflow_sub-result g c =
    let a = c.args in
    let left = covers_without g.P.Pledge.numbers g.Q.Pledge.numbers (both a.first.now a.second.now) a.day a.shelf a.place a.lodging (omega arith) (omega arith) c.requires.lodged in
    omega (arith, c.pledged_on.ensures)

pub returns : goal.returns
returns g c =
    let a = c.args in
    let left = covers_without g.P.Pledge.numbers g.Q.Pledge.numbers (both a.first.now a.second.now) a.day a.shelf a.place a.lodging (omega arith) (omega arith) c.requires.lodged in
    omega (arith, c.pledged_on.ensures)
