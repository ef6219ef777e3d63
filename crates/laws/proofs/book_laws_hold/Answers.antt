use Rattle.laws.proofs.Runs.{laws}
use Rattle.laws.proofs.book_laws_hold.Goals as goal

pub returns : goal.returns
returns g c = laws g.P.Pledge.numbers g.Q.Pledge.numbers
