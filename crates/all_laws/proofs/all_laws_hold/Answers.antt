use Rattle.all_laws.proofs.Runs.{laws}
use Rattle.all_laws.proofs.all_laws_hold.Goals as goal

pub returns : goal.returns
returns g c = laws g.P.Pledge.numbers g.Q.Pledge.numbers g.met.P.Pledge.rules g.met.Q.Pledge.rules
