use Rattle.engine.proofs.Exactness.{exact}
use Rattle.engine.proofs.interface.decides_exactly.Goals as goal

pub returns : goal.returns
returns g c count rows valid taken = exact count rows (g.E.Engine.verdict count rows) (g.met.E.Engine.sound count rows valid) taken
