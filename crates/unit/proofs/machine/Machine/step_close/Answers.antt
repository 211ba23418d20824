use Rattle.unit.proofs.Stepping.{close_promised}
use Rattle.unit.proofs.machine.Machine.step_close.Goals as goal

pub returns : goal.returns
returns g c = close_promised _ _ _ _ c.calls_lawful.ensures _ _ c.close.ensures
