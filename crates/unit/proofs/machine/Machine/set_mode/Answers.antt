use Rattle.unit.proofs.Stepping.{mode_promised}
use Rattle.unit.proofs.machine.Machine.set_mode.Goals as goal

pub returns : goal.returns
returns g c = mode_promised _ _ _ _ _ c.calls_lawful.ensures _ _ c.set_mode.ensures
