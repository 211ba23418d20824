use Rattle.unit.proofs.Stepping.{switch_promised}
use Rattle.unit.proofs.machine.Machine.switch.Goals as goal

pub returns : goal.returns
returns g c = switch_promised _ _ _ _ _ c.calls_lawful.ensures _ _ c.switch.ensures
