use Rattle.unit.proofs.Stepping.{flush_all_promised}
use Rattle.unit.proofs.machine.Machine.flush_all.Goals as goal

pub returns : goal.returns
returns g c = flush_all_promised _ _ _ _ c.calls_lawful.ensures _ _ c.flush_all.ensures
