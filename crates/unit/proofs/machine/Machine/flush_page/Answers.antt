use Rattle.unit.proofs.Stepping.{flush_page_promised}
use Rattle.unit.proofs.machine.Machine.flush_page.Goals as goal

pub returns : goal.returns
returns g c = flush_page_promised _ _ _ _ _ c.calls_lawful.ensures _ _ c.flush_page.ensures
