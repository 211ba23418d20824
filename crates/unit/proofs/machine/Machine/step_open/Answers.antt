use Rattle.unit.proofs.Stepping.{begun, open_promised}
use Rattle.unit.proofs.machine.Machine.step_open.Goals as goal

pub returns : goal.returns
returns g c = record {
  promise = open_promised _ _ _ _ _ _ c.calls_lawful.ensures _ _ c.open.ensures;
  begun = begun _ _ _ _ _ _ _ (g.met.M.GuestMemory.bounded _) _ c.open.ensures;
}
