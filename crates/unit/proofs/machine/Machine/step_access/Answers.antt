use Rattle.unit.proofs.Settling.{waits}
use Rattle.unit.proofs.Stepping.{access_promised}
use Rattle.unit.proofs.machine.Machine.step_access.Goals as goal

pub returns : goal.returns
returns g c =
    let p = access_promised _ _ _ c.args.self.now _ _ _ c.calls_lawful.ensures (record { plain = c.access.new.self; format = record {} }) _ c.access.ensures in
    record { promise = p; waits = waits _ _ _ p }
