use Rattle.unit.proofs.Settling.{delivers}
use Rattle.unit.proofs.Stepping.{deliver_promised}
use Rattle.unit.proofs.machine.Machine.step_deliver.Goals as goal

pub returns : goal.returns
returns g c =
    let p = deliver_promised _ _ _ c.args.self.now _ c.calls_lawful.ensures (record { plain = c.deliver.new.self; format = record {} }) _ c.deliver.ensures in
    record { promise = p; settles = delivers _ _ _ _ p }
