use Rattle.unit.proofs.Settling.{gives_up}
use Rattle.unit.proofs.Stepping.{give_up_promised}
use Rattle.unit.proofs.machine.Machine.step_give_up.Goals as goal

pub returns : goal.returns
returns g c =
    let p = give_up_promised _ _ _ c.args.self.now _ c.calls_lawful.ensures (record { plain = c.give_up.new.self; format = record {} }) _ c.give_up.ensures in
    record { promise = p; settles = gives_up _ _ _ _ p }
