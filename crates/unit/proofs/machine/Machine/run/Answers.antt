use Rattle.unit.proofs.Answering.{completed}
use Rattle.unit.proofs.machine.Machine.run.Goals as goal

pub returns : goal.returns
returns g c =
    completed _ _ _ _ _ _ _ _ c.answer_each.new.self _ _ _ c.runs_to_close_lawful.ensures (g.met.M.GuestMemory.bounded _) c.in_ok-step_open.ensures.promise.is c.in_ok-step_open.ensures.begun
    c.in_ok-answered.ensures.items c.answer_each.ensures.answers c.answer_each.ensures.leaves c.break_off.ensures
