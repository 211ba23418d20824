use Rattle.std.proofs.Common.{◌+◌, ◌≤◌, length, vec_items, vec_len, vec_capacity}
use Rattle.unit.specs.Promises.{view}
use Rattle.unit.proofs.Answering.{Sofar}
use Rattle.unit.proofs.machine.Machine.answer_each.Given as goal

abbrev pub invariant-loop-call : goal.invariant-loop-call
invariant-loop-call g l =
    (vec_len l.answered + length l.calls ≤ l.call-index + vec_capacity l.answered)
    × (l.call-index ≤ length l.calls)
    × Sofar g.F.PageFormat.format g.P.EvictionPolicy.rule l.calls (view g.M.GuestMemory g.F.PageFormat g.P.EvictionPolicy l.initial.self) (vec_items l.initial.answered) (view g.M.GuestMemory g.F.PageFormat g.P.EvictionPolicy l.self) (vec_items l.answered) l.call-index
