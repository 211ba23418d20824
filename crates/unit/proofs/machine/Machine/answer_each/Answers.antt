use Rattle.std.proofs.Common.{not, ap, ◌∙◌, arith}
use Rattle.unit.specs.declared.requests.Call.TheVariants.{FlushAll}
use Rattle.unit.proofs.Answering.{all_made, closes, goes_on, open_if}
use Rattle.unit.proofs.machine.Machine.answer_each.Goals as goal

pub loop-call-preserved : goal.loop-call-preserved
loop-call-preserved g c = (
  omega arith,
  omega arith,
  goes_on _ _ _ _ _ _ _ _ _ _ FlushAll _ c.loop-call-test.true c.apply-reply.ensures.is c.push_reserved.ensures.items c.loop-call.invariant.2 (open_if g.M.GuestMemory g.F.PageFormat g.P.EvictionPolicy c.apply-reply.new.self ∙ c.is_none.ensures ∙ ap not c.if-is_none.false),
)

pub returns-then-is_none : goal.returns-then-is_none
returns-then-is_none g c =
    let over = closes _ _ _ _ _ _ _ _ _ _ FlushAll _ c.loop-call-test.true c.apply-reply.ensures.is c.push_reserved.ensures.items c.loop-call.invariant.2 (open_if g.M.GuestMemory g.F.PageFormat g.P.EvictionPolicy c.apply-reply.new.self ∙ c.is_none.ensures ∙ ap not c.if-is_none.true) in
    record { answers = over.answers; leaves = over.leaves }

pub returns : goal.returns
returns g c =
    let over = all_made _ _ _ _ _ _ _ _ c.loop-call-test.false c.loop-call.invariant.2 in
    record { answers = over.answers; leaves = over.leaves }
