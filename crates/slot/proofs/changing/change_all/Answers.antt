use Rattle.slot.proofs.Over.{over_more}
use Rattle.slot.proofs.changing.change_all.Goals as goal

pub loop-each-preserved : goal.loop-each-preserved
loop-each-preserved g c = (
  c.loop-each.invariant.0,
  λ f h. over_more f _ _ _ c.each-item.result _ c.loop-each-test.true c.loop-each.auto.all (c.loop-each.invariant.1 f h) (h _ _ c.change.ensures),
)
