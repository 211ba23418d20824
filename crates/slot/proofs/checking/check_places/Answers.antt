use Rattle.slot.proofs.Checked.{checked_all, checked_more}
use Rattle.slot.proofs.checking.check_places.Goals as goal

pub loop-j-preserved : goal.loop-j-preserved
loop-j-preserved c = checked_more _ _ _ _ _ c.loop-j-test.true c.loop-j.invariant c.check.ensures

pub returns : goal.returns
returns c = checked_all _ _ _ _ c.loop-j-test.false c.loop-j.invariant
