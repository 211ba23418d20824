use Rattle.std.proofs.Common.{◌≡◌}
use Rattle.slot.proofs.Over.{Over}
use Rattle.slot.proofs.changing.change_all.Given as goal

abbrev pub invariant-loop-each : goal.invariant-loop-each
invariant-loop-each g l = goal.F-IsAlwaysCallable g l.change × ((f : g.row.T.Denot → g.row.T.Denot) → ((x y : _) → goal.F-post g l.change x tt y → y.now ≡ f x.now) → Over f l.initial.all l.all l.each-index)
