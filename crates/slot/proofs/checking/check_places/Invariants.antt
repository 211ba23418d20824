use Rattle.slot.proofs.Checked.{Checked}
use Rattle.slot.proofs.checking.check_places.Given as goal

abbrev pub invariant-loop-j : goal.invariant-loop-j
invariant-loop-j l = Checked l.words l.initial.places l.places l.j
