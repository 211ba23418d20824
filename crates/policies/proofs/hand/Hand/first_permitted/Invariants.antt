use Rattle.std.proofs.Common.{◌≡◌, ◌-◌, ◌≤◌, drop}
use Rattle.policies.specs.Orders.{first_permitted, from_hand}
use Rattle.policies.proofs.hand.Hand.first_permitted.Given as goal

-- the slots from here on decide
abbrev pub invariant-loop-passed : goal.invariant-loop-passed
invariant-loop-passed l =
    (l.places.start ≤ l.self.count)
    × (l.places.end ≡ l.self.count)
    × (first_permitted l.permitted (from_hand l.self.hand l.self.count) ≡ first_permitted l.permitted (drop l.places.start (from_hand l.self.hand l.self.count)))

abbrev pub decreases-loop-passed : goal.decreases-loop-passed
decreases-loop-passed l = l.places.end - l.places.start
