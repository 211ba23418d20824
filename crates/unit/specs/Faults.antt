-- Faults that wait to be settled.
use Rattle.std.specs.Prelude.{◌≡◌, Some, None, Option}
use Rattle.walk.specs.Walk.{Failure}
use Rattle.runs.specs.Terms.{Reply, closed, done, faulted, refused, through}
use Rattle.runs.specs.Unit.{Running, State}

abbrev pub waiting_in : Option Running → Option Failure
waiting_in None = None
waiting_in (Some r) = r.hart.pending

-- the fault that waits in a state of the unit, if there is one
abbrev pub waiting : State → Option Failure
waiting s = waiting_in s.run

-- a fault that was answered waits in the state that is left
abbrev pub Waits : State → Reply → Type 0
Waits s (refused n) = Unit {0}
Waits s (through x) = Unit {0}
Waits s (faulted x) = waiting s ≡ Some x
Waits s (done x) = Unit {0}
Waits s (closed x) = Unit {0}
