-- What the code's values say, in plain numbers.
use Rattle.std.specs.Prelude.{ℕ, List, [], ◌∷◌, Some, None, Ok, Err, Option, Result}
use Rattle.memory.specs.declared.guest.Cause.{Cause}
use Rattle.paging.specs.Formats.{Format}
use Rattle.paging.specs.Numbers.{kind_number, level_number, privilege_number, reason_number}
use Rattle.walk.specs.Walk.{Asked, Failure, Outcome, Seen, Spot, failure, faulted, reached, spot}
use Rattle.walk.specs.declared.fault.Access.{Access}
use Rattle.walk.specs.declared.fault.Depth.{Depth}
use Rattle.walk.specs.declared.fault.Depth.TheVariants.{Entry, Target}
use Rattle.walk.specs.declared.fault.Fault.{Fault}
use Rattle.walk.specs.declared.fault.Place.{Place}
use Rattle.walk.specs.declared.fault.Stop.{Stop}
use Rattle.walk.specs.declared.path.EntryRead.{EntryRead}
use Rattle.walk.specs.declared.path.Walked.{Walked}

abbrev pub asked : Access → Asked
asked a = record { address = a.address; kind = kind_number a.kind; privilege = privilege_number a.privilege }

-- an entry's level is 2 in the directory and 1 in a table, the target's is 0
abbrev pub depth_number : Depth → ℕ
depth_number (Entry l) = level_number l
depth_number Target = 0

abbrev pub place_spot : Place → Spot
place_spot p = spot (depth_number p.depth) p.frame p.index

abbrev pub entry_seen : EntryRead → Seen
entry_seen e = record { spot = spot (level_number e.level) e.frame e.index; word = e.word }

abbrev pub fault_numbers : Fault → Failure
fault_numbers f = record {
  address = f.address;
  reason = reason_number f.reason;
  spot = spot (depth_number f.depth) f.frame f.index;
  code = f.code;
  cause = f.cause;
}

abbrev pub entries : EntryRead → Option EntryRead → List Seen
entries d None = entry_seen d ∷ []
entries d (Some t) = entry_seen d ∷ entry_seen t ∷ []

abbrev pub walked_outcome : Walked → Outcome
walked_outcome w = reached w.target (entries w.directory w.table)

-- what a walk answered
abbrev pub outcome : Result Walked Fault → Outcome
outcome (Ok w) = walked_outcome w
outcome (Err f) = faulted (fault_numbers f)

-- a walk that stopped for want of anything but words has no cause, which a fault says by 0
abbrev pub cause_number : Option Cause → ℕ
cause_number None = 0
cause_number (Some c) = c.number

-- what a walk that stopped will answer, once address and code are added
abbrev pub stop_failure : Format → Asked → Stop → Failure
stop_failure F a s = failure F a (reason_number s.reason) (place_spot s.place) (cause_number s.cause)

abbrev pub stopped : Format → Asked → Result Walked Stop → Outcome
stopped F a (Ok w) = walked_outcome w
stopped F a (Err s) = faulted (stop_failure F a s)
