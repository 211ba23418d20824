-- What an engine is, as a run of the unit.
use Rattle.std.specs.Prelude.{ℕ, Some, None, Ok, Err, Option, Result}
use Rattle.memory.specs.declared.guest.GuestMemory
use Rattle.policies.specs.declared.policy.EvictionPolicy
use Rattle.mmu.specs.Numbers.{exit_number}
use Rattle.paging.specs.Numbers.{privilege_number}
use Rattle.walk.specs.Marking.{marks_writes}
use Rattle.walk.specs.Numbers.{fault_numbers}
use Rattle.walk.specs.Walk.{Failure}
use Rattle.walk.specs.declared.fault.Fault.{Fault}
use Rattle.runs.specs.Terms.{Reply, through}
use Rattle.runs.specs.Terms as terms
use Rattle.runs.specs.Unit.{Ended, Running, State}
use Rattle.runs.specs.Unit as unit
use Rattle.engine.specs.Numbers.{tallied}
use Rattle.engine.specs.declared.engine.Engine.{Engine}
use Rattle.engine.specs.declared.engine.FaultRecord.{FaultRecord}
use Rattle.engine.specs.declared.engine.Hart.{Hart}
use Rattle.engine.specs.declared.engine.Through.{Through}

abbrev pub pending_fault : Option Fault → Option Failure
pending_fault None = None
pending_fault (Some f) = Some (fault_numbers f)

abbrev pub told_fault : Option FaultRecord → Option unit.RecordedFault
told_fault None = None
told_fault (Some f) = Some (record { address = f.address; code = f.code })

abbrev pub hart_of : Hart → unit.Hart
hart_of h = record {
  root = h.root;
  mode = privilege_number h.mode;
  pending = pending_fault h.pending;
  last = told_fault h.last;
  tallies = tallied h.tally.figures;
}

-- the processor in mode p
abbrev pub in_mode : unit.Hart → ℕ → unit.Hart
in_mode h p = record { root = h.root; mode = p; pending = h.pending; last = h.last; tallies = h.tallies }

-- nothing is pending any more, and this is what the guest was last told
abbrev pub settled : unit.Hart → Option unit.RecordedFault → unit.Hart
settled h l = record { root = h.root; mode = h.mode; pending = None; last = l; tallies = h.tallies }

-- the run of an engine and a processor, given what the policy means
abbrev pub run_of : {M P : Type 0} → EvictionPolicy.Ghosts P → Engine M P → Hart → Running
run_of policy e h = record { table = e.mmu.table; order = policy.order e.mmu.policy; hart = hart_of h }

-- the state of a machine whose run is open, given what its memory and its policy mean
abbrev pub state_of : {M P : Type 0} → GuestMemory.Ghosts M → EvictionPolicy.Ghosts P → Engine M P → Hart → State
state_of memory policy e h = record { memory = memory.frames e.memory; run = Some (run_of policy e h) }

abbrev pub through_of : Through → terms.Through
through_of x = record { target = x.frame; marks = marks_writes x.marks; value = x.value; exit = exit_number x.exit }

abbrev pub outcome_reply : Result Through Fault → Reply
outcome_reply (Ok x) = through (through_of x)
outcome_reply (Err f) = terms.faulted (fault_numbers f)

abbrev pub ended : Reply → State → Ended
ended r s = record { reply = r; next = s }
