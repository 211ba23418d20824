-- What a machine is, as a state of the unit.
use Rattle.std.specs.Prelude.{Some, None, Option}
use Rattle.memory.specs.declared.guest.GuestMemory
use Rattle.policies.specs.declared.policy.EvictionPolicy
use Rattle.runs.specs.Unit.{Running, State}
use Rattle.engine.specs.Views.{run_of}
use Rattle.engine.specs.declared.engine.Engine.{Engine}
use Rattle.engine.specs.declared.engine.Hart.{Hart}
use Rattle.calls.specs.declared.plain.PlainMachine.{PlainMachine}

-- the run of an engine, if there is a processor
abbrev pub run_with : {M P : Type 0} → EvictionPolicy.Ghosts P → Engine M P → Option Hart → Option Running
run_with policy e None = None
run_with policy e (Some h) = Some (run_of policy e h)

abbrev pub run_in : {M P : Type 0} → EvictionPolicy.Ghosts P → PlainMachine M P → Option Running
run_in policy u = run_with policy u.engine u.hart

abbrev pub state_in : {M P : Type 0} → GuestMemory.Ghosts M → EvictionPolicy.Ghosts P → PlainMachine M P → State
state_in memory policy u = record { memory = memory.frames u.engine.memory; run = run_in policy u }
