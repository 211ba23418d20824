-- What each call of the machine promises.
use Rattle.std.specs.Prelude.{◌≡◌, ℕ, ◌≤◌, true, []}
use Rattle.memory.specs.Memory.{Memory, has_words}
use Rattle.memory.specs.declared.guest.GuestMemory
use Rattle.paging.specs.declared.format.PageFormat
use Rattle.policies.specs.declared.policy.EvictionPolicy
use Rattle.runs.specs.Histories.{Opening}
use Rattle.runs.specs.Runs.{Lawful, Run}
use Rattle.runs.specs.Terms.{Call, Reply, closed, done, faulted, refused, through}
use Rattle.runs.specs.Unit.{State, opened_at, step}
use Rattle.engine.specs.Views.{ended}
use Rattle.calls.specs.Views.{state_in}
use Rattle.unit.specs.declared.machine.Machine.{Machine}

module _ {M F P : Type 0} (memory : GuestMemory.Ghosts M) (format : PageFormat.Ghosts F) (policy : EvictionPolicy.Ghosts P) where
  -- a machine as a state of the unit
  abbrev pub view : Machine M F P → State
  view s = state_in memory policy s.plain

  -- Of call c, made on machine s, with reply r, that leaves machine t.
  pub record Promised (c : Call) (s : Machine M F P) (r : Reply) (t : Machine M F P) : Type 0 where
    -- reply and machine afterwards are what the definition of the call says, refused or not
    pub is : ended r (view t) ≡ step policy.rule format.format (view s) c
    -- after every history that leads to s, the reply obeys the laws of runs, and the longer history leads to t
    pub law : Lawful format.format policy.rule (view s) c r (view t)

  -- the meaning of a machine's memory
  abbrev pub memory_of : Machine M F P → Memory
  memory_of s = memory.frames s.plain.engine.memory

  -- how a run begins that is opened on machine s
  abbrev pub opening : ℕ → Machine M F P → Opening
  opening root s = record { memory = memory_of s; root = root }

  -- Of an opening that was accepted, on machine s, with so many slots, that leaves machine t.
  pub record Begins (root slots : ℕ) (s t : Machine M F P) : Type 0 where
    pub many : 2 ≤ slots
    pub few : slots ≤ 8
    pub has : has_words (memory_of s root) ≡ true
    pub is : view t ≡ opened_at policy.rule (memory_of s) root slots
    -- the empty history leads to t, so that the laws of runs speak of every call from here on
    pub run : Run format.format policy.rule (opening root s) [] (view t)

  abbrev pub Begun : ℕ → ℕ → Machine M F P → Machine M F P → Reply → Type 0
  Begun root slots s t (refused n) = Unit {0}
  Begun root slots s t (through x) = Unit {0}
  Begun root slots s t (faulted x) = Unit {0}
  Begun root slots s t (done x) = Begins root slots s t
  Begun root slots s t (closed x) = Unit {0}
