-- The refusals that come before a call is looked at, by number.
use Rattle.std.specs.Prelude.{ℕ, cond, is_some, Some, None, Ok, Err, Option, Result, nat_le}
use Rattle.memory.specs.Numbers.{refusal_number}
use Rattle.memory.specs.declared.refusal.Refusal.{Refusal}
use Rattle.walk.specs.Walk.{Failure}
use Rattle.runs.specs.Unit.{Ended, Hart, Running, State, call_limit, is_pending, refuse}

-- the number of a refusal, if there is one
abbrev pub refused_with : Result Unit Refusal → Option ℕ
refused_with (Ok u) = None
refused_with (Err e) = Some (refusal_number e)

-- while a fault is pending
abbrev pub ready_gate : Hart → Option ℕ
ready_gate h = cond (is_some h.pending) (Some 6) None

-- of two refusals, the first
abbrev pub or_else : Option ℕ → Option ℕ → Option ℕ
or_else x None = x
or_else x (Some n) = Some n

abbrev pub full_gate : Hart → Option ℕ
full_gate h = cond (nat_le call_limit h.tallies.calls) (Some 7) None

-- .. and where as many calls are counted as may be
abbrev pub count_gate : Hart → Option ℕ
count_gate h = or_else (full_gate h) (ready_gate h)

-- where another fault or none is pending
abbrev pub settle_gate : Failure → Option Failure → Option ℕ
settle_gate x pending = cond (is_pending x pending) None (Some 10)

-- what a call ends in: a refusal, or else x
abbrev pub guarded : State → Ended → Option ℕ → Ended
guarded s x None = x
guarded s x (Some n) = refuse s n

-- what a call of a run ends in: it is refused while none is open, and else by its gate
abbrev pub in_run : State → (Hart → Option ℕ) → (Running → Ended) → Option Running → Ended
in_run s gate x None = refuse s 2
in_run s gate x (Some r) = guarded s (x r) (gate r.hart)

-- what a call between runs ends in: it is refused while one is open
abbrev pub between_runs : State → Ended → Option Running → Ended
between_runs s x None = x
between_runs s x (Some r) = refuse s 1
