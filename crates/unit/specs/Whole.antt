-- What a list of calls promises, from an opening to its close.
use Rattle.std.specs.Prelude.{◌≡◌, ℕ, List, map, None, Ok, Err, vec_items, Result, Vec}
use Rattle.memory.specs.Numbers.{refusal_number}
use Rattle.memory.specs.declared.guest.GuestMemory
use Rattle.mmu.specs.Numbers.{exit_number}
use Rattle.paging.specs.Numbers.{privilege_number}
use Rattle.paging.specs.Terms.{fetch, load, store}
use Rattle.paging.specs.declared.format.PageFormat
use Rattle.policies.specs.declared.policy.EvictionPolicy
use Rattle.walk.specs.Numbers.{fault_numbers}
use Rattle.walk.specs.declared.fault.Fault.{Fault}
use Rattle.runs.specs.Laws.{LawfulRun}
use Rattle.runs.specs.Runs.{left_by, replies_to_close}
use Rattle.runs.specs.Terms as terms
use Rattle.runs.specs.Unit.{opened_at, step}
use Rattle.engine.specs.Numbers.{tallied}
use Rattle.engine.specs.Views.{ended, through_of}
use Rattle.calls.specs.declared.plain.AccessError.{AccessError}
use Rattle.calls.specs.declared.plain.AccessError.TheVariants as access_error
use Rattle.unit.specs.Promises.{memory_of, opening, view}
use Rattle.unit.specs.declared.machine.Machine.{Machine}
use Rattle.unit.specs.declared.requests.Call.{Call}
use Rattle.unit.specs.declared.requests.Call.TheVariants as call
use Rattle.unit.specs.declared.requests.Reply.{Reply}
use Rattle.unit.specs.declared.requests.Reply.TheVariants as reply
use Rattle.unit.specs.declared.requests.RunError.{RunError}
use Rattle.unit.specs.declared.requests.RunError.TheVariants as error

abbrev pub call_of : Call → terms.Call
call_of call.FlushAll = terms.flush_all
call_of (call.Load a) = terms.access load a 0
call_of (call.Store a w) = terms.access store a w
call_of (call.Fetch a) = terms.access fetch a 0
call_of (call.FlushPage a) = terms.flush_page a
call_of (call.Switch f) = terms.switch_root f
call_of (call.SetMode p) = terms.set_mode (privilege_number p)
call_of (call.Deliver x) = terms.deliver (fault_numbers x)
call_of (call.GiveUp x) = terms.give_up (fault_numbers x)
call_of call.Close = terms.close_run
call_of (call.Open f n) = terms.open_run f n
call_of (call.Poke f i w) = terms.poke f i w

abbrev pub reply_of : Reply → terms.Reply
reply_of (reply.Refused e) = terms.refused (refusal_number e)
reply_of (reply.Through x) = terms.through (through_of x)
reply_of (reply.Faulted x) = terms.faulted (fault_numbers x)
reply_of (reply.Done x) = terms.done (exit_number x)
reply_of (reply.Closed t) = terms.closed (tallied t)

-- how an access that did not come through is answered
abbrev pub error_reply : AccessError Fault → Reply
error_reply (access_error.Refused e) = reply.Refused e
error_reply (access_error.Faulted f) = reply.Faulted f

abbrev pub calls_of : List Call → List terms.Call
calls_of cs = map call_of cs

abbrev pub replies_of : List Reply → List terms.Reply
replies_of rs = map reply_of rs

module _ {M F P : Type 0} (memory : GuestMemory.Ghosts M) (format : PageFormat.Ghosts F) (policy : EvictionPolicy.Ghosts P) where
  -- Of a run that was opened on machine s, made these calls with these answers, and left machine t.
  pub record Completed (root slots : ℕ) (cs : List Call) (s t : Machine M F P) (rs : List Reply) : Type 0 where
    -- the opening is accepted
    pub begins : step policy.rule format.format (view memory format policy s) (terms.open_run root slots) ≡ ended (terms.done terms.no_exit) (opened_at policy.rule (memory_of memory format policy s) root slots)
    -- the answers, one for each call up to the one that closes the run
    pub answers : replies_of rs ≡ replies_to_close format.format policy.rule (opened_at policy.rule (memory_of memory format policy s) root slots) (calls_of cs)
    -- memory is as the calls left it, and no run is open
    pub leaves : view memory format policy t ≡ record { memory = (left_by format.format policy.rule (opened_at policy.rule (memory_of memory format policy s) root slots) (calls_of cs)).memory; run = None }
    -- the law of whole runs
    pub law : LawfulRun format.format (opening memory format policy root s) (calls_of cs) (replies_of rs)

  -- What a list of calls comes to: a completed run, a refused opening, or want of memory, which alters nothing.
  -- When there is too little memory is not for the rules to say.
  abbrev pub Ran : {A : Type 0} → ℕ → ℕ → List Call → Machine M F P → Machine M F P → Result (Vec Reply A) RunError → Type 0
  Ran root slots cs s t (Ok v) = Completed root slots cs s t (vec_items v)
  Ran root slots cs s t (Err (error.Refused e)) = ended (terms.refused (refusal_number e)) (view memory format policy t) ≡ step policy.rule format.format (view memory format policy s) (terms.open_run root slots)
  Ran root slots cs s t (Err error.NoMemory) = view memory format policy t ≡ view memory format policy s
