-- What the machine's calls answer, in the terms of runs.
use Rattle.std.specs.Prelude.{◌≡◌, ℕ, Some, None, Ok, Err, Option, Result}
use Rattle.memory.specs.Numbers.{refusal_number}
use Rattle.memory.specs.declared.refusal.Refusal.{Refusal}
use Rattle.memory.specs.declared.refusal.Refused.{Refused}
use Rattle.walk.specs.Numbers.{fault_numbers}
use Rattle.runs.specs.Terms.{Reply, closed, done, no_exit, refused, through}
use Rattle.runs.specs.Terms as terms
use Rattle.runs.specs.Unit.{RecordedFault, Running}
use Rattle.engine.specs.Numbers.{tallied}
use Rattle.engine.specs.Views.{through_of, told_fault}
use Rattle.engine.specs.declared.engine.FaultRecord.{FaultRecord}
use Rattle.engine.specs.declared.engine.Through.{Through}
use Rattle.calls.specs.declared.plain.AccessError.{AccessError}
use Rattle.calls.specs.declared.plain.AccessError.TheVariants as error
use Rattle.unit.specs.declared.tokens.ClosedToken.{ClosedToken}
use Rattle.unit.specs.declared.tokens.PendingFault.{PendingFault}
use Rattle.unit.specs.declared.tokens.RunningToken.{RunningToken}

abbrev pub access_reply : Result Through (AccessError PendingFault) → Reply
access_reply (Ok x) = through (through_of x)
access_reply (Err (error.Refused e)) = refused (refusal_number e)
access_reply (Err (error.Faulted f)) = terms.faulted (fault_numbers f.fault)

abbrev pub open_reply : Result RunningToken Refusal → Reply
open_reply (Ok t) = done no_exit
open_reply (Err e) = refused (refusal_number e)

abbrev pub settle_reply : Result Unit (Refused PendingFault) → Reply
settle_reply (Ok u) = done no_exit
settle_reply (Err e) = refused (refusal_number e.refusal)

abbrev pub close_reply : Result ClosedToken (Refused RunningToken) → Reply
close_reply (Ok c) = closed (tallied c.tallies)
close_reply (Err e) = refused (refusal_number e.refusal)

-- the token is the root's
abbrev pub TokenOf : ℕ → Result RunningToken Refusal → Type 0
TokenOf root (Ok t) = t.root ≡ root
TokenOf root (Err e) = Unit {0}

-- a refused settlement hands the fault back
abbrev pub FaultBack : PendingFault → Result Unit (Refused PendingFault) → Type 0
FaultBack f (Ok u) = Unit {0}
FaultBack f (Err e) = e.back ≡ f

-- a refused close hands the token back
abbrev pub TokenBack : RunningToken → Result ClosedToken (Refused RunningToken) → Type 0
TokenBack t (Ok c) = Unit {0}
TokenBack t (Err e) = e.back ≡ t

-- what is answered to the question for the fault record: refusal 2 while no run is open
abbrev pub record_asked : Option Running → Result (Option RecordedFault) ℕ
record_asked None = Err 2
record_asked (Some r) = Ok r.hart.last

abbrev pub record_told : Result (Option FaultRecord) Refusal → Result (Option RecordedFault) ℕ
record_told (Ok x) = Ok (told_fault x)
record_told (Err e) = Err (refusal_number e)
