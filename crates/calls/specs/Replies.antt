-- What calls answer, in the terms of runs.
use Rattle.std.specs.Prelude.{Ok, Err, Result}
use Rattle.memory.specs.Numbers.{refusal_number}
use Rattle.memory.specs.declared.refusal.Refusal.{Refusal}
use Rattle.mmu.specs.Numbers.{exit_number}
use Rattle.mmu.specs.declared.exits.Exit.{Exit}
use Rattle.runs.specs.Terms.{Reply, closed, done, no_exit, refused, through}
use Rattle.runs.specs.Terms as terms
use Rattle.walk.specs.Numbers.{fault_numbers}
use Rattle.walk.specs.declared.fault.Fault.{Fault}
use Rattle.engine.specs.Numbers.{tallied}
use Rattle.engine.specs.Views.{through_of}
use Rattle.engine.specs.declared.engine.Through.{Through}
use Rattle.engine.specs.declared.tallies.Tallies.{Tallies}
use Rattle.calls.specs.declared.plain.AccessError.{AccessError}
use Rattle.calls.specs.declared.plain.AccessError.TheVariants as error

abbrev pub access_reply : Result Through (AccessError Fault) → Reply
access_reply (Ok x) = through (through_of x)
access_reply (Err (error.Refused e)) = refused (refusal_number e)
access_reply (Err (error.Faulted f)) = terms.faulted (fault_numbers f)

-- of a flush or a switch
abbrev pub exit_reply : Result Exit Refusal → Reply
exit_reply (Ok x) = done (exit_number x)
exit_reply (Err e) = refused (refusal_number e)

-- of a call without an exit
abbrev pub quiet_reply : Result Unit Refusal → Reply
quiet_reply (Ok u) = done no_exit
quiet_reply (Err e) = refused (refusal_number e)

abbrev pub close_reply : Result Tallies Refusal → Reply
close_reply (Ok t) = closed (tallied t)
close_reply (Err e) = refused (refusal_number e)
