-- The number and the values of each answer and refusal.
use Rattle.std.specs.Prelude.{ℕ, Ok, Err, Result}
use Rattle.memory.specs.Answers.{Answer, answer}
use Rattle.memory.specs.declared.guest.Cause.{Cause}
use Rattle.memory.specs.declared.refusal.Refusal.{Refusal}
use Rattle.memory.specs.declared.refusal.Refusal.TheVariants.{CallLimit, FaultPending, NoRun, NoWords, OtherFault, PartitionRange, RunOpen, SlotCount, Unaligned, WordIndex}

-- a read: 0 and the word, or 1 and the number of the cause
abbrev pub read_answer : Result ℕ Cause → Answer
read_answer (Ok w) = answer 0 w
read_answer (Err c) = answer 1 c.number

-- a write: 0, or 1 and the number of the cause
abbrev pub write_answer : Result Unit Cause → Answer
write_answer (Ok u) = answer 0 0
write_answer (Err c) = answer 1 c.number

abbrev pub refusal_number : Refusal → ℕ
refusal_number RunOpen = 1
refusal_number NoRun = 2
refusal_number NoWords = 3
refusal_number SlotCount = 4
refusal_number Unaligned = 5
refusal_number FaultPending = 6
refusal_number CallLimit = 7
refusal_number WordIndex = 8
refusal_number PartitionRange = 9
refusal_number OtherFault = 10
