-- What the code's values say, in the terms of runs.
use Rattle.std.specs.Prelude.{ℕ, List}
use Rattle.shadow.specs.declared.slots.SlotTable.{SlotTable}
use Rattle.runs.specs.Terms.{flush, hidden, no_exit, switch, trace, true_exit}
use Rattle.runs.specs.Unit.{Taken, Traced, one_if, taken}
use Rattle.mmu.specs.declared.exits.Exit.{Exit}
use Rattle.mmu.specs.declared.exits.Exit.TheVariants as exit
use Rattle.mmu.specs.declared.unit.TakenSlot.{TakenSlot}

abbrev pub exit_number : Exit → ℕ
exit_number exit.None = no_exit
exit_number exit.Hidden = hidden
exit_number exit.True = true_exit
exit_number exit.Trace = trace
exit_number exit.Flush = flush
exit_number exit.Switch = switch

-- what a taking answered, with the slots and the order after it
abbrev pub took : TakenSlot → SlotTable → List ℕ → Taken
took r t o = taken r.slot t o (one_if r.evicted)

-- the exit of a store that was traced, with the slots after it
abbrev pub traced_by : SlotTable → Exit → Traced
traced_by t x = record { table = t; exit = exit_number x }
