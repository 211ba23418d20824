-- The name of each exit, as it is printed.
use Rattle.std.specs.Prelude.{ℕ, List, codes}
use Rattle.mmu.specs.declared.exits.Exit.{Exit}
use Rattle.mmu.specs.declared.exits.Exit.TheVariants as exit

abbrev pub exit_name : Exit → List ℕ
exit_name exit.None = codes "none"
exit_name exit.Hidden = codes "hidden"
exit_name exit.True = codes "true"
exit_name exit.Trace = codes "trace"
exit_name exit.Flush = codes "flush"
exit_name exit.Switch = codes "switch"
