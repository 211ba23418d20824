use Rattle.std.proofs.Common.{◌≡◌, ◌-◌}
use Rattle.policies.specs.Orders.{rising}
use Rattle.runs.specs.Unit.{resync_all, resync_each}
use Rattle.mmu.proofs.unit.Mmu.resync_all.Given as goal

abbrev pub invariant-loop-slot : goal.invariant-loop-slot
invariant-loop-slot g l = record {
  table : resync_each (g.M.GuestMemory.frames l.memory) (rising l.slot (8 - l.slot)) l.self.table ≡ resync_all (g.M.GuestMemory.frames l.memory) l.fn.self.table;
  policy : l.self.policy ≡ l.fn.self.policy;
}
