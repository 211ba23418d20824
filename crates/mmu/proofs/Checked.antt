-- What it is to check the table of one slot.
use Rattle.std.proofs.Common.{◌≡◌, ℕ, List, false, true, cond, sym, ap, ◌∙◌}
use Rattle.memory.specs.Memory.{Memory}
use Rattle.slot.specs.Slot.{lags}
use Rattle.shadow.specs.Slots.{check_table, shadow_at}
use Rattle.shadow.specs.declared.slots.SlotTable.{SlotTable}
use Rattle.slot.specs.declared.slots.Shadow.TheVariants.{Table}
use Rattle.slot.specs.declared.slots.SyncState.{SyncState}
use Rattle.runs.specs.Unit.{frame_list, resync, table_frame}

pub checked : (i : ℕ) (ws : List ℕ) (t : SlotTable) (m : Memory) (f : ℕ) (s : SyncState) → lags (shadow_at i t) ≡ true → shadow_at i t ≡ Table f s → ws ≡ frame_list m f → check_table i ws t ≡ resync m i t
unfolding resync
checked i ws t m f s b e h =
    ap (λ vs. check_table i vs t) (h ∙ ap (frame_list m) (sym (ap table_frame e)))
    ∙ ap (λ b. cond b (check_table i (frame_list m (table_frame (shadow_at i t))) t) t) (sym b)

pub unchecked : (m : Memory) (i : ℕ) (t : SlotTable) → lags (shadow_at i t) ≡ false → resync m i t ≡ t
unfolding resync
unchecked m i t e = ap (λ b. cond b (check_table i (frame_list m (table_frame (shadow_at i t))) t) t) e
