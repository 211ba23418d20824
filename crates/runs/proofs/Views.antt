-- A slot table as two functions: what each slot shadows, and what stands at each place. What the calls of a slot table do to
-- them. A place from index 1,024 on is empty.
use Rattle.std.proofs.Common.{◌≡◌, ℕ, ◌+◌, ◌<◌, cond, ◌&&◌, eqb, length, get_or}
use Rattle.memory.specs.Memory.{Memory}
use Rattle.shadow.specs.Slots.{place_at, shadow_at}
use Rattle.slot.specs.Slot.{check_place, copies, flag_off, guard_leaf, no_slot, shadow_of, unlink_place, with_sync}
use Rattle.slot.specs.declared.slots.Place.{Place}
use Rattle.slot.specs.declared.slots.Place.TheVariants.{Empty}
use Rattle.slot.specs.declared.slots.Shadow.{Shadow}
use Rattle.slot.specs.declared.slots.Shadow.TheVariants.{Nothing, Directory, Table, Split}
use Rattle.shadow.specs.declared.slots.SlotTable.{SlotTable}
use Rattle.slot.specs.declared.slots.SyncState.{SyncState}
use Rattle.slot.specs.declared.slots.SyncState.TheVariants.{Protected}
use Rattle.slot.specs.declared.slots.Thing.{Thing}
use Rattle.runs.specs.Laws.{word_at}

pub record View : Type 0 where
  pub sh : ℕ → Shadow
  pub pl : ℕ → ℕ → Place

abbrev pub view : SlotTable → View
view t = record { sh = λ i. shadow_at i t; pl = λ i j. place_at i j t }

-- a table of eight slots with 1,024 places each
pub record Roomy (t : SlotTable) : Type 0 where
  pub slots : length t.slots ≡ 8
  pub places : (i : ℕ) → i < 8 → length (get_or t.slots i no_slot).places ≡ 1024

-- place j of a slot that shadows x, with frame f guarded
abbrev pub guard_at : ℕ → ℕ → Shadow → Place → Place
guard_at f j Nothing p = p
guard_at f j (Directory g) p = p
guard_at f j (Table g y) p = guard_leaf f p
guard_at f j (Split g) p = cond (eqb (g + j) f) (flag_off p) p

unfoldable pub v_guard : ℕ → View → View
v_guard f v = record { sh = v.sh; pl = λ k j. guard_at f j (v.sh k) (v.pl k j) }

-- the table of frame f in slot i, checked against memory and guarded
abbrev pub v_checked : Memory → ℕ → ℕ → View → View
v_checked m i f v = record {
  sh = λ k. cond (eqb k i) (Table f Protected) (v.sh k);
  pl = λ k j. cond (eqb k i) (check_place (word_at m f j) (v.pl k j)) (v.pl k j);
}

unfoldable pub v_check : Memory → ℕ → ℕ → View → View
v_check m i f v = v_guard f (v_checked m i f v)

-- links to slot i go, from directories
abbrev pub unlink_at : ℕ → Shadow → Place → Place
unlink_at i Nothing p = p
unlink_at i (Directory g) p = unlink_place i p
unlink_at i (Table g y) p = p
unlink_at i (Split g) p = p

unfoldable pub v_evict : ℕ → View → View
v_evict i v = record {
  sh = λ k. cond (eqb k i) Nothing (v.sh k);
  pl = λ k j. cond (eqb k i) Empty (unlink_at i (v.sh k) (v.pl k j));
}

unfoldable pub v_fill : ℕ → Thing → View → View
v_fill i x v = record {
  sh = λ k. cond (eqb k i) (shadow_of x) (v.sh k);
  pl = λ k j. cond (eqb k i) Empty (v.pl k j);
}

unfoldable pub v_put : ℕ → ℕ → Place → View → View
v_put i j p v = record { sh = v.sh; pl = λ k l. cond (eqb k i && eqb l j) p (v.pl k l) }

unfoldable pub v_sync : ℕ → SyncState → View → View
v_sync i y v = record { sh = λ k. cond (eqb k i) (with_sync y (v.sh k)) (v.sh k); pl = v.pl }

unfoldable pub v_flag_off : ℕ → ℕ → View → View
v_flag_off i j v = record { sh = v.sh; pl = λ k l. cond (eqb k i && eqb l j) (flag_off (v.pl k l)) (v.pl k l) }

-- what was copied of word j of frame f goes
unfoldable pub v_drop : ℕ → ℕ → View → View
v_drop f j v = record { sh = v.sh; pl = λ k l. cond (copies f (v.sh k) && eqb l j) Empty (v.pl k l) }

-- slots n shadow the directories that slots t did
abbrev pub SameDirectories : SlotTable → SlotTable → Type 0
SameDirectories t n = (i f : ℕ) → (shadow_at i n ≡ Directory f → shadow_at i t ≡ Directory f) × (shadow_at i t ≡ Directory f → shadow_at i n ≡ Directory f)
