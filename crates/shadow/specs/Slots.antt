-- What the calls of a slot table do and answer.
use Rattle.std.specs.Prelude.{ℕ, suc, Bool, cond, not, ◌&&◌, ◌||◌, List, [], ◌∷◌, map, get_or, replicate, is_some, Some, None, Option, nat_lt, slice_index_or, slice_set}
use Rattle.slot.specs.Slot.{bare, change_place, check_place, check_slot, drop_in_slot, flag_off, guard_slot, is_nothing, is_root, lags, no_slot, protects, shadow_of, shadows, sync_slot, unlink_slot}
use Rattle.slot.specs.declared.slots.Place.{Place}
use Rattle.slot.specs.declared.slots.Place.TheVariants.{Empty}
use Rattle.slot.specs.declared.slots.Shadow.{Shadow}
use Rattle.slot.specs.declared.slots.Shadow.TheVariants.{Nothing, Directory, Table, Split}
use Rattle.slot.specs.declared.slots.Slot.{Slot}
use Rattle.slot.specs.declared.slots.SyncState.{SyncState}
use Rattle.slot.specs.declared.slots.Thing.{Thing}
use Rattle.slot.specs.declared.slots.Thing.TheVariants as thing
use Rattle.shadow.specs.declared.slots.SlotTable.{SlotTable}

-- SLOTS AND PLACES

abbrev pub shadow_at : ℕ → SlotTable → Shadow
shadow_at i t = (get_or t.slots i no_slot).shadow

abbrev pub place_at : ℕ → ℕ → SlotTable → Place
place_at i j t = slice_index_or (get_or t.slots i no_slot).places j Empty

abbrev pub with_slots : SlotTable → List Slot → SlotTable
with_slots t ss = record { slots = ss; count = t.count }

-- one slot changed: past the last one nothing is
abbrev pub change_slot : ℕ → (Slot → Slot) → SlotTable → SlotTable
change_slot i g t = with_slots t (slice_set t.slots i (g (slice_index_or t.slots i no_slot)))

-- every slot changed alike
abbrev pub change_all : (Slot → Slot) → SlotTable → SlotTable
change_all g t = with_slots t (map g t.slots)

-- a table of so many slots in use, all of them empty
abbrev pub fresh : ℕ → SlotTable
fresh n = record { slots = replicate 8 (bare Nothing); count = n }

-- WRITES

abbrev pub put_place : ℕ → ℕ → Place → SlotTable → SlotTable
put_place i j p t = change_slot i (change_place j (λ q. p)) t

abbrev pub flag_off_at : ℕ → ℕ → SlotTable → SlotTable
flag_off_at i j t = change_slot i (change_place j flag_off) t

-- what was copied of word j of frame f goes
abbrev pub drop_entry : ℕ → ℕ → SlotTable → SlotTable
drop_entry f j t = change_all (drop_in_slot f j) t

abbrev pub set_sync : ℕ → SyncState → SlotTable → SlotTable
set_sync i y t = change_slot i (sync_slot y) t

-- GUARDING

-- every leaf and piece that aims at frame f loses its flag
abbrev pub guard : ℕ → SlotTable → SlotTable
guard f t = change_all (guard_slot f) t

-- CHECKING AGAINST THE WORDS OF A FRAME

abbrev pub check_at : ℕ → ℕ → ℕ → SlotTable → SlotTable
check_at i j w t = change_slot i (change_place j (check_place w)) t

-- a table's slot is checked, and from then on its frame is guarded
abbrev pub check_as : ℕ → List ℕ → SlotTable → Shadow → SlotTable
check_as i ws t Nothing = t
check_as i ws t (Directory f) = t
check_as i ws t (Table f y) = guard f (change_slot i (check_slot ws) t)
check_as i ws t (Split f) = t

abbrev pub check_table : ℕ → List ℕ → SlotTable → SlotTable
check_table i ws t = check_as i ws t (shadow_at i t)

-- EVICTING AND FILLING

-- slot i becomes empty, and every link to it goes
abbrev pub evict : ℕ → SlotTable → SlotTable
evict i t = change_slot i (λ s. bare Nothing) (change_all (unlink_slot i) t)

abbrev pub fill : ℕ → Thing → SlotTable → SlotTable
fill i x t = change_slot i (λ s. bare (shadow_of x)) t

-- SEARCHES

-- the first slot that passes, of those from number k on
abbrev pub first_from : (ℕ → Slot → Bool) → ℕ → List Slot → Option ℕ
first_from p k [] = None
first_from p k (s ∷ ss) = cond (p k s) (Some k) (first_from p (suc k) ss)

abbrev pub first_slot : (ℕ → Slot → Bool) → SlotTable → Option ℕ
first_slot p t = first_from p 0 t.slots

-- the first slot that shadows the thing, whatever a table's state
abbrev pub find_slot : Thing → SlotTable → Option ℕ
find_slot x t = first_slot (λ k s. shadows s.shadow x) t

-- is slot k, which shadows this, one of the first n and empty?
abbrev pub is_free : ℕ → ℕ → Shadow → Bool
is_free n k x = nat_lt k n && is_nothing x

-- the first slot in use that is empty
abbrev pub first_empty : SlotTable → Option ℕ
first_empty t = first_slot (λ k s. is_free t.count k s.shadow) t

abbrev pub is_directory : ℕ → SlotTable → Bool
is_directory f t = is_some (find_slot (thing.Directory f) t)

abbrev pub is_protected : ℕ → SlotTable → Bool
is_protected f t = is_some (first_slot (λ k s. protects f s.shadow) t)

-- a directory or a protected table shadows frame f
abbrev pub is_guarded : ℕ → SlotTable → Bool
is_guarded f t = is_directory f t || is_protected f t

abbrev pub is_unsynchronised : ℕ → SlotTable → Bool
is_unsynchronised i t = lags (shadow_at i t)

-- may slot i be taken for another thing? It is in use and filled, and does not shadow the root's directory.
abbrev pub may_take : Option ℕ → SlotTable → ℕ → Bool
may_take r t i = nat_lt i t.count && not (is_nothing (shadow_at i t)) && not (is_root (shadow_at i t) r)

abbrev pub permitted : Option ℕ → SlotTable → List Bool
permitted r t = map (may_take r t) (0 ∷ 1 ∷ 2 ∷ 3 ∷ 4 ∷ 5 ∷ 6 ∷ 7 ∷ [])
