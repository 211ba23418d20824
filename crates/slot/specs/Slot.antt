-- What the calls of a place, a shadow or a slot do and answer.
use Rattle.std.specs.Prelude.{ℕ, suc, ◌+◌, ◌-◌, Bool, true, false, cond, not, ◌&&◌, List, [], ◌∷◌, map, replicate, Some, None, Option, ◌==◌, nat_le, nat_lt, slice_index, slice_index_or, slice_set}
use Rattle.slot.specs.declared.slots.Place.{Place}
use Rattle.slot.specs.declared.slots.Place.TheVariants.{Empty, Link, Leaf, Piece}
use Rattle.slot.specs.declared.slots.Shadow.{Shadow}
use Rattle.slot.specs.declared.slots.Shadow.TheVariants.{Nothing, Directory, Table, Split}
use Rattle.slot.specs.declared.slots.Slot.{Slot}
use Rattle.slot.specs.declared.slots.SyncState.{SyncState}
use Rattle.slot.specs.declared.slots.SyncState.TheVariants.{Protected, Unsynchronised}
use Rattle.slot.specs.declared.slots.Thing.{Thing}
use Rattle.slot.specs.declared.slots.Thing.TheVariants as thing

-- SLOTS AND PLACES

-- what stands past the last slot of a table
abbrev pub no_slot : Slot
no_slot = record { shadow = Nothing; places = [] }

-- a slot with all its places empty
abbrev pub bare : Shadow → Slot
bare x = record { shadow = x; places = replicate 1024 Empty }

abbrev pub with_places : Slot → List Place → Slot
with_places s ps = record { shadow = s.shadow; places = ps }

-- one place changed: past the last one nothing is
abbrev pub change_place : ℕ → (Place → Place) → Slot → Slot
change_place j g s = with_places s (slice_set s.places j (g (slice_index_or s.places j Empty)))

-- WRITES

-- a leaf or a piece loses its flag
abbrev pub flag_off : Place → Place
flag_off Empty = Empty
flag_off (Link w s) = Link w s
flag_off (Leaf w a b) = Leaf w a false
flag_off (Piece b) = Piece false

-- does frame f hold the words that the slot copied?
abbrev pub copies : ℕ → Shadow → Bool
copies f Nothing = false
copies f (Directory g) = g == f
copies f (Table g y) = g == f
copies f (Split g) = false

-- what was copied of word j of frame f goes
abbrev pub drop_in_slot : ℕ → ℕ → Slot → Slot
drop_in_slot f j s = cond (copies f s.shadow) (change_place j (λ p. Empty) s) s

-- the state of a table; nothing else has one
abbrev pub with_sync : SyncState → Shadow → Shadow
with_sync y Nothing = Nothing
with_sync y (Directory f) = Directory f
with_sync y (Table f z) = Table f y
with_sync y (Split f) = Split f

abbrev pub sync_slot : SyncState → Slot → Slot
sync_slot y s = record { shadow = with_sync y s.shadow; places = s.places }

-- GUARDING

-- a leaf that aims at frame f loses its flag
abbrev pub guard_leaf : ℕ → Place → Place
guard_leaf f Empty = Empty
guard_leaf f (Link w s) = Link w s
guard_leaf f (Leaf w a b) = cond (a == f) (Leaf w a false) (Leaf w a b)
guard_leaf f (Piece b) = Piece b

-- is frame f one of the 1,024 from frame s on?
abbrev pub in_split : ℕ → ℕ → Bool
in_split f s = nat_le s f && nat_lt f (s + 1024)

-- By what the slot shadows: a directory's places aim at no frame, a table's may all aim at f, of a split's one does.
abbrev pub guard_as : ℕ → Slot → Shadow → Slot
guard_as f s Nothing = s
guard_as f s (Directory g) = s
guard_as f s (Table g y) = with_places s (map (guard_leaf f) s.places)
guard_as f s (Split g) = cond (in_split f g) (change_place (f - g) flag_off s) s

-- what aims at frame f loses its flag
abbrev pub guard_slot : ℕ → Slot → Slot
guard_slot f s = guard_as f s s.shadow

-- CHECKING AGAINST THE WORDS OF A FRAME

-- a leaf whose word is not w goes
abbrev pub check_place : ℕ → Place → Place
check_place w Empty = Empty
check_place w (Link v s) = Link v s
check_place w (Leaf v a b) = cond (v == w) (Leaf v a b) Empty
check_place w (Piece b) = Piece b

-- the places from index j on, each against the word of its index
abbrev pub check_from : List ℕ → ℕ → List Place → List Place
check_from ws j [] = []
check_from ws j (p ∷ ps) = check_place (slice_index ws j) p ∷ check_from ws (suc j) ps

-- every place against its word, and a table is protected from then on
abbrev pub check_slot : List ℕ → Slot → Slot
check_slot ws s = record { shadow = with_sync Protected s.shadow; places = check_from ws 0 s.places }

-- EVICTING AND FILLING

-- a link to slot i goes
abbrev pub unlink_place : ℕ → Place → Place
unlink_place i Empty = Empty
unlink_place i (Link w s) = cond (s == i) Empty (Link w s)
unlink_place i (Leaf w a b) = Leaf w a b
unlink_place i (Piece b) = Piece b

-- only a directory has links
abbrev pub unlink_as : ℕ → Slot → Shadow → Slot
unlink_as i s Nothing = s
unlink_as i s (Directory f) = with_places s (map (unlink_place i) s.places)
unlink_as i s (Table f y) = s
unlink_as i s (Split f) = s

abbrev pub unlink_slot : ℕ → Slot → Slot
unlink_slot i s = unlink_as i s s.shadow

-- how a slot shadows a thing at first: a table is protected
abbrev pub shadow_of : Thing → Shadow
shadow_of (thing.Directory f) = Directory f
shadow_of (thing.Table f) = Table f Protected
shadow_of (thing.Split f) = Split f

-- WHAT A SLOT SHADOWS

-- is this what is shadowed, by kind and frame?
abbrev pub is_directory_of : ℕ → Shadow → Bool
is_directory_of f Nothing = false
is_directory_of f (Directory g) = g == f
is_directory_of f (Table g y) = false
is_directory_of f (Split g) = false

abbrev pub is_table_of : ℕ → Shadow → Bool
is_table_of f Nothing = false
is_table_of f (Directory g) = false
is_table_of f (Table g y) = g == f
is_table_of f (Split g) = false

abbrev pub is_split_of : ℕ → Shadow → Bool
is_split_of f Nothing = false
is_split_of f (Directory g) = false
is_split_of f (Table g y) = false
is_split_of f (Split g) = g == f

abbrev pub shadows : Shadow → Thing → Bool
shadows x (thing.Directory f) = is_directory_of f x
shadows x (thing.Table f) = is_table_of f x
shadows x (thing.Split f) = is_split_of f x

abbrev pub is_nothing : Shadow → Bool
is_nothing Nothing = true
is_nothing (Directory f) = false
is_nothing (Table f y) = false
is_nothing (Split f) = false

abbrev pub is_protected_state : SyncState → Bool
is_protected_state Protected = true
is_protected_state Unsynchronised = false

-- is this a protected table in frame f?
abbrev pub protects : ℕ → Shadow → Bool
protects f Nothing = false
protects f (Directory g) = false
protects f (Table g y) = g == f && is_protected_state y
protects f (Split g) = false

-- is this a table that is not protected?
abbrev pub lags : Shadow → Bool
lags Nothing = false
lags (Directory f) = false
lags (Table f y) = not (is_protected_state y)
lags (Split f) = false

-- is this the directory of the root, where there is one?
abbrev pub is_root : Shadow → Option ℕ → Bool
is_root x None = false
is_root x (Some f) = is_directory_of f x
