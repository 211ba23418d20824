-- What always holds between the slots and guest memory.
use Rattle.std.proofs.Common.{◌≡◌, ℕ, ◌+◌, ◌<◌, ◌≤◌, Bool, true, false, ◌&&◌, ◌||◌, eqb}
use Rattle.memory.specs.Memory.{Memory, has_words}
use Rattle.paging.specs.Formats.{Format}
use Rattle.paging.specs.Terms.{directory_level, is_absent, is_page, is_table, table_level}
use Rattle.slot.specs.Slot.{shadows}
use Rattle.slot.specs.declared.slots.Place.{Place}
use Rattle.slot.specs.declared.slots.Place.TheVariants.{Empty, Link, Leaf, Piece}
use Rattle.slot.specs.declared.slots.Shadow.{Shadow}
use Rattle.slot.specs.declared.slots.Shadow.TheVariants.{Nothing, Directory, Table, Split}
use Rattle.slot.specs.declared.slots.SyncState.{SyncState}
use Rattle.slot.specs.declared.slots.SyncState.TheVariants.{Protected, Unsynchronised}
use Rattle.slot.specs.declared.slots.Thing.{Thing}
use Rattle.runs.specs.Laws.{word_at}
use Rattle.runs.specs.Unit.{thing_named}
use Rattle.runs.proofs.Views.{View}

-- v comes from w by zero or more markings, at any level and of any kind
pub data Up (F : Format) (w : ℕ) : ℕ → Type 0 where
  same : Up F w w
  more : {v : ℕ} (l k : ℕ) → Up F w v → Up F w (F.marks l k v)

-- a word at directory level that leads on: neither absent nor malformed
pub record Leads (F : Format) (w : ℕ) : Type 0 where
  pub present : is_absent (F.reads directory_level w) ≡ false
  pub whole : (is_table (F.reads directory_level w) || is_page (F.reads directory_level w)) ≡ true

-- what a directory's word that leads on names (as thing-named of the unit)
abbrev pub named : Format → ℕ → Thing
named F w = thing_named (F.reads directory_level w)

-- a word at table level that is a page of frame a
pub record Pages (F : Format) (w a : ℕ) : Type 0 where
  pub present : is_absent (F.reads table_level w) ≡ false
  pub page : is_page (F.reads table_level w) ≡ true
  pub frame : (F.reads table_level w).value ≡ a

-- does a directory or a protected table in frame g stand here?
abbrev pub guards_as : ℕ → SyncState → Bool → Bool
guards_as g Protected b = b
guards_as g Unsynchronised b = false

abbrev pub guards : ℕ → Shadow → Bool
guards g Nothing = false
guards g (Directory f) = eqb f g
guards g (Table f y) = guards_as g y (eqb f g)
guards g (Split f) = false

-- does place j of a slot that shadows x let a store through to frame g?
abbrev pub piece_opens : ℕ → Bool → ℕ → Shadow → Bool
piece_opens j b g Nothing = false
piece_opens j b g (Directory f) = false
piece_opens j b g (Table f y) = false
piece_opens j b g (Split f) = b && eqb (f + j) g

abbrev pub opens : ℕ → Shadow → ℕ → Place → Bool
opens j x g Empty = false
opens j x g (Link w s) = false
opens j x g (Leaf w a b) = b && eqb a g
opens j x g (Piece b) = piece_opens j b g x

pub record Linked (F : Format) (m : Memory) (v : View) (i d w s : ℕ) : Type 0 where
  pub root : ℕ
  pub is : v.sh i ≡ Directory root
  pub leads : Leads F w
  pub names : shadows (v.sh s) (named F w) ≡ true
  pub up : Up F w (word_at m root d)

pub record Leafed (F : Format) (m : Memory) (v : View) (i j w a : ℕ) : Type 0 where
  pub frame : ℕ
  pub state : SyncState
  pub is : v.sh i ≡ Table frame state
  pub pages : Pages F w a
  pub target : has_words (m a) ≡ true
  -- a protected table is true to its frame
  pub up : state ≡ Protected → Up F w (word_at m frame j)

pub record Pieced (m : Memory) (v : View) (i j : ℕ) : Type 0 where
  pub first : ℕ
  pub is : v.sh i ≡ Split first
  pub target : has_words (m (first + j)) ≡ true

-- the frame of a directory or a table has words
abbrev pub Backed : Memory → Shadow → Type 0
Backed m Nothing = Unit {0}
Backed m (Directory f) = has_words (m f) ≡ true
Backed m (Table f y) = has_words (m f) ≡ true
Backed m (Split f) = Unit {0}

-- all but the flags
pub record Framed (F : Format) (m : Memory) (v : View) : Type 0 where
  -- one slot for each thing
  pub unique : (i k : ℕ) (x : Thing) → shadows (v.sh i) x ≡ true → shadows (v.sh k) x ≡ true → i ≡ k
  pub backed : (i : ℕ) → Backed m (v.sh i)
  pub within : (i j : ℕ) → 1024 ≤ j → v.pl i j ≡ Empty
  pub links : (i d w s : ℕ) → v.pl i d ≡ Link w s → Linked F m v i d w s
  pub leaves : (i j w a : ℕ) (b : Bool) → v.pl i j ≡ Leaf w a b → Leafed F m v i j w a
  pub pieces : (i j : ℕ) (b : Bool) → v.pl i j ≡ Piece b → Pieced m v i j
  -- no unsynchronised table lies on a directory's frame
  pub apart : (i k f : ℕ) → v.sh i ≡ Table f Unsynchronised → v.sh k ≡ Directory f → ⊥

pub record Sound (F : Format) (m : Memory) (v : View) : Type 0 where
  pub framed : Framed F m v
  -- no place lets a store through to a guarded frame
  pub shut : (i j g k : ℕ) → opens j (v.sh i) g (v.pl i j) ≡ true → guards g (v.sh k) ≡ false

-- a memory after marks: the same frames have words, and every word has only been marked
pub record Raises (F : Format) (m n : Memory) : Type 0 where
  pub has : (f : ℕ) → has_words (n f) ≡ has_words (m f)
  pub up : (f i : ℕ) → i < 1024 → Up F (word_at m f i) (word_at n f i)
