-- The guest's walk, over the meanings of a format and a memory alone.
use Rattle.std.specs.Prelude.{ℕ, ◌+◌, ◌/◌, ◌%◌, ◌^◌, Bool, cond, List, [], ◌∷◌}
use Rattle.memory.specs.Answers.{Answer}
use Rattle.memory.specs.Memory.{Contents, Memory, words, cause, frame_words}
use Rattle.paging.specs.Formats.{Format}
use Rattle.paging.specs.Terms.{because_absent, because_denied, because_malformed, because_outside, directory_level, is_absent, is_page, is_table, table_level, target_level}

-- What an address of 32 bits names: a place in the directory, one in a table, and a word of the page.
abbrev pub directory_index : ℕ → ℕ
directory_index a = a / 2 ^ 22 % frame_words

abbrev pub table_index : ℕ → ℕ
table_index a = a / 2 ^ 12 % frame_words

abbrev pub word_index : ℕ → ℕ
word_index a = a / 2 ^ 2 % frame_words

-- An access: its address, its kind and its privilege.
pub record Asked : Type 0 where
  pub address : ℕ
  pub kind : ℕ
  pub privilege : ℕ

-- A word on the way of a walk: its level, its frame and its index there.
pub record Spot : Type 0 where
  pub level : ℕ
  pub frame : ℕ
  pub index : ℕ

abbrev pub spot : ℕ → ℕ → ℕ → Spot
spot l f i = record { level = l; frame = f; index = i }

-- An entry that was read: where, and the word.
pub record Seen : Type 0 where
  pub spot : Spot
  pub word : ℕ

abbrev pub seen : Spot → ℕ → Seen
seen s w = record { spot = s; word = w }

-- A fault: its address, its reason, the word that decided it, its code and the memory's cause.
pub record Failure : Type 0 where
  pub address : ℕ
  pub reason : ℕ
  pub spot : Spot
  pub code : ℕ
  pub cause : ℕ

-- A walk reaches a frame by the entries read, from the root down, or faults.
pub data Outcome : Type 0 where
  reached : ℕ → List Seen → Outcome
  faulted : Failure → Outcome

-- the words of the entries read
abbrev pub seen_words : List Seen → List ℕ
seen_words [] = []
seen_words (e ∷ es) = e.word ∷ seen_words es

module _ (F : Format) (a : Asked) where
  -- the fault of a reason, at a spot, with the memory's cause
  abbrev pub failure : ℕ → Spot → ℕ → Failure
  failure r s c = record { address = a.address; reason = r; spot = s; code = F.code r a.kind a.privilege; cause = c }

  abbrev pub fails : ℕ → Spot → ℕ → Outcome
  fails r s c = faulted (failure r s c)

  -- do these words, from the root down, allow the access?
  abbrev pub granted : List Seen → Bool
  granted es = F.allows (seen_words es) a.kind a.privilege

  -- the place of the word that is wanted in a frame
  abbrev pub wanted : ℕ → Spot
  wanted f = spot target_level f (word_index a.address)

  module _ (m : Memory) where
    -- the frame that is reached has words, or a cause
    abbrev pub arrive : ℕ → List Seen → Contents → Outcome
    arrive f es (words w) = reached f es
    arrive f es (cause c) = fails because_outside (wanted f) c

    -- a page, by its own spot, its frame and the entries read
    abbrev pub at_page : Spot → ℕ → List Seen → Outcome
    at_page s f es = cond (granted es) (arrive f es (m f)) (fails because_denied s 0)

    -- by how the table's word reads
    abbrev pub by_table : Seen → Seen → Answer → Outcome
    by_table d t r =
        cond (is_absent r) (fails because_absent t.spot 0)
        (cond (is_page r) (at_page t.spot r.value (d ∷ t ∷ []))
        (fails because_malformed t.spot 0))

    -- the table's frame has words, or a cause
    abbrev pub in_table : Seen → Spot → Contents → Outcome
    in_table d s (words w) = by_table d (seen s (w s.index)) (F.reads table_level (w s.index))
    in_table d s (cause c) = fails because_outside s c

    abbrev pub at_table : Seen → ℕ → Outcome
    at_table d f = in_table d (spot table_level f (table_index a.address)) (m f)

    -- by how the directory's word reads
    abbrev pub by_directory : Seen → Answer → Outcome
    by_directory d r =
        cond (is_absent r) (fails because_absent d.spot 0)
        (cond (is_table r) (at_table d r.value)
        (cond (is_page r) (at_page d.spot (r.value + table_index a.address) (d ∷ []))
        (fails because_malformed d.spot 0)))

    -- the root frame has words, or a cause
    abbrev pub in_directory : Spot → Contents → Outcome
    in_directory s (words w) = by_directory (seen s (w s.index)) (F.reads directory_level (w s.index))
    in_directory s (cause c) = fails because_outside s c

    abbrev pub walk_from : ℕ → Outcome
    walk_from root = in_directory (spot directory_level root (directory_index a.address)) (m root)
