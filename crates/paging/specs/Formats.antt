-- What a page format answers, on plain numbers, and the laws that every format keeps.
use Rattle.std.specs.Prelude.{◌≡◌, ℕ, ◌%◌, ◌^◌, ◌<◌, Bool, true, false, ◌||◌, List, ◌∷◌, ◌++◌}
use Rattle.memory.specs.Answers.{Answer}
use Rattle.paging.specs.Terms.{directory_level, table_level, is_page, is_table}

-- a word is below this
abbrev pub word_limit : ℕ
word_limit = 2 ^ 32

-- every frame that a word names is below this
abbrev pub named_limit : ℕ
named_limit = 2 ^ 22

-- the frames of a directory page
abbrev pub large_page : ℕ
large_page = 1024

pub record Format : Type 0 where
  -- how a word reads: of its level and the word
  pub reads : ℕ → ℕ → Answer
  -- whether the words read, from the root down, allow an access: of them, its kind and its privilege
  pub allows : List ℕ → ℕ → ℕ → Bool
  -- the word as an access leaves it: of its level, the access's kind and the word
  pub marks : ℕ → ℕ → ℕ → ℕ
  -- the code of a fault: of its reason, the access's kind and its privilege
  pub code : ℕ → ℕ → ℕ → ℕ

-- The first law, in two parts. Marking a word, at any level, alters at no level how it reads ..
abbrev pub ReadingKept : Format → Type 0
ReadingKept F = (l m k w : ℕ) → F.reads m (F.marks l k w) ≡ F.reads m w

-- .. and marking any one of the words read, at any level, alters nothing of what they allow together.
abbrev pub RightsKept : Format → Type 0
RightsKept F = (upper lower : List ℕ) (w l k j p : ℕ) → F.allows (upper ++ F.marks l k w ∷ lower) j p ≡ F.allows (upper ++ w ∷ lower) j p

-- The second law, in two parts. Marking twice is marking once ..
abbrev pub MarkedOnce : Format → Type 0
MarkedOnce F = (l k w : ℕ) → F.marks l k (F.marks l k w) ≡ F.marks l k w

-- .. and a word that a marking leaves as it is, that marking still leaves so after every other marking, at any level.
abbrev pub MarksLast : Format → Type 0
MarksLast F = (l m k j w : ℕ) → F.marks l k w ≡ w → F.marks l k (F.marks m j w) ≡ F.marks m j w

-- Only pages and tables are marked.
abbrev pub EntriesMarked : Format → Type 0
EntriesMarked F = (l k w : ℕ) → (is_table (F.reads l w) || is_page (F.reads l w)) ≡ false → F.marks l k w ≡ w

-- The frames that a word names have a bound.
abbrev pub FramesBounded : Format → Type 0
FramesBounded F = (l w : ℕ) → w < word_limit → (F.reads l w).value < named_limit

-- At table level no word reads as a table.
abbrev pub TablesAbove : Format → Type 0
TablesAbove F = (w : ℕ) → is_table (F.reads table_level w) ≡ false

-- A page at directory level starts at a multiple of its frames.
abbrev pub PagesAligned : Format → Type 0
PagesAligned F = (w : ℕ) → is_page (F.reads directory_level w) ≡ true → (F.reads directory_level w).value % large_page ≡ 0

-- Both laws of marking.
pub record LawsOfMarking (F : Format) : Type 0 where
  pub reading_kept : ReadingKept F
  pub rights_kept : RightsKept F
  pub marked_once : MarkedOnce F
  pub marks_last : MarksLast F
