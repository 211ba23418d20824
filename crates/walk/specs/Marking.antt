-- The marks that an access leaves on the entries of its walk.
use Rattle.std.specs.Prelude.{ℕ, cond, List, [], ◌∷◌, ◌++◌, Some, None, Option, ◌==◌}
use Rattle.memory.specs.Memory.{Contents, Memory, words, cause, stored}
use Rattle.paging.specs.Formats.{Format}
use Rattle.walk.specs.Walk.{Seen, Spot}
use Rattle.walk.specs.declared.marking.Mark.{Mark}
use Rattle.walk.specs.declared.marking.Marks.{Marks}

-- A word written: its frame, its index there, and the word.
pub record Write : Type 0 where
  pub frame : ℕ
  pub index : ℕ
  pub word : ℕ

-- a memory after a write, and after several in their order
abbrev pub put : Memory → Write → Memory
put m x = stored m x.frame x.index x.word

abbrev pub put_all : Memory → List Write → Memory
put_all m [] = m
put_all m (x ∷ xs) = put_all (put m x) xs

-- a word w that becomes v is written only where that changes it
abbrev pub changes : Spot → ℕ → ℕ → List Write
changes s w v = cond (v == w) [] (record { frame = s.frame; index = s.index; word = v } ∷ [])

-- the mark due on the word that stands at a spot, for an access of kind k
abbrev pub mark_of : Format → ℕ → Spot → Contents → List Write
mark_of F k s (words w) = changes s (w s.index) (F.marks s.level k (w s.index))
mark_of F k s (cause c) = []

abbrev pub mark_at : Format → ℕ → Memory → Spot → List Write
mark_at F k m s = mark_of F k s (m s.frame)

-- The marks due on the entries read, from the root down: each word is marked as it then stands, so that two entries which
-- are one word of memory are marked one after the other.
abbrev pub due : Format → ℕ → Memory → List Seen → List Write
due F k m [] = []
due F k m (e ∷ es) = mark_at F k m e.spot ++ due F k (put_all m (mark_at F k m e.spot)) es

-- the marks that the code answers
abbrev pub mark_writes : Option Mark → List Write
mark_writes None = []
mark_writes (Some k) = record { frame = k.frame; index = k.index; word = k.word } ∷ []

abbrev pub marks_writes : Marks → List Write
marks_writes k = mark_writes k.directory ++ mark_writes k.table
