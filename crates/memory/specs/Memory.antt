-- The meaning of a guest memory.
use Rattle.std.specs.Prelude.{◌≡◌, ℕ, ◌%◌, Bool, true, false, cond, ◌==◌}
use Rattle.memory.specs.Answers.{Answer, answer}

-- the words of a frame
abbrev pub frame_words : ℕ
frame_words = 1024

-- a memory has words in no frame from this number up
abbrev pub frame_limit : ℕ
frame_limit = 4096

-- What a frame has: a word at each index, or the number of the cause for which it has none.
pub data Contents : Type 0 where
  words : (ℕ → ℕ) → Contents
  cause : ℕ → Contents

abbrev pub Memory : Type 0
Memory = ℕ → Contents

abbrev pub has_words : Contents → Bool
has_words (words w) = true
has_words (cause c) = false

-- An index counts modulo the words of a frame.
abbrev pub Wraps : Contents → Type 0
Wraps (words w) = (i : ℕ) → w (i % frame_words) ≡ w i
Wraps (cause c) = Unit {0}

-- what a read answers: 0 and the word, or 1 and the cause
abbrev pub read_at : Contents → ℕ → Answer
read_at (words w) i = answer 0 (w i)
read_at (cause c) i = answer 1 c

-- what a write answers: 0, or 1 and the cause
abbrev pub write_at : Contents → Answer
write_at (words w) = answer 0 0
write_at (cause c) = answer 1 c

-- a frame with one word changed
abbrev pub changed : Contents → ℕ → ℕ → Contents
changed (words w) i v = words (λ j. cond (j % frame_words == i % frame_words) v (w j))
changed (cause c) i v = cause c

-- a memory after a write of v to index i of frame f: only that word may differ
abbrev pub stored : Memory → ℕ → ℕ → ℕ → Memory
stored m f i v = λ g. cond (g == f) (changed (m g) i v) (m g)
