-- What holds of the marks of a history: they only mark, and at indices of frames.
use Rattle.std.proofs.Common.{◌<◌, List, [], ◌∷◌}
use Rattle.paging.specs.Formats.{Format}
use Rattle.walk.specs.Marking.{Write}
use Rattle.runs.specs.Histories.{History, Opening, marks_in, memory_at, memory_between}
use Rattle.runs.proofs.Sound.{Raises}

-- each write is at an index of a frame
abbrev pub SmallWrites : List Write → Type 0
SmallWrites [] = Unit {0}
SmallWrites (x ∷ xs) = (x.index < 1024) × SmallWrites xs

-- the marks of each event only mark, and at indices of frames
abbrev pub Raised : Format → Opening → History → Type 0
Raised F o [] = Unit {0}
Raised F o (e ∷ h) = Raises F (memory_at o h) (memory_between o e h) × SmallWrites (marks_in e) × Raised F o h
