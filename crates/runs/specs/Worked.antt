-- A run worked out by the definitions: x86, the hand, 2 slots, and a memory of 4 frames.
use Rattle.std.specs.Prelude.{◌≡◌, ℕ, cond, ◌&&◌, List, [], ◌∷◌, ◌==◌, nat_lt}
use Rattle.memory.specs.Memory.{Memory, words, cause}
use Rattle.paging.specs.Terms.{because_absent, load, store, table_level}
use Rattle.paging.specs.X86.{x86}
use Rattle.policies.specs.Orders.{hand_rule}
use Rattle.walk.specs.Marking.{Write}
use Rattle.walk.specs.Walk.{Failure, spot}
use Rattle.runs.specs.Runs.{replies}
use Rattle.runs.specs.Terms.{Call, Reply, access, close_run, closed, deliver, done, faulted, flush, flush_all, hidden, no_exit, through, trace}
use Rattle.runs.specs.Unit.{opened_at}

-- All words are 0 but three: the directory's word 1 names the table in frame 1, whose words 2 and 3 name frames 2 and 1.
abbrev pub word_of : ℕ → ℕ → ℕ
word_of f i =
    cond (f == 0 && i == 1) 0x00001007
    (cond (f == 1 && i == 2) 0x00002007
    (cond (f == 1 && i == 3) 0x00001007 0))

abbrev pub four_frames : Memory
four_frames f = cond (nat_lt f 4) (words (λ i. word_of f i)) (cause 1)

abbrev pub absent_page : Failure
absent_page = record { address = 0x00402004; reason = because_absent; spot = spot table_level 1 2; code = 0; cause = 0 }

-- The second store clears the entry of the page that the first one used. A load still finds it; after a flush it does not.
abbrev pub asked : List Call
asked =
    access store 0x00402004 5 ∷ access store 0x00403008 0 ∷ access load 0x00402004 0 ∷ flush_all ∷ access load 0x00402004 0
    ∷ deliver absent_page ∷ close_run ∷ []

abbrev pub write : ℕ → ℕ → ℕ → Write
write f i w = record { frame = f; index = i; word = w }

abbrev pub answered : List Reply
answered =
    through (record { target = 2; marks = write 0 1 0x00001027 ∷ write 1 2 0x00002067 ∷ []; value = 5; exit = hidden })
    ∷ through (record { target = 1; marks = write 1 3 0x00001067 ∷ []; value = 0; exit = trace })
    ∷ through (record { target = 2; marks = []; value = 5; exit = no_exit })
    ∷ done flush
    ∷ faulted absent_page
    ∷ done no_exit
    ∷ closed (record { calls = 5; hits = 1; hidden = 1; true_exits = 1; trace = 1; flush = 1; switch = 0; evictions = 0 })
    ∷ []

abbrev pub WorkedRun : Type 0
WorkedRun = replies x86 hand_rule (opened_at hand_rule four_frames 0 2) asked ≡ answered
