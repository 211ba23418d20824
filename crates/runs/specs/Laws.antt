-- The laws of runs.
use Rattle.std.specs.Prelude.{◌≡◌, ℕ, false, cond, ◌&&◌, List, [], ◌∷◌, ◌++◌, ◌==◌, ◌≢◌}
use Rattle.memory.specs.Answers.{Answer}
use Rattle.memory.specs.Memory.{Contents, Memory, words, cause}
use Rattle.paging.specs.Formats.{Format}
use Rattle.paging.specs.Terms.{directory_level, is_absent, is_table, store}
use Rattle.walk.specs.Marking.{Write, due}
use Rattle.walk.specs.Walk.{Asked, Failure, Outcome, directory_index, faulted, reached, table_index, walk_from, word_index}
use Rattle.runs.specs.Histories.{Event, History, NeverRoot, Opening, Sometime, calls_in, exit_of, exits_in, failed, flushed_all, flushed_page, marks_in, memory_at, mode_at, moded, root_at, settled, stored_since, stores_in, switched, went}
use Rattle.runs.specs.Terms.{Call, Reply, Tallies, Through, access, close_run, closed, deliver, done, flush, flush_all, flush_page, give_up, hidden, no_exit, open_run, page_of, poke, refused, set_mode, switch, switch_root, through, trace, true_exit}
use Rattle.runs.specs.Terms as reply

-- What the guest's own walk answers: the target with the marks due, or the fault.
pub data Walked : Type 0 where
  to : ℕ → List Write → Walked
  fault : Failure → Walked

abbrev pub with_marks : Format → ℕ → Memory → Outcome → Walked
with_marks F k m (reached f es) = to f (due F k m es)
with_marks F k m (faulted x) = fault x

-- the guest's walk of an access, from a root, in a memory
abbrev pub guest_walk : Format → Asked → ℕ → Memory → Walked
guest_walk F a root m = with_marks F a.kind m (walk_from F a m root)

-- a word of guest memory: its frame and its index
pub record WordPlace : Type 0 where
  pub frame : ℕ
  pub index : ℕ

-- The words that a walk reads: the directory's, and the table's where the directory's names a table that memory has.
abbrev pub table_read : ℕ → ℕ → Contents → List WordPlace
table_read f i (words w) = record { frame = f; index = i } ∷ []
table_read f i (cause c) = []

abbrev pub below_directory : Asked → Memory → Answer → List WordPlace
below_directory a m r = cond (is_absent r) [] (cond (is_table r) (table_read r.value (table_index a.address) (m r.value)) [])

abbrev pub root_read : Format → Asked → ℕ → Memory → Contents → List WordPlace
root_read F a root m (words w) =
    record { frame = root; index = directory_index a.address } ∷ below_directory a m (F.reads directory_level (w (directory_index a.address)))
root_read F a root m (cause c) = []

abbrev pub words_read : Format → Asked → ℕ → Memory → List WordPlace
words_read F a root m = root_read F a root m (m root)

-- no store in the window of page p wrote one of these words
abbrev pub Unstored : List WordPlace → ℕ → History → Type 0
Unstored [] p h = Unit {0}
Unstored (x ∷ xs) p h = (stored_since x.frame x.index p h ≡ false) × Unstored xs p h

-- what a write list last put at a word, or d where none of it went there
abbrev pub last_put : ℕ → ℕ → List Write → ℕ → ℕ
last_put f i [] d = d
last_put f i (x ∷ xs) d = last_put f i xs (cond (x.frame == f && x.index == i) x.word d)

-- the word at an index of a frame; 0 where the frame has none
abbrev pub word_in : Contents → ℕ → ℕ
word_in (words w) i = w i
word_in (cause c) i = 0

abbrev pub word_at : Memory → ℕ → ℕ → ℕ
word_at m f i = word_in (m f) i

-- the word that was last written there in a history, or the opening's where none was
abbrev pub last_written : Opening → ℕ → ℕ → History → ℕ
last_written o f i [] = word_at o.memory f i
last_written o f i (e ∷ h) = last_put f i (marks_in e ++ stores_in e) (last_written o f i h)

-- An access of kind k to page p at privilege v came through, and only calls without exits came after it. For a store,
-- the frame that it wrote in was never a root.
pub data Recent (o : Opening) (k p v : ℕ) : History → Type 0 where
  just : {a : Asked} {w : ℕ} {r : Through} {h : History} → a.kind ≡ k → page_of a.address ≡ p → a.privilege ≡ v → (k ≡ store → NeverRoot o r.target h) → Recent o k p v (went a w r ∷ h)
  since : {e : Event} {h : History} → exit_of e ≡ no_exit → Recent o k p v h → Recent o k p v (e ∷ h)

-- were any marks written?
abbrev pub MarkedAny : List Write → Type 0
MarkedAny [] = ⊥
MarkedAny (x ∷ xs) = Unit {0}

-- Tallies that count what a history holds. (That of evictions counts what no answer tells.)
pub record Tallied (h : History) (t : Tallies) : Type 0 where
  pub calls : t.calls ≡ calls_in h
  pub hits : t.hits ≡ exits_in no_exit h
  pub hidden : t.hidden ≡ exits_in hidden h
  pub true_exits : t.true_exits ≡ exits_in true_exit h
  pub trace : t.trace ≡ exits_in trace h
  pub flush : t.flush ≡ exits_in flush h
  pub switch : t.switch ≡ exits_in switch h

-- Any call but an access and a close is refused, or done with its own exit.
abbrev pub DoneBy : ℕ → Reply → Type 0
DoneBy e (refused n) = Unit {0}
DoneBy e (through r) = ⊥
DoneBy e (reply.faulted x) = ⊥
DoneBy e (done x) = x ≡ e
DoneBy e (closed t) = ⊥

module _ (F : Format) (o : Opening) (h : History) where
  -- the walk of an access by the root in force, at a moment, and over memory as the access starts
  abbrev pub walk_at : Asked → Memory → Walked
  walk_at a m = guest_walk F a (root_at o h) m

  abbrev pub present_walk : Asked → Walked
  present_walk a = walk_at a (memory_at o h)

  -- no store in the window of its page wrote a word that the present walk reads
  abbrev pub Undisturbed : Asked → Type 0
  Undisturbed a = Unstored (words_read F a (root_at o h) (memory_at o h)) (page_of a.address) h

  -- An access that came through, after history h.
  pub record LawfulThrough (a : Asked) (r : Through) : Type 0 where
    -- it is made at the privilege in force
    pub privileged : a.privilege ≡ mode_at o h
    -- the window law: at some moment of its window the walk gives exactly its target and marks
    pub window : Sometime o (λ m. walk_at a m ≡ to r.target r.marks) (page_of a.address) h
    -- what it reads was last written there, by its own marks or before, or is the opening's
    pub value : (a.kind ≢ store) → r.value ≡ last_put r.target (word_index a.address) r.marks (last_written o r.target (word_index a.address) h)
    -- the present law: marks, where any were written, are the present walk's ..
    pub marked : MarkedAny r.marks → present_walk a ≡ to r.target r.marks
    -- .. and target and marks are, where no store disturbed what it reads
    pub present : Undisturbed a → present_walk a ≡ to r.target r.marks
    -- the exit law: an access like a recent one has no exit
    pub exit : Recent o a.kind (page_of a.address) a.privilege h → r.exit ≡ no_exit

  -- An access that faulted, after history h.
  pub record LawfulFault (a : Asked) (x : Failure) : Type 0 where
    pub privileged : a.privilege ≡ mode_at o h
    pub window : Sometime o (λ m. walk_at a m ≡ fault x) (page_of a.address) h
    pub present : present_walk a ≡ fault x
    -- a fault has an exit, so none comes to an access like a recent one
    pub exit : Recent o a.kind (page_of a.address) a.privilege h → ⊥

  -- What is answered to an access, after history h: a refusal, or an answer by the laws.
  abbrev pub LawfulAnswer : Asked → Reply → Type 0
  LawfulAnswer a (refused n) = Unit {0}
  LawfulAnswer a (through r) = LawfulThrough a r
  LawfulAnswer a (reply.faulted x) = LawfulFault a x
  LawfulAnswer a (done e) = ⊥
  LawfulAnswer a (closed t) = ⊥

  -- an access is made at the privilege in force
  abbrev pub asked_now : ℕ → ℕ → Asked
  asked_now k a = record { address = a; kind = k; privilege = mode_at o h }

  -- Closing is refused, or answers the tallies of what was answered in the run.
  abbrev pub LawfulClose : Reply → Type 0
  LawfulClose (refused n) = Unit {0}
  LawfulClose (through r) = ⊥
  LawfulClose (reply.faulted x) = ⊥
  LawfulClose (done e) = ⊥
  LawfulClose (closed t) = Tallied h t

  -- What is answered to a call, after history h.
  abbrev pub LawfulReply : Call → Reply → Type 0
  LawfulReply (open_run f n) r = DoneBy no_exit r
  LawfulReply (access k a w) r = LawfulAnswer (asked_now k a) r
  LawfulReply flush_all r = DoneBy flush r
  LawfulReply (flush_page a) r = DoneBy flush r
  LawfulReply (switch_root f) r = DoneBy switch r
  LawfulReply (set_mode p) r = DoneBy no_exit r
  LawfulReply (deliver x) r = DoneBy no_exit r
  LawfulReply (give_up x) r = DoneBy no_exit r
  LawfulReply close_run r = LawfulClose r
  LawfulReply (poke f i w) r = DoneBy no_exit r

-- A history with what came of one more call. A refused call leaves it as it was.
abbrev pub after_access : Asked → ℕ → History → Reply → History
after_access a w h (refused n) = h
after_access a w h (through r) = went a w r ∷ h
after_access a w h (reply.faulted x) = failed a x ∷ h
after_access a w h (done e) = h
after_access a w h (closed t) = h

abbrev pub after_other : Event → History → Reply → History
after_other e h (refused n) = h
after_other e h (through r) = h
after_other e h (reply.faulted x) = h
after_other e h (done x) = e ∷ h
after_other e h (closed t) = h

abbrev pub after_call : Opening → History → Call → Reply → History
after_call o h (open_run f n) r = h
after_call o h (access k a w) r = after_access (record { address = a; kind = k; privilege = mode_at o h }) w h r
after_call o h flush_all r = after_other flushed_all h r
after_call o h (flush_page a) r = after_other (flushed_page a) h r
after_call o h (switch_root f) r = after_other (switched f) h r
after_call o h (set_mode p) r = after_other (moded p) h r
after_call o h (deliver x) r = after_other settled h r
after_call o h (give_up x) r = after_other settled h r
after_call o h close_run r = h
after_call o h (poke f i w) r = h

-- what is said of the calls after a reply; a reply that closes the run is its end
abbrev pub UnlessClosed : Reply → Type 0 → Type 0
UnlessClosed (refused n) P = P
UnlessClosed (through r) P = P
UnlessClosed (reply.faulted x) P = P
UnlessClosed (done e) P = P
UnlessClosed (closed t) P = Unit {0}

-- THE LAW OF WHOLE RUNS. From an opening to its close, whatever the calls and their order, accepted or refused: each answer
-- obeys the laws after the history that the calls before it made. It speaks of the opening, the calls and the answers alone.
abbrev pub LawfulFrom : Format → Opening → History → List Call → List Reply → Type 0
LawfulFrom F o h [] rs = Unit {0}
LawfulFrom F o h (c ∷ cs) [] = ⊥
LawfulFrom F o h (c ∷ cs) (r ∷ rs) = LawfulReply F o h c r × UnlessClosed r (LawfulFrom F o (after_call o h c r) cs rs)

abbrev pub LawfulRun : Format → Opening → List Call → List Reply → Type 0
LawfulRun F o cs rs = LawfulFrom F o [] cs rs
