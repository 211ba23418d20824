-- The history of a run: what happened in it, memory at each of its moments, and windows.
use Rattle.std.specs.Prelude.{◌≡◌, ℕ, ◌+◌, Bool, true, false, cond, ◌&&◌, ◌||◌, List, [], ◌∷◌, ◌==◌, ◌≢◌}
use Rattle.memory.specs.Memory.{Memory}
use Rattle.paging.specs.Terms.{store, supervisor}
use Rattle.walk.specs.Marking.{Write, put_all}
use Rattle.walk.specs.Walk.{Asked, Failure, word_index}
use Rattle.runs.specs.Terms.{Through, flush, no_exit, page_of, switch, true_exit}

-- How a run began: the memory, and the root.
pub record Opening : Type 0 where
  pub memory : Memory
  pub root : ℕ

-- One accepted call, with what came of it. A refused call leaves none.
pub data Event : Type 0 where
  -- an access that came through: what was asked, and the word to store
  went : Asked → ℕ → Through → Event
  -- an access that faulted
  failed : Asked → Failure → Event
  flushed_all : Event
  -- by the address
  flushed_page : ℕ → Event
  -- by the new root
  switched : ℕ → Event
  -- by the new privilege
  moded : ℕ → Event
  -- a fault delivered or given up
  settled : Event

-- The newest event first.
abbrev pub History : Type 0
History = List Event

-- the marks that an event wrote
abbrev pub marks_in : Event → List Write
marks_in (went a w r) = r.marks
marks_in (failed a f) = []
marks_in flushed_all = []
marks_in (flushed_page a) = []
marks_in (switched r) = []
marks_in (moded p) = []
marks_in settled = []

-- the word that an access stores
abbrev pub store_of : Asked → ℕ → Through → List Write
store_of a w r = cond (a.kind == store) (record { frame = r.target; index = word_index a.address; word = w } ∷ []) []

-- the store that an event made
abbrev pub stores_in : Event → List Write
stores_in (went a w r) = store_of a w r
stores_in (failed a f) = []
stores_in flushed_all = []
stores_in (flushed_page a) = []
stores_in (switched r) = []
stores_in (moded p) = []
stores_in settled = []

-- the kind of an event's exit
abbrev pub exit_of : Event → ℕ
exit_of (went a w r) = r.exit
exit_of (failed a f) = true_exit
exit_of flushed_all = flush
exit_of (flushed_page a) = flush
exit_of (switched r) = switch
exit_of (moded p) = no_exit
exit_of settled = no_exit

-- is an event a counted call: an access, a flush or a switch?
abbrev pub counts : Event → Bool
counts (went a w r) = true
counts (failed a f) = true
counts flushed_all = true
counts (flushed_page a) = true
counts (switched r) = true
counts (moded p) = false
counts settled = false

-- the counted calls of a history
abbrev pub calls_in : History → ℕ
calls_in [] = 0
calls_in (e ∷ h) = calls_in h + cond (counts e) 1 0

-- those of them with an exit of kind x
abbrev pub exits_in : ℕ → History → ℕ
exits_in x [] = 0
exits_in x (e ∷ h) = exits_in x h + cond (counts e && exit_of e == x) 1 0

-- the root that an event leaves in force
abbrev pub root_by : Event → ℕ → ℕ
root_by (went a w r) n = n
root_by (failed a f) n = n
root_by flushed_all n = n
root_by (flushed_page a) n = n
root_by (switched r) n = r
root_by (moded p) n = n
root_by settled n = n

-- the privilege that an event leaves in force
abbrev pub mode_by : Event → ℕ → ℕ
mode_by (went a w r) n = n
mode_by (failed a f) n = n
mode_by flushed_all n = n
mode_by (flushed_page a) n = n
mode_by (switched r) n = n
mode_by (moded p) n = p
mode_by settled n = n

-- does an event cover a page, so that windows of that page begin at its end?
abbrev pub covers : Event → ℕ → Bool
covers (went a w r) p = false
covers (failed a f) p = false
covers flushed_all p = true
covers (flushed_page a) p = page_of a == p
covers (switched r) p = true
covers (moded q) p = false
covers settled p = false

module _ (o : Opening) where
  -- the memory at the end of a history: the opening's, with every mark and store made since
  abbrev pub memory_at : History → Memory
  memory_at [] = o.memory
  memory_at (e ∷ h) = put_all (put_all (memory_at h) (marks_in e)) (stores_in e)

  -- the memory between the marks of an event and its load or store
  abbrev pub memory_between : Event → History → Memory
  memory_between e h = put_all (memory_at h) (marks_in e)

  abbrev pub root_at : History → ℕ
  root_at [] = o.root
  root_at (e ∷ h) = root_by e (root_at h)

  -- a run begins in supervisor mode
  abbrev pub mode_at : History → ℕ
  mode_at [] = supervisor
  mode_at (e ∷ h) = mode_by e (mode_at h)

  -- Was this frame never a root?
  abbrev pub NeverRoot : ℕ → History → Type 0
  NeverRoot f [] = o.root ≡ f → ⊥
  NeverRoot f (e ∷ h) = (root_at (e ∷ h) ≢ f) × NeverRoot f h

  -- At some moment of the window of page p, memory was as P says. The moments of a run are its opening, the end of each
  -- event, and, where an event wrote marks, the point between them and its load or store. The window reaches from the end
  -- of the last event that covers the page, or from the opening, to the end of the history.
  pub data Sometime (P : Memory → Type 0) (p : ℕ) : History → Type 0 where
    at_opening : P o.memory → Sometime P p []
    at_end : {e : Event} {h : History} → P (memory_at (e ∷ h)) → Sometime P p (e ∷ h)
    between : {e : Event} {h : History} {x : Write} {xs : List Write} → marks_in e ≡ x ∷ xs → P (memory_between e h) → Sometime P p (e ∷ h)
    earlier : {e : Event} {h : History} → covers e p ≡ false → Sometime P p h → Sometime P p (e ∷ h)

-- does one of these writes go to index i of frame f?
abbrev pub writes_to : ℕ → ℕ → List Write → Bool
writes_to f i [] = false
writes_to f i (x ∷ xs) = (x.frame == f && x.index == i) || writes_to f i xs

-- did a store in the window of page p write that word?
abbrev pub stored_since : ℕ → ℕ → ℕ → History → Bool
stored_since f i p [] = false
stored_since f i p (e ∷ h) = cond (covers e p) false (writes_to f i (stores_in e) || stored_since f i p h)
