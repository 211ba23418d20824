-- Runs of the unit, and what every run promises.
use Rattle.std.specs.Prelude.{◌≡◌, ℕ, ◌+◌, ◌≤◌, true, false, cond, List, [], ◌∷◌, is_some, Some}
use Rattle.memory.specs.Memory.{Memory, frame_limit, has_words}
use Rattle.paging.specs.Formats.{Format}
use Rattle.policies.specs.Orders.{Rule}
use Rattle.runs.specs.Histories.{History, Opening}
use Rattle.runs.specs.Laws.{LawfulReply, LawfulRun, after_call}
use Rattle.runs.specs.Terms.{Call, Reply, Tallies, refused}
use Rattle.runs.specs.Unit.{Running, State, opened_at, step}

-- no frame from the limit up has words
abbrev pub Bounded : Memory → Type 0
Bounded m = (f : ℕ) → frame_limit ≤ f → has_words (m f) ≡ false

module _ (F : Format) (R : Rule) where
  -- State s is reached from an opening by a history. A run is entered by opening it with a root that has words, over a
  -- memory that has words in no frame from 4,096 up, and goes on by any call while it is open.
  pub data Run (o : Opening) : History → State → Type 0 where
    opened : (n : ℕ) → 2 ≤ n → n ≤ 8 → has_words (o.memory o.root) ≡ true → Bounded o.memory → Run o [] (opened_at R o.memory o.root n)
    goes : {h : History} {s : State} → Run o h s → (c : Call) → is_some s.run ≡ true → Run o (after_call o h c (step R F s c).reply) (step R F s c).next

  -- What a call with reply r, from state s to state t, promises: after every history that leads to s, the reply obeys the
  -- laws, and the longer history leads to t.
  pub record Lawful (s : State) (c : Call) (r : Reply) (t : State) : Type 0 where
    pub law : (o : Opening) (h : History) → Run o h s → LawfulReply F o h c r
    pub on : (o : Opening) (h : History) → Run o h s → is_some s.run ≡ true → Run o (after_call o h c r) t

  -- what a list of calls answers, one after the other
  abbrev pub replies : State → List Call → List Reply
  replies s [] = []
  replies s (c ∷ cs) = (step R F s c).reply ∷ replies (step R F s c).next cs

  -- what it answers up to the one that closes the run
  abbrev pub replies_to_close : State → List Call → List Reply
  replies_to_close s [] = []
  replies_to_close s (c ∷ cs) = (step R F s c).reply ∷ cond (is_some (step R F s c).next.run) (replies_to_close (step R F s c).next cs) []

  -- the state that the calls up to that one leave
  abbrev pub left_by : State → List Call → State
  left_by s [] = s
  left_by s (c ∷ cs) = cond (is_some (step R F s c).next.run) (left_by (step R F s c).next cs) (step R F s c).next

-- Every call, from every state.
abbrev pub CallsLawful : Format → Rule → Type 0
CallsLawful F R = (s : State) (c : Call) → Lawful F R s c (step R F s c).reply (step R F s c).next

-- Every list of calls, from every opening that is accepted.
abbrev pub RunsLawful : Format → Rule → Type 0
RunsLawful F R =
    (o : Opening) (n : ℕ) → 2 ≤ n → n ≤ 8 → has_words (o.memory o.root) ≡ true → Bounded o.memory
    → (cs : List Call) → LawfulRun F o cs (replies F R (opened_at R o.memory o.root n) cs)

-- The same where no call is made after the one that closes the run.
abbrev pub RunsToCloseLawful : Format → Rule → Type 0
RunsToCloseLawful F R =
    (o : Opening) (n : ℕ) → 2 ≤ n → n ≤ 8 → has_words (o.memory o.root) ≡ true → Bounded o.memory
    → (cs : List Call) → LawfulRun F o cs (replies_to_close F R (opened_at R o.memory o.root n) cs)

-- What every run adds up to: a counted call is a hit or has exactly one exit.
abbrev pub AddsUp : Tallies → Type 0
AddsUp t = t.calls ≡ t.hits + t.hidden + t.true_exits + t.trace + t.flush + t.switch

abbrev pub TalliesAddUp : Format → Rule → Type 0
TalliesAddUp F R = (o : Opening) (h : History) (s : State) → Run F R o h s → (r : Running) → s.run ≡ Some r → AddsUp r.hart.tallies

-- A refused call changes nothing.
abbrev pub RefusalsKeep : Format → Rule → Type 0
RefusalsKeep F R = (s : State) (c : Call) (n : ℕ) → (step R F s c).reply ≡ refused n → (step R F s c).next ≡ s
