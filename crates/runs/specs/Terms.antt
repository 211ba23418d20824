-- What calls and answers are made of, in plain numbers.
use Rattle.std.specs.Prelude.{ℕ, ◌/◌, ◌^◌, List}
use Rattle.walk.specs.Marking.{Write}
use Rattle.walk.specs.Walk.{Failure}

-- kinds of exit
abbrev pub no_exit : ℕ
no_exit = 0

abbrev pub hidden : ℕ
hidden = 1

abbrev pub true_exit : ℕ
true_exit = 2

abbrev pub trace : ℕ
trace = 3

abbrev pub flush : ℕ
flush = 4

abbrev pub switch : ℕ
switch = 5

-- the page of an address
abbrev pub page_of : ℕ → ℕ
page_of a = a / 2 ^ 12

-- What users ask of the unit.
pub data Call : Type 0 where
  -- a root and a slot count
  open_run : ℕ → ℕ → Call
  -- a kind, an address, and the word to store (0 for a load or a fetch)
  access : ℕ → ℕ → ℕ → Call
  flush_all : Call
  -- an address in the page
  flush_page : ℕ → Call
  -- the new root
  switch_root : ℕ → Call
  -- the new privilege
  set_mode : ℕ → Call
  -- the fault that is settled
  deliver : Failure → Call
  give_up : Failure → Call
  close_run : Call
  -- a frame, an index and a word
  poke : ℕ → ℕ → ℕ → Call

-- An access that came through: the frame that it read or wrote in, the marks that it wrote, the word that it read or
-- stored, and the kind of its exit.
pub record Through : Type 0 where
  pub target : ℕ
  pub marks : List Write
  pub value : ℕ
  pub exit : ℕ

-- The figures of a run.
pub record Tallies : Type 0 where
  pub calls : ℕ
  pub hits : ℕ
  pub hidden : ℕ
  pub true_exits : ℕ
  pub trace : ℕ
  pub flush : ℕ
  pub switch : ℕ
  pub evictions : ℕ

-- What the unit answers.
pub data Reply : Type 0 where
  -- a refusal, by its number
  refused : ℕ → Reply
  -- an access that came through
  through : Through → Reply
  -- an access that faulted, by a true exit
  faulted : Failure → Reply
  -- any other call that was accepted, with the kind of its exit
  done : ℕ → Reply
  -- a run that was closed
  closed : Tallies → Reply
