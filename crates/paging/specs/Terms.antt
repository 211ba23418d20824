-- Names for the numbers by which definitions speak of kinds, privileges, levels, reasons and readings.
use Rattle.std.specs.Prelude.{ℕ, Bool, ◌==◌}
use Rattle.memory.specs.Answers.{Answer, answer}

-- kinds of access
abbrev pub load : ℕ
load = 0

abbrev pub store : ℕ
store = 1

abbrev pub fetch : ℕ
fetch = 2

-- privileges
abbrev pub user : ℕ
user = 0

abbrev pub supervisor : ℕ
supervisor = 1

-- levels of a walk: the directory, a table, and the frame that is reached
abbrev pub directory_level : ℕ
directory_level = 2

abbrev pub table_level : ℕ
table_level = 1

abbrev pub target_level : ℕ
target_level = 0

-- reasons of a fault
abbrev pub because_absent : ℕ
because_absent = 1

abbrev pub because_malformed : ℕ
because_malformed = 2

abbrev pub because_denied : ℕ
because_denied = 3

abbrev pub because_outside : ℕ
because_outside = 4

-- how a word reads: absent, malformed, a table with its frame, or a page with its first frame
abbrev pub absent : Answer
absent = answer 1 0

abbrev pub malformed : Answer
malformed = answer 2 0

abbrev pub table : ℕ → Answer
table f = answer 5 f

abbrev pub page : ℕ → Answer
page f = answer 6 f

abbrev pub is_absent : Answer → Bool
is_absent r = r.number == 1

abbrev pub is_table : Answer → Bool
is_table r = r.number == 5

abbrev pub is_page : Answer → Bool
is_page r = r.number == 6
