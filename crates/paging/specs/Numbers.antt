-- The number of each case of an enum, and its values.
use Rattle.std.specs.Prelude.{ℕ}
use Rattle.memory.specs.Answers.{Answer, answer}
use Rattle.paging.specs.declared.access.Kind.{Kind}
use Rattle.paging.specs.declared.access.Kind.TheVariants.{Load, Store, Fetch}
use Rattle.paging.specs.declared.access.Privilege.{Privilege}
use Rattle.paging.specs.declared.access.Privilege.TheVariants.{User, Supervisor}
use Rattle.paging.specs.declared.format.Entry.{Entry}
use Rattle.paging.specs.declared.format.Entry.TheVariants as entry
use Rattle.paging.specs.declared.format.Level.{Level}
use Rattle.paging.specs.declared.format.Level.TheVariants as level
use Rattle.paging.specs.declared.format.Reason.{Reason}
use Rattle.paging.specs.declared.format.Reason.TheVariants as reason

abbrev pub kind_number : Kind → ℕ
kind_number Load = 0
kind_number Store = 1
kind_number Fetch = 2

abbrev pub privilege_number : Privilege → ℕ
privilege_number User = 0
privilege_number Supervisor = 1

abbrev pub level_number : Level → ℕ
level_number level.Directory = 2
level_number level.Table = 1

abbrev pub reason_number : Reason → ℕ
reason_number reason.Absent = 1
reason_number reason.Malformed = 2
reason_number reason.Denied = 3
reason_number reason.Outside = 4

-- how a word reads: a table has its frame as its value, a page its first frame
abbrev pub reading : Entry → Answer
reading entry.Absent = answer 1 0
reading entry.Malformed = answer 2 0
reading (entry.Table f) = answer 5 f
reading (entry.Page f) = answer 6 f
