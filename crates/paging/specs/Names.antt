-- The name of each case of an enum, as it is printed and read.
use Rattle.std.specs.Prelude.{ℕ, List, codes}
use Rattle.paging.specs.declared.access.Kind.{Kind}
use Rattle.paging.specs.declared.access.Kind.TheVariants.{Load, Store, Fetch}
use Rattle.paging.specs.declared.access.Privilege.{Privilege}
use Rattle.paging.specs.declared.access.Privilege.TheVariants.{User, Supervisor}
use Rattle.paging.specs.declared.format.Level.{Level}
use Rattle.paging.specs.declared.format.Level.TheVariants as level
use Rattle.paging.specs.declared.format.Reason.{Reason}
use Rattle.paging.specs.declared.format.Reason.TheVariants as reason

abbrev pub kind_name : Kind → List ℕ
kind_name Load = codes "load"
kind_name Store = codes "store"
kind_name Fetch = codes "fetch"

abbrev pub privilege_name : Privilege → List ℕ
privilege_name User = codes "user"
privilege_name Supervisor = codes "supervisor"

abbrev pub level_name : Level → List ℕ
level_name level.Directory = codes "directory"
level_name level.Table = codes "table"

abbrev pub reason_name : Reason → List ℕ
reason_name reason.Absent = codes "absent"
reason_name reason.Malformed = codes "malformed"
reason_name reason.Denied = codes "denied"
reason_name reason.Outside = codes "outside"
