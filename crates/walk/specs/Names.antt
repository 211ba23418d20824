-- What is printed of a depth.
use Rattle.std.specs.Prelude.{ℕ, List, ◌++◌, codes, decimal}
use Rattle.paging.specs.Names.{level_name}
use Rattle.paging.specs.Numbers.{level_number}
use Rattle.walk.specs.declared.fault.Depth.{Depth}
use Rattle.walk.specs.declared.fault.Depth.TheVariants.{Entry, Target}

abbrev pub depth_name : Depth → List ℕ
depth_name (Entry l) = level_name l ++ codes "'s word (level " ++ decimal (level_number l) ++ codes ")"
depth_name Target = codes "target (level 0)"
