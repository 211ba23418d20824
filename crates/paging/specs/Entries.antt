-- Eight entries, worked out by the definitions.
use Rattle.std.specs.Prelude.{◌≡◌}
use Rattle.paging.specs.Sv32.{sv32}
use Rattle.paging.specs.Terms.{absent, because_absent, because_denied, because_malformed, directory_level, load, malformed, page, store, supervisor, table, table_level, user}
use Rattle.paging.specs.X86.{x86}

pub record EightEntries : Type 0 where
  pub x86_large_page : x86.reads directory_level 0x00400083 ≡ page 1024
  pub x86_reserved_bit : (x86.reads directory_level 0x00402083 ≡ malformed) × (x86.code because_malformed load supervisor ≡ 9)
  pub x86_not_present : (x86.reads directory_level 0x00001006 ≡ absent) × (x86.reads table_level 0x00001006 ≡ absent) × (x86.code because_absent store user ≡ 6)
  pub x86_dirtied : x86.marks table_level store 0x00002007 ≡ 0x00002067
  pub sv32_table : sv32.reads directory_level 0x00000401 ≡ table 1
  pub sv32_misaligned : (sv32.reads directory_level 0x00000407 ≡ malformed) × (sv32.code because_malformed store user ≡ 15) × (sv32.code because_malformed store supervisor ≡ 15)
  pub sv32_dirtied : sv32.marks table_level store 0x00000807 ≡ 0x000008c7
  pub sv32_denied : sv32.code because_denied load user ≡ 13
