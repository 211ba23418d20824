-- 32-bit x86 paging with 4 MiB pages and supervisor write protection.
use Rattle.std.specs.Prelude.{ℕ, ◌+◌, ◌*◌, ◌/◌, ◌%◌, ◌^◌, Bool, cond, not, ◌&&◌, ◌||◌, List, ◌==◌, bit_or}
use Rattle.std.specs.List.{list_all}
use Rattle.memory.specs.Answers.{Answer}
use Rattle.paging.specs.Bits.{bit}
use Rattle.paging.specs.Formats.{Format, large_page}
use Rattle.paging.specs.Terms.{absent, because_absent, because_malformed, because_outside, is_page, is_table, malformed, page, store, table, table_level, user}

-- The bits of an entry.
abbrev pub present : ℕ → Bool
present w = bit 0 w

abbrev pub writable : ℕ → Bool
writable w = bit 1 w

abbrev pub for_user : ℕ → Bool
for_user w = bit 2 w

-- at directory level
abbrev pub large : ℕ → Bool
large w = bit 7 w

-- bits 21 to 13 of a large page's word are to be clear
abbrev pub reserved : ℕ → ℕ
reserved w = w / 2 ^ 13 % 2 ^ 9

abbrev pub x86_reads : ℕ → ℕ → Answer
x86_reads l w =
    cond (not (present w)) absent
    (cond (l == table_level) (page (w / 2 ^ 12))
    (cond (not (large w)) (table (w / 2 ^ 12))
    (cond (reserved w == 0) (page (w / 2 ^ 22 * large_page)) malformed)))

-- a store needs RW at both privileges, a user needs US
abbrev pub word_allows : ℕ → ℕ → ℕ → Bool
word_allows k p w = (not (k == store) || writable w) && (not (p == user) || for_user w)

-- in every word read
abbrev pub x86_allows : List ℕ → ℕ → ℕ → Bool
x86_allows ws k p = list_all (word_allows k p) ws

-- A on pages and tables, and D for a store on a page
abbrev pub x86_due : Answer → ℕ → ℕ
x86_due r k = cond (is_page r) (cond (k == store) 0x60 0x20) (cond (is_table r) 0x20 0)

abbrev pub x86_marks : ℕ → ℕ → ℕ → ℕ
x86_marks l k w = bit_or w (x86_due (x86_reads l w) k)

-- the sum of 1 if not absent, 2 for a store, 4 for a user, 8 if malformed; 4,096 if outside
abbrev pub x86_code : ℕ → ℕ → ℕ → ℕ
x86_code r k p =
    cond (r == because_outside) 4096
    (cond (r == because_absent) 0 1 + cond (k == store) 2 0 + cond (p == user) 4 0 + cond (r == because_malformed) 8 0)

abbrev pub x86 : Format
x86 = record { reads = x86_reads; allows = x86_allows; marks = x86_marks; code = x86_code }
