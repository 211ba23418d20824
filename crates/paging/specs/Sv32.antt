-- Sv32, with marks written by the walk.
use Rattle.std.specs.Prelude.{ℕ, ◌-◌, ◌/◌, ◌%◌, ◌^◌, Bool, cond, not, ◌&&◌, ◌||◌, List, length, ◌==◌, bit_or, slice_index}
use Rattle.memory.specs.Answers.{Answer}
use Rattle.paging.specs.Bits.{bit}
use Rattle.paging.specs.Formats.{Format, large_page}
use Rattle.paging.specs.Terms.{absent, because_outside, fetch, is_page, load, malformed, page, store, table, table_level, user}

-- The bits of an entry.
abbrev pub valid : ℕ → Bool
valid w = bit 0 w

abbrev pub readable : ℕ → Bool
readable w = bit 1 w

abbrev pub writable : ℕ → Bool
writable w = bit 2 w

abbrev pub executable : ℕ → Bool
executable w = bit 3 w

abbrev pub for_user : ℕ → Bool
for_user w = bit 4 w

abbrev pub accessed : ℕ → Bool
accessed w = bit 6 w

abbrev pub dirty : ℕ → Bool
dirty w = bit 7 w

abbrev pub frame_of : ℕ → ℕ
frame_of w = w / 2 ^ 10

-- a word with a right is a page, one without may be a table
abbrev pub leaf : ℕ → Bool
leaf w = readable w || writable w || executable w

abbrev pub sv32_reads : ℕ → ℕ → Answer
sv32_reads l w =
    cond (not (valid w)) absent
    (cond (writable w && not (readable w)) malformed
    (cond (leaf w) (cond (l == table_level || frame_of w % large_page == 0) (page (frame_of w)) malformed)
    (cond (l == table_level || for_user w || accessed w || dirty w) malformed (table (frame_of w)))))

-- the word of the page itself, the last one read; 0, which allows nothing, where none was
abbrev pub page_word : List ℕ → ℕ
page_word ws = slice_index ws (length ws - 1)

-- a load needs R, a store W, a fetch X
abbrev pub right : ℕ → ℕ → Bool
right k w = cond (k == load) (readable w) (cond (k == store) (writable w) (executable w))

-- a user needs U set, a supervisor U clear
abbrev pub side : ℕ → ℕ → Bool
side p w = cond (p == user) (for_user w) (not (for_user w))

abbrev pub sv32_allows : List ℕ → ℕ → ℕ → Bool
sv32_allows ws k p = right k (page_word ws) && side p (page_word ws)

-- A, and D for a store, on a page
abbrev pub sv32_due : Answer → ℕ → ℕ
sv32_due r k = cond (is_page r) (cond (k == store) 0xc0 0x40) 0

abbrev pub sv32_marks : ℕ → ℕ → ℕ → ℕ
sv32_marks l k w = bit_or w (sv32_due (sv32_reads l w) k)

abbrev pub sv32_code : ℕ → ℕ → ℕ → ℕ
sv32_code r k p =
    cond (r == because_outside) (cond (k == fetch) 1 (cond (k == load) 5 7))
    (cond (k == fetch) 12 (cond (k == load) 13 15))

abbrev pub sv32 : Format
sv32 = record { reads = sv32_reads; allows = sv32_allows; marks = sv32_marks; code = sv32_code }
