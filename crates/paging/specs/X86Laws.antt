-- The laws of x86: marks are bits 5 and 6, and no entry is read or allowed by them.
use Rattle.std.specs.Prelude.{◌≡◌, ℕ, ◌+◌, ◌/◌, ◌%◌, ◌<◌, Bool, true, false, cond, ◌&&◌, ◌||◌, List, [], ◌∷◌, length, drop, ◌==◌, bit_or, slice_index, refl}
use Rattle.std.proofs.Common.{sym, ap, ◌∙◌, arith}
use Rattle.std.proofs.lemmas.List.{drop_more}
use Rattle.std.proofs.lemmas.Bool.Decides.{nat_tests}
use Rattle.memory.specs.Answers.{Answer}
use Rattle.paging.specs.Formats.{EntriesMarked, ReadingKept, RightsKept}
use Rattle.paging.specs.Terms.{is_page, is_table, store}
use Rattle.paging.specs.X86.{word_allows, x86, x86_allows, x86_due, x86_reads}
use Rattle.paging.specs.Marks.{bit_kept, entries_by, high_kept}

-- a mask of marks: nothing below bit 5, nothing above bit 6
abbrev Mask : ℕ → Type 0
Mask b = (b % 32 ≡ 0) × (b / 128 ≡ 0)

masked : (a b c : Bool) → let m : ℕ = cond a (cond b 0x60 0x20) (cond c 0x20 0) in Mask m
masked true true c = (refl, refl)
masked true false c = (refl, refl)
masked false b true = (refl, refl)
masked false b false = (refl, refl)

due_masked : (r : Answer) (k : ℕ) → Mask (x86_due r k)
due_masked r k = masked (is_page r) (k == store) (is_table r)

module _ (w b : ℕ) (h : Mask b) where
  read_same : (m : ℕ) → x86_reads m (bit_or w b) ≡ x86_reads m w
  read_same m =
      simp (bit_kept 0 w b (omega arith), bit_kept 7 w b (omega arith), high_kept 12 w b (omega arith), high_kept 13 w b (omega arith), high_kept 22 w b (omega arith))

  allow_same : (j p : ℕ) → word_allows j p (bit_or w b) ≡ word_allows j p w
  allow_same j p = simp (bit_kept 1 w b (omega arith), bit_kept 2 w b (omega arith))

pub reading_kept : ReadingKept x86
reading_kept l m k w = read_same w (x86_due (x86_reads l w) k) (due_masked (x86_reads l w) k) m

pub rights_kept : RightsKept x86
rights_kept [] lower w l k j p =
    ap (λ (b : Bool). b && x86_allows lower j p) (allow_same w (x86_due (x86_reads l w) k) (due_masked (x86_reads l w) k) j p)
rights_kept (x ∷ upper) lower w l k j p = ap (λ (b : Bool). word_allows j p x && b) (rights_kept upper lower w l k j p)

-- what the words from place i on allow, by the word there
pub allow_step : (ws : List ℕ) (i k p : ℕ) (b : Bool) → i < length ws → b ≡ word_allows k p (slice_index ws i) → x86_allows (drop i ws) k p ≡ (b && x86_allows (drop (i + 1) ws) k p)
allow_step ws i k p b h e =
    ap (λ xs. x86_allows xs k p) (drop_more ws i 0 h) ∙ ap (λ (t : Bool). t && x86_allows (drop (i + 1) ws) k p) (sym e)

due_none : (r : Answer) (k : ℕ) → (is_table r || is_page r) ≡ false → x86_due r k ≡ 0
due_none r k h = grind (arith, nat_tests)

pub entries_marked : EntriesMarked x86
entries_marked = entries_by x86_reads x86_due due_none
