-- The laws of Sv32: marks are bits 6 and 7 of a page's word, and no page is read or allowed by them.
use Rattle.std.specs.Prelude.{◌≡◌, ℕ, ◌/◌, ◌%◌, Bool, true, false, cond, ◌&&◌, ◌||◌, List, [], ◌∷◌, length, ◌==◌, bit_or, slice_index_or, refl}
use Rattle.std.proofs.Common.{sym, ap, ◌∙◌, arith}
use Rattle.std.specs.Int.Bits.{or_zero_r}
use Rattle.std.proofs.lemmas.Bool.Decides.{nat_tests}
use Rattle.memory.specs.Answers.{Answer}
use Rattle.paging.specs.Formats.{EntriesMarked, ReadingKept, RightsKept}
use Rattle.paging.specs.Sv32.{leaf, right, side, sv32, sv32_due, sv32_marks, sv32_reads}
use Rattle.paging.specs.Terms.{is_page, is_table, store}
use Rattle.paging.specs.Marks.{bit_kept, entries_by, high_kept}
use Rattle.paging.specs.Words.{page_after}

-- a mask of marks: nothing below bit 6, nothing above bit 7
abbrev Mask : ℕ → Type 0
Mask b = (b % 64 ≡ 0) × (b / 256 ≡ 0)

page_leaf : (l w : ℕ) → is_page (sv32_reads l w) ≡ true → leaf w ≡ true
page_leaf l w h = grind (arith, nat_tests)

masked : (s : Bool) → Mask (cond s 0xc0 0x40)
masked true = (refl, refl)
masked false = (refl, refl)

module _ (w b : ℕ) (h : Mask b) where
  read_same : (m : ℕ) → leaf w ≡ true → sv32_reads m (bit_or w b) ≡ sv32_reads m w
  read_same m t =
      simp (bit_kept 0 w b (omega arith), bit_kept 1 w b (omega arith), bit_kept 2 w b (omega arith), bit_kept 3 w b (omega arith), high_kept 10 w b (omega arith), t)

  allow_same : (j p : ℕ) → (right j (bit_or w b) && side p (bit_or w b)) ≡ (right j w && side p w)
  allow_same j p =
      simp (bit_kept 1 w b (omega arith), bit_kept 2 w b (omega arith), bit_kept 3 w b (omega arith), bit_kept 4 w b (omega arith))

-- by whether the word is a page
read_kept : (l m k w : ℕ) (s : Bool) → is_page (sv32_reads l w) ≡ s → sv32_reads m (bit_or w (cond s (cond (k == store) 0xc0 0x40) 0)) ≡ sv32_reads m w
read_kept l m k w true h = read_same w (cond (k == store) 0xc0 0x40) (masked (k == store)) m (page_leaf l w h)
read_kept l m k w false h = ap (sv32_reads m) (or_zero_r w)

allow_kept : (k w j p : ℕ) (s : Bool) → let v = bit_or w (cond s (cond (k == store) 0xc0 0x40) 0) in (right j v && side p v) ≡ (right j w && side p w)
allow_kept k w j p true = allow_same w (cond (k == store) 0xc0 0x40) (masked (k == store)) j p
allow_kept k w j p false = ap (λ (v : ℕ). right j v && side p v) (or_zero_r w)

pub reading_kept : ReadingKept sv32
reading_kept l m k w = read_kept l m k w (is_page (sv32_reads l w)) refl

-- the page's own word is marked, or one above it
either_word : (lower : List ℕ) (w l k j p : ℕ) → let v = sv32_marks l k w in let x = slice_index_or (v ∷ lower) (length lower) 0 in let y = slice_index_or (w ∷ lower) (length lower) 0 in (right j x && side p x) ≡ (right j y && side p y)
either_word [] w l k j p = allow_kept k w j p (is_page (sv32_reads l w))
either_word (x ∷ xs) w l k j p = refl

pub rights_kept : RightsKept sv32
rights_kept upper lower w l k j p =
    ap (λ (v : ℕ). right j v && side p v) (page_after upper (sv32_marks l k w) lower)
    ∙ either_word lower w l k j p
    ∙ sym (ap (λ (v : ℕ). right j v && side p v) (page_after upper w lower))

due_none : (r : Answer) (k : ℕ) → (is_table r || is_page r) ≡ false → sv32_due r k ≡ 0
due_none r k h = grind (arith, nat_tests)

pub entries_marked : EntriesMarked sv32
entries_marked = entries_by sv32_reads sv32_due due_none
