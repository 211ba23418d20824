-- What setting bits by a mask leaves of a word, and laws of every format that sets bits by how a word reads.
use Rattle.std.specs.Prelude.{◌≡◌, ℕ, ◌/◌, ◌%◌, ◌^◌, false, ◌||◌, max, bit_or, nat_eq}
use Rattle.std.proofs.Common.{ap, ◌∙◌, arith}
use Rattle.std.proofs.lemmas.Nat.{or_shr}
use Rattle.std.proofs.lemmas.Nat.Bits.{bit_at_or, same_from_bits}
use Rattle.std.specs.Int.Bits.{or_zero_r}
use Rattle.memory.specs.Answers.{Answer}
use Rattle.paging.specs.Bits.{bit}
use Rattle.paging.specs.Terms.{is_page, is_table}

-- bit j of a word and a mask
or_bit : (j a b : ℕ) → bit_or a b / 2 ^ j % 2 ≡ max (a / 2 ^ j % 2) (b / 2 ^ j % 2)
or_bit j a b = bit_at_or a b j

-- a bit that the mask b has not stays
pub bit_kept : (j a b : ℕ) → b / 2 ^ j % 2 ≡ 0 → bit j (bit_or a b) ≡ bit j a
bit_kept j a b h = ap (λ (n : ℕ). nat_eq n 1) (or_bit j a b ∙ omega arith)

-- the bits from j up stay, where the mask b has none of them
pub high_kept : (j a b : ℕ) → b / 2 ^ j ≡ 0 → bit_or a b / 2 ^ j ≡ a / 2 ^ j
high_kept j a b h = or_shr a b j ∙ rw h (or_zero_r (a / 2 ^ j))

-- two masks go on in either order
or_swap : (a b c : ℕ) → bit_or (bit_or a b) c ≡ bit_or (bit_or a c) b
or_swap a b c = same_from_bits _ _ (λ i. simp bit_at_or (omega arith))

or_again : (a b : ℕ) → bit_or (bit_or a b) b ≡ bit_or a b
or_again a b = same_from_bits _ _ (λ i. simp bit_at_or (omega arith))

-- an empty mask
pub unmarked : (w b : ℕ) → b ≡ 0 → bit_or w b ≡ w
unmarked w b e = rw e (or_zero_r w)

-- Marks that are bits set by how the word reads.
module _ (reads : ℕ → ℕ → Answer) (due : Answer → ℕ → ℕ) where
  abbrev marks : ℕ → ℕ → ℕ → ℕ
  marks l k w = bit_or w (due (reads l w) k)

  -- Only pages and tables are marked, where no bits are due on anything else.
  pub entries_by : ((r : Answer) (k : ℕ) → (is_table r || is_page r) ≡ false → due r k ≡ 0) → (l k w : ℕ) → (is_table (reads l w) || is_page (reads l w)) ≡ false → marks l k w ≡ w
  entries_by none l k w h = unmarked w _ (none (reads l w) k h)

  -- The second law, where marks leave as it is how the word reads.
  pub once_by : ((l m k w : ℕ) → reads m (marks l k w) ≡ reads m w) → (l k w : ℕ) → marks l k (marks l k w) ≡ marks l k w
  once_by kept l k w = rw (kept l l k w) (or_again w (due (reads l w) k))

  pub last_by : ((l m k w : ℕ) → reads m (marks l k w) ≡ reads m w) → (l m k j w : ℕ) → marks l k w ≡ w → marks l k (marks m j w) ≡ marks m j w
  last_by kept l m k j w still =
      rw (kept m l j w)
      (or_swap w (due (reads m w) j) (due (reads l w) k) ∙ ap (λ (v : ℕ). bit_or v (due (reads m w) j)) still)
