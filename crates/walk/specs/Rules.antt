-- The walk as a relation: one rule for each way in which a step of it can go.
use Rattle.std.specs.Prelude.{◌≡◌, ℕ, ◌+◌, true, false, List, [], ◌∷◌}
use Rattle.memory.specs.Memory.{Memory, words, cause}
use Rattle.paging.specs.Formats.{Format}
use Rattle.paging.specs.Terms.{because_absent, because_denied, because_malformed, because_outside, directory_level, is_absent, is_page, is_table, table_level}
use Rattle.walk.specs.Walk.{Asked, Outcome, Seen, Spot, directory_index, fails, granted, reached, seen, spot, table_index, wanted}

module _ (F : Format) (a : Asked) (m : Memory) (root : ℕ) where
  -- word w stands at index i of frame f
  abbrev pub Holds : ℕ → ℕ → ℕ → Type 0
  Holds f i w = (v : ℕ → ℕ) × (m f ≡ words v) × (v i ≡ w)

  abbrev pub HasWords : ℕ → Type 0
  HasWords f = (v : ℕ → ℕ) × (m f ≡ words v)

  abbrev pub in_root : Spot
  in_root = spot directory_level root (directory_index a.address)

  abbrev pub in_frame : ℕ → Spot
  in_frame f = spot table_level f (table_index a.address)

  -- the directory's word for the address is d
  abbrev pub DirectoryWord : ℕ → Type 0
  DirectoryWord d = Holds root (directory_index a.address) d

  -- The directory's word d reads as a table in frame f.
  pub record TableNamed (d f : ℕ) : Type 0 where
    pub stands : DirectoryWord d
    pub present : is_absent (F.reads directory_level d) ≡ false
    pub table : is_table (F.reads directory_level d) ≡ true
    pub frame : (F.reads directory_level d).value ≡ f

  -- The table's word is w, in frame f, which the directory's word d names.
  pub record TableWord (d f w : ℕ) : Type 0 where
    pub named : TableNamed d f
    pub stands : Holds f (table_index a.address) w

  -- The entries read, from the root down, end in a page whose own entry stands at a spot and whose frame for the address is f.
  pub data PageAt : Spot → List Seen → ℕ → Type 0 where
    large : {d : ℕ} → DirectoryWord d → is_absent (F.reads directory_level d) ≡ false → is_table (F.reads directory_level d) ≡ false → is_page (F.reads directory_level d) ≡ true
        → PageAt in_root (seen in_root d ∷ []) ((F.reads directory_level d).value + table_index a.address)
    small : {d f w : ℕ} → TableWord d f w → is_absent (F.reads table_level w) ≡ false → is_page (F.reads table_level w) ≡ true
        → PageAt (in_frame f) (seen in_root d ∷ seen (in_frame f) w ∷ []) (F.reads table_level w).value

  pub data Walks : Outcome → Type 0 where
    -- the directory's word is read in the root frame
    no_root : {c : ℕ} → m root ≡ cause c → Walks (fails F a because_outside in_root c)
    -- absent or malformed is a fault at level 2
    absent_directory : {d : ℕ} → DirectoryWord d → is_absent (F.reads directory_level d) ≡ true → Walks (fails F a because_absent in_root 0)
    malformed_directory : {d : ℕ} → DirectoryWord d → is_absent (F.reads directory_level d) ≡ false → is_table (F.reads directory_level d) ≡ false → is_page (F.reads directory_level d) ≡ false
        → Walks (fails F a because_malformed in_root 0)
    -- a table leads to a word in its frame, which may have none
    no_table : {d f c : ℕ} → TableNamed d f → m f ≡ cause c → Walks (fails F a because_outside (in_frame f) c)
    -- absent or malformed is a fault at level 1
    absent_table : {d f w : ℕ} → TableWord d f w → is_absent (F.reads table_level w) ≡ true → Walks (fails F a because_absent (in_frame f) 0)
    malformed_table : {d f w : ℕ} → TableWord d f w → is_absent (F.reads table_level w) ≡ false → is_page (F.reads table_level w) ≡ false
        → Walks (fails F a because_malformed (in_frame f) 0)
    -- words that do not allow the access deny it, at the page's level
    denied : {s : Spot} {es : List Seen} {f : ℕ} → PageAt s es f → granted F a es ≡ false → Walks (fails F a because_denied s 0)
    -- a target without words is outside, at level 0
    outside : {s : Spot} {es : List Seen} {f c : ℕ} → PageAt s es f → granted F a es ≡ true → m f ≡ cause c → Walks (fails F a because_outside (wanted F a f) c)
    -- any other target is reached
    arrives : {s : Spot} {es : List Seen} {f : ℕ} → PageAt s es f → granted F a es ≡ true → HasWords f → Walks (reached f es)

-- By the rules a walk has this outcome, and no other.
pub record ByRules (F : Format) (a : Asked) (m : Memory) (root : ℕ) (o : Outcome) : Type 0 where
  pub holds : Walks F a m root o
  pub only : (p : Outcome) → Walks F a m root p → p ≡ o
