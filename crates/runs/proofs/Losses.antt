-- What guarding, checking, unlinking and emptying do to a place: it stays, or loses its flag or all that stood there.
use Rattle.std.proofs.Common.{◌≡◌, ℕ, ◌+◌, Bool, true, false, cond, eqb, refl}
use Rattle.memory.specs.Memory.{Memory}
use Rattle.slot.specs.Slot.{check_place, flag_off, guard_leaf}
use Rattle.slot.specs.declared.slots.Place.{Place}
use Rattle.slot.specs.declared.slots.Place.TheVariants.{Empty, Link, Leaf, Piece}
use Rattle.slot.specs.declared.slots.Shadow.{Shadow}
use Rattle.slot.specs.declared.slots.Shadow.TheVariants.{Nothing, Directory, Table, Split}
use Rattle.runs.specs.Laws.{word_at}
use Rattle.runs.proofs.Sound.{opens}
use Rattle.runs.proofs.Views.{View, guard_at, unlink_at, v_checked}

-- a place that lost its flag or all that stood there
pub data Less : Place → Place → Type 0 where
  gone : {p : Place} → Less Empty p
  kept : {p : Place} → Less p p
  leaf_off : {w a : ℕ} {b : Bool} → Less (Leaf w a false) (Leaf w a b)
  piece_off : {b : Bool} → Less (Piece false) (Piece b)

pub less_empty : {p q : Place} → Less p q → q ≡ Empty → p ≡ Empty
less_empty gone e = refl
less_empty l e = cc

pub less_link : {p q : Place} → Less p q → (w s : ℕ) → p ≡ Link w s → q ≡ Link w s
less_link kept w s e = e
less_link l w s e = cc

pub less_leaf : {p q : Place} → Less p q → (w a : ℕ) (b : Bool) → p ≡ Leaf w a b → (c : Bool) × (q ≡ Leaf w a c)
less_leaf kept w a b e = (b, e)
less_leaf (leaf_off {b = c}) w a b e = (c, cc)
less_leaf l w a b e = absurd cc

pub less_piece : {p q : Place} → Less p q → (b : Bool) → p ≡ Piece b → (c : Bool) × (q ≡ Piece c)
less_piece kept b e = (b, e)
less_piece (piece_off {b = c}) b e = (c, refl)
less_piece l b e = absurd cc

pub less_opens : {p q : Place} → Less p q → (j : ℕ) (x : Shadow) (g : ℕ) → opens j x g p ≡ true → opens j x g q ≡ true
less_opens kept j x g e = e
less_opens piece_off j Nothing g e = cc
less_opens piece_off j x g e = cc
less_opens l j x g e = cc

pub less_cond : (b : Bool) {p q : Place} → Less p q → Less (cond b Empty p) q
less_cond true h = gone
less_cond false h = h

pub guard_leaf_less : (f : ℕ) (p : Place) → Less (guard_leaf f p) p
guard_leaf_less f (Leaf w a b) = elim (eqb a f) as (λ x. Less (cond x (Leaf w a false) (Leaf w a b)) (Leaf w a b)) [ true ↦ leaf_off | false ↦ kept ]
guard_leaf_less f p = kept

pub flag_off_less : (p : Place) → Less (flag_off p) p
flag_off_less (Leaf w a b) = leaf_off
flag_off_less (Piece b) = piece_off
flag_off_less p = kept

pub guard_at_less : (f j : ℕ) (x : Shadow) (p : Place) → Less (guard_at f j x p) p
guard_at_less f j (Table g y) p = guard_leaf_less f p
guard_at_less f j (Split g) p = elim (eqb (g + j) f) as (λ x. Less (cond x (flag_off p) p) p) [ true ↦ flag_off_less p | false ↦ kept ]
guard_at_less f j x p = kept

pub check_less : (w : ℕ) (p : Place) → Less (check_place w p) p
check_less w (Leaf v a b) = elim (eqb v w) as (λ x. Less (cond x (Leaf v a b) Empty) (Leaf v a b)) [ true ↦ kept | false ↦ gone ]
check_less w p = kept

pub checked_less : (m : Memory) (i f : ℕ) (v : View) (k j : ℕ) → Less ((v_checked m i f v).pl k j) (v.pl k j)
checked_less m i f v k j =
    elim (eqb k i) as (λ b. Less (cond b (check_place (word_at m f j) (v.pl k j)) (v.pl k j)) (v.pl k j)) [ true ↦ check_less (word_at m f j) (v.pl k j) | false ↦ kept ]

pub unlink_less : (i : ℕ) (x : Shadow) (p : Place) → Less (unlink_at i x p) p
unlink_less i (Directory f) (Link w s) = less_cond (eqb s i) kept
unlink_less i (Directory f) p = kept
unlink_less i x p = kept
