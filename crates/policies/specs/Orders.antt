-- Orders of slots: how a policy starts, names and turns them.
use Rattle.std.specs.Prelude.{◌≡◌, ℕ, zero, suc, ◌+◌, ◌-◌, ◌<◌, Bool, true, false, cond, List, [], ◌∷◌, ◌++◌, ◌==◌, slice_index, slice_index_or}

-- n numbers from a on, rising
abbrev pub rising : ℕ → ℕ → List ℕ
rising a zero = []
rising a (suc n) = a ∷ rising (suc a) n

-- the numbers below n, rising
abbrev pub numbered : ℕ → List ℕ
numbered n = rising 0 n

-- the first slot of an order that is permitted; 0 where none is, but a naming is always given one that is
abbrev pub first_permitted : List Bool → List ℕ → ℕ
first_permitted permitted [] = 0
first_permitted permitted (x ∷ o) = cond (slice_index_or permitted x false) x (first_permitted permitted o)

-- how often slot s stands in an order
abbrev pub times : ℕ → List ℕ → ℕ
times s [] = 0
times s (x ∷ o) = cond (x == s) 1 0 + times s o

-- how a policy turns its order
pub record Rule : Type 0 where
  -- the order after a slot was told of
  pub told : List ℕ → ℕ → List ℕ
  -- the order after a slot was named
  pub named : List ℕ → ℕ → List ℕ

-- A turn leaves each slot in the order as often as it stood there: once, in an order that began by number.
abbrev pub Rearranges : (List ℕ → ℕ → List ℕ) → Type 0
Rearranges turn = (o : List ℕ) (x s : ℕ) → times s (turn o x) ≡ times s o

-- Both turns of a rule rearrange.
pub record OrdersKept (R : Rule) : Type 0 where
  pub told_rearranges : Rearranges R.told
  pub named_rearranges : Rearranges R.named

-- what stands behind the first x
abbrev pub behind : ℕ → List ℕ → List ℕ
behind x [] = []
behind x (y ∷ o) = cond (y == x) o (behind x o)

-- what stands up to the first x, and it; all where x does not stand in the order
abbrev pub up_to : ℕ → List ℕ → List ℕ
up_to x [] = []
up_to x (y ∷ o) = y ∷ cond (y == x) [] (up_to x o)

-- the order that begins behind the first x and goes round the end; the same order where x does not stand in it
abbrev pub turned_past : ℕ → List ℕ → List ℕ
turned_past x o = behind x o ++ up_to x o

-- the first x taken out of its place and put last; the same order where x does not stand in it
abbrev pub moved_last : ℕ → List ℕ → List ℕ
moved_last x [] = []
moved_last x (y ∷ o) = cond (y == x) (o ++ (y ∷ [])) (y ∷ moved_last x o)

-- The hand: a slot that is named is passed, and telling turns nothing.
abbrev pub hand_rule : Rule
hand_rule = record { told = λ o x. o; named = λ o x. turned_past x o }

-- The oldest: a slot that is told of becomes the last, and naming turns nothing.
abbrev pub old_rule : Rule
old_rule = record { told = λ o x. moved_last x o; named = λ o x. o }

-- the slots below n, from the hand h upward and round the end
abbrev pub from_hand : ℕ → ℕ → List ℕ
from_hand h n = rising h (n - h) ++ numbered h

-- every slot is below the limit
abbrev pub Small : List ℕ → Type 0
Small o = (i : ℕ) → slice_index o i < 8

-- Where some slot of the order is permitted, the slot that is named is permitted ..
abbrev pub NamesPermitted : Type 0
NamesPermitted = (permitted : List Bool) (o : List ℕ) (s : ℕ) → slice_index_or permitted s false ≡ true → 0 < times s o → slice_index_or permitted (first_permitted permitted o) false ≡ true

-- .. and stands in the order.
abbrev pub NamesStanding : Type 0
NamesStanding = (permitted : List Bool) (o : List ℕ) (s : ℕ) → slice_index_or permitted s false ≡ true → 0 < times s o → 0 < times (first_permitted permitted o) o
