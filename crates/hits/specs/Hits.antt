-- When an access can be answered from what the slots hold.
use Rattle.std.specs.Prelude.{ℕ, ◌+◌, ◌-◌, ◌^◌, Bool, true, cond, not, ◌&&◌, ◌||◌, List, [], ◌∷◌, Some, None, Option, ◌==◌, nat_lt}
use Rattle.paging.specs.Formats.{Format}
use Rattle.paging.specs.Terms.{directory_level, store}
use Rattle.shadow.specs.Slots.{place_at, shadow_at}
use Rattle.hits.specs.declared.hits.Copied.{Copied}
use Rattle.slot.specs.declared.slots.Place.{Place}
use Rattle.slot.specs.declared.slots.Place.TheVariants.{Empty, Link, Leaf, Piece}
use Rattle.slot.specs.declared.slots.Shadow.{Shadow}
use Rattle.slot.specs.declared.slots.Shadow.TheVariants.{Nothing, Directory, Table, Split}
use Rattle.shadow.specs.declared.slots.SlotTable.{SlotTable}

-- THE RULE, on plain numbers: k is the access's kind, p its privilege, ws the copied words from the directory down

-- marking each word for the access, the first at level l and the next one level below, changes none
abbrev pub marked : Format → ℕ → ℕ → List ℕ → Bool
marked F k l [] = true
marked F k l (w ∷ ws) = F.marks l k w == w && marked F k (l - 1) ws

-- a store needs the flag
abbrev pub passes : ℕ → Bool → Bool
passes k flag = not (k == store) || flag

abbrev pub hits : Format → ℕ → ℕ → List ℕ → Bool → Bool
hits F k p ws flag = F.allows ws k p && marked F k directory_level ws && passes k flag

-- the frame aimed at, where the access hits
abbrev pub hit_of : Format → ℕ → ℕ → List ℕ → ℕ → Bool → Option ℕ
hit_of F k p ws aim flag = cond (hits F k p ws flag) (Some aim) None

-- WHAT THE SLOTS HOLD

-- a large page has no word below the directory's
abbrev pub words_of : ℕ → Option ℕ → List ℕ
words_of link None = link ∷ []
words_of link (Some leaf) = link ∷ leaf ∷ []

abbrev pub copied_words : Copied → List ℕ
copied_words c = words_of c.link c.leaf

-- the numbers of frames are below this
abbrev pub number_limit : ℕ
number_limit = 2 ^ 32

-- below a link of word w, piece j of whatever its slot shadows
abbrev pub copied_piece : ℕ → ℕ → Bool → Shadow → Option Copied
copied_piece w j b Nothing = None
copied_piece w j b (Directory f) = None
copied_piece w j b (Table f y) = None
copied_piece w j b (Split f) = cond (nat_lt (f + j) number_limit) (Some (record { link = w; leaf = None; aim = f + j; writable = b })) None

-- below a link of word w, place j of a slot that shadows x
abbrev pub copied_below : ℕ → Shadow → ℕ → Place → Option Copied
copied_below w x j Empty = None
copied_below w x j (Link v s) = None
copied_below w x j (Leaf v a b) = Some (record { link = w; leaf = Some v; aim = a; writable = b })
copied_below w x j (Piece b) = copied_piece w j b x

-- from a place of a directory's slot on
abbrev pub copied_from : SlotTable → ℕ → Place → Option Copied
copied_from t j Empty = None
copied_from t j (Link w s) = copied_below w (shadow_at s t) j (place_at s j t)
copied_from t j (Leaf v a b) = None
copied_from t j (Piece b) = None

-- what place d of slot i, and place j of the slot that it links to, hold together
abbrev pub copied_at : ℕ → ℕ → ℕ → SlotTable → Option Copied
copied_at i d j t = copied_from t j (place_at i d t)
