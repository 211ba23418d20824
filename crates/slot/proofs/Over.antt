-- A loop that writes f x over each element x of a list.
use Rattle.std.proofs.Common.{◌≡◌, ℕ, ◌+◌, ◌<◌, List, ◌++◌, map, length, get_or, take, drop, set, ap, ◌∙◌, arith}
use Rattle.std.proofs.lemmas.List.{get_or_default}
use Rattle.std.proofs.lemmas.List.Edits.{map_over_more}

-- the first i elements are done, the others are as they were
abbrev pub Over : {X : Type 0} → (X → X) → List X → List X → ℕ → Type 0
Over f xs ys i = ys ≡ map f (take i xs) ++ drop i xs

pub over_more : {X : Type 0} (f : X → X) (xs ys : List X) (i : ℕ) (d y : X) → i < length xs → length ys ≡ length xs → Over f xs ys i → y ≡ f (get_or ys i d) → Over f xs (set ys i y) (i + 1)
over_more f xs ys i d y h n e v =
    ap (set ys i) v ∙ map_over_more f xs ys i (get_or ys i d) h e (get_or_default ys i d (get_or ys i d) (omega arith))
