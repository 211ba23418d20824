-- A loop that checks each place of a list against the word of its index.
use Rattle.std.proofs.Common.{◌≡◌, ℕ, zero, suc, ◌+◌, ◌<◌, ◌≤◌, List, [], ◌∷◌, ◌++◌, length, get_or, take, drop, set, sym, ap, ◌∙◌, add-one, arith}
use Rattle.std.proofs.lemmas.List.{append-nil, drop_all, take_all}
use Rattle.slot.specs.Slot.{check_from, check_place}
use Rattle.slot.specs.declared.slots.Place.{Place}
use Rattle.slot.specs.declared.slots.Place.TheVariants.{Empty}

-- the first j places are checked, the others are as they were
abbrev pub Checked : List ℕ → List Place → List Place → ℕ → Type 0
Checked ws xs ys j = ys ≡ check_from ws 0 (take j xs) ++ drop j xs

-- place j of places that begin at index k of their slot, which is index n there
step : (ws : List ℕ) (xs : List Place) (k j n : ℕ) → n ≡ k + j → j < length xs → let ys = check_from ws k (take j xs) ++ drop j xs in set ys j (check_place (get_or ws n 0) (get_or ys j Empty)) ≡ check_from ws k (take (suc j) xs) ++ drop (suc j) xs
step ws [] k j n e h = absurd (omega arith)
step ws (x ∷ xs) k zero n e h = let same : n ≡ k = omega arith in ap (λ m. check_place (get_or ws m 0) x ∷ xs) same
step ws (x ∷ xs) k (suc j) n e h = ap (λ ps. check_place (get_or ws k 0) x ∷ ps) (step ws xs (suc k) j n (omega arith) (omega arith))

pub checked_more : (ws : List ℕ) (xs ys : List Place) (j : ℕ) (p : Place) → j < length xs → Checked ws xs ys j → p ≡ check_place (get_or ws j 0) (get_or ys j Empty) → Checked ws xs (set ys j p) (j + 1)
checked_more ws xs ys j p h e v =
    ap (set ys j) v
    ∙ ap (λ ps. set ps j (check_place (get_or ws j 0) (get_or ps j Empty))) e
    ∙ step ws xs 0 j j (omega arith) h
    ∙ ap (λ n. check_from ws 0 (take n xs) ++ drop n xs) (sym (add-one j))

pub checked_all : (ws : List ℕ) (xs ys : List Place) (j : ℕ) → length xs ≤ j → Checked ws xs ys j → ys ≡ check_from ws 0 xs
checked_all ws xs ys j h e = e ∙ rw (take_all j xs h, drop_all j xs h, append-nil)
