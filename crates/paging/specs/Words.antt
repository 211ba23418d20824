-- The last of several words.
use Rattle.std.specs.Prelude.{◌≡◌, ℕ, ◌+◌, ◌-◌, List, ◌∷◌, ◌++◌, length, slice_index}
use Rattle.std.proofs.Common.{ap, ◌∙◌, arith, length-append}
use Rattle.std.proofs.lemmas.List.{get_or-append-add}
use Rattle.paging.specs.Sv32.{page_word}

-- what stands in front of a word does not decide which is the last
pub page_after : (upper : List ℕ) (w : ℕ) (lower : List ℕ) → page_word (upper ++ w ∷ lower) ≡ slice_index (w ∷ lower) (length lower)
page_after upper w lower =
    let place : length (upper ++ w ∷ lower) - 1 ≡ length upper + length lower = omega (arith, length-append upper (w ∷ lower)) in
    ap (λ (n : ℕ). slice_index (upper ++ w ∷ lower) n) place ∙ get_or-append-add upper (w ∷ lower) (length lower) 0
