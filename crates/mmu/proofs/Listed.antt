-- An array that a closure made, where each call gives what the index says and leaves the closure as it was.
use Rattle.std.proofs.Common.{◌≡◌, ℕ, zero, suc, ◌+◌, List, length, drop, slice_index_or, subst, ◌∙◌, add-one, arith}
use Rattle.std.proofs.lemmas.List.{drop_all}
use Rattle.std.proofs.Math.Seq.{drop-cons}
use Rattle.std.specs.Array.{IsFromFnResult, IsFromFnResultFrom}
use Rattle.std.specs.Fn.{Called}
use denote.Param.Members.{Mut}
use Rattle.runs.specs.Unit.{listed}

module _ {F : Type 0} (g : Mut F (ℕ × Unit {0}) ℕ) (f : F) (w : ℕ → ℕ) (gives : (i y : ℕ) (q : F) → Called g f (i, tt) y q → (y ≡ w i) × (q ≡ f)) where
  made_from : (xs : List ℕ) (n i : ℕ) → length xs ≡ i + n → IsFromFnResultFrom g f xs i n → drop i xs ≡ listed w i n
  made_from xs zero i e h = drop_all i xs (omega arith)
  made_from xs (suc n) i e (q, y, place, call, rest) =
      let (same, stays) = gives i y q call in
      let first : slice_index_or xs i 0 ≡ w i = place.1 0 ∙ same in
      let others : drop (i + 1) xs ≡ listed w (i + 1) n = made_from xs n (i + 1) (omega arith) (subst (λ p. IsFromFnResultFrom g p xs (i + 1) n) stays rest) in
      let shifted = rw add-one at others in
      drop-cons xs i 0 (omega arith) ∙ cc

  pub made : (xs : List ℕ) (n : ℕ) → IsFromFnResult g f xs n → xs ≡ listed w 0 n
  made xs n h = made_from xs n 0 (omega arith) h.each
