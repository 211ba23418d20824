-- The first slot that passes, as the library's words say it.
use Rattle.std.proofs.Common.{◌≡◌, ℕ, zero, suc, ◌+◌, ◌≤◌, Bool, true, false, cond, ◌&&◌, ◌||◌, nat_lt, List, [], ◌∷◌, take, Some, None, is_some, refl, ap, sym, ◌∙◌, add-one, arith}
use Rattle.std.specs.List.{list_any, position, position_from}
use Rattle.std.proofs.lemmas.Bool.{lt-ltb, le-ltb}
use Rattle.std.proofs.lemmas.Iterator.Adapters.{position_from-zero}
use Rattle.slot.specs.declared.slots.Slot.{Slot}
use Rattle.shadow.specs.Slots.{first_from}

module _ (p : Slot → Bool) where
  from : (k : ℕ) (ss : List Slot) → first_from (λ _ s. p s) k ss ≡ position_from p k ss
  from k [] = refl
  from k (s ∷ ss) =
      ap (λ r. cond (p s) (Some k) r) (from (suc k) ss ∙ ap (λ n. position_from p n ss) (sym (add-one k)))

  pub first_by_position : (ss : List Slot) → position p ss ≡ first_from (λ _ s. p s) 0 ss
  first_by_position ss = position_from-zero p ss ∙ sym (from 0 ss)

  none_from : (n k : ℕ) (ss : List Slot) → n ≤ k → first_from (λ j s. nat_lt j n && p s) k ss ≡ None
  none_from n k [] h = refl
  none_from n k (s ∷ ss) h = rw (le-ltb k n h) (none_from n (suc k) ss (omega arith))

  below : (n k m : ℕ) (ss : List Slot) → n ≡ k + m → first_from (λ _ s. p s) k (take m ss) ≡ first_from (λ j s. nat_lt j n && p s) k ss
  below n k zero ss e = sym (none_from n k ss (omega arith))
  below n k (suc m) [] e = refl
  below n k (suc m) (s ∷ ss) e =
      rw (lt-ltb k n (omega arith)) (ap (λ r. cond (p s) (Some k) r) (below n (suc k) m ss (omega arith)))

  -- among the first n
  pub first_below_by_position : (n : ℕ) (ss : List Slot) → position p (take n ss) ≡ first_from (λ k s. nat_lt k n && p s) 0 ss
  first_below_by_position n ss = first_by_position (take n ss) ∙ below n 0 n ss (omega arith)

  any_from : (k : ℕ) (ss : List Slot) → list_any p ss ≡ is_some (first_from (λ _ s. p s) k ss)
  any_from k [] = refl
  any_from k (s ∷ ss) =
      elim (p s) as (λ b. b || list_any p ss ≡ is_some (cond b (Some k) (first_from (λ _ s. p s) (suc k) ss)))
      [ true ↦ refl | false ↦ any_from (suc k) ss ]

  pub some_by_any : (ss : List Slot) → list_any p ss ≡ is_some (first_from (λ _ s. p s) 0 ss)
  some_by_any ss = any_from 0 ss
