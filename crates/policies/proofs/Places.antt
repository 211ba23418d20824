-- An order as a list of places: slots that move up into a gap, and a slot that moves last.
use Rattle.std.proofs.Common.{◌≡◌, ◌≢◌, refl, ℕ, zero, suc, ◌+◌, ◌<◌, ◌≤◌, true, false, cond, eqb, List, [], ◌∷◌, ◌++◌, length, get_or, take, drop, add-one, ap, ◌∙◌, arith}
use Rattle.std.proofs.lemmas.Bool.{eq-eqb, ne_eqb}
use Rattle.std.specs.List.{remove}
use Rattle.policies.specs.Orders.{moved_last, Small}

-- the first x in an order moves last
moved_at : (x : ℕ) (o : List ℕ) (i : ℕ) → i < length o → get_or o i 0 ≡ x → ((k d : ℕ) → 0 ≤ k → k < i → get_or o k d ≢ x) → remove o i ++ (get_or o i 0 ∷ []) ≡ moved_last x o
moved_at x [] i h e n = absurd (omega arith)
moved_at x (y ∷ o) zero h e n = rw (eq-eqb y x e) refl
moved_at x (y ∷ o) (suc i) h e n =
    rw (ne_eqb y x (n 0 0 (omega arith) (omega arith)))
    (ap (λ (r : List ℕ). y ∷ r) (moved_at x o i (omega arith) e (λ k d low high. n (suc k) d (omega arith) (omega arith))))

pub last_found : (x : ℕ) (o : List ℕ) (i : ℕ) → i < length o → get_or o i 0 ≡ x → ((k d : ℕ) → 0 ≤ k → k < i → get_or o k d ≢ x) → (take i o ++ drop (i + 1) o) ++ (get_or o i 0 ∷ []) ≡ moved_last x o
last_found x o i h e n = ap (λ m. (take i o ++ drop m o) ++ (get_or o i 0 ∷ [])) (add-one i) ∙ moved_at x o i h e n

-- an order without x stays
pub last_missing : (x : ℕ) (o : List ℕ) → ((k d : ℕ) → 0 ≤ k → k < length o → get_or o k d ≢ x) → o ≡ moved_last x o
last_missing x [] n = refl
last_missing x (y ∷ o) n =
    rw (ne_eqb y x (n 0 0 (omega arith) (omega arith)))
    (ap (λ (r : List ℕ). y ∷ r) (last_missing x o (λ k d low high. n (suc k) d (omega arith) (omega arith))))

small_cons : (x : ℕ) (o : List ℕ) → x < 8 → Small o → Small (x ∷ o)
small_cons x o h k zero = h
small_cons x o h k (suc i) = k i

pub small_append : (o p : List ℕ) → Small o → Small p → Small (o ++ p)
small_append [] p h k = k
small_append (x ∷ o) p h k = small_cons x (o ++ p) (h 0) (small_append o p (λ i. h (suc i)) k)

pub small_take : (n : ℕ) (o : List ℕ) → Small o → Small (take n o)
small_take zero o h i = omega arith
small_take (suc n) [] h i = omega arith
small_take (suc n) (x ∷ o) h i = small_cons x (take n o) (h 0) (small_take n o (λ j. h (suc j))) i

pub small_drop : (n : ℕ) (o : List ℕ) → Small o → Small (drop n o)
small_drop zero o h i = h i
small_drop (suc n) [] h i = omega arith
small_drop (suc n) (x ∷ o) h i = small_drop n o (λ j. h (suc j)) i

pub small_last : (x : ℕ) (o : List ℕ) → Small o → Small (moved_last x o)
small_last x [] h = h
small_last x (y ∷ o) h =
    elim (eqb y x) as (λ b. Small (cond b (o ++ (y ∷ [])) (y ∷ moved_last x o))) [
      | true ↦ small_append o (y ∷ []) (λ i. h (suc i)) (small_cons y [] (h 0) (λ i. omega arith))
      | false ↦ small_cons y (moved_last x o) (h 0) (small_last x o (λ i. h (suc i)))
    ]
