-- Proofs by the cases of a test.
use Rattle.std.proofs.Common.{◌≡◌, ℕ, Bool, true, false, ◌&&◌, eqb, refl}
use Rattle.std.proofs.lemmas.Bool.{eq-eqb, eqb-false, eqb-true}

pub elim_eq : (t : Bool) (P : Bool → Type 0) → (t ≡ true → P true) → (t ≡ false → P false) → P t
elim_eq true P y n = y refl
elim_eq false P y n = n refl

pub by_eq : (a i : ℕ) (P : Bool → Type 0) → (a ≡ i → P true) → ((a ≡ i → ⊥) → P false) → P (eqb a i)
by_eq a i P y n = elim_eq (eqb a i) P (λ e. y (eqb-true a i e)) (λ e. n (eqb-false a i e))

pub by_eq₂ : (a i b j : ℕ) (P : Bool → Type 0) → (a ≡ i → b ≡ j → P true) → (((a ≡ i) × (b ≡ j) → ⊥) → P false) → P (eqb a i && eqb b j)
by_eq₂ a i b j P y n = by_eq a i (λ x. P (x && eqb b j)) (λ p. by_eq b j P (y p) (λ q. n (λ z. q z.1))) (λ p. n (λ z. p z.0))

pub both_false : (a i b j : ℕ) → (eqb a i && eqb b j) ≡ false → (a ≡ i) × (b ≡ j) → ⊥
both_false a i b j e p = cc (eq-eqb a i p.0, eq-eqb b j p.1)
