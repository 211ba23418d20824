-- The slot that is named: it is found from place to place, and where some slot of the order is permitted, it is permitted and stands in the order.
use Rattle.std.proofs.Common.{◌≡◌, ℕ, ◌<◌, Bool, true, false, cond, List, [], ◌∷◌, get_or, Some, None, Option, refl, ap, ◌∙◌, arith}
use Rattle.std.specs.List.{find}
use Rattle.std.specs.Option.{option_map, unwrap_or}
use Rattle.std.proofs.lemmas.Bool.{both_ways, cond_both, eq-eqb, ne_eqb}
use Rattle.policies.specs.Orders.{first_permitted, times, NamesPermitted, NamesStanding}

abbrev Good : List Bool → List ℕ → ℕ → Type 0
Good permitted o f = (get_or permitted f false ≡ true) × (0 < times f o)

good : (permitted : List Bool) (o : List ℕ) (s : ℕ) → get_or permitted s false ≡ true → 0 < times s o → Good permitted o (first_permitted permitted o)
good permitted [] s h k = absurd (omega arith)
good permitted (x ∷ o) s h k =
    cond_both (get_or permitted x false) x (first_permitted permitted o) (Good permitted (x ∷ o))
    (λ e. (e, rw (eq-eqb x x refl) (omega arith)))
    (λ e.
    let other : x ≡ s → ⊥ = λ q. both_ways (get_or permitted x false) e (ap (λ y. get_or permitted y false) q ∙ h) in
    let left = rw (ne_eqb x s other) at k in
    let rest = good permitted o s h (omega arith) in
    (rest.0, omega (arith, rest.1)))

found : (permitted : List Bool) (o : List ℕ) → unwrap_or (find (λ s. get_or permitted s false) o) 0 ≡ first_permitted permitted o
found permitted [] = refl
found permitted (x ∷ o) =
    elim (get_or permitted x false) as (λ b. unwrap_or (cond b (Some x) (find (λ s. get_or permitted s false) o)) 0 ≡ cond b x (first_permitted permitted o))
    [ true ↦ refl | false ↦ found permitted o ]

pub names_permitted : NamesPermitted
names_permitted permitted o s h k = (good permitted o s h k).0

pub names_standing : NamesStanding
names_standing permitted o s h k = (good permitted o s h k).1

-- where a search for a permitted slot found r
pub named_found : (permitted : List Bool) (o : List ℕ) (r : Option ℕ) → option_map (λ x. x) r ≡ find (λ s. get_or permitted s false) o → unwrap_or r 0 ≡ first_permitted permitted o
named_found permitted o None e = ap (λ r. unwrap_or r 0) e ∙ found permitted o
named_found permitted o (Some x) e = ap (λ r. unwrap_or r 0) e ∙ found permitted o
