-- How the turns of an order rearrange it.
use Rattle.std.specs.Prelude.{◌≡◌, ℕ, ◌+◌, true, false, cond, List, [], ◌∷◌, ◌++◌, ◌==◌, refl}
use Rattle.std.proofs.Common.{◌∙◌, arith}
use Rattle.policies.specs.Orders.{times, behind, up_to, turned_past, moved_last, Rearranges}

pub times_append : (s : ℕ) (o p : List ℕ) → times s (o ++ p) ≡ times s o + times s p
times_append s [] p = omega arith
times_append s (x ∷ o) p = omega (arith, times_append s o p)

-- an order that is kept
pub kept_rearranges : Rearranges (λ o x. o)
kept_rearranges o x s = refl

-- both parts of an order together hold what it holds
parts : (x s : ℕ) (o : List ℕ) → times s (behind x o) + times s (up_to x o) ≡ times s o
parts x s [] = refl
parts x s (y ∷ o) =
    elim (y == x) as (λ b. times s (cond b o (behind x o)) + (cond (y == s) 1 0 + times s (cond b [] (up_to x o))) ≡ cond (y == s) 1 0 + times s o)
    [ true ↦ omega arith | false ↦ omega (arith, parts x s o) ]

pub past_rearranges : Rearranges (λ o x. turned_past x o)
past_rearranges o x s = times_append s (behind x o) (up_to x o) ∙ parts x s o

pub last_rearranges : Rearranges (λ o x. moved_last x o)
last_rearranges [] x s = refl
last_rearranges (y ∷ o) x s =
    elim (y == x) as (λ b. times s (cond b (o ++ (y ∷ [])) (y ∷ moved_last x o)) ≡ cond (y == s) 1 0 + times s o)
    [ true ↦ omega (arith, times_append s o (y ∷ [])) | false ↦ omega (arith, last_rearranges o x s) ]
