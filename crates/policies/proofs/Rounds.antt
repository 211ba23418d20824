-- The order from a hand: what stands at a place, and how it turns.
use Rattle.std.proofs.Common.{◌≡◌, ℕ, zero, suc, ◌+◌, ◌-◌, ◌<◌, ◌≤◌, false, cond, eqb, List, [], ◌∷◌, ◌++◌, length, get_or, take, sym, refl, ap, ◌∙◌, ⊎_elim, add-one, arith, length-append}
use Rattle.std.proofs.lemmas.List.{append_assoc, get_or_append_left, get_or-append_right}
use Rattle.std.proofs.lemmas.Bool.{cases_lt, eq-eqb, ne_eqb}
use Rattle.std.proofs.lemmas.Bool.Decides.{nat_tests}
use Rattle.policies.specs.Orders.{rising, from_hand, times, behind, up_to, turned_past}
use Rattle.policies.specs.Turning.{times_append}

length_rising : (a n : ℕ) → length (rising a n) ≡ n
length_rising a zero = refl
length_rising a (suc n) = ap suc (length_rising (suc a) n)

get_or_rising : (a n i : ℕ) → i < n → get_or (rising a n) i 0 ≡ a + i
get_or_rising a zero i h = absurd (omega arith)
get_or_rising a (suc n) zero h = omega arith
get_or_rising a (suc n) (suc i) h = omega (arith, get_or_rising (suc a) n i (omega arith))

pub rising_join : (a m k b n : ℕ) → b ≡ a + m → n ≡ m + k → rising a m ++ rising b k ≡ rising a n
rising_join a zero k b n p q =
    let e : b ≡ a = omega arith in
    let f : k ≡ n = omega arith in
    cc
rising_join a (suc m) k b n p q =
    let e : n ≡ suc (m + k) = omega arith in
    rw e (ap (λ (r : List ℕ). a ∷ r) (rising_join (suc a) m k b (m + k) (omega arith) refl))

-- a slot that is none of the numbers
none_rising : (s a n : ℕ) → ((i : ℕ) → i < n → a + i ≡ s → ⊥) → times s (rising a n) ≡ 0
none_rising s a zero h = refl
none_rising s a (suc n) h =
    rw (ne_eqb a s (λ q. h 0 (omega arith) (omega arith)))
    (omega (arith, none_rising s (suc a) n (λ i l q. h (suc i) (omega arith) (omega arith))))

not_first : (y x t : ℕ) → cond (eqb y x) 1 0 + t ≡ 0 → (eqb y x ≡ false) × (t ≡ 0)
not_first y x t h = grind (arith, nat_tests)

-- an order turned past a slot that stands at a place
turned_at : (p : List ℕ) (x : ℕ) (q : List ℕ) → times x p ≡ 0 → (behind x (p ++ (x ∷ q)) ≡ q) × (up_to x (p ++ (x ∷ q)) ≡ p ++ (x ∷ []))
turned_at [] x q h = (rw (eq-eqb x x refl), rw (eq-eqb x x refl))
turned_at (y ∷ p) x q h =
    let n = not_first y x (times x p) h in
    let e = n.0 in
    let r = turned_at p x q n.1 in
    (rw e r.0, rw e (ap (λ (o : List ℕ). y ∷ o) r.1))

pub past_at : (o p : List ℕ) (x : ℕ) (q : List ℕ) → o ≡ p ++ (x ∷ q) → times x p ≡ 0 → turned_past x o ≡ q ++ (p ++ (x ∷ []))
past_at o p x q e h =
    let r = turned_at p x q h in
    rw e (rw (r.0, r.1))

-- from a hand that has not passed s: the hand goes on past s
past_above : (h s n : ℕ) → h ≤ s → s < n → turned_past s (from_hand h n) ≡ from_hand (suc s) n
past_above h s n le lt =
    let m = n - suc s in
    past_at (from_hand h n) (rising h (s - h)) s (rising (suc s) m ++ rising 0 h)
    (ap (λ (r : List ℕ). r ++ rising 0 h) (sym (rising_join h (s - h) (suc m) s (n - h) (omega arith) (omega arith)))
    ∙ append_assoc (rising h (s - h)) (s ∷ rising (suc s) m) (rising 0 h))
    (none_rising s h (s - h) (λ i l q. omega arith))
    ∙ append_assoc (rising (suc s) m) (rising 0 h) (rising h (s - h) ++ (s ∷ []))
    ∙ ap (λ (r : List ℕ). rising (suc s) m ++ (rising 0 h ++ r)) (rising_join h (s - h) 1 s (suc s - h) (omega arith) (omega arith))
    ∙ ap (λ (r : List ℕ). rising (suc s) m ++ r) (rising_join 0 h (suc s - h) h (suc s) (omega arith) (omega arith))

-- from a hand beyond s: the hand goes round the end to past s
past_below : (h s n : ℕ) → s < h → h ≤ n → turned_past s (from_hand h n) ≡ from_hand (suc s) n
past_below h s n lt le =
    let m = h - suc s in
    let high = rising h (n - h) in
    past_at (from_hand h n) (high ++ rising 0 s) s (rising (suc s) m)
    (ap (λ (r : List ℕ). high ++ r) (sym (rising_join 0 s (suc m) s h (omega arith) (omega arith)))
    ∙ sym (append_assoc high (rising 0 s) (s ∷ rising (suc s) m)))
    (omega (arith, times_append s high (rising 0 s), none_rising s h (n - h) (λ i l q. omega arith), none_rising s 0 s (λ i l q. omega arith)))
    ∙ ap (λ (r : List ℕ). rising (suc s) m ++ r) (append_assoc high (rising 0 s) (s ∷ []))
    ∙ ap (λ (r : List ℕ). rising (suc s) m ++ (high ++ r)) (rising_join 0 s 1 s (suc s) (omega arith) (omega arith))
    ∙ sym (append_assoc (rising (suc s) m) high (rising 0 (suc s)))
    ∙ ap (λ (r : List ℕ). r ++ rising 0 (suc s)) (rising_join (suc s) m (n - h) h (n - suc s) (omega arith) (omega arith))

pub passed_slot : (h s n : ℕ) → h ≤ n → s < n → from_hand (s + 1) n ≡ turned_past s (from_hand h n)
passed_slot h s n le lt =
    ap (λ t. from_hand t n) (add-one s)
    ∙ sym (⊎_elim (λ below. past_below h s n below le) (λ above. past_above h s n above lt) (cases_lt s h))

pub length_from_hand : (h n : ℕ) → h ≤ n → length (from_hand h n) ≡ n
length_from_hand h n le =
    omega (arith, length-append (rising h (n - h)) (rising 0 h), length_rising h (n - h), length_rising 0 h)

-- what stands i places on from the hand, before the end ..
pub ahead_above : (h n i : ℕ) → i < n - h → h + i ≡ get_or (from_hand h n) i 0
ahead_above h n i lt =
    let long = length_rising h (n - h) in
    sym (get_or_append_left (rising h (n - h)) (rising 0 h) 0 i (omega arith) ∙ get_or_rising h (n - h) i lt)

-- .. and round the end
pub ahead_below : (h n i : ℕ) → h ≤ n → n - h ≤ i → i < n → i - (n - h) ≡ get_or (from_hand h n) i 0
ahead_below h n i le past lt =
    let there = get_or-append_right (rising h (n - h)) (rising 0 h) (n - h) i 0 (length_rising h (n - h)) past in
    omega (arith, there, get_or_rising 0 h (i - (n - h)) (omega arith))

-- an order of no slots stays
pub passed_none : (h s n : ℕ) → h ≤ n → n ≤ s → (0 < n → s < n) → from_hand 0 n ≡ turned_past s (from_hand h n)
passed_none h s zero le past within =
    let f : h ≡ 0 = omega arith in
    rw f refl
passed_none h s (suc n) le past within = absurd (omega (arith, within (omega arith)))

pub take_rising : (a m n : ℕ) → m ≤ n → take m (rising a n) ≡ rising a m
take_rising a zero n le = refl
take_rising a (suc m) zero le = absurd (omega arith)
take_rising a (suc m) (suc n) le = ap (λ (r : List ℕ). a ∷ r) (take_rising (suc a) m n (omega arith))
