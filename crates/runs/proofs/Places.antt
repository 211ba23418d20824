-- What the calls of a slot table do to its slots and places, as the views say it, and what its searches find.
use Rattle.std.proofs.Common.{◌≡◌, ℕ, zero, suc, ◌+◌, ◌-◌, ◌<◌, ◌≤◌, Bool, true, false, cond, ◌&&◌, eqb, ltb, leb, ◌⊎◌, List, [], ◌∷◌, map, length, get_or, set, replicate, is_some, Some, None, Option, sym, refl, ap, ◌∙◌, subst, inl, inr, arith, length-set}
use lib.ListN
use lib.ListN.{get_or-replicate, length-map, length-replicate}
use Rattle.std.proofs.lemmas.List.{get_or-map, get_or_past, get_or-set_other, get_or-set_same}
use Rattle.std.proofs.lemmas.Bool.{and_parts, cases_eq, cases_lt, eq-eqb, leb-true, ne_eqb}
use Rattle.std.proofs.lemmas.Bool.Decides.{nat_tests}
use Rattle.memory.specs.Memory.{Memory}
use Rattle.shadow.specs.Slots.{change_all, change_slot, check_as, check_table, drop_entry, evict, fill, find_slot, first_empty, first_from, flag_off_at, fresh, guard, is_free, may_take, permitted, place_at, put_place, set_sync, shadow_at}
use Rattle.slot.specs.Slot.{bare, change_place, check_from, check_place, check_slot, copies, drop_in_slot, flag_off, guard_as, guard_leaf, guard_slot, in_split, is_nothing, lags, no_slot, shadow_of, shadows, sync_slot, unlink_as, unlink_place, unlink_slot, with_sync}
use Rattle.slot.specs.declared.slots.Place.{Place}
use Rattle.slot.specs.declared.slots.Place.TheVariants.{Empty}
use Rattle.slot.specs.declared.slots.Shadow.{Shadow}
use Rattle.slot.specs.declared.slots.Shadow.TheVariants.{Nothing, Directory, Table, Split}
use Rattle.slot.specs.declared.slots.Slot.{Slot}
use Rattle.shadow.specs.declared.slots.SlotTable.{SlotTable}
use Rattle.slot.specs.declared.slots.SyncState.{SyncState}
use Rattle.slot.specs.declared.slots.SyncState.TheVariants.{Protected, Unsynchronised}
use Rattle.slot.specs.declared.slots.Thing.{Thing}
use Rattle.runs.specs.Laws.{word_at}
use Rattle.runs.specs.Unit.{frame_list, listed, resync, table_frame}
use Rattle.runs.proofs.Shadows.{nothing_shadows}
use Rattle.runs.proofs.Views.{Roomy, View, guard_at, unlink_at, v_check, v_checked, v_drop, v_evict, v_fill, v_flag_off, v_guard, v_put, v_sync, view}

same_view : (u v : View) → ((k : ℕ) → u.sh k ≡ v.sh k) → ((k l : ℕ) → u.pl k l ≡ v.pl k l) → u ≡ v
same_view u v p q = λ i. record { sh = λ k. p k i; pl = λ k l. q k l i }

-- LISTS

-- what stands at place k after a write at place i
set_cases : {A : Type 0} (a d : A) (xs : List A) (i k : ℕ) (P : Bool → A → Type 0) → (k ≡ i → i < length xs → P true a) → (k ≡ i → length xs ≤ i → P true d) → P false (get_or xs k d) → P (eqb k i) (get_or (set xs i a) k d)
set_cases {A} a d xs i k P here past other = go (cases_eq k i)
  where
    at : k ≡ i → (x : A) → get_or (set xs i a) k d ≡ x → P true x → P (eqb k i) (get_or (set xs i a) k d)
    at e x is y = subst (λ (b : Bool). P b (get_or (set xs i a) k d)) (sym (eq-eqb k i e)) (subst (P true) (sym is) y)

    in_or_past : k ≡ i → (i < length xs) ⊎ (length xs ≤ i) → P (eqb k i) (get_or (set xs i a) k d)
    in_or_past e (inl h) = at e a (ap (λ (n : ℕ). get_or (set xs i a) n d) e ∙ get_or-set_same xs i a d h) (here e h)
    in_or_past e (inr h) = at e d (get_or_past (set xs i a) k d (rw (length-set xs i a, e) h)) (past e h)

    go : (k ≡ i) ⊎ (k ≡ i → ⊥) → P (eqb k i) (get_or (set xs i a) k d)
    go (inl e) = in_or_past e (cases_lt i (length xs))
    go (inr n) = subst (λ (b : Bool). P b (get_or (set xs i a) k d)) (sym (ne_eqb k i n)) (subst (P false) (sym (get_or-set_other xs i k a d n)) other)

-- a change of one element that leaves the default as it is
changed : {A : Type 0} (g : A → A) (d : A) → g d ≡ d → (xs : List A) (i k : ℕ) (P : Bool → A → Type 0) → P true (g (get_or xs k d)) → P false (get_or xs k d) → P (eqb k i) (get_or (set xs i (g (get_or xs i d))) k d)
changed g d same xs i k P y n =
    set_cases (g (get_or xs i d)) d xs i k P
    (λ e h. subst (λ (m : ℕ). P true (g (get_or xs m d))) e y)
    (λ e h. subst (P true) (ap g (get_or_past xs k d (rw e h)) ∙ same) y)
    n

all_same : {A : Type 0} (n j : ℕ) (a : A) → get_or (replicate n a) j a ≡ a
all_same zero j a = refl
all_same (suc n) zero a = refl
all_same (suc n) (suc j) a = all_same n j a

-- every slot changed alike, where that leaves an absent one
at_all : (g : Slot → Slot) (t : SlotTable) → g no_slot ≡ no_slot → (k : ℕ) → get_or (map g t.slots) k no_slot ≡ g (get_or t.slots k no_slot)
at_all g t same k = subst (λ (s : Slot). get_or (map g t.slots) k s ≡ g (get_or t.slots k no_slot)) same (ListN.get_or-map g t.slots k no_slot)

-- ENDS

pub past_end : (t : SlotTable) (i j : ℕ) → Roomy t → 1024 ≤ j → place_at i j t ≡ Empty
past_end t i j r h = grind (arith, get_or_past t.slots i no_slot, get_or_past (get_or t.slots i no_slot).places j Empty, r.places i, r.slots)

pub small_slot : (t : SlotTable) (i : ℕ) → Roomy t → is_nothing (shadow_at i t) ≡ false → i < 8
small_slot t i r e = grind (arith, get_or_past t.slots i no_slot, r.slots)

-- GUARDING

module _ (f : ℕ) (s : Slot) where
  guard_shadow : (x : Shadow) → (guard_as f s x).shadow ≡ s.shadow
  guard_shadow x = grind (arith, nat_tests)

  guard_place : (j : ℕ) → (1024 ≤ j → get_or s.places j Empty ≡ Empty) → (x : Shadow) → get_or (guard_as f s x).places j Empty ≡ guard_at f j x (get_or s.places j Empty)
  guard_place j past (Table g y) = ListN.get_or-map (guard_leaf f) s.places j Empty
  guard_place j past (Split g) = go (in_split f g) refl
    where
      same : (g ≤ f) → eqb j (f - g) ≡ eqb (g + j) f
      same h = grind (arith, nat_tests)

      outside : in_split f g ≡ false → get_or s.places j Empty ≡ cond (eqb (g + j) f) (flag_off (get_or s.places j Empty)) (get_or s.places j Empty)
      outside e = grind (arith, nat_tests, past)

      go : (b : Bool) → in_split f g ≡ b → get_or (cond b (change_place (f - g) flag_off s) s).places j Empty ≡ cond (eqb (g + j) f) (flag_off (get_or s.places j Empty)) (get_or s.places j Empty)
      go true e =
          changed flag_off Empty refl s.places (f - g) j (λ b q. q ≡ cond b (flag_off (get_or s.places j Empty)) (get_or s.places j Empty)) refl refl
          ∙ ap (λ b. cond b (flag_off (get_or s.places j Empty)) (get_or s.places j Empty)) (same (leb-true g f (and_parts (leb g f) (ltb f (g + 1024)) e).0))
      go false e = outside e
  guard_place j past x = refl

-- a split guards the frames of its 1,024 places only
pub view_guard : (f : ℕ) (t : SlotTable) → Roomy t → view (guard f t) ≡ v_guard f (view t)
unfolding v_guard
view_guard f t r = same_view (view (guard f t)) (v_guard f (view t))
    (λ k. ap (λ (s : Slot). s.shadow) (at_all (guard_slot f) t refl k) ∙ guard_shadow f (get_or t.slots k no_slot) (shadow_at k t))
    (λ k l. ap (λ (s : Slot). get_or s.places l Empty) (at_all (guard_slot f) t refl k) ∙ guard_place f (get_or t.slots k no_slot) l (past_end t k l r) (shadow_at k t))

-- EVICTING

module _ (i : ℕ) (s : Slot) where
  unlink_shadow : (x : Shadow) → (unlink_as i s x).shadow ≡ s.shadow
  unlink_shadow x = grind (arith, nat_tests)

  unlink_in : (j : ℕ) (x : Shadow) → get_or (unlink_as i s x).places j Empty ≡ unlink_at i x (get_or s.places j Empty)
  unlink_in j (Directory g) = ListN.get_or-map (unlink_place i) s.places j Empty
  unlink_in j x = refl

pub view_evict : (i : ℕ) (t : SlotTable) → view (evict i t) ≡ v_evict i (view t)
unfolding v_evict
view_evict i t = same_view (view (evict i t)) (v_evict i (view t))
    (λ k. set_cases (bare Nothing) no_slot (map (unlink_slot i) t.slots) i k (λ b s. s.shadow ≡ cond b Nothing (shadow_at k t)) (λ e h. refl) (λ e h. refl)
    (ap (λ (s : Slot). s.shadow) (at_all (unlink_slot i) t refl k) ∙ unlink_shadow i (get_or t.slots k no_slot) (shadow_at k t)))
    (λ k l. set_cases (bare Nothing) no_slot (map (unlink_slot i) t.slots) i k (λ b s. get_or s.places l Empty ≡ cond b Empty (unlink_at i (shadow_at k t) (place_at k l t))) (λ e h. all_same 1024 l Empty) (λ e h. refl)
    (ap (λ (s : Slot). get_or s.places l Empty) (at_all (unlink_slot i) t refl k) ∙ unlink_in i (get_or t.slots k no_slot) l (shadow_at k t)))

-- WRITES

pub view_sync : (i : ℕ) (y : SyncState) (t : SlotTable) → view (set_sync i y t) ≡ v_sync i y (view t)
unfolding v_sync
view_sync i y t = same_view (view (set_sync i y t)) (v_sync i y (view t))
    (λ k. changed (sync_slot y) no_slot refl t.slots i k (λ b s. s.shadow ≡ cond b (with_sync y (shadow_at k t)) (shadow_at k t)) refl refl)
    (λ k l. changed (sync_slot y) no_slot refl t.slots i k (λ b s. get_or s.places l Empty ≡ place_at k l t) refl refl)

pub view_flag_off : (i j : ℕ) (t : SlotTable) → view (flag_off_at i j t) ≡ v_flag_off i j (view t)
unfolding v_flag_off
view_flag_off i j t = same_view (view (flag_off_at i j t)) (v_flag_off i j (view t))
    (λ k. changed (change_place j flag_off) no_slot refl t.slots i k (λ b s. s.shadow ≡ shadow_at k t) refl refl)
    (λ k l. changed (change_place j flag_off) no_slot refl t.slots i k (λ b s. get_or s.places l Empty ≡ cond (b && eqb l j) (flag_off (place_at k l t)) (place_at k l t))
    (changed flag_off Empty refl (get_or t.slots k no_slot).places j l (λ b p. p ≡ cond b (flag_off (place_at k l t)) (place_at k l t)) refl refl)
    refl)

pub view_drop : (f j : ℕ) (t : SlotTable) → view (drop_entry f j t) ≡ v_drop f j (view t)
unfolding v_drop
view_drop f j t = same_view (view (drop_entry f j t)) (v_drop f j (view t))
    (λ k. ap (λ (s : Slot). s.shadow) (at_all (drop_in_slot f j) t refl k) ∙ drop_shadow (get_or t.slots k no_slot) (copies f (shadow_at k t)))
    (λ k l. ap (λ (s : Slot). get_or s.places l Empty) (at_all (drop_in_slot f j) t refl k) ∙ drop_place (get_or t.slots k no_slot) l (copies f (shadow_at k t)))
  where
    drop_shadow : (s : Slot) (b : Bool) → (cond b (change_place j (λ p. Empty) s) s).shadow ≡ s.shadow
    drop_shadow s b = grind (arith, nat_tests)

    drop_place : (s : Slot) (l : ℕ) (b : Bool) → get_or (cond b (change_place j (λ p. Empty) s) s).places l Empty ≡ cond (b && eqb l j) Empty (get_or s.places l Empty)
    drop_place s l true = changed (λ p. Empty) Empty refl s.places j l (λ b q. q ≡ cond b Empty (get_or s.places l Empty)) refl refl
    drop_place s l false = refl

-- SEARCHES

-- what a search from number k on found, and what it passed
module _ (p : ℕ → Slot → Bool) where
  record Found (k : ℕ) (ss : List Slot) (i : ℕ) : Type 0 where
    step : ℕ
    number : k + step ≡ i
    inside : step < length ss
    passes : p i (get_or ss step no_slot) ≡ true

  first_some : (k : ℕ) (ss : List Slot) (i : ℕ) → first_from p k ss ≡ Some i → Found k ss i
  first_some k [] i e = cc
  first_some k (s ∷ ss) i e = go (p k s) refl (first_some (suc k) ss i) e
    where
      go : (b : Bool) → p k s ≡ b → (first_from p (suc k) ss ≡ Some i → Found (suc k) ss i) → cond b (Some k) (first_from p (suc k) ss) ≡ Some i → Found k (s ∷ ss) i
      go true q later e = let same : k ≡ i = cc in record { step = 0; number = omega arith; inside = omega arith; passes = subst (λ (n : ℕ). p n s ≡ true) same q }
      go false q later e = let r = later e in record { step = suc r.step; number = omega (arith, r.number); inside = omega (arith, r.inside); passes = r.passes }

  first_none : (k : ℕ) (ss : List Slot) → first_from p k ss ≡ None → (j n : ℕ) → k + j ≡ n → j < length ss → p n (get_or ss j no_slot) ≡ false
  first_none k [] e j n is h = absurd (omega arith)
  first_none k (s ∷ ss) e zero n is h = grind (arith, nat_tests)
  first_none k (s ∷ ss) e (suc j) n is h = grind (arith, nat_tests, first_none (suc k) ss)

-- searches that ask only what a slot shadows
module _ (q : Shadow → Bool) (t : SlotTable) where
  slot_found : (i : ℕ) → first_from (λ k s. q s.shadow) 0 t.slots ≡ Some i → (q (shadow_at i t) ≡ true) × (i < length t.slots)
  slot_found i e = grind (arith, first_some (λ k s. q s.shadow) 0 t.slots i e)

  slot_missed : q Nothing ≡ false → first_from (λ k s. q s.shadow) 0 t.slots ≡ None → (k : ℕ) → q (shadow_at k t) ≡ false
  slot_missed n e k = grind (arith, first_none (λ k s. q s.shadow) 0 t.slots e k k, get_or_past t.slots k no_slot)

  pub slot_some : is_some (first_from (λ k s. q s.shadow) 0 t.slots) ≡ true → (i : ℕ) × (q (shadow_at i t) ≡ true)
  slot_some = go (first_from (λ k s. q s.shadow) 0 t.slots) refl
    where
      go : (o : Option ℕ) → first_from (λ k s. q s.shadow) 0 t.slots ≡ o → is_some o ≡ true → (i : ℕ) × (q (shadow_at i t) ≡ true)
      go None e z = absurd cc
      go (Some i) e z = (i, (slot_found i e).0)

  pub slot_none : q Nothing ≡ false → is_some (first_from (λ k s. q s.shadow) 0 t.slots) ≡ false → (k : ℕ) → q (shadow_at k t) ≡ false
  slot_none n e k = grind (arith, slot_missed n, k)

pub find_some : (x : Thing) (t : SlotTable) (i : ℕ) → Roomy t → find_slot x t ≡ Some i → (shadows (shadow_at i t) x ≡ true) × (i < 8)
find_some x t i r e = grind (arith, slot_found (λ y. shadows y x) t i e, r.slots)

pub find_none : (x : Thing) (t : SlotTable) → find_slot x t ≡ None → (k : ℕ) → shadows (shadow_at k t) x ≡ false
find_none x t e = slot_missed (λ y. shadows y x) t (nothing_shadows x) e

pub empty_some : (t : SlotTable) (i : ℕ) → first_empty t ≡ Some i → (is_nothing (shadow_at i t) ≡ true) × (i < t.count)
empty_some t i e = grind (arith, nat_tests, first_some (λ k s. is_free t.count k s.shadow) 0 t.slots i e)

pub empty_none : (t : SlotTable) → Roomy t → t.count ≤ 8 → first_empty t ≡ None → (k : ℕ) → k < t.count → is_nothing (shadow_at k t) ≡ false
empty_none t r small e k h = grind (arith, nat_tests, r.slots, first_none (λ n s. is_free t.count n s.shadow) 0 t.slots e k k)

-- WORDS OF A FRAME

get_or_listed : (w : ℕ → ℕ) (k n j : ℕ) → j < n → get_or (listed w k n) j 0 ≡ w (k + j)
get_or_listed w k zero j h = absurd (omega arith)
get_or_listed w k (suc n) zero h = grind arith
get_or_listed w k (suc n) (suc j) h = grind (arith, get_or_listed w (suc k) n j)

pub frame_word : (m : Memory) (f j : ℕ) → j < 1024 → get_or (frame_list m f) j 0 ≡ word_at m f j
frame_word m f j h = grind (arith, get_or_listed (word_at m f) 0 1024 j h)

-- PERMISSIONS

module _ (r : Option ℕ) (t : SlotTable) (i : ℕ) where
  permitted_at : i < 8 → get_or (permitted r t) i false ≡ may_take r t i
  permitted_at h = let same : 0 + i ≡ i = omega arith in
      get_or-map (may_take r t) (0 ∷ 1 ∷ 2 ∷ 3 ∷ 4 ∷ 5 ∷ 6 ∷ 7 ∷ []) i 0 false h ∙ ap (may_take r t) (get_or_listed (λ n. n) 0 8 i h ∙ same)

  pub permitted_if : i < 8 → may_take r t i ≡ true → get_or (permitted r t) i false ≡ true
  permitted_if h e = permitted_at h ∙ e

  pub permitted_says : get_or (permitted r t) i false ≡ true → may_take r t i ≡ true
  permitted_says e = grind (arith, permitted_at, get_or_past (permitted r t) i false)

-- FILLING AND PUTTING

pub view_fill : (i : ℕ) (x : Thing) (t : SlotTable) → Roomy t → i < 8 → view (fill i x t) ≡ v_fill i x (view t)
unfolding v_fill
view_fill i x t r small = same_view (view (fill i x t)) (v_fill i x (view t))
    (λ k. set_cases (bare (shadow_of x)) no_slot t.slots i k (λ b s. s.shadow ≡ cond b (shadow_of x) (shadow_at k t)) (λ e h. refl) (λ e h. absurd (omega (arith, r.slots))) refl)
    (λ k l. set_cases (bare (shadow_of x)) no_slot t.slots i k (λ b s. get_or s.places l Empty ≡ cond b Empty (place_at k l t)) (λ e h. all_same 1024 l Empty) (λ e h. refl) refl)

pub view_put : (i j : ℕ) (p : Place) (t : SlotTable) → Roomy t → i < 8 → j < 1024 → view (put_place i j p t) ≡ v_put i j p (view t)
unfolding v_put
view_put i j p t r small low = same_view (view (put_place i j p t)) (v_put i j p (view t))
    (λ k. changed (change_place j (λ q. p)) no_slot refl t.slots i k (λ b s. s.shadow ≡ shadow_at k t) refl refl)
    (λ k l. set_cases (change_place j (λ q. p) (get_or t.slots i no_slot)) no_slot t.slots i k (λ b s. get_or s.places l Empty ≡ cond (b && eqb l j) p (place_at k l t))
    (λ e h. set_cases p Empty (get_or t.slots i no_slot).places j l (λ b q. q ≡ cond b p (place_at k l t)) (λ z n. refl) (λ z n. absurd (omega (arith, r.places i small))) (ap (λ (n : ℕ). place_at n l t) (sym e)))
    (λ e h. absurd (omega (arith, r.slots)))
    refl)

-- TABLES WITH ROOM

-- every slot keeps as many places as it has
roomy_all : (g : Slot → Slot) (t : SlotTable) → g no_slot ≡ no_slot → ((s : Slot) → length (g s).places ≡ length s.places) → Roomy t → Roomy (change_all g t)
roomy_all g t same keeps r = record {
  slots = length-map t.slots g ∙ r.slots;
  places = λ k h. ap (λ (s : Slot). length s.places) (at_all g t same k) ∙ keeps (get_or t.slots k no_slot) ∙ r.places k h;
}

roomy_slot : (i : ℕ) (g : Slot → Slot) (t : SlotTable) → ((s : Slot) → length s.places ≡ 1024 → length (g s).places ≡ 1024) → Roomy t → Roomy (change_slot i g t)
roomy_slot i g t keeps r = record {
  slots = length-set t.slots i (g (get_or t.slots i no_slot)) ∙ r.slots;
  places = λ k h. set_cases (g (get_or t.slots i no_slot)) no_slot t.slots i k (λ b s. length s.places ≡ 1024)
      (λ e n. keeps (get_or t.slots i no_slot) (r.places i (omega arith)))
      (λ e n. absurd (omega (arith, r.slots)))
      (r.places k h);
}

roomy_place : (i j : ℕ) (g : Place → Place) (t : SlotTable) → Roomy t → Roomy (change_slot i (change_place j g) t)
roomy_place i j g t = roomy_slot i (change_place j g) t (λ s e. length-set s.places j (g (get_or s.places j Empty)) ∙ e)

pub roomy_guard : (f : ℕ) (t : SlotTable) → Roomy t → Roomy (guard f t)
roomy_guard f t = roomy_all (guard_slot f) t refl (λ s. keeps s s.shadow)
  where
    keeps : (s : Slot) (x : Shadow) → length (guard_as f s x).places ≡ length s.places
    keeps s x = grind (arith, nat_tests, length-map s.places (guard_leaf f), length-set s.places)

pub roomy_evict : (i : ℕ) (t : SlotTable) → Roomy t → Roomy (evict i t)
roomy_evict i t r = roomy_slot i (λ s. bare Nothing) (change_all (unlink_slot i) t) (λ s e. length-replicate 1024 Empty) (roomy_all (unlink_slot i) t refl (λ s. keeps s s.shadow) r)
  where
    keeps : (s : Slot) (x : Shadow) → length (unlink_as i s x).places ≡ length s.places
    keeps s x = grind (arith, nat_tests, length-map s.places (unlink_place i))

pub roomy_fill : (i : ℕ) (x : Thing) (t : SlotTable) → Roomy t → Roomy (fill i x t)
roomy_fill i x t = roomy_slot i (λ s. bare (shadow_of x)) t (λ s e. length-replicate 1024 Empty)

pub roomy_put : (i j : ℕ) (p : Place) (t : SlotTable) → Roomy t → Roomy (put_place i j p t)
roomy_put i j p t = roomy_place i j (λ q. p) t

pub roomy_sync : (i : ℕ) (y : SyncState) (t : SlotTable) → Roomy t → Roomy (set_sync i y t)
roomy_sync i y t = roomy_slot i (sync_slot y) t (λ s e. e)

pub roomy_flag_off : (i j : ℕ) (t : SlotTable) → Roomy t → Roomy (flag_off_at i j t)
roomy_flag_off i j t = roomy_place i j flag_off t

pub roomy_drop : (f j : ℕ) (t : SlotTable) → Roomy t → Roomy (drop_entry f j t)
roomy_drop f j t = roomy_all (drop_in_slot f j) t refl (λ s. keeps s (copies f s.shadow))
  where
    keeps : (s : Slot) (b : Bool) → length (cond b (change_place j (λ p. Empty) s) s).places ≡ length s.places
    keeps s b = grind (arith, nat_tests, length-set s.places j Empty)

length_checked : (ws : List ℕ) (k : ℕ) (ps : List Place) → length (check_from ws k ps) ≡ length ps
length_checked ws k [] = refl
length_checked ws k (p ∷ ps) = ap suc (length_checked ws (suc k) ps)

roomy_checked : (i : ℕ) (ws : List ℕ) (t : SlotTable) → Roomy t → Roomy (change_slot i (check_slot ws) t)
roomy_checked i ws t = roomy_slot i (check_slot ws) t (λ s e. length_checked ws 0 s.places ∙ e)

pub roomy_check : (i : ℕ) (ws : List ℕ) (t : SlotTable) → Roomy t → Roomy (check_table i ws t)
roomy_check i ws t r = go (shadow_at i t)
  where
    go : (x : Shadow) → Roomy (check_as i ws t x)
    go (Table f y) = roomy_guard f (change_slot i (check_slot ws) t) (roomy_checked i ws t r)
    go x = r

pub roomy_resync : (m : Memory) (i : ℕ) (t : SlotTable) → Roomy t → Roomy (resync m i t)
unfolding resync
roomy_resync m i t r = elim (lags (shadow_at i t)) as (λ b. Roomy (cond b (check_table i (frame_list m (table_frame (shadow_at i t))) t) t)) [
  | true ↦ roomy_check i (frame_list m (table_frame (shadow_at i t))) t r
  | false ↦ r
]

pub roomy_fresh : (n : ℕ) → Roomy (fresh n)
roomy_fresh n = record {
  slots = length-replicate 8 (bare Nothing);
  places = λ i h. ap (λ (s : Slot). length s.places) (get_or-replicate 8 i (bare Nothing) no_slot h) ∙ length-replicate 1024 Empty;
}

-- COUNTS

pub count_check : (i : ℕ) (ws : List ℕ) (t : SlotTable) → (check_table i ws t).count ≡ t.count
count_check i ws t = grind (arith, nat_tests)

pub count_resync : (m : Memory) (i : ℕ) (t : SlotTable) → (resync m i t).count ≡ t.count
unfolding resync
count_resync m i t = grind (arith, nat_tests, count_check i (frame_list m (table_frame (shadow_at i t))) t)

-- CHECKING

get_or_checked : (ws : List ℕ) (k : ℕ) (ps : List Place) (j n : ℕ) → k + j ≡ n → get_or (check_from ws k ps) j Empty ≡ check_place (get_or ws n 0) (get_or ps j Empty)
get_or_checked ws k [] j n e = refl
get_or_checked ws k (p ∷ ps) zero n e = let same : k ≡ n = omega arith in ap (λ (i : ℕ). check_place (get_or ws i 0) p) same
get_or_checked ws k (p ∷ ps) (suc j) n e = get_or_checked ws (suc k) ps j n (omega arith)

module _ (m : Memory) (i f : ℕ) (y : SyncState) (t : SlotTable) (r : Roomy t) (is : shadow_at i t ≡ Table f y) where
  view_checked : view (change_slot i (check_slot (frame_list m f)) t) ≡ v_checked m i f (view t)
  view_checked = same_view (view (change_slot i (check_slot (frame_list m f)) t)) (v_checked m i f (view t))
      (λ k. set_cases (check_slot (frame_list m f) (get_or t.slots i no_slot)) no_slot t.slots i k (λ b s. s.shadow ≡ cond b (Table f Protected) (shadow_at k t))
      (λ e h. ap (with_sync Protected) is)
      (λ e h. absurd (omega (arith, r.slots, small_slot t i r (ap is_nothing is))))
      refl)
      (λ k l. changed (check_slot (frame_list m f)) no_slot refl t.slots i k (λ b s. get_or s.places l Empty ≡ cond b (check_place (word_at m f l) (place_at k l t)) (place_at k l t))
      (get_or_checked (frame_list m f) 0 (get_or t.slots k no_slot).places l l (omega arith) ∙ by_word k l (cases_lt l 1024))
      refl)
    where
      by_word : (k l : ℕ) → (l < 1024) ⊎ (1024 ≤ l) → check_place (get_or (frame_list m f) l 0) (place_at k l t) ≡ check_place (word_at m f l) (place_at k l t)
      by_word k l (inl h) = ap (λ (w : ℕ). check_place w (place_at k l t)) (frame_word m f l h)
      by_word k l (inr h) = let none = past_end t k l r h in ap (check_place (get_or (frame_list m f) l 0)) none ∙ sym (ap (check_place (word_at m f l)) none)

  pub view_check : view (check_table i (frame_list m f) t) ≡ v_check m i f (view t)
  unfolding v_check
  view_check =
      ap (λ (x : Shadow). view (check_as i (frame_list m f) t x)) is
      ∙ view_guard f (change_slot i (check_slot (frame_list m f)) t) (roomy_checked i (frame_list m f) t r)
      ∙ ap (v_guard f) view_checked

pub resync_kept : (m : Memory) (i : ℕ) (t : SlotTable) → lags (shadow_at i t) ≡ false → resync m i t ≡ t
unfolding resync
resync_kept m i t e = ap (λ b. cond b (check_table i (frame_list m (table_frame (shadow_at i t))) t) t) e

pub resync_checked : (m : Memory) (i f : ℕ) (t : SlotTable) → Roomy t → shadow_at i t ≡ Table f Unsynchronised → view (resync m i t) ≡ v_check m i f (view t)
unfolding resync
resync_checked m i f t r is =
    ap (λ (x : Shadow). view (cond (lags x) (check_table i (frame_list m (table_frame x)) t) t)) is
    ∙ view_check m i f Unsynchronised t r is

-- A FRESH TABLE

module _ (i n : ℕ) where
  fresh_at : (P : Slot → Type 0) → P (bare Nothing) → P no_slot → P (get_or (fresh n).slots i no_slot)
  fresh_at P y z = go (cases_lt i 8)
    where
      go : (i < 8) ⊎ (8 ≤ i) → P (get_or (fresh n).slots i no_slot)
      go (inl h) = subst P (sym (get_or-replicate 8 i (bare Nothing) no_slot h)) y
      go (inr h) = subst P (sym (get_or_past (replicate 8 (bare Nothing)) i no_slot h)) z

  pub fresh_shadow : shadow_at i (fresh n) ≡ Nothing
  fresh_shadow = fresh_at (λ s. s.shadow ≡ Nothing) refl refl

pub fresh_place : (i j n : ℕ) → place_at i j (fresh n) ≡ Empty
fresh_place i j n = fresh_at i n (λ s. get_or s.places j Empty ≡ Empty) (all_same 1024 j Empty) refl
