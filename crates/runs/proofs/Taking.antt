-- Finding or taking the slot of a thing keeps slots fit.
use Rattle.std.proofs.lemmas.Bool.Decides.{nat_tests}
use Rattle.std.proofs.Common.{◌≡◌, ℕ, ◌<◌, Bool, true, false, cond, not, ◌&&◌, eqb, ltb, ◌⊎◌, List, Some, None, Option, sym, refl, ap, ◌∙◌, subst, inl, inr, arith}
use Rattle.std.proofs.lemmas.Bool.{eq-eqb, false_from_ne_true, lt-ltb, ltb-true}
use Rattle.memory.specs.Memory.{Memory, has_words}
use Rattle.paging.specs.Formats.{Format}
use Rattle.policies.specs.Orders.{OrdersKept, Rule, first_permitted}
use Rattle.policies.proofs.Naming.{names_permitted}
use Rattle.shadow.specs.Slots.{evict, fill, find_slot, first_empty, guard, may_take, permitted, shadow_at}
use Rattle.slot.specs.Slot.{is_directory_of, is_nothing, is_root, is_table_of, lags, shadow_of, shadows}
use Rattle.slot.specs.declared.slots.Shadow.TheVariants.{Nothing, Directory, Table}
use Rattle.shadow.specs.declared.slots.SlotTable.{SlotTable}
use Rattle.slot.specs.declared.slots.SyncState.TheVariants.{Unsynchronised}
use Rattle.slot.specs.declared.slots.Thing.{Thing}
use Rattle.slot.specs.declared.slots.Thing.TheVariants as thing
use Rattle.runs.specs.Unit.{Taken, guard_for, obtain, obtained, ready_for, resync, resync_found, room, settle_in, take_slot, taken}
use Rattle.runs.proofs.Basics.{by_eq}
use Rattle.runs.proofs.Fewer.{Fewer, fewer_evict, fewer_fill, fewer_guard, fewer_same, fewer_trans}
use Rattle.runs.proofs.Good.{Fit, refit}
use Rattle.runs.proofs.Places.{empty_none, empty_some, find_none, find_some, permitted_if, permitted_says, roomy_evict, roomy_fill, roomy_guard, view_evict, view_fill, view_guard}
use Rattle.runs.proofs.Resyncs.{Turned, resynced, turned_directory, turned_same}
use Rattle.runs.proofs.Shadows.{calm_no_table, directory_here, emptied_shadows, is_directory_at, is_nothing_at, new_calm, new_directory, new_shadows, table_here}
use Rattle.runs.proofs.Sound.{Sound}
use Rattle.runs.proofs.Sounds.{sound_evict, sound_fill_directory, sound_fill_split, sound_fill_table}
use Rattle.runs.proofs.Views.{Roomy, v_evict, v_fill, v_guard, view}

-- what is to be shadowed has words, where it copies words
abbrev pub HasFrame : Memory → Thing → Type 0
HasFrame m (thing.Directory f) = has_words (m f) ≡ true
HasFrame m (thing.Table f) = has_words (m f) ≡ true
HasFrame m (thing.Split f) = Unit {0}

module _ (F : Format) (R : Rule) (kept_order : OrdersKept R) (m : Memory) where
  pub told_fit : (t : SlotTable) (q : List ℕ) (x : ℕ) → Fit F m t q → Fit F m t (R.told q x)
  told_fit t q x fit =
      record { roomy = fit.roomy; many = fit.many; few = fit.few; ordered = λ i l. rw (kept_order.told_rearranges q x i) (fit.ordered i l); sound = fit.sound }

  -- ROOM

  pub record Roomed (kept : Option ℕ) (t : SlotTable) (k : Taken) : Type 0 where
    pub fit : Fit F m k.table k.order
    pub small : k.slot < 8
    pub vacant : shadow_at k.slot k.table ≡ Nothing
    pub fewer : Fewer (view t) (view k.table)
    -- what is shadowed was shadowed, and the directory that is to be kept is
    pub were : (i : ℕ) (x : Thing) → shadows (shadow_at i k.table) x ≡ true → shadows (shadow_at i t) x ≡ true
    pub keeps : (root i : ℕ) → kept ≡ Some root → shadow_at i t ≡ Directory root → shadow_at i k.table ≡ Directory root

  room_empty : (kept : Option ℕ) (t : SlotTable) (q : List ℕ) (i : ℕ) → Fit F m t q → first_empty t ≡ Some i → Roomed kept t (taken i t q 0)
  room_empty kept t q i fit e = record {
    fit = fit;
    small = let l = (empty_some t i e).1 in let u = fit.few in omega arith;
    vacant = is_nothing_at (shadow_at i t) (empty_some t i e).0;
    fewer = fewer_same;
    were = λ k x z. z;
    keeps = λ root k z w. w;
  }

  -- the shadow of a slot after an eviction
  evicted_sh : (i k : ℕ) (t : SlotTable) → shadow_at k (evict i t) ≡ cond (eqb k i) Nothing (shadow_at k t)
  unfolding v_evict
  evicted_sh i k t = ap (λ v. v.sh k) (view_evict i t)

  room_evict : (kept : Option ℕ) (t : SlotTable) (q : List ℕ) (i : ℕ) → Fit F m t q → may_take kept t i ≡ true → Roomed kept t (taken i (evict i t) (R.named q i) 1)
  room_evict kept t q i fit e = record {
    fit = record {
      roomy = roomy_evict i t fit.roomy;
      many = fit.many;
      few = fit.few;
      ordered = λ k l. rw (kept_order.named_rearranges q i k) (fit.ordered k l);
      sound = subst (Sound F m) (sym (view_evict i t)) (sound_evict F m (view t) fit.sound i);
    };
    small = let l : i < t.count = ltb-true i t.count parts.0 in let u = fit.few in omega arith;
    vacant = evicted_sh i i t ∙ rw (eq-eqb i i refl);
    fewer = subst (Fewer (view t)) (sym (view_evict i t)) (fewer_evict i (view t));
    were = λ k x z. emptied_shadows (eqb k i) (shadow_at k t) x (subst (λ y. shadows y x ≡ true) (evicted_sh i k t) z);
    keeps = λ root k z w. evicted_sh i k t ∙ stays root k z w;
  }
    where
      parts : (ltb i t.count ≡ true) × (not (is_nothing (shadow_at i t)) ≡ true) × (not (is_root (shadow_at i t) kept) ≡ true)
      parts = (grind (arith, nat_tests), grind (arith, nat_tests), grind (arith, nat_tests))

      stays : (root k : ℕ) → kept ≡ Some root → shadow_at k t ≡ Directory root → cond (eqb k i) Nothing (shadow_at k t) ≡ Directory root
      stays root k z w = grind (arith, nat_tests)

  -- where all slots are filled, one may be taken
  abbrev pub Free : Option ℕ → SlotTable → Type 0
  Free kept t = (i : ℕ) × (i < t.count) × (may_take kept t i ≡ true)

  room_full : (kept : Option ℕ) (t : SlotTable) (q : List ℕ) → Fit F m t q → Free kept t → Roomed kept t (taken (first_permitted (permitted kept t) q) (evict (first_permitted (permitted kept t) q) t) (R.named q (first_permitted (permitted kept t) q)) 1)
  room_full kept t q fit (i, l, e) =
      room_evict kept t q (first_permitted (permitted kept t) q) fit
      (permitted_says kept t (first_permitted (permitted kept t) q)
      (names_permitted (permitted kept t) q i (permitted_if kept t i (let u = fit.few in omega arith) e) (fit.ordered i l)))

  pub roomed : (kept : Option ℕ) (t : SlotTable) (q : List ℕ) → Fit F m t q → (first_empty t ≡ None → Free kept t) → Roomed kept t (room R kept t q (first_empty t))
  roomed kept t q fit free = go (first_empty t) refl
    where
      go : (x : Option ℕ) → first_empty t ≡ x → Roomed kept t (room R kept t q x)
      go (Some i) e = room_empty kept t q i fit e
      go None e = room_full kept t q fit (free e)

  -- A SLOT FOUND OR TAKEN

  pub record Got (kept : Option ℕ) (x : Thing) (t : SlotTable) (k : Taken) : Type 0 where
    pub fit : Fit F m k.table k.order
    pub small : k.slot < 8
    pub is : shadows (shadow_at k.slot k.table) x ≡ true
    pub calm : lags (shadow_at k.slot k.table) ≡ false
    pub fewer : Fewer (view t) (view k.table)
    pub dirs : (i f : ℕ) → shadow_at i k.table ≡ Directory f → (shadow_at i t ≡ Directory f) ⊎ (x ≡ thing.Directory f)
    pub keeps : (root i : ℕ) → kept ≡ Some root → shadow_at i t ≡ Directory root → shadow_at i k.table ≡ Directory root

  -- an unsynchronised table of a new directory's frame has been checked
  abbrev NoLag : Thing → SlotTable → Type 0
  NoLag (thing.Directory f) n = (k : ℕ) → shadow_at k n ≡ Table f Unsynchronised → ⊥
  NoLag (thing.Table f) n = Unit {0}
  NoLag (thing.Split f) n = Unit {0}

  record Readied (x : Thing) (t : SlotTable) (q : List ℕ) (n : SlotTable) : Type 0 where
    pub fit : Fit F m n q
    pub turned : Turned t n
    pub lag : NoLag x n

  readied : (x : Thing) (t : SlotTable) (q : List ℕ) → Fit F m t q → Readied x t q (ready_for m x t)
  readied (thing.Directory f) t q fit = go (find_slot (thing.Table f) t) refl
    where
      go : (s : Option ℕ) → find_slot (thing.Table f) t ≡ s → Readied (thing.Directory f) t q (resync_found m t s)
      go None e = record {
        fit = fit;
        turned = turned_same;
        lag = λ k z. cc (ap (is_table_of f) z ∙ table_here f Unsynchronised, find_none (thing.Table f) t e k);
      }
      go (Some i) e =
          let a = resynced F m t q i fit in
          record {
            fit = a.fit;
            turned = a.turned;
            lag = λ k z.
                let yes_k : is_table_of f (shadow_at k (resync m i t)) ≡ true = ap (is_table_of f) z ∙ table_here f Unsynchronised in
                let same : k ≡ i = fit.sound.framed.unique k i (thing.Table f) (sym (a.turned.things k (thing.Table f)) ∙ yes_k) (find_some (thing.Table f) t i fit.roomy e).0 in
                calm_no_table a.calm (ap (λ (j : ℕ). shadow_at j (resync m i t)) (sym same) ∙ z);
          }
  readied x t q fit = record { fit = fit; turned = turned_same; lag = tt }

  -- a filled slot, and the others
  fill_sh : (i k : ℕ) (x : Thing) (t : SlotTable) → Roomy t → i < 8 → shadow_at k (fill i x t) ≡ cond (eqb k i) (shadow_of x) (shadow_at k t)
  unfolding v_fill
  fill_sh i k x t room l = ap (λ v. v.sh k) (view_fill i x t room l)

  guard_sh : (f k : ℕ) (t : SlotTable) → Roomy t → shadow_at k (guard f t) ≡ shadow_at k t
  unfolding v_guard
  guard_sh f k t room = ap (λ v. v.sh k) (view_guard f t room)

  -- the slots with a new thing in slot i
  record Filled (i : ℕ) (x : Thing) (t n : SlotTable) : Type 0 where
    pub roomy : Roomy n
    pub count : n.count ≡ t.count
    pub shadow : (k : ℕ) → shadow_at k n ≡ cond (eqb k i) (shadow_of x) (shadow_at k t)
    pub fewer : Fewer (view t) (view n)
    pub sound : Sound F m (view n)

  abbrev NoneOf : Thing → SlotTable → Type 0
  NoneOf x t = (k : ℕ) → shadows (shadow_at k t) x ≡ false

  guarded_fill : (f i : ℕ) (x : Thing) (t : SlotTable) (room : Roomy t) → i < 8 → Sound F m (v_guard f (v_fill i x (view t))) → Filled i x t (guard f (fill i x t))
  guarded_fill f i x t room l snd =
      let room' = roomy_fill i x t room in
      let is = view_guard f (fill i x t) room' ∙ ap (v_guard f) (view_fill i x t room l) in
      record {
        roomy = roomy_guard f (fill i x t) room';
        count = refl;
        shadow = λ k. guard_sh f k (fill i x t) room' ∙ fill_sh i k x t room l;
        fewer = subst (Fewer (view t)) (sym is) (fewer_trans (fewer_fill i (view t) x) (fewer_guard f (v_fill i x (view t))));
        sound = subst (Sound F m) (sym is) snd;
      }

  filled : (i : ℕ) (x : Thing) (t : SlotTable) (q : List ℕ) → Fit F m t q → i < 8 → shadow_at i t ≡ Nothing → HasFrame m x → NoneOf x t → NoLag x t → Filled i x t (guard_for x (fill i x t))
  filled i (thing.Directory f) t q fit l e has none lag =
      guarded_fill f i (thing.Directory f) t fit.roomy l (sound_fill_directory F m (view t) fit.sound i e f has none lag)
  filled i (thing.Table f) t q fit l e has none lag =
      guarded_fill f i (thing.Table f) t fit.roomy l (sound_fill_table F m (view t) fit.sound i e f has none)
  filled i (thing.Split f) t q fit l e has none lag =
      let is = view_fill i (thing.Split f) t fit.roomy l in
      record {
        roomy = roomy_fill i (thing.Split f) t fit.roomy;
        count = refl;
        shadow = λ k. fill_sh i k (thing.Split f) t fit.roomy l;
        fewer = subst (Fewer (view t)) (sym is) (fewer_fill i (view t) (thing.Split f));
        sound = subst (Sound F m) (sym is) (sound_fill_split F m (view t) fit.sound i e f none);
      }

  settled_got : (kept : Option ℕ) (x : Thing) (t : SlotTable) (k : Taken) → Roomed kept t k → NoneOf x t → HasFrame m x → Got kept x t (settle_in R m x k)
  unfolding settle_in
  settled_got kept x t k r none has =
      record {
        fit = told_fit _ k.order k.slot (refit r.fit m _ z.roomy count z.sound);
        small = r.small;
        is = ap (λ y. shadows y x) here ∙ new_shadows x;
        calm = ap lags here ∙ new_calm x;
        fewer = fewer_trans r.fewer (fewer_trans d.turned.fewer z.fewer);
        dirs = λ i f e. dirs i f (sym (z.shadow i) ∙ e);
        keeps = λ root i e w. z.shadow i ∙ keeps root i (r.keeps root i e w);
      }
    where
      d : Readied x k.table k.order (ready_for m x k.table)
      d = readied x k.table k.order r.fit

      vac : shadow_at k.slot (ready_for m x k.table) ≡ Nothing
      vac = d.turned.vacant k.slot r.vacant

      none_now : (i : ℕ) → shadows (shadow_at i (ready_for m x k.table)) x ≡ false
      none_now i = false_from_ne_true _ (λ e. cc (r.were i x (sym (d.turned.things i x) ∙ e), none i))

      z : Filled k.slot x (ready_for m x k.table) (guard_for x (fill k.slot x (ready_for m x k.table)))
      z = filled k.slot x (ready_for m x k.table) k.order d.fit r.small vac has none_now d.lag

      count : (guard_for x (fill k.slot x (ready_for m x k.table))).count ≡ k.table.count
      count = z.count ∙ d.turned.count

      here : shadow_at k.slot (guard_for x (fill k.slot x (ready_for m x k.table))) ≡ shadow_of x
      here = z.shadow k.slot ∙ rw (eq-eqb k.slot k.slot refl)

      dirs : (i f : ℕ) → cond (eqb i k.slot) (shadow_of x) (shadow_at i (ready_for m x k.table)) ≡ Directory f → (shadow_at i t ≡ Directory f) ⊎ (x ≡ thing.Directory f)
      dirs i f = by_eq i k.slot (λ b. cond b (shadow_of x) (shadow_at i (ready_for m x k.table)) ≡ Directory f → (shadow_at i t ≡ Directory f) ⊎ (x ≡ thing.Directory f))
          (λ p e. inr (new_directory x f e))
          (λ p e. inl (is_directory_at f (shadow_at i t) (r.were i (thing.Directory f) (ap (is_directory_of f) ((turned_directory d.turned i f).0 e) ∙ directory_here f))))

      keeps : (root i : ℕ) → shadow_at i k.table ≡ Directory root → cond (eqb i k.slot) (shadow_of x) (shadow_at i (ready_for m x k.table)) ≡ Directory root
      keeps root i e = grind (arith, nat_tests, r.vacant, turned_directory d.turned i root)

  pub took : (kept : Option ℕ) (x : Thing) (t : SlotTable) (q : List ℕ) → Fit F m t q → NoneOf x t → HasFrame m x → (first_empty t ≡ None → Free kept t) → Got kept x t (take_slot R m kept x t q)
  unfolding take_slot
  took kept x t q fit none has free = settled_got kept x t (room R kept t q (first_empty t)) (roomed kept t q fit free) none has

  found_got : (kept : Option ℕ) (x : Thing) (t : SlotTable) (q : List ℕ) (i : ℕ) → Fit F m t q → find_slot x t ≡ Some i → Got kept x t (taken i (resync m i t) q 0)
  found_got kept x t q i fit e =
      let a = resynced F m t q i fit in
      let f = find_some x t i fit.roomy e in
      record {
        fit = a.fit;
        small = f.1;
        is = a.turned.things i x ∙ f.0;
        calm = a.calm;
        fewer = a.turned.fewer;
        dirs = λ k g z. inl ((turned_directory a.turned k g).0 z);
        keeps = λ root k z w. (turned_directory a.turned k root).1 w;
      }

  pub got : (kept : Option ℕ) (x : Thing) (t : SlotTable) (q : List ℕ) → Fit F m t q → HasFrame m x → (first_empty t ≡ None → Free kept t) → Got kept x t (obtain R m kept x t q)
  unfolding obtain
  got kept x t q fit has free = go (find_slot x t) refl
    where
      go : (s : Option ℕ) → find_slot x t ≡ s → Got kept x t (obtained R m kept x t q s)
      go (Some i) e = found_got kept x t q i fit e
      go None e = took kept x t q fit (find_none x t e) has free

  -- WHERE A SLOT MAY BE TAKEN

  takes : (a b c : Bool) → a ≡ true → b ≡ false → c ≡ false → (a && not b && not c) ≡ true
  takes a b c p q s = rw (p, q, s)

  -- all slots, in a switch
  pub free_any : (t : SlotTable) (q : List ℕ) → Fit F m t q → first_empty t ≡ None → Free None t
  free_any t q fit e =
      let l : 0 < t.count = let u = fit.many in omega arith in
      (0, l, takes _ _ _ (lt-ltb 0 t.count l) (empty_none t fit.roomy fit.few e 0 l) refl)

  -- one of the first two is not the root's directory
  pub free_but : (root : ℕ) (t : SlotTable) (q : List ℕ) → Fit F m t q → first_empty t ≡ None → Free (Some root) t
  free_but root t q fit e = go (is_directory_of root (shadow_at 0 t)) refl
    where
      l0 : 0 < t.count
      l0 = let u = fit.many in omega arith

      l1 : 1 < t.count
      l1 = let u = fit.many in omega arith

      go : (b : Bool) → is_directory_of root (shadow_at 0 t) ≡ b → Free (Some root) t
      go false d = (0, l0, takes _ _ _ (lt-ltb 0 t.count l0) (empty_none t fit.roomy fit.few e 0 l0) d)
      go true d = (
        1,
        l1,
        takes _ _ _ (lt-ltb 1 t.count l1) (empty_none t fit.roomy fit.few e 1 l1)
            (false_from_ne_true _ (λ c. let u : ◌≡◌ {A = ℕ} 0 1 = fit.sound.framed.unique 0 1 (thing.Directory root) d c in cc)),
      )
