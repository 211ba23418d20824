-- Checking unsynchronised tables keeps slots fit.
use Rattle.std.proofs.lemmas.Bool.Decides.{nat_tests}
use Rattle.std.proofs.Common.{◌≡◌, ℕ, ◌<◌, false, List, [], ◌∷◌, sym, refl, ap, ◌∙◌, subst, arith}
use Rattle.std.proofs.lemmas.Bool.{eq-eqb}
use Rattle.memory.specs.Memory.{Memory}
use Rattle.paging.specs.Formats.{Format}
use Rattle.policies.specs.Orders.{numbered, times}
use Rattle.shadow.specs.Slots.{shadow_at}
use Rattle.slot.specs.Slot.{lags, shadows}
use Rattle.slot.specs.declared.slots.Shadow.{Shadow}
use Rattle.slot.specs.declared.slots.Shadow.TheVariants.{Nothing, Table}
use Rattle.shadow.specs.declared.slots.SlotTable.{SlotTable}
use Rattle.slot.specs.declared.slots.SyncState.TheVariants.{Protected, Unsynchronised}
use Rattle.slot.specs.declared.slots.Thing.{Thing}
use Rattle.slot.specs.declared.slots.Thing.TheVariants as thing
use Rattle.runs.specs.Unit.{resync, resync_all, resync_each}
use Rattle.runs.proofs.Fewer.{Fewer, fewer_check, fewer_same, fewer_trans}
use Rattle.runs.proofs.Good.{Fit, refit, rising_holds}
use Rattle.runs.proofs.Places.{count_resync, resync_checked, resync_kept, roomy_resync, small_slot}
use Rattle.runs.proofs.Shadows.{alike_shadows, directory_kept}
use Rattle.runs.proofs.Sound.{Sound}
use Rattle.runs.proofs.Sounds.{checked_alike, sound_check}
use Rattle.runs.proofs.Views.{SameDirectories, View, v_check, v_guard, view}

-- slots n that came from slots t by checks
pub record Turned (t n : SlotTable) : Type 0 where
  pub count : n.count ≡ t.count
  pub fewer : Fewer (view t) (view n)
  -- each slot shadows what it did
  pub things : (k : ℕ) (x : Thing) → shadows (shadow_at k n) x ≡ shadows (shadow_at k t) x
  pub vacant : (k : ℕ) → shadow_at k t ≡ Nothing → shadow_at k n ≡ Nothing

pub turned_same : {t : SlotTable} → Turned t t
turned_same = record { count = refl; fewer = fewer_same; things = λ k x. refl; vacant = λ k e. e }

pub turned_trans : {t n u : SlotTable} → Turned t n → Turned n u → Turned t u
turned_trans p q = record {
  count = q.count ∙ p.count;
  fewer = fewer_trans p.fewer q.fewer;
  things = λ k x. q.things k x ∙ p.things k x;
  vacant = λ k e. q.vacant k (p.vacant k e);
}

pub turned_directory : {t n : SlotTable} → Turned t n → SameDirectories t n
turned_directory u i f = (directory_kept f (u.things i (thing.Directory f)), directory_kept f (sym (u.things i (thing.Directory f))))

-- one checked slot, as a view
module _ (m : Memory) (i f : ℕ) (v : View) where
  pub check_here : (v_check m i f v).sh i ≡ Table f Protected
  unfolding v_check v_guard
  check_here = rw (eq-eqb i i refl)

  pub check_things : v.sh i ≡ Table f Unsynchronised → (k : ℕ) (x : Thing) → shadows ((v_check m i f v).sh k) x ≡ shadows (v.sh k) x
  unfolding v_check v_guard
  check_things at k x = alike_shadows (checked_alike m i f Unsynchronised v at k) x

  pub check_vacant : v.sh i ≡ Table f Unsynchronised → (k : ℕ) → v.sh k ≡ Nothing → (v_check m i f v).sh k ≡ Nothing
  unfolding v_check v_guard
  check_vacant at k e = grind (arith, nat_tests)

module _ (F : Format) (m : Memory) where
  pub record Resynced (t : SlotTable) (q : List ℕ) (i : ℕ) (n : SlotTable) : Type 0 where
    pub fit : Fit F m n q
    pub turned : Turned t n
    pub calm : lags (shadow_at i n) ≡ false

  left_alone : (t : SlotTable) (q : List ℕ) (i : ℕ) → Fit F m t q → lags (shadow_at i t) ≡ false → Resynced t q i (resync m i t)
  left_alone t q i fit e = subst (Resynced t q i) (sym (resync_kept m i t e)) (record { fit = fit; turned = turned_same; calm = e })

  pub resynced : (t : SlotTable) (q : List ℕ) (i : ℕ) → Fit F m t q → Resynced t q i (resync m i t)
  resynced t q i fit = go (shadow_at i t) refl
    where
      go : (x : Shadow) → shadow_at i t ≡ x → Resynced t q i (resync m i t)
      go (Table f Unsynchronised) e =
          let is = resync_checked m i f t fit.roomy e in
          let count = count_resync m i t in
          record {
            fit = refit fit m (resync m i t) (roomy_resync m i t fit.roomy) count (subst (Sound F m) (sym is) (sound_check F m (view t) fit.sound i f Unsynchronised e));
            turned = record {
              count = count;
              fewer = subst (Fewer (view t)) (sym is) (fewer_check m i f (view t));
              things = λ k x. ap (λ v. shadows (v.sh k) x) is ∙ check_things m i f (view t) e k x;
              vacant = λ k z. ap (λ v. v.sh k) is ∙ check_vacant m i f (view t) e k z;
            };
            calm = ap (λ v. lags (v.sh i)) is ∙ ap lags (check_here m i f (view t));
          }
      go x e = left_alone t q i fit (ap lags e)

  -- a slot that is in step stays so
  pub calm_kept : {t n : SlotTable} → Turned t n → (k : ℕ) → lags (shadow_at k t) ≡ false → lags (shadow_at k n) ≡ false
  calm_kept {t} {n} u k e = grind (arith, nat_tests, u.fewer.lagging k)

  -- all of a list are checked in turn
  pub record AllCalm (t : SlotTable) (q : List ℕ) (n : SlotTable) : Type 0 where
    pub fit : Fit F m n q
    pub turned : Turned t n

  pub each : (is : List ℕ) (t : SlotTable) (q : List ℕ) → Fit F m t q → AllCalm t q (resync_each m is t)
  each [] t q fit = record { fit = fit; turned = turned_same }
  each (i ∷ is) t q fit =
      let a = resynced t q i fit in
      let b = each is (resync m i t) q a.fit in
      record { fit = b.fit; turned = turned_trans a.turned b.turned }

  abbrev eight : List ℕ
  eight = numbered 8

  -- the slot that is checked first, and every later one, is in step at the end
  first_calm : (i : ℕ) (is : List ℕ) (t : SlotTable) (q : List ℕ) → Fit F m t q → lags (shadow_at i (resync_each m (i ∷ is) t)) ≡ false
  first_calm i is t q fit =
      let a = resynced t q i fit in
      calm_kept (each is (resync m i t) q a.fit).turned i a.calm

  in_calm : (i : ℕ) (is : List ℕ) (t : SlotTable) (q : List ℕ) → Fit F m t q → 0 < times i is → lags (shadow_at i (resync_each m is t)) ≡ false
  in_calm i [] t q fit p = absurd (omega arith)
  in_calm i (k ∷ is) t q fit p = grind (arith, nat_tests, first_calm k is t q fit, in_calm i is (resync m k t) q (resynced t q k fit).fit)

  -- after a check of all, every table is in step
  pub all_calm : (t : SlotTable) (q : List ℕ) → Fit F m t q → (k : ℕ) → lags (shadow_at k (resync_all m t)) ≡ false
  all_calm t q fit k = grind (arith, in_calm k eight t q fit, rising_holds 0 8 k, small_slot (resync_all m t) k (each eight t q fit).fit.roomy)
