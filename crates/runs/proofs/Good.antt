-- What holds of a run at every point: between calls the slots are true to guest memory, and what they hold of the past had its
-- moment.
use Rattle.std.proofs.lemmas.Bool.Decides.{nat_tests}
use Rattle.std.proofs.Common.{◌≡◌, ℕ, zero, suc, ◌+◌, ◌<◌, ◌≤◌, Bool, true, List, is_some, sym, subst, arith}
use Rattle.memory.specs.Memory.{Memory}
use Rattle.paging.specs.Formats.{Format}
use Rattle.policies.specs.Orders.{rising, times}
use Rattle.shadow.specs.Slots.{shadow_at}
use Rattle.slot.specs.declared.slots.Place.TheVariants.{Link, Leaf}
use Rattle.slot.specs.declared.slots.Shadow.TheVariants.{Directory, Table}
use Rattle.shadow.specs.declared.slots.SlotTable.{SlotTable}
use Rattle.slot.specs.declared.slots.SyncState.TheVariants.{Unsynchronised}
use Rattle.walk.specs.Walk.{Asked, directory_index, table_index}
use Rattle.runs.specs.Histories.{History, NeverRoot, Opening, Sometime, memory_at, mode_at, root_at}
use Rattle.runs.specs.Laws.{Recent, Tallied, word_at}
use Rattle.runs.specs.Runs.{Bounded}
use Rattle.runs.specs.Terms.{page_of}
use Rattle.runs.specs.Unit.{Running, hit_target, root_slot}
use Rattle.runs.proofs.Moments.{Raised}
use Rattle.runs.proofs.Sound.{Sound, Up}
use Rattle.runs.proofs.Views.{Roomy, View, view}

-- each number of a rising order stands in it
pub rising_holds : (a k i : ℕ) → a ≤ i → i < a + k → 0 < times i (rising a k)
rising_holds a zero i l u = absurd (omega arith)
rising_holds a (suc k) i l u = grind (arith, nat_tests, rising_holds (suc a) k i)

-- slots and an order that belong together, over a memory
pub record Fit (F : Format) (m : Memory) (t : SlotTable) (q : List ℕ) : Type 0 where
  pub roomy : Roomy t
  pub many : 2 ≤ t.count
  pub few : t.count ≤ 8
  -- each slot in use stands in the order
  pub ordered : (i : ℕ) → i < t.count → 0 < times i q
  pub sound : Sound F m (view t)

-- other slots, as many of them, over another memory
pub refit : {F : Format} {m : Memory} {t : SlotTable} {q : List ℕ} → Fit F m t q → (k : Memory) (n : SlotTable) → Roomy n → n.count ≡ t.count → Sound F k (view n) → Fit F k n q
refit fit k n room count sound = record {
  roomy = room;
  many = subst (λ (c : ℕ). 2 ≤ c) (sym count) fit.many;
  few = subst (λ (c : ℕ). c ≤ 8) (sym count) fit.few;
  ordered = λ i l. fit.ordered i (subst (λ (c : ℕ). i < c) count l);
  sound = sound;
}

-- at a memory, the copied words w and x are the guest's, but for marks
abbrev pub Then : Format → ℕ → ℕ → ℕ → ℕ → ℕ → Memory → Type 0
Then F root a w f x m = Up F w (word_at m root (directory_index a)) × Up F x (word_at m f (table_index a))

-- each leaf of an unsynchronised table under a link of the root in force had its moment, together with the link
abbrev pub Past : Format → Opening → History → ℕ → View → Type 0
Past F o h root v =
    (i a w s f x c : ℕ) (b : Bool) → v.sh i ≡ Directory root → v.pl i (directory_index a) ≡ Link w s → v.sh s ≡ Table f Unsynchronised
    → v.pl s (table_index a) ≡ Leaf x c b → Sometime o (Then F root a w f x) (page_of a) h

pub record Good (F : Format) (o : Opening) (h : History) (r : Running) : Type 0 where
  pub root : r.hart.root ≡ root_at o h
  pub mode : r.hart.mode ≡ mode_at o h
  pub fit : Fit F (memory_at o h) r.table r.order
  pub rooted : shadow_at (root_slot r.hart.root r.table) r.table ≡ Directory r.hart.root
  -- directories were roots
  pub were : (i f : ℕ) → shadow_at i r.table ≡ Directory f → NeverRoot o f h → ⊥
  pub raised : Raised F o h
  pub bounded : Bounded o.memory
  pub past : Past F o h r.hart.root (view r.table)
  pub tallied : Tallied h r.hart.tallies
  -- an access like a recent one hits
  pub ready : (a : Asked) → Recent o a.kind (page_of a.address) a.privilege h → is_some (hit_target F a r.hart.root r.table) ≡ true
