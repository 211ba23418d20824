-- Slots that hold no more than others did: their links, their unsynchronised tables and their leaves, flags aside, were there.
use Rattle.std.proofs.lemmas.Bool.Decides.{nat_tests}
use Rattle.std.proofs.Common.{◌≡◌, ℕ, Bool, ◌&&◌, eqb, arith}
use Rattle.memory.specs.Memory.{Memory}
use Rattle.slot.specs.Slot.{copies}
use Rattle.slot.specs.declared.slots.Place.TheVariants.{Empty, Link, Leaf}
use Rattle.slot.specs.declared.slots.Shadow.TheVariants.{Directory, Table}
use Rattle.slot.specs.declared.slots.SyncState.TheVariants.{Unsynchronised}
use Rattle.slot.specs.declared.slots.Thing.{Thing}
use Rattle.runs.proofs.Losses.{Less, checked_less, guard_at_less, kept, less_cond, less_leaf, less_link, unlink_less}
use Rattle.runs.proofs.Shadows.{new_protected}
use Rattle.runs.proofs.Views.{View, v_check, v_checked, v_drop, v_evict, v_fill, v_guard, v_put}

-- a leaf, whatever its flag
pub record LeafThere (v : View) (i j w a : ℕ) : Type 0 where
  pub flag : Bool
  pub is : v.pl i j ≡ Leaf w a flag

pub record Fewer (v n : View) : Type 0 where
  pub links : (i d w s : ℕ) → n.pl i d ≡ Link w s → v.pl i d ≡ Link w s
  pub roots : (i d w s r : ℕ) → n.pl i d ≡ Link w s → n.sh i ≡ Directory r → v.sh i ≡ Directory r
  pub lagging : (i f : ℕ) → n.sh i ≡ Table f Unsynchronised → v.sh i ≡ Table f Unsynchronised
  pub leaves : (i j w a : ℕ) (b : Bool) → n.pl i j ≡ Leaf w a b → LeafThere v i j w a

pub fewer_same : {v : View} → Fewer v v
fewer_same =
    record { links = λ i d w s e. e; roots = λ i d w s r e q. q; lagging = λ i f e. e; leaves = λ i j w a b e. record { flag = b; is = e } }

pub fewer_trans : {u v n : View} → Fewer u v → Fewer v n → Fewer u n
fewer_trans p q = record {
  links = λ i d w s e. p.links i d w s (q.links i d w s e);
  roots = λ i d w s r e x. p.roots i d w s r (q.links i d w s e) (q.roots i d w s r e x);
  lagging = λ i f e. p.lagging i f (q.lagging i f e);
  leaves = λ i j w a b e. p.leaves i j w a (q.leaves i j w a b e).flag (q.leaves i j w a b e).is;
}

-- the places lost something, and no table has come to lag
pub fewer_less : {v n : View} → ((i j : ℕ) → Less (n.pl i j) (v.pl i j)) → ((i d w s r : ℕ) → n.pl i d ≡ Link w s → n.sh i ≡ Directory r → v.sh i ≡ Directory r)
    → ((i f : ℕ) → n.sh i ≡ Table f Unsynchronised → v.sh i ≡ Table f Unsynchronised) → Fewer v n
fewer_less less roots lagging = record {
  links = λ i d w s e. less_link (less i d) w s e;
  roots = roots;
  lagging = lagging;
  leaves = λ i j w a b e. let l = less_leaf (less i j) w a b e in record { flag = l.0; is = l.1 };
}

pub fewer_guard : (f : ℕ) (v : View) → Fewer v (v_guard f v)
unfolding v_guard
fewer_guard f v = fewer_less (λ i j. guard_at_less f j (v.sh i) (v.pl i j)) (λ i d w s r e q. q) (λ i g e. e)

pub fewer_check : (m : Memory) (i f : ℕ) (v : View) → Fewer v (v_check m i f v)
unfolding v_check
fewer_check m i f v = fewer_trans (fewer_less (checked_less m i f v) (λ k d w s r e q. grind (arith, nat_tests)) (λ k g e. grind (arith, nat_tests))) (fewer_guard f (v_checked m i f v))

module _ (i : ℕ) (v : View) where
  pub fewer_evict : Fewer v (v_evict i v)
  unfolding v_evict
  fewer_evict =
      fewer_less (λ k j. less_cond (eqb k i) (unlink_less i (v.sh k) (v.pl k j))) (λ k d w s r e q. grind (arith, nat_tests)) (λ k g e. grind (arith, nat_tests))

  pub fewer_fill : (x : Thing) → Fewer v (v_fill i x v)
  unfolding v_fill
  fewer_fill x = fewer_less (λ k j. less_cond (eqb k i) kept) (λ k d w s r e q. grind (arith, nat_tests)) (λ k g e. grind (arith, nat_tests, new_protected x g))

  pub fewer_drop : (j : ℕ) → Fewer v (v_drop i j v)
  unfolding v_drop
  fewer_drop j = fewer_less (λ k l. less_cond (copies i (v.sh k) && eqb l j) kept) (λ k d w s r e q. q) (λ k g e. e)

  pub fewer_empty : (j : ℕ) → Fewer v (v_put i j Empty v)
  unfolding v_put
  fewer_empty j = fewer_less (λ k l. less_cond (eqb k i && eqb l j) kept) (λ k d w s r e q. q) (λ k g e. e)
