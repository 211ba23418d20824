-- After an access that walked its link is there, with the present word, and names the slot below.
use Rattle.std.proofs.lemmas.Bool.Decides.{nat_tests}
use Rattle.std.proofs.Common.{◌≡◌, ℕ, ◌<◌, Bool, true, cond, ◌&&◌, eqb, ◌⊎◌, List, Some, sym, refl, ap, ◌∙◌, subst, inl, inr, ⊎_elim, arith}
use Rattle.std.proofs.lemmas.Bool.{eq-eqb, eqb-true}
use Rattle.memory.specs.Memory.{Memory}
use Rattle.paging.specs.Formats.{Format}
use Rattle.paging.specs.Terms.{directory_level}
use Rattle.policies.specs.Orders.{OrdersKept, Rule}
use Rattle.shadow.specs.Slots.{place_at, put_place, shadow_at}
use Rattle.slot.specs.Slot.{is_nothing, shadows}
use Rattle.slot.specs.declared.slots.Place.{Place}
use Rattle.slot.specs.declared.slots.Place.TheVariants.{Link, Leaf}
use Rattle.slot.specs.declared.slots.Shadow.TheVariants.{Directory, Table}
use Rattle.shadow.specs.declared.slots.SlotTable.{SlotTable}
use Rattle.slot.specs.declared.slots.SyncState.TheVariants.{Unsynchronised}
use Rattle.runs.specs.Laws.{word_at}
use Rattle.runs.specs.Unit.{Taken, good_link, link_slot, linked, obtain, root_slot, taken, with_link}
use Rattle.runs.proofs.Basics.{by_eq₂}
use Rattle.runs.proofs.Fewer.{Fewer, LeafThere}
use Rattle.runs.proofs.Good.{Fit, refit}
use Rattle.runs.proofs.Places.{roomy_put, small_slot, view_put}
use Rattle.runs.proofs.Shadows.{calm_no_table, directory_here, filled, named_no_directory}
use Rattle.runs.proofs.Sound.{Leads, Sound, Up, named, same}
use Rattle.runs.proofs.Sounds.{sound_link}
use Rattle.runs.proofs.Taking.{Got, HasFrame, free_but, got}
use Rattle.runs.proofs.Views.{View, v_put, view}

-- a link of the root's directory with a leaf of an unsynchronised table below it
pub record Trip (v : View) (root i d w s f j x c : ℕ) : Type 0 where
  pub dir : v.sh i ≡ Directory root
  pub link : v.pl i d ≡ Link w s
  pub lag : v.sh s ≡ Table f Unsynchronised
  pub leaf : LeafThere v s j x c

-- such triples of n were triples of v
abbrev pub Olds : ℕ → View → View → Type 0
Olds root v n = (i d w s f j x c : ℕ) → Trip n root i d w s f j x c → Trip v root i d w s f j x c

pub olds_fewer : (root : ℕ) {v n : View} → Fewer v n → Olds root v n
olds_fewer root p i d w s f j x c t = record {
  dir = p.roots i d w s root t.link t.dir;
  link = p.links i d w s t.link;
  lag = p.lagging s f t.lag;
  leaf = p.leaves s j x c t.leaf.flag t.leaf.is;
}

-- one place written, and the others
module _ (v : View) (i j : ℕ) (p : Place) where
  pub put_here : (v_put i j p v).pl i j ≡ p
  unfolding v_put
  put_here = rw (eq-eqb i i refl, eq-eqb j j refl)

  pub put_other : (k l : ℕ) → ((k ≡ i) × (l ≡ j) → ⊥) → (v_put i j p v).pl k l ≡ v.pl k l
  unfolding v_put
  put_other k l n = grind (arith, nat_tests)

  -- either the place written, or an old one
  pub put_either : (k l : ℕ) (q : Place) → (v_put i j p v).pl k l ≡ q → ((k ≡ i) × (l ≡ j) × (p ≡ q)) ⊎ (v.pl k l ≡ q)
  unfolding v_put
  put_either k l q =
      by_eq₂ k i l j (λ b. cond b p (v.pl k l) ≡ q → ((k ≡ i) × (l ≡ j) × (p ≡ q)) ⊎ (v.pl k l ≡ q)) (λ a b e. inl (a, b, e)) (λ m e. inr e)

  pub put_sh : (k : ℕ) → (v_put i j p v).sh k ≡ v.sh k
  unfolding v_put
  put_sh k = refl

module _ (F : Format) (R : Rule) (kept_order : OrdersKept R) (m : Memory) (root : ℕ) (t : SlotTable) (q : List ℕ) (ok : Fit F m t q) where
  abbrev I : ℕ
  I = root_slot root t

  pub record LinkedUp (d w : ℕ) (k : Taken) : Type 0 where
    pub fit : Fit F m k.table k.order
    pub small : k.slot < 8
    pub dir : shadow_at I k.table ≡ Directory root
    pub link : place_at I d k.table ≡ Link w k.slot
    pub is : shadows (shadow_at k.slot k.table) (named F w) ≡ true
    pub dirs : (i f : ℕ) → shadow_at i k.table ≡ Directory f → shadow_at i t ≡ Directory f
    pub olds : Olds root (view t) (view k.table)

  module _ (rooted : shadow_at I t ≡ Directory root) (d w : ℕ) (inside : d < 1024) (leads : Leads F w) (present : word_at m root d ≡ w) (has : HasFrame m (named F w)) where
    there : (s : ℕ) → place_at I d t ≡ Link w s → shadows (shadow_at s t) (named F w) ≡ true → LinkedUp d w (taken s t q 0)
    there s e z = record {
      fit = ok;
      small = small_slot t s ok.roomy (filled (shadow_at s t) (named F w) z);
      dir = rooted;
      link = e;
      is = z;
      dirs = λ i f u. u;
      olds = λ i d w s f j x c u. u;
    }

    written : (k : Taken) → Got F R kept_order m (Some root) (named F w) t k → LinkedUp d w (with_link I d w k)
    unfolding v_put
    written k g = record {
      fit = refit g.fit m _ (roomy_put I d (Link w k.slot) k.table g.fit.roomy) refl
          (subst (Sound F m) (sym put) (sound_link F m (view k.table) g.fit.sound I root d w k.slot kept inside leads g.is (subst (Up F w) (sym present) same)));
      small = g.small;
      dir = ap (λ v. v.sh I) put ∙ kept;
      link = ap (λ v. v.pl I d) put ∙ put_here (view k.table) I d (Link w k.slot);
      is = ap (λ v. shadows (v.sh k.slot) (named F w)) put ∙ g.is;
      dirs = λ i f e. ⊎_elim (λ u. u) (λ u. absurd (named_no_directory (F.reads directory_level w) f (ap (shadows (Directory f)) u ∙ directory_here f))) (g.dirs i f (sym (ap (λ v. v.sh i) put) ∙ e));
      olds = subst (Olds root (view t)) (sym put) olds;
    }
      where
        kept : shadow_at I k.table ≡ Directory root
        kept = g.keeps root I refl rooted

        ISmall : I < 8
        ISmall = small_slot k.table I g.fit.roomy (ap is_nothing kept)

        put : view (put_place I d (Link w k.slot) k.table) ≡ v_put I d (Link w k.slot) (view k.table)
        put = view_put I d (Link w k.slot) k.table g.fit.roomy ISmall inside

        old_leaf : (s j x c : ℕ) → LeafThere (v_put I d (Link w k.slot) (view k.table)) s j x c → LeafThere (view k.table) s j x c
        old_leaf s j x c l =
            ⊎_elim (λ u. absurd (cc u.2)) (λ u. record { flag = l.flag; is = u })
            (put_either (view k.table) I d (Link w k.slot) s j (Leaf x c l.flag) l.is)

        olds : Olds root (view t) (v_put I d (Link w k.slot) (view k.table))
        olds i e u s f j x c z =
            ⊎_elim
            (λ y.
            let at : k.slot ≡ s = cc y.2 in
            calm_no_table g.calm (ap (λ (n : ℕ). shadow_at n k.table) at ∙ sym (put_sh (view k.table) I d (Link w k.slot) s) ∙ z.lag))
            (λ y.
            olds_fewer root g.fewer i e u s f j x c
            (record { dir = sym (put_sh (view k.table) I d (Link w k.slot) i) ∙ z.dir; link = y; lag = sym (put_sh (view k.table) I d (Link w k.slot) s) ∙ z.lag; leaf = old_leaf s j x c z.leaf }))
            (put_either (view k.table) I d (Link w k.slot) i e (Link u s) z.link)

    pub linked_up : LinkedUp d w (linked R m root d w (named F w) t q)
    unfolding linked
    linked_up = go (place_at I d t) refl
      where
        again : LinkedUp d w (with_link I d w (obtain R m (Some root) (named F w) t q))
        again = written (obtain R m (Some root) (named F w) t q) (got F R kept_order m (Some root) (named F w) t q ok has (free_but F R kept_order m root t q ok))

        by_test : (v s : ℕ) (b c : Bool) → place_at I d t ≡ Link v s → eqb v w ≡ b → shadows (shadow_at s t) (named F w) ≡ c → LinkedUp d w (cond (b && c) (taken s t q 0) (with_link I d w (obtain R m (Some root) (named F w) t q)))
        by_test v s true true e p z = there s (e ∙ ap (λ (n : ℕ). Link n s) (eqb-true v w p)) z
        by_test v s b c e p z = again

        go : (y : Place) → place_at I d t ≡ y → LinkedUp d w (cond (good_link t w (named F w) y) (taken (link_slot y) t q 0) (with_link I d w (obtain R m (Some root) (named F w) t q)))
        go (Link v s) e = by_test v s (eqb v w) (shadows (shadow_at s t) (named F w)) e refl refl
        go y e = again
