-- Every run is good, from its opening on, and so every call answers by the laws.
use Rattle.std.proofs.Common.{◌≡◌, ℕ, ◌≤◌, true, ◌||◌, ltb, [], is_some, Some, None, Option, sym, refl, ap, ◌∙◌, subst, ap₂, ⊎_elim, arith}
use Rattle.std.proofs.lemmas.Bool.{cond_both, false≢true}
use Rattle.memory.specs.Memory.{Memory, has_words}
use Rattle.paging.specs.Formats.{Format, LawsOfMarking}
use Rattle.paging.specs.Terms.{supervisor}
use Rattle.policies.specs.Orders.{OrdersKept, Rule, numbered}
use Rattle.shadow.specs.Slots.{fresh, shadow_at}
use Rattle.slot.specs.Slot.{shadows}
use Rattle.slot.specs.declared.slots.Place.TheVariants.{Empty, Link}
use Rattle.slot.specs.declared.slots.Shadow.TheVariants.{Nothing, Directory}
use Rattle.slot.specs.declared.slots.Thing.TheVariants as thing
use Rattle.runs.specs.Histories.{History, Opening, memory_at}
use Rattle.runs.specs.Laws.{DoneBy, LawfulReply, Recent, after_call}
use Rattle.runs.specs.Runs.{Bounded, CallsLawful, Run, goes, opened}
use Rattle.runs.specs.Terms.{Call, no_exit, open_run, poke}
use Rattle.runs.specs.Unit.{Running, State, Taken, no_tallies, opened_at, refuse, step, step_in, take_slot}
use Rattle.runs.proofs.Counting.{tallied_none}
use Rattle.runs.proofs.Calls.{call_fine}
use Rattle.runs.proofs.Good.{Fit, Good, rising_holds}
use Rattle.runs.proofs.Missing.{root_slot_is}
use Rattle.runs.proofs.Places.{fresh_place, fresh_shadow, roomy_fresh}
use Rattle.runs.proofs.Shadows.{is_directory_at, nothing_shadows}
use Rattle.runs.proofs.Sound.{Backed, Sound, opens}
use Rattle.runs.proofs.Taking.{Got, free_any, took}
use Rattle.runs.proofs.Views.{view}

abbrev made : Memory → Option Running → State
made m r = record { memory = m; run = r }

module _ (F : Format) (m : Memory) (n : ℕ) where
  -- empty slots are sound
  fresh_sound : Sound F m (view (fresh n))
  fresh_sound = record {
    framed = record {
      unique = λ i k x p q. cc (fresh_shadow i n, nothing_shadows x);
      backed = λ i. subst (Backed m) (sym (fresh_shadow i n)) tt;
      within = λ i j l. fresh_place i j n;
      links = λ i d w s e. absurd (cc (sym (fresh_place i d n) ∙ e));
      leaves = λ i j w a b e. absurd (cc (sym (fresh_place i j n) ∙ e));
      pieces = λ i j b e. absurd (cc (sym (fresh_place i j n) ∙ e));
      apart = λ i k f e q. cc (sym (fresh_shadow k n) ∙ q);
    };
    shut = λ i j g k e. absurd (false≢true (sym (ap (λ p. opens j (shadow_at i (fresh n)) g p) (fresh_place i j n)) ∙ e));
  }

  fresh_fit : 2 ≤ n → n ≤ 8 → Fit F m (fresh n) (numbered n)
  fresh_fit l u = record { roomy = roomy_fresh n; many = l; few = u; ordered = λ i k. rising_holds 0 n i (omega arith) (omega arith); sound = fresh_sound }

module _ (F : Format) (laws : LawsOfMarking F) (R : Rule) (kept_order : OrdersKept R) (o : Opening) where
  module _ (n : ℕ) (l : 2 ≤ n) (u : n ≤ 8) (has : has_words (o.memory o.root) ≡ true) (bounded : Bounded o.memory) where
    abbrev root : ℕ
    root = o.root

    abbrev K : Taken
    K = take_slot R o.memory None (thing.Directory root) (fresh n) (numbered n)

    fit : Fit F o.memory (fresh n) (numbered n)
    fit = fresh_fit F o.memory n l u

    first : Got F R kept_order o.memory None (thing.Directory root) (fresh n) K
    first =
        took F R kept_order o.memory None (thing.Directory root) (fresh n) (numbered n) fit
        (λ k. ap (λ y. shadows y (thing.Directory root)) (fresh_shadow k n)) has (free_any F R kept_order o.memory (fresh n) (numbered n) fit)

    at : shadow_at K.slot K.table ≡ Directory root
    at = is_directory_at root (shadow_at K.slot K.table) first.is

    abbrev first_run : Running
    first_run = record { table = K.table; order = K.order; hart = record { root = root; mode = supervisor; pending = None; last = None; tallies = no_tallies } }

    silent : {A : Type 0} (k p v : ℕ) → Recent o k p v [] → A
    silent k p v e = elim e [ ]

    opening_good : (r : Running) → (opened_at R o.memory o.root n).run ≡ Some r → ((opened_at R o.memory o.root n).memory ≡ memory_at o []) × Good F o [] r
    unfolding opened_at
    opening_good r e =
        let same_run : first_run ≡ r = cc in (
          refl,
          subst (Good F o []) same_run (record {
            root = refl;
            mode = refl;
            fit = first.fit;
            rooted = ap (λ (i : ℕ). shadow_at i K.table) (root_slot_is F o.memory K.table K.order first.fit root K.slot at) ∙ at;
            were = λ i f z never. ⊎_elim (λ q. let c : Nothing ≡ Directory f = sym (fresh_shadow i n) ∙ q in cc) (λ q. let c : root ≡ f = cc in never c) (first.dirs i f z);
            raised = tt;
            tallied = tallied_none;
            bounded = bounded;
            past = λ i b w s f x c z q link lag leaf. let c : Empty ≡ Link w s = sym (fresh_place i _ n) ∙ first.fewer.links i _ w s link in cc;
            ready = λ a z. silent _ _ _ z;
          }),
        )

  abbrev GoodState : History → State → Type 0
  GoodState h s = (r : Running) → s.run ≡ Some r → (s.memory ≡ memory_at o h) × Good F o h r

  -- a call, in a good state
  step_next : (h : History) (s : State) (c : Call) → GoodState h s → is_some s.run ≡ true → LawfulReply F o h c (step R F s c).reply × GoodState (after_call o h c (step R F s c).reply) (step R F s c).next
  step_next h s c good e = go s.run refl
    where
      go : (x : Option Running) → s.run ≡ x → LawfulReply F o h c (step R F s c).reply × GoodState (after_call o h c (step R F s c).reply) (step R F s c).next
      go None q = absurd cc
      go (Some r) q =
          let k = good r q in
          subst (λ (y : State). LawfulReply F o h c (step R F y c).reply × GoodState (after_call o h c (step R F y c).reply) (step R F y c).next)
          (sym (same_state r k.0 q))
          (call_fine F laws R kept_order o h r k.1 c)
        where
          same_state : (r : Running) → s.memory ≡ memory_at o h → s.run ≡ Some r → s ≡ record { memory = memory_at o h; run = Some r }
          same_state r p z = ap₂ made p z

  good_run : {h : History} {s : State} → Run F R o h s → GoodState h s
  good_run (opened n l u has bounded) = opening_good n l u has bounded
  good_run (goes {h} {s} run c e) = (step_next h s c (good_run run) e).1

  -- what every call answers, whether or not a run is open

  pub law_of : (h : History) (s : State) (c : Call) → Run F R o h s → LawfulReply F o h c (step R F s c).reply
  law_of h s c run = go s.run refl
    where
      go : (x : Option Running) → s.run ≡ x → LawfulReply F o h c (step R F s c).reply
      go (Some r) q = (step_next h s c (good_run run) (ap is_some q)).0
      go None q = subst (λ (y : Option Running). LawfulReply F o h c (step_in R F s c y).reply) (sym q) (closed_lawful s c)
        where
          closed_lawful : (s : State) (c : Call) → LawfulReply F o h c (step_in R F s c None).reply
          closed_lawful s (open_run f n) = cond_both (ltb n 2 || ltb 8 n) (refuse s 4) _ (λ e. DoneBy no_exit e.reply) (λ b. tt) (λ b. cond_both (has_words (s.memory f)) _ (refuse s 3) (λ e. DoneBy no_exit e.reply) (λ d. refl) (λ d. tt))
          closed_lawful s (poke f i w) = cond_both (ltb 1023 i) (refuse s 8) _ (λ e. DoneBy no_exit e.reply) (λ b. tt) (λ b. cond_both (has_words (s.memory f)) _ (refuse s 3) (λ e. DoneBy no_exit e.reply) (λ d. refl) (λ d. tt))
          closed_lawful s c = tt

pub calls_lawful : (F : Format) → LawsOfMarking F → (R : Rule) → OrdersKept R → CallsLawful F R
calls_lawful F laws R kept s c = record { law = λ o h run. law_of F laws R kept o h s c run; on = λ o h run e. goes run c e }
