-- Each call keeps a run good, and answers by the laws.
use Rattle.std.proofs.Common.{◌≡◌, ℕ, ◌+◌, ◌%◌, ◌<◌, Bool, true, false, cond, eqb, leb, List, [], ◌∷◌, is_some, Some, None, Option, sym, refl, ap, ◌∙◌, subst, ⊎_elim, arith}
use Rattle.std.proofs.lemmas.Bool.{cases_eq, cond_both, eq-eqb, eqb-true, ne_eqb}
use Rattle.memory.specs.Memory.{Memory, has_words}
use Rattle.paging.specs.Formats.{Format, LawsOfMarking}
use Rattle.paging.specs.Terms.{directory_level, store}
use Rattle.policies.specs.Orders.{OrdersKept, Rule, numbered}
use Rattle.walk.specs.Marking.{put_all}
use Rattle.walk.specs.Walk.{Asked, Failure, Outcome, directory_index, faulted, reached, table_index, walk_from, word_index}
use Rattle.shadow.specs.Slots.{place_at, put_place, shadow_at}
use Rattle.slot.specs.Slot.{is_directory_of, shadows}
use Rattle.slot.specs.declared.slots.Place.{Place}
use Rattle.slot.specs.declared.slots.Place.TheVariants.{Empty, Link, Leaf}
use Rattle.slot.specs.declared.slots.Shadow.TheVariants.{Directory, Table}
use Rattle.shadow.specs.declared.slots.SlotTable.{SlotTable}
use Rattle.slot.specs.declared.slots.SyncState.TheVariants.{Unsynchronised}
use Rattle.slot.specs.declared.slots.Thing.TheVariants as thing
use Rattle.runs.specs.Histories.{Event, History, Opening, Sometime, covers, earlier, exit_of, failed, flushed_all, flushed_page, marks_in, memory_at, mode_at, moded, root_at, settled, store_of, switched, went}
use Rattle.runs.specs.Laws.{after_access, after_call, asked_now, fault, guest_walk, just, LawfulAnswer, LawfulFault, LawfulReply, Recent, Tallied}
use Rattle.runs.specs.Laws as laws_of
use Rattle.runs.specs.Terms.{Call, access, close_run, deliver, flush, flush_all, flush_page, give_up, open_run, page_of, poke, set_mode, switch_root, Through, no_exit}
use Rattle.runs.specs.Unit.{Ended, Hart, RecordedFault, Running, State, Taken, access_by, access_ends, asked_in, call_limit, count_in, drop_below, drop_page, hit_answer, hit_target, in_run, is_pending, obtain, refuse, resync_all, root_slot, settled_as, switch_ends, unless_full, unless_pending, walk_ends}
use Rattle.runs.proofs.Basics.{elim_eq}
use Rattle.runs.proofs.Counting.{tallied_more, tallied_still}
use Rattle.runs.proofs.Fewer.{Fewer, fewer_empty, fewer_same}
use Rattle.runs.proofs.Good.{Fit, Good, Past, Then, refit}
use Rattle.runs.proofs.HitLaws.{hit_lawful}
use Rattle.runs.proofs.Hitting.{Hit, by_leaf, by_piece, hit_there, store_flag}
use Rattle.runs.proofs.Linking.{put_here, put_other, put_sh}
use Rattle.runs.proofs.Memories.{raises_refl}
use Rattle.runs.proofs.Missing.{hit_alike, miss_good, miss_lawful, root_slot_is, same_page}
use Rattle.runs.proofs.Moments.{SmallWrites}
use Rattle.runs.proofs.Places.{roomy_put, small_slot, view_put}
use Rattle.runs.proofs.Resyncs.{Turned, all_calm, each, turned_directory}
use Rattle.runs.proofs.Shadows.{calm_no_table, directory_here, filled, is_directory_at, named_no_directory}
use Rattle.runs.proofs.Sound.{Linked, Raises, Sound, guards, named, opens, piece_opens}
use Rattle.runs.proofs.Sounds.{sound_empty, sound_store}
use Rattle.runs.proofs.Taking.{Got, free_any, got, told_fit}
use Rattle.runs.proofs.Views.{v_put, view}
use Rattle.runs.proofs.Walking.{guest_walked}
use Rattle.runs.proofs.Windows.{present, table_index_small, word_index_small}

target_alike : (F : Format) (a b : Asked) (root : ℕ) (t : SlotTable) → a.kind ≡ b.kind → page_of a.address ≡ page_of b.address → a.privilege ≡ b.privilege → hit_target F b root t ≡ hit_target F a root t
unfolding hit_target
target_alike F a b root t k x v = hit_alike F a b (root_slot root t) t k x v

target_hit : (F : Format) (a : Asked) (root : ℕ) (t : SlotTable) (f : ℕ) → hit_target F a root t ≡ Some f → Hit F a t (root_slot root t) f
unfolding hit_target
target_hit F a root t f e = hit_there F a t (root_slot root t) f e

module _ (F : Format) (laws : LawsOfMarking F) (R : Rule) (kept_order : OrdersKept R) (o : Opening) where
  -- a run that goes on is good
  abbrev pub Next : History → Ended → Type 0
  Next h e = (r : Running) → e.next.run ≡ Some r → (e.next.memory ≡ memory_at o h) × Good F o h r

  goes_on : (h : History) (m : Memory) (r : Running) → m ≡ memory_at o h → Good F o h r → (k : Running) → Some r ≡ Some k → (m ≡ memory_at o h) × Good F o h k
  goes_on h m r e good k z = let u : r ≡ k = cc in (e, subst (Good F o h) u good)

  module _ (h : History) (r : Running) (good : Good F o h r) where
    abbrev m : Memory
    m = memory_at o h

    abbrev s : State
    s = record { memory = m; run = Some r }

    abbrev root : ℕ
    root = r.hart.root

    abbrev I : ℕ
    I = root_slot root r.table

    -- HITS

    -- a store that hits goes to a frame that nothing guards
    store_free : (a : Asked) (f : ℕ) → a.kind ≡ store → Hit F a r.table I f → (k : ℕ) → guards f (shadow_at k r.table) ≡ false
    store_free a _ e (by_leaf {w} {s} {x} {f} {b} p q z) k =
        good.fit.sound.shut s (table_index a.address) f k
        (ap (λ y. opens (table_index a.address) (shadow_at s r.table) f y) q ∙ rw (store_flag a.kind b e z.flag, eq-eqb f f refl))
    store_free a _ e (by_piece {w} {s} {g} {b} p y q z) k =
        good.fit.sound.shut s (table_index a.address) (g + table_index a.address) k
        (ap (λ v. opens (table_index a.address) (shadow_at s r.table) (g + table_index a.address) v) q
        ∙ ap (λ v. piece_opens (table_index a.address) b (g + table_index a.address) v) y
        ∙ rw (store_flag a.kind b e z.flag, eq-eqb (g + table_index a.address) (g + table_index a.address) refl))

    hit_sound : (a : Asked) (w f : ℕ) → Hit F a r.table I f → Sound F (put_all m (store_of a w (hit_answer a w m f))) (view r.table)
    hit_sound a w f hit =
        elim_eq (eqb a.kind store) (λ b. Sound F (put_all m (cond b (record { frame = f; index = word_index a.address; word = w } ∷ []) [])) (view r.table))
        (λ e. sound_store F m (view r.table) good.fit.sound f (word_index a.address) w (word_index_small a.address) (store_free a f (eqb-true a.kind store e) hit))
        (λ e. good.fit.sound)

    -- CALLS THAT LEAVE SLOTS

    -- an event without marks that covers nothing and leaves the root
    still_good : (e : Event) (q : List ℕ) (g : Hart) → marks_in e ≡ [] → ((p : ℕ) → covers e p ≡ false) → root_at o (e ∷ h) ≡ root_at o h
        → g.root ≡ root → g.mode ≡ mode_at o (e ∷ h) → Tallied (e ∷ h) g.tallies → Fit F (memory_at o (e ∷ h)) r.table q
        → ((b : Asked) → Recent o b.kind (page_of b.address) b.privilege (e ∷ h) → is_some (hit_target F b root r.table) ≡ true)
        → Good F o (e ∷ h) (record { table = r.table; order = q; hart = g })
    still_good e q g marks cover root_same re me tallied fit ready = record {
      root = re ∙ good.root ∙ sym root_same;
      mode = me;
      fit = fit;
      rooted = subst (λ (n : ℕ). shadow_at (root_slot n r.table) r.table ≡ Directory n) (sym re) good.rooted;
      were = λ i k z never. good.were i k z never.1;
      raised = (subst (λ xs. Raises F m (put_all m xs)) (sym marks) (raises_refl F m), subst SmallWrites (sym marks) tt, good.raised);
      tallied = tallied;
      bounded = good.bounded;
      past = subst (λ (n : ℕ). Past F o (e ∷ h) n (view r.table)) (sym re) (λ i b u k x y c z q l lag leaf. earlier (cover (page_of b)) (good.past i b u k x y c z q l lag leaf));
      ready = subst (λ (n : ℕ). (b : Asked) → Recent o b.kind (page_of b.address) b.privilege (e ∷ h) → is_some (hit_target F b n r.table) ≡ true) (sym re) ready;
    }

    hit_good : (a : Asked) (w f : ℕ) (q : List ℕ) (g : Hart) → g.root ≡ root → g.mode ≡ r.hart.mode → Tallied (went a w (hit_answer a w m f) ∷ h) g.tallies → Fit F m r.table q → hit_target F a root r.table ≡ Some f → Hit F a r.table I f
        → Good F o (went a w (hit_answer a w m f) ∷ h) (record { table = r.table; order = q; hart = g })
    hit_good a w f q g re me tallied fit hits hit =
        still_good (went a w (hit_answer a w m f)) q g refl (λ p. refl) refl re (me ∙ good.mode) tallied (refit fit _ r.table fit.roomy refl (hit_sound a w f hit)) ready
      where
        ready : (b : Asked) → Recent o b.kind (page_of b.address) b.privilege (went a w (hit_answer a w m f) ∷ h) → is_some (hit_target F b root r.table) ≡ true
        ready b (just k x v free) = ap is_some (target_alike F a b root r.table k x v ∙ hits)
        ready b (laws_of.since e z) = good.ready b z

    -- after an event that is no access that came through, a recent one came before it, and the event has no exit
    came_before : {A : Asked → Type 0} (e : Event) → ((a : Asked) (w : ℕ) (x : Through) → e ≡ went a w x → ⊥)
        → (exit_of e ≡ no_exit → (b : Asked) → Recent o b.kind (page_of b.address) b.privilege h → A b)
        → (b : Asked) → Recent o b.kind (page_of b.address) b.privilege (e ∷ h) → A b
    came_before e other before b (just {a} {w} {r = x} k p v free) = absurd (other a w x refl)
    came_before e other before b (laws_of.since q z) = before q b z

    fault_lawful : (a : Asked) (x : Failure) → a.privilege ≡ mode_at o h → hit_target F a root r.table ≡ None → walk_from F a m root ≡ faulted x → LawfulFault F o h a x
    fault_lawful a x privilege none e = record {
      privileged = privilege;
      window = present o _ (page_of a.address) h by_root;
      present = by_root;
      exit = λ recent. cc (good.ready a recent);
    }
      where
        by_root : guest_walk F a (root_at o h) m ≡ fault x
        by_root = subst (λ (k : ℕ). guest_walk F a k m ≡ fault x) good.root (guest_walked F a root m e)

    -- ACCESSES

    abbrev FineAccess : Asked → ℕ → Ended → Type 0
    FineAccess a w e = LawfulAnswer F o h a e.reply × Next (after_access a w h e.reply) e

    walk_fine : (a : Asked) (w : ℕ) → a.privilege ≡ mode_at o h → hit_target F a root r.table ≡ None → (x : Outcome) → walk_from F a m root ≡ x → FineAccess a w (walk_ends R F s r a w x)
    walk_fine a w privilege none (reached f es) e = (
      miss_lawful F laws R kept_order o h r good a w f es e none privilege,
      λ k z. goes_on _ _ _ refl (miss_good F laws R kept_order o h r good a w f es e) k z,
    )
    walk_fine a w privilege none (faulted x) e = (
      fault_lawful a x privilege none e,
      λ k z. goes_on _ _ _ refl (still_good (failed a x) _ _ refl (λ p. refl) refl refl good.mode (tallied_more (failed a x) 0 h r.hart.tallies refl good.tallied) good.fit (came_before (failed a x) (λ b u y q. cc) (λ q. absurd (omega arith)))) k z,
    )

    access_fine : (a : Asked) (w : ℕ) → a.privilege ≡ mode_at o h → FineAccess a w (access_ends R F s r a w)
    unfolding access_ends
    access_fine a w privilege = go (hit_target F a root r.table) refl
      where
        go : (x : Option ℕ) → hit_target F a root r.table ≡ x → FineAccess a w (access_by R F s r a w x)
        go (Some f) e =
            let hit = target_hit F a root r.table f e in (
              hit_lawful F laws o h r good a w f privilege hit,
              λ k z. goes_on _ _ _ refl (hit_good a w f _ _ refl refl (tallied_more (went a w (hit_answer a w m f)) 0 h r.hart.tallies refl good.tallied) (told_fit F R kept_order m r.table _ _ (told_fit F R kept_order m r.table _ _ good.fit)) e hit) k z,
            )
        go None e = walk_fine a w privilege e (walk_from F a m root) refl

    -- FLUSHES

    all_turned : Turned r.table (resync_all m r.table)
    all_turned = (each F m (numbered 8) r.table r.order good.fit).turned

    all_fit : Fit F m (resync_all m r.table) r.order
    all_fit = (each F m (numbered 8) r.table r.order good.fit).fit

    flush_good : Good F o (flushed_all ∷ h) (record { table = resync_all m r.table; order = r.order; hart = count_in flush 0 r.hart })
    flush_good = record {
      root = good.root;
      mode = good.mode;
      fit = all_fit;
      rooted = ap (λ (i : ℕ). shadow_at i (resync_all m r.table)) (root_slot_is F m (resync_all m r.table) r.order all_fit root I at) ∙ at;
      were = λ i k e never. good.were i k ((turned_directory all_turned i k).0 e) never.1;
      raised = (raises_refl F m, tt, good.raised);
      tallied = tallied_more flushed_all 0 h r.hart.tallies refl good.tallied;
      bounded = good.bounded;
      past = λ i b u k x y c z e l lag leaf. calm_no_table (all_calm F m r.table r.order good.fit k) lag;
      ready = came_before flushed_all (λ b u y q. cc) (λ q. absurd (omega arith));
    }
      where
        at : shadow_at I (resync_all m r.table) ≡ Directory root
        at = (turned_directory all_turned I root).1 good.rooted

    -- a page flush: the leaf of the page is gone
    record Dropped (a : ℕ) (n : SlotTable) : Type 0 where
      pub fit : Fit F m n r.order
      pub fewer : Fewer (view r.table) (view n)
      pub shadow : (i : ℕ) → shadow_at i n ≡ shadow_at i r.table
      pub gone : (w k : ℕ) → place_at I (directory_index a) n ≡ Link w k → place_at k (table_index a) n ≡ Empty

    undropped : (a : ℕ) (x : Place) → place_at I (directory_index a) r.table ≡ x → ((w k : ℕ) → x ≡ Link w k → ⊥) → Dropped a r.table
    undropped a x e other = record { fit = good.fit; fewer = fewer_same; shadow = λ i. refl; gone = λ w k z. absurd (other w k (sym e ∙ z)) }

    dropped_link : (a w k : ℕ) → place_at I (directory_index a) r.table ≡ Link w k → Dropped a (put_place k (table_index a) Empty r.table)
    dropped_link a w k e = record {
      fit = refit good.fit m (put_place k (table_index a) Empty r.table) (roomy_put k (table_index a) Empty r.table good.fit.roomy) refl
          (subst (Sound F m) (sym is) (sound_empty F m (view r.table) good.fit.sound k (table_index a)));
      fewer = subst (Fewer (view r.table)) (sym is) (fewer_empty k (view r.table) (table_index a));
      shadow = λ i. ap (λ v. v.sh i) is ∙ put_sh (view r.table) k (table_index a) Empty i;
      gone = λ u n z.
          let kept : place_at I (directory_index a) (put_place k (table_index a) Empty r.table) ≡ Link w k = ap (λ v. v.pl I (directory_index a)) is ∙ put_other (view r.table) k (table_index a) Empty I (directory_index a) (λ c. apart c.0) ∙ e in
          let same_slot : k ≡ n = cc (sym kept ∙ z) in
          subst (λ (i : ℕ). place_at i (table_index a) (put_place k (table_index a) Empty r.table) ≡ Empty) same_slot (ap (λ v. v.pl k (table_index a)) is ∙ put_here (view r.table) k (table_index a) Empty);
    }
      where
        l : Linked F m (view r.table) I (directory_index a) w k
        l = good.fit.sound.framed.links I (directory_index a) w k e

        slot : k < 8
        slot = small_slot r.table k good.fit.roomy (filled (shadow_at k r.table) (named F w) l.names)

        is : view (put_place k (table_index a) Empty r.table) ≡ v_put k (table_index a) Empty (view r.table)
        is = view_put k (table_index a) Empty r.table good.fit.roomy slot (table_index_small a)

        apart : I ≡ k → ⊥
        apart c =
            let names : shadows (Directory root) (named F w) ≡ true = subst (λ y. shadows y (named F w) ≡ true) (sym (ap (λ (i : ℕ). shadow_at i r.table) c) ∙ good.rooted) l.names in
            named_no_directory (F.reads directory_level w) root names

    page_dropped : (a : ℕ) → Dropped a (drop_page root a r.table)
    unfolding drop_page
    page_dropped a = go (place_at I (directory_index a) r.table) refl
      where
        go : (x : Place) → place_at I (directory_index a) r.table ≡ x → Dropped a (drop_below (table_index a) r.table x)
        go (Link w k) e = dropped_link a w k e
        go x e = undropped a x e (λ w k z. cc)

    page_good : (a : ℕ) → Good F o (flushed_page a ∷ h) (record { table = drop_page root a r.table; order = r.order; hart = count_in flush 0 r.hart })
    page_good a = record {
      root = good.root;
      mode = good.mode;
      fit = d.fit;
      rooted = ap (λ (i : ℕ). shadow_at i (drop_page root a r.table)) slot_now ∙ at;
      were = λ i k e never. good.were i k (sym (d.shadow i) ∙ e) never.1;
      raised = (raises_refl F m, tt, good.raised);
      tallied = tallied_more (flushed_page a) 0 h r.hart.tallies refl good.tallied;
      bounded = good.bounded;
      past = λ i b u k x y c z e l lag leaf. ⊎_elim (λ q. absurd (covered i b u k y c z q e l leaf)) (λ q. uncovered i b u k x y c z q e l lag leaf) (cases_eq (page_of a) (page_of b));
      ready = came_before (flushed_page a) (λ b u y q. cc) (λ q. absurd (omega arith));
    }
      where
        d : Dropped a (drop_page root a r.table)
        d = page_dropped a

        at : shadow_at I (drop_page root a r.table) ≡ Directory root
        at = d.shadow I ∙ good.rooted

        slot_now : root_slot root (drop_page root a r.table) ≡ I
        slot_now = root_slot_is F m (drop_page root a r.table) r.order d.fit root I at

        covered : (i b u k y c : ℕ) (z : Bool) → page_of a ≡ page_of b → shadow_at i (drop_page root a r.table) ≡ Directory root → place_at i (directory_index b) (drop_page root a r.table) ≡ Link u k
            → place_at k (table_index b) (drop_page root a r.table) ≡ Leaf y c z → ⊥
        covered i b u k y c z q e l leaf =
            let p = same_page a b q in
            let own : i ≡ I = d.fit.sound.framed.unique i I (thing.Directory root) (ap (is_directory_of root) e ∙ directory_here root) (ap (is_directory_of root) at ∙ directory_here root) in
            let link : place_at I (directory_index a) (drop_page root a r.table) ≡ Link u k = ap (λ (n : ℕ). place_at I n (drop_page root a r.table)) p.0 ∙ ap (λ (n : ℕ). place_at n (directory_index b) (drop_page root a r.table)) (sym own) ∙ l in
            cc (d.gone u k link, ap (λ (n : ℕ). place_at k n (drop_page root a r.table)) p.1, leaf)

        uncovered : (i b u k x y c : ℕ) (z : Bool) → (page_of a ≡ page_of b → ⊥) → shadow_at i (drop_page root a r.table) ≡ Directory root → place_at i (directory_index b) (drop_page root a r.table) ≡ Link u k
            → shadow_at k (drop_page root a r.table) ≡ Table x Unsynchronised → place_at k (table_index b) (drop_page root a r.table) ≡ Leaf y c z → Sometime o (Then F root b u x y) (page_of b) (flushed_page a ∷ h)
        uncovered i b u k x y c z q e l lag leaf =
            let old = d.fewer.leaves k (table_index b) y c z leaf in
            earlier (ne_eqb (page_of a) (page_of b) q)
            (good.past i b u k x y c old.flag (d.fewer.roots i (directory_index b) u k root l e) (d.fewer.links i (directory_index b) u k l) (d.fewer.lagging k x lag) old.is)

    -- SWITCHES

    abbrev T : ℕ → Taken
    T f = obtain R m None (thing.Directory f) (resync_all m r.table) r.order

    switch_good : (f : ℕ) → has_words (m f) ≡ true → (g : Hart) → g.root ≡ f → g.mode ≡ r.hart.mode → Tallied (switched f ∷ h) g.tallies → Good F o (switched f ∷ h) (record { table = (T f).table; order = (T f).order; hart = g })
    switch_good f has g re me tallied = record {
      root = re;
      mode = me ∙ good.mode;
      fit = k.fit;
      rooted = subst (λ (n : ℕ). shadow_at (root_slot n (T f).table) (T f).table ≡ Directory n) (sym re) (ap (λ (i : ℕ). shadow_at i (T f).table) (root_slot_is F m (T f).table (T f).order k.fit f (T f).slot at) ∙ at);
      were = λ i n e never. ⊎_elim
          (λ z. good.were i n ((turned_directory all_turned i n).0 z) never.1)
          (λ z. let u : f ≡ n = cc in never.0 u)
          (k.dirs i n e);
      raised = (raises_refl F m, tt, good.raised);
      tallied = tallied;
      bounded = good.bounded;
      past = λ i b u s x y c z e l lag leaf. calm_no_table (all_calm F m r.table r.order good.fit s) (k.fewer.lagging s x lag);
      ready = came_before (switched f) (λ b u y q. cc) (λ q. absurd (omega arith));
    }
      where
        k : Got F R kept_order m None (thing.Directory f) (resync_all m r.table) (T f)
        k = got F R kept_order m None (thing.Directory f) (resync_all m r.table) r.order all_fit has (free_any F R kept_order m (resync_all m r.table) r.order all_fit)

        at : shadow_at (T f).slot (T f).table ≡ Directory f
        at = is_directory_at f (shadow_at (T f).slot (T f).table) k.is

    -- ALL CALLS

    abbrev pub Fine : Call → Ended → Type 0
    Fine c e = LawfulReply F o h c e.reply × Next (after_call o h c e.reply) e

    -- a refusal changes nothing
    same_run : (k : Running) → Some r ≡ Some k → (m ≡ m) × Good F o h k
    same_run k z = goes_on h m r refl good k z

    refused_fine : (c : Call) (n : ℕ) → Fine c (refuse s n)
    refused_fine (open_run f k) n = (tt, same_run)
    refused_fine c n = (tt, same_run)

    pending_fine : (c : Call) (e : Ended) → Fine c e → Fine c (unless_pending s r e)
    pending_fine c e p = cond_both (is_some r.hart.pending) (refuse s 6) e (Fine c) (λ z. refused_fine c 6) (λ z. p)

    full_fine : (c : Call) (e : Ended) → Fine c e → Fine c (unless_full s r e)
    full_fine c e p = pending_fine c _ (cond_both (leb call_limit r.hart.tallies.calls) (refuse s 7) e (Fine c) (λ z. refused_fine c 7) (λ z. p))

    -- the access is made at the privilege in force
    asked_same : (k a : ℕ) → asked_in r k a ≡ asked_now F o h k a
    asked_same k a = ap (λ (p : ℕ). record { address = a; kind = k; privilege = p }) good.mode

    call_access : (k a w : ℕ) → Fine (access k a w) (access_ends R F s r (asked_in r k a) w)
    call_access k a w =
        let e : Ended = access_ends R F s r (asked_in r k a) w in
        subst (λ q. LawfulAnswer F o h q e.reply × Next (after_access q w h e.reply) e) (asked_same k a) (access_fine (asked_in r k a) w good.mode)

    settled_next : (l : Option RecordedFault) → Next (settled ∷ h) (settled_as s r l)
    settled_next l k e =
        goes_on _ _ _ refl
        (still_good settled _ _ refl (λ n. refl) refl refl good.mode (tallied_still settled h r.hart.tallies refl good.tallied) good.fit (came_before settled (λ b u y q. cc) (λ q. good.ready))) k e

    pub call_fine : (c : Call) → Fine c (in_run R F s r c)
    call_fine (open_run f k) = refused_fine (open_run f k) 1
    call_fine (access k a w) =
        full_fine (access k a w) _ (cond_both (eqb (a % 4) 0) _ (refuse s 5) (Fine (access k a w)) (λ z. call_access k a w) (λ z. refused_fine (access k a w) 5))
    call_fine flush_all = full_fine flush_all _ (refl, λ k z. goes_on _ _ _ refl flush_good k z)
    call_fine (flush_page a) = full_fine (flush_page a) _ (refl, λ k z. goes_on _ _ _ refl (page_good a) k z)
    call_fine (switch_root f) =
        full_fine (switch_root f) _ (cond_both (has_words (m f)) _ (refuse s 3) (Fine (switch_root f)) (λ z. switched_fine f z) (λ z. refused_fine (switch_root f) 3))
      where
        switched_fine : (f : ℕ) → has_words (m f) ≡ true → Fine (switch_root f) (switch_ends R s r f)
        switched_fine f has = unfold switch_ends in (refl, λ k z. goes_on _ _ _ refl (switch_good f has _ refl refl (tallied_more (switched f) _ h r.hart.tallies refl good.tallied)) k z)
    call_fine (set_mode p) =
        pending_fine (set_mode p) _ (refl, λ k z. goes_on _ _ _ refl (still_good (moded p) _ _ refl (λ n. refl) refl refl refl (tallied_still (moded p) h r.hart.tallies refl good.tallied) good.fit (came_before (moded p) (λ b u y q. cc) (λ q. good.ready))) k z)
    call_fine (deliver x) = cond_both (is_pending x r.hart.pending) _ (refuse s 10) (Fine (deliver x)) (λ z. (refl, settled_next _)) (λ z. refused_fine (deliver x) 10)
    call_fine (give_up x) = cond_both (is_pending x r.hart.pending) _ (refuse s 10) (Fine (give_up x)) (λ z. (refl, settled_next _)) (λ z. refused_fine (give_up x) 10)
    call_fine close_run = pending_fine close_run _ (good.tallied, λ k z. cc)
    call_fine (poke f i w) = refused_fine (poke f i w) 1
