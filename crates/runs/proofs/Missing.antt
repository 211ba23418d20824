-- An access that walks and comes through obeys the laws, and leaves the run good.
use Rattle.std.proofs.Common.{◌≡◌, ℕ, ◌+◌, ◌<◌, Bool, true, false, cond, eqb, List, [], ◌∷◌, is_some, Some, None, Option, unwrap_or, sym, refl, ap, ◌∙◌, subst, ⊎_elim, arith}
use Rattle.std.proofs.lemmas.Bool.{eqb-true, lt-ltb, ne_eqb, false_from_ne_true}
use Rattle.memory.specs.Memory.{Memory, has_words}
use Rattle.paging.specs.Formats.{Format, LawsOfMarking}
use Rattle.paging.specs.Terms.{directory_level, store}
use Rattle.policies.specs.Orders.{OrdersKept, Rule}
use Rattle.walk.specs.Marking.{Write, due, put_all}
use Rattle.walk.specs.Walk.{Asked, Seen, directory_index, reached, table_index, walk_from, word_index}
use Rattle.hits.specs.Hits.{copied_at, hits, number_limit}
use Rattle.hits.specs.declared.hits.Copied.{Copied}
use Rattle.shadow.specs.Slots.{find_slot, is_directory, place_at, put_place, shadow_at}
use Rattle.slot.specs.Slot.{is_directory_of, shadows}
use Rattle.slot.specs.declared.slots.Place.{Place}
use Rattle.slot.specs.declared.slots.Place.TheVariants.{Link}
use Rattle.slot.specs.declared.slots.Shadow.TheVariants.{Directory}
use Rattle.shadow.specs.declared.slots.SlotTable.{SlotTable}
use Rattle.slot.specs.declared.slots.Thing.{Thing}
use Rattle.slot.specs.declared.slots.Thing.TheVariants as thing
use Rattle.runs.specs.Histories.{History, NeverRoot, Opening, earlier, memory_at, mode_at, root_at, store_of, went}
use Rattle.runs.specs.Laws.{LawfulThrough, Recent, guest_walk, just, last_put, to, word_at}
use Rattle.runs.specs.Laws as laws_of
use Rattle.runs.specs.Runs.{Bounded}
use Rattle.runs.specs.Terms.{Through, hidden, page_of}
use Rattle.runs.specs.Unit.{Running, Taken, Traced, count_in, hit_by, hit_target, linked, new_place, root_slot, store_traced, tell_path, traced, value_of}
use Rattle.runs.proofs.Basics.{elim_eq}
use Rattle.runs.proofs.Counting.{tallied_more}
use Rattle.runs.proofs.Good.{Fit, Good, Past, Then, refit}
use Rattle.runs.proofs.Hitting.{large_hits, leaf_hit, own_flag, piece_hit, small_hits}
use Rattle.runs.proofs.Linking.{LinkedUp, linked_up}
use Rattle.runs.proofs.Memories.{last_put_is}
use Rattle.runs.proofs.Places.{find_none, find_some, slot_some}
use Rattle.runs.proofs.Shadows.{directory_here, is_directory_at, is_split_at, is_table_at, named_by}
use Rattle.runs.proofs.Sound.{Leads, Pages, Raises, Up, named}
use Rattle.runs.proofs.Sounds.{sound_raise}
use Rattle.runs.proofs.Storing.{Kept, New, Stands, flag_of, kept_load, kept_store, new_leaf, new_piece, put_shadow, stands_put}
use Rattle.runs.proofs.Taking.{HasFrame, told_fit}
use Rattle.runs.proofs.Views.{View, view}
use Rattle.runs.proofs.Walking.{Arrived, arrived, below, guest_walked, large, lower, raises_due, settled_large, settled_small, small, small_due, up_allows, up_allows_two, up_leads, up_named, up_pages, upper}
use Rattle.runs.proofs.Windows.{before_store, directory_index_small, has_at, last_is, present, table_index_small, word_index_small}

-- a page has its indices
pub same_page : (x y : ℕ) → page_of x ≡ page_of y → (directory_index x ≡ directory_index y) × (table_index x ≡ table_index y)
same_page x y e = (omega arith, omega arith)

-- the slot of the root's directory is the one that shadows it
pub root_slot_is : (F : Format) (m : Memory) (t : SlotTable) (q : List ℕ) → Fit F m t q → (root i : ℕ) → shadow_at i t ≡ Directory root → root_slot root t ≡ i
root_slot_is F m t q fit root i e = go (find_slot (thing.Directory root) t) refl
  where
    yes_i : is_directory_of root (shadow_at i t) ≡ true
    yes_i = ap (is_directory_of root) e ∙ directory_here root

    go : (s : Option ℕ) → find_slot (thing.Directory root) t ≡ s → unwrap_or s 0 ≡ i
    go (Some k) z = fit.sound.framed.unique k i (thing.Directory root) (find_some (thing.Directory root) t k fit.roomy z).0 yes_i
    go None z = cc (yes_i, find_none (thing.Directory root) t z i)

-- like accesses hit alike
hit_same : (F : Format) (a b : Asked) (c : Option Copied) → a.kind ≡ b.kind → a.privilege ≡ b.privilege → hit_by F b c ≡ hit_by F a c
hit_same F a b None k v = refl
hit_same F a b (Some c) k v = rw (k, v)

pub hit_alike : (F : Format) (a b : Asked) (i : ℕ) (t : SlotTable) → a.kind ≡ b.kind → page_of a.address ≡ page_of b.address → a.privilege ≡ b.privilege
    → hit_by F b (copied_at i (directory_index b.address) (table_index b.address) t) ≡ hit_by F a (copied_at i (directory_index a.address) (table_index a.address) t)
hit_alike F a b i t k g v =
    let e = same_page a.address b.address g in
    hit_same F a b (copied_at i (directory_index b.address) (table_index b.address) t) k v
    ∙ ap (λ (x : ℕ). hit_by F a (copied_at i x (table_index b.address) t)) (sym e.0)
    ∙ ap (λ (x : ℕ). hit_by F a (copied_at i (directory_index a.address) x t)) (sym e.1)

-- What a walk that arrived at frame f found, at a memory with its marks: the table of frame g, or the split from g on, whose words
-- the access would hit.
pub data Found (F : Format) (a : Asked) (root : ℕ) (n : Memory) (f : ℕ) : Thing → Type 0 where
  table : (g : ℕ) → has_words (n g) ≡ true → Pages F (word_at n g (table_index a.address)) f
      → hits F a.kind a.privilege (word_at n root (directory_index a.address) ∷ word_at n g (table_index a.address) ∷ []) (eqb a.kind store) ≡ true
      → Found F a root n f (thing.Table g)
  split : (g : ℕ) → g + table_index a.address ≡ f
      → hits F a.kind a.privilege (word_at n root (directory_index a.address) ∷ []) (eqb a.kind store) ≡ true
      → Found F a root n f (thing.Split g)

module _ (F : Format) (laws : LawsOfMarking F) (a : Asked) (m : Memory) (root : ℕ) where
  abbrev with_due : List Seen → Memory
  with_due es = put_all m (due F a.kind m es)

  first_up : (f : ℕ) (es : List Seen) → Arrived F a m root f es → Up F (upper a m root) (upper a (with_due es) root)
  first_up f es way = (raises_due way).up root (directory_index a.address) (directory_index_small a.address)

  walked_has : {f : ℕ} {es : List Seen} → Arrived F a m root f es → has_words (m f) ≡ true
  walked_has (large hr l t ok hf) = hf
  walked_has (small hr l t hg p ok hf) = hf

  walked_leads : {f : ℕ} {es : List Seen} → Arrived F a m root f es → Leads F (upper a m root)
  walked_leads (large hr l t ok hf) = l
  walked_leads (small hr l t hg p ok hf) = l

  pub arrived_has : (f : ℕ) (es : List Seen) → Arrived F a m root f es → has_words (with_due es f) ≡ true
  arrived_has f es way = (raises_due way).has f ∙ walked_has way

  pub arrived_leads : (f : ℕ) (es : List Seen) → Arrived F a m root f es → Leads F (upper a (with_due es) root)
  arrived_leads f es way = up_leads F laws (first_up f es way) (walked_leads way)

  pub found : {f : ℕ} (es : List Seen) → Arrived F a m root f es → Found F a root (with_due es) f (named F (upper a (with_due es) root))
  found {f} es (large hr l t ok hf) =
      let way : Arrived F a m root f es = large hr l t ok hf in
      let up = first_up f es way in
      let b = eqb a.kind store in
      subst (Found F a root (with_due es) (below F a m root + table_index a.address))
      (sym (up_named F laws up ∙ named_by (F.reads directory_level (upper a m root)) false t))
      (split (below F a m root) refl
      (large_hits F a.kind a.privilege (upper a (with_due es) root) b (up_allows F laws [] [] up a.kind a.privilege ∙ ok) (settled_large F laws a m root hr) (own_flag a.kind)))
  found {f} es (small hr l t hg p ok hf) =
      let way : Arrived F a m root f es = small hr l t hg p ok hf in
      let up = first_up f es way in
      let g = below F a m root in
      let low = (raises_due way).up g (table_index a.address) (table_index_small a.address) in
      let b = eqb a.kind store in
      let still = settled_small F laws a m root hr g hg in
      subst (Found F a root (with_due es) f)
      (sym (up_named F laws up ∙ named_by (F.reads directory_level (upper a m root)) true t))
      (table g ((raises_due way).has g ∙ hg) (up_pages F laws low p)
      (small_hits F a.kind a.privilege (upper a (with_due es) root) b (lower a (with_due es) g) (up_allows_two F laws up low a.kind a.privilege ∙ ok) still.0 still.1 (own_flag a.kind)))

-- FROM WHAT WAS FOUND

module _ (F : Format) (a : Asked) (root f : ℕ) (n : Memory) where
  pub found_frame : {x : Thing} → Found F a root n f x → HasFrame n x
  found_frame (table g hg p z) = hg
  found_frame (split g e z) = tt

  pub found_new : {x : Thing} (v : View) (s : ℕ) → Found F a root n f x → shadows (v.sh s) x ≡ true → New F n v s (table_index a.address) f (new_place n a f x)
  found_new v s (table g hg p z) e = new_leaf (is_table_at g (v.sh s) e).1 p
  found_new v s (split g q z) e = new_piece (is_split_at g (v.sh s) e) q

  pub found_flag : {x : Thing} → Found F a root n f x → flag_of (new_place n a f x) ≡ eqb a.kind store
  found_flag (table g hg p z) = refl
  found_flag (split g q z) = refl

  -- the directory's slot is another
  pub found_apart : {x : Thing} → Found F a root n f x → (i s : ℕ) (v : View) → v.sh i ≡ Directory root → shadows (v.sh s) x ≡ true → i ≡ s → ⊥
  found_apart (table g hg p z) i s v e q k = cc (e, ap v.sh k, (is_table_at g (v.sh s) q).1)
  found_apart (split g y z) i s v e q k = cc (e, ap v.sh k, is_split_at g (v.sh s) q)

  -- and the access hits once its place is written
  pub found_hits : {x : Thing} → Found F a root n f x → (t u : SlotTable) (i s : ℕ) → Bounded n → has_words (n f) ≡ true
      → shadow_at i t ≡ Directory root → shadows (shadow_at s t) x ≡ true → place_at i (directory_index a.address) t ≡ Link (word_at n root (directory_index a.address)) s
      → Stands t s (table_index a.address) (new_place n a f x) u → hit_by F a (copied_at i (directory_index a.address) (table_index a.address) u) ≡ Some f
  found_hits (table g hg p z) t u i s bounded hf e q l st =
      leaf_hit F a u i (word_at n root (directory_index a.address)) s (word_at n g (table_index a.address)) f (eqb a.kind store)
      (st.others i (directory_index a.address) (λ k. found_apart (table g hg p z) i s (view t) e q k.0) ∙ l) st.here z
  found_hits (split g y z) t u i s bounded hf e q l st =
      subst (λ (k : ℕ). hit_by F a (copied_at i (directory_index a.address) (table_index a.address) u) ≡ Some k) y
      (piece_hit F a u i (word_at n root (directory_index a.address)) s g (eqb a.kind store)
      (st.others i (directory_index a.address) (λ k. found_apart (split g y z) i s (view t) e q k.0) ∙ l)
      (st.splits s g (is_split_at g (shadow_at s t) q)) st.here (lt-ltb (g + table_index a.address) number_limit (fits (g + table_index a.address) (ap (λ (k : ℕ). has_words (n k)) y ∙ hf))) z)
    where
      fits : (k : ℕ) → has_words (n k) ≡ true → k < number_limit
      fits k e = grind (arith, bounded k)

-- THE ACCESS

module _ (F : Format) (laws : LawsOfMarking F) (R : Rule) (kept_order : OrdersKept R) (o : Opening) (h : History) (r : Running) (good : Good F o h r) (a : Asked) (w f : ℕ) (es : List Seen)
    (walked : walk_from F a (memory_at o h) r.hart.root ≡ reached f es) where
  abbrev m : Memory
  m = memory_at o h

  abbrev root : ℕ
  root = r.hart.root

  abbrev I : ℕ
  I = root_slot root r.table

  abbrev D : ℕ
  D = directory_index a.address

  abbrev J : ℕ
  J = table_index a.address

  abbrev W : ℕ
  W = word_index a.address

  abbrev marks : List Write
  marks = due F a.kind m es

  -- memory with the marks
  abbrev n : Memory
  n = put_all m marks

  abbrev d : ℕ
  d = word_at n root D

  way : Arrived F a m root f es
  way = arrived F a m root walked

  raise : Raises F m n
  raise = raises_due way

  begun : Fit F n r.table r.order
  begun = refit good.fit n r.table good.fit.roomy refl (sound_raise F m (view r.table) good.fit.sound n raise)

  here : Found F a root n f (named F d)
  here = found F laws a m root es way

  target_has : has_words (n f) ≡ true
  target_has = arrived_has F laws a m root f es way

  -- the slot below the link
  abbrev K : Taken
  K = linked R n root D d (named F d) r.table r.order

  up : LinkedUp F R kept_order n root r.table r.order begun D d K
  up = linked_up F R kept_order n root r.table r.order begun good.rooted D d (directory_index_small a.address) (arrived_leads F laws a m root f es way) refl (found_frame F a root f n here)

  -- its place
  abbrev p : Place
  p = new_place n a f (named F d)

  new : New F n (view K.table) K.slot J f p
  new = found_new F a root f n (view K.table) K.slot here up.is

  abbrev wrote : Bool → List Write
  wrote b = cond b (record { frame = f; index = W; word = w } ∷ []) []

  abbrev ends : Bool → Traced
  ends b = cond b (store_traced K.slot J f W (put_place K.slot J p K.table)) (record { table = put_place K.slot J p K.table; exit = hidden })

  abbrev Ends : Bool → Type 0
  Ends b =
      Kept F n root K.table K.order K.slot J p (put_all n (wrote b)) (ends b).table (ends b).exit
      × ((b ≡ true → is_directory f (put_place K.slot J p K.table) ≡ false) → Stands K.table K.slot J p (ends b).table)

  ended : Ends (eqb a.kind store)
  ended = elim_eq (eqb a.kind store) Ends stores loads
    where
      stores : eqb a.kind store ≡ true → Ends true
      stores e =
          let k = kept_store F n root K.table K.order up.fit K.slot J f up.small (table_index_small a.address) target_has p new W w (word_index_small a.address) in
          (k.0, λ z. k.1 (z refl))

      loads : eqb a.kind store ≡ false → Ends false
      loads e = (
        kept_load F n root K.table K.order up.fit K.slot J f up.small (table_index_small a.address) target_has p new (found_flag F a root f n here ∙ e),
        λ z. stands_put F n root K.table K.order up.fit K.slot J f up.small (table_index_small a.address) target_has p new,
      )

  -- what is answered, the slots, and the run
  abbrev pub z : Traced
  z = traced a K.slot f (put_place K.slot J p K.table)

  abbrev pub x : Through
  x = record { target = f; marks = marks; value = value_of a w n f; exit = z.exit }

  abbrev next : Running
  next = record { table = z.table; order = tell_path R I K.slot K.order; hart = count_in z.exit K.evicted r.hart }

  kept : Kept F n root K.table K.order K.slot J p (put_all n (store_of a w x)) z.table z.exit
  kept = ended.0

  bounded_now : Bounded n
  bounded_now k l = raise.has k ∙ has_at o h k ∙ good.bounded k l

  dir_now : shadow_at I z.table ≡ Directory root
  dir_now = (kept.shadow I root).1 up.dir

  slot_now : root_slot root z.table ≡ I
  slot_now = root_slot_is F (put_all n (store_of a w x)) z.table K.order kept.fit root I dir_now

  dirs_were : (i g : ℕ) → shadow_at i z.table ≡ Directory g → shadow_at i r.table ≡ Directory g
  dirs_were i g e = up.dirs i g ((kept.shadow i g).0 e)

  -- a store to a frame that was never a root is to no directory's frame
  no_directory : NeverRoot o f h → is_directory f (put_place K.slot J p K.table) ≡ false
  no_directory never = false_from_ne_true (is_directory f (put_place K.slot J p K.table)) (λ e.
      let k = slot_some (is_directory_of f) (put_place K.slot J p K.table) e in
      let at = is_directory_at f (shadow_at k.0 (put_place K.slot J p K.table)) k.1 in
      good.were k.0 f (up.dirs k.0 f (sym (put_shadow F n root K.table K.order up.fit K.slot J f up.small (table_index_small a.address) target_has p new k.0) ∙ at)) never)

  hit_now : (a.kind ≡ store → NeverRoot o f h) → hit_by F a (copied_at I D J z.table) ≡ Some f
  hit_now free =
      found_hits F a root f n here K.table z.table I K.slot bounded_now target_has up.dir up.is up.link
      (ended.1 (λ e. no_directory (free (eqb-true a.kind store e))))

  ready_now : (b : Asked) → Recent o b.kind (page_of b.address) b.privilege (went a w x ∷ h) → is_some (hit_target F b root z.table) ≡ true
  unfolding hit_target
  ready_now b (just k g v free) =
      subst (λ (i : ℕ). is_some (hit_by F b (copied_at i (directory_index b.address) (table_index b.address) z.table)) ≡ true) (sym slot_now)
      (ap is_some (hit_alike F a b I z.table k g v ∙ hit_now (λ e. free (sym k ∙ e))))
  ready_now b (laws_of.since e s) = absurd (kept.exits e)

  past_now : Past F o (went a w x ∷ h) root (view z.table)
  past_now i b u s g y c q e l lag leaf =
      ⊎_elim
      (λ t.
      let k = up.olds i (directory_index b) u s g (table_index b) y c t in
      earlier refl (good.past i b u s g y c k.leaf.flag k.dir k.link k.lag k.leaf.is))
      (λ t. before_store o (Then F root b u g y) (page_of b) a w x h t)
      (kept.seen i (directory_index b) u s g (table_index b) y c (record { dir = e; link = l; lag = lag; leaf = record { flag = q; is = leaf } }))

  pub miss_good : Good F o (went a w x ∷ h) next
  miss_good = record {
    root = good.root;
    mode = good.mode;
    fit = told_fit F R kept_order _ z.table (R.told K.order I) K.slot (told_fit F R kept_order _ z.table K.order I kept.fit);
    rooted = ap (λ (i : ℕ). shadow_at i z.table) slot_now ∙ dir_now;
    were = λ i g e never. good.were i g (dirs_were i g e) never.1;
    raised = (raise, small_due way, good.raised);
    tallied = tallied_more (went a w x) K.evicted h r.hart.tallies refl good.tallied;
    bounded = good.bounded;
    past = past_now;
    ready = ready_now;
  }

  pub miss_lawful : hit_target F a root r.table ≡ None → a.privilege ≡ mode_at o h → LawfulThrough F o h a x
  miss_lawful none privilege = record {
    privileged = privilege;
    window = present o _ (page_of a.address) h by_root;
    value = λ other.
        rw (ne_eqb a.kind store other)
        (last_put_is m f W marks (sym (raise.has f) ∙ target_has) (word_index_small a.address) (small_due way)
        ∙ ap (last_put f W marks) (last_is F o f W h (sym (has_at o h f) ∙ sym (raise.has f) ∙ target_has) (word_index_small a.address) good.raised));
    marked = λ u. by_root;
    present = λ u. by_root;
    exit = λ recent. cc (good.ready a recent);
  }
    where
      by_root : guest_walk F a (root_at o h) m ≡ to f marks
      by_root = subst (λ (k : ℕ). guest_walk F a k m ≡ to f marks) good.root (guest_walked F a root m walked)
