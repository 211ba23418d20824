-- After an access that walked, with its leaf written and its store traced, the slots are still fit.
use Rattle.std.proofs.Common.{◌≡◌, ℕ, ◌+◌, ◌<◌, Bool, true, false, cond, eqb, ◌⊎◌, List, Some, None, Option, sym, refl, ap, ◌∙◌, subst, inl, inr, ⊎_elim, arith}
use Rattle.memory.specs.Memory.{Memory, has_words, stored}
use Rattle.paging.specs.Formats.{Format}
use Rattle.shadow.specs.Slots.{drop_entry, find_slot, flag_off_at, is_directory, is_protected, place_at, put_place, set_sync, shadow_at}
use Rattle.slot.specs.Slot.{flag_off, is_directory_of, is_table_of, protects, with_sync}
use Rattle.slot.specs.declared.slots.Place.{Place}
use Rattle.slot.specs.declared.slots.Place.TheVariants.{Empty, Link, Leaf, Piece}
use Rattle.slot.specs.declared.slots.Shadow.TheVariants.{Directory, Table, Split}
use Rattle.shadow.specs.declared.slots.SlotTable.{SlotTable}
use Rattle.slot.specs.declared.slots.SyncState.{SyncState}
use Rattle.slot.specs.declared.slots.SyncState.TheVariants.{Protected, Unsynchronised}
use Rattle.slot.specs.declared.slots.Thing.TheVariants as thing
use Rattle.runs.specs.Laws.{word_at}
use Rattle.runs.specs.Terms.{hidden, no_exit, trace}
use Rattle.runs.specs.Unit.{Traced, store_traced, unsync_found}
use Rattle.runs.proofs.Basics.{by_eq}
use Rattle.runs.proofs.Fewer.{fewer_drop}
use Rattle.runs.proofs.Good.{Fit, refit}
use Rattle.runs.proofs.Linking.{Olds, Trip, olds_fewer, put_either, put_here, put_other, put_sh}
use Rattle.runs.proofs.Places.{find_none, find_some, roomy_drop, roomy_flag_off, roomy_put, roomy_sync, slot_none, slot_some, view_drop, view_flag_off, view_put, view_sync}
use Rattle.runs.proofs.Shadows.{Alike, alike_directory, alike_split, alike_sym, alike_table, protected_table, sync_alike, table_here, unguarded}
use Rattle.runs.proofs.Sound.{Pages, Sound, Up, guards, same}
use Rattle.runs.proofs.Sounds.{flag_off_put, leaf_now, link_now, sound_directory_store, sound_leaf, sound_piece, sound_store, sound_unsync, sync_put, unguarded_by_sync}
use Rattle.runs.proofs.Views.{SameDirectories, View, v_drop, v_flag_off, v_put, v_sync, view}

-- What is written at place j of slot s: a leaf with the present word of its table, or a piece, that aims at frame f.
pub data New (F : Format) (m : Memory) (v : View) (s j f : ℕ) : Place → Type 0 where
  new_leaf : {g : ℕ} {y : SyncState} {b : Bool} → v.sh s ≡ Table g y → Pages F (word_at m g j) f → New F m v s j f (Leaf (word_at m g j) f b)
  new_piece : {g : ℕ} {b : Bool} → v.sh s ≡ Split g → g + j ≡ f → New F m v s j f (Piece b)

-- is its flag on?
abbrev pub flag_of : Place → Bool
flag_of Empty = false
flag_of (Link w s) = false
flag_of (Leaf w a b) = b
flag_of (Piece b) = b

pub new_off : {F : Format} {m : Memory} {v : View} {s j f : ℕ} {p : Place} → New F m v s j f p → New F m v s j f (flag_off p)
new_off (new_leaf e p) = new_leaf e p
new_off (new_piece e p) = new_piece e p

pub flag_off_off : {F : Format} {m : Memory} {v : View} {s j f : ℕ} {p : Place} → New F m v s j f p → flag_of (flag_off p) ≡ false
flag_off_off (new_leaf e p) = refl
flag_off_off (new_piece e p) = refl

module _ (F : Format) (m : Memory) (v : View) (sound : Sound F m v) (s j f : ℕ) (inside : j < 1024) (has : has_words (m f) ≡ true) where
  pub sound_new : (p : Place) → New F m v s j f p → (flag_of p ≡ true → (k : ℕ) → guards f (v.sh k) ≡ false) → Sound F m (v_put s j p v)
  sound_new p (new_leaf {g} {y} {b} e q) free = sound_leaf F m v sound s g y j (word_at m g j) f b e inside q has (λ z. same) free
  sound_new p (new_piece {g} {b} e q) free =
      sound_piece F m v sound s g j b e inside (subst (λ (n : ℕ). has_words (m n) ≡ true) (sym q) has)
      (λ z k. subst (λ (n : ℕ). guards n (v.sh k) ≡ false) (sym q) (free z k))

-- A triple after the leaf is written was one before, or its words are the guest's at memory m, but for marks.
abbrev pub SeenOr : Format → Memory → ℕ → View → View → Type 0
SeenOr F m root v n = (i d w s f j x c : ℕ) → Trip n root i d w s f j x c → Trip v root i d w s f j x c ⊎ (Up F w (word_at m root d) × Up F x (word_at m f j))

module _ (F : Format) (m : Memory) (root : ℕ) (v : View) (sound : Sound F m v) (s j f : ℕ) where
  new_no_link : {p : Place} {w k : ℕ} → New F m v s j f p → p ≡ Link w k → ⊥
  new_no_link (new_leaf e q) z = cc
  new_no_link (new_piece e q) z = cc

  -- the new leaf is the present word of the table
  new_up : {p : Place} → New F m v s j f p → (g x c : ℕ) (y : SyncState) (b : Bool) → v.sh s ≡ Table g y → p ≡ Leaf x c b → Up F x (word_at m g j)
  new_up (new_leaf {g = h} e q) g x c y b at is =
      let u : word_at m h j ≡ x = cc in
      let same_frame : h ≡ g = cc (e, at) in
      subst (λ (n : ℕ). Up F n (word_at m g j)) u (subst (λ (n : ℕ). Up F (word_at m n j) (word_at m g j)) (sym same_frame) same)
  new_up (new_piece e q) g x c y b at is = cc

  pub put_seen : (p : Place) → New F m v s j f p → SeenOr F m root v (v_put s j p v)
  unfolding v_put
  put_seen p new i d w k g l x c t =
      ⊎_elim
      (λ a. inr (link_now F m v sound i d root w k t.dir old_link, up a))
      (λ a. inl (record { dir = t.dir; link = old_link; lag = t.lag; leaf = record { flag = t.leaf.flag; is = a } }))
      (put_either v s j p k l (Leaf x c t.leaf.flag) t.leaf.is)
    where
      old_link : v.pl i d ≡ Link w k
      old_link = ⊎_elim (λ a. absurd (new_no_link new a.2)) (λ a. a) (put_either v s j p i d (Link w k) t.link)

      up : (k ≡ s) × (l ≡ j) × (p ≡ Leaf x c t.leaf.flag) → Up F x (word_at m g l)
      up a =
          subst (λ (n : ℕ). Up F x (word_at m g n)) (sym a.1)
          (new_up new g x c Unsynchronised t.leaf.flag (sym (ap v.sh a.0) ∙ t.lag) a.2)

-- a table that becomes unsynchronised was true to its frame
module _ (F : Format) (m : Memory) (root : ℕ) (v : View) (sound : Sound F m v) (q g : ℕ) (at : v.sh q ≡ Table g Protected) where
  pub sync_seen : SeenOr F m root v (v_sync q Unsynchronised v)
  unfolding v_sync
  sync_seen i d w k f l x c t = by_eq k q (λ b. cond b (with_sync Unsynchronised (v.sh k)) (v.sh k) ≡ Table f Unsynchronised → Trip v root i d w k f l x c ⊎ (Up F w (word_at m root d) × Up F x (word_at m f l)))
      (λ e z.
      let here : v.sh k ≡ Table g Protected = ap v.sh e ∙ at in
      let fg : g ≡ f = cc (sym (ap (with_sync Unsynchronised) here) ∙ z) in
      inr (link_now F m v sound i d root w k dir t.link, subst (λ (n : ℕ). Up F x (word_at m n l)) fg (leaf_now F m v sound k l g x c t.leaf.flag here t.leaf.is)))
      (λ e z. inl (record { dir = dir; link = t.link; lag = z; leaf = record { flag = t.leaf.flag; is = t.leaf.is } })) t.lag
    where
      dir : v.sh i ≡ Directory root
      dir = alike_directory (alike_sym (sync_alike (eqb i q) Unsynchronised (v.sh i))) root t.dir

-- and one after the other
pub seen_trans : (F : Format) (m : Memory) (root : ℕ) (u v n : View) → SeenOr F m root u v → SeenOr F m root v n → SeenOr F m root u n
seen_trans F m root u v n p q i d w s f j x c t = ⊎_elim (λ z. p i d w s f j x c z) inr (q i d w s f j x c t)

pub seen_olds : (F : Format) (m : Memory) (root : ℕ) (u v : View) → Olds root u v → SeenOr F m root u v
seen_olds F m root u v p i d w s f j x c t = inl (p i d w s f j x c t)

-- THE STORE

-- What an access that walked leaves: slots n over memory k, and the exit. The slots before the leaf were t.
pub record Kept (F : Format) (m : Memory) (root : ℕ) (t : SlotTable) (q : List ℕ) (s j : ℕ) (p : Place) (k : Memory) (n : SlotTable) (x : ℕ) : Type 0 where
  pub fit : Fit F k n q
  pub shadow : SameDirectories t n
  pub seen : SeenOr F m root (view t) (view n)
  pub exits : x ≡ no_exit → ⊥

-- the place written still stands, and what was there beside it
pub record Stands (t : SlotTable) (s j : ℕ) (p : Place) (n : SlotTable) : Type 0 where
  pub here : place_at s j n ≡ p
  pub others : (k l : ℕ) → ((k ≡ s) × (l ≡ j) → ⊥) → place_at k l n ≡ place_at k l t
  pub splits : (k f : ℕ) → shadow_at k t ≡ Split f → shadow_at k n ≡ Split f

module _ (F : Format) (m : Memory) (root : ℕ) (t : SlotTable) (q : List ℕ) (ok : Fit F m t q) (s j f : ℕ) (slot : s < 8) (inside : j < 1024) (has : has_words (m f) ≡ true) (p : Place) (new : New F m (view t) s j f p) where
  put : view (put_place s j p t) ≡ v_put s j p (view t)
  put = view_put s j p t ok.roomy slot inside

  pub put_shadow : (i : ℕ) → shadow_at i (put_place s j p t) ≡ shadow_at i t
  put_shadow i = ap (λ v. v.sh i) put ∙ put_sh (view t) s j p i

  stands_by : (n : SlotTable) (u : View) → view n ≡ v_put s j p u → ((k l : ℕ) → u.pl k l ≡ place_at k l t) → ((k g : ℕ) → shadow_at k t ≡ Split g → u.sh k ≡ Split g) → Stands t s j p n
  stands_by n u is places splits = record {
    here = ap (λ v. v.pl s j) is ∙ put_here u s j p;
    others = λ k l z. ap (λ v. v.pl k l) is ∙ put_other u s j p k l z ∙ places k l;
    splits = λ k g z. ap (λ v. v.sh k) is ∙ put_sh u s j p k ∙ splits k g z;
  }

  pub stands_put : Stands t s j p (put_place s j p t)
  stands_put = stands_by (put_place s j p t) (view t) put (λ k l. refl) (λ k g z. z)

  -- no store, or one to a frame that nothing guards
  pub kept_plain : (k : Memory) → Sound F k (v_put s j p (view t)) → Kept F m root t q s j p k (put_place s j p t) hidden
  kept_plain k snd = record {
    fit = refit ok k (put_place s j p t) (roomy_put s j p t ok.roomy) refl (subst (Sound F k) (sym put) snd);
    shadow = λ i g. (λ z. sym (put_shadow i) ∙ z, λ z. put_shadow i ∙ z);
    seen = subst (SeenOr F m root (view t)) (sym put) (put_seen F m root (view t) ok.sound s j f p new);
    exits = λ z. omega arith;
  }

  pub kept_load : flag_of p ≡ false → Kept F m root t q s j p m (put_place s j p t) hidden
  kept_load e = kept_plain m (sound_new F m (view t) ok.sound s j f inside has p new (λ z. cc))

  module _ (i w : ℕ) (small : i < 1024) where
    -- a directory's frame
    abbrev off : View
    off = v_put s j (flag_off p) (view t)

    dropped_all : view (drop_entry f i (flag_off_at s j (put_place s j p t))) ≡ v_drop f i off
    dropped_all =
        view_drop f i (flag_off_at s j (put_place s j p t))
        ∙ ap (v_drop f i) (view_flag_off s j (put_place s j p t) ∙ ap (v_flag_off s j) put ∙ flag_off_put (view t) s j p)

    drop_sh : (k : ℕ) → (v_drop f i off).sh k ≡ shadow_at k t
    unfolding v_drop v_put
    drop_sh k = refl

    kept_directory : Kept F m root t q s j p (stored m f i w) (drop_entry f i (flag_off_at s j (put_place s j p t))) trace
    kept_directory = record {
      fit = refit ok (stored m f i w) (drop_entry f i (flag_off_at s j (put_place s j p t)))
          (roomy_drop f i (flag_off_at s j (put_place s j p t)) (roomy_flag_off s j (put_place s j p t) (roomy_put s j p t ok.roomy))) refl
          (subst (Sound F (stored m f i w)) (sym dropped_all) (sound_directory_store F m off snd f i w small));
      shadow = λ k g. (λ z. sym (sh k) ∙ z, λ z. sh k ∙ z);
      seen = subst (SeenOr F m root (view t)) (sym dropped_all)
          (seen_trans F m root (view t) off (v_drop f i off) (put_seen F m root (view t) ok.sound s j f (flag_off p) (new_off new))
          (seen_olds F m root off (v_drop f i off) (olds_fewer root (fewer_drop f off i))));
      exits = λ z. absurd (omega arith);
    }
      where
        snd : Sound F m off
        snd = sound_new F m (view t) ok.sound s j f inside has (flag_off p) (new_off new) (λ z. cc (flag_off_off new))

        sh : (k : ℕ) → shadow_at k (drop_entry f i (flag_off_at s j (put_place s j p t))) ≡ shadow_at k t
        sh k = ap (λ v. v.sh k) dropped_all ∙ drop_sh k

    -- a protected table's frame, which is no directory's
    module _ (none : (n : ℕ) → is_directory_of f (shadow_at n t) ≡ false) where
      module _ (k : ℕ) (at : shadow_at k t ≡ Table f Protected) where
        abbrev loose : View
        loose = v_sync k Unsynchronised (view t)

        loosened : view (set_sync k Unsynchronised (put_place s j p t)) ≡ v_put s j p loose
        loosened = view_sync k Unsynchronised (put_place s j p t) ∙ ap (v_sync k Unsynchronised) put ∙ sync_put (view t) k Unsynchronised s j p

        loose_alike : (n : ℕ) → Alike (loose.sh n) (shadow_at n t)
        unfolding v_sync
        loose_alike n = sync_alike (eqb n k) Unsynchronised (shadow_at n t)

        new_loose : {x : Place} → New F m (view t) s j f x → New F m loose s j f x
        new_loose (new_leaf {g} {y} e z) = new_leaf (alike_table (loose_alike s) g y e).1 z
        new_loose (new_piece {g} e z) = new_piece (alike_split (loose_alike s) g e) z

        sh : (n : ℕ) → shadow_at n (set_sync k Unsynchronised (put_place s j p t)) ≡ loose.sh n
        sh n = ap (λ v. v.sh n) loosened ∙ put_sh loose s j p n

        kept_table : Kept F m root t q s j p (stored m f i w) (set_sync k Unsynchronised (put_place s j p t)) trace
        kept_table = record {
          fit = refit ok (stored m f i w) (set_sync k Unsynchronised (put_place s j p t)) (roomy_sync k Unsynchronised (put_place s j p t) (roomy_put s j p t ok.roomy)) refl
              (subst (Sound F (stored m f i w)) (sym loosened) (sound_store F m (v_put s j p loose) snd f i w small (λ n. ap (guards f) (put_sh loose s j p n) ∙ free n)));
          shadow = λ n g. (λ z. alike_directory (alike_sym (loose_alike n)) g (sym (sh n) ∙ z), λ z. sh n ∙ alike_directory (loose_alike n) g z);
          seen = subst (SeenOr F m root (view t)) (sym loosened)
              (seen_trans F m root (view t) loose (v_put s j p loose) (sync_seen F m root (view t) ok.sound k f at) (put_seen F m root loose base s j f p (new_loose new)));
          exits = λ z. absurd (omega arith);
        }
          where
            base : Sound F m loose
            base = sound_unsync F m (view t) ok.sound k f Protected at none

            free : (n : ℕ) → guards f (loose.sh n) ≡ false
            free = unguarded_by_sync F m (view t) ok.sound k f Protected at none

            snd : Sound F m (v_put s j p loose)
            snd = sound_new F m loose base s j f inside has p (new_loose new) (λ z. free)

        loose_places : (n l : ℕ) → loose.pl n l ≡ place_at n l t
        unfolding v_sync
        loose_places n l = refl

        stands_table : Stands t s j p (set_sync k Unsynchronised (put_place s j p t))
        stands_table = stands_by (set_sync k Unsynchronised (put_place s j p t)) loose loosened loose_places (λ n g z. alike_split (loose_alike n) g z)

      -- the one protected table of the frame is found
      found_table : is_protected f (put_place s j p t) ≡ true → (x : Option ℕ) → find_slot (thing.Table f) (put_place s j p t) ≡ x
          → Kept F m root t q s j p (stored m f i w) (unsync_found (put_place s j p t) x) trace × Stands t s j p (unsync_found (put_place s j p t) x)
      found_table e None z =
          let k = slot_some (protects f) (put_place s j p t) e in
          let at = protected_table f (shadow_at k.0 (put_place s j p t)) k.1 in
          absurd (cc (ap (is_table_of f) at ∙ table_here f Protected, find_none (thing.Table f) (put_place s j p t) z k.0))
      found_table e (Some n) z =
          let k = slot_some (protects f) (put_place s j p t) e in
          let at = sym (put_shadow k.0) ∙ protected_table f (shadow_at k.0 (put_place s j p t)) k.1 in
          let yes_n : is_table_of f (shadow_at n t) ≡ true = ap (is_table_of f) (sym (put_shadow n)) ∙ (find_some (thing.Table f) (put_place s j p t) n (roomy_put s j p t ok.roomy) z).0 in
          let same_slot : k.0 ≡ n = ok.sound.framed.unique k.0 n (thing.Table f) (ap (is_table_of f) at ∙ table_here f Protected) yes_n in
          let there : shadow_at n t ≡ Table f Protected = ap (λ (x : ℕ). shadow_at x t) (sym same_slot) ∙ at in
          (kept_table n there, stands_table n there)

      -- any other frame
      kept_other : ((n : ℕ) → protects f (shadow_at n t) ≡ false) → Kept F m root t q s j p (stored m f i w) (put_place s j p t) hidden
      kept_other unprotected =
          let free : (n : ℕ) → guards f (shadow_at n t) ≡ false = λ n. unguarded f (shadow_at n t) (none n) (unprotected n) in
          kept_plain (stored m f i w)
          (sound_store F m (v_put s j p (view t)) (sound_new F m (view t) ok.sound s j f inside has p new (λ z. free)) f i w small (λ n. ap (guards f) (put_sh (view t) s j p n) ∙ free n))

    abbrev by_tests : Bool → Bool → Traced
    by_tests b c =
        cond b (record { table = drop_entry f i (flag_off_at s j (put_place s j p t)); exit = trace })
        (cond c (record { table = unsync_found (put_place s j p t) (find_slot (thing.Table f) (put_place s j p t)); exit = trace })
        (record { table = put_place s j p t; exit = hidden }))

    abbrev pub StoreKept : Bool → Traced → Type 0
    StoreKept b z = Kept F m root t q s j p (stored m f i w) z.table z.exit × (b ≡ false → Stands t s j p z.table)

    pub kept_store : StoreKept (is_directory f (put_place s j p t)) (store_traced s j f i (put_place s j p t))
    unfolding store_traced
    kept_store = go (is_directory f (put_place s j p t)) (is_protected f (put_place s j p t)) refl refl
      where
        none : is_directory f (put_place s j p t) ≡ false → (n : ℕ) → is_directory_of f (shadow_at n t) ≡ false
        none e n = ap (is_directory_of f) (sym (put_shadow n)) ∙ slot_none (is_directory_of f) (put_place s j p t) refl e n

        go : (b c : Bool) → is_directory f (put_place s j p t) ≡ b → is_protected f (put_place s j p t) ≡ c → StoreKept b (by_tests b c)
        go true c e z = (kept_directory, λ u. cc)
        go false true e z =
            let k = found_table (none e) z (find_slot (thing.Table f) (put_place s j p t)) refl in
            (k.0, λ u. k.1)
        go false false e z =
            (kept_other (none e) (λ n. ap (protects f) (sym (put_shadow n)) ∙ slot_none (protects f) (put_place s j p t) refl z n), λ u. stands_put)
