-- Each operation on a view keeps it sound.
use Rattle.std.proofs.lemmas.Bool.Decides.{nat_tests}
use Rattle.std.proofs.Common.{◌≡◌, ℕ, ◌+◌, ◌<◌, ◌≤◌, Bool, true, false, cond, ◌&&◌, eqb, ◌⊎◌, sym, refl, ap, ◌∙◌, subst, inl, inr, arith}
use mathlib.Core.Path.{fun_ext}
use Rattle.std.proofs.lemmas.Bool.{and_parts, cases_eq, eq-eqb, eqb-true, ne_eqb}
use Rattle.memory.specs.Memory.{Memory, has_words, stored}
use Rattle.paging.specs.Formats.{Format}
use Rattle.slot.specs.Slot.{check_place, copies, flag_off, is_directory_of, is_split_of, is_table_of, shadow_of, shadows, unlink_place, with_sync}
use Rattle.slot.specs.declared.slots.Place.{Place}
use Rattle.slot.specs.declared.slots.Place.TheVariants.{Empty, Link, Leaf, Piece}
use Rattle.slot.specs.declared.slots.Shadow.{Shadow}
use Rattle.slot.specs.declared.slots.Shadow.TheVariants.{Nothing, Directory, Table, Split}
use Rattle.slot.specs.declared.slots.SyncState.{SyncState}
use Rattle.slot.specs.declared.slots.SyncState.TheVariants.{Protected, Unsynchronised}
use Rattle.slot.specs.declared.slots.Thing.{Thing}
use Rattle.slot.specs.declared.slots.Thing.TheVariants as thing
use Rattle.runs.specs.Laws.{word_at}
use Rattle.runs.proofs.Basics.{by_eq, by_eq₂}
use Rattle.runs.proofs.Losses.{Less, checked_less, guard_at_less, kept, less_cond, less_empty, less_leaf, less_link, less_opens, less_piece, unlink_less}
use Rattle.runs.proofs.Memories.{has_stored, up_trans, word_stored_other}
use Rattle.runs.proofs.Shadows.{Alike, alike_directory, alike_shadows, alike_split, alike_sym, alike_table, as_is, emptied_shadows, new_only, new_protected, nothing_shadows, state, sync_alike}
use Rattle.runs.proofs.Sound.{Backed, Framed, Leads, Leafed, Linked, Pages, Pieced, Raises, Sound, Up, guards, named, opens, same}
use Rattle.runs.proofs.Views.{View, unlink_at, v_check, v_checked, v_drop, v_evict, v_fill, v_flag_off, v_guard, v_put, v_sync}

-- WORDS OF THE GUEST

module _ (F : Format) (m : Memory) (v : View) (sound : Sound F m v) (i j : ℕ) where
  -- a link is the guest's word, but for marks
  pub link_now : (f w s : ℕ) → v.sh i ≡ Directory f → v.pl i j ≡ Link w s → Up F w (word_at m f j)
  link_now f w s at p =
      let l = sound.framed.links i j w s p in
      let same_root : l.root ≡ f = cc (l.is, at) in
      subst (λ (n : ℕ). Up F w (word_at m n j)) same_root l.up

  -- .. and so is a leaf of a protected table
  pub leaf_now : (f w a : ℕ) (b : Bool) → v.sh i ≡ Table f Protected → v.pl i j ≡ Leaf w a b → Up F w (word_at m f j)
  leaf_now f w a b at p =
      let l = sound.framed.leaves i j w a b p in
      let st : l.state ≡ Protected = cc (l.is, at) in
      let same_frame : l.frame ≡ f = cc (l.is, at) in
      subst (λ (n : ℕ). Up F w (word_at m n j)) same_frame (l.up st)

-- SHADOWS ALIKE

alike_opens : {x y : Shadow} → Alike x y → (j g : ℕ) (p : Place) → opens j x g p ≡ true → opens j y g p ≡ true
alike_opens as_is j g p e = e
alike_opens state j g Empty e = e
alike_opens state j g p e = e

module _ (m n : Memory) (has : (f : ℕ) → has_words (n f) ≡ has_words (m f)) where
  backed_has : (x : Shadow) → Backed m x → Backed n x
  backed_has (Directory f) h = has f ∙ h
  backed_has (Table f y) h = has f ∙ h
  backed_has x h = h

  alike_backed : {x y : Shadow} → Alike x y → Backed m y → Backed n x
  alike_backed (as_is {x}) h = backed_has x h
  alike_backed (state {f}) h = has f ∙ h

-- SOUND BUT FOR THE FLAGS

sound_by : {F : Format} {m : Memory} {v : View} → Framed F m v → ((i j g k : ℕ) → opens j (v.sh i) g (v.pl i j) ≡ true → guards g (v.sh k) ≡ false) → Sound F m v
sound_by framed shut = record { framed = framed; shut = shut }

-- the same things in the same slots, and no more in the places
framed_alike : (F : Format) (m n : Memory) (v u : View) → Framed F m v
    → ((f : ℕ) → has_words (n f) ≡ has_words (m f))
    → ((k : ℕ) → Alike (u.sh k) (v.sh k))
    → ((i j : ℕ) → Less (u.pl i j) (v.pl i j))
    → ((i j r w s : ℕ) → u.pl i j ≡ Link w s → v.sh i ≡ Directory r → Up F w (word_at m r j) → Up F w (word_at n r j))
    → ((i j f w a : ℕ) (b : Bool) → u.pl i j ≡ Leaf w a b → u.sh i ≡ Table f Protected → (v.sh i ≡ Table f Protected → Up F w (word_at m f j)) → Up F w (word_at n f j))
    → ((i k f : ℕ) → u.sh i ≡ Table f Unsynchronised → u.sh k ≡ Directory f → ⊥)
    → Framed F n u
framed_alike F m n v u fr has alike less LinkUp leaf_up apart = record {
  unique = λ i k x p q. fr.unique i k x (sym (alike_shadows (alike i) x) ∙ p) (sym (alike_shadows (alike k) x) ∙ q);
  backed = λ i. alike_backed m n has (alike i) (fr.backed i);
  within = λ i j h. less_empty (less i j) (fr.within i j h);
  links = λ i d w s e.
      let x = fr.links i d w s (less_link (less i d) w s e) in
      record { root = x.root; is = alike_directory (alike i) x.root x.is; leads = x.leads; names = alike_shadows (alike s) (named F w) ∙ x.names; up = LinkUp i d x.root w s e x.is x.up };
  leaves = λ i j w a b e.
      let l = less_leaf (less i j) w a b e in
      let x = fr.leaves i j w a l.0 l.1 in
      let t = alike_table (alike i) x.frame x.state x.is in
      record { frame = x.frame; state = t.0; is = t.1; pages = x.pages; target = has a ∙ x.target; up = λ p. leaf_up i j x.frame w a b e (t.1 ∙ ap (Table x.frame) p) (λ q. x.up (cc)) };
  pieces = λ i j b e.
      let l = less_piece (less i j) b e in
      let x = fr.pieces i j l.0 l.1 in
      record { first = x.first; is = alike_split (alike i) x.first x.is; target = has (x.first + j) ∙ x.target };
  apart = apart;
}

-- GUARDING

pub guard_less : (v : View) (f i j g : ℕ) → opens j ((v_guard f v).sh i) g ((v_guard f v).pl i j) ≡ true → opens j (v.sh i) g (v.pl i j) ≡ true
unfolding v_guard
guard_less v f i j g e = less_opens (guard_at_less f j (v.sh i) (v.pl i j)) j (v.sh i) g e

module _ (F : Format) (m : Memory) (v : View) where
  -- the flags but those at frame f
  abbrev ShutBut : ℕ → Type 0
  ShutBut f = (i j g k : ℕ) → (g ≡ f → ⊥) → opens j (v.sh i) g (v.pl i j) ≡ true → guards g (v.sh k) ≡ false

  shut_framed : Framed F m v → (f i j : ℕ) → opens j ((v_guard f v).sh i) f ((v_guard f v).pl i j) ≡ false
  unfolding v_guard
  shut_framed fr f i j = grind (arith, nat_tests, fr.leaves i j)

  guard_framed : Framed F m v → (f : ℕ) → Framed F m (v_guard f v)
  unfolding v_guard
  guard_framed fr f = framed_alike F m m v _ fr (λ g. refl) (λ k. as_is) (λ i j. guard_at_less f j (v.sh i) (v.pl i j)) (λ i j r w s e d p. p) (λ i j g w a b e d p. p d) fr.apart

  guard_almost : (f : ℕ) → Framed F m v → ShutBut f → Sound F m (v_guard f v)
  unfolding v_guard
  guard_almost f fr shut = sound_by (guard_framed fr f) (λ i j g k e. shuts i j g k e (cases_eq g f))
    where
      shuts : (i j g k : ℕ) → opens j ((v_guard f v).sh i) g ((v_guard f v).pl i j) ≡ true → (g ≡ f) ⊎ (g ≡ f → ⊥) → guards g ((v_guard f v).sh k) ≡ false
      shuts i j g k e (inl q) = cc (shut_framed fr f i j)
      shuts i j g k e (inr q) = shut i j g k q (guard_less v f i j g e)

-- STORES

module _ (F : Format) (m : Memory) (v : View) (sound : Sound F m v) where
  inside : (i j : ℕ) → (v.pl i j ≡ Empty → ⊥) → j < 1024
  inside i j stands = grind (arith, sound.framed.within i j)

  pub sound_raise : (n : Memory) → Raises F m n → Sound F n v
  sound_raise n ra = sound_by (framed_alike F m n v v sound.framed ra.has (λ k. as_is) (λ i j. kept)
      (λ i j r w s e d p. up_trans p (ra.up r j (inside i j (λ z. cc))))
      (λ i j f w a b e d p. up_trans (p d) (ra.up f j (inside i j (λ z. cc))))
      sound.framed.apart) sound.shut

  moved : (g i w r j x : ℕ) → i < 1024 → j < 1024 → ((r ≡ g) × (j ≡ i) → ⊥) → Up F x (word_at m r j) → Up F x (word_at (stored m g i w) r j)
  moved g i w r j x h k other p = subst (λ y. Up F x y) (sym (word_stored_other m g i w r j h k (λ z. other (sym z.0, sym z.1)))) p

  pub sound_store : (g i w : ℕ) → i < 1024 → ((k : ℕ) → guards g (v.sh k) ≡ false) → Sound F (stored m g i w) v
  sound_store g i w h free = sound_by (framed_alike F m _ v v sound.framed (has_stored m g i w) (λ k. as_is) (λ a j. kept)
      (λ a j r x s e d p. moved g i w r j x h (inside a j (λ z. cc)) (λ z. cc (free a, eq-eqb r g z.0)) p)
      (λ a j f x b c e d p. moved g i w f j x h (inside a j (λ z. cc)) (λ z. cc (free a, eq-eqb f g z.0)) (p d))
      sound.framed.apart) sound.shut

  drop_less : (g i k l : ℕ) → Less ((v_drop g i v).pl k l) (v.pl k l)
  unfolding v_drop
  drop_less g i k l = less_cond (copies g (v.sh k) && eqb l i) kept

  -- what was copied of the word is gone
  drop_other : (g i k l r : ℕ) → copies g (v.sh k) ≡ eqb r g → ((v_drop g i v).pl k l ≡ Empty → ⊥) → (r ≡ g) × (l ≡ i) → ⊥
  unfolding v_drop
  drop_other g i k l r c stands z = stands (rw (c, eq-eqb r g z.0, eq-eqb l i z.1))

  pub sound_directory_store : (g i w : ℕ) → i < 1024 → Sound F (stored m g i w) (v_drop g i v)
  unfolding v_drop
  sound_directory_store g i w h = sound_by (framed_alike F m _ v (v_drop g i v) sound.framed (has_stored m g i w) (λ k. as_is) (drop_less g i)
      (λ a j r x s e d p. moved g i w r j x h (inside a j (λ z. cc (less_link (drop_less g i a j) x s e))) (drop_other g i a j r (ap (copies g) d) (λ z. cc)) p)
      (λ a j f x b c e d p. let l = less_leaf (drop_less g i a j) x b c e in moved g i w f j x h (inside a j (λ z. cc (l.1))) (drop_other g i a j f (ap (copies g) d) (λ z. cc)) (p d))
      sound.framed.apart) (λ a j f k e. sound.shut a j f k (less_opens (drop_less g i a j) j (v.sh a) f e))

  -- UNSYNCHRONISED TABLES

  module _ (k g : ℕ) (y : SyncState) (at : v.sh k ≡ Table g y) (none : (n : ℕ) → is_directory_of g (v.sh n) ≡ false) where
    pub unguarded_by_sync : (n : ℕ) → guards g ((v_sync k Unsynchronised v).sh n) ≡ false
    unfolding v_sync
    unguarded_by_sync n = grind (arith, nat_tests, sound.framed.unique n k (thing.Table g), none n)

    pub sound_unsync : Sound F m (v_sync k Unsynchronised v)
    unfolding v_sync
    sound_unsync = sound_by (framed_alike F m m v _ sound.framed (λ f. refl) alike (λ i j. kept) (λ i j r w s e d p. p)
        (λ i j f w a b e d p. p (protected (eqb i k) (v.sh i) f d))
        (λ i n f e d. not_both n f (table_of i f e) (alike_directory (alike_sym (alike n)) f d)))
        (λ i j f n e. fewer (eqb n k) (v.sh n) f (sound.shut i j f n (alike_opens (alike i) j f (v.pl i j) e)))
      where
        alike : (n : ℕ) → Alike (cond (eqb n k) (with_sync Unsynchronised (v.sh n)) (v.sh n)) (v.sh n)
        alike n = sync_alike (eqb n k) Unsynchronised (v.sh n)

        protected : (b : Bool) (x : Shadow) (f : ℕ) → cond b (with_sync Unsynchronised x) x ≡ Table f Protected → x ≡ Table f Protected
        protected b x f e = grind (arith, nat_tests)

        fewer : (b : Bool) (x : Shadow) (f : ℕ) → guards f x ≡ false → guards f (cond b (with_sync Unsynchronised x) x) ≡ false
        fewer b x f e = grind (arith, nat_tests)

        -- an unsynchronised table was one, or is the table of g
        table_of : (i f : ℕ) → cond (eqb i k) (with_sync Unsynchronised (v.sh i)) (v.sh i) ≡ Table f Unsynchronised → (v.sh i ≡ Table f Unsynchronised) ⊎ (f ≡ g)
        table_of i f = grind (arith, nat_tests)

        not_both : (n f : ℕ) → {i : ℕ} → (v.sh i ≡ Table f Unsynchronised) ⊎ (f ≡ g) → v.sh n ≡ Directory f → ⊥
        not_both n f (inl e) d = sound.framed.apart _ n f e d
        not_both n f (inr e) d = cc (none n, eq-eqb f g e)

-- NEW PLACES

module _ (F : Format) (m : Memory) where
  -- what may stand at place j of slot i
  abbrev Fits : View → ℕ → ℕ → Place → Type 0
  Fits v i j Empty = Unit {0}
  Fits v i j (Link w s) = Linked F m v i j w s
  Fits v i j (Leaf w a b) = Leafed F m v i j w a
  Fits v i j (Piece b) = Pieced m v i j

  -- it depends on the shadows alone
  fits_as : (v u : View) → v.sh ≡ u.sh → (i j : ℕ) (p : Place) → Fits v i j p → Fits u i j p
  fits_as v u e i j Empty x = x
  fits_as v u e i j (Link w s) x = record { root = x.root; is = rw (← e) x.is; leads = x.leads; names = rw (← e) x.names; up = x.up }
  fits_as v u e i j (Leaf w a b) x = record { frame = x.frame; state = x.state; is = rw (← e) x.is; pages = x.pages; target = x.target; up = x.up }
  fits_as v u e i j (Piece b) x = record { first = x.first; is = rw (← e) x.is; target = x.target }

  module _ (v : View) (sound : Sound F m v) where
    fits_at : (i j : ℕ) → (p : Place) → v.pl i j ≡ p → Fits v i j p
    fits_at i j Empty e = tt
    fits_at i j (Link w s) e = sound.framed.links i j w s e
    fits_at i j (Leaf w a b) e = sound.framed.leaves i j w a b e
    fits_at i j (Piece b) e = sound.framed.pieces i j b e

    sound_put : (i j : ℕ) (p : Place) → (1024 ≤ j → p ≡ Empty) → Fits v i j p → ((g k : ℕ) → opens j (v.sh i) g p ≡ true → guards g (v.sh k) ≡ false) → Sound F m (v_put i j p v)
    unfolding v_put
    sound_put i j p inside fits free = record {
      framed = record {
        unique = sound.framed.unique;
        backed = sound.framed.backed;
        within = λ a b h. grind (arith, nat_tests, inside, sound.framed.within a b);
        links = λ a b w s e. subst (Fits _ a b) e (all a b);
        leaves = λ a b w f c e. subst (Fits _ a b) e (all a b);
        pieces = λ a b c e. subst (Fits _ a b) e (all a b);
        apart = sound.framed.apart;
      };
      shut = λ a b g k e. grind (arith, nat_tests, free g k, sound.shut a b g k);
    }
      where
        all : (a b : ℕ) → Fits (v_put i j p v) a b (cond (eqb a i && eqb b j) p (v.pl a b))
        all a b = by_eq₂ a i b j (λ x. Fits (v_put i j p v) a b (cond x p (v.pl a b)))
            (λ q r. fits_as v (v_put i j p v) refl a b p (subst (λ y. Fits v a y p) (sym r) (subst (λ x. Fits v x j p) (sym q) fits)))
            (λ q. fits_as v (v_put i j p v) refl a b (v.pl a b) (fits_at a b (v.pl a b) refl))

    pub sound_link : (i r d w s : ℕ) → v.sh i ≡ Directory r → d < 1024 → Leads F w → shadows (v.sh s) (named F w) ≡ true → Up F w (word_at m r d) → Sound F m (v_put i d (Link w s) v)
    sound_link i r d w s is h leads names up =
        sound_put i d (Link w s) (λ k. absurd (omega arith)) (record { root = r; is = is; leads = leads; names = names; up = up }) (λ g k e. cc)

    pub sound_leaf : (i f : ℕ) (y : SyncState) (j w a : ℕ) (b : Bool) → v.sh i ≡ Table f y → j < 1024 → Pages F w a → has_words (m a) ≡ true
        → (y ≡ Protected → Up F w (word_at m f j)) → (b ≡ true → (k : ℕ) → guards a (v.sh k) ≡ false) → Sound F m (v_put i j (Leaf w a b) v)
    sound_leaf i f y j w a b is h pages has up free =
        sound_put i j (Leaf w a b) (λ k. absurd (omega arith)) (record { frame = f; state = y; is = is; pages = pages; target = has; up = up })
        (λ g k e. let z = and_parts b (eqb a g) e in subst (λ x. guards x (v.sh k) ≡ false) (eqb-true a g z.1) (free z.0 k))

    pub sound_piece : (i f j : ℕ) (b : Bool) → v.sh i ≡ Split f → j < 1024 → has_words (m (f + j)) ≡ true → (b ≡ true → (k : ℕ) → guards (f + j) (v.sh k) ≡ false) → Sound F m (v_put i j (Piece b) v)
    sound_piece i f j b is h has free =
        sound_put i j (Piece b) (λ k. absurd (omega arith)) (record { first = f; is = is; target = has })
        (λ g k e. let z = and_parts b (eqb (f + j) g) (rw is at e) in subst (λ x. guards x (v.sh k) ≡ false) (eqb-true (f + j) g z.1) (free z.0 k))

    pub sound_empty : (i j : ℕ) → Sound F m (v_put i j Empty v)
    sound_empty i j = sound_put i j Empty (λ h. refl) tt (λ g k e. cc)

pub sync_put : (v : View) (k : ℕ) (y : SyncState) (i j : ℕ) (p : Place) → v_sync k y (v_put i j p v) ≡ v_put i j p (v_sync k y v)
unfolding v_sync v_put
sync_put v k y i j p = refl

pub flag_off_put : (v : View) (i j : ℕ) (p : Place) → v_flag_off i j (v_put i j p v) ≡ v_put i j (flag_off p) v
unfolding v_flag_off v_put
flag_off_put v i j p = ap (λ x. record { sh = v.sh; pl = x }) (fun_ext (λ k. fun_ext (λ l. go (eqb k i && eqb l j) (v.pl k l))))
  where
    go : (b : Bool) (q : Place) → cond b (flag_off (cond b p q)) (cond b p q) ≡ cond b (flag_off p) q
    go true q = refl
    go false q = refl

-- CHECKING

pub checked_alike : (m : Memory) (i f : ℕ) (y : SyncState) (v : View) → v.sh i ≡ Table f y → (k : ℕ) → Alike ((v_checked m i f v).sh k) (v.sh k)
checked_alike m i f y v at k = by_eq k i (λ b. Alike (cond b (Table f Protected) (v.sh k)) (v.sh k)) (λ q. subst (Alike (Table f Protected)) (sym (ap v.sh q ∙ at)) state) (λ q. as_is)

check_word : (w : ℕ) (p : Place) (x a : ℕ) (b : Bool) → check_place w p ≡ Leaf x a b → x ≡ w
check_word w p x a b e = grind (arith, nat_tests)

module _ (F : Format) (m : Memory) (v : View) (sound : Sound F m v) where
  pub sound_check : (i f : ℕ) (y : SyncState) → v.sh i ≡ Table f y → Sound F m (v_check m i f v)
  unfolding v_check
  sound_check i f y at = guard_almost F m u f
      (framed_alike F m m v u sound.framed (λ g. refl) alike less (λ a j r w s e d p. p) leaf_up
      (λ a k g e d. sound.framed.apart a k g (unsync a g e) (alike_directory (alike_sym (alike k)) g d)))
      (λ a j g k q e. more_guards g k q (sound.shut a j g k (less_opens (less a j) j (v.sh a) g (alike_opens (alike a) j g (u.pl a j) e))))
    where
      u : View
      u = v_checked m i f v

      alike : (k : ℕ) → Alike (u.sh k) (v.sh k)
      alike = checked_alike m i f y v at

      less : (k j : ℕ) → Less (u.pl k j) (v.pl k j)
      less = checked_less m i f v

      leaf_up : (k j g w a : ℕ) (b : Bool) → cond (eqb k i) (check_place (word_at m f j) (v.pl k j)) (v.pl k j) ≡ Leaf w a b → cond (eqb k i) (Table f Protected) (v.sh k) ≡ Table g Protected
          → (v.sh k ≡ Table g Protected → Up F w (word_at m g j)) → Up F w (word_at m g j)
      leaf_up k j g w a b = by_eq k i (λ t. cond t (check_place (word_at m f j) (v.pl k j)) (v.pl k j) ≡ Leaf w a b → cond t (Table f Protected) (v.sh k) ≡ Table g Protected
          → (v.sh k ≡ Table g Protected → Up F w (word_at m g j)) → Up F w (word_at m g j))
          (λ q e d p. let z : f ≡ g = cc in subst (λ x. Up F w (word_at m x j)) z (subst (λ x. Up F w x) (check_word (word_at m f j) (v.pl k j) w a b e) same)) (λ q e d p. p d)

      unsync : (k g : ℕ) → cond (eqb k i) (Table f Protected) (v.sh k) ≡ Table g Unsynchronised → v.sh k ≡ Table g Unsynchronised
      unsync k g e = grind (arith, nat_tests)

      more_guards : (g k : ℕ) → (g ≡ f → ⊥) → guards g (v.sh k) ≡ false → guards g (cond (eqb k i) (Table f Protected) (v.sh k)) ≡ false
      more_guards g k q e = grind (arith, nat_tests)

-- EVICTING AND FILLING

-- no link to slot i is left
unlinked : (i w s : ℕ) (p : Place) → unlink_place i p ≡ Link w s → s ≡ i → ⊥
unlinked i w s p e q = grind (arith, nat_tests)

module _ (F : Format) (m : Memory) (v : View) (sound : Sound F m v) where
  -- slot i is made new with all its places empty, and no link names it
  framed_anew : (u : View) (i : ℕ) → ((k : ℕ) → (k ≡ i → ⊥) → u.sh k ≡ v.sh k) → ((k j : ℕ) → Less (u.pl k j) (v.pl k j)) → ((k j : ℕ) → (u.pl k j ≡ Empty → ⊥) → k ≡ i → ⊥)
      → ((k d w s : ℕ) → u.pl k d ≡ Link w s → Linked F m v k d w s → s ≡ i → ⊥)
      → ((a b : ℕ) (x : Thing) → shadows (u.sh a) x ≡ true → shadows (u.sh b) x ≡ true → a ≡ b)
      → ((k : ℕ) → Backed m (u.sh k))
      → ((a k f : ℕ) → u.sh a ≡ Table f Unsynchronised → u.sh k ≡ Directory f → ⊥)
      → Framed F m u
  framed_anew u i elsewhere less stands unlinks unique backed apart = record {
    unique = unique;
    backed = backed;
    within = λ k j h. less_empty (less k j) (sound.framed.within k j h);
    links = λ k d w s e.
        let x = sound.framed.links k d w s (less_link (less k d) w s e) in
        record { root = x.root; is = elsewhere k (stands k d (λ z. cc)) ∙ x.is; leads = x.leads; names = rw (elsewhere s (unlinks k d w s e x)) x.names; up = x.up };
    leaves = λ k j w a b e.
        let l = less_leaf (less k j) w a b e in
        let x = sound.framed.leaves k j w a l.0 l.1 in
        record { frame = x.frame; state = x.state; is = elsewhere k (stands k j (λ z. cc)) ∙ x.is; pages = x.pages; target = x.target; up = x.up };
    pieces = λ k j b e.
        let l = less_piece (less k j) b e in
        let x = sound.framed.pieces k j l.0 l.1 in
        record { first = x.first; is = elsewhere k (stands k j (λ z. cc)) ∙ x.is; target = x.target };
    apart = apart;
  }

  -- where slot i is made new and the other places only lost something, the flags that are left were there
  opens_anew : (i : ℕ) (x : Shadow) (p : ℕ → ℕ → Place) → ((k j : ℕ) → Less (p k j) (v.pl k j)) → (k j g l : ℕ)
      → opens j (cond (eqb k i) x (v.sh k)) g (cond (eqb k i) Empty (p k j)) ≡ true → guards g x ≡ false → guards g (cond (eqb l i) x (v.sh l)) ≡ false
  opens_anew i x p less k j g l e free = grind (arith, nat_tests, sound.shut k j g l, less_opens (less k j) j (v.sh k) g)

  pub sound_evict : (i : ℕ) → Sound F m (v_evict i v)
  unfolding v_evict
  sound_evict i = sound_by (framed_anew (v_evict i v) i
      (λ k q. ap (λ b. cond b Nothing (v.sh k)) (ne_eqb k i q))
      (λ k j. less_cond (eqb k i) (unlink_less i (v.sh k) (v.pl k j)))
      (λ k j stands q. stands (ap (λ b. cond b Empty (unlink_at i (v.sh k) (v.pl k j))) (eq-eqb k i q)))
      unlinks
      (λ a b x p q. sound.framed.unique a b x (emptied_shadows (eqb a i) (v.sh a) x p) (emptied_shadows (eqb b i) (v.sh b) x q))
      (λ k. elim (eqb k i) as (λ b. Backed m (cond b Nothing (v.sh k))) [ true ↦ tt | false ↦ sound.framed.backed k ])
      (λ a k f e d. sound.framed.apart a k f (grind (arith, nat_tests)) (grind (arith, nat_tests))))
      (λ k j g l e. opens_anew i Nothing (λ a b. unlink_at i (v.sh a) (v.pl a b)) (λ a b. unlink_less i (v.sh a) (v.pl a b)) k j g l e refl)
    where
      unlinks : (k d w s : ℕ) → cond (eqb k i) Empty (unlink_at i (v.sh k) (v.pl k d)) ≡ Link w s → Linked F m v k d w s → s ≡ i → ⊥
      unlinks k d w s e x q = grind (arith, nat_tests, x.is, unlinked i w s (v.pl k d))

  module _ (i : ℕ) (bare : v.sh i ≡ Nothing) where
    -- a slot filled with thing x, which no slot shadows
    framed_fill : (x : Thing) → Backed m (shadow_of x) → ((k : ℕ) → shadows (v.sh k) x ≡ false) → ((k f : ℕ) → v.sh k ≡ Table f Unsynchronised → shadow_of x ≡ Directory f → ⊥) → Framed F m (v_fill i x v)
    unfolding v_fill
    framed_fill x backs new lags = framed_anew (v_fill i x v) i
        (λ k q. ap (λ b. cond b (shadow_of x) (v.sh k)) (ne_eqb k i q))
        (λ k j. less_cond (eqb k i) kept)
        (λ k j stands q. stands (ap (λ b. cond b Empty (v.pl k j)) (eq-eqb k i q)))
        (λ k d w s e l q. cc (nothing_shadows (named F w), l.names))
        unique
        (λ k. elim (eqb k i) as (λ b. Backed m (cond b (shadow_of x) (v.sh k))) [ true ↦ backs | false ↦ sound.framed.backed k ])
        (λ a k f e d. grind (arith, nat_tests, lags a f, sound.framed.apart a k f, new_protected x f))
      where
        unique : (a b : ℕ) (y : Thing) → shadows (cond (eqb a i) (shadow_of x) (v.sh a)) y ≡ true → shadows (cond (eqb b i) (shadow_of x) (v.sh b)) y ≡ true → a ≡ b
        unique a b y p q = grind (arith, nat_tests, new a, new b, new_only x y, sound.framed.unique a b y)

    fill_shut : (x : Thing) (k j g l : ℕ) → opens j ((v_fill i x v).sh k) g ((v_fill i x v).pl k j) ≡ true → guards g (shadow_of x) ≡ false → guards g ((v_fill i x v).sh l) ≡ false
    unfolding v_fill
    fill_shut x k j g l e free = opens_anew i (shadow_of x) v.pl (λ a b. kept) k j g l e free

    pub sound_fill_directory : (f : ℕ) → has_words (m f) ≡ true → ((k : ℕ) → is_directory_of f (v.sh k) ≡ false) → ((k : ℕ) → v.sh k ≡ Table f Unsynchronised → ⊥) → Sound F m (v_guard f (v_fill i (thing.Directory f) v))
    sound_fill_directory f has new synced = guard_almost F m _ f
        (framed_fill (thing.Directory f) has new (λ k g e d. let z : g ≡ f = cc in synced k (e ∙ ap (λ h. Table h Unsynchronised) z)))
        (λ k j g l q e. fill_shut (thing.Directory f) k j g l e (ne_eqb f g (λ z. q (sym z))))

    pub sound_fill_table : (f : ℕ) → has_words (m f) ≡ true → ((k : ℕ) → is_table_of f (v.sh k) ≡ false) → Sound F m (v_guard f (v_fill i (thing.Table f) v))
    sound_fill_table f has new = guard_almost F m _ f
        (framed_fill (thing.Table f) has new (λ k g e d. cc))
        (λ k j g l q e. fill_shut (thing.Table f) k j g l e (ne_eqb f g (λ z. q (sym z))))

    pub sound_fill_split : (f : ℕ) → ((k : ℕ) → is_split_of f (v.sh k) ≡ false) → Sound F m (v_fill i (thing.Split f) v)
    sound_fill_split f new = sound_by (framed_fill (thing.Split f) tt new (λ k g e d. cc)) (λ k j g l e. fill_shut (thing.Split f) k j g l e refl)
