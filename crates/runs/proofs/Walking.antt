-- A walk over words that were only marked since they were copied goes as the copies say, and its marks settle its entries.
use Rattle.std.proofs.lemmas.Bool.Decides.{nat_tests}
use Rattle.std.proofs.Common.{◌≡◌, ℕ, ◌+◌, ◌<◌, Bool, true, false, cond, eqb, List, [], ◌∷◌, ◌++◌, sym, refl, ap, ◌∙◌, arith}
use Rattle.std.proofs.lemmas.Bool.{eqb-true}
use Rattle.memory.specs.Memory.{Contents, Memory, words, cause, has_words}
use Rattle.paging.specs.Formats.{Format, LawsOfMarking}
use Rattle.paging.specs.Terms.{because_absent, because_denied, because_malformed, directory_level, is_absent, is_page, is_table, table_level}
use Rattle.walk.specs.Marking.{Write, due, mark_at, mark_of, put_all}
use Rattle.walk.specs.Walk.{Asked, Failure, Outcome, Seen, Spot, arrive, at_page, at_table, directory_index, fails, faulted, in_directory, in_table, reached, seen, spot, table_index, walk_from}
use Rattle.runs.specs.Laws.{guest_walk, to, with_marks, word_at, word_in, words_read}
use Rattle.runs.proofs.Memories.{put_all_append, raises_mark, raises_refl, raises_trans, small_append, word_stored_same}
use Rattle.runs.proofs.Moments.{SmallWrites}
use Rattle.runs.proofs.Sound.{Leads, Pages, Raises, Up, more, named, same}

-- the directory's word for an address, the frame that it names, and a table's word; where the two words stand
abbrev pub upper : Asked → Memory → ℕ → ℕ
upper a m root = word_at m root (directory_index a.address)

abbrev pub below : Format → Asked → Memory → ℕ → ℕ
below F a m root = (F.reads directory_level (upper a m root)).value

abbrev pub lower : Asked → Memory → ℕ → ℕ
lower a m g = word_at m g (table_index a.address)

abbrev pub root_spot : Asked → ℕ → Spot
root_spot a root = spot directory_level root (directory_index a.address)

abbrev pub table_spot : Asked → ℕ → Spot
table_spot a g = spot table_level g (table_index a.address)

-- WORDS THAT WERE MARKED

module _ (F : Format) (laws : LawsOfMarking F) where
  pub up_reads : {w v : ℕ} → Up F w v → (l : ℕ) → F.reads l v ≡ F.reads l w
  up_reads same l = refl
  up_reads (more {v} m k u) l = laws.reading_kept m l k v ∙ up_reads u l

  pub up_settled : {w v : ℕ} → Up F w v → (l k : ℕ) → F.marks l k w ≡ w → F.marks l k v ≡ v
  up_settled same l k e = e
  up_settled (more {v} m j u) l k e = laws.marks_last l m k j v (up_settled u l k e)

  -- one of the words of a walk was marked
  pub up_allows : {w v : ℕ} (xs ys : List ℕ) → Up F w v → (k p : ℕ) → F.allows (xs ++ v ∷ ys) k p ≡ F.allows (xs ++ w ∷ ys) k p
  up_allows xs ys same k p = refl
  up_allows xs ys (more {v} l j u) k p = laws.rights_kept xs ys v l j k p ∙ up_allows xs ys u k p

  pub up_allows_two : {w v x y : ℕ} → Up F w v → Up F x y → (k p : ℕ) → F.allows (v ∷ y ∷ []) k p ≡ F.allows (w ∷ x ∷ []) k p
  up_allows_two {w} {v} {x} {y} u z k p = up_allows [] (y ∷ []) u k p ∙ up_allows (w ∷ []) [] z k p

  pub up_leads : {w v : ℕ} → Up F w v → Leads F w → Leads F v
  up_leads u h = let e = up_reads u directory_level in record { present = rw e h.present; whole = rw e h.whole }

  pub up_pages : {w v a : ℕ} → Up F w v → Pages F w a → Pages F v a
  up_pages u h = let e = up_reads u table_level in record { present = rw e h.present; page = rw e h.page; frame = rw e h.frame }

  pub up_named : {w v : ℕ} → Up F w v → named F v ≡ named F w
  up_named u = rw (up_reads u directory_level)

-- THE WALK, WHERE FRAMES HAVE WORDS

-- a frame that has words is its words
known : (x : Contents) → has_words x ≡ true → x ≡ words (word_in x)
known (words w) e = refl
known (cause c) e = cc

-- a settled entry is not written
unmarked : (F : Format) (k : ℕ) (s : Spot) (x : Contents) → F.marks s.level k (word_in x s.index) ≡ word_in x s.index → mark_of F k s x ≡ []
unmarked F k s x e = grind (arith, nat_tests)

-- THE GUEST'S WALK BY WHAT THE WALK REACHES

module _ (F : Format) (a : Asked) (root : ℕ) (m : Memory) where
  pub guest_walked : {x : Outcome} → walk_from F a m root ≡ x → guest_walk F a root m ≡ with_marks F a.kind m x
  guest_walked e = ap (with_marks F a.kind m) e

  -- the two ways to arrive
  pub reaches_small : {g f : ℕ} → has_words (m root) ≡ true → Leads F (upper a m root)
      → is_table (F.reads directory_level (upper a m root)) ≡ true
      → below F a m root ≡ g
      → has_words (m g) ≡ true → Pages F (lower a m g) f
      → F.allows (upper a m root ∷ lower a m g ∷ []) a.kind a.privilege ≡ true
      → has_words (m f) ≡ true
      → walk_from F a m root ≡ reached f (seen (root_spot a root) (upper a m root) ∷ seen (table_spot a g) (lower a m g) ∷ [])
  reaches_small {g} {f} hr l t e hg p ok hf =
      rw (known (m root) hr, l.present, t, e, known (m g) hg, p.present, p.page, p.frame, ok, known (m f) hf)

  pub reaches_large : has_words (m root) ≡ true → Leads F (upper a m root)
      → is_table (F.reads directory_level (upper a m root)) ≡ false
      → F.allows (upper a m root ∷ []) a.kind a.privilege ≡ true
      → has_words (m (below F a m root + table_index a.address)) ≡ true
      → walk_from F a m root ≡ reached (below F a m root + table_index a.address) (seen (root_spot a root) (upper a m root) ∷ [])
  reaches_large hr l t ok hf =
      let page : is_page (F.reads directory_level (upper a m root)) ≡ true = rw t at l.whole in
      rw (known (m root) hr, l.present, t, page, ok, known (m (below F a m root + table_index a.address)) hf)

module _ (F : Format) (laws : LawsOfMarking F) (a : Asked) (root : ℕ) (m : Memory) where
  pub walk_small : {w x f t : ℕ} → has_words (m root) ≡ true → Up F w (upper a m root) → Leads F w
      → is_table (F.reads directory_level w) ≡ true → (F.reads directory_level w).value ≡ f
      → has_words (m f) ≡ true → Up F x (lower a m f) → Pages F x t → has_words (m t) ≡ true
      → F.allows (w ∷ x ∷ []) a.kind a.privilege ≡ true
      → F.marks directory_level a.kind w ≡ w → F.marks table_level a.kind x ≡ x
      → guest_walk F a root m ≡ to t []
  walk_small {w} {x} {f} {t} hr u l tab e hf v p ht ok sw sx =
      let reads = up_reads F laws u directory_level in
      rw (
        guest_walked F a root m (reaches_small F a root m hr (up_leads F laws u l) (rw reads tab) (rw (reads, below) e) hf (up_pages F laws v p) (up_allows_two F laws u v a.kind a.privilege ∙ ok) ht),
        unmarked F a.kind (root_spot a root) (m root) (up_settled F laws u directory_level a.kind sw),
        unmarked F a.kind (table_spot a f) (m f) (up_settled F laws v table_level a.kind sx),
      )

  pub walk_large : {w f : ℕ} → has_words (m root) ≡ true → Up F w (upper a m root) → Leads F w
      → is_table (F.reads directory_level w) ≡ false → (F.reads directory_level w).value ≡ f
      → has_words (m (f + table_index a.address)) ≡ true
      → F.allows (w ∷ []) a.kind a.privilege ≡ true → F.marks directory_level a.kind w ≡ w
      → guest_walk F a root m ≡ to (f + table_index a.address) []
  walk_large {w} {f} hr u l tab e hf ok sw =
      let reads = up_reads F laws u directory_level in
      let value : below F a m root ≡ f = rw (reads, below) e in
      rw (
        guest_walked F a root m (reaches_large F a root m hr (up_leads F laws u l) (rw reads tab) (up_allows F laws [] [] u a.kind a.privilege ∙ ok) (rw value hf)),
        unmarked F a.kind (root_spot a root) (m root) (up_settled F laws u directory_level a.kind sw),
        value,
      )

  pub reads_small : {w f : ℕ} → has_words (m root) ≡ true → Up F w (upper a m root) → Leads F w
      → is_table (F.reads directory_level w) ≡ true → (F.reads directory_level w).value ≡ f → has_words (m f) ≡ true
      → words_read F a root m ≡ record { frame = root; index = directory_index a.address } ∷ record { frame = f; index = table_index a.address } ∷ []
  reads_small {w} {f} hr u l tab e hf =
      rw (known (m root) hr, up_reads F laws u directory_level, l.present, tab, e, known (m f) hf)

-- WALKS THAT ARRIVE

-- the two ways in which a walk arrives at a frame, by the entries read
pub data Arrived (F : Format) (a : Asked) (m : Memory) (root : ℕ) : ℕ → List Seen → Type 0 where
  large : has_words (m root) ≡ true → Leads F (upper a m root) → is_table (F.reads directory_level (upper a m root)) ≡ false
      → F.allows (upper a m root ∷ []) a.kind a.privilege ≡ true
      → has_words (m (below F a m root + table_index a.address)) ≡ true
      → Arrived F a m root (below F a m root + table_index a.address) (seen (root_spot a root) (upper a m root) ∷ [])
  small : {f : ℕ} → has_words (m root) ≡ true → Leads F (upper a m root) → is_table (F.reads directory_level (upper a m root)) ≡ true
      → has_words (m (below F a m root)) ≡ true → Pages F (lower a m (below F a m root)) f
      → F.allows (upper a m root ∷ lower a m (below F a m root) ∷ []) a.kind a.privilege ≡ true
      → has_words (m f) ≡ true
      → Arrived F a m root f (seen (root_spot a root) (upper a m root) ∷ seen (table_spot a (below F a m root)) (lower a m (below F a m root)) ∷ [])

not_reached : {A : Type 0} {x : Failure} {f : ℕ} {es : List Seen} → faulted x ≡ reached f es → A
not_reached e = cc

module _ (F : Format) (a : Asked) (m : Memory) (root : ℕ) where
  moved : {g f : ℕ} {es qs : List Seen} → reached g es ≡ reached f qs → Arrived F a m root g es → Arrived F a m root f qs
  moved {g} {f} {es} {qs} e h = let same_frame : g ≡ f = cc in let same_words : es ≡ qs = cc in rw (same_frame, same_words) at h

  -- a page that is allowed, and whose frame has words
  page_arrives : (s : Spot) (g : ℕ) (es : List Seen) {f : ℕ} {qs : List Seen} (b : Bool) (x : Contents)
      → cond b (arrive F a m g es x) (fails F a because_denied s 0) ≡ reached f qs → (b ≡ true) × (has_words x ≡ true) × (reached g es ≡ reached f qs)
  page_arrives s g es true (words w) e = (refl, refl, e)
  page_arrives s g es true (cause c) e = not_reached e
  page_arrives s g es false x e = not_reached e

  module _ (rooted : has_words (m root) ≡ true) where
    -- by how the table's word reads
    table_arrives : {f : ℕ} {es : List Seen} → Leads F (upper a m root) → is_table (F.reads directory_level (upper a m root)) ≡ true → has_words (m (below F a m root)) ≡ true
        → (b p : Bool) → is_absent (F.reads table_level (lower a m (below F a m root))) ≡ b → is_page (F.reads table_level (lower a m (below F a m root))) ≡ p
        → cond b (fails F a because_absent (table_spot a (below F a m root)) 0) (cond p (at_page F a m (table_spot a (below F a m root)) (F.reads table_level (lower a m (below F a m root))).value (seen (root_spot a root) (upper a m root) ∷ seen (table_spot a (below F a m root)) (lower a m (below F a m root)) ∷ [])) (fails F a because_malformed (table_spot a (below F a m root)) 0)) ≡ reached f es
        → Arrived F a m root f es
    table_arrives l t h true p x y q = not_reached q
    table_arrives l t h false false x y q = not_reached q
    table_arrives l t h false true x y q =
        let z = page_arrives _ (F.reads table_level (lower a m (below F a m root))).value _ (F.allows (upper a m root ∷ lower a m (below F a m root) ∷ []) a.kind a.privilege) (m (F.reads table_level (lower a m (below F a m root))).value) q in
        moved z.2 (small rooted l t h (record { present = x; page = y; frame = refl }) z.0 z.1)

    -- by what the table's frame has
    frame_arrives : {f : ℕ} {es : List Seen} → Leads F (upper a m root) → is_table (F.reads directory_level (upper a m root)) ≡ true
        → (x : Contents) → m (below F a m root) ≡ x → in_table F a m (seen (root_spot a root) (upper a m root)) (table_spot a (below F a m root)) x ≡ reached f es
        → Arrived F a m root f es
    frame_arrives l t (words w) i q =
        let h : has_words (m (below F a m root)) ≡ true = rw i in
        table_arrives l t h _ _ refl refl (sym (ap (in_table F a m _ (table_spot a (below F a m root))) (known (m (below F a m root)) h)) ∙ ap (in_table F a m _ (table_spot a (below F a m root))) i ∙ q)
    frame_arrives l t (cause c) i q = not_reached q

    -- by how the directory's word reads
    directory_arrives : {f : ℕ} {es : List Seen}
        → (b t p : Bool) → is_absent (F.reads directory_level (upper a m root)) ≡ b → is_table (F.reads directory_level (upper a m root)) ≡ t → is_page (F.reads directory_level (upper a m root)) ≡ p
        → cond b (fails F a because_absent (root_spot a root) 0) (cond t (at_table F a m (seen (root_spot a root) (upper a m root)) (below F a m root)) (cond p (at_page F a m (root_spot a root) (below F a m root + table_index a.address) (seen (root_spot a root) (upper a m root) ∷ [])) (fails F a because_malformed (root_spot a root) 0))) ≡ reached f es
        → Arrived F a m root f es
    directory_arrives true t p x y z q = not_reached q
    directory_arrives false true p x y z q = frame_arrives (record { present = x; whole = rw y }) y (m (below F a m root)) refl q
    directory_arrives false false true x y z q =
        let k = page_arrives _ (below F a m root + table_index a.address) _ (F.allows (upper a m root ∷ []) a.kind a.privilege) (m (below F a m root + table_index a.address)) q in
        moved k.2 (large rooted (record { present = x; whole = rw (y, z) }) y k.0 k.1)
    directory_arrives false false false x y z q = not_reached q

  pub arrived : {f : ℕ} {es : List Seen} → walk_from F a m root ≡ reached f es → Arrived F a m root f es
  arrived {f} {es} q = go (m root) refl q
    where
      go : (x : Contents) → m root ≡ x → in_directory F a m (root_spot a root) x ≡ reached f es → Arrived F a m root f es
      go (words w) i e =
          let rooted : has_words (m root) ≡ true = rw i in
          directory_arrives rooted _ _ _ refl refl refl (sym (ap (in_directory F a m (root_spot a root)) (known (m root) rooted)) ∙ q)
      go (cause c) i e = not_reached e

-- MEMORY AFTER MARKS

-- the entries read stand at indices of frames
abbrev pub SmallSpots : List Seen → Type 0
SmallSpots [] = Unit {0}
SmallSpots (e ∷ es) = (e.spot.index < 1024) × SmallSpots es

module _ (F : Format) (k : ℕ) where
  -- a mark is written, or the entry has none or is settled
  pub data Marked (m : Memory) (s : Spot) : List Write → Type 0 where
    settled : (has_words (m s.frame) ≡ true → F.marks s.level k (word_at m s.frame s.index) ≡ word_at m s.frame s.index) → Marked m s []
    written : Marked m s (record { frame = s.frame; index = s.index; word = F.marks s.level k (word_at m s.frame s.index) } ∷ [])

  pub marked : (m : Memory) (s : Spot) → Marked m s (mark_at F k m s)
  marked m s = go (m s.frame) refl
    where
      by : (w : ℕ) → word_at m s.frame s.index ≡ w → (b : Bool) → eqb (F.marks s.level k w) w ≡ b → Marked m s (cond b [] (record { frame = s.frame; index = s.index; word = F.marks s.level k w } ∷ []))
      by w e true q = let q' : F.marks s.level k w ≡ w = eqb-true (F.marks s.level k w) w q in settled (λ h. rw e q')
      by w e false q = rw (← e) written

      go : (x : Contents) → m s.frame ≡ x → Marked m s (mark_of F k s x)
      go (words w) e = by (w s.index) (rw e) (eqb (F.marks s.level k (w s.index)) (w s.index)) refl
      go (cause c) e = settled (λ h. cc)

  raises_by : (m : Memory) (s : Spot) (xs : List Write) → s.index < 1024 → Marked m s xs → Raises F m (put_all m xs)
  raises_by m s xs h (settled e) = raises_refl F m
  raises_by m s xs h written = raises_mark F m s.frame s.index s.level k h

  small_by : (m : Memory) (s : Spot) (xs : List Write) → s.index < 1024 → Marked m s xs → SmallWrites xs
  small_by m s xs h (settled e) = tt
  small_by m s xs h written = (h, tt)

  word_by : (m : Memory) (s : Spot) (xs : List Write) → has_words (m s.frame) ≡ true → Marked m s xs → word_at (put_all m xs) s.frame s.index ≡ F.marks s.level k (word_at m s.frame s.index)
  word_by m s xs h (settled e) = sym (e h)
  word_by m s xs h written = word_stored_same m s.frame s.index _ h

  -- marks only mark
  pub raises_spots : (m : Memory) (es : List Seen) → SmallSpots es → Raises F m (put_all m (due F k m es))
  raises_spots m [] h = raises_refl F m
  raises_spots m (e ∷ es) h =
      rw (put_all_append m (mark_at F k m e.spot) (due F k (put_all m (mark_at F k m e.spot)) es))
      (raises_trans F (raises_by m e.spot _ h.0 (marked m e.spot)) (raises_spots (put_all m (mark_at F k m e.spot)) es h.1))

  pub small_spots : (m : Memory) (es : List Seen) → SmallSpots es → SmallWrites (due F k m es)
  small_spots m [] h = tt
  small_spots m (e ∷ es) h = small_append _ _ (small_by m e.spot _ h.0 (marked m e.spot)) (small_spots (put_all m (mark_at F k m e.spot)) es h.1)

arrived_spots : {F : Format} {a : Asked} {m : Memory} {root f : ℕ} {es : List Seen} → Arrived F a m root f es → SmallSpots es
arrived_spots {a = a} (large hr l t ok h) = (omega arith, tt)
arrived_spots {a = a} (small hr l t hg p ok h) = (omega arith, (omega arith, tt))

pub raises_due : {F : Format} {a : Asked} {m : Memory} {root f : ℕ} {es : List Seen} → Arrived F a m root f es → Raises F m (put_all m (due F a.kind m es))
raises_due {F} {a} {m} {es = es} h = raises_spots F a.kind m es (arrived_spots h)

pub small_due : {F : Format} {a : Asked} {m : Memory} {root f : ℕ} {es : List Seen} → Arrived F a m root f es → SmallWrites (due F a.kind m es)
small_due {F} {a} {m} {es = es} h = small_spots F a.kind m es (arrived_spots h)

-- ENTRIES ARE SETTLED AFTER THEIR MARKS

module _ (F : Format) (laws : LawsOfMarking F) where
  -- the entry that is marked first is settled after all marks
  pub settled_first : (k : ℕ) (m : Memory) (e : Seen) (es : List Seen) → has_words (m e.spot.frame) ≡ true → SmallSpots (e ∷ es)
      → F.marks e.spot.level k (word_at (put_all m (due F k m (e ∷ es))) e.spot.frame e.spot.index) ≡ word_at (put_all m (due F k m (e ∷ es))) e.spot.frame e.spot.index
  settled_first k m e es h in_frames =
      let first = mark_at F k m e.spot in
      let n : Memory = put_all m first in
      let now_marked : word_at n e.spot.frame e.spot.index ≡ F.marks e.spot.level k (word_at m e.spot.frame e.spot.index) = word_by F k m e.spot first h (marked F k m e.spot) in
      let now_settled : F.marks e.spot.level k (word_at n e.spot.frame e.spot.index) ≡ word_at n e.spot.frame e.spot.index = rw now_marked (laws.marked_once e.spot.level k (word_at m e.spot.frame e.spot.index)) in
      rw (put_all_append m first (due F k n es)) (up_settled F laws ((raises_spots F k n es in_frames.1).up e.spot.frame e.spot.index in_frames.0) e.spot.level k now_settled)

  -- .. and so is the second
  pub settled_second : (k : ℕ) (m : Memory) (d e : Seen) (es : List Seen) → has_words (m e.spot.frame) ≡ true → SmallSpots (d ∷ e ∷ es)
      → F.marks e.spot.level k (word_at (put_all m (due F k m (d ∷ e ∷ es))) e.spot.frame e.spot.index) ≡ word_at (put_all m (due F k m (d ∷ e ∷ es))) e.spot.frame e.spot.index
  settled_second k m d e es h in_frames =
      let first = mark_at F k m d.spot in
      let raised : Raises F m (put_all m first) = raises_by F k m d.spot first in_frames.0 (marked F k m d.spot) in
      rw (put_all_append m first (due F k (put_all m first) (e ∷ es))) (settled_first k (put_all m first) e es (raised.has e.spot.frame ∙ h) in_frames.1)

  module _ (a : Asked) (m : Memory) (root : ℕ) (rooted : has_words (m root) ≡ true) where
    pub settled_large :
        let n : Memory = put_all m (due F a.kind m (seen (root_spot a root) (upper a m root) ∷ [])) in
        F.marks directory_level a.kind (upper a n root) ≡ upper a n root
    settled_large = settled_first a.kind m (seen (root_spot a root) (upper a m root)) [] rooted (omega arith, tt)

    pub settled_small : (g : ℕ) → has_words (m g) ≡ true →
        let n : Memory = put_all m (due F a.kind m (seen (root_spot a root) (upper a m root) ∷ seen (table_spot a g) (lower a m g) ∷ [])) in
        (F.marks directory_level a.kind (upper a n root) ≡ upper a n root) × (F.marks table_level a.kind (lower a n g) ≡ lower a n g)
    settled_small g h = (
      settled_first a.kind m (seen (root_spot a root) (upper a m root)) (seen (table_spot a g) (lower a m g) ∷ []) rooted (omega arith, (omega arith, tt)),
      settled_second a.kind m (seen (root_spot a root) (upper a m root)) (seen (table_spot a g) (lower a m g)) [] h (omega arith, (omega arith, tt)),
    )
