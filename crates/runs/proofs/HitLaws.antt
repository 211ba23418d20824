-- An access that hits obeys the laws.
use Rattle.std.proofs.Common.{◌≡◌, ℕ, ◌+◌, Bool, true, [], sym, refl, ◌∙◌, subst}
use Rattle.std.proofs.lemmas.Bool.{ne_eqb}
use Rattle.memory.specs.Memory.{Memory, has_words}
use Rattle.paging.specs.Formats.{Format, LawsOfMarking}
use Rattle.paging.specs.Terms.{directory_level, store}
use Rattle.shadow.specs.Slots.{place_at, shadow_at}
use Rattle.slot.specs.Slot.{shadows}
use Rattle.slot.specs.declared.slots.Place.TheVariants.{Link, Leaf, Piece}
use Rattle.slot.specs.declared.slots.Shadow.TheVariants.{Table, Split}
use Rattle.slot.specs.declared.slots.SyncState.{SyncState}
use Rattle.slot.specs.declared.slots.SyncState.TheVariants.{Protected, Unsynchronised}
use Rattle.walk.specs.Walk.{Asked, directory_index, table_index, word_index}
use Rattle.runs.specs.Histories.{History, Opening, Sometime, memory_at, mode_at}
use Rattle.runs.specs.Laws.{LawfulThrough, Unstored, guest_walk, to, word_at, words_read}
use Rattle.runs.specs.Terms.{page_of}
use Rattle.runs.specs.Unit.{Running, hit_answer, root_slot}
use Rattle.runs.proofs.Good.{Good, Then}
use Rattle.runs.proofs.Hitting.{Hit, HitsLarge, HitsSmall, by_leaf, by_piece}
use Rattle.runs.proofs.Shadows.{named_split, named_table}
use Rattle.runs.proofs.Sound.{Backed, Leafed, Up, named}
use Rattle.runs.proofs.Sounds.{leaf_now, link_now}
use Rattle.runs.proofs.Views.{view}
use Rattle.runs.proofs.Walking.{reads_small, walk_large, walk_small}
use Rattle.runs.proofs.Windows.{SameFrames, has_at, last_is, present, since, sometime_has, table_index_small, word_index_small}

module _ (F : Format) (laws : LawsOfMarking F) (o : Opening) (h : History) (r : Running) (good : Good F o h r) (a : Asked) where
  abbrev m : Memory
  m = memory_at o h

  abbrev R : ℕ
  R = r.hart.root

  abbrev I : ℕ
  I = root_slot R r.table

  abbrev D : ℕ
  D = directory_index a.address

  abbrev J : ℕ
  J = table_index a.address

  root_has : has_words (m R) ≡ true
  root_has = subst (Backed m) good.rooted (good.fit.sound.framed.backed I)

  moved : (n : Memory) → SameFrames o n → (f : ℕ) → has_words (m f) ≡ true → has_words (n f) ≡ true
  moved n same f e = same f ∙ sym (has_at o h f) ∙ e

  -- the link of the access, by the root in force
  link_up : (w s : ℕ) → place_at I D r.table ≡ Link w s → Up F w (word_at m R D)
  link_up w s p = link_now F m (view r.table) good.fit.sound I D R w s good.rooted p

  -- through a large page
  piece_walk : (w s g : ℕ) (b : Bool) → place_at I D r.table ≡ Link w s → shadow_at s r.table ≡ Split g → place_at s J r.table ≡ Piece b
      → HitsLarge F a.kind a.privilege w b → guest_walk F a R m ≡ to (g + J) []
  piece_walk w s g b p y q z =
      let l = good.fit.sound.framed.links I D w s p in
      let n = named_split (F.reads directory_level w) g (subst (λ x. shadows x (named F w) ≡ true) y l.names) in
      let k = good.fit.sound.framed.pieces s J b q in
      let e : k.first ≡ g = cc (k.is, y) in
      walk_large F laws a R m root_has (link_up w s p) l.leads n.0 n.1
      (subst (λ (x : ℕ). has_words (m (x + J)) ≡ true) e k.target) z.allows z.upper

  -- through a table, at a memory whose words have come from the copied ones
  leaf_walk : (w s x f g : ℕ) (b : Bool) (y : SyncState) → place_at I D r.table ≡ Link w s → place_at s J r.table ≡ Leaf x f b → shadow_at s r.table ≡ Table g y
      → HitsSmall F a.kind a.privilege w x b → (n : Memory) → SameFrames o n → Up F w (word_at n R D) → Up F x (word_at n g J) → guest_walk F a R n ≡ to f []
  leaf_walk w s x f g b y p q i z n same u v =
      let l = good.fit.sound.framed.links I D w s p in
      let k = named_table (F.reads directory_level w) g y (subst (λ x. shadows x (named F w) ≡ true) i l.names) in
      let e = good.fit.sound.framed.leaves s J x f b q in
      walk_small F laws a R n (moved n same R root_has) u l.leads k.0 k.1
      (moved n same g (subst (Backed m) i (good.fit.sound.framed.backed s))) v e.pages (moved n same f e.target) z.allows z.upper z.lower

  -- a protected table's word is the guest's, but for marks
  leaf_up : (s x f g : ℕ) (b : Bool) → place_at s J r.table ≡ Leaf x f b → shadow_at s r.table ≡ Table g Protected → Up F x (word_at m g J)
  leaf_up s x f g b q i = leaf_now F m (view r.table) good.fit.sound s J g x f b i q

  -- P, where the access hits by a leaf of an unsynchronised table
  abbrev Lagging : ℕ → Type 0 → Type 0
  Lagging f P =
      (w s x g : ℕ) (b : Bool) → place_at I D r.table ≡ Link w s → place_at s J r.table ≡ Leaf x f b → shadow_at s r.table ≡ Table g Unsynchronised
      → HitsSmall F a.kind a.privilege w x b → P

  -- the walk goes so now, or the access hits by a leaf of an unsynchronised table
  by_state : (f : ℕ) (P : Type 0) → Hit F a r.table I f → (guest_walk F a R m ≡ to f [] → P)
      → Lagging f P → P
  by_state _ P (by_piece {w} {s} {g} {b} p y q z) now lagging = now (piece_walk w s g b p y q z)
  by_state _ P (by_leaf {w} {s} {x} {f} {b} p q z) now lagging = go e.state e.is
    where
      e : Leafed F m (view r.table) s J x f
      e = good.fit.sound.framed.leaves s J x f b q

      go : (y : SyncState) → shadow_at s r.table ≡ Table e.frame y → P
      go Protected i = now (leaf_walk w s x f e.frame b Protected p q i z m (has_at o h) (link_up w s p) (leaf_up s x f e.frame b q i))
      go Unsynchronised i = lagging w s x e.frame b p q i z

  window : (f : ℕ) → Hit F a r.table I f → Sometime o (λ n. guest_walk F a R n ≡ to f []) (page_of a.address) h
  window f hit = by_state f _ hit (present o _ (page_of a.address) h)
      (λ w s x g b p q i z. sometime_has o {P = Then F R a.address w g x} (λ n same u. leaf_walk w s x f g b Unsynchronised p q i z n same u.0 u.1)
      (good.past I a.address w s g x f b good.rooted p i q))

  undisturbed : (f : ℕ) → Hit F a r.table I f → Unstored (words_read F a R m) (page_of a.address) h → guest_walk F a R m ≡ to f []
  undisturbed f hit u = by_state f _ hit (λ e. e) (λ w s x g b p q i z.
      let l = good.fit.sound.framed.links I D w s p in
      let k = named_table (F.reads directory_level w) g Unsynchronised (subst (λ x. shadows x (named F w) ≡ true) i l.names) in
      let read = reads_small F laws a R m root_has (link_up w s p) l.leads k.0 k.1 (subst (Backed m) i (good.fit.sound.framed.backed s)) in
      let free = subst (λ ws. Unstored ws (page_of a.address) h) read u in
      leaf_walk w s x f g b Unsynchronised p q i z m (has_at o h) (link_up w s p)
      (since F o x g J (page_of a.address) h good.raised (table_index_small a.address)
      (sometime_has o {P = Then F R a.address w g x} (λ n same v. v.1) (good.past I a.address w s g x f b good.rooted p i q)) free.1.0))

  target_has : (f : ℕ) → Hit F a r.table I f → has_words (m f) ≡ true
  target_has _ (by_piece {w} {s} {g} {b} p y q z) =
      let k = good.fit.sound.framed.pieces s J b q in
      let e : k.first ≡ g = cc (k.is, y) in
      subst (λ (x : ℕ). has_words (m (x + J)) ≡ true) e k.target
  target_has _ (by_leaf {w} {s} {x} {f} {b} p q z) = (good.fit.sound.framed.leaves s J x f b q).target

  pub hit_lawful : (w f : ℕ) → a.privilege ≡ mode_at o h → Hit F a r.table I f → LawfulThrough F o h a (hit_answer a w m f)
  hit_lawful w f p hit = record {
    privileged = p;
    window = subst (λ (n : ℕ). Sometime o (λ x. guest_walk F a n x ≡ to f []) (page_of a.address) h) good.root (window f hit);
    value = λ no. rw (ne_eqb a.kind store no) (last_is F o f (word_index a.address) h (sym (has_at o h f) ∙ target_has f hit) (word_index_small a.address) good.raised);
    marked = λ x. absurd x;
    present = subst (λ (n : ℕ). Unstored (words_read F a n m) (page_of a.address) h → guest_walk F a n m ≡ to f []) good.root (undisturbed f hit);
    exit = λ x. refl;
  }
