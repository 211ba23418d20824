-- An access hits just where its link stands, with a leaf or a piece below it that lets it through.
use Rattle.std.proofs.Common.{◌≡◌, ℕ, ◌+◌, Bool, true, false, cond, eqb, ltb, [], ◌∷◌, Some, None, refl, ap, ◌∙◌, subst, arith}
use Rattle.std.proofs.lemmas.Bool.Decides.{nat_tests}
use Rattle.std.proofs.lemmas.Bool.{eq-eqb}
use Rattle.std.proofs.lemmas.Option.{cond_some}
use Rattle.paging.specs.Formats.{Format}
use Rattle.paging.specs.Terms.{directory_level, store, table_level}
use Rattle.hits.specs.Hits.{copied_at, copied_below, copied_from, copied_piece, hits, number_limit, passes}
use Rattle.shadow.specs.Slots.{place_at, shadow_at}
use Rattle.slot.specs.declared.slots.Place.{Place}
use Rattle.slot.specs.declared.slots.Place.TheVariants.{Link, Leaf, Piece}
use Rattle.slot.specs.declared.slots.Shadow.{Shadow}
use Rattle.slot.specs.declared.slots.Shadow.TheVariants.{Split}
use Rattle.shadow.specs.declared.slots.SlotTable.{SlotTable}
use Rattle.walk.specs.Walk.{Asked, directory_index, table_index}
use Rattle.runs.specs.Unit.{hit_by}

-- the parts of a hit through a table and of one through a large page
pub record HitsSmall (F : Format) (k p w x : ℕ) (b : Bool) : Type 0 where
  pub allows : F.allows (w ∷ x ∷ []) k p ≡ true
  pub upper : F.marks directory_level k w ≡ w
  pub lower : F.marks table_level k x ≡ x
  pub flag : passes k b ≡ true

pub record HitsLarge (F : Format) (k p w : ℕ) (b : Bool) : Type 0 where
  pub allows : F.allows (w ∷ []) k p ≡ true
  pub upper : F.marks directory_level k w ≡ w
  pub flag : passes k b ≡ true

module _ (F : Format) (k p w : ℕ) (b : Bool) where
  pub small_parts : (x : ℕ) → hits F k p (w ∷ x ∷ []) b ≡ true → HitsSmall F k p w x b
  small_parts x e = record { allows = grind (arith, nat_tests); upper = grind (arith, nat_tests); lower = grind (arith, nat_tests); flag = grind (arith, nat_tests) }

  pub large_parts : hits F k p (w ∷ []) b ≡ true → HitsLarge F k p w b
  large_parts e = record { allows = grind (arith, nat_tests); upper = grind (arith, nat_tests); flag = grind (arith, nat_tests) }

  pub small_hits : (x : ℕ) → F.allows (w ∷ x ∷ []) k p ≡ true → F.marks directory_level k w ≡ w → F.marks table_level k x ≡ x → passes k b ≡ true → hits F k p (w ∷ x ∷ []) b ≡ true
  small_hits x a u l f = rw (a, eq-eqb (F.marks directory_level k w) w u, eq-eqb (F.marks table_level k x) x l, f)

  pub large_hits : F.allows (w ∷ []) k p ≡ true → F.marks directory_level k w ≡ w → passes k b ≡ true → hits F k p (w ∷ []) b ≡ true
  large_hits a u f = rw (a, eq-eqb (F.marks directory_level k w) w u, f)

-- What stands where an access hits: its link, and the leaf or the piece below.
pub data Hit (F : Format) (a : Asked) (t : SlotTable) (i : ℕ) : ℕ → Type 0 where
  by_leaf : {w s x f : ℕ} {b : Bool} → place_at i (directory_index a.address) t ≡ Link w s → place_at s (table_index a.address) t ≡ Leaf x f b
      → HitsSmall F a.kind a.privilege w x b → Hit F a t i f
  by_piece : {w s g : ℕ} {b : Bool} → place_at i (directory_index a.address) t ≡ Link w s → shadow_at s t ≡ Split g
      → place_at s (table_index a.address) t ≡ Piece b → HitsLarge F a.kind a.privilege w b → Hit F a t i (g + table_index a.address)

module _ (F : Format) (a : Asked) (t : SlotTable) (i : ℕ) where
  abbrev D : ℕ
  D = directory_index a.address

  abbrev J : ℕ
  J = table_index a.address

  from_piece : (w s : ℕ) (b : Bool) (f : ℕ) (x : Shadow) → place_at i D t ≡ Link w s → place_at s J t ≡ Piece b → shadow_at s t ≡ x → hit_by F a (copied_piece w J b x) ≡ Some f → Hit F a t i f
  from_piece w s b f (Split g) p q y e = go (ltb (g + J) number_limit) e
    where
      go : (u : Bool) → hit_by F a (cond u (Some (record { link = w; leaf = None; aim = g + J; writable = b })) None) ≡ Some f → Hit F a t i f
      go true z =
          let h = cond_some (hits F a.kind a.privilege (w ∷ []) b) (g + J) f z in
          subst (Hit F a t i) h.1 (by_piece p y q (large_parts F a.kind a.privilege w b h.0))
      go false z = absurd cc
  from_piece w s b f x p q y e = absurd cc

  from_below : (w s f : ℕ) (x : Place) → place_at i D t ≡ Link w s → place_at s J t ≡ x → hit_by F a (copied_below w (shadow_at s t) J x) ≡ Some f → Hit F a t i f
  from_below w s f (Leaf x c b) p q e =
      let h = cond_some (hits F a.kind a.privilege (w ∷ x ∷ []) b) c f e in
      by_leaf p (subst (λ (n : ℕ). place_at s J t ≡ Leaf x n b) h.1 q) (small_parts F a.kind a.privilege w b x h.0)
  from_below w s f (Piece b) p q e = from_piece w s b f (shadow_at s t) p q refl e
  from_below w s f x p q e = absurd cc

  from_link : (f : ℕ) (x : Place) → place_at i D t ≡ x → hit_by F a (copied_from t J x) ≡ Some f → Hit F a t i f
  from_link f (Link w s) p e = from_below w s f (place_at s J t) p refl e
  from_link f x p e = absurd cc

  pub hit_there : (f : ℕ) → hit_by F a (copied_at i D J t) ≡ Some f → Hit F a t i f
  hit_there f e = from_link f (place_at i D t) refl e

  -- and the other way round
  pub leaf_hit : (w s x f : ℕ) (b : Bool) → place_at i D t ≡ Link w s → place_at s J t ≡ Leaf x f b → hits F a.kind a.privilege (w ∷ x ∷ []) b ≡ true → hit_by F a (copied_at i D J t) ≡ Some f
  leaf_hit w s x f b p q e =
      ap (λ y. hit_by F a (copied_from t J y)) p ∙ ap (λ y. hit_by F a (copied_below w (shadow_at s t) J y)) q ∙ rw e

  pub piece_hit : (w s g : ℕ) (b : Bool) → place_at i D t ≡ Link w s → shadow_at s t ≡ Split g → place_at s J t ≡ Piece b → ltb (g + J) number_limit ≡ true → hits F a.kind a.privilege (w ∷ []) b ≡ true → hit_by F a (copied_at i D J t) ≡ Some (g + J)
  piece_hit w s g b p y q n e =
      ap (λ z. hit_by F a (copied_from t J z)) p ∙ ap (λ z. hit_by F a (copied_below w (shadow_at s t) J z)) q ∙ ap (λ z. hit_by F a (copied_piece w J b z)) y ∙ rw (n, e)

-- the flag of a store that passes
pub store_flag : (k : ℕ) (b : Bool) → k ≡ store → passes k b ≡ true → b ≡ true
store_flag k b e p = grind (arith, nat_tests)

-- a flag that is on for a store only lets the access pass
pub own_flag : (k : ℕ) → passes k (eqb k store) ≡ true
own_flag k = grind (arith, nat_tests)
