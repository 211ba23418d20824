-- The walk goes by the rules, and nothing else does.
use Rattle.std.proofs.Common.{◌≡◌, ℕ, ◌+◌, Bool, true, false, cond, List, [], ◌∷◌, refl}
use Rattle.memory.specs.Memory.{Contents, Memory, words, cause}
use Rattle.paging.specs.Formats.{Format}
use Rattle.paging.specs.Terms.{because_absent, because_denied, because_malformed, directory_level, is_absent, is_page, is_table, table_level}
use Rattle.walk.specs.Rules.{ByRules, DirectoryWord, PageAt, TableNamed, TableWord, Walks, absent_directory, absent_table, arrives, denied, in_frame, in_root, large, malformed_directory, malformed_table, no_root, no_table, outside, small}
use Rattle.walk.specs.Walk.{Asked, Outcome, Seen, Spot, arrive, at_page, at_table, directory_index, fails, granted, in_directory, in_table, seen, table_index, walk_from}

module _ (F : Format) (a : Asked) (m : Memory) (root : ℕ) where
  by_grant : (s : Spot) (es : List Seen) (f : ℕ) → PageAt F a m root s es f → (b : Bool) → granted F a es ≡ b → (x : Contents) → m f ≡ x → Walks F a m root (cond b (arrive F a m f es x) (fails F a because_denied s 0))
  by_grant s es f p true g (words v) e = arrives p g (v, e)
  by_grant s es f p true g (cause c) e = outside p g e
  by_grant s es f p false g x e = denied p g

  by_page : (s : Spot) (es : List Seen) (f : ℕ) → PageAt F a m root s es f → Walks F a m root (at_page F a m s f es)
  by_page s es f p = by_grant s es f p (granted F a es) refl (m f) refl

  table_read : (d f w : ℕ) → TableWord F a m root d f w → (b c : Bool) → is_absent (F.reads table_level w) ≡ b → is_page (F.reads table_level w) ≡ c
      → Walks F a m root (cond b (fails F a because_absent (in_frame F a m root f) 0) (cond c (at_page F a m (in_frame F a m root f) (F.reads table_level w).value (seen (in_root F a m root) d ∷ seen (in_frame F a m root f) w ∷ [])) (fails F a because_malformed (in_frame F a m root f) 0)))
  table_read d f w t true c p q = absent_table t p
  table_read d f w t false true p q = by_page _ _ _ (small t p q)
  table_read d f w t false false p q = malformed_table t p q

  table_frame : (d f : ℕ) → TableNamed F a m root d f → (x : Contents) → m f ≡ x → Walks F a m root (in_table F a m (seen (in_root F a m root) d) (in_frame F a m root f) x)
  table_frame d f n (words v) e = table_read d f (v (table_index a.address)) (record { named = n; stands = (v, e, refl) }) _ _ refl refl
  table_frame d f n (cause c) e = no_table n e

  directory_read : (d : ℕ) → DirectoryWord F a m root d → (b t p : Bool) → is_absent (F.reads directory_level d) ≡ b → is_table (F.reads directory_level d) ≡ t → is_page (F.reads directory_level d) ≡ p
      → Walks F a m root (cond b (fails F a because_absent (in_root F a m root) 0) (cond t (at_table F a m (seen (in_root F a m root) d) (F.reads directory_level d).value) (cond p (at_page F a m (in_root F a m root) ((F.reads directory_level d).value + table_index a.address) (seen (in_root F a m root) d ∷ [])) (fails F a because_malformed (in_root F a m root) 0))))
  directory_read d h true t p x y z = absent_directory h x
  directory_read d h false true p x y z =
      table_frame d (F.reads directory_level d).value (record { stands = h; present = x; table = y; frame = refl }) (m (F.reads directory_level d).value) refl
  directory_read d h false false true x y z = by_page _ _ _ (large h x y z)
  directory_read d h false false false x y z = malformed_directory h x y z

  root_frame : (x : Contents) → m root ≡ x → Walks F a m root (in_directory F a m (in_root F a m root) x)
  root_frame (words v) e = directory_read (v (directory_index a.address)) (v, e, refl) _ _ _ refl refl refl
  root_frame (cause c) e = no_root e

  follows : Walks F a m root (walk_from F a m root)
  follows = root_frame (m root) refl

  page_only : (s : Spot) (es : List Seen) (f : ℕ) → PageAt F a m root s es f → walk_from F a m root ≡ at_page F a m s f es
  page_only s es f (large h x y z) = rw (h.1, h.2, x, y, z)
  page_only s es f (small t x y) = rw (t.named.stands.1, t.named.stands.2, t.named.present, t.named.table, t.named.frame, t.stands.1, t.stands.2, x, y)

  only : (o : Outcome) → Walks F a m root o → o ≡ walk_from F a m root
  only o (no_root e) = rw e
  only o (absent_directory h x) = rw (h.1, h.2, x)
  only o (malformed_directory h x y z) = rw (h.1, h.2, x, y, z)
  only o (no_table n e) = rw (n.stands.1, n.stands.2, n.present, n.table, n.frame, e)
  only o (absent_table t x) = rw (t.named.stands.1, t.named.stands.2, t.named.present, t.named.table, t.named.frame, t.stands.1, t.stands.2, x)
  only o (malformed_table t x y) = rw (t.named.stands.1, t.named.stands.2, t.named.present, t.named.table, t.named.frame, t.stands.1, t.stands.2, x, y)
  only o (denied p g) = rw (page_only _ _ _ p) (rw g)
  only o (outside p g e) = rw (page_only _ _ _ p) (rw (g, e))
  only o (arrives p g h) = rw (page_only _ _ _ p) (rw (g, h.1))

  pub by_rules : ByRules F a m root (walk_from F a m root)
  by_rules = record { holds = follows; only = only }

  pub equal_by_rules : (o : Outcome) → o ≡ walk_from F a m root → ByRules F a m root o
  equal_by_rules o e = rw e by_rules
