-- Which words memory has after writes, and that marks only raise them.
use Rattle.std.proofs.lemmas.Bool.Decides.{nat_tests}
use Rattle.std.proofs.Common.{◌≡◌, ℕ, ◌%◌, ◌<◌, true, false, cond, ◌&&◌, eqb, List, [], ◌∷◌, ◌++◌, refl, ap, ◌∙◌, arith}
use Rattle.std.proofs.lemmas.Bool.{cond-true, eq-eqb, or_parts}
use Rattle.memory.specs.Memory.{Contents, Memory, cause, changed, frame_words, has_words, stored, words}
use Rattle.paging.specs.Formats.{Format}
use Rattle.walk.specs.Marking.{Write, put, put_all}
use Rattle.runs.specs.Histories.{writes_to}
use Rattle.runs.specs.Laws.{last_put, word_at, word_in}
use Rattle.runs.proofs.Basics.{both_false, by_eq₂}
use Rattle.runs.proofs.Moments.{SmallWrites}
use Rattle.runs.proofs.Sound.{Raises, Up, more, same}

-- ONE WRITE

changed_same : (c : Contents) (i w : ℕ) → has_words c ≡ true → word_in (changed c i w) i ≡ w
changed_same (words v) i w h = cond-true (eqb (i % frame_words) (i % frame_words)) w (v i) (eq-eqb _ _ refl)
changed_same (cause c) i w h = cc

changed_other : (c : Contents) (i j w : ℕ) → i < 1024 → j < 1024 → (i ≡ j → ⊥) → word_in (changed c i w) j ≡ word_in c j
changed_other c i j w a b n = grind (arith, nat_tests)

has_changed : (c : Contents) (i w : ℕ) → has_words (changed c i w) ≡ has_words c
has_changed c i w = grind (arith, nat_tests)

module _ (m : Memory) (f i w : ℕ) where
  pub has_stored : (g : ℕ) → has_words (stored m f i w g) ≡ has_words (m g)
  has_stored g = grind (arith, nat_tests, has_changed (m g) i w)

  pub word_stored_same : has_words (m f) ≡ true → word_at (stored m f i w) f i ≡ w
  word_stored_same h = rw (eq-eqb f f refl) (changed_same (m f) i w h)

  pub word_stored_other : (g j : ℕ) → i < 1024 → j < 1024 → ((f ≡ g) × (i ≡ j) → ⊥) → word_at (stored m f i w) g j ≡ word_at m g j
  word_stored_other g j a b n = grind (arith, nat_tests, changed_other)

  -- in either case
  word_stored : (g j : ℕ) → has_words (m g) ≡ true → i < 1024 → j < 1024 → word_at (stored m f i w) g j ≡ cond (eqb f g && eqb i j) w (word_at m g j)
  word_stored g j h a b = grind (arith, nat_tests, word_stored_same, word_stored_other)

-- WRITES IN THEIR ORDER

pub put_all_append : (m : Memory) (xs ys : List Write) → put_all m (xs ++ ys) ≡ put_all (put_all m xs) ys
put_all_append m [] ys = refl
put_all_append m (x ∷ xs) ys = put_all_append (put m x) xs ys

pub has_put_all : (m : Memory) (xs : List Write) (g : ℕ) → has_words (put_all m xs g) ≡ has_words (m g)
has_put_all m [] g = refl
has_put_all m (x ∷ xs) g = has_put_all (put m x) xs g ∙ has_stored m x.frame x.index x.word g

pub small_append : (xs ys : List Write) → SmallWrites xs → SmallWrites ys → SmallWrites (xs ++ ys)
small_append [] ys p q = q
small_append (x ∷ xs) ys p q = (p.0, small_append xs ys p.1 q)

pub put_all_other : (m : Memory) (f i : ℕ) (xs : List Write) → SmallWrites xs → i < 1024 → writes_to f i xs ≡ false → word_at (put_all m xs) f i ≡ word_at m f i
put_all_other m f i [] s a n = refl
put_all_other m f i (x ∷ xs) s a n =
    let k = or_parts (eqb x.frame f && eqb x.index i) (writes_to f i xs) n in
    put_all_other (put m x) f i xs s.1 a k.1 ∙ word_stored_other m x.frame x.index x.word f i s.0 a (both_false _ _ _ _ k.0)

pub last_put_is : (m : Memory) (f i : ℕ) (xs : List Write) → has_words (m f) ≡ true → i < 1024 → SmallWrites xs → word_at (put_all m xs) f i ≡ last_put f i xs (word_at m f i)
last_put_is m f i [] h a s = refl
last_put_is m f i (x ∷ xs) h a s =
    last_put_is (put m x) f i xs (has_stored m x.frame x.index x.word f ∙ h) a s.1
    ∙ ap (last_put f i xs) (word_stored m x.frame x.index x.word f i h s.0 a)

pub last_put_append : (f i : ℕ) (xs ys : List Write) (d : ℕ) → last_put f i (xs ++ ys) d ≡ last_put f i ys (last_put f i xs d)
last_put_append f i [] ys d = refl
last_put_append f i (x ∷ xs) ys d = last_put_append f i xs ys (cond (eqb x.frame f && eqb x.index i) x.word d)

-- MARKS

pub up_trans : {F : Format} {u w x : ℕ} → Up F u w → Up F w x → Up F u x
up_trans p same = p
up_trans p (more l k q) = more l k (up_trans p q)

module _ (F : Format) where
  pub raises_refl : (m : Memory) → Raises F m m
  raises_refl m = record { has = λ f. refl; up = λ f i a. same }

  pub raises_trans : {m n q : Memory} → Raises F m n → Raises F n q → Raises F m q
  raises_trans x y = record { has = λ f. y.has f ∙ x.has f; up = λ f i a. up_trans (x.up f i a) (y.up f i a) }

  changed_up : (c : Contents) (i l k : ℕ) → Up F (word_in c i) (word_in (changed c i (F.marks l k (word_in c i))) i)
  changed_up (words v) i l k = rw (changed_same (words v) i (F.marks l k (v i)) refl) (more l k same)
  changed_up (cause c) i l k = same

  -- a mark raises; in a frame without words it changes nothing
  pub raises_mark : (m : Memory) (f i l k : ℕ) → i < 1024 → Raises F m (stored m f i (F.marks l k (word_at m f i)))
  raises_mark m f i l k a = record { has = has_stored m f i (F.marks l k (word_at m f i)); up = go }
    where
      at : Up F (word_at m f i) (word_at (stored m f i (F.marks l k (word_at m f i))) f i)
      at = rw (eq-eqb f f refl) (changed_up (m f) i l k)

      go : (g j : ℕ) → j < 1024 → Up F (word_at m g j) (word_at (stored m f i (F.marks l k (word_at m f i))) g j)
      go g j b = by_eq₂ f g i j (λ t. Up F (word_at m g j) (word_at (stored m f i (F.marks l k (word_at m f i))) g j)) (λ p q. rw (← p, ← q) at)
          (λ n. rw (word_stored_other m f i (F.marks l k (word_at m f i)) g j a b n) same)
