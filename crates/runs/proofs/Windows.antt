-- What a word was raised from in a window it is still raised from, where no store went there; memory has the last word written.
use Rattle.std.proofs.lemmas.Bool.Decides.{nat_tests}
use Rattle.std.proofs.Common.{◌≡◌, ℕ, ◌/◌, ◌%◌, ◌^◌, ◌<◌, Bool, true, false, cond, eqb, List, [], ◌∷◌, sym, refl, ap, ◌∙◌, subst, mod-lt, lit<, arith}
use Rattle.std.proofs.lemmas.Bool.{cond-false, or_parts}
use Rattle.memory.specs.Memory.{Memory, frame_words, has_words}
use Rattle.paging.specs.Formats.{Format}
use Rattle.paging.specs.Terms.{store}
use Rattle.walk.specs.Marking.{Write, put_all}
use Rattle.walk.specs.Walk.{Asked, directory_index, table_index, word_index}
use Rattle.runs.specs.Histories.{Event, History, Opening, Sometime, at_end, at_opening, between, covers, earlier, marks_in, memory_at, memory_between, stored_since, stores_in, went, writes_to}
use Rattle.runs.specs.Laws.{last_put, last_written, word_at}
use Rattle.runs.specs.Terms.{Through}
use Rattle.runs.proofs.Memories.{has_put_all, last_put_append, last_put_is, put_all_other, up_trans}
use Rattle.runs.proofs.Moments.{Raised, SmallWrites}
use Rattle.runs.proofs.Sound.{Up}

pub has_at : (o : Opening) (h : History) (f : ℕ) → has_words (memory_at o h f) ≡ has_words (o.memory f)
has_at o [] f = refl
has_at o (e ∷ h) f = has_put_all (memory_between o e h) (stores_in e) f ∙ has_put_all (memory_at o h) (marks_in e) f ∙ has_at o h f

-- WINDOWS

module _ (o : Opening) where
  pub present : (P : Memory → Type 0) (p : ℕ) (h : History) → P (memory_at o h) → Sometime o P p h
  present P p [] x = at_opening x
  present P p (e ∷ h) x = at_end x

  -- the same frames have words at every moment
  abbrev pub SameFrames : Memory → Type 0
  SameFrames m = (f : ℕ) → has_words (m f) ≡ has_words (o.memory f)

  pub sometime_has : {P Q : Memory → Type 0} {p : ℕ} {h : History} → ((m : Memory) → SameFrames m → P m → Q m) → Sometime o P p h → Sometime o Q p h
  sometime_has f (at_opening q) = at_opening (f o.memory (λ g. refl) q)
  sometime_has f (at_end {e} {h} q) = at_end (f (memory_at o (e ∷ h)) (has_at o (e ∷ h)) q)
  sometime_has f (between {e} {h} k q) = between k (f (memory_between o e h) (λ g. has_put_all (memory_at o h) (marks_in e) g ∙ has_at o h g) q)
  sometime_has f (earlier k q) = earlier k (sometime_has f q)

  -- the point just before the store of an access
  pub before_store : (P : Memory → Type 0) (p : ℕ) (a : Asked) (w : ℕ) (r : Through) (h : History) → P (memory_between o (went a w r) h) → Sometime o P p (went a w r ∷ h)
  before_store P p a w r h x = go r.marks refl
    where
      go : (xs : List Write) → r.marks ≡ xs → Sometime o P p (went a w r ∷ h)
      go [] e = earlier refl (present P p h (subst (λ (xs : List Write). P (put_all (memory_at o h) xs)) e x))
      go (y ∷ ys) e = between e x

-- INDICES

small : (n : ℕ) → n % frame_words < 1024
small n = mod-lt n (lit< tt)

pub word_index_small : (a : ℕ) → word_index a < 1024
word_index_small a = small (a / 2 ^ 2)

pub directory_index_small : (a : ℕ) → directory_index a < 1024
directory_index_small a = small (a / 2 ^ 22)

pub table_index_small : (a : ℕ) → table_index a < 1024
table_index_small a = small (a / 2 ^ 12)

pub small_stores : (e : Event) → SmallWrites (stores_in e)
small_stores (went a w r) = go (eqb a.kind store)
  where
    go : (b : Bool) → SmallWrites (cond b (record { frame = r.target; index = word_index a.address; word = w } ∷ []) [])
    go true = (word_index_small a.address, tt)
    go false = tt
small_stores e = tt

-- an event with marks covers no page
marks_uncovered : (e : Event) (p : ℕ) {x : Write} {xs : List Write} → marks_in e ≡ x ∷ xs → covers e p ≡ false
marks_uncovered e p m = grind (arith, nat_tests)

-- the window goes on through an event that does not cover the page: neither its store nor one before went there
unstored : (f i p : ℕ) (e : Event) (h : History) → covers e p ≡ false → stored_since f i p (e ∷ h) ≡ false → (writes_to f i (stores_in e) ≡ false) × (stored_since f i p h ≡ false)
unstored f i p e h c n = or_parts (writes_to f i (stores_in e)) (stored_since f i p h) (sym (cond-false (covers e p) false _ c) ∙ n)

module _ (F : Format) (o : Opening) where
  -- what a word was raised from in the window it is still raised from, where no store went there
  pub since : (x f i p : ℕ) (h : History) → Raised F o h → i < 1024 → Sometime o (λ m. Up F x (word_at m f i)) p h → stored_since f i p h ≡ false → Up F x (word_at (memory_at o h) f i)
  since x f i p [] r a (at_opening u) n = u
  since x f i p (e ∷ h) r a (at_end u) n = u
  since x f i p (e ∷ h) r a (between m u) n =
      rw (put_all_other (memory_between o e h) f i (stores_in e) (small_stores e) a (unstored f i p e h (marks_uncovered e p m) n).0) u
  since x f i p (e ∷ h) r a (earlier c u) n =
      let k = unstored f i p e h c n in
      rw (put_all_other (memory_between o e h) f i (stores_in e) (small_stores e) a k.0) (up_trans (since x f i p h r.2 a u k.1) (r.0.up f i a))

  pub last_is : (f i : ℕ) (h : History) → has_words (o.memory f) ≡ true → i < 1024 → Raised F o h → word_at (memory_at o h) f i ≡ last_written o f i h
  last_is f i [] b a r = refl
  last_is f i (e ∷ h) b a r =
      last_put_is (memory_between o e h) f i (stores_in e) (has_put_all (memory_at o h) (marks_in e) f ∙ has_at o h f ∙ b) a (small_stores e)
      ∙ ap (last_put f i (stores_in e)) (last_put_is (memory_at o h) f i (marks_in e) (has_at o h f ∙ b) a r.1 ∙ ap (last_put f i (marks_in e)) (last_is f i h b a r.2))
      ∙ sym (last_put_append f i (marks_in e) (stores_in e) (last_written o f i h))
