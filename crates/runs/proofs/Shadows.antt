-- What tests of a shadow say, what shadows a thing, and what a directory's word names.
use Rattle.std.proofs.lemmas.Bool.Decides.{nat_tests}
use Rattle.std.proofs.Common.{◌≡◌, ℕ, Bool, true, false, cond, sym, refl, ap, ◌∙◌, arith}
use Rattle.std.proofs.lemmas.Bool.{eq-eqb, eqb-true}
use Rattle.memory.specs.Answers.{Answer}
use Rattle.paging.specs.Terms.{is_table}
use Rattle.slot.specs.Slot.{is_directory_of, is_nothing, is_split_of, is_table_of, lags, protects, shadow_of, shadows, with_sync}
use Rattle.slot.specs.declared.slots.Shadow.{Shadow}
use Rattle.slot.specs.declared.slots.Shadow.TheVariants.{Nothing, Directory, Table, Split}
use Rattle.slot.specs.declared.slots.SyncState.{SyncState}
use Rattle.slot.specs.declared.slots.SyncState.TheVariants.{Protected, Unsynchronised}
use Rattle.slot.specs.declared.slots.Thing.{Thing}
use Rattle.slot.specs.declared.slots.Thing.TheVariants as thing
use Rattle.runs.specs.Unit.{thing_named}
use Rattle.runs.proofs.Sound.{guards}

-- TESTS

pub is_nothing_at : (x : Shadow) → is_nothing x ≡ true → x ≡ Nothing
is_nothing_at x e = grind (arith, nat_tests)

pub is_directory_at : (f : ℕ) (x : Shadow) → is_directory_of f x ≡ true → x ≡ Directory f
is_directory_at f x e = grind (arith, nat_tests)

pub is_table_at : (f : ℕ) (x : Shadow) → is_table_of f x ≡ true → (y : SyncState) × (x ≡ Table f y)
is_table_at f (Table g y) e = (y, ap (λ (n : ℕ). Table n y) (eqb-true g f e))
is_table_at f x e = absurd cc

pub is_split_at : (f : ℕ) (x : Shadow) → is_split_of f x ≡ true → x ≡ Split f
is_split_at f x e = grind (arith, nat_tests)

pub directory_here : (f : ℕ) → is_directory_of f (Directory f) ≡ true
directory_here f = eq-eqb f f refl

-- a shadow of what another one shadows is of the same directory
pub directory_kept : (f : ℕ) {x y : Shadow} → shadows x (thing.Directory f) ≡ shadows y (thing.Directory f) → x ≡ Directory f → y ≡ Directory f
directory_kept f {x} {y} same e = is_directory_at f y (sym same ∙ ap (is_directory_of f) e ∙ directory_here f)

pub table_here : (f : ℕ) (y : SyncState) → is_table_of f (Table f y) ≡ true
table_here f y = eq-eqb f f refl

-- what protects a frame is a protected table of it
pub protected_table : (f : ℕ) (x : Shadow) → protects f x ≡ true → x ≡ Table f Protected
protected_table f x e = grind (arith, nat_tests)

-- a frame that no directory and no protected table shadows is not guarded
pub unguarded : (f : ℕ) (x : Shadow) → is_directory_of f x ≡ false → protects f x ≡ false → guards f x ≡ false
unguarded f x p q = grind (arith, nat_tests)

-- THINGS

pub nothing_shadows : (x : Thing) → shadows Nothing x ≡ false
nothing_shadows x = grind (arith, nat_tests)

-- what a slot shadows that was perhaps emptied, it shadowed
pub emptied_shadows : (b : Bool) (x : Shadow) (t : Thing) → shadows (cond b Nothing x) t ≡ true → shadows x t ≡ true
emptied_shadows b x t e = grind (arith, nat_tests, nothing_shadows t)

-- what shadows a thing is not nothing
pub filled : (x : Shadow) (t : Thing) → shadows x t ≡ true → is_nothing x ≡ false
filled x t e = grind (arith, nat_tests, nothing_shadows t)

-- how a slot shadows a thing at first
pub new_shadows : (x : Thing) → shadows (shadow_of x) x ≡ true
new_shadows x = grind (arith, nat_tests)

pub new_calm : (x : Thing) → lags (shadow_of x) ≡ false
new_calm x = grind (arith, nat_tests)

-- no unsynchronised table is in step
pub calm_no_table : {A : Type 0} {x : Shadow} {f : ℕ} → lags x ≡ false → x ≡ Table f Unsynchronised → A
calm_no_table calm e = cc

pub new_protected : (x : Thing) (f : ℕ) → shadow_of x ≡ Table f Unsynchronised → ⊥
new_protected x f e = cc (new_calm x)

pub new_directory : (x : Thing) (f : ℕ) → shadow_of x ≡ Directory f → x ≡ thing.Directory f
new_directory x f e = grind (arith, nat_tests)

-- it is of that thing alone
pub new_only : (x y : Thing) → shadows (shadow_of x) y ≡ true → x ≡ y
new_only x y e = grind (arith, nat_tests)

-- WHAT A WORD NAMES

pub named_by : (r : Answer) (b : Bool) → is_table r ≡ b → thing_named r ≡ cond b (thing.Table r.value) (thing.Split r.value)
named_by r b e = rw e

-- by what its slot shadows
named_as : (r : Answer) (P : Bool → Type 0) (x : Shadow) → (shadows x (thing.Table r.value) ≡ true → P true) → (shadows x (thing.Split r.value) ≡ true → P false) → shadows x (thing_named r) ≡ true → P (is_table r)
named_as r P x t s = elim (is_table r) as (λ b. shadows x (cond b (thing.Table r.value) (thing.Split r.value)) ≡ true → P b) [ true ↦ t | false ↦ s ]

-- where its slot shadows a table, a split or a directory
pub named_table : (r : Answer) (f : ℕ) (y : SyncState) → shadows (Table f y) (thing_named r) ≡ true → (is_table r ≡ true) × (r.value ≡ f)
named_table r f y = named_as r (λ b. (b ≡ true) × (r.value ≡ f)) (Table f y) (λ e. (refl, sym (eqb-true f r.value e))) (λ e. absurd cc)

pub named_split : (r : Answer) (f : ℕ) → shadows (Split f) (thing_named r) ≡ true → (is_table r ≡ false) × (r.value ≡ f)
named_split r f = named_as r (λ b. (b ≡ false) × (r.value ≡ f)) (Split f) (λ e. absurd cc) (λ e. (refl, sym (eqb-true f r.value e)))

pub named_no_directory : (r : Answer) (f : ℕ) → shadows (Directory f) (thing_named r) ≡ true → ⊥
named_no_directory r f = named_as r (λ b. ⊥) (Directory f) (λ e. cc) (λ e. cc)

-- THE STATE OF A TABLE

-- the same thing, a table perhaps in another state
pub data Alike : Shadow → Shadow → Type 0 where
  as_is : {x : Shadow} → Alike x x
  state : {f : ℕ} {y z : SyncState} → Alike (Table f y) (Table f z)

pub alike_sym : {x y : Shadow} → Alike x y → Alike y x
alike_sym as_is = as_is
alike_sym state = state

pub alike_shadows : {x y : Shadow} → Alike x y → (t : Thing) → shadows x t ≡ shadows y t
alike_shadows as_is t = refl
alike_shadows state (thing.Directory g) = refl
alike_shadows state t = refl

pub alike_directory : {x y : Shadow} → Alike x y → (r : ℕ) → y ≡ Directory r → x ≡ Directory r
alike_directory as_is r e = e
alike_directory state r e = cc

pub alike_split : {x y : Shadow} → Alike x y → (f : ℕ) → y ≡ Split f → x ≡ Split f
alike_split as_is f e = e
alike_split state f e = cc

pub alike_table : {x y : Shadow} → Alike x y → (f : ℕ) (s : SyncState) → y ≡ Table f s → (t : SyncState) × (x ≡ Table f t)
alike_table as_is f s e = (s, e)
alike_table (state {y = y}) f s e = (y, cc)

pub sync_alike : (b : Bool) (y : SyncState) (x : Shadow) → Alike (cond b (with_sync y x) x) x
sync_alike true y (Table f z) = state
sync_alike b y x = as_is
