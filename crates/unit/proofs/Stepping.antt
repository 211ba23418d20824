-- A call that is refused at its gate, or else does what is said, is a step of the unit; and so it promises what it should.
use Rattle.std.proofs.Common.{◌≡◌, ℕ, ◌%◌, ◌≤◌, Bool, true, false, cond, ◌||◌, eqb, ltb, leb, [], is_some, Some, None, Option, sym, refl, ap, ◌∙◌, subst}
use Rattle.std.proofs.lemmas.Bool.{ltb-false, or_parts}
use Rattle.memory.specs.Memory.{Memory, has_words}
use Rattle.memory.specs.declared.guest.GuestMemory
use Rattle.paging.specs.Formats.{Format}
use Rattle.paging.specs.declared.format.PageFormat
use Rattle.policies.specs.Orders.{Rule}
use Rattle.policies.specs.declared.policy.EvictionPolicy
use Rattle.walk.specs.Walk.{Failure}
use Rattle.runs.specs.Runs.{Bounded, CallsLawful, Lawful, Run, opened}
use Rattle.runs.specs.Terms.{Call, Reply, access, close_run, closed, deliver, done, flush_all, flush_page, give_up, no_exit, open_run, set_mode, switch_root}
use Rattle.runs.specs.Unit.{Ended, Running, State, access_ends, asked_in, call_limit, drop_page, flushed, is_pending, mode_set, opened_at, refuse, resync_all, settled_as, step, switch_ends, unless_full, unless_pending}
use Rattle.engine.specs.Views.{ended}
use Rattle.calls.specs.Gates.{between_runs, count_gate, guarded, in_run, or_else, ready_gate, settle_gate}
use Rattle.calls.specs.Views.{run_in}
use Rattle.unit.specs.Promises.{Begins, Begun, Promised, memory_of, opening, view}
use Rattle.unit.specs.declared.machine.Machine.{Machine}

-- GATES

counting : (s : State) (r : Running) (x : Ended) → guarded s x (count_gate r.hart) ≡ unless_full s r x
counting s r x = go (is_some r.hart.pending) (leb call_limit r.hart.tallies.calls)
  where
    go : (p f : Bool) → guarded s x (or_else (cond f (Some 7) None) (cond p (Some 6) None)) ≡ cond p (refuse s 6) (cond f (refuse s 7) x)
    go true f = refl
    go false true = refl
    go false false = refl

readying : (s : State) (r : Running) (x : Ended) → guarded s x (ready_gate r.hart) ≡ unless_pending s r x
readying s r x = go (is_some r.hart.pending)
  where
    go : (p : Bool) → guarded s x (cond p (Some 6) None) ≡ cond p (refuse s 6) x
    go true = refl
    go false = refl

settling : (s : State) (r : Running) (f : Failure) (x : Ended) → guarded s x (settle_gate f r.hart.pending) ≡ cond (is_pending f r.hart.pending) x (refuse s 10)
settling s r f x = go (is_pending f r.hart.pending)
  where
    go : (p : Bool) → guarded s x (cond p None (Some 10)) ≡ cond p x (refuse s 10)
    go true = refl
    go false = refl

-- THE CALLS, WHETHER OR NOT A RUN IS OPEN

module _ (R : Rule) (F : Format) (m : Memory) where
  abbrev at : Option Running → State
  at o = record { memory = m; run = o }

  access_step : (o : Option Running) (k a w : ℕ)
      → in_run (at o) count_gate (λ r. cond (eqb (a % 4) 0) (access_ends R F (at o) r (asked_in r k a) w) (refuse (at o) 5)) o ≡ step R F (at o) (access k a w)
  access_step None k a w = refl
  access_step (Some r) k a w = counting (at (Some r)) r _

  flush_all_step : (o : Option Running) → in_run (at o) count_gate (λ r. flushed (at o) r (resync_all m r.table)) o ≡ step R F (at o) flush_all
  flush_all_step None = refl
  flush_all_step (Some r) = counting (at (Some r)) r _

  flush_page_step : (o : Option Running) (a : ℕ) → in_run (at o) count_gate (λ r. flushed (at o) r (drop_page r.hart.root a r.table)) o ≡ step R F (at o) (flush_page a)
  flush_page_step None a = refl
  flush_page_step (Some r) a = counting (at (Some r)) r _

  switch_step : (o : Option Running) (f : ℕ) → in_run (at o) count_gate (λ r. cond (has_words (m f)) (switch_ends R (at o) r f) (refuse (at o) 3)) o ≡ step R F (at o) (switch_root f)
  switch_step None f = refl
  switch_step (Some r) f = counting (at (Some r)) r _

  mode_step : (o : Option Running) (p : ℕ) → in_run (at o) ready_gate (λ r. mode_set (at o) r p) o ≡ step R F (at o) (set_mode p)
  mode_step None p = refl
  mode_step (Some r) p = readying (at (Some r)) r _

  deliver_step : (o : Option Running) (x : Failure)
      → in_run (at o) (λ h. settle_gate x h.pending) (λ r. settled_as (at o) r (Some (record { address = x.address; code = x.code }))) o ≡ step R F (at o) (deliver x)
  deliver_step None x = refl
  deliver_step (Some r) x = settling (at (Some r)) r x _

  give_up_step : (o : Option Running) (x : Failure) → in_run (at o) (λ h. settle_gate x h.pending) (λ r. settled_as (at o) r r.hart.last) o ≡ step R F (at o) (give_up x)
  give_up_step None x = refl
  give_up_step (Some r) x = settling (at (Some r)) r x _

  close_step : (o : Option Running) → in_run (at o) ready_gate (λ r. ended (closed r.hart.tallies) (record { memory = m; run = None })) o ≡ step R F (at o) close_run
  close_step None = refl
  close_step (Some r) = readying (at (Some r)) r _

  open_step : (o : Option Running) (f n : ℕ)
      → between_runs (at o) (cond (ltb n 2 || ltb 8 n) (refuse (at o) 4) (cond (has_words (m f)) (ended (done no_exit) (opened_at R m f n)) (refuse (at o) 3))) o ≡ step R F (at o) (open_run f n)
  open_step None f n = refl
  open_step (Some r) f n = refl

-- PROMISES

module _ {M F P : Type 0} (memory : GuestMemory.Ghosts M) (format : PageFormat.Ghosts F) (policy : EvictionPolicy.Ghosts P) where
  abbrev before : Machine M F P → Memory
  before s = memory_of memory format policy s

  abbrev run_of : Machine M F P → Option Running
  run_of s = run_in policy s.plain

  -- what a call leaves, of which it is known how machine s is guarded against it
  abbrev Leaves : Call → Machine M F P → Ended → Type 0
  Leaves c s x = CallsLawful format.format policy.rule → (t : Machine M F P) (r : Reply) → ended r (view memory format policy t) ≡ x → Promised memory format policy c s r t

  promised : (c : Call) (s : Machine M F P) {x : Ended} → x ≡ step policy.rule format.format (view memory format policy s) c → Leaves c s x
  promised c s q lawful t r e = record {
    is = e ∙ q;
    law = subst (λ (x : Ended). Lawful format.format policy.rule (view memory format policy s) c x.reply x.next) (sym (e ∙ q)) (lawful (view memory format policy s) c);
  }

  pub access_promised : (s : Machine M F P) (k a w : ℕ) → Leaves (access k a w) s (in_run (view memory format policy s) count_gate (λ r. cond (eqb (a % 4) 0) (access_ends policy.rule format.format (view memory format policy s) r (asked_in r k a) w) (refuse (view memory format policy s) 5)) (run_of s))
  access_promised s k a w = promised (access k a w) s (access_step policy.rule format.format (before s) (run_of s) k a w)

  pub flush_all_promised : (s : Machine M F P) → Leaves flush_all s (in_run (view memory format policy s) count_gate (λ r. flushed (view memory format policy s) r (resync_all (before s) r.table)) (run_of s))
  flush_all_promised s = promised flush_all s (flush_all_step policy.rule format.format (before s) (run_of s))

  pub flush_page_promised : (s : Machine M F P) (a : ℕ) → Leaves (flush_page a) s (in_run (view memory format policy s) count_gate (λ r. flushed (view memory format policy s) r (drop_page r.hart.root a r.table)) (run_of s))
  flush_page_promised s a = promised (flush_page a) s (flush_page_step policy.rule format.format (before s) (run_of s) a)

  pub switch_promised : (s : Machine M F P) (f : ℕ) → Leaves (switch_root f) s (in_run (view memory format policy s) count_gate (λ r. cond (has_words (before s f)) (switch_ends policy.rule (view memory format policy s) r f) (refuse (view memory format policy s) 3)) (run_of s))
  switch_promised s f = promised (switch_root f) s (switch_step policy.rule format.format (before s) (run_of s) f)

  pub mode_promised : (s : Machine M F P) (p : ℕ) → Leaves (set_mode p) s (in_run (view memory format policy s) ready_gate (λ r. mode_set (view memory format policy s) r p) (run_of s))
  mode_promised s p = promised (set_mode p) s (mode_step policy.rule format.format (before s) (run_of s) p)

  pub deliver_promised : (s : Machine M F P) (x : Failure) → Leaves (deliver x) s (in_run (view memory format policy s) (λ h. settle_gate x h.pending) (λ r. settled_as (view memory format policy s) r (Some (record { address = x.address; code = x.code }))) (run_of s))
  deliver_promised s x = promised (deliver x) s (deliver_step policy.rule format.format (before s) (run_of s) x)

  pub give_up_promised : (s : Machine M F P) (x : Failure) → Leaves (give_up x) s (in_run (view memory format policy s) (λ h. settle_gate x h.pending) (λ r. settled_as (view memory format policy s) r r.hart.last) (run_of s))
  give_up_promised s x = promised (give_up x) s (give_up_step policy.rule format.format (before s) (run_of s) x)

  pub close_promised : (s : Machine M F P) → Leaves close_run s (in_run (view memory format policy s) ready_gate (λ r. ended (closed r.hart.tallies) (record { memory = before s; run = None })) (run_of s))
  close_promised s = promised close_run s (close_step policy.rule format.format (before s) (run_of s))

  pub open_promised : (s : Machine M F P) (f n : ℕ) → Leaves (open_run f n) s (between_runs (view memory format policy s) (cond (ltb n 2 || ltb 8 n) (refuse (view memory format policy s) 4) (cond (has_words (before s f)) (ended (done no_exit) (opened_at policy.rule (before s) f n)) (refuse (view memory format policy s) 3))) (run_of s))
  open_promised s f n = promised (open_run f n) s (open_step policy.rule format.format (before s) (run_of s) f n)

  -- OPENINGS

  module _ (s t : Machine M F P) (f n : ℕ) (bounded : Bounded (before s)) where
    begins : 2 ≤ n → n ≤ 8 → has_words (before s f) ≡ true → view memory format policy t ≡ opened_at policy.rule (before s) f n → Begins memory format policy f n s t
    begins l u has e = record {
      many = l;
      few = u;
      has = has;
      is = e;
      run = subst (Run format.format policy.rule (opening memory format policy f s) []) (sym e) (opened n l u has bounded);
    }

    -- a reply that was no refusal
    other : (k : ℕ) (x y : State) (r : Reply) → ended r x ≡ refuse y k → Begun memory format policy f n s t r
    other k x y r e = subst (Begun memory format policy f n s t) (sym (ap (λ (z : Ended). z.reply) e)) tt

    begun_by : (o : Option Running) (bad has : Bool) (x : State) (r : Reply) → (ltb n 2 || ltb 8 n) ≡ bad → has_words (before s f) ≡ has
        → ended r (view memory format policy t) ≡ between_runs x (cond bad (refuse x 4) (cond has (ended (done no_exit) (opened_at policy.rule (before s) f n)) (refuse x 3))) o
        → Begun memory format policy f n s t r
    begun_by (Some now) bad has x r p q e = other 1 _ x r e
    begun_by None true has x r p q e = other 4 _ x r e
    begun_by None false false x r p q e = other 3 _ x r e
    begun_by None false true x r p q e =
        let no_bad = or_parts (ltb n 2) (ltb 8 n) p in
        subst (Begun memory format policy f n s t) (sym (ap (λ (z : Ended). z.reply) e))
        (begins (ltb-false n 2 no_bad.0) (ltb-false 8 n no_bad.1) q (ap (λ (z : Ended). z.next) e))

    pub begun : (r : Reply)
        → ended r (view memory format policy t) ≡ between_runs (view memory format policy s) (cond (ltb n 2 || ltb 8 n) (refuse (view memory format policy s) 4) (cond (has_words (before s f)) (ended (done no_exit) (opened_at policy.rule (before s) f n)) (refuse (view memory format policy s) 3))) (run_of s)
        → Begun memory format policy f n s t r
    begun r e = begun_by (run_of s) (ltb n 2 || ltb 8 n) (has_words (before s f)) (view memory format policy s) r refl refl e
