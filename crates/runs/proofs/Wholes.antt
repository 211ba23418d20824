-- What holds of whole runs: their law, their tallies, and that refusals change nothing.
use Rattle.std.proofs.Common.{◌≡◌, ℕ, ◌%◌, ◌<◌, Bool, true, false, cond, ◌||◌, eqb, ltb, leb, ◌⊎◌, List, [], ◌∷◌, is_some, Some, None, Option, sym, refl, ap, ◌∙◌, subst, inl, inr, arith}
use Rattle.std.proofs.lemmas.Bool.{cond-true, cond_both}
use Rattle.std.proofs.lemmas.Bool.Decides.{nat_tests}
use Rattle.memory.specs.Memory.{has_words, stored}
use Rattle.paging.specs.Formats.{Format, LawsOfMarking}
use Rattle.policies.specs.Orders.{OrdersKept, Rule}
use Rattle.walk.specs.Walk.{Asked, Outcome, faulted, reached, walk_from}
use Rattle.shadow.specs.declared.slots.SlotTable.{SlotTable}
use Rattle.runs.specs.Histories.{History, Opening}
use Rattle.runs.specs.Laws.{LawfulFrom, UnlessClosed, after_call}
use Rattle.runs.specs.Runs.{AddsUp, RefusalsKeep, Run, RunsLawful, RunsToCloseLawful, TalliesAddUp, goes, opened, replies, replies_to_close}
use Rattle.runs.specs.Terms.{Call, Reply, Tallies, access, close_run, closed, deliver, done, flush, flush_all, flush_page, give_up, no_exit, open_run, poke, refused, set_mode, switch, switch_root, true_exit}
use Rattle.runs.specs.Unit.{Ended, Running, State, access_by, access_ends, asked_in, call_limit, counted, hit_target, in_run, is_pending, no_tallies, opened_at, out_of_run, refuse, step, step_in, store_traced, switch_ends, traced, unless_full, unless_pending, walk_ends}
use Rattle.runs.proofs.RunsGood.{law_of}

-- WHAT A CALL CAN END IN

-- Where a call ends, from a run r: refused, with the state as it was; going on, with the tallies as they were or with one call
-- counted; or closed.
pub data Ends (s : State) (r : Running) : Ended → Type 0 where
  kept : (n : ℕ) → Ends s r (refuse s n)
  on : (e : Ended) (k : Running) → e.next.run ≡ Some k → ((n : ℕ) → e.reply ≡ refused n → ⊥)
      → (k.hart.tallies ≡ r.hart.tallies) ⊎ ((x : ℕ) × (v : ℕ) × (x < 6) × (k.hart.tallies ≡ counted x v r.hart.tallies)) → Ends s r e
  over : (e : Ended) (t : Tallies) → e.reply ≡ closed t → e.next.run ≡ None → Ends s r e

-- the exit of an access that walked
exit_small : (a : Asked) (k f : ℕ) (t : SlotTable) → (traced a k f t).exit < 6
exit_small a k f t = unfold store_traced in grind (arith, nat_tests)

module _ (F : Format) (R : Rule) (s : State) (r : Running) where
  walk_ending : (a : Asked) (w : ℕ) (x : Outcome) → Ends s r (walk_ends R F s r a w x)
  walk_ending a w (reached f es) = on _ _ refl (λ n e. cc) (inr (_, _, exit_small a _ f _, refl))
  walk_ending a w (faulted x) = on _ _ refl (λ n e. cc) (inr (true_exit, 0, omega arith, refl))

  access_ending : (a : Asked) (w : ℕ) → Ends s r (access_ends R F s r a w)
  unfolding access_ends
  access_ending a w = go (hit_target F a r.hart.root r.table)
    where
      go : (x : Option ℕ) → Ends s r (access_by R F s r a w x)
      go (Some f) = on _ _ refl (λ n e. cc) (inr (no_exit, 0, omega arith, refl))
      go None = walk_ending a w (walk_from F a s.memory r.hart.root)

  unless : (e : Ended) → Ends s r e → Ends s r (unless_pending s r e)
  unless e p = cond_both (is_some r.hart.pending) (refuse s 6) e (Ends s r) (λ z. kept 6) (λ z. p)

  counting : (e : Ended) → Ends s r e → Ends s r (unless_full s r e)
  counting e p = unless _ (cond_both (leb call_limit r.hart.tallies.calls) (refuse s 7) e (Ends s r) (λ z. kept 7) (λ z. p))

  switching : (f : ℕ) → Ends s r (switch_ends R s r f)
  unfolding switch_ends
  switching f = on _ _ refl (λ n e. cc) (inr (switch, _, omega arith, refl))

  settling : (e : Ended) (x : Bool) → Ends s r e → Ends s r (cond x e (refuse s 10))
  settling e x p = cond_both x e (refuse s 10) (Ends s r) (λ z. p) (λ z. kept 10)

  pub ending : (c : Call) → Ends s r (in_run R F s r c)
  ending (open_run f n) = kept 1
  ending (access k a w) = counting _ (cond_both (eqb (a % 4) 0) _ (refuse s 5) (Ends s r) (λ z. access_ending (asked_in r k a) w) (λ z. kept 5))
  ending flush_all = counting _ (on _ _ refl (λ n e. cc) (inr (flush, 0, omega arith, refl)))
  ending (flush_page a) = counting _ (on _ _ refl (λ n e. cc) (inr (flush, 0, omega arith, refl)))
  ending (switch_root f) = counting _ (cond_both (has_words (s.memory f)) _ (refuse s 3) (Ends s r) (λ z. switching f) (λ z. kept 3))
  ending (set_mode p) = unless _ (on _ _ refl (λ n e. cc) (inl refl))
  ending (deliver x) = settling _ (is_pending x r.hart.pending) (on _ _ refl (λ n e. cc) (inl refl))
  ending (give_up x) = settling _ (is_pending x r.hart.pending) (on _ _ refl (λ n e. cc) (inl refl))
  ending close_run = unless _ (over _ r.hart.tallies refl refl)
  ending (poke f i w) = kept 1

-- REFUSALS

module _ (F : Format) (R : Rule) where
  -- a state that a refusal leaves
  abbrev Keeps : State → ℕ → Ended → Type 0
  Keeps s n e = e.reply ≡ refused n → e.next ≡ s

  kept_state : (s : State) (r : Running) (n : ℕ) {e : Ended} → Ends s r e → Keeps s n e
  kept_state s r n (kept k) z = refl
  kept_state s r n (on e k q other t) z = absurd (other n z)
  kept_state s r n (over e t q none) z = cc

  -- done after two tests, or refused by one of them
  done_kept : (s : State) (n j k x : ℕ) (a b : Bool) (t : State) → Keeps s n (cond a (refuse s j) (cond b (record { reply = done x; next = t }) (refuse s k)))
  done_kept s n j k x true b t z = refl
  done_kept s n j k x false true t z = cc
  done_kept s n j k x false false t z = refl

  outside_kept : (s : State) (c : Call) (n : ℕ) → Keeps s n (out_of_run R F s c)
  outside_kept s (open_run f k) n = done_kept s n 4 3 no_exit (ltb k 2 || ltb 8 k) (has_words (s.memory f)) (opened_at R s.memory f k)
  outside_kept s (poke f i w) n = done_kept s n 8 3 no_exit (ltb 1023 i) (has_words (s.memory f)) (record { memory = stored s.memory f i w; run = None })
  outside_kept s c n = λ z. refl

  pub refusals_keep : RefusalsKeep F R
  refusals_keep s c n = go s.run
    where
      go : (x : Option Running) → Keeps s n (step_in R F s c x)
      go None = outside_kept s c n
      go (Some r) = kept_state s r n (ending F R s r c)

-- TALLIES

-- one exit more, of a kind that there is
adds_counted : (x v : ℕ) (t : Tallies) → x < 6 → AddsUp t → AddsUp (counted x v t)
adds_counted x v t l e = grind (arith, nat_tests)

module _ (F : Format) (R : Rule) where
  adds_on : (s : State) (r k : Running) {e : Ended} → Ends s r e → s.run ≡ Some r → e.next.run ≡ Some k → AddsUp r.hart.tallies → AddsUp k.hart.tallies
  adds_on s r k (kept n) p q sum = let same_run : r ≡ k = cc in rw (← same_run) sum
  adds_on s r k (on e j is other (inl same)) p q sum = let same_run : j ≡ k = cc in rw (← same_run, same) sum
  adds_on s r k (on e j is other (inr z)) p q sum = let same_run : j ≡ k = cc in rw (← same_run, z.3) (adds_counted z.0 z.1 r.hart.tallies z.2 sum)
  adds_on s r k (over e t z none) p q sum = cc

  tallies_in : Option Running → Tallies
  tallies_in None = no_tallies
  tallies_in (Some r) = r.hart.tallies

  -- a run begins with no tallies
  opening_adds : (o : Opening) (n : ℕ) (r : Running) → (opened_at R o.memory o.root n).run ≡ Some r → AddsUp r.hart.tallies
  unfolding opened_at tallies_in
  opening_adds o n r e = subst AddsUp (ap tallies_in e) refl

  pub tallies_add_up : TalliesAddUp F R
  tallies_add_up o h s (opened n l u has bounded) r e = opening_adds o n r e
  tallies_add_up o h s (goes {h = h'} {s = s'} run c open_now) k e = go s'.run refl (λ r q. tallies_add_up o h' s' run r q)
    where
      go : (x : Option Running) → s'.run ≡ x → ((r : Running) → s'.run ≡ Some r → AddsUp r.hart.tallies) → AddsUp k.hart.tallies
      go None q sums = cc
      go (Some r) q sums = adds_on s' r k (ending F R s' r c) q (sym (ap (λ y. (step_in R F s' c y).next.run) q) ∙ e) (sums r q)

-- WHOLE RUNS

module _ (F : Format) (laws : LawsOfMarking F) (R : Rule) (kept_order : OrdersKept R) (o : Opening) where
  -- a run that no reply closes is still open
  still_open : (s : State) (r : Running) {e : Ended} → Ends s r e → s.run ≡ Some r → ((t : Tallies) → e.reply ≡ closed t → ⊥) → is_some e.next.run ≡ true
  still_open s r (kept n) q other = ap is_some q
  still_open s r (on e k is not_refused t) q other = ap is_some is
  still_open s r (over e t z none) q other = absurd (other t z)

  step_open : (s : State) (c : Call) → is_some s.run ≡ true → ((t : Tallies) → (step R F s c).reply ≡ closed t → ⊥) → is_some (step R F s c).next.run ≡ true
  step_open s c open_now = go s.run refl
    where
      go : (x : Option Running) → s.run ≡ x → ((t : Tallies) → (step R F s c).reply ≡ closed t → ⊥) → is_some (step R F s c).next.run ≡ true
      go None q other = cc
      go (Some r) q other = still_open s r (subst (λ y. Ends s r (step_in R F s c y)) (sym q) (ending F R s r c)) q other

  unless_closed : (x : Reply) (P : Type 0) → (((t : Tallies) → x ≡ closed t → ⊥) → P) → UnlessClosed x P
  unless_closed (closed t) P p = tt
  unless_closed x P p = p (λ t e. cc)

  -- Lists of answers that begin with that of the first call, and while the run is open go on with those to the calls after it.
  module _ (answers : State → List Call → List Reply) (more : State → Call → List Call → List Reply)
      (first : (s : State) (c : Call) (cs : List Call) → answers s (c ∷ cs) ≡ (step R F s c).reply ∷ more s c cs)
      (going : (s : State) (c : Call) (cs : List Call) → is_some (step R F s c).next.run ≡ true → more s c cs ≡ answers (step R F s c).next cs) where
    lawful_answers : (cs : List Call) (h : History) (s : State) → Run F R o h s → is_some s.run ≡ true → LawfulFrom F o h cs (answers s cs)
    lawful_answers [] h s run open_now = tt
    lawful_answers (c ∷ cs) h s run open_now = subst (LawfulFrom F o h (c ∷ cs)) (sym (first s c cs)) (
      law_of F laws R kept_order o h s c run,
      unless_closed _ _ (λ other.
          let still = step_open s c open_now other in
          subst (LawfulFrom F o (after_call o h c (step R F s c).reply) cs) (sym (going s c cs still))
          (lawful_answers cs (after_call o h c (step R F s c).reply) (step R F s c).next (goes run c open_now) still)),
    )

  lawful_from : (cs : List Call) (h : History) (s : State) → Run F R o h s → is_some s.run ≡ true → LawfulFrom F o h cs (replies F R s cs)
  lawful_from = lawful_answers (replies F R) (λ s c cs. replies F R (step R F s c).next cs) (λ s c cs. refl) (λ s c cs e. refl)

  lawful_to_close : (cs : List Call) (h : History) (s : State) → Run F R o h s → is_some s.run ≡ true → LawfulFrom F o h cs (replies_to_close F R s cs)
  lawful_to_close =
      lawful_answers (replies_to_close F R) (λ s c cs. cond (is_some (step R F s c).next.run) (replies_to_close F R (step R F s c).next cs) [])
      (λ s c cs. refl) (λ s c cs e. cond-true _ _ [] e)

pub runs_lawful : (F : Format) → LawsOfMarking F → (R : Rule) → OrdersKept R → RunsLawful F R
runs_lawful F laws R kept_order o n l u has bounded cs =
    lawful_from F laws R kept_order o cs [] (opened_at R o.memory o.root n) (opened n l u has bounded) (unfold opened_at in refl)

pub runs_to_close_lawful : (F : Format) → LawsOfMarking F → (R : Rule) → OrdersKept R → RunsToCloseLawful F R
runs_to_close_lawful F laws R kept_order o n l u has bounded cs =
    lawful_to_close F laws R kept_order o cs [] (opened_at R o.memory o.root n) (opened n l u has bounded) (unfold opened_at in refl)
