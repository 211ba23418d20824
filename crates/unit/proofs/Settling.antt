-- A fault that an access answers waits, and a fault that waits can be settled.
use Rattle.std.proofs.Common.{◌≡◌, ℕ, ◌%◌, Bool, true, false, cond, eqb, leb, is_some, is_ok, Some, None, Ok, Err, Option, Result, sym, refl, ap, ◌∙◌, subst, arith}
use Rattle.std.proofs.lemmas.Bool.{eq-eqb}
use Rattle.memory.specs.declared.refusal.Refusal.{Refusal}
use Rattle.paging.specs.Formats.{Format}
use Rattle.policies.specs.Orders.{Rule}
use Rattle.walk.specs.Walk.{Asked, Failure, Outcome, faulted, reached, walk_from}
use Rattle.runs.specs.Terms.{Reply, access, closed, deliver, done, give_up, refused, through}
use Rattle.runs.specs.Terms as reply
use Rattle.runs.specs.Unit.{Ended, RecordedFault, Running, State, access_by, access_ends, asked_in, call_limit, hit_target, is_pending, refuse, same_failure, settled_as, step, step_in, walk_ends}
use Rattle.engine.specs.Views.{ended}
use Rattle.calls.specs.Replies.{quiet_reply}
use Rattle.memory.specs.declared.guest.GuestMemory
use Rattle.paging.specs.declared.format.PageFormat
use Rattle.policies.specs.declared.policy.EvictionPolicy
use Rattle.unit.specs.Faults.{Waits, waiting, waiting_in}
use Rattle.unit.specs.Promises.{Promised, view}
use Rattle.unit.specs.declared.machine.Machine.{Machine}

clash : {A : Type 0} → ◌≡◌ {A = ℕ} 0 1 → A
clash e = absurd (omega arith)

abbrev LeftWaiting : Ended → Type 0
LeftWaiting e = Waits e.next e.reply

abbrev is_refusal : Reply → Bool
is_refusal (refused n) = true
is_refusal (through x) = false
is_refusal (reply.faulted x) = false
is_refusal (done x) = false
is_refusal (closed x) = false

same : (x : Failure) → same_failure x x ≡ true
same x =
    cc
    (eq-eqb x.address x.address refl, eq-eqb x.reason x.reason refl, eq-eqb x.spot.level x.spot.level refl, eq-eqb x.spot.frame x.spot.frame refl, eq-eqb x.spot.index x.spot.index refl, eq-eqb x.code x.code refl, eq-eqb x.cause x.cause refl)

module _ (R : Rule) (F : Format) where
  module _ (s : State) (r : Running) (a : Asked) (w : ℕ) where
    walked : (o : Outcome) → LeftWaiting (walk_ends R F s r a w o)
    walked (reached f es) = tt
    walked (faulted x) = refl

    looked : (o : Option ℕ) → LeftWaiting (access_by R F s r a w o)
    looked (Some f) = tt
    looked None = walked (walk_from F a s.memory r.hart.root)

    accessed : LeftWaiting (access_ends R F s r a w)
    unfolding access_ends
    accessed = looked (hit_target F a r.hart.root r.table)

  gated : (s : State) (p f q : Bool) (e : Ended) → LeftWaiting e → LeftWaiting (cond p (refuse s 6) (cond f (refuse s 7) (cond q e (refuse s 5))))
  gated s true f q e t = tt
  gated s false true q e t = tt
  gated s false false true e t = t
  gated s false false false e t = tt

  answered : (s : State) (k a w : ℕ) → LeftWaiting (step R F s (access k a w))
  answered s k a w = by s.run
    where
      by : (o : Option Running) → LeftWaiting (step_in R F s (access k a w) o)
      by None = tt
      by (Some r) = gated s (is_some r.hart.pending) (leb call_limit r.hart.tallies.calls) (eqb (a % 4) 0) _ (accessed s r (asked_in r k a) w)

  accepted : (s : State) (x : Failure) (o : Option Failure) (l : Option RecordedFault) (r : Running) → o ≡ Some x → is_refusal (cond (is_pending x o) (settled_as s r l) (refuse s 10)).reply ≡ false
  accepted s x o l r e =
      ap (λ (p : Option Failure). is_refusal (cond (is_pending x p) (settled_as s r l) (refuse s 10)).reply) e
      ∙ ap (λ (b : Bool). is_refusal (cond b (settled_as s r l) (refuse s 10)).reply) (same x)

  deliverable : (s : State) (x : Failure) (o : Option Running) → waiting_in o ≡ Some x → is_refusal (step_in R F s (deliver x) o).reply ≡ false
  deliverable s x None q = clash cc
  deliverable s x (Some r) q = accepted s x r.hart.pending _ r q

  giveable : (s : State) (x : Failure) (o : Option Running) → waiting_in o ≡ Some x → is_refusal (step_in R F s (give_up x) o).reply ≡ false
  giveable s x None q = clash cc
  giveable s x (Some r) q = accepted s x r.hart.pending _ r q

  is_accepted : (r : Result Unit Refusal) (t : State) (e : Ended) → ended (quiet_reply r) t ≡ e → is_refusal e.reply ≡ false → is_ok r ≡ true
  is_accepted (Ok u) t e p q = refl
  is_accepted (Err n) t e p q = let u : true ≡ false = ap (λ (z : Ended). is_refusal z.reply) p ∙ q in clash cc

module _ {M F P : Type 0} (memory : GuestMemory.Ghosts M) (format : PageFormat.Ghosts F) (policy : EvictionPolicy.Ghosts P) where
  -- a fault that an access answers waits
  pub waits : {s t : Machine M F P} {k a w : ℕ} {r : Reply} → Promised memory format policy (access k a w) s r t → Waits (view memory format policy t) r
  waits {s = s} {k = k} {a = a} {w = w} p = subst LeftWaiting (sym p.is) (answered policy.rule format.format (view memory format policy s) k a w)

  -- a fault that waits can be delivered, and it can be given up
  pub delivers : {s t : Machine M F P} {x : Failure} (r : Result Unit Refusal) → Promised memory format policy (deliver x) s (quiet_reply r) t → waiting (view memory format policy s) ≡ Some x → is_ok r ≡ true
  delivers {s = s} {t = t} {x = x} r p h =
      is_accepted policy.rule format.format r (view memory format policy t) _ p.is (deliverable policy.rule format.format (view memory format policy s) x (view memory format policy s).run h)

  pub gives_up : {s t : Machine M F P} {x : Failure} (r : Result Unit Refusal) → Promised memory format policy (give_up x) s (quiet_reply r) t → waiting (view memory format policy s) ≡ Some x → is_ok r ≡ true
  gives_up {s = s} {t = t} {x = x} r p h =
      is_accepted policy.rule format.format r (view memory format policy t) _ p.is (giveable policy.rule format.format (view memory format policy s) x (view memory format policy s).run h)
