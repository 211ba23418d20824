-- A loop that makes calls one after the other, up to the one that closes the run.
use Rattle.std.proofs.Common.{◌≡◌, ℕ, ◌+◌, ◌<◌, ◌≤◌, Bool, true, false, cond, List, [], ◌∷◌, ◌++◌, length, get_or, drop, is_some, Some, None, Option, sym, refl, ap, ◌∙◌, subst}
use Rattle.std.proofs.lemmas.List.{append-nil, drop_all, drop_more}
use Rattle.memory.specs.declared.guest.GuestMemory
use Rattle.paging.specs.Formats.{Format}
use Rattle.paging.specs.declared.format.PageFormat
use Rattle.policies.specs.Orders.{Rule}
use Rattle.policies.specs.declared.policy.EvictionPolicy
use Rattle.runs.specs.Laws.{LawfulRun}
use Rattle.runs.specs.Runs.{Bounded, RunsToCloseLawful, left_by, replies_to_close}
use Rattle.runs.specs.Terms as terms
use Rattle.runs.specs.Unit.{Ended, State, opened_at, step}
use Rattle.engine.specs.Views.{ended}
use Rattle.engine.specs.declared.engine.Hart.{Hart}
use Rattle.calls.specs.Views.{run_with}
use Rattle.unit.specs.Promises.{Begins, memory_of, opening, view}
use Rattle.unit.specs.Whole.{Completed, call_of, calls_of, replies_of, reply_of}
use Rattle.unit.specs.declared.machine.Machine.{Machine}
use Rattle.unit.specs.declared.requests.Call.{Call}
use Rattle.unit.specs.declared.requests.Reply.{Reply}

-- a run is open while there is a processor
pub open_if : {M F P : Type 0} (memory : GuestMemory.Ghosts M) (format : PageFormat.Ghosts F) (policy : EvictionPolicy.Ghosts P) (s : Machine M F P) → is_some (view memory format policy s).run ≡ is_some s.plain.hart
open_if memory format policy s = go s.plain.hart
  where
    go : (h : Option Hart) → is_some (run_with policy s.plain.engine h) ≡ is_some h
    go None = refl
    go (Some h) = refl

-- one answer more, before what is still to come
one_more : (rs : List Reply) (x : Reply) (ys : List terms.Reply) → replies_of (rs ++ (x ∷ [])) ++ ys ≡ replies_of rs ++ (reply_of x ∷ ys)
one_more [] x ys = refl
one_more (r ∷ rs) x ys = ap (λ zs. reply_of r ∷ zs) (one_more rs x ys)

module _ (F : Format) (R : Rule) where
  -- After i of all calls, state s is left and rs answered: what is still to come decides.
  pub record Sofar (all : List Call) (s₀ : State) (rs₀ : List Reply) (s : State) (rs : List Reply) (i : ℕ) : Type 0 where
    pub answers : replies_of rs₀ ++ replies_to_close F R s₀ (calls_of all) ≡ replies_of rs ++ replies_to_close F R s (calls_of (drop i all))
    pub leaves : left_by F R s₀ (calls_of all) ≡ left_by F R s (calls_of (drop i all))

  pub record Over (all : List Call) (s₀ : State) (rs₀ : List Reply) (s : State) (rs : List Reply) : Type 0 where
    pub answers : replies_of rs ≡ replies_of rs₀ ++ replies_to_close F R s₀ (calls_of all)
    pub leaves : s ≡ left_by F R s₀ (calls_of all)

  -- all calls are made
  pub all_made : (all : List Call) (s₀ : State) (rs₀ : List Reply) (s : State) (rs : List Reply) (i : ℕ) → length all ≤ i → Sofar all s₀ rs₀ s rs i → Over all s₀ rs₀ s rs
  all_made all s₀ rs₀ s rs i l sofar =
      let none : drop i all ≡ [] = drop_all i all l in record {
        answers = sym (sofar.answers ∙ ap (λ cs. replies_of rs ++ replies_to_close F R s (calls_of cs)) none ∙ append-nil (replies_of rs));
        leaves = sym (sofar.leaves ∙ ap (λ cs. left_by F R s (calls_of cs)) none);
      }

  module _ (all : List Call) (s₀ : State) (rs₀ : List Reply) (s t : State) (rs more : List Reply) (i : ℕ) (d : Call) (x : Reply)
      (l : i < length all) (e : ended (reply_of x) t ≡ step R F s (call_of (get_or all i d))) (pushed : more ≡ rs ++ (x ∷ [])) (sofar : Sofar all s₀ rs₀ s rs i) where
    abbrev rest : List Call
    rest = drop (i + 1) all

    abbrev answers_by : Bool → List terms.Reply
    answers_by b = replies_of rs ++ (reply_of x ∷ cond b (replies_to_close F R t (calls_of rest)) [])

    answers_on : replies_of rs₀ ++ replies_to_close F R s₀ (calls_of all) ≡ answers_by (is_some t.run)
    answers_on =
        sofar.answers
        ∙ ap (λ cs. replies_of rs ++ replies_to_close F R s (calls_of cs)) (drop_more all i d l)
        ∙ ap (λ (z : Ended). replies_of rs ++ (z.reply ∷ cond (is_some z.next.run) (replies_to_close F R z.next (calls_of rest)) [])) (sym e)

    leaves_on : left_by F R s₀ (calls_of all) ≡ cond (is_some t.run) (left_by F R t (calls_of rest)) t
    leaves_on =
        sofar.leaves
        ∙ ap (λ cs. left_by F R s (calls_of cs)) (drop_more all i d l)
        ∙ ap (λ (z : Ended). cond (is_some z.next.run) (left_by F R z.next (calls_of rest)) z.next) (sym e)

    -- the run is still open
    pub goes_on : is_some t.run ≡ true → Sofar all s₀ rs₀ t more (i + 1)
    goes_on b = record {
      answers = answers_on ∙ ap answers_by b ∙ sym (one_more rs x (replies_to_close F R t (calls_of rest))) ∙ ap (λ zs. replies_of zs ++ replies_to_close F R t (calls_of rest)) (sym pushed);
      leaves = leaves_on ∙ ap (λ c. cond c (left_by F R t (calls_of rest)) t) b;
    }

    -- the call closed the run
    pub closes : is_some t.run ≡ false → Over all s₀ rs₀ t more
    closes b = record {
      answers = sym (answers_on ∙ ap answers_by b ∙ sym (one_more rs x []) ∙ append-nil _ ∙ ap replies_of (sym pushed));
      leaves = sym (leaves_on ∙ ap (λ c. cond c (left_by F R t (calls_of rest)) t) b);
    }

-- THE WHOLE RUN

module _ {M F P : Type 0} (memory : GuestMemory.Ghosts M) (format : PageFormat.Ghosts F) (policy : EvictionPolicy.Ghosts P) where
  -- machine s is opened to t, the calls are made on it and leave u, and the run is broken off if it is still open
  pub completed : (root slots : ℕ) (cs : List Call) (s t u v : Machine M F P) (rs₀ rs : List Reply)
      → RunsToCloseLawful format.format policy.rule → Bounded (memory_of memory format policy s)
      → ended (terms.done terms.no_exit) (view memory format policy t) ≡ step policy.rule format.format (view memory format policy s) (terms.open_run root slots)
      → Begins memory format policy root slots s t
      → rs₀ ≡ []
      → replies_of rs ≡ replies_of rs₀ ++ replies_to_close format.format policy.rule (view memory format policy t) (calls_of cs)
      → view memory format policy u ≡ left_by format.format policy.rule (view memory format policy t) (calls_of cs)
      → view memory format policy v ≡ record { memory = memory_of memory format policy u; run = None }
      → Completed memory format policy root slots cs s v rs
  completed root slots cs s t u v rs₀ rs lawful bounded e begins none answered left over =
      let at : State = opened_at policy.rule (memory_of memory format policy s) root slots in
      let all : replies_of rs ≡ replies_to_close format.format policy.rule at (calls_of cs) =
      answered ∙ ap (λ zs. replies_of zs ++ replies_to_close format.format policy.rule (view memory format policy t) (calls_of cs)) none
      ∙ ap (λ (x : State). replies_to_close format.format policy.rule x (calls_of cs)) begins.is in
      let last : view memory format policy u ≡ left_by format.format policy.rule at (calls_of cs) =
      left ∙ ap (λ (x : State). left_by format.format policy.rule x (calls_of cs)) begins.is in
      record {
        begins = sym e ∙ ap (λ (x : State). ended (terms.done terms.no_exit) x) begins.is;
        answers = all;
        leaves = over ∙ ap (λ (x : State). record { memory = x.memory; run = None }) last;
        law =
            subst (LawfulRun format.format (opening memory format policy root s) (calls_of cs)) (sym all)
            (lawful (opening memory format policy root s) slots begins.many begins.few begins.has bounded (calls_of cs));
      }
