-- Tallies keep counting what a history holds.
use Rattle.std.proofs.Common.{◌≡◌, ℕ, true, false, [], ◌∷◌, refl, add-zero}
use Rattle.runs.specs.Histories.{Event, History, counts, exit_of}
use Rattle.runs.specs.Laws.{Tallied}
use Rattle.runs.specs.Terms.{Tallies}
use Rattle.runs.specs.Unit.{counted, no_tallies}

-- a counted call more
pub tallied_more : (e : Event) (v : ℕ) (h : History) (t : Tallies) → counts e ≡ true → Tallied h t → Tallied (e ∷ h) (counted (exit_of e) v t)
tallied_more e v h t c k = record {
  calls = rw (c, k.calls);
  hits = rw (c, k.hits);
  hidden = rw (c, k.hidden);
  true_exits = rw (c, k.true_exits);
  trace = rw (c, k.trace);
  flush = rw (c, k.flush);
  switch = rw (c, k.switch);
}

-- a call that does not count
pub tallied_still : (e : Event) (h : History) (t : Tallies) → counts e ≡ false → Tallied h t → Tallied (e ∷ h) t
tallied_still e h t c k = record {
  calls = rw (c, k.calls, add-zero);
  hits = rw (c, k.hits, add-zero);
  hidden = rw (c, k.hidden, add-zero);
  true_exits = rw (c, k.true_exits, add-zero);
  trace = rw (c, k.trace, add-zero);
  flush = rw (c, k.flush, add-zero);
  switch = rw (c, k.switch, add-zero);
}

pub tallied_none : Tallied [] no_tallies
tallied_none = record { calls = refl; hits = refl; hidden = refl; true_exits = refl; trace = refl; flush = refl; switch = refl }
