-- What the code's values say, in the terms of runs.
use Rattle.runs.specs.Terms as terms
use Rattle.engine.specs.declared.tallies.Tallies.{Tallies}

abbrev pub tallied : Tallies → terms.Tallies
tallied t = record {
  calls = t.calls;
  hits = t.hits;
  hidden = t.hidden;
  true_exits = t.true_exits;
  trace = t.trace;
  flush = t.flush;
  switch = t.switch;
  evictions = t.evictions;
}
