-- A place whose frame has no words stops a walk.
use Rattle.std.specs.Prelude.{ℕ, Ok, Err, Result, Some}
use Rattle.memory.specs.Memory.{Contents, words, cause}
use Rattle.paging.specs.declared.format.Reason.TheVariants.{Outside}
use Rattle.paging.specs.declared.format.Level.{Level}
use Rattle.walk.specs.declared.fault.Depth.TheVariants.{Entry}
use Rattle.walk.specs.declared.fault.Gap.{Gap}
use Rattle.walk.specs.declared.fault.Place.{Place}
use Rattle.walk.specs.declared.fault.Stop.{Stop}
use Rattle.walk.specs.declared.path.EntryRead.{EntryRead}

abbrev pub gap_stop : Gap → Stop
gap_stop g = record { reason = Outside; place = g.place; cause = Some g.cause }

-- the word at a place, or the gap that is there
abbrev pub word_or_gap : Place → Contents → Result ℕ Gap
word_or_gap p (words w) = Ok (w p.index)
word_or_gap p (cause c) = Err (record { place = p; cause = record { number = c } })

-- the entry of a level at an index of a frame, or the gap that is there
abbrev pub entry_or_gap : Level → ℕ → ℕ → Contents → Result EntryRead Gap
entry_or_gap l i f (words w) = Ok (record { level = l; frame = f; index = i; word = w i })
entry_or_gap l i f (cause c) = Err (record { place = record { depth = Entry l; frame = f; index = i }; cause = record { number = c } })
