-- Single steps of an access that comes through.
use Rattle.std.specs.Prelude.{ℕ, cond, List, [], ◌∷◌, ◌==◌}
use Rattle.memory.specs.Memory.{Memory}
use Rattle.mmu.specs.Numbers.{exit_number}
use Rattle.paging.specs.Formats.{Format}
use Rattle.paging.specs.Terms.{directory_level, store}
use Rattle.policies.specs.Orders.{Rule}
use Rattle.runs.specs.Laws.{word_at}
use Rattle.runs.specs.Unit.{Taken, Traced, linked, new_place, one_if, root_slot, tell_path, thing_named, traced}
use Rattle.shadow.specs.Slots.{put_place}
use Rattle.shadow.specs.declared.slots.SlotTable.{SlotTable}
use Rattle.slot.specs.declared.slots.Thing.{Thing}
use Rattle.walk.specs.Marking.{Write}
use Rattle.walk.specs.Walk.{Asked, directory_index, table_index, word_index}
use Rattle.engine.specs.declared.engine.Passage.{Passage}

-- the write of a store that reaches frame f
abbrev pub store_at : Asked → ℕ → ℕ → List Write
store_at a w f = cond (a.kind == store) (record { frame = f; index = word_index a.address; word = w } ∷ []) []

-- The slots and the order after an access that walked and came through, its exit, and how many evictions it took.
pub record Passed : Type 0 where
  pub table : SlotTable
  pub order : List ℕ
  pub exit : ℕ
  pub evicted : ℕ

abbrev pub passed_by : Passage → SlotTable → List ℕ → Passed
passed_by p t o = record { table = t; order = o; exit = exit_number p.exit; evicted = one_if p.evicted }

module _ (R : Rule) where
  -- a store is traced, and the directory's slot i and the slot below are told of
  abbrev pub traced_below : ℕ → Taken → Traced → Passed
  traced_below i k z = record { table = z.table; order = tell_path R i k.slot k.order; exit = z.exit; evicted = k.evicted }

  -- the leaf or piece is written in the slot below the link
  abbrev pub entered : Memory → ℕ → Asked → ℕ → Thing → Taken → Passed
  entered m i a f x k = traced_below i k (traced a k.slot f (put_place k.slot (table_index a.address) (new_place m a f x) k.table))

  module _ (F : Format) where
    -- the slots follow an access that reaches frame f, from the directory's present word d on
    abbrev pub pathed_by : Memory → ℕ → Asked → ℕ → SlotTable → List ℕ → ℕ → Passed
    pathed_by m root a f t o d =
        entered m (root_slot root t) a f (thing_named (F.reads directory_level d)) (linked R m root (directory_index a.address) d (thing_named (F.reads directory_level d)) t o)

    abbrev pub pathed : Memory → ℕ → Asked → ℕ → SlotTable → List ℕ → Passed
    pathed m root a f t o = pathed_by m root a f t o (word_at m root (directory_index a.address))
