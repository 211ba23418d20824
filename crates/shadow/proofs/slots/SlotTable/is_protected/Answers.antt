use Rattle.std.proofs.Common.{rules, ◌∙◌, tests}
use Rattle.std.proofs.lemmas.Iterator.{YieldsList-from_slice}
use Rattle.std.proofs.lemmas.Iterator.Search.{any_from_yields_List}
use Rattle.slot.specs.Slot.{protects}
use Rattle.shadow.proofs.Searched.{some_by_any}
use Rattle.shadow.proofs.slots.SlotTable.is_protected.Goals as goal

pub returns : goal.returns
returns c =
    let ss = c.args.self.now.slots in
    any_from_yields_List (λ s. protects c.args.frame s.shadow) _ _ _ c.any.ensures.ran (YieldsList-from_slice ss (cc)) (λ x b q k. search (rules, tests))
    ∙ some_by_any (λ s. protects c.args.frame s.shadow) ss
