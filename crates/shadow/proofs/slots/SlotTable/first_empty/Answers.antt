use Rattle.std.proofs.Common.{rules, ◌∙◌, take, tests}
use Rattle.std.proofs.lemmas.Iterator.{YieldsList-from_slice}
use Rattle.std.proofs.lemmas.Iterator.Search.{position_from_yields_List}
use Rattle.slot.specs.Slot.{is_nothing}
use Rattle.shadow.proofs.Searched.{first_below_by_position}
use Rattle.shadow.proofs.slots.SlotTable.first_empty.Goals as goal

pub returns : goal.returns
returns c =
    let ss = c.args.self.now.slots in
    position_from_yields_List (λ s. is_nothing s.shadow) _ _ _ c.position.ensures.ran (YieldsList-from_slice (take c.args.self.now.count ss) (cc)) (λ x b q k. search (rules, tests))
    ∙ first_below_by_position (λ s. is_nothing s.shadow) c.args.self.now.count ss
