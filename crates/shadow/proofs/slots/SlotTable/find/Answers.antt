use Rattle.std.proofs.Common.{◌∙◌}
use Rattle.slot.specs.Slot.{shadows}
use Rattle.shadow.proofs.Searched.{first_by_position}
use Rattle.shadow.proofs.slots.SlotTable.find.Goals as goal

pub returns : goal.returns
returns c = c.first_of.ensures ∙ first_by_position (λ s. shadows s.shadow c.args.thing) c.args.self.now.slots
