use Rattle.std.proofs.Common.{ap, ◌∙◌, arith}
use Rattle.policies.specs.Orders.{from_hand}
use Rattle.policies.proofs.Rounds.{passed_slot, passed_none}
use Rattle.policies.proofs.hand.Hand.pass.Goals as goal
use Rattle.policies.proofs.hand.Hand.pass.Goals.{then-slot-self, else-slot-self}

pub returns : goal.returns
returns c =
    let h = c.args.self.now.hand in
    let n = c.args.self.now.count in
    let s = c.args.slot in
    elim c.if-slot-self.branch [
      | then-slot-self w ↦ ap (λ t. from_hand t n) w.self-is ∙ passed_slot h s n (omega arith) (omega arith)
      | else-slot-self w ↦
          ap (λ t. from_hand t n) w.self-is
          ∙ passed_none h s n (omega arith) (omega arith) c.requires
    ]
