use Rattle.policies.proofs.Places.{small_append, small_drop, small_take}
use Rattle.policies.proofs.old.aging.OldEvictionPolicy.tell.Goals as goal

pub invariant_of-self : goal.invariant_of-self
invariant_of-self c =
    let all = c.args.self.now.slots in
    record {
      few = c.args.self.now.few;
      small = small_append c.move_last.new.order _ (c.move_last.ensures.small (small_take _ all c.args.self.now.small)) (small_drop _ all c.args.self.now.small);
    }
