use Rattle.std.proofs.Common.{arith}
use Rattle.policies.proofs.Rounds.{ahead_above, ahead_below}
use Rattle.policies.proofs.hand.Hand.ahead.Goals as goal

pub returns-then-passed-self : goal.returns-then-passed-self
returns-then-passed-self c =
    record { slot = ahead_above c.args.self.now.hand c.args.self.now.count c.args.passed (omega arith); below = omega arith }

pub returns-else-passed-self : goal.returns-else-passed-self
returns-else-passed-self c =
    record { slot = ahead_below c.args.self.now.hand c.args.self.now.count c.args.passed (omega arith) (omega arith) (omega arith); below = omega arith }
