use Rattle.std.proofs.Common.{◌≡◌, length, sym, ◌∙◌, arith}
use Rattle.std.proofs.lemmas.List.{at_drop_all}
use Rattle.policies.specs.Orders.{first_permitted, from_hand}
use Rattle.policies.proofs.Rounds.{length_from_hand}
use Rattle.policies.proofs.hand.Hand.first_permitted.Goals as goal

pub returns-in_default-clause-answer : goal.returns-in_default-clause-answer
returns-in_default-clause-answer c =
    let o = from_hand c.args.self.now.hand c.args.self.now.count in
    let long : length o ≡ c.args.self.now.count = length_from_hand _ _ (omega arith) in
    sym (c.loop-passed.invariant.2 ∙ at_drop_all (first_permitted c.args.permitted.now) o _ (omega (arith, c.in_default.ensures)))
