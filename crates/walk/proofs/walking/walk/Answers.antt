use Rattle.std.proofs.Common.{rules}
use Rattle.walk.proofs.Follows.{equal_by_rules}
use Rattle.walk.proofs.walking.walk.Goals as goal

pub returns-clause-rules : goal.returns-clause-rules
returns-clause-rules g c = equal_by_rules _ _ _ _ _ (search rules)
