use Rattle.std.proofs.Common.{rules}
use Rattle.runs.proofs.RunsGood.{calls_lawful}
use Rattle.runs.proofs.laws.calls_lawful.Goals as goal

pub returns : goal.returns
returns g c = calls_lawful g.F.PageFormat.format (search (rules, g.met.F.PageFormat)) g.P.EvictionPolicy.rule (search (rules, g.met.P.EvictionPolicy))
