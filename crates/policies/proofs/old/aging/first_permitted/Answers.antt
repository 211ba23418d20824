use Rattle.std.proofs.Common.{rules, ◌<◌, get_or, ◌∙◌, false, arith, tests}
use Rattle.std.proofs.iter.Serving.{serving}
use Rattle.std.proofs.lemmas.Iterator.{YieldsList-from_slice}
use Rattle.std.proofs.lemmas.List.{get_or_default}
use Rattle.std.proofs.lemmas.Iterator.Consumers.{YieldsList-from_copied}
use Rattle.std.proofs.lemmas.Iterator.Adapters.{serves_from_places}
use Rattle.std.proofs.lemmas.Iterator.Search.{find_from_yields_List}
use Rattle.policies.proofs.Naming.{named_found}
use Rattle.policies.proofs.old.aging.first_permitted.Goals as goal

pub find-requires-clause-callable : goal.find-requires-clause-callable
find-requires-clause-callable c =
    let o = c.args.order.now in
    serves_from_places (YieldsList-from_copied (YieldsList-from_slice o (cc))) (λ x q k. search (rules, tests)) (λ x k lt e. let below : x < 8 = omega (arith, e, c.requires k, get_or_default o k 0 x lt) in search (rules, serving))

pub returns : goal.returns
returns c =
    c.unwrap_or.ensures
    ∙ named_found c.args.permitted.now c.args.order.now c.find.result (find_from_yields_List (λ s. get_or c.args.permitted.now s false) _ _ _ c.find.ensures.ran (YieldsList-from_copied (YieldsList-from_slice c.args.order.now (cc))) (λ x b q k. search (rules, tests)))
