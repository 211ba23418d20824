use Rattle.std.proofs.Common.{rules, ℕ, List, take, ap, ◌∙◌, arith}
use Rattle.std.proofs.lemmas.List.FromFn.{fill_by_all}
use Rattle.policies.specs.Orders.{numbered}
use Rattle.policies.proofs.Rounds.{take_rising}
use Rattle.policies.proofs.old.Old.by_number.Goals as goal

pub returns : goal.returns
returns c =
    let all = fill_by_all (λ k. k) c.from_fn.result 8 0 c.from_fn.ensures.items.long (λ k l. let made = (c.from_fn.ensures.items.at k 0 l).2 in search (rules, made)) in
    ap (λ (o : List ℕ). take c.min.result o) all ∙ ap (λ n. take n (numbered 8)) c.min.ensures ∙ take_rising 0 _ 8 (omega arith)
