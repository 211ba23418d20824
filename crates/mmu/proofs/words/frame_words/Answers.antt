use Rattle.std.proofs.Common.{rules}
use Rattle.runs.specs.Laws.{word_at}
use Rattle.mmu.proofs.Listed.{made}
use Rattle.mmu.proofs.words.frame_words.Goals as goal

pub returns : goal.returns
returns g c = made _ _ (word_at (g.M.GuestMemory.frames c.args.memory.now) c.args.frame) (λ i y q k. search rules) _ 1024 c.from_fn.ensures.items
