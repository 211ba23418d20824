use Rattle.std.proofs.Common.{refl}
use Rattle.runs.specs.Unit.{access_ends, drop_page, hit_target, linked, obtain, opened_at, resync, settle_in, store_traced, switch_ends, take_slot}
use Rattle.runs.proofs.laws.worked_run.Goals as goal

pub returns : goal.returns
unfolding access_ends drop_page hit_target linked obtain opened_at resync settle_in store_traced switch_ends take_slot
returns c = refl
