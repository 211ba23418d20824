use Rattle.policies.proofs.Naming.{names_permitted, names_standing}
use Rattle.policies.proofs.laws.permitted_named.Goals as goal

pub returns : goal.returns
returns c = record { permitted = names_permitted; standing = names_standing }
