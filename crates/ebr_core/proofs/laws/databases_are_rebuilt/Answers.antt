use Rattle.std.proofs.Common.{refl}
use Rattle.ebr_core.proofs.laws.databases_are_rebuilt.Goals as goal

pub returns : goal.returns
returns c = λ db sessions. record { catalogue = refl; tables = refl; commits = refl }
