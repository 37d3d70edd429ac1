use Rattle.ebr_versions.specs.Keys.{key_of}
use Rattle.ebr_tx.proofs.SameValues.{same_test}
use Rattle.ebr_tx.proofs.keys.is_same_key.Goals as goal

pub returns : goal.returns
returns c = same_test c.is_key_of.result (key_of c.args.places.now c.args.values.now) c.args.key.now c.is_key_of.ensures
