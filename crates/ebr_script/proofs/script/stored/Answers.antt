use Rattle.ebr_script.specs.Pieces.{stored_definition, Stores}
use Rattle.ebr_script.proofs.TextsOfObjects.{stored_sound, stored_complete}
use Rattle.ebr_script.proofs.Values.{found_by, only_by}
use Rattle.ebr_script.proofs.script.stored.Goals as goal

pub returns-clause-found : goal.returns-clause-found
returns-clause-found c = let t = c.args.text.now in found_by (Stores t) (stored_definition t) (stored_sound t) (stored_complete t) c.read_stored.result c.read_stored.ensures

pub returns-clause-only : goal.returns-clause-only
returns-clause-only c = let t = c.args.text.now in only_by (Stores t) (stored_definition t) (stored_sound t) (stored_complete t) c.read_stored.result c.read_stored.ensures
