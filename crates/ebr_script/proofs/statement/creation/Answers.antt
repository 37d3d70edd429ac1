use Rattle.ebr_plparse.specs.Units.{SpellsCreation}
use Rattle.ebr_script.specs.Statements.{creation_of}
use Rattle.ebr_script.proofs.Spelled.{creation_sound, creation_complete}
use Rattle.ebr_script.proofs.Values.{valued}
use Rattle.ebr_script.proofs.statement.creation.Goals as goal

pub returns : goal.returns
returns c =
    let ts = c.args.tokens.now in
    valued (SpellsCreation ts) (creation_of ts) (creation_sound ts) (creation_complete ts) c.created.result c.created.ensures.found c.created.ensures.only
