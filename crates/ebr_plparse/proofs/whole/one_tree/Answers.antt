use Rattle.ebr_plparse.specs.Units.{text, definition, block}
use Rattle.ebr_plparse.proofs.Clear.{text_is, definition_is, block_is}
use Rattle.ebr_grammar.proofs.Texts.{is_one}
use Rattle.ebr_plparse.proofs.Reader.{reader}
use Rattle.ebr_plparse.proofs.whole.one_tree.Goals as goal

pub returns-clause-unit : goal.returns-clause-unit
returns-clause-unit c = is_one (reader text text_is)

pub returns-clause-created : goal.returns-clause-created
returns-clause-created c = is_one (reader definition definition_is)

pub returns-clause-block : goal.returns-clause-block
returns-clause-block c = is_one (reader block block_is)
