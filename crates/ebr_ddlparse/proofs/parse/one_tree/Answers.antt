use Rattle.ebr_grammar.proofs.Texts.{is_one}
use Rattle.ebr_ddlparse.proofs.Whole.{reads_definitions}
use Rattle.ebr_ddlparse.proofs.parse.one_tree.Goals as goal

pub returns : goal.returns
returns c = is_one reads_definitions
