use Rattle.ebr_script.proofs.PieceTexts.{texts_of_tokens}
use Rattle.ebr_script.proofs.script.texts_of_tokens.Goals as goal

pub returns : goal.returns
returns c = texts_of_tokens
