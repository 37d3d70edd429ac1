use Rattle.std.proofs.Common.{sym, ap, ◌∙◌}
use Rattle.ebr_cut.specs.declared.scanned.Scanned.TheVariants as scanned
use Rattle.ebr_script.specs.Statements.{creation_of}
use Rattle.ebr_script.specs.Pieces.{stored_definition}
use Rattle.ebr_script.proofs.TextsOfObjects.{stored_as}
use Rattle.ebr_script.proofs.Values.{another_value}
use Rattle.ebr_script.proofs.script.read_stored.Goals as goal

pub returns-in-Fault : goal.returns-in-Fault
returns-in-Fault c = sym (stored_as c.args.text.now (scanned.Fault c.in-Fault.field-0) (sym c.in_ok-scanned.ensures.value ∙ c.in-Fault.is))

pub returns-in-Tokens : goal.returns-in-Tokens
returns-in-Tokens c =
    let same = ap creation_of c.as_slice.ensures ∙ sym (stored_as c.args.text.now (scanned.Tokens c.in-Tokens.tokens) (sym c.in_ok-scanned.ensures.value ∙ c.in-Tokens.is)) in
    another_value c.creation.result (creation_of c.as_slice.result.now) (stored_definition c.args.text.now) same c.creation.ensures
