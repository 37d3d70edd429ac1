use Rattle.std.proofs.Common.{◌≡◌, true, false, rules}
use Rattle.ebr_grammar.specs.Reading.{whole}
use Rattle.ebr_ddlparse.specs.Definitions.{SpellsDefinition, definition, reads_by}
use Rattle.ebr_script.specs.Statements.{creates_object}
use Rattle.ebr_script.proofs.Spelled.{definition_created, definition_other, other_sound, other_complete}
use Rattle.ebr_script.proofs.Values.{valued}
use Rattle.ebr_script.proofs.statement.any_definition.Goals as goal

pub returns-then-creates_object : goal.returns-then-creates_object
returns-then-creates_object c =
    let seen : creates_object c.args.tokens.now ≡ true = search rules in
    rw (definition_created c.args.tokens.now seen) c.creation.ensures

pub returns-else-creates_object : goal.returns-else-creates_object
returns-else-creates_object c =
    let ts = c.args.tokens.now in
    let unseen : creates_object ts ≡ false = search rules in
    rw (definition_other ts unseen) (valued (SpellsDefinition ts) (whole (reads_by definition ts)) (other_sound ts) (other_complete ts) c.definition.result c.definition.ensures.found c.definition.ensures.only)
