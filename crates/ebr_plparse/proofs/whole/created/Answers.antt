use Rattle.std.proofs.Common.{List, subst}
use Rattle.ebr_lexer.specs.declared.token.Token.{Token}
use Rattle.ebr_grammar.specs.Outcome.{Reads}
use Rattle.ebr_plparse.specs.Productions.{reads_by}
use Rattle.ebr_plparse.specs.Units.{definition}
use Rattle.ebr_plparse.proofs.Clear.{definition_is}
use Rattle.ebr_grammar.proofs.Texts.{is_found, is_only}
use Rattle.ebr_plparse.proofs.Reader.{reader}
use Rattle.ebr_plparse.proofs.whole.created.Goals as goal

pub returns-clause-found : goal.returns-clause-found
returns-clause-found c =
    let read : Reads (reads_by definition c.args.tokens.now) c.read_definition-read.result c.read_definition-read.new.tokens =
    subst (λ (ts : List Token). Reads (reads_by definition ts) c.read_definition-read.result c.read_definition-read.new.tokens) c.new-rest.ensures c.read_definition-read.ensures in
    is_found (reader definition definition_is) c.args.tokens.now c.whole.result (c.whole.ensures (reads_by definition c.args.tokens.now) read)

pub returns-clause-only : goal.returns-clause-only
returns-clause-only c x s =
    let read : Reads (reads_by definition c.args.tokens.now) c.read_definition-read.result c.read_definition-read.new.tokens =
    subst (λ (ts : List Token). Reads (reads_by definition ts) c.read_definition-read.result c.read_definition-read.new.tokens) c.new-rest.ensures c.read_definition-read.ensures in
    is_only (reader definition definition_is) c.args.tokens.now c.whole.result (c.whole.ensures (reads_by definition c.args.tokens.now) read) x s
