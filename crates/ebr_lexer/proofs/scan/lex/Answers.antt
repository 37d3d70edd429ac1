use Rattle.std.proofs.Common.{subst}
use Rattle.ebr_lexer.specs.Lexis.{Tells}
use Rattle.ebr_lexer.proofs.Agreement.{found, read_tokens, read_fault}
use Rattle.ebr_lexer.proofs.Spans.{found_within, found_ordered}
use Rattle.ebr_lexer.proofs.scan.lex.Goals as goal

pub returns-clause-found : goal.returns-clause-found
returns-clause-found c = found c.args.bytes.now c.scan.result c.scan.ensures

pub returns-clause-within : goal.returns-clause-within
returns-clause-within c = found_within c.args.bytes.now c.scan.result (found c.args.bytes.now c.scan.result c.scan.ensures)

pub returns-clause-ordered : goal.returns-clause-ordered
returns-clause-ordered c = found_ordered c.args.bytes.now c.scan.result (found c.args.bytes.now c.scan.result c.scan.ensures)

pub returns-clause-tokens : goal.returns-clause-tokens
returns-clause-tokens c ts t = subst (Tells c.scan.result) (read_tokens c.args.bytes.now ts t) c.scan.ensures

pub returns-clause-fault : goal.returns-clause-fault
returns-clause-fault c at code f = subst (Tells c.scan.result) (read_fault c.args.bytes.now at code f) c.scan.ensures
