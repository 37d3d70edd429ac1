use Rattle.std.proofs.Common.{rules}
use Rattle.ebr_ddlparse.proofs.Entries.{items_are}
use Rattle.ebr_ddlparse.proofs.tables.read_closed_items.Goals as goal

pub returns-in_err-first : goal.returns-in_err-first
returns-in_err-first c = rw (items_are c.args.tokens.now) (search rules)

pub returns : goal.returns
returns c = rw (items_are c.args.tokens.now) (search rules)
