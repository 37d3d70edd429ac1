use Rattle.std.proofs.Common.{not, ◌&&◌, ap, sym, ◌∙◌}
use Rattle.ebr_versions.specs.Data.{changes_row}
use Rattle.ebr_versions.specs.Keys.{row_in}
use Rattle.ebr_tx.proofs.OtherRows.{last_has_found, last_has_none}
use Rattle.ebr_tx.proofs.keys.last_has.Goals as goal

pub returns-then-is_another : goal.returns-then-is_another
returns-then-is_another c =
    ap not c.changes_row.ensures
    ∙ sym (ap (λ b. b && not (changes_row (row_in c.args.table c.in-Some.row) c.args.own.now.changes)) (sym c.is_another.ensures ∙ c.if-is_another.true))
    ∙ last_has_found c.args.versions.now.commits c.args.versions.now.tables c.args.own.now.changes c.args.table c.args.this c.args.places.now c.args.key.now c.requires.places c.in-Some.row c.in-Some.ensures.found c.in-Some.ensures.only

pub returns-else-is_another : goal.returns-else-is_another
returns-else-is_another c =
    c.if-is_another.false
    ∙ sym (ap (λ b. b && not (changes_row (row_in c.args.table c.in-Some.row) c.args.own.now.changes)) (sym c.is_another.ensures ∙ c.if-is_another.false))
    ∙ last_has_found c.args.versions.now.commits c.args.versions.now.tables c.args.own.now.changes c.args.table c.args.this c.args.places.now c.args.key.now c.requires.places c.in-Some.row c.in-Some.ensures.found c.in-Some.ensures.only

pub returns-in-None : goal.returns-in-None
returns-in-None c = last_has_none c.args.versions.now.commits c.args.versions.now.tables c.args.own.now.changes c.args.table c.args.this c.args.places.now c.args.key.now c.requires.places c.in-None.ensures.only
