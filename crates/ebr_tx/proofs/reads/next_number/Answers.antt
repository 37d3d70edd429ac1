use Rattle.std.proofs.Common.{Some, ap, sym, ◌∙◌}
use Rattle.ebr_versions.specs.Data.{lesser, changes_in, next_number_in, next_number}
use Rattle.ebr_versions.proofs.NumberLemmas.{next_number_in-append}
use Rattle.ebr_changes.specs.Filed.{Filed}
use Rattle.ebr_tx.proofs.NextRows.{some_row, none_row}
use Rattle.ebr_tx.proofs.reads.next_number.Goals as goal

pub returns-in-Some : goal.returns-in-Some
returns-in-Some c =
    let own = c.next_number-own.ensures ∙ ap (λ (f : Filed). next_number_in f.changes c.args.table c.args.after.0) c.changes.ensures in
    c.lesser.ensures ∙ ap (lesser (Some c.in-Some.committed.0)) own
    ∙ ap (λ o. lesser o (next_number_in c.args.x.now.transaction.changes c.args.table c.args.after.0)) (sym (some_row (next_number c.args.versions.now.commits c.args.table c.args.after.0) c.in-Some.committed c.in-Some.ensures))
    ∙ sym (next_number_in-append (changes_in c.args.versions.now.commits) c.args.x.now.transaction.changes c.args.table c.args.after.0)

pub returns-in-None : goal.returns-in-None
returns-in-None c =
    let own = c.next_number-own.ensures ∙ ap (λ (f : Filed). next_number_in f.changes c.args.table c.args.after.0) c.changes.ensures in
    own
    ∙ ap (λ o. lesser o (next_number_in c.args.x.now.transaction.changes c.args.table c.args.after.0)) (sym (none_row (next_number c.args.versions.now.commits c.args.table c.args.after.0) c.in-None.ensures))
    ∙ sym (next_number_in-append (changes_in c.args.versions.now.commits) c.args.x.now.transaction.changes c.args.table c.args.after.0)
