use Rattle.std.proofs.Common.{sym, ap, ◌∙◌}
use Rattle.std.specs.List.{list_any}
use Rattle.std.proofs.lemmas.List.{drop_all}
use Rattle.std.specs.Str.{bytes_eq}
use Rattle.ebr_sqlcheck.specs.inside.Found.{note, with_last}
use Rattle.ebr_sqlcheck.proofs.ByName.{found_any}
use Rattle.ebr_sqlcheck.proofs.lookup.add_columns.Goals as goal

pub returns : goal.returns
returns c = λ n.
    ap (λ xs. with_last (list_any (λ x. bytes_eq n x.name) xs) c.args.at (note n c.loop-column.notes.entries)) (sym (drop_all c.loop-column.column-index c.columns-column-items.result.now c.loop-column-test.false))
    ∙ c.loop-column.invariant n
    ∙ ap (λ xs. with_last (list_any (λ x. bytes_eq n x.name) xs) c.args.at (note n c.args.notes.now.entries)) c.columns-column-items.ensures
    ∙ ap (λ b. with_last b c.args.at (note n c.args.notes.now.entries)) (found_any (λ x. bytes_eq n x.name) c.args.relation.now.columns)
