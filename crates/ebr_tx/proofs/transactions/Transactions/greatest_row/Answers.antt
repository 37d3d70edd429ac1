use Rattle.std.proofs.Common.{◌+◌, ℕ, List, max, sym, ap, ◌∙◌}
use Rattle.std.specs.List.{flat_map}
use Rattle.ebr_base.specs.declared.numbers.RowNo.{RowNo}
use Rattle.ebr_versions.specs.Data.{changes_in, greatest_number, greatest_number_in}
use Rattle.ebr_versions.proofs.NumberLemmas.{greatest_number_in-append}
use Rattle.ebr_tx.specs.Data.{changes_by}
use Rattle.ebr_tx.specs.Calls.{State, new_number}
use Rattle.ebr_tx.specs.inside.Filed.{FiledTransaction, transactions_of}
use Rattle.ebr_tx.proofs.transactions.Transactions.greatest_row.Goals as goal

pub returns : goal.returns
returns c =
    ap (λ (n : ℕ). n + 1)
    (c.max.ensures
    ∙ ap (λ (r : RowNo). max r.0 c.greatest_row.result) c.greatest_row-committed.ensures
    ∙ ap (max (greatest_number c.self.inside.versions.commits c.args.table)) (c.greatest_row.ensures ∙ ap (λ (xs : List FiledTransaction). greatest_number_in (flat_map changes_by (transactions_of xs)) c.args.table) c.as_slice.ensures.value)
    ∙ sym (greatest_number_in-append (changes_in c.self.inside.versions.commits) (flat_map changes_by (transactions_of c.self.inside.live.items)) c.args.table))
    ∙ ap (λ (s : State). new_number s.contents c.args.table) c.self.view_is
