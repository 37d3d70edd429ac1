use Rattle.std.proofs.Common.{◌≡◌, ◌+◌, drop, ap, ◌∙◌}
use Rattle.std.specs.Prelude.{max}
use Rattle.std.specs.List.{flat_map}
use Rattle.ebr_changes.specs.Filed.{Filed}
use Rattle.ebr_versions.specs.Data.{greatest_number_in}
use Rattle.ebr_tx.specs.Data.{changes_by}
use Rattle.ebr_tx.specs.inside.Filed.{transactions_of}
use Rattle.ebr_tx.proofs.LiveLemmas.{greatest_row_more}
use Rattle.ebr_tx.proofs.live.greatest_row.Goals as goal

pub loop-x-preserved : goal.loop-x-preserved
loop-x-preserved c =
    let next : c.max-greatest.result ≡ max (greatest_number_in c.x-item.result.transaction.changes c.args.table) c.loop-x.greatest =
    c.max-greatest.ensures ∙ ap (λ n. max n c.loop-x.greatest) (c.greatest_number.ensures ∙ ap (λ (f : Filed). greatest_number_in f.changes c.args.table) c.changes.ensures)
    in
    ap (max (greatest_number_in (flat_map changes_by (transactions_of (drop (c.loop-x.x-index + 1) c.args.live.now))) c.args.table)) next
    ∙ greatest_row_more c.args.live.now c.loop-x.x-index c.x-item.result c.args.table c.loop-x.greatest c.loop-x-test.true c.x-item.is
    ∙ c.loop-x.invariant
