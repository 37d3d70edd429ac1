use Rattle.std.proofs.Common.{◌≡◌, map, ap, ◌∙◌, subst}
use Rattle.std.specs.Prelude.{IfOk}
use Rattle.ebr_query.specs.Seen.{numbers_seen}
use Rattle.ebr_dml.specs.Rows.{taken}
use Rattle.ebr_dml.specs.inside.Takes.{numbered_row}
use Rattle.ebr_dml.proofs.Taking.{rows-numbered}
use Rattle.ebr_dml.proofs.rows.all_taken.Goals as goal

pub returns : goal.returns
returns c =
    let d = c.args.tx.now.contents in
    let t = c.args.t in
    let table = c.args.plan.now.table.id in
    subst (λ rows. IfOk c.found.result (λ f. f ≡ rows))
    (ap (λ ns. taken c.args.plan.now c.args.binds.now (map (numbered_row d t table) ns)) c.requires.numbers
    ∙ ap (taken c.args.plan.now c.args.binds.now) (rows-numbered d t table (numbers_seen d t table)))
    (c.found.ensures _ c.taken.ensures)
