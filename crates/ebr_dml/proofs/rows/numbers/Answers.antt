use Rattle.std.proofs.Common.{◌≡◌, ◌++◌, ◌∷◌, map, length, sym, ap, ◌∙◌, subst, arith, rules, append-nil}
use Rattle.ebr_versions.specs.Data.{row_no}
use Rattle.ebr_query.specs.Seen.{numbers_seen, numbers_after}
use Rattle.ebr_query.proofs.SeenRows.{next-number, none-left}
use Rattle.ebr_dml.proofs.Taking.{one-behind}
use Rattle.ebr_dml.proofs.rows.numbers.Goals as goal

pub loop-next-preserved : goal.loop-next-preserved
loop-next-preserved c =
    let d = c.args.tx.now.contents in
    let next = c.in-Some.next in
    let e : numbers_after d c.args.t c.args.table c.loop-next.last.0 ≡ next.0 ∷ numbers_after d c.args.t c.args.table next.0
    = next-number d c.args.t c.args.table c.loop-next.last next (search rules) in
    one-behind row_no c.loop-next.found c.push.new.self next next.0 (numbers_after d c.args.t c.args.table next.0) (map row_no (numbers_seen d c.args.t c.args.table))
    (subst (λ ns. c.loop-next.found ++ map row_no ns ≡ map row_no (numbers_seen d c.args.t c.args.table)) e c.loop-next.invariant) (search rules) (search rules)

pub loop-next-smaller : goal.loop-next-smaller
loop-next-smaller c =
    let d = c.args.tx.now.contents in
    let e = next-number d c.args.t c.args.table c.loop-next.last c.in-Some.next (search rules) in
    omega (arith, ap length e)

pub returns : goal.returns
returns c =
    let d = c.args.tx.now.contents in
    let e = none-left d c.args.t c.args.table c.loop-next.last (search rules) in
    sym (append-nil c.loop-next.found) ∙ ap (λ ns. c.loop-next.found ++ map row_no ns) (sym e) ∙ c.loop-next.invariant
