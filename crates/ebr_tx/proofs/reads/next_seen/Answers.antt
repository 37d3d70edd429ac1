use Rattle.std.proofs.Common.{ℕ, Bool, ap, sym, ◌∙◌}
use Rattle.std.specs.Prelude.{option_map, is_some, nat_lt, filter}
use Rattle.ebr_versions.specs.Data.{row_no, least}
use Rattle.ebr_tx.specs.Reads.{seen_by, row_at, numbers_by}
use Rattle.ebr_tx.proofs.NextRows.{some_row, none_row, next_passes, next_fails, none_passes}
use Rattle.ebr_tx.proofs.reads.next_seen.Goals as goal

pub returns-then-is_there : goal.returns-then-is_there
returns-then-is_there c =
    let numbers = numbers_by c.args.versions.now.commits c.args.x.now.transaction c.args.table in
    let q : ℕ → Bool = λ n. is_some (seen_by c.args.versions.now.commits c.args.x.now.transaction (row_at c.args.table n)) in
    let least_is = some_row (least (filter (nat_lt c.loop-next.last.0) numbers)) c.in-Some.next c.in-Some.ensures.next in
    sym (ap (option_map row_no) (next_passes c.loop-next.last.0 c.in-Some.next.0 q numbers least_is (sym c.is_there.ensures ∙ c.if-is_there.true))) ∙ c.loop-next.invariant

pub loop-next-preserved : goal.loop-next-preserved
loop-next-preserved c =
    let numbers = numbers_by c.args.versions.now.commits c.args.x.now.transaction c.args.table in
    let q : ℕ → Bool = λ n. is_some (seen_by c.args.versions.now.commits c.args.x.now.transaction (row_at c.args.table n)) in
    let least_is = some_row (least (filter (nat_lt c.loop-next.last.0) numbers)) c.in-Some.next c.in-Some.ensures.next in
    ap (option_map row_no) (next_fails c.loop-next.last.0 c.in-Some.next.0 q numbers least_is (sym c.is_there.ensures ∙ c.if-is_there.false)) ∙ c.loop-next.invariant

pub returns : goal.returns
returns c =
    let numbers = numbers_by c.args.versions.now.commits c.args.x.now.transaction c.args.table in
    let q : ℕ → Bool = λ n. is_some (seen_by c.args.versions.now.commits c.args.x.now.transaction (row_at c.args.table n)) in
    let none_is = none_row (least (filter (nat_lt c.loop-next.last.0) numbers)) c.in_default.ensures.next in
    sym (ap (option_map row_no) (none_passes c.loop-next.last.0 q numbers none_is)) ∙ c.loop-next.invariant
