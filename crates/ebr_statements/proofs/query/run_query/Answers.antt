use Rattle.std.proofs.Common.{sym, subst}
use Rattle.ebr_database.specs.Storable.{AllStorable}
use Rattle.ebr_exec.proofs.Undone.{still_mark_of, undone_to}
use Rattle.ebr_levels.proofs.LeavesLemmas.{leaves_begun, leaves_equal, leaves_leaves, leaves_same}
use Rattle.ebr_levels.proofs.StepLemmas.{leaves_locks}
use Rattle.ebr_statements.proofs.Querying.{over_query, query_done, query_refused, query_storable}
use Rattle.ebr_statements.proofs.query.run_query.Goals as goal

pub back_to_mark-requires-clause-mark : goal.back_to_mark-requires-clause-mark
back_to_mark-requires-clause-mark c =
    still_mark_of c.args.tx.now.contents c.rows_of_query.new.tx.contents c.args.t c.in_ok-mark.mark c.in_ok-mark.ensures.mark c.in_ok-mark.ensures.later
    (over_query c.args.tx.now.contents c.begin.new.self.contents c.rows_of_query.new.tx.contents c.args.t c.begin.ensures.contents c.rows_of_query.ensures.locks)

pub returns-in-Ok-clause-storable : goal.returns-in-Ok-clause-storable
returns-in-Ok-clause-storable c = query_storable c.args.tx.now.contents c.begin.new.self.contents c.rows_of_query.new.tx.contents c.args.t c.begin.ensures.contents c.rows_of_query.ensures.locks c.requires.storable

pub returns-in-Err-clause-storable : goal.returns-in-Err-clause-storable
returns-in-Err-clause-storable c =
    subst AllStorable (sym (undone_to c.args.tx.now.contents c.rows_of_query.new.tx.contents c.back_to_mark.new.self.contents c.args.t c.in_ok-mark.mark c.in_ok-mark.ensures.mark
    (over_query c.args.tx.now.contents c.begin.new.self.contents c.rows_of_query.new.tx.contents c.args.t c.begin.ensures.contents c.rows_of_query.ensures.locks) c.back_to_mark.ensures.contents)) c.requires.storable

pub returns-in-Ok-clause-answer : goal.returns-in-Ok-clause-answer
returns-in-Ok-clause-answer c =
    query_done c.args.q.now c.args.t c.args.v.now c.args.binds.now c.args.changing.now c.args.room c.args.tx.now.contents c.begin.new.self.contents c.rows_of_query.new.tx.contents c.begin.ensures.contents _ c.in-Ok.ensures.answer

pub returns-in-Err-clause-answer : goal.returns-in-Err-clause-answer
returns-in-Err-clause-answer c =
    query_refused c.args.q.now c.args.t c.args.v.now c.args.binds.now c.args.changing.now c.args.room c.args.tx.now.contents c.begin.new.self.contents c.rows_of_query.new.tx.contents c.begin.ensures.contents c.in-Err.stop c.back_to_mark.new.self.contents c.in-Err.ensures.answer
    (undone_to c.args.tx.now.contents c.rows_of_query.new.tx.contents c.back_to_mark.new.self.contents c.args.t c.in_ok-mark.mark c.in_ok-mark.ensures.mark
    (over_query c.args.tx.now.contents c.begin.new.self.contents c.rows_of_query.new.tx.contents c.args.t c.begin.ensures.contents c.rows_of_query.ensures.locks) c.back_to_mark.ensures.contents)

pub returns-in_err-mark-clause-leaves : goal.returns-in_err-mark-clause-leaves
returns-in_err-mark-clause-leaves c = λ under. leaves_same c.args.tx.now.contents c.args.t under

pub returns-in-Ok-clause-leaves : goal.returns-in-Ok-clause-leaves
returns-in-Ok-clause-leaves c = λ under.
    leaves_leaves c.args.tx.now.contents c.begin.new.self.contents c.rows_of_query.new.tx.contents c.args.t under
    (leaves_begun c.args.tx.now.contents c.begin.new.self.contents c.args.t under c.requires.live c.begin.ensures.contents)
    (leaves_locks c.begin.new.self.contents c.rows_of_query.new.tx.contents c.args.t under c.rows_of_query.ensures.locks)

pub returns-in-Err-clause-leaves : goal.returns-in-Err-clause-leaves
returns-in-Err-clause-leaves c = λ under.
    leaves_equal c.args.tx.now.contents c.back_to_mark.new.self.contents c.args.t under
    (undone_to c.args.tx.now.contents c.rows_of_query.new.tx.contents c.back_to_mark.new.self.contents c.args.t c.in_ok-mark.mark c.in_ok-mark.ensures.mark
    (over_query c.args.tx.now.contents c.begin.new.self.contents c.rows_of_query.new.tx.contents c.args.t c.begin.ensures.contents c.rows_of_query.ensures.locks) c.back_to_mark.ensures.contents)
