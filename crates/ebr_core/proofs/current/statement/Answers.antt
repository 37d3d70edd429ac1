use Rattle.std.proofs.Common.{subst, sym, ◌∙◌}
use Rattle.ebr_core.specs.Machine.{reply_sql}
use Rattle.ebr_core.specs.inside.Held.{CopiesGiven, Tries}
use Rattle.ebr_core.proofs.LightAsks.{none_given, tried_plainly}
use Rattle.ebr_core.proofs.current.statement.Goals as goal

pub returns-then-only_reads-clause-reply : goal.returns-then-only_reads-clause-reply
returns-then-only_reads-clause-reply g c = λ db d x h has same.
    subst (λ b. Tries g.K.Keep.as_keeper b c.args.current.now c.query.new.current db c.query.result (reply_sql d db c.args.s x c.args.stmt.now c.args.binds.now c.args.left)) (sym c.if-only_reads.true ∙ c.only_reads.ensures)
    (c.query.ensures.reply db d x h has same)

pub returns-clause-reply : goal.returns-clause-reply
returns-clause-reply g c = λ db d x h has same.
    subst (λ b. Tries g.K.Keep.as_keeper b c.args.current.now c.sql.new.current db c.told.result (reply_sql d db c.args.s x c.args.stmt.now c.args.binds.now c.args.left)) (sym c.if-only_reads.false ∙ c.only_reads.ensures)
    (tried_plainly g.K.Keep.as_keeper c.args.current.now c.sql.new.current db c.sql.result c.told.result (reply_sql d db c.args.s x c.args.stmt.now c.args.binds.now c.args.left) (c.sql.ensures db d x h has same)
    (subst (λ y. CopiesGiven y c.told.result) c.with_nothing.ensures c.told.ensures))

pub returns-clause-book : goal.returns-clause-book
returns-clause-book g c = none_given c.sql.result c.told.result (subst (λ y. CopiesGiven y c.told.result) c.with_nothing.ensures c.told.ensures)
