use Rattle.std.proofs.Common.{List, subst}
use Rattle.ebr_ast.specs.declared.kinds.Origin.TheVariants.{Plain}
use Rattle.ebr_database.specs.Shows.{Tells, base_of}
use Rattle.ebr_exec.specs.Places.{Under, names_of, own_place}
use Rattle.ebr_bodies.proofs.ToldApart.{told_apart}
use Rattle.ebr_bodies.specs.Statements.{Stmt}
use Rattle.ebr_statements.specs.Fits.{Remains}
use Rattle.ebr_statements.specs.inside.Fits.{under_by}
use Rattle.ebr_statements.specs.inside.Views.{place_at}
use Rattle.ebr_statements.proofs.run.run_sql.Goals as goal

-- No table is under change before.
pub returns-clause-exact : goal.returns-clause-exact
returns-clause-exact g c = λ lists keys current is seen.
    let old = g.K.Keep.as_keeper c.args.world.now.keeper in
    let new = g.K.Keep.as_keeper c.statement.new.keeper in
    subst (λ (changing : List Under). Tells (Stmt (names_of lists) 50 (place_at c.args.v.now.edition Plain c.args.t changing) c.args.s.now c.args.binds.now c.args.left c.args.room (base_of c.args.world.now.tx.contents old))
    (base_of c.statement.new.tx.contents new) old new c.statement.result) c.new-changing.ensures
    (c.statement.ensures.exact lists keys current is seen)

pub returns-clause-apart : goal.returns-clause-apart
returns-clause-apart g c = λ lists keys current is seen.
    let old = g.K.Keep.as_keeper c.args.world.now.keeper in
    let new = g.K.Keep.as_keeper c.statement.new.keeper in
    told_apart (names_of lists) 50 (own_place c.args.v.now.edition c.args.t) c.args.s.now c.args.binds.now c.args.left c.args.room
    (base_of c.args.world.now.tx.contents old) (base_of c.statement.new.tx.contents new) old new c.statement.result
    (returns-clause-exact g c lists keys current is seen)

pub returns-clause-remains : goal.returns-clause-remains
returns-clause-remains g c =
    subst (λ (changing : List Under). Remains c.args.world.now.catalogue c.args.t (under_by changing) c.args.world.now.book c.args.world.now.tx.contents c.statement.new.units c.statement.new.tx.contents)
    c.new-changing.ensures c.statement.ensures.remains
