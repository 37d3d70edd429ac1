-- The clause that other worlds can't alter an answer, from the clause that tells the answer.
use Rattle.std.proofs.Common.{ℕ, List, Result, Ok, Err, sym, ap, ◌∙◌}
use Rattle.ebr_base.specs.declared.value.Value.{Value}
use Rattle.ebr_ast.specs.declared.sql.SqlTree.{SqlTree}
use Rattle.ebr_asks.specs.declared.answer.Answer.{Answer}
use Rattle.ebr_record.specs.Keeper.{Keeper}
use Rattle.ebr_database.specs.Base.{Base}
use Rattle.ebr_database.specs.Shows.{Tells}
use Rattle.ebr_database.specs.declared.failure.Halt.{Halt}
use Rattle.ebr_exec.specs.Places.{Names, Place}
use Rattle.ebr_bodies.specs.OtherWorlds.{at_used, IsApart}
use Rattle.ebr_bodies.specs.Statements.{Stmt}
use Rattle.ebr_bodies.proofs.Apart.{Same}
use Rattle.ebr_bodies.proofs.ApartStatements.{stmt_apart}

pub told_apart : (names : Names) (levels : ℕ) (p : Place) (s : SqlTree) (binds : List Value) (left room : ℕ) (b b' : Base) (old new : Keeper) (r : Result Answer Halt)
    → Tells (Stmt names levels p s binds left room b) b' old new r → IsApart names levels p s binds left room b r b'.data_now
told_apart names levels p s binds left room b b' old new (Err why) told = tt
told_apart names levels p s binds left room b b' old new (Ok a) told = λ other used agree never never'.
    let e : Same at_used (Stmt names levels p s binds left room b) (Stmt other levels p s binds left room (at_used used b)) = (stmt_apart names other levels p agree.view s agree.applied binds left room b used).by agree.triggers never never' in
    record {
      answer = sym e.value ∙ told.value;
      leaves = ap (λ (x : Base). x.data_now) e.state ∙ ap (λ (x : Base). x.data_now) told.state;
      records = sym e.made;
    }
