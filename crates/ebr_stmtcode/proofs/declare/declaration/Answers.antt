use Rattle.std.proofs.Common.{sym, ap, ◌∙◌}
use Rattle.std.proofs.lemmas.Result.{on_ok_weaker}
use Rattle.ebr_ast.specs.declared.statement.Decl.{Decl}
use Rattle.ebr_run.specs.Statements.{with_decl}
use Rattle.ebr_stmtcode.proofs.declare.declaration.Goals as goal

pub returns-in_ok-first_value-in-Variable-clause-around : goal.returns-in_ok-first_value-in-Variable-clause-around
returns-in_ok-first_value-in-Variable-clause-around c =
    on_ok_weaker c.add_variable.result
    (λ h. h c.in-Variable.initial ∙ ap (λ (d : Decl). with_decl c.args.among.now d c.args.around.now) (sym c.in-Variable.is))
    c.add_variable.ensures
