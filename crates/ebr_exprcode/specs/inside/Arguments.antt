-- An argument beside its parameter.
use Rattle.std.specs.Prelude.{if◌then◌else◌, List, [], ◌∷◌, Option, None}
use Rattle.ebr_exprtree.specs.declared.expression.Expr.{Expr}
use Rattle.ebr_exprtree.specs.declared.expression.RowImage.{RowImage}
use Rattle.ebr_exprtree.specs.declared.expression.RowImage.TheVariants as image
use Rattle.ebr_ast.specs.declared.unit.Mode.{Mode}
use Rattle.ebr_ast.specs.declared.unit.Parameter.{Parameter}
use Rattle.ebr_scope.specs.Meanings.{Word, is_out}
use Rattle.ebr_run.specs.Scope.{Env}
use Rattle.ebr_run.specs.Statements.{Place, Nowhere, new_place, argument_place}

abbrev pub first_mode : List Parameter → Option Mode
first_mode [] = None
first_mode (p ∷ ps) = p.mode

abbrev pub image_place : Env → RowImage → Word → Place
image_place env image.New c = new_place env c
image_place env image.Old c = Nowhere

-- what an argument hands a value back to, if its parameter has one
abbrev pub out_of : Option Mode → Env → Expr → List Place
out_of m env e = if is_out m then argument_place env e ∷ [] else []
