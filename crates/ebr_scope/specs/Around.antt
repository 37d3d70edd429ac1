-- What is known at a place in code.
use Rattle.std.specs.Prelude.{ℕ, Bool, true, false, List, [], Option, Some, None}
use Rattle.ebr_ast.specs.declared.kinds.Timing.{Timing}
use Rattle.ebr_ast.specs.declared.view.EditionView.{EditionView}
use Rattle.ebr_exprtree.specs.declared.expression.Path.{Path}
use Rattle.ebr_exprtree.specs.declared.expression.RowImage.{RowImage}
use Rattle.ebr_names.specs.declared.column.ViewColumn.{ViewColumn}
use Rattle.ebr_names.specs.Columns.{column_named}
use Rattle.ebr_sqlcheck.specs.Types.{Known}
use Rattle.ebr_sqlcheck.specs.Targets.{column_type}
use Rattle.ebr_sqlcheck.specs.Names.{Others}
use Rattle.ebr_scope.specs.Meanings.{Word, Meaning, Variable, Constant, Parameter, Scope}
use Rattle.ebr_scope.specs.Names.{meant}

-- the package in whose body code stands, and how many names its specification declares: those are the outermost ones
pub record OwnPackage : Type 0 where
  pub name : Word
  pub declares : ℕ

pub record Env : Type 0 where
  pub view : EditionView
  pub scope : Scope
  pub in_loop : Bool
  pub in_handler : Bool
  pub outermost : Bool  -- whether the next declarations are the outermost of a subprogram, a trigger or a block that is run
  pub own : Option OwnPackage  -- none outside the bodies of packages
  pub result : Option Known  -- what the enclosing function gives; none outside functions
  pub timing : Option Timing  -- the enclosing trigger's; none outside triggers
  pub columns : List ViewColumn  -- those of what the trigger is on

-- what is known outermost
abbrev pub outside : EditionView → Env
outside v = record { view = v; scope = []; in_loop = false; in_handler = false; outermost = true; own = None; result = None; timing = None; columns = [] }

abbrev pub knowing : Scope → Env → Env
knowing scope env = record env { scope = scope }

-- behind the declarations of a block
abbrev pub within_block : Scope → Env → Env
within_block scope env = record env { scope = scope; outermost = false }

abbrev pub within_loop : Env → Env
within_loop env = record env { in_loop = true }

abbrev pub within_handler : Env → Env
within_handler env = record env { in_handler = true }

-- the type of `:NEW.c` or `:OLD.c`, where there is such a column
abbrev pub image_type : Env → Word → Known
image_type env c = column_type (column_named c env.columns)

-- the type of what has a value and is no function
abbrev pub variable_type : Option Meaning → Option Known
variable_type (Some (Variable t)) = Some t
variable_type (Some (Constant t)) = Some t
variable_type (Some (Parameter m t)) = Some t
variable_type m = None

-- What names in a SQL statement are that are no columns: variables, and `:NEW.c` and `:OLD.c`, which another rule judges.
abbrev pub others : Env → Others
others env = record {
  variable = λ (path : Path). variable_type (meant env.view env.scope path);
  image = λ (image : RowImage) (name : Word). Some (image_type env name);
  bind = λ (at : ℕ). None;
}
