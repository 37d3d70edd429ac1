-- The places of a unit that a rule speaks of. Each holds what the rules ask of it: what a name stands for there, a type, a
-- count. A type that isn't known is none: after a fault, or that of NULL. It fits every type, so that one fault makes no other.
use Rattle.std.specs.Prelude.{ℕ, Bool, List, Option}
use Rattle.ebr_exprtree.specs.declared.expression.AdditiveOperator.{AdditiveOperator}
use Rattle.ebr_exprtree.specs.declared.expression.Comparison.{Comparison}
use Rattle.ebr_ast.specs.declared.kinds.Timing.{Timing}
use Rattle.ebr_ast.specs.declared.statement.Caught.{Caught}
use Rattle.ebr_ast.specs.declared.statement.Decl.{Decl}
use Rattle.ebr_ast.specs.declared.unit.Head.{Head}
use Rattle.ebr_ast.specs.declared.unit.PackageItem.{PackageItem}
use Rattle.ebr_ast.specs.declared.unit.UnitTree.{UnitTree}
use Rattle.ebr_value.specs.declared.form.Builtin.{Builtin}
use Rattle.ebr_sqlcheck.specs.declared.relation.Meant.{Meant}
use Rattle.ebr_sqlcheck.specs.Types.{Known}
use Rattle.ebr_sqlcheck.specs.Checked.{Checked}
use Rattle.ebr_scope.specs.Meanings.{Word, Meaning, Fields}

pub data Site : Type 0 where
  -- names in code
  Operand : Option Meaning → Site  -- a name without arguments in an expression
  Applies : Option Head → ℕ → Site  -- a name with so many arguments in an expression
  Calls : Option Meaning → ℕ → Site  -- a call statement with so many arguments
  Raises : Option Meaning → Site  -- an exception behind RAISE or WHEN
  Cursors : Option Meaning → Site  -- behind OPEN, FETCH, CLOSE and FOR
  Asks : Option Meaning → Site  -- an attribute of a cursor
  Assigns : Option Meaning → Site  -- a target
  -- types
  Fits : Known → Known → Site  -- the type that is wanted, and that of the operand
  Builtins : Builtin → ℕ → Site  -- a built-in function with so many operands
  Adds : AdditiveOperator → Known → Site  -- an operand beside an operator of a sum
  Compares : Comparison → Known → Known → Site
  Prints : Known → Site
  RaisesNumber : ℕ → Site  -- RAISE_APPLICATION_ERROR
  -- values
  Passes : Bool → Bool → Site  -- an argument: whether its parameter hands a value back, and whether it may take one
  SetsNew : Option Timing → Site  -- `:NEW.c` as a target
  Unset : Bool → Site  -- a variable without a value, and whether it is a constant
  Gives : Bool → Bool → Site  -- RETURN: whether it has a value, and whether it stands in a function
  -- statements
  Leaves : Bool → Site  -- EXIT and CONTINUE: whether they stand in a loop
  Reraises : Bool → Site  -- RAISE without a name: whether it stands in a handler
  Handles : List Caught → Site  -- the handlers of a block, each exception with its full name
  Counts : Fields → ℕ → Site  -- a query's columns, and how many targets take them
  Loops : Fields → Site  -- the fields of a loop's record
  -- statements of SQL
  Named : Meant → Option Known → Site  -- a name: whether it is a column, and the type of the variable that it else is
  Computed : Option Builtin → Site  -- a call
  OnlyInCode : Site  -- what stands in code alone
  Sql : Checked → Site  -- what the checks of the statement find
  -- declarations
  Declares : List Word → Site  -- the names of one scope
  Sized : ℕ → ℕ → Site  -- a type's size, and the greatest one
  OfColumn : Known → Site  -- `n.m%TYPE`: the type of the column
  Pragmas : Bool → List Decl → Site  -- the declarations of one scope, and whether AUTONOMOUS_TRANSACTION may stand there
  -- units
  Specifies : List PackageItem → Site  -- a specification
  Implements : Option UnitTree → List Head → Site  -- a package's body: what has its name, and the heads of its subprograms
  OnRows : Bool → Site  -- a trigger: whether what stands behind ON is there with its columns
  Images : Option Timing → Known → Site  -- `:NEW.c` or `:OLD.c`: the type of the column
  Fires : Option Timing → Site  -- INSERTING, UPDATING or DELETING
  Placed : Site  -- a place of a row, or a bind at a place
