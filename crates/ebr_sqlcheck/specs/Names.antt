-- The names in expressions: each is a column of one source, or something else that is there.
-- Oracle Database SQL Language Reference 19c, Column Expressions; Oracle Database PL/SQL Language Reference 19c, Name
-- Resolution in SQL statements: a column wins over a variable. The code EBR-0018 is own.
use Rattle.std.specs.Prelude.{ℕ, if◌then◌else◌, List, [], ◌∷◌, slice_get, Option, Some, None, option_map, Err}
use Rattle.std.specs.List.{filter_map}
use Rattle.ebr_base.specs.declared.value.Value.{Value}
use Rattle.ebr_exprtree.specs.declared.expression.Path.{Path}
use Rattle.ebr_exprtree.specs.declared.expression.RowImage.{RowImage}
use Rattle.ebr_exprtree.specs.declared.expression.Expr.{Expr}
use Rattle.ebr_exprtree.specs.declared.expression.Expr.TheOpen.{Expr-F, Addend-F}
use Rattle.ebr_exprtree.specs.declared.expression.Expr.TheOpen as expr
use Rattle.ebr_exprtree.specs.declared.expression.Expr.TheFolds.{fold-Expr}
use Rattle.ebr_names.specs.declared.column.ViewColumn.{ViewColumn}
use Rattle.ebr_names.specs.Columns.{column_named}
use Rattle.ebr_sqlcheck.specs.declared.value_type.ValueType.{ValueType}
use Rattle.ebr_sqlcheck.specs.declared.relation.Meant.{Meant}
use Rattle.ebr_sqlcheck.specs.declared.relation.Meant.TheVariants as meant
use Rattle.ebr_sqlcheck.specs.Types.{Known, type_of_column, type_of_value, type_in}
use Rattle.ebr_sqlcheck.specs.Checked.{Checked, right, must_be_there, both, each, not_there, ambiguous}
use Rattle.ebr_sqlcheck.specs.Sources.{Relation, is_called}

-- What stands in a statement that is no column: a variable of the code around it, `:NEW.n` or `:OLD.n`, a bind. Each has
-- its type, as far as it is known, or isn't there.
pub record Others : Type 0 where
  pub variable : Path → Option Known
  pub image : RowImage → List ℕ → Option Known
  pub bind : ℕ → Option Known

-- what there is in a statement of a session: binds alone, which have the types of their values
abbrev pub binds_alone : List Value → Others
binds_alone binds = record { variable = λ path. None; image = λ image name. None; bind = λ at. option_map type_of_value (slice_get binds at) }

-- the type of a relation's column
abbrev pub column_in : List ℕ → Relation → Option ValueType
column_in name r = option_map (λ (c : ViewColumn). type_of_column c.ty) (column_named name r.columns)

-- `n` is the column n; `n.m` is the column m of the relation that is called n
abbrev pub named_in : List ℕ → Option (List ℕ) → Relation → Option ValueType
named_in name None r = column_in name r
named_in alias (Some name) r = if is_called alias r then column_in name r else None

-- the types of the columns that a name may be, one for each source that has such a column
abbrev pub columns_meant : List Relation → Path → List ValueType
columns_meant relations path = filter_map (named_in path.name path.member) relations

abbrev pub one_of : List ValueType → Meant
one_of [] = meant.Nothing
one_of (t ∷ []) = meant.Column t
one_of (t ∷ u ∷ more) = meant.Several

-- whether a name is a column: of none of the sources, of one, or of several
abbrev pub column_meant : List Relation → Path → Meant
column_meant relations path = one_of (columns_meant relations path)

abbrev pub name_is : Others → Path → Meant → Checked
name_is others path meant.Nothing = must_be_there (others.variable path)
name_is others path (meant.Column t) = right
name_is others path meant.Several = Err ambiguous

abbrev pub name_type : Others → Path → Meant → Known
name_type others path meant.Nothing = type_in (others.variable path)
name_type others path (meant.Column t) = Some t
name_type others path meant.Several = None

-- What each kind of expression says of names, with what its operands say in their places. A place of a row is there for no
-- statement.
abbrev pub names_form : List Relation → Others → Expr-F Checked Checked → Checked
names_form relations others (expr.Name path) = name_is others path (column_meant relations path)
names_form relations others (expr.Row image name) = must_be_there (others.image image name)
names_form relations others (expr.Place at) = Err not_there
names_form relations others (expr.Bind at) = must_be_there (others.bind at)
names_form relations others (expr.Call path operands) = each operands
names_form relations others (expr.Quotient a b) = both a b
names_form relations others (expr.Plus a) = a
names_form relations others (expr.Minus a) = a
names_form relations others (expr.Product a more) = both a (each more)
names_form relations others (expr.Sum a more) = both a (each more)
names_form relations others (expr.Compare c a b) = both a b
names_form relations others (expr.IsNull a negated) = a
names_form relations others (expr.Between x a b negated) = both x (both a b)
names_form relations others (expr.In x list negated) = both x (each list)
names_form relations others (expr.Like a b negated) = both a b
names_form relations others (expr.Not a) = a
names_form relations others (expr.And a more) = both a (each more)
names_form relations others (expr.Or a more) = both a (each more)
names_form relations others (expr.Number n) = right
names_form relations others (expr.Text t) = right
names_form relations others expr.Null = right
names_form relations others (expr.Boolean b) = right
names_form relations others expr.SqlCode = right
names_form relations others (expr.Firing event) = right
names_form relations others (expr.Attribute cursor what) = right

abbrev pub names_term : Addend-F Checked Checked → Checked
names_term t = t.term

-- The first fault of a name in an expression, in reading order.
unfoldable pub names_in : List Relation → Others → Expr → Checked
names_in relations others e = fold-Expr Checked Checked (names_form relations others) names_term e
