-- What gives a name its value, where it is a bind.
use Rattle.std.specs.Prelude.{ℕ, Option, Some, None, option_map}
use Rattle.ebr_exprtree.specs.declared.expression.Path.{Path}
use Rattle.ebr_exprtree.specs.declared.expression.RowImage.{RowImage}
use Rattle.ebr_exprtree.specs.declared.expression.Expr.{Expr}
use Rattle.ebr_sqlcheck.specs.declared.relation.Meant.{Meant}
use Rattle.ebr_sqlcheck.specs.declared.relation.Meant.TheVariants as of_sources
use Rattle.ebr_run.specs.declared.place.Bind.{Bind}
use Rattle.ebr_run.specs.declared.place.Bind.TheVariants as bind
use Rattle.ebr_run.specs.Binds.{Binding, as_bind, unbound, image_bind}
use Rattle.ebr_run.specs.Scope.{Env, Denoted, Variable, meant}

abbrev pub variable_origin : Option Denoted → Option Bind
variable_origin (Some (Variable l t)) = Some (bind.Variable l)
variable_origin d = None

-- a name that is no column of the sources
abbrev pub name_origin : Env → Path → Meant → Option Bind
name_origin env path of_sources.Nothing = variable_origin (meant env path)
name_origin env path (of_sources.Column t) = None
name_origin env path of_sources.Several = None

abbrev pub image_origin : RowImage → Option ℕ → Option Bind
image_origin i place = option_map (image_bind i) place

-- a bind where something gives it its value, and else what was written
abbrev pub bind_or : Expr → Option Bind → Binding Expr
bind_or e (Some b) n = as_bind b n
bind_or e None n = unbound e
