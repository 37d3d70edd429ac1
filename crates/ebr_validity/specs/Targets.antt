-- The places at targets: of an assignment, of INTO and of FETCH.
-- Oracle Database PL/SQL Language Reference 19c, Assignment Statement, SELECT INTO Statement, and FETCH Statement.
use Rattle.std.specs.Prelude.{List, [], ◌∷◌, ◌++◌, length, drop, Some, None}
use Rattle.ebr_ast.specs.declared.statement.Target.{Target}
use Rattle.ebr_ast.specs.declared.statement.Target.TheVariants as target
use Rattle.ebr_sqlcheck.specs.Types.{Known, type_in}
use Rattle.ebr_scope.specs.declared.field.Field.{Field}
use Rattle.ebr_scope.specs.Meanings.{Fields}
use Rattle.ebr_scope.specs.Names.{meant}
use Rattle.ebr_scope.specs.Around.{Env, image_type, variable_type}
use Rattle.ebr_validity.specs.Sites.{Site, Assigns, Fits, SetsNew, Counts, Images}

-- what stands in a part of the code, where this is known
abbrev pub In : Type 0
In = Env → List Site

abbrev pub target_sites : Target → Known → In
target_sites (target.Name path) t env =
    let m = meant env.view env.scope path in
    Assigns m ∷ Fits (type_in (variable_type m)) t ∷ []
target_sites (target.New c) t env = Images env.timing (image_type env c) ∷ SetsNew env.timing ∷ Fits (image_type env c) t ∷ []

abbrev pub first_type : List Field → Known
first_type [] = None
first_type (f ∷ fs) = f.ty

-- targets, each for the first of the columns that are left
abbrev pub each_target : List Target → List Field → In
each_target [] fs env = []
each_target (t ∷ ts) fs env = target_sites t (first_type fs) env ++ each_target ts (drop 1 fs) env

abbrev pub known_fields : Fields → List Field
known_fields None = []
known_fields (Some fs) = fs

abbrev pub into : Fields → List Target → In
into fs ts env = Counts fs (length ts) ∷ each_target ts (known_fields fs) env
