-- The definitions compute: what names stand for in small scopes.
use Rattle.std.proofs.Common.{◌≡◌, [], ◌∷◌, Some, None, true, false, refl}
use Rattle.std.specs.Prelude.{codes}
use Rattle.ebr_ast.specs.declared.view.EditionView.{EditionView}
use Rattle.ebr_sqlcheck.specs.declared.value_type.ValueType.TheVariants as type
use Rattle.ebr_scope.specs.Meanings.{Word, Variable, Constant, Exception, Record, entry, with_fields, is_outer}
use Rattle.ebr_scope.specs.Names.{meant_at, applied_at, raised_at, is_predefined}

abbrev nothing : EditionView
nothing = record { edition = record { 0 = 1 }; objects = []; tables = [] }

abbrev n : Word
n = codes "N"

-- the innermost declaration decides
innermost : meant_at nothing (entry n (Variable (Some type.Text)) ∷ entry n Exception ∷ []) n None ≡ Some (Variable (Some type.Text))
unfolding meant_at
innermost = refl

not_there : meant_at nothing (entry (codes "M") Exception ∷ []) n None ≡ None
unfolding meant_at
not_there = refl

-- a name with arguments never is anything that is declared but a subprogram
no_variable : applied_at nothing (entry n (Variable None) ∷ []) n None ≡ None
unfolding applied_at
no_variable = refl

-- a loop's record has its fields alone
field : meant_at nothing (with_fields n Record (Some (record { name = Some (codes "M"); ty = None } ∷ [])) ∷ []) n (Some (codes "M")) ≡ Some (Constant None)
unfolding meant_at
field = refl

no_field : meant_at nothing (with_fields n Record (Some []) ∷ []) n (Some (codes "M")) ≡ None
unfolding meant_at
no_field = refl

predefined : raised_at nothing [] (codes "NO_DATA_FOUND") None ≡ Some Exception
unfolding raised_at is_predefined
predefined = refl

-- A name is an outer one where its innermost declaration is.
outer : is_outer 1 n (entry (codes "M") Exception ∷ entry n Exception ∷ []) ≡ true
outer = refl

not_outer : is_outer 1 n (entry n Exception ∷ entry n Exception ∷ []) ≡ false
not_outer = refl
