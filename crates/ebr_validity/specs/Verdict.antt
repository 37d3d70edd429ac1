-- Whether a unit is valid, and which rule it breaks first.
use Rattle.std.specs.Prelude.{ℕ, Bool, Option}
use Rattle.std.specs.List.{list_all}
use Rattle.ebr_ast.specs.declared.unit.UnitTree.{UnitTree}
use Rattle.ebr_ast.specs.declared.view.EditionView.{EditionView}
use Rattle.ebr_validity.specs.Units.{sites_in}
use Rattle.ebr_validity.specs.Rules.{Rule, rules, holds, first_broken}

-- A unit is valid against what an edition sees exactly where each rule holds.
unfoldable pub is_valid : EditionView → UnitTree → Bool
is_valid v u = list_all (λ (r : Rule). holds r (sites_in v u)) rules

-- the least number of a rule that doesn't hold
unfoldable pub verdict : EditionView → UnitTree → Option ℕ
verdict v u = first_broken rules (sites_in v u)
