-- No fault is told exactly where a unit is valid.
use Rattle.std.proofs.Common.{◌≡◌, ◌↔◌, ℕ, true, Option, Some, None, refl, sym, ap, ◌∙◌}
use Rattle.std.specs.Option.{option_map}
use Rattle.ebr_ast.specs.declared.unit.UnitTree.{UnitTree}
use Rattle.ebr_ast.specs.declared.view.EditionView.{EditionView}
use Rattle.ebr_validity.specs.Rules.{rules}
use Rattle.ebr_rules.proofs.Least.{none_first}
use Rattle.ebr_check.specs.declared.faults.CheckFault.{CheckFault}
use Rattle.ebr_validity.specs.Units.{sites_in}
use Rattle.ebr_validity.specs.Verdict.{verdict, is_valid}

abbrev number : CheckFault → ℕ
number f = f.rule

none_from : (o : Option CheckFault) → option_map number o ≡ None → o ≡ None
none_from None e = refl
none_from (Some f) e = absurd cc

pub valid : (v : EditionView) (u : UnitTree) (o : Option CheckFault) (l : Option ℕ) → option_map (λ (f : CheckFault). f.rule) o ≡ l → l ≡ verdict v u
    → (o ≡ None) ↔ (is_valid v u ≡ true)
unfolding is_valid verdict
valid v u o l h k =
    let n = none_first rules (sites_in v u) in
    ((λ e. n.0 (sym (h ∙ k) ∙ ap (option_map number) e)), (λ e. none_from o (h ∙ (k ∙ n.1 e))))
