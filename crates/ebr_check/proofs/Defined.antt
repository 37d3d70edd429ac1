-- Whether a subprogram has a head, by the first one of the head's name.
use Rattle.std.proofs.Common.{◌≡◌, Bool, true, false, cond, ◌&&◌, ◌||◌, List, [], ◌∷◌, map, Some, None, refl, sym, ap, ◌∙◌, true≢false}
use Rattle.std.specs.Prelude.{find}
use Rattle.std.specs.Option.{is_some}
use Rattle.std.specs.Str.{bytes_eq}
use Rattle.std.proofs.lemmas.Option.{same_Some}
use Rattle.ebr_ast.specs.declared.unit.Head.{Head}
use Rattle.ebr_ast.specs.declared.unit.Subprogram.{Subprogram}
use Rattle.ebr_ast.specs.Members.{is_named}
use Rattle.ebr_validity.specs.Rules.{same_head, same_parameters, same_result, is_defined}
use Rattle.ebr_validity.specs.Units.{head_of_subprogram}

or-true : (b : Bool) → (b || true) ≡ true
or-true true = refl
or-true false = refl

pub first_defines : (h : Head) (s : Subprogram) (ss : List Subprogram) → find (is_named h.name) ss ≡ Some s → same_head h s.head ≡ true → is_defined (map head_of_subprogram ss) h ≡ true
first_defines h s [] f e = absurd (true≢false (sym (ap is_some f)))
first_defines h s (x ∷ ss) f e = by (is_named h.name x) f (λ g. first_defines h s ss g e)
  where
    by : (b : Bool) → cond b (Some x) (find (is_named h.name) ss) ≡ Some s → (find (is_named h.name) ss ≡ Some s → is_defined (map head_of_subprogram ss) h ≡ true)
        → (same_head h x.head || is_defined (map head_of_subprogram ss) h) ≡ true
    by true g more = ap (λ b. b || is_defined (map head_of_subprogram ss) h) (ap (λ (y : Subprogram). same_head h y.head) (same_Some x s g) ∙ e)
    by false g more = ap (λ b. same_head h x.head || b) (more g) ∙ or-true (same_head h x.head)

pub none_defines : (h : Head) (ss : List Subprogram) → find (is_named h.name) ss ≡ None → is_defined (map head_of_subprogram ss) h ≡ false
none_defines h [] f = refl
none_defines h (x ∷ ss) f = by (bytes_eq h.name x.head.name) refl f (none_defines h ss)
  where
    by : (b : Bool) → bytes_eq h.name x.head.name ≡ b → cond b (Some x) (find (is_named h.name) ss) ≡ None → (find (is_named h.name) ss ≡ None → is_defined (map head_of_subprogram ss) h ≡ false)
        → (same_head h x.head || is_defined (map head_of_subprogram ss) h) ≡ false
    by true e g more = absurd (true≢false (ap is_some g))
    by false e g more = ap (λ b. (b && same_parameters h.parameters x.head.parameters && same_result h.result x.head.result) || is_defined (map head_of_subprogram ss) h) e ∙ more g
