-- Scopes that stand within others, which are left when they are cut back.
use Rattle.std.proofs.Common.{◌≡◌, ℕ, ◌+◌, ◌-◌, List, [], ◌∷◌, ◌++◌, length, drop, refl, sym, ap, ◌∙◌, arith}
use Rattle.std.proofs.Math.Seq.{drop-append_seam}
use Rattle.std.proofs.lemmas.List.{length-append, append_assoc}
use Rattle.ebr_ast.specs.declared.statement.Decl.{Decl}
use Rattle.ebr_ast.specs.declared.statement.Decl.TheVariants as decl
use Rattle.ebr_ast.specs.declared.unit.Parameter.{Parameter}
use Rattle.ebr_ast.specs.declared.view.EditionView.{EditionView}
use Rattle.ebr_scope.specs.Meanings.{Entry, Scope}
use Rattle.ebr_scope.specs.Declarations.{with_parameters}
use Rattle.ebr_scope.specs.Around.{Env, knowing}
use Rattle.ebr_validity.specs.Statements.{with_decl, with_decls}

-- the inner names are more than the outer ones
pub record IsWithin (outer inner : Scope) : Type 0 where
  pub added : Scope
  pub is : inner ≡ added ++ outer

pub same : (s : Scope) → IsWithin s s
same s = record { added = []; is = refl }

pub one : (e : Entry) (s : Scope) → IsWithin s (e ∷ s)
one e s = record { added = e ∷ []; is = refl }

pub further : (a b c : Scope) → IsWithin a b → IsWithin b c → IsWithin a c
further a b c ab bc = record {
  added = bc.added ++ ab.added;
  is = bc.is ∙ (ap (λ s. bc.added ++ s) ab.is ∙ sym (append_assoc bc.added ab.added a));
}

pub decl_within : (d : Decl) (env : Env) → IsWithin env.scope (with_decl d env)
decl_within (decl.Variable n c t e) env = one _ env.scope
decl_within (decl.Exception n) env = one _ env.scope
decl_within (decl.Cursor n q) env = one _ env.scope
decl_within (decl.ExceptionInit n k) env = same env.scope
decl_within decl.Autonomous env = same env.scope

pub decls_within : (ds : List Decl) (env : Env) → IsWithin env.scope (with_decls ds env)
decls_within [] env = same env.scope
decls_within (d ∷ ds) env =
    further env.scope (with_decl d env) (with_decls ds (knowing (with_decl d env) env)) (decl_within d env) (decls_within ds (knowing (with_decl d env) env))

pub parameters_within : (v : EditionView) (ps : List Parameter) (s : Scope) → IsWithin s (with_parameters v ps s)
parameters_within v [] s = same s
parameters_within v (p ∷ ps) s = further s (_ ∷ s) (with_parameters v ps (_ ∷ s)) (one _ s) (parameters_within v ps (_ ∷ s))

added_length : (n m : ℕ) → n + m - m ≡ n
added_length n m = omega arith

-- cut back to their number, the outer names are left
pub cut_back : (outer inner : Scope) (depth : ℕ) → IsWithin outer inner → depth ≡ length outer → drop (length inner - depth) inner ≡ outer
cut_back outer inner depth w d =
    ap (λ n. drop (length inner - n) inner) d
    ∙ (ap (λ s. drop (length s - length outer) s) w.is
    ∙ (ap (λ n. drop n (w.added ++ outer)) (ap (λ n. n - length outer) (length-append w.added outer) ∙ added_length (length w.added) (length outer))
    ∙ drop-append_seam w.added outer))
