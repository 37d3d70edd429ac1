-- The binds of an expression at one layer, and of one part more.
use Rattle.std.proofs.Common.{◌≡◌, ℕ, ◌+◌, length, List, [], ◌∷◌, ◌++◌, map, Bool, Option, Some, None, refl, ap, ◌∙◌, append_assoc, rules}
use Rattle.std.proofs.lemmas.List.{length-append}
use Rattle.ebr_exprtree.specs.declared.expression.Addend.{Addend, out-Addend}
use Rattle.ebr_exprtree.specs.declared.expression.Path.{Path}
use Rattle.ebr_exprtree.specs.declared.expression.RowImage.{RowImage}
use Rattle.ebr_exprtree.specs.declared.expression.Expr.{Expr, out-Expr}
use Rattle.ebr_exprtree.specs.declared.expression.Expr as made
use Rattle.ebr_exprtree.specs.declared.expression.Expr.TheOpen.{Expr-F}
use Rattle.ebr_exprtree.specs.declared.expression.Expr.TheOpen as form
use Rattle.ebr_exprtree.specs.declared.expression.Expr.TheViews.{the_lemmas}
use Rattle.ebr_exprtree.specs.declared.expression.Expr.TheFolds.{fold_out-Expr, fold_out-Addend, map-Expr, map-Addend}
use Rattle.ebr_sqlcheck.specs.Sources.{Relation}
use Rattle.ebr_sqlcheck.specs.declared.relation.Meant.{Meant}
use Rattle.ebr_sqlcheck.specs.declared.relation.Meant.TheVariants as of_sources
use Rattle.ebr_run.specs.declared.place.Bind.{Bind}
use Rattle.ebr_run.specs.Scope.{Env, Denoted, Variable, meant}
use Rattle.ebr_run.specs.Binds.{Binding, bind_two, bind_all, bind_variable, bind_name, bind_image, bind_form, bind_term, bound_expr, bound_term}
use Rattle.ebr_binds.specs.inside.Origins.{variable_origin, name_origin, image_origin, bind_or}

pub bound_expr-out : (rs : List Relation) (env : Env) (e : Expr) → bound_expr rs env e ≡ bind_form rs env (map-Expr Expr Addend (Binding Expr) (Binding Addend) (bound_expr rs env) (bound_term rs env) (out-Expr e))
unfolding bound_expr bound_term
bound_expr-out rs env e = fold_out-Expr (Binding Expr) (Binding Addend) (bind_form rs env) bind_term e

pub bound_term-out : (rs : List Relation) (env : Env) (t : Addend) → bound_term rs env t ≡ bind_term (map-Addend Expr Addend (Binding Expr) (Binding Addend) (bound_expr rs env) (bound_term rs env) (out-Addend t))
unfolding bound_expr bound_term
bound_term-out rs env t = fold_out-Addend (Binding Expr) (Binding Addend) (bind_form rs env) bind_term t

variable-origin : (path : Path) (d : Option Denoted) (n : ℕ) → bind_variable path d n ≡ bind_or (made.Name path) (variable_origin d) n
variable-origin path (Some (Variable l t)) n = refl
variable-origin path d n = refl

pub name-origin : (env : Env) (path : Path) (m : Meant) (n : ℕ) → bind_name env path m n ≡ bind_or (made.Name path) (name_origin env path m) n
name-origin env path of_sources.Nothing n = variable-origin path (meant env path) n
name-origin env path (of_sources.Column t) n = refl
name-origin env path of_sources.Several n = refl

pub image-origin : (i : RowImage) (c : List ℕ) (k : Option ℕ) (n : ℕ) → bind_image i c k n ≡ bind_or (made.Row i c) (image_origin i k) n
image-origin i c (Some k) n = refl
image-origin i c None n = refl

-- what a loop keeps over the parts that are left
pub record Keeps {A : Type 0} (whole : Binding (List A)) (start : List Bind) (left : List (Binding A)) (done : List A) (binds : List Bind) : Type 0 where
  pub trees : done ++ (bind_all left (length binds)).tree ≡ (whole (length start)).tree
  pub all : binds ++ (bind_all left (length binds)).binds ≡ start ++ (whole (length start)).binds

pub one_more : {A : Type 0} (whole : Binding (List A)) (start : List Bind) (a : Binding A) (left : List (Binding A)) (done done' : List A) (binds binds' : List Bind) (x : A)
    → Keeps whole start (a ∷ left) done binds → x ≡ (a (length binds)).tree → binds' ≡ binds ++ (a (length binds)).binds → done' ≡ done ++ x ∷ []
    → Keeps whole start left done' binds'
one_more whole start a left done done' binds binds' x k t b d =
    let long : length binds' ≡ length binds + length (a (length binds)).binds = ap length b ∙ length-append binds (a (length binds)).binds in
    record {
      trees = ap (λ n. done' ++ (bind_all left n).tree) long
          ∙ ap (λ xs. xs ++ (bind_all left (length binds + length (a (length binds)).binds)).tree) (d ∙ ap (λ y. done ++ y ∷ []) t)
          ∙ append_assoc done ((a (length binds)).tree ∷ []) (bind_all left (length binds + length (a (length binds)).binds)).tree
          ∙ k.trees;
      all = ap (λ n. binds' ++ (bind_all left n).binds) long
          ∙ ap (λ xs. xs ++ (bind_all left (length binds + length (a (length binds)).binds)).binds) b
          ∙ append_assoc binds (a (length binds)).binds (bind_all left (length binds + length (a (length binds)).binds)).binds
          ∙ k.all;
    }

-- what the layers with lists give
bound_at : (rs : List Relation) (env : Env) (e : Expr) (d : Expr-F Expr Addend) (n : ℕ) → out-Expr e ≡ d
    → bound_expr rs env e n ≡ bind_form rs env (map-Expr Expr Addend (Binding Expr) (Binding Addend) (bound_expr rs env) (bound_term rs env) d) n
bound_at rs env e d n h = ap (λ f. f n) (bound_expr-out rs env e ∙ ap (λ x. bind_form rs env (map-Expr Expr Addend (Binding Expr) (Binding Addend) (bound_expr rs env) (bound_term rs env) x)) h)

pub bound-Product : (rs : List Relation) (env : Env) (a : Expr) (more : List Expr) (n : ℕ)
    → bound_expr rs env (made.Product a more) n ≡ bind_two made.Product (bound_expr rs env a) (bind_all (map (bound_expr rs env) more)) n
bound-Product rs env a more n = bound_at rs env (made.Product a more) (form.Product a more) n (search (rules, the_lemmas))

pub bound-And : (rs : List Relation) (env : Env) (a : Expr) (more : List Expr) (n : ℕ)
    → bound_expr rs env (made.And a more) n ≡ bind_two made.And (bound_expr rs env a) (bind_all (map (bound_expr rs env) more)) n
bound-And rs env a more n = bound_at rs env (made.And a more) (form.And a more) n (search (rules, the_lemmas))

pub bound-Or : (rs : List Relation) (env : Env) (a : Expr) (more : List Expr) (n : ℕ)
    → bound_expr rs env (made.Or a more) n ≡ bind_two made.Or (bound_expr rs env a) (bind_all (map (bound_expr rs env) more)) n
bound-Or rs env a more n = bound_at rs env (made.Or a more) (form.Or a more) n (search (rules, the_lemmas))

pub bound-In : (rs : List Relation) (env : Env) (a : Expr) (more : List Expr) (negated : Bool) (n : ℕ)
    → bound_expr rs env (made.In a more negated) n ≡ bind_two (λ x xs. made.In x xs negated) (bound_expr rs env a) (bind_all (map (bound_expr rs env) more)) n
bound-In rs env a more negated n = bound_at rs env (made.In a more negated) (form.In a more negated) n (search (rules, the_lemmas))

pub bound-Sum : (rs : List Relation) (env : Env) (a : Expr) (more : List Addend) (n : ℕ)
    → bound_expr rs env (made.Sum a more) n ≡ bind_two made.Sum (bound_expr rs env a) (bind_all (map (bound_term rs env) more)) n
bound-Sum rs env a more n = bound_at rs env (made.Sum a more) (form.Sum a more) n (search (rules, the_lemmas))
