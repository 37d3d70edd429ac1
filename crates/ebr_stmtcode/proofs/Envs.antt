-- What is known within a part of a tree, a handler or a list of declarations, and that it is left as it was.
use Rattle.std.proofs.Common.{◌≡◌, ℕ, suc, ◌+◌, ◌-◌, List, [], ◌∷◌, ◌++◌, length, take, drop, refl, sym, ap, ◌∙◌, arith}
use Rattle.std.proofs.lemmas.List.{length-append, append_assoc}
use Rattle.ebr_ast.specs.declared.statement.Decl.{Decl}
use Rattle.ebr_ast.specs.declared.statement.Decl.TheVariants as decl
use Rattle.ebr_scope.specs.Meanings.{Word, Fields}
use Rattle.ebr_run.specs.Scope.{Env, Named, part, within_handler, with_counter, with_record}
use Rattle.ebr_run.specs.Statements.{Source, with_decl, with_decls, with_decls_among, in_rows}
use Rattle.ebr_places.specs.declared.around.Mark.{Mark}

take_first : {A : Type 0} (xs ys : List A) → take (length xs) (xs ++ ys) ≡ xs
take_first [] ys = refl
take_first (x ∷ xs) ys = ap (λ zs. x ∷ zs) (take_first xs ys)

drop_first : {A : Type 0} (xs ys : List A) → drop (length xs) (xs ++ ys) ≡ ys
drop_first [] ys = refl
drop_first (x ∷ xs) ys = drop_first xs ys

less : (n m : ℕ) → n + m - m ≡ n
less n m = omega arith

-- ---- parts

last_gone : (xs : List ℕ) (i : ℕ) → take (length (xs ++ i ∷ []) - 1) (xs ++ i ∷ []) ≡ xs
last_gone xs i = ap (λ n. take n (xs ++ i ∷ [])) (ap (λ n. n - 1) (length-append xs (i ∷ [])) ∙ less (length xs) 1) ∙ take_first xs (i ∷ [])

abbrev pub left_of : Env → Env
left_of e = record e { path = take (length e.path - 1) e.path }

left_is : (i : ℕ) (env : Env) → left_of (part i env) ≡ env
left_is i env = ap (λ (p : List ℕ). record env { path = p }) (last_gone env.path i)

pub part_left : (i : ℕ) (env e1 e2 e3 : Env) → e1 ≡ part i env → e2 ≡ e1 → e3 ≡ left_of e2 → e3 ≡ env
part_left i env e1 e2 e3 h k l = l ∙ ap left_of (k ∙ h) ∙ left_is i env

-- ---- handlers

abbrev pub fewer_handlers : Env → Env
fewer_handlers e = record e { handlers = e.handlers - 1 }

fewer_is : (env : Env) → fewer_handlers (within_handler env) ≡ env
fewer_is env = ap (λ (n : ℕ). record env { handlers = n }) (fewer env.handlers) where
  fewer : (n : ℕ) → suc n - 1 ≡ n
  fewer n = omega arith

pub handler_left : (i : ℕ) (env e1 e2 e3 e4 : Env)
    → e1 ≡ within_handler (part i env)
    → e2 ≡ e1
    → e3 ≡ fewer_handlers e2
    → e4 ≡ left_of e3
    → e4 ≡ env
handler_left i env e1 e2 e3 e4 h k l m =
    m ∙ ap left_of (l ∙ (ap fewer_handlers (k ∙ h) ∙ fewer_is (part i env))) ∙ left_is i env

-- ---- declared names

-- the inner names are more than the outer ones, and the counts alone are others
pub record IsWithin (env inner : Env) : Type 0 where
  pub added : List Named
  pub scope : inner.scope ≡ added ++ env.scope
  pub rest : record inner { scope = env.scope; variables = env.variables; cursors = env.cursors } ≡ env

abbrev pub mark_of : Env → Mark
mark_of env = record { depth = length env.scope; variables = env.variables; cursors = env.cursors }

abbrev pub backed : Mark → Env → Env
backed m e = record e { scope = drop (length e.scope - m.depth) e.scope; variables = m.variables; cursors = m.cursors }

pub drop_to : (inner xs ys : List Named) → inner ≡ xs ++ ys → drop (length inner - length ys) inner ≡ ys
drop_to inner xs ys e =
    ap (λ (zs : List Named). drop (length zs - length ys) zs) e
    ∙ (ap (λ n. drop n (xs ++ ys)) (ap (λ n. n - length ys) (length-append xs ys) ∙ less (length xs) (length ys)) ∙ drop_first xs ys)

back_is : (env inner : Env) → IsWithin env inner → backed (mark_of env) inner ≡ env
back_is env inner w =
    ap (λ (s : List Named). record inner { scope = s; variables = env.variables; cursors = env.cursors }) (drop_to inner.scope w.added env.scope w.scope) ∙ w.rest

pub marked_left : (env inner e1 e2 e3 : Env) (m : Mark) → m ≡ mark_of env → IsWithin env inner → e1 ≡ inner → e2 ≡ e1 → e3 ≡ backed m e2 → e3 ≡ env
marked_left env inner e1 e2 e3 m q w h k l = l ∙ ap (λ (x : Mark). backed x e2) q ∙ ap (backed (mark_of env)) (k ∙ h) ∙ back_is env inner w

pub same : (env : Env) → IsWithin env env
same env = record { added = []; scope = refl; rest = refl }

pub further : (a b c : Env) → IsWithin a b → IsWithin b c → IsWithin a c
further a b c ab bc = record {
  added = bc.added ++ ab.added;
  scope = bc.scope ∙ (ap (λ s. bc.added ++ s) ab.scope ∙ sym (append_assoc bc.added ab.added a.scope));
  rest = ap (λ (x : Env). record x { scope = a.scope; variables = a.variables; cursors = a.cursors }) bc.rest ∙ ab.rest;
}

pub counter_within : (n : Word) (env : Env) → IsWithin env (with_counter n env)
counter_within n env = record { added = _ ∷ []; scope = refl; rest = refl }

pub rows_within : (n : Word) (s : Source) (env : Env) → IsWithin env (in_rows n s env)
rows_within n s env = record { added = _ ∷ []; scope = refl; rest = refl }

decl_within : (ds : List Decl) (d : Decl) (env : Env) → IsWithin env (with_decl ds d env)
decl_within ds (decl.Variable n c t e) env = record { added = _ ∷ []; scope = refl; rest = refl }
decl_within ds (decl.Exception n) env = record { added = _ ∷ []; scope = refl; rest = refl }
decl_within ds (decl.Cursor n q) env = record { added = _ ∷ []; scope = refl; rest = refl }
decl_within ds (decl.ExceptionInit n k) env = same env
decl_within ds decl.Autonomous env = same env

among_within : (all ds : List Decl) (env : Env) → IsWithin env (with_decls_among all ds env)
among_within all [] env = same env
among_within all (d ∷ ds) env = further env (with_decl all d env) (with_decls_among all ds (with_decl all d env)) (decl_within all d env) (among_within all ds (with_decl all d env))

pub decls_within : (ds : List Decl) (env : Env) → IsWithin env (with_decls ds env)
decls_within ds env = among_within ds ds env

-- a loop over rows: its record, and a cursor without a name
pub rows_entered : (n : Word) (s : Source) (fields : Fields) (env r h : Env)
    → fields ≡ s.fields
    → r ≡ with_record n fields env
    → h ≡ record r { cursors = suc r.cursors }
    → h ≡ in_rows n s env
rows_entered n s fields env r h q l k = k ∙ ap (λ (x : Env). record x { cursors = suc x.cursors }) (l ∙ ap (λ (f : Fields). with_record n f env) q)
