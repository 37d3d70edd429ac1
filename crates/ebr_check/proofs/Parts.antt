-- The places of a unit, noted part by part.
use Rattle.std.proofs.Common.{◌≡◌, ℕ, List, [], ◌∷◌, ◌++◌, map, Option, Some, None, false, length, refl, sym, ap, ◌∙◌}
use Rattle.std.specs.List.{filter_map}
use Rattle.std.specs.Option.{option_map}
use Rattle.ebr_ast.specs.declared.unit.Head.{Head}
use Rattle.ebr_ast.specs.declared.unit.PackageBody.{PackageBody}
use Rattle.ebr_ast.specs.declared.unit.PackageItem.{PackageItem}
use Rattle.ebr_ast.specs.declared.unit.Parameter.{Parameter}
use Rattle.ebr_ast.specs.declared.unit.ParameterType.{ParameterType}
use Rattle.ebr_ast.specs.declared.unit.ParameterType.TheVariants as parameter
use Rattle.ebr_ast.specs.declared.unit.Subprogram.{Subprogram}
use Rattle.ebr_ast.specs.declared.unit.Trigger.{Trigger}
use Rattle.ebr_ast.specs.declared.view.EditionView.{EditionView}
use Rattle.ebr_ast.specs.Views.{unit_named}
use Rattle.ebr_names.specs.declared.column.ViewColumn.{ViewColumn}
use Rattle.ebr_names.specs.Headers.{head_in, declaration_in}
use Rattle.ebr_sqlcheck.specs.Types.{Known}
use Rattle.ebr_scope.specs.declared.place.Place.{Place}
use Rattle.ebr_scope.specs.Meanings.{Scope}
use Rattle.ebr_scope.specs.Names.{visible_items}
use Rattle.ebr_scope.specs.Around.{Env, knowing, outside, within_block}
use Rattle.ebr_scope.specs.Lent.{env}
use Rattle.ebr_scope.specs.Declarations.{with_parameters, with_heads, parameter_type, decl_name, item_name}
use Rattle.ebr_validity.specs.Sites.{Site, Declares, Pragmas, Specifies, Implements}
use Rattle.ebr_rules.specs.Noted.{noted}
use Rattle.ebr_rules.proofs.Laws.{noted_append}
use Rattle.ebr_validity.specs.Statements.{in_body, in_statement, in_handler, each, handlers, decls_sites, with_decls}
use Rattle.ebr_validity.specs.Units.{type_sites, parameter_sites, result_sites, head_sites, in_subprogram, subprogram_sites, subprograms_sites, parameter_name, items_sites, in_specification, package_sites, behind_specification, in_package_body, head_of_subprogram, head_name, tree_of, body_parts, package_body_sites, trigger_body}

-- ---- heads, which no known name changes

type_same : (t : ParameterType) (env : Env) (s : Scope) → type_sites t (knowing s env) ≡ type_sites t env
type_same parameter.Number env s = refl
type_same parameter.Integer env s = refl
type_same parameter.Varchar2 env s = refl
type_same parameter.Boolean env s = refl
type_same (parameter.OfColumn n m) env s = refl

parameters_same : (ps : List Parameter) (env : Env) (s : Scope) → parameter_sites ps (knowing s env) ≡ parameter_sites ps env
parameters_same [] env s = refl
parameters_same (p ∷ ps) env s =
    ap (λ ss. ss ++ parameter_sites ps (knowing s env)) (type_same p.ty env s)
    ∙ ap (λ ss. type_sites p.ty env ++ ss) (parameters_same ps env s)

result_same : (t : Option ParameterType) (env : Env) (s : Scope) → result_sites t (knowing s env) ≡ result_sites t env
result_same None env s = refl
result_same (Some t) env s = type_same t env s

head_same : (h : Head) (env : Env) (s : Scope) → head_sites h (knowing s env) ≡ head_sites h env
head_same h env s =
    ap (λ ss. Declares (map parameter_name h.parameters) ∷ (ss ++ result_sites h.result (knowing s env))) (parameters_same h.parameters env s)
    ∙ ap (λ ss. Declares (map parameter_name h.parameters) ∷ (parameter_sites h.parameters env ++ ss)) (result_same h.result env s)

pub head_noted : (h : Head) (env : Env) (l n : Option ℕ) → n ≡ noted (head_sites h (knowing [] env)) l → n ≡ noted (head_sites h env) l
head_noted h env l n e = e ∙ ap (λ ss. noted ss l) (head_same h env [])

-- ---- subprograms

pub subprogram_noted : (p : Subprogram) (env : Env) (scope : Scope) (given : Option Known) (l m n : Option ℕ)
    → m ≡ noted (head_sites p.head (knowing [] env)) l
    → scope ≡ with_parameters env.view p.head.parameters env.scope
    → given ≡ option_map (parameter_type env.view) p.head.result
    → n ≡ noted (in_body p.body (record env { scope = scope; result = given })) m
    → n ≡ noted (subprogram_sites p env) l
subprogram_noted p env scope given l m n h s g b =
    b
    ∙ ap (λ (x : Scope). noted (in_body p.body (record env { scope = x; result = given })) m) s
    ∙ ap (λ (x : Option Known). noted (in_body p.body (record env { scope = with_parameters env.view p.head.parameters env.scope; result = x })) m) g
    ∙ ap (noted (in_body p.body (in_subprogram p.head env))) (head_noted p.head env l m h)
    ∙ sym (noted_append (head_sites p.head env) (in_body p.body (in_subprogram p.head env)) l)

-- ---- packages

pub package_noted : (items : List PackageItem) (env : Env) (scope : Scope) (l l1 l2 l3 n : Option ℕ)
    → l1 ≡ noted (Specifies items ∷ []) l
    → l2 ≡ noted (Declares (filter_map item_name items) ∷ []) l1
    → l3 ≡ noted (Pragmas false (filter_map declaration_in items) ∷ []) l2
    → scope ≡ with_heads (filter_map head_in items) env.scope
    → n ≡ noted (items_sites items (knowing scope env)) l3
    → n ≡ noted (package_sites items env) l
package_noted items env scope l l1 l2 l3 n h1 h2 h3 s e =
    e
    ∙ ap (λ (x : Scope). noted (items_sites items (knowing x env)) l3) s
    ∙ ap (noted (items_sites items (in_specification items env)))
    (h3 ∙ ap (noted (Pragmas false (filter_map declaration_in items) ∷ [])) (h2 ∙ ap (noted (Declares (filter_map item_name items) ∷ [])) h1))

pub specification_known : (items : List PackageItem) (env : Env) (heads all : Scope)
    → heads ≡ with_heads (filter_map head_in items) env.scope
    → all ≡ with_decls (filter_map declaration_in items) (knowing heads env)
    → knowing all env ≡ behind_specification items env
specification_known items env heads all h e =
    ap (λ (s : Scope). knowing s env) (e ∙ ap (λ (s : Scope). with_decls (filter_map declaration_in items) (knowing s env)) h)

pub body_noted : (b : PackageBody) (place inner : Place) (k k1 k2 k3 : Scope) (l l1 l2 l3 n : Option ℕ)
    → l1 ≡ noted (decls_sites b.declarations (env place k)) l
    → k1 ≡ with_decls b.declarations (env place k)
    → l2 ≡ noted (subprograms_sites b.subprograms (env place k1)) l1
    → k2 ≡ k1
    → inner ≡ record place { outermost = false }
    → l3 ≡ noted (each (map in_statement b.statements) (env inner k2)) l2
    → k3 ≡ k2
    → n ≡ noted (handlers (map in_handler b.handlers) (env inner k3)) l3
    → n ≡ noted (body_parts b (env place k)) l
body_noted b place inner k k1 k2 k3 l l1 l2 l3 n h1 s1 h2 s2 p h3 s3 h4 =
    let around : Env = env place k in
    let known = with_decls b.declarations around in
    let behind : Env = within_block known around in
    let ds = decls_sites b.declarations around in
    let ps = subprograms_sites b.subprograms (knowing known around) in
    let ss = each (map in_statement b.statements) in
    let hs = handlers (map in_handler b.handlers) in
    let q : (k : Scope) → k ≡ known → env inner k ≡ behind = λ k s. ap (λ (x : Place). env x k) p ∙ ap (env (record place { outermost = false })) s in
    h4
    ∙ ap (λ (x : Env). noted (hs x) l3) (q k3 (s3 ∙ (s2 ∙ s1)))
    ∙ ap (noted (hs behind)) (h3 ∙ ap (λ (x : Env). noted (ss x) l2) (q k2 (s2 ∙ s1)))
    ∙ ap (λ x. noted (hs behind) (noted (ss behind) x)) (h2 ∙ ap (λ (k : Scope). noted (subprograms_sites b.subprograms (env place k)) l1) s1)
    ∙ ap (λ x. noted (hs behind) (noted (ss behind) (noted ps x))) h1
    ∙ sym (noted_append ds (ps ++ (ss behind ++ hs behind)) l ∙ (noted_append ps (ss behind ++ hs behind) (noted ds l) ∙ noted_append (ss behind) (hs behind) (noted ps (noted ds l))))

pub package_body_noted : (b : PackageBody) (place inner : Place) (k k1 k2 : Scope) (depth : ℕ) (l l1 l2 l3 n : Option ℕ)
    → l1 ≡ noted (Implements (tree_of (unit_named b.name (env place k).view.objects)) (map head_of_subprogram b.subprograms) ∷ []) l
    → l2 ≡ noted (Declares (filter_map decl_name b.declarations ++ map head_name (map head_of_subprogram b.subprograms)) ∷ []) l1
    → l3 ≡ noted (Pragmas false b.declarations ∷ []) l2
    → env place k1 ≡ behind_specification (visible_items (env place k).view b.name) (env place k)
    → depth ≡ length k1
    → ((scope : Scope) → env inner scope ≡ record (env place scope) { own = Some (record { name = b.name; declares = depth }) })
    → k2 ≡ with_heads (map head_of_subprogram b.subprograms) k1
    → n ≡ noted (body_parts b (env inner k2)) l3
    → n ≡ noted (package_body_sites b (env place k)) l
package_body_noted b place inner k k1 k2 depth l l1 l2 l3 n h1 h2 h3 q d p s e =
    let heads = map head_of_subprogram b.subprograms in
    let given = behind_specification (visible_items (env place k).view b.name) (env place k) in
    let counted : env inner (with_heads heads k1) ≡ in_package_body b.name heads (env place k1) =
    p (with_heads heads k1) ∙ ap (λ (m : ℕ). record (env place (with_heads heads k1)) { own = Some (record { name = b.name; declares = m }) }) d
    in
    e
    ∙ ap (λ (x : Env). noted (body_parts b x) l3) (ap (env inner) s ∙ (counted ∙ ap (in_package_body b.name heads) q))
    ∙ ap (noted (body_parts b (in_package_body b.name heads given)))
    (h3 ∙ ap (noted (Pragmas false b.declarations ∷ [])) (h2 ∙ ap (noted (Declares (filter_map decl_name b.declarations ++ map head_name heads) ∷ [])) h1))

-- ---- triggers

pub trigger_noted : (t : Trigger) (columns : List ViewColumn) (v : EditionView) (around inner : Env) (l n : Option ℕ)
    → around ≡ outside v
    → inner ≡ record around { timing = Some t.timing; columns = columns }
    → n ≡ noted (in_body t.body inner) l
    → n ≡ noted (trigger_body t columns (outside v)) l
trigger_noted t columns v around inner l n h k e =
    e ∙ ap (λ (x : Env). noted (in_body t.body x) l) (k ∙ ap (λ (x : Env). record x { timing = Some t.timing; columns = columns }) h)

-- ---- units

pub outside_noted : (sites : Env → List Site) (env : Env) (v : EditionView) (l n : Option ℕ)
    → env ≡ outside v
    → n ≡ noted (sites env) l
    → n ≡ noted (sites (outside v)) l
outside_noted sites env v l n h e = e ∙ ap (λ (x : Env). noted (sites x) l) h
