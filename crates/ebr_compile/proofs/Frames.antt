-- Packages and subprograms, and that what is known around them is left as it was.
use Rattle.std.proofs.Common.{◌≡◌, List, [], ◌∷◌, Option, None, option_map, refl, ap, ◌∙◌}
use Rattle.std.specs.Prelude.{◌||◌}
use Rattle.std.specs.List.{list_any, filter_map}
use Rattle.ebr_ast.specs.declared.unit.Head.{Head}
use Rattle.ebr_ast.specs.declared.unit.PackageItem.{PackageItem}
use Rattle.ebr_ast.specs.declared.unit.PackageItem.TheVariants as item
use Rattle.ebr_ast.specs.declared.unit.Parameter.{Parameter}
use Rattle.ebr_run.specs.declared.place.VariableType.{VariableType}
use Rattle.ebr_run.specs.Scope.{Env, Named, declaration_in, with_parameter, with_parameters, parameter_type}
use Rattle.ebr_run.specs.Units.{is_state, has_state, within_subprogram}
use Rattle.ebr_places.specs.declared.around.Mark.{Mark}
use Rattle.ebr_places.specs.declared.around.Frame.{Frame}
use Rattle.ebr_compile.specs.inside.Items.{item_is_state}
use Rattle.ebr_stmtcode.proofs.Envs.{IsWithin, same, further, mark_of, backed, drop_to}

pub any_state_is : (items : List PackageItem) → list_any item_is_state items ≡ has_state (filter_map declaration_in items)
any_state_is [] = refl
any_state_is (item.Decl d ∷ items) = ap (λ b. is_state d || b) (any_state_is items)
any_state_is (item.Head h ∷ items) = any_state_is items

-- ---- subprograms

parameter_within : (p : Parameter) (env : Env) → IsWithin env (with_parameter p env)
parameter_within p env = record { added = _ ∷ []; scope = refl; rest = refl }

parameters_within : (ps : List Parameter) (env : Env) → IsWithin env (with_parameters ps env)
parameters_within [] env = same env
parameters_within (p ∷ ps) env = further env (with_parameter p env) (with_parameters ps (with_parameter p env)) (parameter_within p env) (parameters_within ps (with_parameter p env))

abbrev pub framed : Env → Env
framed env = record env { owner = None; variables = 0; cursors = 0 }

abbrev pub with_result : Option VariableType → Env → Env
with_result t env = record env { result = t }

abbrev pub frame_of : Env → Frame
frame_of env = record { owner = env.owner; variables = env.variables; cursors = env.cursors }

abbrev pub unframed : Frame → Env → Env
unframed f env = record env { owner = f.owner; variables = f.variables; cursors = f.cursors }

left : (env inner : Env) (t : Option VariableType) → IsWithin (framed env) inner → unframed (frame_of env) (backed (mark_of env) (with_result env.result (with_result t inner))) ≡ env
left env inner t w =
    ap (λ (s : List Named). record inner { scope = s; owner = env.owner; variables = env.variables; cursors = env.cursors; result = env.result }) (drop_to inner.scope w.added env.scope w.scope)
    ∙ ap (λ (x : Env). record x { owner = env.owner; variables = env.variables; cursors = env.cursors; result = env.result }) w.rest

pub subprogram_left : (h : Head) (env e1 e2 e3 e4 e5 e6 e7 : Env) (m : Mark) (f : Frame) (t outer : Option VariableType)
    → outer ≡ env.result
    → m ≡ mark_of env
    → f ≡ frame_of env
    → e1 ≡ framed env
    → e2 ≡ with_parameters h.parameters e1
    → e3 ≡ with_result t e2
    → e4 ≡ e3
    → e5 ≡ with_result outer e4
    → e6 ≡ backed m e5
    → e7 ≡ unframed f e6
    → e7 ≡ env
subprogram_left h env e1 e2 e3 e4 e5 e6 e7 m f t outer ho hm hf h1 h2 h3 h4 h5 h6 h7 =
    let inner = with_parameters h.parameters (framed env) in
    h7
    ∙ ap (λ (x : Frame). unframed x e6) hf
    ∙ ap (unframed (frame_of env)) (h6 ∙ ap (λ (x : Mark). backed x e5) hm
    ∙ ap (backed (mark_of env)) (h5 ∙ ap (λ (x : Option VariableType). with_result x e4) ho
    ∙ ap (with_result env.result) (h4 ∙ (h3 ∙ ap (with_result t) (h2 ∙ ap (with_parameters h.parameters) h1)))))
    ∙ left env inner t (parameters_within h.parameters (framed env))

pub within_is : (h : Head) (env e1 e2 e3 : Env) (t : Option VariableType)
    → t ≡ option_map (parameter_type env.view) h.result
    → e1 ≡ framed env
    → e2 ≡ with_parameters h.parameters e1
    → e3 ≡ with_result t e2
    → e3 ≡ within_subprogram h env
within_is h env e1 e2 e3 t ht h1 h2 h3 =
    h3 ∙ ap (λ (x : Option VariableType). with_result x e2) ht
    ∙ ap (with_result (option_map (parameter_type env.view) h.result)) (h2 ∙ ap (with_parameters h.parameters) h1)
