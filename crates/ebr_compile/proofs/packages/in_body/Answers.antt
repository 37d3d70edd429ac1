use Rattle.std.proofs.Common.{List, ◌++◌, Some, filter_map, ap, ◌∙◌}
use Rattle.std.proofs.lemmas.Result.{on_ok_weaker}
use Rattle.ebr_ast.specs.declared.unit.PackageItem.{PackageItem}
use Rattle.ebr_scope.specs.Names.{visible_items}
use Rattle.ebr_run.specs.Scope.{Env, body_key, declaration_in, with_subprograms}
use Rattle.ebr_run.specs.Statements.{with_decls}
use Rattle.ebr_run.specs.Units.{in_specification, in_package_body}
use Rattle.ebr_code.specs.Codes.{decls_code}
use Rattle.ebr_compile.proofs.Done.{also, kept_is}
use Rattle.ebr_compile.proofs.packages.in_body.Goals as goal

pub returns-clause-code : goal.returns-clause-code
returns-clause-code c =
    let v = c.args.seen.now.view in
    let p = c.args.it.now.name in
    let q = c.visible_items-items.ensures in
    let a = c.in_ok-around.ensures ∙ ap (λ (xs : List PackageItem). in_specification v p xs) q in
    also _ c.value_if_done.result c.add_body-done.result c.value_if_done.ensures.done
    (on_ok_weaker c.add_body-done.result
    (λ e. e
    ∙ ap (λ (xs : List PackageItem). c.args.out.now ++ decls_code (filter_map declaration_in xs) c.in_ok-around.around) q
    ∙ ap (λ (x : Env). c.args.out.now ++ decls_code (filter_map declaration_in (visible_items v p)) x) a)
    c.add_body-done.ensures.code)

pub returns-clause-around : goal.returns-clause-around
returns-clause-around c =
    let v = c.args.seen.now.view in
    let p = c.args.it.now.name in
    let s = c.args.it.now.subprograms in
    let q = c.visible_items-items.ensures in
    let a = c.in_ok-around.ensures ∙ ap (λ (xs : List PackageItem). in_specification v p xs) q in
    kept_is c.value_if_done.result c.add_body-done.result c.add_body-done.new.around (in_package_body v c.args.it.now) c.value_if_done.ensures.value c.value_if_done.ensures.done
    (on_ok_weaker c.add_body-done.result
    (λ e. e
    ∙ ap (λ (xs : List PackageItem). with_subprograms p 0 s (record (with_decls (filter_map declaration_in xs) c.in_ok-around.around) { unit = Some (body_key p) })) q
    ∙ ap (λ (x : Env). with_subprograms p 0 s (record (with_decls (filter_map declaration_in (visible_items v p)) x) { unit = Some (body_key p) })) a)
    c.add_body-done.ensures.around)
