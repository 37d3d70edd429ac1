use Rattle.std.proofs.Common.{◌≡◌, ◌+◌, ◌++◌, take, drop, OnOk, subst, sym, ap, ◌∙◌, arith}
use Rattle.ebr_base.specs.Keys.{key_order}
use Rattle.ebr_shared_list.specs.Joined.{as_list}
use Rattle.ebr_ast.specs.Views.{key_of}
use Rattle.ebr_cross.proofs.OwnKeys.{key_total}
use Rattle.ebr_cross.proofs.Placed.{around-found, around-between}
use Rattle.ebr_cross.proofs.changed.put.Goals as goal

pub returns-in-Ok : goal.returns-in-Ok
returns-in-Ok c = λ up.
    subst (λ xs. OnOk c.splice.result (c.splice.new.self ≡ xs))
    (sym (around-found key_order key_of key_total c.args.key.now c.args.new c.args.objects.now c.in-Ok.at up c.in-Ok.ensures.within c.in-Ok.ensures.found))
    c.splice.ensures.ok

pub returns-in-Err : goal.returns-in-Err
returns-in-Err c = λ up.
    let same : c.in-Err.at ≡ c.in-Err.at + 0 = omega arith in
    subst (λ xs. OnOk c.splice-in-Err.result (c.splice-in-Err.new.self ≡ xs))
    (sym (around-between key_order key_of key_total c.args.key.now c.args.new c.args.objects.now c.in-Err.at up c.in-Err.ensures.within c.in-Err.ensures.found
    ∙ ap (λ n. take c.in-Err.at c.args.objects.now ++ (as_list c.args.new ++ drop n c.args.objects.now)) same))
    c.splice-in-Err.ensures.ok
