use Rattle.std.proofs.Common.{Some, filter_map, ap, ◌∙◌}
use Rattle.std.proofs.lemmas.Result.{on_ok_weaker}
use Rattle.ebr_names.specs.Headers.{head_in}
use Rattle.ebr_scope.specs.Meanings.{Word}
use Rattle.ebr_run.specs.Scope.{Env, with_heads}
use Rattle.ebr_run.specs.Units as run
use Rattle.ebr_compile.proofs.Done.{kept_is}
use Rattle.ebr_compile.proofs.packages.in_specification.Goals as goal

pub returns : goal.returns
returns c =
    let o = c.outside-around.ensures ∙ ap (λ k. run.outside c.args.seen.now.view (Some k)) c.in_ok-key.ensures in
    let s = c.set_owner.ensures ∙ ap (λ (w : Word). record c.outside-around.result { owner = Some w }) c.in_ok-owner.ensures ∙ ap (λ (e : Env). record e { owner = Some c.args.name.now }) o in
    kept_is c.value_if_done.result c.add_heads-done.result c.add_heads-done.new.self (run.in_specification c.args.seen.now.view c.args.name.now c.args.items.now) c.value_if_done.ensures.value c.value_if_done.ensures.done
    (on_ok_weaker c.add_heads-done.result (λ e. e ∙ ap (with_heads c.args.name.now (filter_map head_in c.args.items.now)) s) c.add_heads-done.ensures)
