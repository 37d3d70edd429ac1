use Rattle.std.proofs.Common.{◌≡◌, true, rules, subst}
use Rattle.std.specs.Prelude.{Ok}
use Rattle.ebr_cross.specs.Definitions.{object_of, put_object}
use Rattle.ebr_allowed.specs.Allowed.{may_be_enabled}
use Rattle.ebr_recovery.proofs.Plans.{named_planned}
use Rattle.ebr_recovery.proofs.objects.named_plan.Goals as goal

pub returns-in-Ok-clause-plans : goal.returns-in-Ok-clause-plans
returns-in-Ok-clause-plans c = λ lists h.
    let may : may_be_enabled c.args.kind c.args.enabled ≡ true = search rules in
    named_planned lists c.args.e c.args.enabled c.args.text.now c.args.unit.now c.args.kind c.args.name.now c.in-Ok.made may
    (subst (λ k. put_object lists c.args.e k (object_of lists c.args.e k c.args.text.now c.args.unit.now c.args.enabled) ≡ Ok c.in-Ok.made) c.in_ok-key.ensures (c.in-Ok.ensures.answer lists h))
