use Rattle.std.proofs.Common.{◌≡◌, [], IfOk, ap, subst, rules}
use Rattle.std.specs.Prelude.{option_map}
use Rattle.ebr_scope.specs.Names.{visible_items}
use Rattle.ebr_run.specs.Scope.{member}
use Rattle.ebr_places.specs.Lent.{lent}
use Rattle.ebr_places.specs.inside.Members.{member_in}
use Rattle.ebr_places.proofs.members.member.Goals as goal

pub returns-in-Some : goal.returns-in-Some
unfolding member
returns-in-Some c =
    let v = c.args.seen.now.view in
    let p = c.args.owner.now in
    let e : c.in-Some.items.now ≡ visible_items v p = search rules in
    subst (λ items. IfOk c.member_in.result (λ d. option_map lent d ≡ member_in v p items c.args.name.now)) e c.member_in.ensures

pub returns-in-None : goal.returns-in-None
unfolding member
returns-in-None c =
    let v = c.args.seen.now.view in
    let p = c.args.owner.now in
    let e : [] ≡ visible_items v p = search rules in
    ap (λ items. member_in v p items c.args.name.now) e
