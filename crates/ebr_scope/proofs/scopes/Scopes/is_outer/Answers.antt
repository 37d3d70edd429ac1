use Rattle.std.proofs.Common.{◌≡◌, map, reverse, ap, sym, ◌∙◌, rules}
use Rattle.ebr_scope.specs.Meanings.{is_outer}
use Rattle.ebr_scope.specs.Nests.{place}
use Rattle.ebr_scope.proofs.Outer.{is_before, outer_is}
use Rattle.ebr_scope.proofs.Shown.{shown}
use Rattle.ebr_scope.proofs.scopes.Scopes.is_outer.Goals as goal

pub returns-in-Some : goal.returns-in-Some
returns-in-Some c =
    let v : map shown (reverse c.self.inside.entries.items) ≡ c.args.self.now = search rules in
    ap (is_before c.args.count) (c.in-Some.ensures ∙ ap (place c.args.name.now) c.self.invariant.every)
    ∙ sym (outer_is c.args.count c.args.name.now (reverse c.self.inside.entries.items))
    ∙ ap (is_outer c.args.count c.args.name.now) v

pub returns-in-None : goal.returns-in-None
returns-in-None c =
    let v : map shown (reverse c.self.inside.entries.items) ≡ c.args.self.now = search rules in
    ap (is_before c.args.count) (c.in-None.ensures ∙ ap (place c.args.name.now) c.self.invariant.every)
    ∙ sym (outer_is c.args.count c.args.name.now (reverse c.self.inside.entries.items))
    ∙ ap (is_outer c.args.count c.args.name.now) v
