use Rattle.std.proofs.Common.{◌≡◌, ap, ◌∙◌, rules}
use Rattle.std.specs.List.{position}
use Rattle.ebr_ast.specs.Members.{is_named}
use Rattle.ebr_ast.proofs.Noted.{same_place}
use Rattle.ebr_ast.proofs.package.Subprograms.place.Goals as goal

pub returns : goal.returns
returns c =
    let n = c.args.name.now in
    let list = c.self.inside.list in
    let seen : list ≡ c.args.self.now = search rules in
    c.noted.ensures ∙ c.self.invariant n ∙ same_place (is_named n) list ∙ ap (position (is_named n)) seen
