use Rattle.std.proofs.Common.{◌≡◌, slice_get, ap, ◌∙◌, rules}
use Rattle.std.specs.Prelude.{option_and_then}
use Rattle.std.specs.Option.{option_copied}
use Rattle.ebr_ast.specs.Members.{has_name, item_named}
use Rattle.ebr_ast.proofs.Noted.{at_place}
use Rattle.ebr_ast.proofs.package.PackageItems.named.Goals as goal

pub returns-in-Some : goal.returns-in-Some
returns-in-Some c =
    let n = c.args.name.now in
    let list = c.self.inside.list in
    let seen : list ≡ c.args.self.now = search rules in
    let found : option_copied c.get.result ≡ slice_get list c.in-Some.at = search rules in
    found ∙ ap (option_and_then (slice_get list)) (c.in-Some.ensures ∙ c.self.invariant.found n) ∙ at_place (has_name n) list ∙ ap (item_named n) seen

pub returns-in-None : goal.returns-in-None
returns-in-None c =
    let n = c.args.name.now in
    let list = c.self.inside.list in
    let seen : list ≡ c.args.self.now = search rules in
    ap (option_and_then (slice_get list)) (c.in-None.ensures ∙ c.self.invariant.found n) ∙ at_place (has_name n) list ∙ ap (item_named n) seen
