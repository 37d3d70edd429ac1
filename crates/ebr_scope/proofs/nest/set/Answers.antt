use Rattle.std.proofs.Common.{◌≡◌, None, sym, ◌∙◌, rules}
use Rattle.std.specs.Map.{lookup}
use Rattle.std.specs.Str.{bytes_eq}
use Rattle.ebr_scope.proofs.Innermost.{set-absent}
use Rattle.ebr_scope.proofs.nest.set.Goals as goal

pub returns-in_default : goal.returns-in_default
returns-in_default c =
    let none : lookup (bytes_eq c.args.name.now) c.args.places.now.entries ≡ None = search rules in
    let same : c.get_mut.follows.lender-at-none.entries ≡ c.args.places.now.entries = search rules in
    same ∙ sym (set-absent c.args.name.now c.args.to c.args.places.now.entries none)
