use Rattle.std.proofs.Common.{◌≡◌, map, reverse, ap, ◌∙◌, rules}
use Rattle.ebr_run.specs.Scope.{entry_of}
use Rattle.ebr_places.proofs.Shown.{all_told, shown}
use Rattle.ebr_places.proofs.names.Names.known.Goals as goal

pub returns : goal.returns
returns c =
    let v : map shown (reverse c.self.inside.entries.items) ≡ c.args.self.now = search rules in
    c.self.invariant.checks_know ∙ all_told (reverse c.self.inside.entries.items) ∙ ap (map entry_of) v
