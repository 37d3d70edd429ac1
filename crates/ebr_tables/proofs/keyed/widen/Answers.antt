use Rattle.std.proofs.Common.{sym, ap, ◌∙◌}
use Rattle.std.specs.Map.{set_value}
use Rattle.std.specs.Str.{bytes_eq}
use Rattle.ebr_tables.proofs.Entries.{set_value-same}
use Rattle.ebr_tables.proofs.Results.{OnErr-map}
use Rattle.ebr_tables.proofs.keyed.widen.Goals as goal

pub returns-in-Some-clause-unchanged : goal.returns-in-Some-clause-unchanged
returns-in-Some-clause-unchanged c =
    OnErr-map c.widen_one.result
    (λ same.
    (c.get_mut.follows.holds c.widen_one.new.def).0
    ∙ ap (set_value (bytes_eq c.args.name.now) c.args.tables.now.entries) same
    ∙ set_value-same c.args.name.now c.in-Some.def.now c.args.tables.now.entries (sym c.in-Some.ensures.value))
    c.widen_one.ensures.unchanged
