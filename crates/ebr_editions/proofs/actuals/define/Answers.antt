use Rattle.std.proofs.Common.{◌≡◌, ap, sym, ◌∙◌}
use Rattle.std.specs.Option.{unwrap_or}
use Rattle.std.specs.Map.{set_value}
use Rattle.ebr_editions.specs.Editions.{is_edition}
use Rattle.ebr_editions.specs.Held.{Defined, nothing_defined, with_object, defined_in}
use Rattle.std.proofs.lemmas.Map.Steps.{set_value_same}
use Rattle.indexmap.specs.IndexMap.{insert_entry}
use Rattle.ebr_editions.proofs.Entries.{set-insert, on_ok, on_err}
use Rattle.ebr_editions.proofs.actuals.define.Goals as goal

pub returns-in-Some-clause-ok : goal.returns-in-Some-clause-ok
returns-in-Some-clause-ok g c =
    let es = c.args.editions.now.entries in
    let was : c.in-Some.definitions.now ≡ defined_in es c.args.e = ap (λ r. unwrap_or r nothing_defined) c.in-Some.ensures.value in
    on_ok c.put.result
    (λ p.
    (c.get_mut.follows.holds c.put.new.self).0
    ∙ (set-insert is_edition c.args.e es c.in-Some.definitions.now c.put.new.self (sym c.in-Some.ensures.value)
    ∙ ap (insert_entry is_edition es c.args.e) (p ∙ ap (λ (d : Defined g.row.O.Denot). with_object d c.args.key c.args.object) was)))
    c.put.ensures.ok

pub returns-in-Some-clause-err : goal.returns-in-Some-clause-err
returns-in-Some-clause-err g c =
    let es = c.args.editions.now.entries in
    on_err c.put.result
    (λ p.
    (c.get_mut.follows.holds c.put.new.self).0
    ∙ (ap (set_value (is_edition c.args.e) es) p ∙ set_value_same (is_edition c.args.e) es c.in-Some.definitions.now (sym c.in-Some.ensures.value)))
    c.put.ensures.err
