use Rattle.std.proofs.Common.{rules, ◌≡◌, None, ap, sym, ◌∙◌}
use Rattle.std.specs.Option.{unwrap_or}
use Rattle.std.specs.Map.{set_value}
use Rattle.ebr_editions.specs.Editions.{is_edition}
use Rattle.ebr_editions.specs.Held.{Defined, nothing_defined, with_object, defined_in}
use Rattle.std.proofs.lemmas.Map.Steps.{set_value_same}
use Rattle.indexmap.specs.IndexMap.{insert_entry}
use Rattle.ebr_editions.proofs.Entries.{set-insert, on_ok, on_err, defined-twice}
use Rattle.ebr_editions.proofs.actuals.hide_two.Goals as goal

pub returns-in-Some-clause-ok : goal.returns-in-Some-clause-ok
returns-in-Some-clause-ok g c =
    let es = c.args.editions.now.entries in
    let was : c.in-Some.definitions.now ≡ defined_in es c.args.e = ap (λ r. unwrap_or r nothing_defined) c.in-Some.ensures.value in
    on_ok c.hide_two.result
    (λ p.
    (c.get_mut.follows.holds c.hide_two.new.self).0
    ∙ (set-insert is_edition c.args.e es c.in-Some.definitions.now c.hide_two.new.self (sym c.in-Some.ensures.value)
    ∙ (ap (insert_entry is_edition es c.args.e) (p ∙ ap (λ (d : Defined g.row.O.Denot). with_object (with_object d c.args.first None) c.args.second None) was)
    ∙ sym (defined-twice es c.args.e c.args.first c.args.second None None))))
    c.hide_two.ensures.ok

pub returns-in-Some-clause-err : goal.returns-in-Some-clause-err
returns-in-Some-clause-err g c =
    let es = c.args.editions.now.entries in
    on_err c.hide_two.result
    (λ p.
    (c.get_mut.follows.holds c.hide_two.new.self).0
    ∙ (ap (set_value (is_edition c.args.e) es) p ∙ set_value_same (is_edition c.args.e) es c.in-Some.definitions.now (sym c.in-Some.ensures.value)))
    c.hide_two.ensures.err

pub returns-in_ok-insert-in-None-clause-ok : goal.returns-in_ok-insert-in-None-clause-ok
returns-in_ok-insert-in-None-clause-ok g c =
    let es = c.args.editions.now.entries in
    let was : nothing_defined ≡ defined_in es c.args.e = ap (λ r. unwrap_or r nothing_defined) c.in-None.ensures.value in
    let twice : Defined g.row.O.Denot → Defined g.row.O.Denot = λ d. with_object (with_object d c.args.first None) c.args.second None in
    let inserted : c.insert.new.self.entries ≡ insert_entry is_edition es c.args.e c.hide_two-in-None.new.self = search rules in
    inserted
    ∙ (ap (insert_entry is_edition es c.args.e) (c.in_ok-hide_two-in-None.ensures.ok ∙ (ap twice c.new-definitions.ensures ∙ ap twice was))
    ∙ sym (defined-twice es c.args.e c.args.first c.args.second None None))
