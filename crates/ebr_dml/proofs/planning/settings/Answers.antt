use Rattle.std.proofs.Common.{◌≡◌, ◌+◌, ◌++◌, [], ◌∷◌, Some, None, drop, get_or, sym, ap, ◌∙◌, rules, append-nil}
use Rattle.std.specs.Prelude.{slice_get}
use Rattle.std.proofs.lemmas.List.{drop_more}
use Rattle.ebr_dml.specs.Plans.{setting, settings}
use Rattle.ebr_dml.proofs.Taking.{from-some, from-none, one-setting, settings-none}
use Rattle.ebr_dml.proofs.planning.settings.Goals as goal

pub loop-at-preserved : goal.loop-at-preserved
loop-at-preserved c =
    let at = c.loop-at.at in
    let places = c.args.places.now in
    let list = c.args.list.now in
    let place = get_or places at 0 in
    let value = c.in-Some.value.now in
    let some : slice_get list at ≡ Some value = search rules in
    let more : c.push.new.self ≡ c.loop-at.sets ++ setting place value ∷ [] = search rules in
    one-setting c.loop-at.sets c.push.new.self (drop at places) (drop at list) place value (drop (at + 1) places) (drop (at + 1) list) (settings places list)
    (drop_more places at 0 c.loop-at-test.true) (from-some at list value some) more c.loop-at.invariant

pub returns-in_default : goal.returns-in_default
returns-in_default c =
    let at = c.loop-at.at in
    let places = drop at c.args.places.now in
    let none : slice_get c.args.list.now at ≡ None = search rules in
    sym (append-nil c.loop-at.sets)
    ∙ ap (λ rest. c.loop-at.sets ++ rest) (sym (ap (settings places) (from-none at c.args.list.now none) ∙ settings-none places))
    ∙ c.loop-at.invariant
