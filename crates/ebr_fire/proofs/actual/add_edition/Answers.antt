use Rattle.std.proofs.Common.{filter, sym, ap, ◌∙◌}
use Rattle.std.specs.Option.{option_copied}
use Rattle.ebr_editions.specs.Objects.{actual_object, is_in, keys_of}
use Rattle.ebr_fire.specs.inside.Groups.{with_keys}
use Rattle.ebr_fire.proofs.Laws.{entry-more, past-end}
use Rattle.ebr_fire.proofs.actual.add_edition.Goals as goal

pub returns-in_default : goal.returns-in_default
returns-in_default c = λ lists h.
    sym (ap (λ keys. with_keys (λ key. actual_object lists.entries c.args.d key) c.args.kind c.args.on.now c.loop-at.triggers.keys keys) (past-end (λ key. actual_object lists.entries c.args.d key) (keys_of (filter (is_in c.args.d) lists.entries)) c.loop-at.at (c.in_default.ensures lists h)))
    ∙ c.loop-at.invariant lists h

pub loop-at-preserved : goal.loop-at-preserved
loop-at-preserved c = λ lists h.
    entry-more c.args.kind c.args.on.now (λ key. actual_object lists.entries c.args.d key) c.loop-at.triggers.keys c.add_actual.new.triggers.keys (keys_of (filter (is_in c.args.d) lists.entries)) c.loop-at.at c.in-Some.key.now (option_copied c.in-Some.object) _ (c.in-Some.ensures lists h) c.in_ok-add_actual.ensures (c.loop-at.invariant lists h)
