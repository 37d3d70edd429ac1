use Rattle.std.proofs.Common.{not, ap, sym, ◌∙◌}
use Rattle.std.specs.List.{list_any}
use Rattle.std.proofs.lemmas.Bool.{not-true}
use Rattle.ebr_changes.specs.Filed.{Filed}
use Rattle.ebr_locks.specs.Locks.{same_tx}
use Rattle.ebr_tx.specs.Conflicts.{gives_key, gives_key_by}
use Rattle.ebr_tx.specs.inside.Filed.{is_live}
use Rattle.ebr_tx.proofs.LiveLemmas.{other-at}
use Rattle.ebr_tx.proofs.keys.is_in_use.Goals as goal

pub returns-then-some_gives_key : goal.returns-then-some_gives_key
returns-then-some_gives_key c =
    other-at c.args.t (gives_key_by c.args.table c.args.places.now c.args.key.now) c.args.live.now c.loop-x.x-index c.x-item.result c.loop-x-test.true c.x-item.is
    (not-true (is_live c.args.t c.x-item.result) (ap (λ i. not (same_tx i c.args.t)) (sym c.id.ensures) ∙ sym c.ne.ensures ∙ c.if-ne.true))
    (ap (λ (f : Filed). list_any (gives_key c.args.table c.args.places.now c.args.key.now) f.changes) (sym c.changes.ensures) ∙ sym c.some_gives_key.ensures ∙ c.if-some_gives_key.true)
