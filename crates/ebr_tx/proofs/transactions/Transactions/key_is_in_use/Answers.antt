use Rattle.std.proofs.Common.{◌≡◌, sym, subst}
use Rattle.std.specs.Prelude.{All}
use Rattle.ebr_versions.specs.Keys.{key_places}
use Rattle.ebr_tx.specs.Calls.{State}
use Rattle.ebr_tx.specs.inside.Filed.{FindsKeyBy}
use Rattle.ebr_tx.proofs.KeyTests.{all_find}
use Rattle.ebr_tx.proofs.transactions.Transactions.key_is_in_use.Goals as goal

pub is_in_use-requires-clause-filed : goal.is_in_use-requires-clause-filed
is_in_use-requires-clause-filed c =
    subst (All (FindsKeyBy c.args.table c.args.places.now c.args.key.now)) (sym c.as_slice.ensures.value)
    (all_find c.self.inside.versions.tables c.self.inside.live.items c.args.table c.args.places.now c.args.key.now
    (subst (λ (s : State). key_places s.contents.tables c.args.table ≡ c.args.places.now) (sym c.self.view_is) c.requires.places) c.requires.some c.requires.as_many c.self.invariant.filed)
