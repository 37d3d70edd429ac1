use Rattle.std.proofs.Common.{◌≡◌, sym, subst}
use Rattle.ebr_versions.specs.Keys.{key_places}
use Rattle.ebr_changes.specs.Filed.{Filed}
use Rattle.ebr_tx.specs.Data.{IsLive}
use Rattle.ebr_tx.specs.Calls.{State}
use Rattle.ebr_tx.specs.inside.Filed.{FindsKey, TakesFree}
use Rattle.ebr_tx.proofs.KeyTests.{own_keys}
use Rattle.ebr_tx.proofs.transactions.Transactions.key_is_taken.Goals as goal

pub is_taken-requires-clause-filed : goal.is_taken-requires-clause-filed
is_taken-requires-clause-filed c =
    subst (λ (f : Filed). FindsKey c.args.table c.args.places.now c.args.key.now f.changes f.entries) (sym c.changes-own.ensures)
    (own_keys c.self.inside.versions.commits c.self.inside.versions.tables c.self.inside.live.items c.as_slice.result.now c.args.t c.own.result.now c.args.table c.args.places.now c.args.key.now
    c.self.invariant c.as_slice.ensures.value (subst (λ (s : State). IsLive s.contents c.args.t) (sym c.self.view_is) c.requires.live) c.own.ensures.transaction (c.own.ensures.filed c.self.inside.versions.tables)
    (subst (λ (s : State). key_places s.contents.tables c.args.table ≡ c.args.places.now) (sym c.self.view_is) c.requires.places) c.requires.some c.requires.as_many).0

pub is_taken-requires-clause-free : goal.is_taken-requires-clause-free
is_taken-requires-clause-free c =
    subst (λ (f : Filed). TakesFree c.args.table c.args.places.now c.args.key.now f.changes) (sym c.changes-own.ensures)
    (own_keys c.self.inside.versions.commits c.self.inside.versions.tables c.self.inside.live.items c.as_slice.result.now c.args.t c.own.result.now c.args.table c.args.places.now c.args.key.now
    c.self.invariant c.as_slice.ensures.value (subst (λ (s : State). IsLive s.contents c.args.t) (sym c.self.view_is) c.requires.live) c.own.ensures.transaction (c.own.ensures.filed c.self.inside.versions.tables)
    (subst (λ (s : State). key_places s.contents.tables c.args.table ≡ c.args.places.now) (sym c.self.view_is) c.requires.places) c.requires.some c.requires.as_many).1
