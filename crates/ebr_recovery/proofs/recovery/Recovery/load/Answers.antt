use Rattle.std.proofs.Common.{◌≡◌, true, false, rules, subst, sym, ap, ◌∙◌}
use Rattle.std.specs.Prelude.{Err}
use Rattle.std.specs.List.{list_all}
use Rattle.ebr_versions.specs.Store.{OfAdded}
use Rattle.ebr_tx.specs.Calls.{AnswersLoad, MayLoad, after_load}
use Rattle.ebr_recovery.specs.inside.Plans.{suits}
use Rattle.ebr_recovery.proofs.Recovering.{is_allowed, not_begun, not_loaded, not_suiting, of_added, stands_loaded, stands_still}
use Rattle.ebr_recovery.proofs.recovery.Recovery.load.Goals as goal

pub returns-then-not-all_suit : goal.returns-then-not-all_suit
returns-then-not-all_suit c = λ sessions records stands.
    let suit : list_all (suits c.args.self.now.catalogue.tables.living) c.args.changes.now ≡ false = search rules in
    (not_suiting records sessions c.args.self.now.catalogue c.args.self.now.transactions.contents stands c.args.changes.now suit, stands)

pub load-requires-clause-begun : goal.load-requires-clause-begun
load-requires-clause-begun c = let h = c.requires in not_begun h.records h.sessions c.args.self.now.catalogue c.args.self.now.transactions.contents h.stands

pub load-requires-clause-added : goal.load-requires-clause-added
load-requires-clause-added c =
    let h = c.requires in
    let suit : list_all (suits c.args.self.now.catalogue.tables.living) c.args.changes.now ≡ true = search rules in
    subst (OfAdded c.args.self.now.transactions.contents.tables) (sym c.in_ok-changes.ensures)
    (of_added h.records h.sessions c.args.self.now.catalogue c.args.self.now.transactions.contents h.stands c.args.changes.now suit)

pub returns-in-Ok : goal.returns-in-Ok
returns-in-Ok c = λ sessions records stands.
    let suit : list_all (suits c.args.self.now.catalogue.tables.living) c.args.changes.now ≡ true = search rules in
    let may : MayLoad c.args.self.now.transactions.contents c.args.changes.now = subst (MayLoad c.args.self.now.transactions.contents) c.in_ok-changes.ensures c.in-Ok.ensures.answer in (
      is_allowed records sessions c.args.self.now.catalogue c.args.self.now.transactions.contents stands c.args.changes.now suit may,
      stands_loaded records sessions c.args.self.now.catalogue c.args.self.now.transactions.contents stands c.args.changes.now c.load.new.self.contents
          (c.in-Ok.ensures.ok ∙ ap (after_load c.args.self.now.transactions.contents) c.in_ok-changes.ensures),
    )

pub returns-in-Err-NotAllowed : goal.returns-in-Err-NotAllowed
returns-in-Err-NotAllowed c = λ sessions records stands.
    let d = c.args.self.now.transactions.contents in
    let refused : MayLoad d c.in_ok-changes.changes → ⊥ = subst (λ fault. AnswersLoad (Err fault) d c.in_ok-changes.changes) c.in-Err-NotAllowed.field-0-is c.in-Err-NotAllowed.ensures.answer in (
      not_loaded records sessions c.args.self.now.catalogue d stands c.args.changes.now (λ may. refused (subst (MayLoad d) (sym c.in_ok-changes.ensures) may)),
      stands_still records sessions c.args.self.now.catalogue d stands c.args.changes.now c.load.new.self.contents c.in-Err-NotAllowed.ensures.err,
    )
