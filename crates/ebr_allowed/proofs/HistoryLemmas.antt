-- Whatever a history asks, the database stays consistent, and what a stop leaves of its records is allowed.
use Rattle.std.proofs.Common.{◌≡◌, Bool, true, false, [], ◌∷◌, ◌++◌, sym, ap, subst, ◌∙◌, append-nil, append_assoc}
use Rattle.ebr_database.specs.Database.{Database, Replied}
use Rattle.ebr_core.specs.History.{Records, is_idle, left_by, made_by, next}
use Rattle.ebr_core.specs.Machine.{Build, Reply}
use Rattle.ebr_allowed.specs.Allowed.{AreAllowed}
use Rattle.ebr_allowed.specs.Consistent.{FirstRecordsAreAllowed, HistoriesAreAllowed, IsConsistent, LeavesConsistent}
use Rattle.ebr_allowed.proofs.FirstLemmas.{first_is_consistent}
use Rattle.ebr_allowed.proofs.RecordLemmas.{records_before}
use Rattle.ebr_allowed.proofs.ReplyLemmas.{replies_allowed}

-- what one entry leaves, by whether it is idle
entry_allowed : (db : Database) (r : Replied) → IsConsistent db → IsConsistent r.database → r.database.records ≡ db.records ++ r.records → (idle : Bool)
    → IsConsistent (left_by idle db r.database) × ((left_by idle db r.database).records ≡ db.records ++ made_by idle r.records)
entry_allowed db r h k made true = (h, sym (append-nil db.records))
entry_allowed db r h k made false = (k, made)

pub histories_allowed : HistoriesAreAllowed
histories_allowed db [] fit h = record { consistent = h; records = sym (append-nil db.records) }
histories_allowed db (x ∷ history) fit h =
    let s = entry_allowed db (Reply db x.session x.ask) h (replies_allowed db x.session x.ask fit.0 h).consistent (replies_allowed db x.session x.ask fit.0 h).records (is_idle x) in
    let rest : LeavesConsistent (next db x) history = histories_allowed (next db x) history fit.1 s.0 in
    record {
      consistent = rest.consistent;
      records = rest.records ∙ ap (λ rs. rs ++ Records (next db x) history) s.1 ∙ append_assoc db.records (made_by (is_idle x) (Reply db x.session x.ask).records) (Records (next db x) history);
    }

pub first_records_allowed : FirstRecordsAreAllowed
first_records_allowed recovered n history kept more allowed fit e =
    let left : LeavesConsistent (Build recovered n) history = histories_allowed (Build recovered n) history fit (first_is_consistent recovered n allowed) in
    records_before kept more (subst AreAllowed (left.records ∙ e) left.consistent.records)
