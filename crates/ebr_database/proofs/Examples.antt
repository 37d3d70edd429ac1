-- The definitions, tried on examples.
use Rattle.std.proofs.Common.{◌≡◌, pos, true, false, List, [], ◌∷◌, Some, Err, refl}
use Rattle.ebr_base.specs.declared.code.Code.TheVariants.{Ora}
use Rattle.ebr_base.specs.declared.numbers.SessionId.{SessionId}
use Rattle.ebr_base.specs.declared.row.Change.{Change}
use Rattle.ebr_base.specs.declared.row.TxId.{TxId}
use Rattle.ebr_base.specs.declared.value.Value.TheVariants.{Num}
use Rattle.ebr_asks.specs.declared.answer.Answer.TheVariants as answer
use Rattle.ebr_tx.specs.Data.{Transaction, Data, named_at, not_begun}
use Rattle.ebr_record.specs.declared.record.Record.TheVariants.{Commit}
use Rattle.ebr_database.specs.Base.{Base}
use Rattle.ebr_database.specs.Outcome.{gives}
use Rattle.ebr_database.specs.Transact.{commit, roll_back, savepoint, back_to, push, pop, done}

abbrev s : SessionId
s = record { 0 = 1 }

abbrev own : TxId
own = named_at s 0

abbrev change : Change
change = record { row = record { table = record { 0 = 1 }; row = record { 0 = 4 } }; values = Some (Num (pos 4) ∷ []) }

-- a session that has inserted a row
abbrev inserted : Transaction
inserted = record { id = own; begun = Some 0; changes = change ∷ []; savepoints = [] }

abbrev with_live : List Transaction → Data
with_live live = record { commits = []; tables = []; live = live; locks = [] }

abbrev at : List Transaction → Base
at live = record { data_now = with_live live; used = 9 }

-- COMMIT: the record is made, and the transaction has ended
committed : commit own (at (inserted ∷ []))
    ≡ record {
      state = record { data_now = record { commits = (change ∷ []) ∷ []; tables = []; live = not_begun own ∷ []; locks = [] }; used = 47 };
      made = Commit (change ∷ []) ∷ [];
      asked = [];
      value = done;
    }
committed = refl

-- a commit without changes makes no record
nothing_committed : commit own (at (not_begun own ∷ [])) ≡ gives (at (not_begun own ∷ [])) done
nothing_committed = refl

-- ROLLBACK, and then ROLLBACK TO a savepoint that is gone
rolled_back : roll_back own (at (inserted ∷ [])) ≡ gives (at (not_begun own ∷ [])) done
rolled_back = refl

no_savepoint : back_to own (83 ∷ []) (at (not_begun own ∷ [])) ≡ gives (at (not_begun own ∷ [])) (Err (Ora 1086))
no_savepoint = refl

-- an autonomous transaction that leaves a change: ORA-06519, and the change is gone; its caller's stay
left_changes : pop s false (at (inserted ∷ record inserted { id = named_at s 1 } ∷ [])) ≡ gives (at (inserted ∷ [])) (Err (Ora 6519))
left_changes = refl

failed_with_changes : pop s true (at (inserted ∷ record inserted { id = named_at s 1 } ∷ [])) ≡ gives (at (inserted ∷ [])) done
failed_with_changes = refl

opened : push s (at (inserted ∷ [])) ≡ gives (at (inserted ∷ not_begun (named_at s 1) ∷ [])) done
opened = refl
