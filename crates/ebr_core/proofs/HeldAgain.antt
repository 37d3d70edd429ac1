-- What the engine holds after an ask that leaves the catalogue as it is.
use Rattle.std.proofs.Common.{◌≡◌, [], ◌++◌, sym, ap, subst, ◌∙◌, append-nil}
use Rattle.std.specs.Prelude.{IsErrAnd, Result, Ok, Err}
use Rattle.std.proofs.lemmas.Result.{err_from_is_err_and}
use Rattle.std.specs.List.{AllByRecursion}
use Rattle.ebr_base.specs.declared.code.Code.{Code}
use Rattle.ebr_base.specs.declared.code.Stop.{Stop}
use Rattle.ebr_base.specs.declared.code.Stop.TheVariants as stop
use Rattle.ebr_base.specs.declared.numbers.SessionId.{SessionId}
use Rattle.ebr_asks.specs.declared.answer.Answer.{Answer}
use Rattle.ebr_cross.specs.Catalogue.{HaveOwnKeys, as_catalogue}
use Rattle.ebr_record.specs.Keeper.{Keeper}
use Rattle.ebr_database.specs.declared.failure.Failure.{Failure}
use Rattle.ebr_database.specs.declared.failure.Failure.TheVariants as failure
use Rattle.ebr_database.specs.declared.failure.Halt.{Halt}
use Rattle.ebr_database.specs.declared.failure.Halt.TheVariants as halt
use Rattle.ebr_database.specs.Shows.{Grew, GaveUp}
use Rattle.ebr_database.specs.Database.{Database, Replied, as_answer}
use Rattle.ebr_database.proofs.Keeping.{grew_same, stays}
use Rattle.ebr_seats.specs.Seats.{Finishes, Goes, Leaves, LeavesOr, Holds as Seated, IsHeld as IsSeatHeld}
use Rattle.ebr_units.specs.Living.{AreCurrent}
use Rattle.ebr_levels.specs.Beginnings.{HasEarly}
use Rattle.ebr_core.specs.declared.current.Current.{Current}
use Rattle.ebr_core.specs.Machine.{lists_of}
use Rattle.ebr_core.specs.Records.{catalogue_of}
use Rattle.ebr_core.specs.inside.Reached.{AreReached, IsCommit}
use Rattle.ebr_core.specs.inside.Held.{Holds, IsHeld, IsReplied, Replies, answered, failed, refused_by}
use Rattle.ebr_core.proofs.MadeRecords.{same_lists, reached_commits}

module _ {K : Type 0} (as_keeper : K → Keeper) where
  pub seat_held : (now : Current K) (s : SessionId) → IsHeld as_keeper now s → IsSeatHeld now.world.tx.contents now.seats.items s
  seat_held now s h = record { used = (as_keeper now.world.keeper).used; database = h.database; session = h.session; holds = h.holds.seated; there = h.has.there }

  -- There was no memory, and nothing was kept: the exits of `?`.
  module _ (old new : Current K) (r : Replied) (keeper : new.world.keeper ≡ old.world.keeper) where
    nothing_kept : GaveUp (as_keeper old.world.keeper) (as_keeper new.world.keeper) r.records halt.NoMemory
    nothing_kept = subst (λ k. GaveUp (as_keeper old.world.keeper) (as_keeper k) r.records halt.NoMemory) (sym keeper) (stays (as_keeper old.world.keeper) r.records)

    pub wants_memory : (res : Result Answer Halt) → IsErrAnd res (λ why. why ≡ halt.NoMemory) → Replies as_keeper old new res r
    wants_memory res none = let p = err_from_is_err_and res none in subst (λ x. Replies as_keeper old new x r) (sym (p.1 ∙ ap (λ why. Err why) p.2)) nothing_kept

    pub wants_to_do : (res : Result (Unit {0}) Failure) → IsErrAnd res (λ f. f ≡ failure.Halted halt.NoMemory) → Replies as_keeper old new (answered res) r
    wants_to_do res none = let p = err_from_is_err_and res none in subst (λ x. Replies as_keeper old new (answered x) r) (sym (p.1 ∙ ap (λ f. Err f) p.2)) nothing_kept

  module _ (old new : Current K) (db : Database) (h : Holds as_keeper old db) (catalogue : new.world.catalogue ≡ old.world.catalogue) (views : new.views ≡ old.views) (books : new.world.book ≡ old.world.book) where
    pub holds_on : (db' : Database) → catalogue_of db'.records ≡ catalogue_of db.records → AreReached db'.records → HasEarly db'
        → Seated (as_keeper new.world.keeper).used new.world.tx.contents new.seats.items db' → Holds as_keeper new db'
    holds_on db' same reached early seated = record {
      catalogue_is = catalogue ∙ h.catalogue_is ∙ ap as_catalogue (sym same);
      own_keys = subst HaveOwnKeys (sym same) h.own_keys;
      views_are = subst (λ c. AreCurrent c new.views) (sym same) (subst (AreCurrent (lists_of db)) (sym views) h.views_are);
      books_are = subst (λ c. AreCurrent c new.world.book) (sym same) (subst (AreCurrent (lists_of db)) (sym books) h.books_are);
      seated = seated;
      reached = reached;
      early = early;
    }

    module _ (r : Replied) (grown : r.database.records ≡ db.records ++ r.records) (early : HasEarly r.database) where
      pub goes_on : AllByRecursion IsCommit r.records → (a : Answer) → Goes (as_keeper old.world.keeper) (as_keeper new.world.keeper) new.world.tx.contents new.seats.items a r → IsReplied as_keeper old new a r
      goes_on commits a g = record {
        answer = g.answer;
        grew = g.grew;
        holds = holds_on r.database (ap catalogue_of grown ∙ same_lists db.records r.records commits)
            (subst AreReached (sym grown) (reached_commits db.records r.records commits h.reached)) early g.holds;
      }

      pub leaves_on : new.world.keeper ≡ old.world.keeper → (a : Answer) → Leaves (as_keeper old.world.keeper).used new.world.tx.contents new.seats.items a r → IsReplied as_keeper old new a r
      leaves_on keeper a g =
          let same : r.database.records ≡ db.records = grown ∙ ap (λ l. db.records ++ l) g.none ∙ append-nil db.records in
          record {
            answer = g.answer;
            grew = subst (λ l. Grew (as_keeper old.world.keeper) (as_keeper new.world.keeper) l) (sym g.none) (subst (λ k. Grew (as_keeper old.world.keeper) (as_keeper k) []) (sym keeper) (grew_same (as_keeper old.world.keeper)));
            holds = holds_on r.database (ap catalogue_of same) (subst AreReached (sym same) h.reached) early
                (subst (λ k. Seated (as_keeper k).used new.world.tx.contents new.seats.items r.database) (sym keeper) g.holds);
          }

      pub finishes_on : AllByRecursion IsCommit r.records → (done : Result (Unit {0}) Failure) → Finishes (as_keeper old.world.keeper) (as_keeper new.world.keeper) new.world.tx.contents new.seats.items done r → Replies as_keeper old new (answered done) r
      finishes_on commits (Ok u) f = goes_on commits _ f
      finishes_on commits (Err (failure.Refused code)) f = goes_on commits _ f
      finishes_on commits (Err (failure.Halted why)) f = f

      module _ (keeper : new.world.keeper ≡ old.world.keeper) where
        pub may_fail : (done : Result (Unit {0}) Stop) (res : Result (Unit {0}) Failure) → res ≡ failed done → LeavesOr (as_keeper old.world.keeper).used new.world.tx.contents new.seats.items done r → Replies as_keeper old new (answered res) r
        may_fail done res is l = subst (λ x. Replies as_keeper old new (answered x) r) (sym is) (by done l)
          where
            by : (done : Result (Unit {0}) Stop) → LeavesOr (as_keeper old.world.keeper).used new.world.tx.contents new.seats.items done r → Replies as_keeper old new (answered (failed done)) r
            by (Ok u) l = leaves_on keeper _ l
            by (Err (stop.Raised code)) l = leaves_on keeper _ l
            by (Err stop.NoMemory) l = nothing_kept old new r keeper

        pub may_refuse : (done : Result (Unit {0}) Code) (res : Result (Unit {0}) Failure) → res ≡ refused_by done → Leaves (as_keeper old.world.keeper).used new.world.tx.contents new.seats.items (as_answer done) r → Replies as_keeper old new (answered res) r
        may_refuse done res is l = subst (λ x. Replies as_keeper old new (answered x) r) (sym is) (by done l)
          where
            by : (done : Result (Unit {0}) Code) → Leaves (as_keeper old.world.keeper).used new.world.tx.contents new.seats.items (as_answer done) r → Replies as_keeper old new (answered (refused_by done)) r
            by (Ok u) l = leaves_on keeper _ l
            by (Err code) l = leaves_on keeper _ l

  -- a view more is kept
  pub viewed : (old new : Current K) (db : Database) → Holds as_keeper old db → new.world ≡ old.world → new.seats ≡ old.seats → AreCurrent (lists_of db) new.views → Holds as_keeper new db
  viewed old new db h world seats views = record {
    catalogue_is = ap (λ w. w.catalogue) world ∙ h.catalogue_is;
    own_keys = h.own_keys;
    views_are = views;
    books_are = subst (λ w. AreCurrent (lists_of db) w.book) (sym world) h.books_are;
    seated = subst (λ w. Seated (as_keeper w.keeper).used w.tx.contents new.seats.items db) (sym world) (subst (λ l. Seated (as_keeper old.world.keeper).used old.world.tx.contents l.items db) (sym seats) h.seated);
    reached = h.reached;
    early = h.early;
  }
