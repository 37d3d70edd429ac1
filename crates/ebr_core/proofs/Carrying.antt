-- A definition is carried out over the database that the engine holds.
use Rattle.std.proofs.Common.{◌≡◌, ℕ, zero, suc, ◌+◌, Bool, true, false, List, [], ◌∷◌, ◌++◌, refl, sym, ap, subst, ◌∙◌, append-nil, arith}
use Rattle.std.proofs.lemmas.Result.{err_from_is_err_and}
use Rattle.std.specs.Prelude.{Option, Some, None, IfSome, IsErrAnd, Result, Ok, Err, OnOk, slice_get, slice_set, ◌-◌, ◌&&◌, sum_by, if◌then◌else◌}
use Rattle.std.specs.List.{filter_map, cons_option}
use Rattle.ebr_base.specs.declared.code.Code.{Code}
use Rattle.ebr_base.specs.declared.code.Code.TheVariants.{Ora}
use Rattle.ebr_base.specs.declared.numbers.EditionNo.{EditionNo}
use Rattle.ebr_base.specs.declared.numbers.SessionId.{SessionId}
use Rattle.ebr_ast.specs.declared.definition.Definition.{Definition}
use Rattle.ebr_asks.specs.declared.answer.Answer.{Answer}
use Rattle.ebr_asks.specs.declared.answer.Answer.TheVariants as answer
use Rattle.ebr_tx.specs.declared.savepoints.TxMark.{TxMark}
use Rattle.ebr_tx.specs.Data.{Data, named_at}
use Rattle.ebr_base.specs.declared.table.TableDef.{TableDef}
use Rattle.ebr_tx.specs.Calls.{IsMarkOf, after_add_table}
use Rattle.ebr_cross.specs.declared.record.CatalogueRecord.{CatalogueRecord}
use Rattle.ebr_cross.specs.declared.record.CatalogueRecord.TheVariants as made
use Rattle.ebr_cross.specs.Catalogue.{HaveOwnKeys, View, as_catalogue}
use Rattle.ebr_cross.specs.Definitions.{outcome}
use Rattle.ebr_record.specs.declared.record.Record.{Record}
use Rattle.ebr_record.specs.Keeper.{Keeper, share, used_by}
use Rattle.ebr_database.specs.declared.failure.Failure.{Failure}
use Rattle.ebr_database.specs.declared.failure.Failure.TheVariants.{Refused, Halted}
use Rattle.ebr_database.specs.declared.failure.Halt.{Halt}
use Rattle.ebr_database.specs.declared.failure.Halt.TheVariants as why
use Rattle.ebr_database.specs.Base.{Base}
use Rattle.ebr_database.specs.Shows.{Grew, GaveUp}
use Rattle.ebr_database.specs.Storable.{AllStorable}
use Rattle.ebr_database.specs.Transact.{commit}
use Rattle.ebr_database.specs.Database.{Session, Database, Replied, data_of, base_in, session_at, at_end, own_on_top, on_top, reply_commit}
use Rattle.ebr_database.specs.Database.{is_done as done_by}
use Rattle.ebr_database.proofs.Keeping.{grew_grew, grew_gave_up, gave_up_more, kept_stops, grew_same, stays}
use Rattle.ebr_seats.specs.declared.seat.Seat.{Seat}
use Rattle.ebr_seats.specs.Ends.{own_of}
use Rattle.ebr_seats.proofs.Seated.{at, at_here}
use Rattle.ebr_seats.specs.Seats.{IsSeatOf, Sits, Holds as Seated, seat_at}
use Rattle.ebr_units.specs.Living.{AreCurrent}
use Rattle.ebr_levels.proofs.ReplyLemmas.{early_records}
use Rattle.ebr_core.specs.declared.current.Current.{Current}
use Rattle.ebr_core.specs.Machine.{lists_of, editions_in_use, recorded, defined_by, definition_answer, behind, then_reply, answer_in, defined, is_held, table_changed}
use Rattle.ebr_core.specs.Records.{record_of}
use Rattle.ebr_core.specs.inside.Defined.{Defines, with_definition_of}
use Rattle.ebr_core.specs.inside.Defining.{Applied, Carries, HoldsSome, AnswersIn, IsKept, IsMade, IsRefused, KeepsPlanned, NotKept, Recorded}
use Rattle.ebr_core.specs.Asked.{IsTextOf}
use Rattle.ebr_core.specs.inside.Held.{Holds, HasSession, IsReplied, Replies}
use Rattle.ebr_core.specs.inside.Tables.{with_table_of}
use Rattle.ebr_core.proofs.HeldAgain.{holds_on}
use Rattle.ebr_core.proofs.MadeRecords.{defines}
use Rattle.ebr_core.proofs.Recording.{not_planned}

-- ---- the editions in use

abbrev SameEdition : Option Seat → Option Session → Type 0
SameEdition None None = Unit {0}
SameEdition (Some seat) (Some x) = seat.edition ≡ x.edition
SameEdition seat x = ⊥

abbrev seat_edition : Seat → Option EditionNo
seat_edition seat = seat.edition

abbrev session_edition : Session → Option EditionNo
session_edition x = x.edition

same_editions : (seats : List Seat) (sessions : List Session) → ((n : ℕ) → SameEdition (slice_get seats n) (slice_get sessions n)) → filter_map seat_edition seats ≡ filter_map session_edition sessions
same_editions [] [] same = refl
same_editions [] (x ∷ xs) same = absurd (same 0)
same_editions (seat ∷ seats) [] same = absurd (same 0)
same_editions (seat ∷ seats) (x ∷ xs) same =
    ap (λ o. cons_option o (filter_map seat_edition seats)) (same 0)
    ∙ ap (cons_option x.edition) (same_editions seats xs (λ n. same (suc n)))

sits_in : (d : Data) (s : SessionId) (seat : Option Seat) (x : Option Session) → Sits d s seat x → SameEdition seat x
sits_in d s None None h = tt
sits_in d s (Some seat) (Some x) h = h.edition
sits_in d s None (Some x) h = h
sits_in d s (Some seat) None h = h

pub editions_are : (used : ℕ) (d : Data) (seats : List Seat) (db : Database) → Seated used d seats db → filter_map seat_edition seats ≡ editions_in_use db
editions_are used d seats db h =
    same_editions seats db.sessions (λ n. sits_in d (record { 0 = suc n }) (slice_get seats n) (slice_get db.sessions n) (h.sit (record { 0 = suc n })))

-- ---- the seats where a table is added

mark_on : (t : TableDef) (d : Data) (s : SessionId) (call : Option TxMark) → IfSome call (IsMarkOf d (named_at s 0)) → IfSome call (IsMarkOf (after_add_table d t.id t.key) (named_at s 0))
mark_on t d s None h = tt
mark_on t d s (Some m) h = record { begun = h.begun; changes = h.changes; locks = h.locks }

seat_on : (r : CatalogueRecord) (d : Data) (s : SessionId) (seat : Seat) (x : Session) → IsSeatOf d s seat x → IsSeatOf (with_table_of d r) s seat x
seat_on (made.Table t) d s seat x h = record {
  edition = h.edition;
  call = h.call;
  asks = h.asks;
  carried = h.carried;
  stack = h.stack;
  mark = mark_on t d s x.call h.mark;
  closed = h.closed;
}
seat_on r d s seat x h = h

sits_on : (r : CatalogueRecord) (d : Data) (s : SessionId) (seat : Option Seat) (x : Option Session) → Sits d s seat x → Sits (with_table_of d r) s seat x
sits_on r d s None None h = tt
sits_on r d s (Some seat) (Some x) h = seat_on r d s seat x h
sits_on r d s None (Some x) h = h
sits_on r d s (Some seat) None h = h

storable_on : (r : CatalogueRecord) (d : Data) → AllStorable d → AllStorable (with_table_of d r)
storable_on (made.Table t) d h = h
storable_on r d h = h

-- what is held after a definition
seated_on : (r : CatalogueRecord) (db : Database) (used used' : ℕ) (d d' : Data) (seats : List Seat) → Defines db r → Seated used d seats db → used' ≡ used + sum_by share (record_of r ∷ [])
    → d' ≡ with_table_of d r → Seated used' d' seats (with_definition_of db r)
seated_on r db used used' d d' seats made h grown is = record {
  data_is = is ∙ ap (λ k. with_table_of k r) h.data_is ∙ sym (ap (λ (b : Base). b.data_now) made.base);
  used_is = omega (arith, grown, h.used_is, ap (λ (b : Base). b.used) made.base);
  storable = subst AllStorable (sym is) (storable_on r d h.storable);
  sit = λ s. subst (λ k. Sits k s (seat_at seats s.0) (session_at db.sessions s.0)) (sym is) (sits_on r d s (seat_at seats s.0) (session_at db.sessions s.0) (h.sit s));
}

-- ---- what a definition leaves

-- the same but for the keeper
abbrev pub with_keeper : {K : Type 0} → Current K → K → Current K
with_keeper now k = record now { world = record now.world { keeper = k } }

module _ {K : Type 0} (as_keeper : K → Keeper) where
  held_on : (now : Current K) (k : K) (db : Database) → Holds as_keeper now db → Grew (as_keeper now.world.keeper) (as_keeper k) [] → Holds as_keeper (with_keeper now k) db
  held_on now k db h grew = holds_on as_keeper now (with_keeper now k) db h refl refl refl db refl h.reached h.early (record {
    data_is = h.seated.data_is;
    used_is = omega (arith, grew.used, h.seated.used_is);
    storable = h.seated.storable;
    sit = h.seated.sit;
  })

  -- there was no memory, and nothing was kept
  pub not_begun : (now : Current K) (db : Database) (o : Recorded) (res : Result (Unit {0}) Failure) → IsErrAnd res (λ f. f ≡ Halted why.NoMemory) → Carries as_keeper now now res db o
  not_begun now db o res h =
      let p = err_from_is_err_and res h in subst (λ x. Carries as_keeper now now x db o) (sym (p.1 ∙ ap (λ f. Err f) p.2)) (stays (as_keeper now.world.keeper) o.made)

  -- the definition was refused
  pub not_planned_so : (now : Current K) (db : Database) (out : Result CatalogueRecord Code) (code : Code) → Holds as_keeper now db → out ≡ Err code → IsRefused as_keeper now now db (recorded out (used_by db.records)) code
  not_planned_so now db out code h is = record { is = not_planned out code (used_by db.records) (as_keeper now.world.keeper) is; holds = h }

  -- a planned definition may be carried out
  pub defines_so : (now : Current K) (db : Database) (e : EditionNo) (sessions : List EditionNo) (what : Definition) (text : List ℕ) (r : CatalogueRecord) → Holds as_keeper now db → IsTextOf what text
      → outcome (lists_of db) e sessions what text ≡ Ok r → Defines db r
  defines_so now db e sessions what text r h fit is = defines db e sessions what text r fit.spelled (omega (arith, fit.small)) is h.reached

  module _ (old : Current K) (db : Database) (h : Holds as_keeper old db) (r : CatalogueRecord) (k : K) where
    abbrev pub planned : Recorded
    planned = recorded (Ok r) (used_by db.records)

    -- the bytes that the keeper counts are those of the records
    counted : (P : Recorded → Type 0) → P (recorded (Ok r) (as_keeper old.world.keeper).used) → P planned
    counted P so = subst (λ used. P (recorded (Ok r) used)) h.seated.used_is so

    -- its record wasn't kept
    pub not_carried : (f : Failure) → KeepsPlanned (as_keeper old.world.keeper) (as_keeper k) (Err f) r (recorded (Ok r) (as_keeper old.world.keeper).used) → Carries as_keeper old (with_keeper old k) (Err f) db planned
    not_carried (Refused code) kept = let so = counted (λ x. NotKept (as_keeper old.world.keeper) (as_keeper k) x code) kept in record { is = so; holds = held_on old k db h so.grew }
    not_carried (Halted why) kept = counted (λ x. GaveUp (as_keeper old.world.keeper) (as_keeper k) x.made why) kept

    module _ (new : Current K) (keeper : new.world.keeper ≡ k) (kept : IsKept (as_keeper old.world.keeper) (as_keeper k) (recorded (Ok r) (as_keeper old.world.keeper).used) r) where
      is_kept : IsKept (as_keeper old.world.keeper) (as_keeper k) planned r
      is_kept = counted (λ x. IsKept (as_keeper old.world.keeper) (as_keeper k) x r) kept

      -- there was no memory behind its record
      pub carried_short : (res : Result (Unit {0}) Failure) → IsErrAnd res (λ f. f ≡ Halted why.NoMemory) → Carries as_keeper old new res db planned
      carried_short res none =
          let p = err_from_is_err_and res none in
          subst (λ x. Carries as_keeper old new x db planned) (sym (p.1 ∙ ap (λ f. Err f) p.2))
          (subst (λ x. GaveUp (as_keeper old.world.keeper) (as_keeper x) planned.made why.NoMemory) (sym keeper)
          (subst (λ m. GaveUp (as_keeper old.world.keeper) (as_keeper k) m why.NoMemory) (sym is_kept.made) (kept_stops _ _ _ is_kept.grew)))

      -- it was carried out
      pub carried : Defines db r → Applied (lists_of db) r (with_keeper old k) new → IsMade as_keeper old new db planned
      carried m a =
          let grown = subst (λ x. Grew (as_keeper old.world.keeper) (as_keeper x) (record_of r ∷ [])) (sym keeper) is_kept.grew in
          let seats : new.seats.items ≡ old.seats.items = ap (λ v. v.items) a.noticed.seats in
          record {
            definition = r;
            is = record { made = is_kept.made; value = is_kept.value; grew = grown };
            holds = record {
              catalogue_is = a.catalogue ∙ ap as_catalogue (sym m.lists);
              own_keys = subst HaveOwnKeys (sym m.lists) a.own_keys;
              views_are = subst (λ c. AreCurrent c new.views) (sym m.lists) a.noticed.views;
              books_are = subst (λ c. AreCurrent c new.world.book) (sym m.lists) a.noticed.books;
              seated = subst (λ l. Seated (as_keeper new.world.keeper).used new.world.tx.contents l (with_definition_of db r)) (sym seats)
                  (seated_on r db (as_keeper old.world.keeper).used (as_keeper new.world.keeper).used old.world.tx.contents new.world.tx.contents old.seats.items m h.seated grown.used a.noticed.tables);
              reached = m.reached;
              early = early_records db (record_of r ∷ []) h.early;
            };
          }

  -- what holds behind a definition that was carried out
  pub held_behind : (old new : Current K) (db : Database) (o : Recorded) (res : Result (Unit {0}) Failure) → Carries as_keeper old new res db o → OnOk res (HoldsSome as_keeper new)
  held_behind old new db o (Ok u) m = record { database = with_definition_of db m.definition; holds = m.holds }
  held_behind old new db o (Err f) m = tt

  -- the outcome is that of the definition, where no other transaction holds the table
  pub defined_on : (old new : Current K) (db : Database) (s : SessionId) (e d : EditionNo) (sessions : List EditionNo) (what : Definition) (text : List ℕ) (res : Result (Unit {0}) Failure) (c : Data) → c ≡ data_of db
      → sessions ≡ editions_in_use db → false ≡ is_held c (own_of s) (table_changed (lists_of db) what) → d ≡ e → Carries as_keeper old new res db (recorded (outcome (lists_of db) e sessions what text) (used_by db.records))
      → Carries as_keeper old new res db (recorded (defined (lists_of db) (data_of db) s d (editions_in_use db) what text) (used_by db.records))
  defined_on old new db s e d sessions what text res c is in_use free same carries =
      subst (λ o. Carries as_keeper old new res db (recorded o (used_by db.records)))
      (ap (λ l. outcome (lists_of db) e l what text) in_use ∙ ap (λ k. outcome (lists_of db) k (editions_in_use db) what text) (sym same)
      ∙ ap (λ b. if b then Err (Ora 54) else outcome (lists_of db) d (editions_in_use db) what text) (free ∙ ap (λ k. is_held k (own_of s) (table_changed (lists_of db) what)) is)) carries

  pub held_by_other : (old : Current K) (db : Database) (s : SessionId) (d : EditionNo) (what : Definition) (text : List ℕ) → Holds as_keeper old db → true ≡ is_held old.world.tx.contents (own_of s) (table_changed (lists_of db) what)
      → IsRefused as_keeper old old db (recorded (defined (lists_of db) (data_of db) s d (editions_in_use db) what text) (used_by db.records)) (Ora 54)
  held_by_other old db s d what text h held =
      subst (λ o. IsRefused as_keeper old old db (recorded o (used_by db.records)) (Ora 54))
      (ap (λ b. if b then Err (Ora 54) else outcome (lists_of db) d (editions_in_use db) what text) (held ∙ ap (λ k. is_held k (own_of s) (table_changed (lists_of db) what)) h.seated.data_is))
      (record { is = record { made = refl; value = refl; grew = grew_same (as_keeper old.world.keeper) }; holds = h })

  -- ---- the reply

  made_replied : (old mid new : Current K) (db : Database) (e : EditionNo) (what : Definition) (o : Recorded) (m : IsMade as_keeper old mid db o) (x : Result Answer Halt)
      → AnswersIn as_keeper mid new x (with_definition_of db m.definition) (answer_in (View (lists_of (with_definition_of db m.definition)) e) what)
      → Replies as_keeper old new x (defined_by db e what o)
  made_replied old mid new db e what o m (Ok a) h = record {
    answer = h.0 ∙ by m.definition o.made o.value m.is.made m.is.value;
    grew = subst (λ l. Grew (as_keeper old.world.keeper) (as_keeper new.world.keeper) l) (sym m.is.made) (subst (λ k. Grew (as_keeper old.world.keeper) (as_keeper k) (record_of m.definition ∷ [])) (sym h.2) m.is.grew);
    holds = subst (λ l. Holds as_keeper new (record db { records = db.records ++ l })) (sym m.is.made) h.1;
  }
    where
      by : (r : CatalogueRecord) (l : List Record) (v : Result CatalogueRecord Code) → l ≡ record_of r ∷ [] → v ≡ Ok r
          → answer_in (View (lists_of (with_definition_of db r)) e) what ≡ definition_answer (db.records ++ l) e what v
      by r l v is as_keeper = ap (λ k. definition_answer (db.records ++ k) e what (Ok r)) (sym is) ∙ ap (definition_answer (db.records ++ l) e what) (sym as_keeper)
  made_replied old mid new db e what o m (Err w) h =
      subst (λ y. GaveUp (as_keeper old.world.keeper) (as_keeper new.world.keeper) o.made y) (sym h.0)
      (subst (λ l. GaveUp (as_keeper old.world.keeper) (as_keeper new.world.keeper) l why.NoMemory) (sym m.is.made)
      (subst (λ k. GaveUp (as_keeper old.world.keeper) (as_keeper k) (record_of m.definition ∷ []) why.NoMemory) (sym h.1) (kept_stops _ _ _ m.is.grew)))

  pub replied_made : (old mid new : Current K) (db : Database) (e d : EditionNo) (what : Definition) (o : Recorded) (m : IsMade as_keeper old mid db o) (x : Result Answer Halt) → d ≡ e
      → AnswersIn as_keeper mid new x (with_definition_of db m.definition) (answer_in (View (lists_of (with_definition_of db m.definition)) e) what)
      → Replies as_keeper old new x (defined_by db d what o)
  replied_made old mid new db e d what o m x same h = subst (λ k. Replies as_keeper old new x (defined_by db k what o)) (sym same) (made_replied old mid new db e what o m x h)

  pub replied_refused : (old new : Current K) (db : Database) (d : EditionNo) (what : Definition) (o : Recorded) (code : Code) (a : Answer) → a ≡ answer.Refused code 0 [] → IsRefused as_keeper old new db o code
      → IsReplied as_keeper old new a (defined_by db d what o)
  replied_refused old new db d what o code a said r = record {
    answer = said ∙ sym (ap (definition_answer (db.records ++ o.made) d what) r.is.value);
    grew = subst (λ l. Grew (as_keeper old.world.keeper) (as_keeper new.world.keeper) l) (sym r.is.made) r.is.grew;
    holds = subst (λ l. Holds as_keeper new (record db { records = l })) (sym (ap (λ l. db.records ++ l) r.is.made ∙ append-nil db.records)) r.holds;
  }

  -- ---- behind the commit

  pub behind_on : (old mid new : Current K) (first next : Replied) (x : Result Answer Halt) → Grew (as_keeper old.world.keeper) (as_keeper mid.world.keeper) first.records → Replies as_keeper mid new x next
      → Replies as_keeper old new x (behind first next)
  behind_on old mid new first next (Ok a) g r = record { answer = r.answer; grew = grew_grew _ _ _ _ _ g r.grew; holds = r.holds }
  behind_on old mid new first next (Err w) g r = grew_gave_up _ _ _ _ _ w g r

  pub then_replied : (old mid new : Current K) (first : Replied) (next : Database → Replied) (x : Result Answer Halt) → IsReplied as_keeper old mid answer.Done first → Replies as_keeper mid new x (next first.database)
      → Replies as_keeper old new x (then_reply first.answer first next)
  then_replied old mid new first next x m r =
      subst (λ a. Replies as_keeper old new x (then_reply a first next)) m.answer (behind_on old mid new first (next first.database) x m.grew r)

  pub refused_first : (old new : Current K) (first : Replied) (next : Database → Replied) (code : Code) (a : Answer) → a ≡ answer.Refused code 0 [] → IsReplied as_keeper old new (answer.Refused code 0 []) first
      → IsReplied as_keeper old new a (then_reply first.answer first next)
  refused_first old new first next code a said m =
      subst (λ k. IsReplied as_keeper old new a (then_reply k first next)) m.answer (subst (λ k. IsReplied as_keeper old new k first) (sym said) m)

-- the session behind a commit
at_is : (xs : List Session) (n : ℕ) → session_at xs n ≡ at xs n
at_is xs zero = refl
at_is xs (suc n) = refl

same_edition : (b : Bool) (x : Session) → (at_end b x).edition ≡ x.edition
same_edition true x = refl
same_edition false x = refl

abbrev pub committed : Database → SessionId → Session → Session
committed db s x = at_end (own_on_top (data_of db) s && done_by (commit (on_top db s) (base_in db)).value) x

pub committed_there : {K : Type 0} (as_keeper : K → Keeper) (db : Database) (s : SessionId) (e : EditionNo) (x : Session) → HasSession as_keeper db s e x → HasSession as_keeper (reply_commit db s x).database s e (committed db s x)
committed_there as_keeper db s e x has = record {
  there = at_is (slice_set db.sessions (s.0 - 1) (committed db s x)) s.0 ∙ at_here db.sessions s.0 x (committed db s x) (sym (at_is db.sessions s.0) ∙ has.there);
  edition = same_edition (own_on_top (data_of db) s && done_by (commit (on_top db s) (base_in db)).value) x ∙ has.edition;
}

gave_up_then : (a b : Keeper) (first : Replied) (next : Database → Replied) (x : Answer) (w : Halt) → GaveUp a b first.records w → GaveUp a b (then_reply x first next).records w
gave_up_then a b first next answer.Done w h = gave_up_more a b _ _ w h
gave_up_then a b first next x w h = h

pub gave_up_first : (a b : Keeper) (first : Replied) (next : Database → Replied) (w : Halt) → GaveUp a b first.records w → GaveUp a b (then_reply first.answer first next).records w
gave_up_first a b first next w h = gave_up_then a b first next first.answer w h
