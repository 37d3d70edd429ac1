-- A statement leaves the catalogue as it is, and the seats those of the sessions; what its bodies committed is read back.
use Rattle.std.proofs.Common.{◌≡◌, ℕ, min, List, sym, ap, subst, ◌∙◌, Vec, Global}
use Rattle.std.specs.Prelude.{Option, Some, None, IfSome, Result, Ok, Err, false}
use Rattle.std.proofs.lemmas.Option.{same_Some}
use Rattle.ebr_base.specs.declared.numbers.EditionNo.{EditionNo}
use Rattle.ebr_base.specs.declared.numbers.SessionId.{SessionId}
use Rattle.ebr_base.specs.declared.row.TxId.{TxId}
use Rattle.ebr_base.specs.declared.value.Value.{Value}
use Rattle.ebr_ast.specs.declared.sql.SqlTree.{SqlTree}
use Rattle.ebr_ast.specs.declared.view.EditionView.{EditionView}
use Rattle.ebr_asks.specs.declared.ask.Ask.{Ask}
use Rattle.ebr_asks.specs.declared.ask.Ask.TheVariants.{Sql}
use Rattle.ebr_asks.specs.declared.answer.Answer.{Answer}
use Rattle.ebr_cross.specs.declared.catalogue.Catalogue.{Catalogue}
use Rattle.ebr_cross.specs.Catalogue.{HaveOwnKeys, IsViewOf, as_catalogue}
use Rattle.ebr_tx.specs.declared.savepoints.TxMark.{TxMark}
use Rattle.ebr_tx.specs.Data.{Data, stack_of, named_at}
use Rattle.ebr_tx.specs.Calls.{IsMarkOf}
use Rattle.ebr_record.specs.Keeper.{Keeper}
use Rattle.ebr_database.specs.declared.failure.Halt.{Halt}
use Rattle.ebr_database.specs.Base.{Base}
use Rattle.ebr_database.specs.Carried.{room_for}
use Rattle.ebr_database.specs.Outcome.{Outcome}
use Rattle.ebr_database.specs.Storable.{AllStorable}
use Rattle.ebr_database.specs.Shows.{GaveUp, Said, Tells, base_of}
use Rattle.ebr_database.specs.Database.{Session, Database, after_outcome, base_in, data_of, on_top, session_at}
use Rattle.ebr_seats.specs.declared.seat.Seat.{Seat}
use Rattle.ebr_seats.specs.Seats.{Holds as Seated, IsSeatOf, Sits, seat_at}
use Rattle.ebr_seats.proofs.Asked.{IsTop as IsTopOf}
use Rattle.ebr_seats.proofs.Seated.{Seated as SeatOf, seated}
use Rattle.ebr_seats.proofs.Replies.{top_here, base_is}
use Rattle.ebr_levels.specs.Keeps.{AreEarly, UnderChange}
use Rattle.ebr_levels.specs.Levels.{IsTop, Leaves}
use Rattle.ebr_levels.proofs.LeavesLemmas.{leaves_own_mark}
use Rattle.ebr_levels.proofs.ReplyLemmas.{early_ran}
use Rattle.ebr_dml.specs.Steps.{AreKnown}
use Rattle.ebr_exec.specs.Narrow.{AreNarrow}
use Rattle.ebr_exec.specs.Places.{names_of as names_in, own_place}
use Rattle.ebr_exec.specs.Statements.{max_levels}
use Rattle.ebr_units.specs.Living.{AreCurrent}
use Rattle.ebr_bodies.specs.Statements.{Stmt}
use Rattle.ebr_statements.specs.Fits.{Fits, Remains}
use Rattle.ebr_core.specs.declared.current.Current.{Current}
use Rattle.ebr_core.specs.Machine.{lists_of, reply_sql}
use Rattle.ebr_core.specs.inside.Held.{Holds, Replies}
use Rattle.ebr_core.proofs.AllowedTables.{narrow}
use Rattle.ebr_core.proofs.KnownTables.{known}
use Rattle.ebr_core.proofs.MadeRecords.{reached_commits, same_lists}
use Rattle.ebr_core.proofs.StatementRecords.{MakesOf, made_back, statement_makes}

-- ---- the seats

module _ (d d' : Data) (t : TxId) (under : UnderChange) (l : Leaves d t under d') where
  marked : (s : SessionId) (call : Option TxMark) → IfSome call (IsMarkOf d (named_at s 0)) → IfSome call (IsMarkOf d' (named_at s 0))
  marked s None h = tt
  marked s (Some m) h = leaves_own_mark d d' t under s m h l

  sits_on : (s : SessionId) (seat : Option Seat) (x : Option Session) → Sits d s seat x → Sits d' s seat x
  sits_on s None None h = tt
  sits_on s (Some seat) (Some x) h = record {
    edition = h.edition;
    call = h.call;
    asks = h.asks;
    carried = h.carried;
    stack = ap (λ names. stack_of names s) l.names ∙ h.stack;
    mark = marked s x.call h.mark;
    closed = h.closed;
  }
  sits_on s None (Some x) h = absurd h
  sits_on s (Some seat) None h = absurd h

  seated_on : (used used' : ℕ) (seats : List Seat) (db : Database) (o : Outcome Base Answer) → Seated used d seats db → MakesOf (base_in db) o → o.state ≡ record { data_now = d'; used = used' } → AllStorable d'
      → Seated used' d' seats (after_outcome db o)
  seated_on used used' seats db o h made state storable =
      let back : record { data_now = d'; used = used' } ≡ base_in (after_outcome db o) = sym state ∙ sym (made_back db o made) in
      record {
        data_is = ap (λ (b : Base). b.data_now) back;
        used_is = ap (λ (b : Base). b.used) back;
        storable = storable;
        sit = λ s. sits_on s (seat_at seats s.0) (session_at db.sessions s.0) (h.sit s);
      }

-- ---- before it

-- the transaction is on top of its session's stack
on_top_of : (d : Data) (s : SessionId) (t : TxId) (seat : Seat) (x : Session) → IsSeatOf d s seat x → t ≡ named_at s seat.levels → AreEarly d → IsTop d t
on_top_of d s t seat x h is early = subst (IsTop d) (sym is) (record { stack = h.stack; early = early })

module _ {K : Type 0} (as_keeper : K → Keeper) (old : Current K) (db : Database) (h : Holds as_keeper old db) (s : SessionId) (x : Session) (there : session_at db.sessions s.0 ≡ Some x) (t : TxId) where
  early_now : AreEarly old.world.tx.contents
  early_now = subst AreEarly (sym h.seated.data_is) h.early.early

  pub fits : IsTopOf old.seats.items s t → Fits old.world.catalogue old.world.book old.world.tx.contents t
  fits is_top =
      let sd : SeatOf old.world.tx.contents old.seats.items s x = seated (as_keeper old.world.keeper).used old.world.tx.contents old.seats.items db s x h.seated there in
      record {
        fit = record {
          current = record { lists = lists_of db; own_keys = h.own_keys; current = h.books_are; is = h.catalogue_is };
          known = subst (λ d. AreKnown d old.world.catalogue.tables.living) (sym h.seated.data_is) (subst (λ (c : Catalogue). AreKnown (data_of db) c.tables.living) (sym h.catalogue_is) (known db));
          narrow = subst (λ (c : Catalogue). AreNarrow c.tables.living) (sym h.catalogue_is) (narrow (lists_of db).tables h.reached.allowed);
          storable = h.seated.storable;
        };
        top = on_top_of old.world.tx.contents s t sd.seat x sd.sits (is_top sd.seat sd.there) early_now;
      }

-- ---- behind it

module _ {K : Type 0} (as_keeper : K → Keeper) (old new : Current K) (db : Database) (h : Holds as_keeper old db) (s : SessionId) (x : Session) (there : session_at db.sessions s.0 ≡ Some x) (e d : EditionNo) (same : d ≡ e)
    (stmt : SqlTree) (binds : List Value) (left room : ℕ) (t : TxId) (v : EditionView) where
  run_reply : IsTopOf old.seats.items s t → IsViewOf (lists_of db) e v → room ≡ room_for x.carried (Sql stmt binds left)
      → Stmt (names_in (lists_of db)) max_levels (own_place d (on_top db s)) stmt binds left (room_for x.carried (Sql stmt binds left)) (base_in db)
      ≡ Stmt (names_in (lists_of db)) 50 (own_place v.edition t) stmt binds left room (base_of old.world.tx.contents (as_keeper old.world.keeper))
  run_reply is_top seen room_is =
      let top : on_top db s ≡ t = top_here (as_keeper old.world.keeper).used old.world.tx.contents old.seats.items db s x h.seated there t is_top in
      let base : base_in db ≡ record { data_now = old.world.tx.contents; used = (as_keeper old.world.keeper).used } = base_is (as_keeper old.world.keeper).used old.world.tx.contents old.seats.items db s x h.seated there in
      let at : d ≡ v.edition = same ∙ sym (ap (λ (w : EditionView). w.edition) seen.is) in
      λ i. Stmt (names_in (lists_of db)) 50 (own_place (at i) (top i)) stmt binds left (sym room_is i) (base i)

  pub ran_reply : IsTopOf old.seats.items s t → IsViewOf (lists_of db) e v → room ≡ room_for x.carried (Sql stmt binds left)
      → new.world.catalogue ≡ old.world.catalogue → AreCurrent (lists_of db) new.views → new.seats ≡ old.seats
      → Remains old.world.catalogue t (λ u table. false) old.world.book old.world.tx.contents new.world.book new.world.tx.contents → (r : Result Answer Halt)
      → Tells (Stmt (names_in (lists_of db)) 50 (own_place v.edition t) stmt binds left room (base_of old.world.tx.contents (as_keeper old.world.keeper)))
      (base_of new.world.tx.contents (as_keeper new.world.keeper)) (as_keeper old.world.keeper) (as_keeper new.world.keeper) r
      → Replies as_keeper old new r (reply_sql d db s x stmt binds left)
  ran_reply is_top seen room_is catalogue views seats remains (Err why) tells =
      subst (λ (o : Outcome Base Answer). GaveUp (as_keeper old.world.keeper) (as_keeper new.world.keeper) o.made why) (sym (run_reply is_top seen room_is)) tells
  ran_reply is_top seen room_is catalogue views seats remains (Ok a) tells =
      let o : Outcome Base Answer = Stmt (names_in (lists_of db)) max_levels (own_place d (on_top db s)) stmt binds left (room_for x.carried (Sql stmt binds left)) (base_in db) in
      let said : Said o (base_of new.world.tx.contents (as_keeper new.world.keeper)) (as_keeper old.world.keeper) (as_keeper new.world.keeper) a =
      subst (λ o'. Said o' (base_of new.world.tx.contents (as_keeper new.world.keeper)) (as_keeper old.world.keeper) (as_keeper new.world.keeper) a) (sym (run_reply is_top seen room_is)) tells in
      let made : MakesOf (base_in db) o = statement_makes (names_in (lists_of db)) max_levels (own_place d (on_top db s)) stmt binds left (room_for x.carried (Sql stmt binds left)) (base_in db) in
      let lists : lists_of (after_outcome db o) ≡ lists_of db = same_lists db.records o.made made.commits in
      let sits : Seated (as_keeper new.world.keeper).used new.world.tx.contents old.seats.items (after_outcome db o) =
      seated_on old.world.tx.contents new.world.tx.contents t (λ u table. false) remains.leaves (as_keeper old.world.keeper).used (as_keeper new.world.keeper).used old.seats.items db o h.seated made said.state remains.storable in
      record {
        answer = sym said.value;
        grew = said.grew;
        holds = record {
          catalogue_is = catalogue ∙ h.catalogue_is ∙ ap as_catalogue (sym lists);
          own_keys = subst HaveOwnKeys (sym lists) h.own_keys;
          views_are = subst (λ c. AreCurrent c new.views) (sym lists) views;
          books_are = subst (λ c. AreCurrent c new.world.book) (sym lists) (remains.current (lists_of db) h.own_keys h.books_are h.catalogue_is);
          seated = subst (λ (q : Vec Seat Global). Seated (as_keeper new.world.keeper).used new.world.tx.contents q.items (after_outcome db o)) (sym seats) sits;
          reached = reached_commits db.records o.made made.commits h.reached;
          early = early_ran db o (subst AreEarly sits.data_is (remains.leaves.keeps.early (subst AreEarly (sym h.seated.data_is) h.early.early))) h.early;
        };
      }

-- the room, by the seat of the session
pub room_of : (used : ℕ) (d : Data) (seats : List Seat) (db : Database) (s : SessionId) (x : Session) → Seated used d seats db → session_at db.sessions s.0 ≡ Some x
    → (seat : Seat) (ask : Ask) (room : ℕ) → Some seat ≡ seat_at seats s.0 → ((y : Session) → seat.carried ≡ min 16777217 y.carried → room ≡ room_for y.carried ask) → (asked : Ask) → ask ≡ asked → room ≡ room_for x.carried asked
room_of used d seats db s x h there seat ask room is by asked same =
    let sd : SeatOf d seats s x = seated used d seats db s x h there in
    let one : sd.seat ≡ seat = same_Some sd.seat seat (sym sd.there ∙ sym is) in
    by x (ap (λ (q : Seat). q.carried) (sym one) ∙ sd.sits.carried) ∙ ap (room_for x.carried) same
