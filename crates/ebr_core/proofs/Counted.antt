-- An ask is counted behind its reply.
use Rattle.std.proofs.Common.{◌≡◌, ℕ, zero, suc, List, refl, sym, ap, subst, ◌∙◌}
use Rattle.std.specs.Prelude.{Bool, Option, Some, None, Result, Ok, Err, slice_set, ◌-◌}
use Rattle.ebr_base.specs.declared.code.Code.{Code}
use Rattle.ebr_base.specs.declared.numbers.EditionNo.{EditionNo}
use Rattle.ebr_base.specs.declared.numbers.SessionId.{SessionId}
use Rattle.ebr_asks.specs.declared.ask.Ask.{Ask}
use Rattle.ebr_asks.specs.declared.ask.Ask.TheVariants as ask
use Rattle.ebr_asks.specs.declared.answer.Answer.{Answer}
use Rattle.ebr_asks.specs.declared.answer.Answer.TheVariants as answer
use Rattle.ebr_ast.specs.declared.view.EditionView.{EditionView}
use Rattle.ebr_record.specs.Keeper.{Keeper}
use Rattle.ebr_database.specs.declared.failure.Halt.{Halt}
use Rattle.ebr_database.specs.Database.{Session, Database, Replied, session_at, with_session, counted, reply_commit}
use Rattle.ebr_seats.specs.Seats.{HasSeat, Holds as Seated}
use Rattle.ebr_database.specs.Shows.{Grew}
use Rattle.ebr_units.specs.Living.{AreCurrent}
use Rattle.ebr_units.specs.declared.units.Units.{Units}
use Rattle.ebr_exec.specs.declared.world.World.{World}
use Rattle.ebr_seats.specs.Tests.{first_tests}
use Rattle.ebr_levels.proofs.ReplyLemmas.{early_counted}
use Rattle.ebr_seats.proofs.Seated.{at, at_here, seated, seat_within}
use Rattle.ebr_core.specs.declared.current.Current.{Current}
use Rattle.ebr_core.specs.Machine.{lists_of, Reply, counting, counted_in, edition_found, edition_set, reply_define, reply_in, reply_to, reply_while, then_reply, unless_refused}
use Rattle.ebr_core.specs.inside.Held.{Fails, HasSession, IsHeld, IsReplied, Tries}

at_is : (xs : List Session) (n : ℕ) → session_at xs n ≡ at xs n
at_is xs zero = refl
at_is xs (suc n) = refl

-- the session is still there
pub record IsThere (db : Database) (s : SessionId) : Type 0 where
  pub session : Session
  pub is : session_at db.sessions s.0 ≡ Some session

module _ (s : SessionId) (x : Session) where
  set_there : (db : Database) (y : Session) → session_at db.sessions s.0 ≡ Some x → IsThere (with_session db s y) s
  set_there db y is = record { session = y; is = at_is (slice_set db.sessions (s.0 - 1) y) s.0 ∙ at_here db.sessions s.0 x y (sym (at_is db.sessions s.0) ∙ is) }

  as_it_was : (db : Database) → session_at db.sessions s.0 ≡ Some x → IsThere db s
  as_it_was db is = record { session = x; is = is }

  behind_there : (a : Answer) (first : Replied) (next : Database → Replied) → IsThere first.database s → ((db : Database) → IsThere db s → IsThere (next db).database s) → IsThere (then_reply a first next).database s
  behind_there answer.Done first next here more = more first.database here
  behind_there a first next here more = here

  edition_there : (db : Database) (r : Result EditionNo Code) → session_at db.sessions s.0 ≡ Some x → IsThere (edition_set db s x r).database s
  edition_there db (Ok e) is = set_there db (record x { edition = Some e }) is
  edition_there db (Err code) is = as_it_was db is

  reply_there : (e : EditionNo) (db : Database) (q : Ask) → session_at db.sessions s.0 ≡ Some x → IsThere (reply_in e db s x q).database s
  reply_there e db ask.Begin is = set_there db _ is
  reply_there e db (ask.Sql stmt binds left) is = record { session = x; is = is }
  reply_there e db ask.Commit is = set_there _ _ is
  reply_there e db ask.Rollback is = set_there _ _ is
  reply_there e db (ask.Savepoint name) is = set_there _ _ is
  reply_there e db (ask.BackTo name) is = set_there _ _ is
  reply_there e db (ask.Ddl what text) is =
      behind_there (reply_commit db s x).answer (reply_commit db s x) (reply_define e s what text) (set_there _ _ is) (λ d h. record { session = h.session; is = h.is })
  reply_there e db (ask.SetEdition name) is = edition_there db (edition_found db s name) is
  reply_there e db ask.PushAuto is = set_there _ _ is
  reply_there e db (ask.PopAuto failed) is = set_there _ _ is
  reply_there e db (ask.EndCall failed) is = set_there _ _ is
  reply_there e db ask.Leave is = set_there _ _ is

  pub tested_there : (o : Option Code) (e : EditionNo) (db : Database) (q : Ask) → session_at db.sessions s.0 ≡ Some x → IsThere (unless_refused o db (reply_in e db s x q)).database s
  tested_there None e db q is = reply_there e db q is
  tested_there (Some code) e db q is = as_it_was db is

abbrev tested : EditionNo → Database → SessionId → Session → Ask → Replied
tested e db s x q = unless_refused (first_tests db s x q) db (reply_in e db s x q)

reply_is : (db : Database) (e : EditionNo) (s : SessionId) (x : Session) (q : Ask) → session_at db.sessions s.0 ≡ Some x → x.edition ≡ Some e → Reply db s q ≡ counting s q (tested e db s x q)
reply_is db e s x q is edition = ap (λ o. reply_to o db s q) is ∙ ap (λ o. reply_while o db s x q) edition

module _ {K : Type 0} (as_keeper : K → Keeper) (old mid : Current K) (s : SessionId) (q : Ask) where
  pub seat_there : (a : Answer) → (h : IsHeld as_keeper old s) → IsReplied as_keeper old mid a (tested h.edition h.database s h.session q) → HasSeat mid.seats.items s
  seat_there a h m =
      let here = tested_there s h.session (first_tests h.database s h.session q) h.edition h.database q h.has.there in
      let sd = seated (as_keeper mid.world.keeper).used mid.world.tx.contents mid.seats.items (tested h.edition h.database s h.session q).database s here.session m.holds.seated here.is in
      seat_within mid.seats.items s sd.seat sd.there

  -- there was no memory, or the disk failed, behind the first tests
  pub fails_on : (light : Bool) (db : Database) (e : EditionNo) (x : Session) → HasSession as_keeper db s e x → (why : Halt) (res : Result ((Answer × Option EditionView) × Answer) Halt) → res ≡ Err why
      → Tries as_keeper light old mid db (Err why) (tested e db s x q) → Tries as_keeper light old mid db res (Reply db s q)
  fails_on light db e x has why res is up =
      subst (λ y. Tries as_keeper light old mid db y (Reply db s q)) (sym is)
      (subst (λ (r : Replied). Fails as_keeper light old mid db r.records why) (sym (reply_is db e s x q has.there has.edition)) up)

  pub counted_on : (new : Current K) → new.world ≡ mid.world → new.views ≡ mid.views → (a : Answer) (db : Database) (e : EditionNo) (x : Session) → HasSession as_keeper db s e x → IsReplied as_keeper old mid a (tested e db s x q)
      → ((y : Session) → session_at (tested e db s x q).database.sessions s.0 ≡ Some y → Seated (as_keeper mid.world.keeper).used mid.world.tx.contents new.seats.items (with_session (tested e db s x q).database s (counted q a y)))
      → IsReplied as_keeper old new a (Reply db s q)
  counted_on new world views a db e x has m seats =
      let r : Replied = tested e db s x q in
      let here = tested_there s x (first_tests db s x q) e db q has.there in
      let after : counted_in r.database s q r.answer (session_at r.database.sessions s.0) ≡ with_session r.database s (counted q a here.session) =
      ap (counted_in r.database s q r.answer) here.is ∙ ap (λ b. with_session r.database s (counted q b here.session)) (sym m.answer) in
      subst (IsReplied as_keeper old new a) (sym (reply_is db e s x q has.there has.edition))
      (subst (λ d. IsReplied as_keeper old new a (record r { database = d })) (sym after) (record {
        answer = m.answer;
        grew = subst (λ (w : World K Units). Grew (as_keeper old.world.keeper) (as_keeper w.keeper) r.records) (sym world) m.grew;
        holds = record {
          catalogue_is = ap (λ (w : World K Units). w.catalogue) world ∙ m.holds.catalogue_is;
          own_keys = m.holds.own_keys;
          views_are = subst (AreCurrent (lists_of r.database)) (sym views) m.holds.views_are;
          books_are = subst (λ (w : World K Units). AreCurrent (lists_of r.database) w.book) (sym world) m.holds.books_are;
          seated = subst (λ (w : World K Units). Seated (as_keeper w.keeper).used w.tx.contents new.seats.items (with_session r.database s (counted q a here.session))) (sym world) (seats here.session here.is);
          reached = m.holds.reached;
          early = early_counted r.database s m.holds.early here.session here.is q a;
        };
      }))
