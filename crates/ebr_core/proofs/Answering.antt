-- What an answer leaves of the engine's parts.
use Rattle.std.proofs.Common.{◌≡◌, ◌≢◌, ◌-◌, ◌+◌, ◌<◌, ◌≤◌, Bool, true, false, ◌&&◌, List, [], ◌∷◌, ◌++◌, length, refl, sym, ap, subst, ◌∙◌, append-nil, Vec, Global, arith}
use Rattle.std.proofs.lemmas.Result.{err_from_is_err_and}
use Rattle.std.specs.Prelude.{◌↔◌, not, IsErrAnd, IsTrue, Option, Some, None, IsSome, is_some, Result, Err, slice_set, vec_len, vec_capacity}
use Rattle.ebr_base.specs.declared.numbers.EditionNo.{EditionNo}
use Rattle.ebr_base.specs.declared.numbers.SessionId.{SessionId}
use Rattle.ebr_ast.specs.declared.view.EditionView.{EditionView}
use Rattle.ebr_asks.specs.declared.ask.Ask.{Ask}
use Rattle.ebr_asks.specs.declared.ask.Ask.TheVariants.{Begin, Leave}
use Rattle.ebr_asks.specs.declared.answer.Answer.{Answer}
use Rattle.ebr_asks.specs.declared.answer.Answer.TheVariants as answer
use Rattle.ebr_asks.specs.declared.entry.Entry.{Entry}
use Rattle.ebr_laws.specs.Served.{HasCodeOf}
use Rattle.ebr_record.specs.Keeper.{Keeper}
use Rattle.ebr_database.specs.declared.failure.Halt.{Halt}
use Rattle.ebr_database.specs.declared.failure.Halt.TheVariants as why
use Rattle.ebr_database.specs.Database.{Session, Database, Replied, session_at}
use Rattle.ebr_database.specs.Shows.{Grew, GaveUp}
use Rattle.ebr_database.proofs.Keeping.{grew_same, stays}
use Rattle.ebr_units.specs.Served.{served}
use Rattle.ebr_core.specs.declared.current.Current.{Current}
use Rattle.ebr_core.specs.declared.parts.Parts.{Parts}
use Rattle.ebr_core.specs.Asked.{AreFit, IsFit}
use Rattle.ebr_core.specs.Machine.{Build, Reply}
use Rattle.ebr_core.specs.History.{After, AllStopped, IsLive, Legal, edition_of, is_idle, is_light, is_short, next, session_edition, wants}
use Rattle.ebr_core.specs.Engine as told
use Rattle.ebr_core.specs.Engine.{AnswersAsk, Gives, HasBook, HasLegalHistory, IsAnswer, database_of, entry_of, gives_up, has_given_up, is_last}
use Rattle.ebr_core.specs.inside.Held.{ComesWith, Fails, Holds, IsHeld, IsReplied, IsUntouched, Tries}
use Rattle.ebr_core.specs.inside.Parts.{Adds, GivesUp, HasRoom, HasStopped, IsEngine, IsSound, Keeps, Runs, Stands, database, entry, first, last_answer, live_count, lives, lives_at, room_needed, state_of}
use Rattle.ebr_core.proofs.Rooms.{needs_least, needs_leave, needs_more, needs_most, needs_short}
use Rattle.ebr_core.proofs.Books.{length_set, placed}
use Rattle.ebr_core.proofs.Lives.{Replies, Suits, at_there, lives_is, lives_left, one_left, other_lives, reply_suits, within}
use Rattle.ebr_core.proofs.Histories.{After-append, gave_up, given_up_before, given_up_now, goes_on, idle_goes, is_stopped, never_given_up, next_idle, next_made, no_last, not_idle, passes_by}

-- ---- a live session

pub record LiveSession (db : Database) (s : SessionId) : Type 0 where
  pub edition : EditionNo
  pub session : Session
  pub there : session_at db.sessions s.0 ≡ Some session
  pub is_in : session.edition ≡ Some edition

pub live_session : (db : Database) (s : SessionId) → IsLive db s → LiveSession db s
live_session db s live = by (session_at db.sessions s.0) refl live
  where
    in_edition : (x : Session) (o : Option EditionNo) → session_at db.sessions s.0 ≡ Some x → x.edition ≡ o → IsSome o → LiveSession db s
    in_edition x None there is some = cc
    in_edition x (Some e) there is some = record { edition = e; session = x; there = there; is_in = is }

    by : (o : Option Session) → session_at db.sessions s.0 ≡ o → IsSome (edition_of o) → LiveSession db s
    by None is some = cc
    by (Some x) is some = in_edition x x.edition is refl some

-- ---- answers

is_no_last : (ask : Ask) (a : Answer) → Replies ask a → is_last a ≡ false
is_no_last Begin (answer.View v) h = refl
is_no_last Begin answer.DiskFault h = absurd h
is_no_last Begin answer.NoMemory h = absurd h
is_no_last Begin a h = refl
is_no_last ask answer.DiskFault h = absurd h
is_no_last ask answer.NoMemory h = absurd h
is_no_last ask a h = refl

entry_is : (s : SessionId) (ask : Ask) (a : Answer) → Replies ask a → entry s ask a ≡ entry_of s ask a
entry_is s Begin answer.Stopped h = absurd h
entry_is s Begin a h = refl
entry_is s ask answer.Stopped h = absurd h
entry_is s ask a h = refl

is_answer : (ask : Ask) (a : Answer) (r : Replied) (old new : Keeper) → Replies ask a → a ≡ r.answer → Grew old new r.records → IsAnswer a r old new
is_answer Begin answer.DiskFault r old new h same grew = absurd h
is_answer Begin answer.NoMemory r old new h same grew = absurd h
is_answer Begin answer.Stopped r old new h same grew = absurd h
is_answer Begin a r old new h same grew = (same, grew)
is_answer ask answer.DiskFault r old new h same grew = absurd h
is_answer ask answer.NoMemory r old new h same grew = absurd h
is_answer ask answer.Stopped r old new h same grew = absurd h
is_answer ask a r old new h same grew = (same, grew)

-- so it is of what comes of the ask
replies_so : (ask : Ask) (a : Answer) (r : Replied) (old new : Keeper) → Replies ask a → a ≡ r.answer → Grew old new r.records → told.Replies (wants a && is_light ask) a r old new
replies_so ask a r old new h same grew = subst (λ b. told.Replies b a r old new) (sym (no_idle a (is_no_last ask a h))) (is_answer ask a r old new h same grew)
  where
    no_idle : (a : Answer) → is_last a ≡ false → (wants a && is_light ask) ≡ false
    no_idle answer.DiskFault last = refl
    no_idle answer.NoMemory last = cc
    no_idle a last = refl

with_code : (v : EditionView) → HasCodeOf v (served v)
with_code v = record { unit = λ key. refl; stamp = λ key. refl; objects = refl }

has_book : (ask : Ask) (a : Answer) (book : Option EditionView) → Replies ask a → ComesWith ask a book → HasBook a book
has_book Begin (answer.View v) book h comes = (comes.0, comes.1, with_code v)
has_book Begin a book h comes = comes
has_book ask (answer.View v) book h comes = absurd h
has_book ask a book h comes = comes

last_entry : (s : SessionId) (ask : Ask) (why : Halt) → entry s ask (last_answer why) ≡ entry_of s ask (last_answer why)
last_entry s ask why.DiskFault = refl
last_entry s ask why.Stopped = refl
last_entry s ask why.NoMemory = refl

last_book : (why : Halt) → HasBook (last_answer why) None
last_book why.DiskFault = refl
last_book why.Stopped = refl
last_book why.NoMemory = refl

-- the answer with which it gives up, where the keeper hadn't stopped, of an ask that isn't light
replies_last : (ask : Ask) (why : Halt) (r : Replied) (old new : Keeper) → is_light ask ≡ false → IsAnswer (last_answer why) r old new → told.Replies (wants (last_answer why) && is_light ask) (last_answer why) r old new
replies_last ask why r old new heavy h = subst (λ b. told.Replies (wants (last_answer why) && b) (last_answer why) r old new) (sym heavy) (subst (λ b. told.Replies b (last_answer why) r old new) (sym (and_false (wants (last_answer why)))) h)
  where
    and_false : (b : Bool) → (b && false) ≡ false
    and_false true = refl
    and_false false = refl

last_gives : (why : Halt) → (is_last (last_answer why) && not (wants (last_answer why) && false)) ≡ true
last_gives why.DiskFault = refl
last_gives why.Stopped = refl
last_gives why.NoMemory = refl

is_last_answer : (why : Halt) (r : Replied) (old new : Keeper) → old.stopped ≡ false → GaveUp old new r.records why → IsAnswer (last_answer why) r old new
is_last_answer why.DiskFault r old new goes g = g
is_last_answer why.Stopped r old new goes g = absurd (differ (sym goes ∙ g.cause))
  where
    differ : false ≡ true → ⊥
    differ e = cc
is_last_answer why.NoMemory r old new goes g = g

module _ {K : Type 0} (as_keeper : K → Keeper) where
  -- there was no room for an entry
  pub not_tried : (light : Bool) (old new : Current K) (db : Database) (r : Replied) → new ≡ old → Holds as_keeper old db → (result : Result ((Answer × Option EditionView) × Answer) Halt) → IsErrAnd result (λ w. w ≡ why.NoMemory) → Tries as_keeper light old new db result r
  not_tried light old new db r same held result none =
      let p = err_from_is_err_and result none in
      subst (λ x. Tries as_keeper light old new db x r) (sym (p.1 ∙ ap (λ w. Err w) p.2)) (subst (λ (c : Current K). Fails as_keeper light old c db r.records why.NoMemory) (sym same) (by light))
    where
      by : (light : Bool) → Fails as_keeper light old old db r.records why.NoMemory
      by true = record { holds = held; grew = grew_same (as_keeper old.world.keeper) }
      by false = stays (as_keeper old.world.keeper) r.records

  -- the history is legal at any time
  pub legal_now : (p : Parts K) → IsSound as_keeper p → HasLegalHistory (state_of as_keeper p)
  legal_now p h = by p.stopped h.stands
    where
      by : (b : Bool) → Stands as_keeper b p → HasLegalHistory (state_of as_keeper p)
      by false r = subst (Legal (first as_keeper p)) (append-nil p.history.items) (r.legal [] tt)
      by true r = subst (Legal (first as_keeper p)) (append-nil p.history.items) (r.legal [] tt)

  -- a book was set aside, or taken
  pub sound_on : (p : Parts K) (books : Vec (Option EditionView) Global) → length books.items ≡ length p.books.items → IsSound as_keeper p → IsSound as_keeper (record p { books = books })
  sound_on p books same h = record {
    living = subst (λ n. p.living.items ≡ lives (After (Build p.recovered n) p.history.items)) (sym same) h.living;
    books = same ∙ h.books;
    stopped = h.stopped;
    stands = by p.stopped h.stands;
  }
    where
      by : (b : Bool) → Stands as_keeper b p → Stands as_keeper b (record p { books = books })
      by false r = record {
        legal = subst (λ n. (more : List Entry) → Legal (After (Build p.recovered n) p.history.items) more → Legal (Build p.recovered n) (p.history.items ++ more)) (sym same) r.legal;
        holds = subst (λ n. Holds as_keeper p.current (After (Build p.recovered n) p.history.items)) (sym same) r.holds;
        goes = r.goes;
        room = r.room;
      }
      by true r = record {
        legal = subst (λ n. (more : List Entry) → AllStopped (After (Build p.recovered n) p.history.items) more → Legal (Build p.recovered n) (p.history.items ++ more)) (sym same) r.legal;
        room = r.room;
      }

  -- a session that lives is one of those that have books
  pub in_range : (p : Parts K) (s : SessionId) (b : Bool) → IsSound as_keeper p → b ≡ lives_at p.living.items s.0 → IsTrue b → (1 ≤ s.0) × (s.0 ≤ length p.books.items)
  in_range p s b h is there = let w = within p.living.items s.0 (sym is ∙ there) in (w.0, subst (λ n. s.0 ≤ n) (sym h.books) w.1)

  pub live_is : (p : Parts K) (s : SessionId) (b : Bool) → IsSound as_keeper p → b ≡ lives_at p.living.items s.0 → IsTrue b ↔ IsLive (database_of (state_of as_keeper p)) s
  live_is p s b h is =
      let e : b ≡ is_some (session_edition (database_of (state_of as_keeper p)) s) = is ∙ ap (λ bs. lives_at bs s.0) h.living ∙ lives_is (database_of (state_of as_keeper p)).sessions s.0 in
      (λ yes. sym e ∙ yes, λ yes. e ∙ yes)

true_false : true ≡ false → ⊥
true_false e = cc

-- one that was answered that there is no memory asks Leave alone
pub not_short : (h : List Entry) (s : SessionId) (ask : Ask) → ask ≢ Leave → (is_short h s ≡ true → ask ≡ Leave) → is_short h s ≡ false
not_short h s ask stays short = by (is_short h s) refl
  where
    by : (b : Bool) → is_short h s ≡ b → is_short h s ≡ false
    by true is = absurd (stays (short is))
    by false is = is

-- ---- the parts with one entry more

module _ {K : Type 0} (as_keeper : K → Keeper) where
  pub record Entered (old new : Parts K) (s : SessionId) (x : Entry) (book : Option EditionView) (living : List Bool) : Type 0 where
    pub entry : new.history.items ≡ old.history.items ++ x ∷ []
    pub books : new.books.items ≡ slice_set old.books.items (s.0 - 1) book
    pub living_is : new.living.items ≡ living
    pub recovered : new.recovered ≡ old.recovered

  module _ (old : Parts K) (s : SessionId) (h : IsSound as_keeper old) (live : IsLive (database as_keeper old) s) where
    abbrev pub db : Database
    db = database as_keeper old

    abbrev pub at : LiveSession db s
    at = live_session db s live

    lives_s : lives_at old.living.items s.0 ≡ true
    lives_s = ap (λ bs. lives_at bs s.0) h.living ∙ at_there db.sessions s.0 at.session at.there ∙ ap is_some at.is_in

    enough : (b : Bool) → Stands as_keeper b old → vec_len old.history < vec_capacity old.history
    enough false r =
        let e = one_left old.living.items s.0 lives_s in
        let n = needs_least (λ n. is_short old.history.items (record { 0 = n })) 1 old.living.items in
        let m = r.room in
        omega (arith, e, n, m)
    enough true r = let e = one_left old.living.items s.0 lives_s in let m = r.room in omega (arith, e, m)

    first_place : 1 ≤ s.0
    first_place = (within old.living.items s.0 lives_s).0

    pub has_room : HasRoom as_keeper old s
    has_room = record { first = first_place; last = (within old.living.items s.0 lives_s).1; books = h.books; room = enough old.stopped h.stands }

    abbrev pub runs : old.stopped ≡ false → Runs as_keeper old
    runs is = subst (λ b. Stands as_keeper b old) is h.stands

    abbrev pub is_held : old.stopped ≡ false → IsHeld as_keeper old.current s
    is_held is = record { database = db; edition = at.edition; session = at.session; holds = (runs is).holds; has = record { there = at.there; edition = at.is_in } }

    given_before : (b : Bool) → old.stopped ≡ b → has_given_up old.history.items ≡ b
    given_before b is = sym h.stopped ∙ is

    module _ (new : Parts K) (x : Entry) (book : Option EditionView) (living : List Bool) (a : Entered old new s x book living) (len : length living ≡ length old.living.items) where
      same_len : length new.living.items ≡ length old.living.items
      same_len = ap (λ (bs : List Bool). length bs) a.living_is ∙ len

      as_many_books : length new.books.items ≡ length old.books.items
      as_many_books = ap (λ (bs : List (Option EditionView)). length bs) a.books ∙ length_set old.books.items (s.0 - 1) book

      same_first : first as_keeper new ≡ first as_keeper old
      same_first = λ i. Build (a.recovered i) (as_many_books i)

      after : database as_keeper new ≡ next db x
      after = ap (λ d. After d new.history.items) same_first ∙ ap (After (first as_keeper old)) a.entry ∙ After-append (first as_keeper old) old.history.items x

      books_len : length new.books.items ≡ length new.living.items
      books_len = as_many_books ∙ h.books ∙ sym same_len

      legal_on : (P : Database → List Entry → Type 0) → ((more : List Entry) → P (next db x) more → Legal (first as_keeper old) ((old.history.items ++ x ∷ []) ++ more))
          → (more : List Entry) → P (database as_keeper new) more → Legal (first as_keeper new) (new.history.items ++ more)
      legal_on P f more p =
          subst (λ d. Legal d (new.history.items ++ more)) (sym same_first)
          (subst (λ es. Legal (first as_keeper old) (es ++ more)) (sym a.entry) (f more (subst (λ d. P d more) after p)))

      whole : (P : Database → List Entry → Type 0) → ((more : List Entry) → P (database as_keeper new) more → Legal (first as_keeper new) (new.history.items ++ more)) → P (database as_keeper new) [] → HasLegalHistory (state_of as_keeper new)
      whole P f none = subst (Legal (first as_keeper new)) (append-nil new.history.items) (f [] none)

      lives_after : IsSound as_keeper new → (r : SessionId) → lives_at living r.0 ≡ true → IsLive (database as_keeper new) r
      lives_after sound r is =
          sym (ap (λ bs. lives_at bs r.0) (sym a.living_is ∙ sound.living) ∙ lives_is (database as_keeper new).sessions r.0) ∙ is

      was_live : (r : SessionId) → IsLive db r → lives_at old.living.items r.0 ≡ true
      was_live r is = ap (λ bs. lives_at bs r.0) h.living ∙ lives_is db.sessions r.0 ∙ is

      answers_by : (ask : Ask) (y : Answer) → x ≡ entry_of s ask y → IsSound as_keeper new → ((r : SessionId) → (r.0 ≡ s.0 → ⊥) → lives_at old.living.items r.0 ≡ true → lives_at living r.0 ≡ true)
          → (y ≢ answer.Stopped → ask ≢ Leave → lives_at living s.0 ≡ true) → HasLegalHistory (state_of as_keeper new) → HasBook y book
          → (ask ≡ Leave → has_given_up old.history.items ≡ false → y ≡ answer.Done)
          → Gives as_keeper (has_given_up old.history.items) old.current.world.keeper new.current.world.keeper ask y (Reply db s ask) → AnswersAsk as_keeper (state_of as_keeper old) (state_of as_keeper new) s ask y
      answers_by ask y same sound others stays legal has leaves gives = record {
        entry = a.entry ∙ ap (λ e. old.history.items ++ e ∷ []) same;
        legal = legal;
        recovered = a.recovered;
        book = book;
        books = a.books ∙ placed old.books.items s.0 book first_place;
        has_book = has;
        leaves = leaves;
        others = λ r differ is. lives_after sound r (others r differ (was_live r is));
        stays = λ y' stays'. lives_after sound s (stays y' stays');
        gives = gives;
      }

    entered : (new : Parts K) (x : Entry) (book : Option EditionView) (living : List Bool) → Adds as_keeper old new s x book living → Entered old new s x book living
    entered new x book living a = record { entry = a.entry; books = a.books; living_is = a.living_is; recovered = a.recovered }

    -- the room that was made before
    pub room_on : (mid : Parts K) → Keeps as_keeper old mid → HasRoom as_keeper mid s
    room_on mid k =
        let r = has_room in
        let living : length mid.living.items ≡ length old.living.items = ap (λ (bs : List Bool). length bs) k.living in
        let books : length mid.books.items ≡ length old.books.items = ap (λ (bs : List (Option EditionView)). length bs) k.books in
        let last : s.0 ≤ length mid.living.items = omega (arith, r.last, living) in
        let room : vec_len mid.history < vec_capacity mid.history = omega (arith, r.room, k.len, k.room) in
        record { first = r.first; last = last; books = books ∙ r.books ∙ sym living; room = room }

    -- ---- once it has stopped

    heavy_leave : (y : Answer) → (wants y && is_light Leave) ≡ false
    heavy_leave y = and_false (wants y)
      where
        and_false : (b : Bool) → (b && false) ≡ false
        and_false true = refl
        and_false false = refl

    left_len : length (slice_set old.living.items (s.0 - 1) false) ≡ length old.living.items
    left_len = length_set old.living.items (s.0 - 1) false

    left_others : (r : SessionId) → (r.0 ≡ s.0 → ⊥) → lives_at old.living.items r.0 ≡ true → lives_at (slice_set old.living.items (s.0 - 1) false) r.0 ≡ true
    left_others r differ is = other_lives old.living.items s.0 r.0 lives_s differ ∙ is

    left_lives : (new : Parts K) (y : Answer) (a : Adds as_keeper old new s (entry s Leave y) None (slice_set old.living.items (s.0 - 1) false)) → new.living.items ≡ lives (database as_keeper new)
    left_lives new y a =
        a.living_is ∙ ap (λ bs. slice_set bs (s.0 - 1) false) h.living ∙ sym (lives_left db s at.edition at.session at.there at.is_in)
        ∙ ap lives (sym (after new (entry s Leave y) None _ (entered new _ None _ a) left_len ∙ next_made db (entry s Leave y) (heavy_leave y)))

    module _ (new : Parts K) (a : Adds as_keeper old new s (entry s Leave answer.Stopped) None (slice_set old.living.items (s.0 - 1) false)) (current : new.current ≡ old.current) (is : old.stopped ≡ true) where
      abbrev es : Entered old new s (entry s Leave answer.Stopped) None (slice_set old.living.items (s.0 - 1) false)
      es = entered new _ None _ a

      had : HasStopped as_keeper old
      had = subst (λ b. Stands as_keeper b old) is h.stands

      stays_stopped : HasStopped as_keeper new
      stays_stopped = record {
        legal = legal_on new _ None _ es left_len AllStopped (is_stopped (first as_keeper old) old.history.items (entry s Leave answer.Stopped) live had.legal refl refl);
        room =
            let e = one_left old.living.items s.0 lives_s in
            let m = had.room in
            let c : live_count new.living.items ≡ live_count (slice_set old.living.items (s.0 - 1) false) = ap live_count a.living_is in
            omega (arith, e, m, c, a.len, a.room);
      }

      pub stop_sound : IsSound as_keeper new
      stop_sound = record {
        living = left_lives new answer.Stopped a;
        books = books_len new _ None _ es left_len;
        stopped = a.stopped ∙ is ∙ sym (given_up_before old.history.items (entry s Leave answer.Stopped) (given_before true is)) ∙ ap has_given_up (sym a.entry);
        stands = subst (λ b. Stands as_keeper b new) (sym (a.stopped ∙ is)) stays_stopped;
      }

      pub stop_answers : (ask : Ask) (y : Answer) → y ≡ answer.Stopped → AnswersAsk as_keeper (state_of as_keeper old) (state_of as_keeper new) s ask y
      stop_answers ask y same = subst (λ y. AnswersAsk as_keeper (state_of as_keeper old) (state_of as_keeper new) s ask y) (sym same)
          (answers_by new _ None _ es left_len ask answer.Stopped refl stop_sound left_others (λ y' stays. absurd (y' refl)) (whole new _ None _ es left_len AllStopped stays_stopped.legal tt) refl (λ q gave. absurd (true_false (sym (given_before true is) ∙ gave)))
          (subst (λ b. Gives as_keeper b old.current.world.keeper new.current.world.keeper ask answer.Stopped (Reply db s ask)) (sym (given_before true is))
          (refl, ap (λ (c : Current K). c.world.keeper) current)))

    -- ---- it runs

    module _ (new : Parts K) (is : old.stopped ≡ false) where
      module _ (ask : Ask) (y : Answer) (book : Option EditionView) (living : List Bool) (e : Entered old new s (entry s ask y) book living) (len : length living ≡ length old.living.items)
          (r : IsReplied as_keeper old.current new.current y (Reply db s ask)) (last : is_last y ≡ false)
          (room : vec_len new.history + room_needed new.history.items new.living.items ≤ vec_capacity new.history)
          (stopped : new.stopped ≡ old.stopped) (lives_new : living ≡ lives (Reply db s ask).database) where
        goes_legal : (more : List Entry) → Legal (database as_keeper new) more → Legal (first as_keeper new) (new.history.items ++ more)
        goes_legal = legal_on new _ book living e len Legal (goes_on (first as_keeper old) old.history.items (entry s ask y) live (runs is).legal last r.answer)

        runs_on : Runs as_keeper new
        runs_on = record {
          legal = goes_legal;
          holds = subst (Holds as_keeper new.current) (sym (after new _ book living e len ∙ next_made db (entry s ask y) (not_idle (entry s ask y) last))) r.holds;
          goes = r.grew.stopped ∙ (runs is).goes;
          room = room;
        }

        pub reply_sound : IsSound as_keeper new
        reply_sound = record {
          living = e.living_is ∙ lives_new ∙ ap lives (sym (after new _ book living e len ∙ next_made db (entry s ask y) (not_idle (entry s ask y) last)));
          books = books_len new _ book living e len;
          stopped = stopped ∙ is ∙ sym (never_given_up old.history.items (entry s ask y) (given_before false is) (no_last (entry s ask y) last)) ∙ ap has_given_up (sym e.entry);
          stands = subst (λ b. Stands as_keeper b new) (sym (stopped ∙ is)) runs_on;
        }

        pub reply_answers : ((r : SessionId) → (r.0 ≡ s.0 → ⊥) → lives_at old.living.items r.0 ≡ true → lives_at living r.0 ≡ true) → (y ≢ answer.Stopped → ask ≢ Leave → lives_at living s.0 ≡ true)
            → entry s ask y ≡ entry_of s ask y → HasBook y book → (ask ≡ Leave → has_given_up old.history.items ≡ false → y ≡ answer.Done) → told.Replies (wants y && is_light ask) y (Reply db s ask) (as_keeper old.current.world.keeper) (as_keeper new.current.world.keeper)
            → AnswersAsk as_keeper (state_of as_keeper old) (state_of as_keeper new) s ask y
        reply_answers others stays same has leaves answers =
            answers_by new _ book living e len ask y same reply_sound others stays (whole new _ book living e len Legal goes_legal tt) has leaves
            (subst (λ b. Gives as_keeper b old.current.world.keeper new.current.world.keeper ask y (Reply db s ask)) (sym (given_before false is)) answers)

      -- a session leaves
      module _ (a : Adds as_keeper old new s (entry s Leave answer.Done) None (slice_set old.living.items (s.0 - 1) false)) (r : IsReplied as_keeper old.current new.current answer.Done (Reply db s Leave)) where
        left_room : vec_len new.history + room_needed new.history.items new.living.items ≤ vec_capacity new.history
        left_room =
            let e = needs_leave old.history.items (entry s Leave answer.Done) old.living.items s refl lives_s refl in
            let m = (runs is).room in
            let c : room_needed new.history.items new.living.items ≡ room_needed (old.history.items ++ entry s Leave answer.Done ∷ []) (slice_set old.living.items (s.0 - 1) false) = λ i. room_needed (a.entry i) (a.living_is i) in
            omega (arith, e, m, c, a.len, a.room)

        left_is : slice_set old.living.items (s.0 - 1) false ≡ lives (Reply db s Leave).database
        left_is = ap (λ bs. slice_set bs (s.0 - 1) false) h.living ∙ sym (lives_left db s at.edition at.session at.there at.is_in)

        pub leave_sound : IsSound as_keeper new
        leave_sound = reply_sound Leave answer.Done None _ (entered new _ None _ a) left_len r refl left_room a.stopped left_is

        pub leave_answers : (y : Answer) → y ≡ answer.Done → AnswersAsk as_keeper (state_of as_keeper old) (state_of as_keeper new) s Leave y
        leave_answers y same = subst (λ y. AnswersAsk as_keeper (state_of as_keeper old) (state_of as_keeper new) s Leave y) (sym same)
            (reply_answers Leave answer.Done None _ (entered new _ None _ a) left_len r refl left_room a.stopped left_is left_others (λ y' stays. absurd (stays refl)) refl refl (λ q gave. refl) (r.answer, r.grew))

      -- another ask, with room made before
      module _ (mid : Parts K) (k : Keeps as_keeper old mid) (ask : Ask) (stays : ask ≢ Leave) where
        suits : Suits db ask (Reply db s ask)
        suits = reply_suits db s at.edition at.session at.there at.is_in ask stays

        same_lives : old.living.items ≡ lives (Reply db s ask).database
        same_lives = h.living ∙ sym suits.lives_are

        module _ (y copy : Answer) (book : Option EditionView) (a : Adds as_keeper mid new s (entry s ask copy) book mid.living.items) (same : copy ≡ y) (current : new.current ≡ mid.current)
            (r : IsReplied as_keeper old.current mid.current y (Reply db s ask)) (comes : ComesWith ask y book)
            (room : vec_len mid.history + (length mid.living.items + length mid.living.items + 1) ≤ vec_capacity mid.history) where
          on_old : Entered old new s (entry s ask y) book old.living.items
          on_old = record {
            entry = a.entry ∙ ap (λ es. es ++ entry s ask copy ∷ []) k.entries ∙ ap (λ z. old.history.items ++ entry s ask z ∷ []) same;
            books = a.books ∙ ap (λ bs. slice_set bs (s.0 - 1) book) k.books;
            living_is = a.living_is ∙ k.living;
            recovered = a.recovered ∙ k.recovered;
          }

          replied : IsReplied as_keeper old.current new.current y (Reply db s ask)
          replied = subst (λ c. IsReplied as_keeper old.current c y (Reply db s ask)) (sym current) r

          replies : Replies ask y
          replies = subst (Replies ask) (sym r.answer) suits.answer_is

          enough_room : vec_len new.history + room_needed new.history.items new.living.items ≤ vec_capacity new.history
          enough_room =
              let m = needs_most (λ n. is_short new.history.items (record { 0 = n })) 1 new.living.items in
              let c : length new.living.items ≡ length mid.living.items = ap (λ (bs : List Bool). length bs) a.living_is in
              omega (arith, m, c, room, a.len, a.room)

          pub asked_sound : IsSound as_keeper new
          asked_sound = reply_sound ask y book old.living.items on_old refl replied (is_no_last ask y replies) enough_room (a.stopped ∙ k.stopped) same_lives

          pub asked_answers : AnswersAsk as_keeper (state_of as_keeper old) (state_of as_keeper new) s ask y
          asked_answers =
              reply_answers ask y book old.living.items on_old refl replied (is_no_last ask y replies) enough_room (a.stopped ∙ k.stopped) same_lives
              (λ r' differ is'. is') (λ y' stays'. lives_s) (entry_is s ask y replies) (has_book ask y book replies comes) (λ q gave. absurd (stays q)) (replies_so ask y (Reply db s ask) _ _ replies r.answer replied.grew)

        -- it passes by
        module _ (light : is_light ask ≡ true) (long : is_short old.history.items s ≡ false) (a : Adds as_keeper mid new s (entry s ask answer.NoMemory) None mid.living.items) (current : new.current ≡ mid.current)
            (u : IsUntouched as_keeper old.current mid.current db) where
          idle : is_idle (entry s ask answer.NoMemory) ≡ true
          idle = light

          on_idle : Entered old new s (entry s ask answer.NoMemory) None old.living.items
          on_idle = record {
            entry = a.entry ∙ ap (λ es. es ++ entry s ask answer.NoMemory ∷ []) k.entries;
            books = a.books ∙ ap (λ bs. slice_set bs (s.0 - 1) None) k.books;
            living_is = a.living_is ∙ k.living;
            recovered = a.recovered ∙ k.recovered;
          }

          same_database : database as_keeper new ≡ db
          same_database = after new _ None _ on_idle refl ∙ next_idle db (entry s ask answer.NoMemory) idle

          idle_legal : (more : List Entry) → Legal (database as_keeper new) more → Legal (first as_keeper new) (new.history.items ++ more)
          idle_legal = legal_on new _ None _ on_idle refl Legal (passes_by (first as_keeper old) old.history.items (entry s ask answer.NoMemory) live (runs is).legal idle)

          idle_runs : Runs as_keeper new
          idle_runs = record {
            legal = idle_legal;
            holds = subst (Holds as_keeper new.current) (sym same_database) (subst (λ (c : Current K). Holds as_keeper c db) (sym current) u.holds);
            goes = ap (λ (c : Current K). (as_keeper c.world.keeper).stopped) current ∙ u.grew.stopped ∙ (runs is).goes;
            room =
                let e = needs_short old.history.items (entry s ask answer.NoMemory) old.living.items s refl lives_s refl long in
                let m = (runs is).room in
                let c : room_needed new.history.items new.living.items ≡ room_needed (old.history.items ++ entry s ask answer.NoMemory ∷ []) old.living.items = λ i. room_needed (on_idle.entry i) (on_idle.living_is i) in
                omega (arith, e, m, c, a.len, a.room, k.len, k.room);
          }

          pub idle_sound : IsSound as_keeper new
          idle_sound = record {
            living = on_idle.living_is ∙ h.living ∙ ap lives (sym same_database);
            books = books_len new _ None _ on_idle refl;
            stopped = a.stopped ∙ k.stopped ∙ is ∙ sym (never_given_up old.history.items (entry s ask answer.NoMemory) (given_before false is) (idle_goes (entry s ask answer.NoMemory) idle)) ∙ ap has_given_up (sym on_idle.entry);
            stands = subst (λ b. Stands as_keeper b new) (sym (a.stopped ∙ k.stopped ∙ is)) idle_runs;
          }

          pub idle_answers : (y : Answer) → y ≡ answer.NoMemory → AnswersAsk as_keeper (state_of as_keeper old) (state_of as_keeper new) s ask y
          idle_answers y same = subst (λ y. AnswersAsk as_keeper (state_of as_keeper old) (state_of as_keeper new) s ask y) (sym same)
              (answers_by new _ None _ on_idle refl ask answer.NoMemory refl idle_sound (λ r' differ is'. is') (λ y' stays'. lives_s) (whole new _ None _ on_idle refl Legal idle_legal tt) refl (λ q gave. absurd (stays q))
              (subst (λ b. Gives as_keeper b old.current.world.keeper new.current.world.keeper ask answer.NoMemory (Reply db s ask)) (sym (given_before false is))
              (subst (λ b. told.Replies b answer.NoMemory (Reply db s ask) (as_keeper old.current.world.keeper) (as_keeper new.current.world.keeper)) (sym light)
              (subst (λ (c : Current K). Grew (as_keeper old.current.world.keeper) (as_keeper c.world.keeper) []) (sym current) u.grew))))

        -- it gives up
        module _ (why : Halt) (heavy : is_light ask ≡ false) (long : is_short old.history.items s ≡ false) (g : GivesUp as_keeper mid new s (entry s ask (last_answer why))) (current : new.current ≡ mid.current)
            (up : GaveUp (as_keeper old.current.world.keeper) (as_keeper mid.current.world.keeper) (Reply db s ask).records why) where
          on_last : Entered old new s (entry s ask (last_answer why)) None old.living.items
          on_last = record {
            entry = g.entry ∙ ap (λ es. es ++ entry s ask (last_answer why) ∷ []) k.entries;
            books = g.books ∙ ap (λ bs. slice_set bs (s.0 - 1) None) k.books;
            living_is = g.living ∙ k.living;
            recovered = g.recovered ∙ k.recovered;
          }

          gave : gives_up (entry s ask (last_answer why)) ≡ true
          gave = ap (λ b. is_last (last_answer why) && not (wants (last_answer why) && b)) heavy ∙ last_gives why

          made : next db (entry s ask (last_answer why)) ≡ (Reply db s ask).database
          made = next_made db (entry s ask (last_answer why)) (ap (λ b. wants (last_answer why) && b) heavy ∙ and_false (wants (last_answer why)))
            where
              and_false : (b : Bool) → (b && false) ≡ false
              and_false true = refl
              and_false false = refl

          last_legal : (more : List Entry) → AllStopped (database as_keeper new) more → Legal (first as_keeper new) (new.history.items ++ more)
          last_legal = legal_on new _ None _ on_last refl AllStopped (gave_up (first as_keeper old) old.history.items (entry s ask (last_answer why)) live (runs is).legal gave)

          has_stopped : HasStopped as_keeper new
          has_stopped = record {
            legal = last_legal;
            room =
                let m = (runs is).room in
                let n = needs_more old.history.items old.living.items s lives_s long in
                let c : live_count new.living.items ≡ live_count old.living.items = ap live_count (g.living ∙ k.living) in
                omega (arith, m, n, c, g.len, g.room, k.len, k.room);
          }

          pub last_sound : IsSound as_keeper new
          last_sound = record {
            living = g.living ∙ k.living ∙ same_lives ∙ ap lives (sym (after new _ None _ on_last refl ∙ made));
            books = books_len new _ None _ on_last refl;
            stopped = g.stopped ∙ sym (given_up_now old.history.items (entry s ask (last_answer why)) gave) ∙ ap has_given_up (sym g_entry);
            stands = subst (λ b. Stands as_keeper b new) (sym g.stopped) has_stopped;
          }
            where
              g_entry : new.history.items ≡ old.history.items ++ entry s ask (last_answer why) ∷ []
              g_entry = on_last.entry

          pub last_answers : (y : Answer) → y ≡ last_answer why → AnswersAsk as_keeper (state_of as_keeper old) (state_of as_keeper new) s ask y
          last_answers y same = subst (λ y. AnswersAsk as_keeper (state_of as_keeper old) (state_of as_keeper new) s ask y) (sym same)
              (answers_by new _ None _ on_last refl ask (last_answer why) (last_entry s ask why) last_sound (λ r' differ is'. is') (λ y' stays'. lives_s) (whole new _ None _ on_last refl AllStopped last_legal tt) (last_book why) (λ q gave. absurd (stays q))
              (subst (λ b. Gives as_keeper b old.current.world.keeper new.current.world.keeper ask (last_answer why) (Reply db s ask)) (sym (given_before false is))
              (replies_last ask why (Reply db s ask) _ _ heavy (is_last_answer why (Reply db s ask) _ _ (runs is).goes (subst (λ (c : Current K). GaveUp (as_keeper old.current.world.keeper) (as_keeper c.world.keeper) (Reply db s ask).records why) (sym current) up)))))

-- ---- the asks of the history are fit

entry_fit : (s : SessionId) (ask : Ask) (a : Answer) → IsFit ask → IsFit (entry_of s ask a).ask
entry_fit s ask answer.Stopped fit = tt
entry_fit s ask a fit = fit

one_more : (h : List Entry) (x : Entry) → AreFit h → IsFit x.ask → AreFit (h ++ x ∷ [])
one_more [] x fits fit = (fit, tt)
one_more (y ∷ h) x fits fit = (fits.0, one_more h x fits.1 fit)

-- with an answer to a fit ask they stay so
pub is_engine : {K : Type 0} (as_keeper : K → Keeper) (old new : Parts K) (s : SessionId) (ask : Ask) (a : Answer) → IsFit ask → IsEngine as_keeper old → IsSound as_keeper new
    → AnswersAsk as_keeper (state_of as_keeper old) (state_of as_keeper new) s ask a → IsEngine as_keeper new
is_engine as_keeper old new s ask a fit was sound answers = record {
  sound = sound;
  fit = subst AreFit (sym answers.entry) (one_more old.history.items (entry_of s ask a) was.fit (entry_fit s ask a fit));
}
