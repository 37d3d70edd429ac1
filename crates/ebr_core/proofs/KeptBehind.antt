-- What is kept of a history with one more entry: each ask's records come behind those that the keeper grew by.
use Rattle.std.proofs.Common.{◌≡◌, ℕ, zero, suc, inl, inr, ⊎_elim, Bool, true, false, ◌||◌, ◌&&◌, List, [], ◌∷◌, ◌++◌, length, refl, sym, ap, subst, ◌∙◌, append-nil, append_assoc, arith}
use Rattle.std.specs.Prelude.{not, IsTrue, Option, Some, None}
use Rattle.std.proofs.lemmas.List.Sums.{sum_by-append}
use Rattle.ebr_base.specs.declared.numbers.SessionId.{SessionId}
use Rattle.ebr_ast.specs.declared.view.EditionView.{EditionView}
use Rattle.ebr_asks.specs.declared.ask.Ask.{Ask}
use Rattle.ebr_asks.specs.declared.ask.Ask.TheVariants.{Leave}
use Rattle.ebr_asks.specs.declared.answer.Answer.{Answer}
use Rattle.ebr_asks.specs.declared.answer.Answer.TheVariants as answer
use Rattle.ebr_asks.specs.declared.entry.Entry.{Entry}
use Rattle.ebr_record.specs.declared.record.Record.{Record}
use Rattle.ebr_record.specs.Keeper.{Keeper, share}
use Rattle.ebr_database.specs.declared.failure.Halt.{Halt}
use Rattle.ebr_database.specs.declared.failure.Halt.TheVariants as why
use Rattle.ebr_database.specs.Database.{Database, Replied, Session, session_at}
use Rattle.ebr_database.specs.Shows.{Between, GaveUp, Grew, Holds, with_records}
use Rattle.ebr_database.proofs.Keeping.{grew_gave_up, grew_grew, grew_same}
use Rattle.ebr_base.specs.declared.numbers.EditionNo.{EditionNo}
use Rattle.ebr_base.specs.declared.code.Code.{Code}
use Rattle.ebr_seats.specs.Tests.{first_tests}
use Rattle.ebr_core.specs.Machine.{Build, Reply, reply_in, reply_to, reply_while, unless_refused}
use Rattle.ebr_core.specs.History.{Acknowledged, After, Records, acknowledged_by, is_idle, is_light, made_by, next, wants}
use Rattle.ebr_core.specs.Engine.{AnswersAsk, EngineState, Gives, Replies, database_of, entry_of, first_of, gives_up, has_given_up, is_last, with_book}
use Rattle.ebr_core.specs.Kept.{KeepsFirst, KeepsOn, Kept, KeptBy, KeptUntil, StopsWithin, cause_by, cause_of, given_up_by, or_else}
use Rattle.ebr_core.proofs.Books.{length_set}

-- ---- one more entry

pub Records-append : (db : Database) (h : List Entry) (x : Entry) → Records db (h ++ x ∷ []) ≡ Records db h ++ made_by (is_idle x) (Reply (After db h) x.session x.ask).records
Records-append db [] x = append-nil (made_by (is_idle x) (Reply db x.session x.ask).records)
Records-append db (y ∷ h) x =
    ap (λ l. made_by (is_idle y) (Reply db y.session y.ask).records ++ l) (Records-append (next db y) h x)
    ∙ sym (append_assoc (made_by (is_idle y) (Reply db y.session y.ask).records) (Records (next db y) h) (made_by (is_idle x) (Reply (After (next db y) h) x.session x.ask).records))

pub Acknowledged-append : (db : Database) (h : List Entry) (x : Entry) → Acknowledged db (h ++ x ∷ []) ≡ Acknowledged db h ++ acknowledged_by x.answer (Reply (After db h) x.session x.ask).records
Acknowledged-append db [] x = append-nil (acknowledged_by x.answer (Reply db x.session x.ask).records)
Acknowledged-append db (y ∷ h) x =
    ap (λ l. acknowledged_by y.answer (Reply db y.session y.ask).records ++ l) (Acknowledged-append (next db y) h x)
    ∙ sym (append_assoc (acknowledged_by y.answer (Reply db y.session y.ask).records) (Acknowledged (next db y) h) (acknowledged_by x.answer (Reply (After (next db y) h) x.session x.ask).records))

parts_false : (b c : Bool) → (b || c) ≡ false → (b ≡ false) × (c ≡ false)
parts_false true c is = absurd cc
parts_false false c is = (refl, is)

all_of : (a : Answer) (light : Bool) (made : List Record) → (is_last a && not (wants a && light)) ≡ false → acknowledged_by a made ≡ made_by (wants a && light) made
all_of answer.DiskFault light made goes = cc
all_of answer.NoMemory true made goes = refl
all_of answer.NoMemory false made goes = cc
all_of a light made goes = refl

-- as long as the engine hasn't given up, all records were acknowledged
pub all_acknowledged : (db : Database) (h : List Entry) → has_given_up h ≡ false → Acknowledged db h ≡ Records db h
all_acknowledged db [] goes = refl
all_acknowledged db (x ∷ h) goes =
    let s = parts_false (gives_up x) (has_given_up h) goes in
    ap (λ l. l ++ Acknowledged (next db x) h) (all_of x.answer (is_light x.ask) (Reply db x.session x.ask).records s.0)
    ∙ ap (λ l. made_by (is_idle x) (Reply db x.session x.ask).records ++ l) (all_acknowledged (next db x) h s.1)

-- ---- Leave makes no record

by_tests : (db : Database) (s : SessionId) (e : EditionNo) (x : Session) (o : Option Code) → (unless_refused o db (reply_in e db s x Leave)).records ≡ []
by_tests db s e x None = refl
by_tests db s e x (Some code) = refl

leaves_none : (db : Database) (s : SessionId) → (Reply db s Leave).records ≡ []
leaves_none db s = by (session_at db.sessions s.0)
  where
    in_edition : (x : Session) (e : Option EditionNo) → (reply_while e db s x Leave).records ≡ []
    in_edition x None = refl
    in_edition x (Some e) = by_tests db s e x (first_tests db s x Leave)

    by : (o : Option Session) → (reply_to o db s Leave).records ≡ []
    by None = refl
    by (Some x) = in_edition x x.edition

-- ---- why it has given up

or_else_none : (o : Option Halt) → or_else o None ≡ o
or_else_none None = refl
or_else_none (Some cause) = refl

or_else_assoc : (a b c : Option Halt) → or_else a (or_else b c) ≡ or_else (or_else a b) c
or_else_assoc None b c = refl
or_else_assoc (Some cause) b c = refl

pub given_up_by-append : (h : List Entry) (x : Entry) → given_up_by (h ++ x ∷ []) ≡ or_else (given_up_by h) (cause_of x)
given_up_by-append [] x = or_else_none (cause_of x)
given_up_by-append (y ∷ h) x = ap (or_else (cause_of y)) (given_up_by-append h x) ∙ or_else_assoc (cause_of y) (given_up_by h) (cause_of x)

abbrev pub some_of : Option Halt → Bool
some_of None = false
some_of (Some cause) = true

last_is : (a : Answer) (light : Bool) → (is_last a && not (wants a && light)) ≡ some_of (cause_by (wants a && light) a)
last_is answer.DiskFault light = refl
last_is answer.NoMemory true = refl
last_is answer.NoMemory false = refl
last_is a light = refl

some_or : (a b : Option Halt) → (some_of a || some_of b) ≡ some_of (or_else a b)
some_or None b = refl
some_or (Some cause) b = refl

pub given_up_is : (h : List Entry) → has_given_up h ≡ some_of (given_up_by h)
given_up_is [] = refl
given_up_is (x ∷ h) =
    ap (λ b. b || has_given_up h) (last_is x.answer (is_light x.ask)) ∙ ap (λ b. some_of (cause_of x) || b) (given_up_is h) ∙ some_or (cause_of x) (given_up_by h)

-- ---- giving up behind what was kept

with_both : (kept : Option (List Record)) (m n : List Record) → with_records (with_records kept m) n ≡ with_records kept (m ++ n)
with_both None m n = refl
with_both (Some l) m n = ap Some (append_assoc l m n)

-- what was kept then is what was kept before and in the call
gave_up_behind : (a b c : Keeper) (m n : List Record) (cause : Halt) → Grew a b m → (h : GaveUp b c n cause) → (w : GaveUp a c (m ++ n) cause) × (w.kept ≡ m ++ h.kept)
gave_up_behind a b c m n cause g h =
    let whole : GaveUp a c (m ++ n) cause = grew_gave_up a b c m n cause g h in (
      record {
        kept = m ++ h.kept;
        left = h.left;
        made_is = ap (λ x. m ++ x) h.made_is ∙ sym (append_assoc m h.kept h.left);
        records = h.records ∙ ap (λ k. with_records k h.kept) g.records ∙ with_both a.records m h.kept;
        used = omega (arith, g.used, h.used, sum_by-append share m h.kept);
        faults = whole.faults;
        moment = whole.moment;
        tells = whole.tells;
        holds = whole.holds;
        now = λ told just. h.now (subst IsTrue (sym g.tells) told) (g.rest just);
        cause = whole.cause;
      },
      refl,
    )

-- ---- one ask

module _ (db : Database) (h : List Entry) (s : SessionId) (ask : Ask) (first k l : Keeper) where
  abbrev r : Replied
  r = Reply (After db h) s ask

  abbrev more : Answer → List Entry
  more a = h ++ entry_of s ask a ∷ []

  -- the records with one that isn't idle, ..
  more_records : (a : Answer) → entry_of s ask a ≡ record { session = s; ask = ask; answer = a } → (wants a && is_light ask) ≡ false → Records db (more a) ≡ Records db h ++ r.records
  more_records a same made =
      Records-append db h (entry_of s ask a)
      ∙ ap (λ (x : Entry). Records db h ++ made_by (is_idle x) (Reply (After db h) x.session x.ask).records) same
      ∙ ap (λ b. Records db h ++ made_by b r.records) made

  -- .. and with one that is
  no_records : is_light ask ≡ true → Records db (more answer.NoMemory) ≡ Records db h ++ []
  no_records light = Records-append db h (entry_of s ask answer.NoMemory) ∙ ap (λ b. Records db h ++ made_by b r.records) light

  goes_on : (a : Answer) → entry_of s ask a ≡ record { session = s; ask = ask; answer = a } → (wants a && is_light ask) ≡ false → Grew first k (Records db h) → Grew k l r.records → Grew first l (Records db (more a))
  goes_on a same made g n = subst (Grew first l) (sym (more_records a same made)) (grew_grew first k l (Records db h) r.records g n)

  gave_up : (a : Answer) (cause : Halt) → is_last a ≡ true → entry_of s ask a ≡ record { session = s; ask = ask; answer = a } → (wants a && is_light ask) ≡ false → has_given_up h ≡ false → Grew first k (Records db h) → GaveUp k l r.records cause
      → KeptUntil first l (Records db (more a)) (Acknowledged db (more a)) cause
  gave_up a cause last same made runs g n =
      let records : Records db (more a) ≡ Records db h ++ r.records = more_records a same made in
      let none : Acknowledged db (more a) ≡ Records db h =
      Acknowledged-append db h (entry_of s ask a) ∙ ap (λ (x : Entry). Acknowledged db h ++ acknowledged_by x.answer (Reply (After db h) x.session x.ask).records) same
      ∙ ap (λ l. Acknowledged db h ++ l) (nothing a r.records last) ∙ append-nil (Acknowledged db h) ∙ all_acknowledged db h runs in
      let behind = gave_up_behind first k l (Records db h) r.records cause g n in
      subst (λ made. KeptUntil first l made (Acknowledged db (more a)) cause) (sym records) (record { gave_up = behind.0; told = record { more = n.kept; is = behind.1 ∙ ap (λ t. t ++ n.kept) (sym none) } })
    where
      nothing : (a : Answer) (made : List Record) → is_last a ≡ true → acknowledged_by a made ≡ []
      nothing answer.DiskFault made last = refl
      nothing answer.NoMemory made last = refl
      nothing a made last = cc

  without_memory : (light : Bool) → is_light ask ≡ light → has_given_up h ≡ false → Grew first k (Records db h) → Replies light answer.NoMemory r k l → KeptBy (cause_by light answer.NoMemory) first l db (more answer.NoMemory)
  without_memory true is runs g n = subst (Grew first l) (sym (no_records is)) (grew_grew first k l (Records db h) [] g n)
  without_memory false is runs g n = gave_up answer.NoMemory why.NoMemory refl refl is runs g n

  by_answer : (a : Answer) → has_given_up h ≡ false → Grew first k (Records db h) → Replies (wants a && is_light ask) a r k l → KeptBy (cause_by (wants a && is_light ask) a) first l db (more a)
  by_answer answer.DiskFault runs g n = gave_up answer.DiskFault why.DiskFault refl refl refl runs g n
  by_answer answer.NoMemory runs g n = without_memory (is_light ask) refl runs g n
  by_answer answer.Stopped runs g n = absurd n
  by_answer a runs g n = goes_on a refl refl g n.1

  -- behind that nothing is kept
  stands : (cause : Halt) → KeptUntil first k (Records db h) (Acknowledged db h) cause → KeptUntil first k (Records db (more answer.Stopped)) (Acknowledged db (more answer.Stopped)) cause
  stands cause g =
      let none = leaves_none (After db h) s in
      let records : Records db (more answer.Stopped) ≡ Records db h = Records-append db h (entry_of s ask answer.Stopped) ∙ ap (λ l. Records db h ++ l) none ∙ append-nil (Records db h) in
      let acknowledged : Acknowledged db (more answer.Stopped) ≡ Acknowledged db h = Acknowledged-append db h (entry_of s ask answer.Stopped) ∙ ap (λ l. Acknowledged db h ++ l) none ∙ append-nil (Acknowledged db h) in
      subst (λ (p : List Record × List Record). KeptUntil first k p.0 p.1 cause) (λ i. (sym records i, sym acknowledged i)) g

module _ {K : Type 0} (as_keeper : K → Keeper) (first : Keeper) where
  kept_by : (db : Database) (h : List Entry) (s : SessionId) (ask : Ask) (a : Answer) (k l : K) (o : Option Halt) → has_given_up h ≡ some_of o → KeptBy o first (as_keeper k) db h
      → Gives as_keeper (some_of o) k l ask a (Reply (After db h) s ask) → KeptBy (or_else o (cause_by (wants a && is_light ask) a)) first (as_keeper l) db (h ++ entry_of s ask a ∷ [])
  kept_by db h s ask a k l None runs kept gives = by_answer db h s ask first (as_keeper k) (as_keeper l) a runs kept gives
  kept_by db h s ask a k l (Some cause) given kept gives =
      subst (λ (b : Answer). KeptUntil first (as_keeper l) (Records db (h ++ entry_of s ask b ∷ [])) (Acknowledged db (h ++ entry_of s ask b ∷ [])) cause) (sym gives.0)
      (subst (λ (m : K). KeptUntil first (as_keeper m) (Records db (h ++ entry_of s ask answer.Stopped ∷ [])) (Acknowledged db (h ++ entry_of s ask answer.Stopped ∷ [])) cause) (sym gives.1)
      (stands db h s ask first (as_keeper k) (as_keeper k) cause kept))

  -- one more ask
  pub kept_more : (db : Database) (h : List Entry) (s : SessionId) (ask : Ask) (a : Answer) (k l : K) → Kept first (as_keeper k) db h → Gives as_keeper (has_given_up h) k l ask a (Reply (After db h) s ask)
      → Kept first (as_keeper l) db (h ++ entry_of s ask a ∷ [])
  kept_more db h s ask a k l kept gives =
      subst (λ o. KeptBy o first (as_keeper l) db (h ++ entry_of s ask a ∷ [])) (sym (given_up_by-append h (entry_of s ask a) ∙ ap (λ c. or_else (given_up_by h) c) (cause_is a)))
      (kept_by db h s ask a k l (given_up_by h) (given_up_is h) kept (subst (λ b. Gives as_keeper b k l ask a (Reply (After db h) s ask)) (given_up_is h) gives))
    where
      cause_is : (a : Answer) → cause_of (entry_of s ask a) ≡ cause_by (wants a && is_light ask) a
      cause_is answer.Stopped = refl
      cause_is a = refl

  -- so it is of the engine's answer
  pub kept_on : (e f : EngineState K) (s : SessionId) (ask : Ask) (a : Answer) → length e.books ≡ length f.books → Kept first (as_keeper e.keeper) (first_of e) e.history → AnswersAsk as_keeper e f s ask a
      → Kept first (as_keeper f.keeper) (first_of f) f.history
  kept_on e f s ask a books kept did =
      subst (λ d. Kept first (as_keeper f.keeper) d f.history) (λ i. Build (sym did.recovered i) (books i))
      (subst (λ (es : List Entry). Kept first (as_keeper f.keeper) (first_of e) es) (sym did.entry)
      (kept_more (first_of e) e.history s ask a e.keeper f.keeper kept did.gives))

  -- the beginning
  pub kept_first : (db : Database) (k : K) → first ≡ as_keeper k → Kept first (as_keeper k) db []
  kept_first db k is = subst (λ (f : Keeper). Grew f (as_keeper k) []) (sym is) (grew_same (as_keeper k))

-- an ask leaves as many places for books
as_many : (books : List (Option EditionView)) (n : ℕ) (book : Option EditionView) → length (with_book books n book) ≡ length books
as_many books zero book = refl
as_many books (suc n) book = length_set books n book

pub keeps_on : {K : Type 0} (as_keeper : K → Keeper) → KeepsOn as_keeper
keeps_on as_keeper first e f s ask a kept did =
    kept_on as_keeper (as_keeper first) e f s ask a (sym (ap (λ (bs : List (Option EditionView)). length bs) did.books ∙ as_many e.books s.0 did.book)) kept did

pub keeps_first : {K : Type 0} (as_keeper : K → Keeper) → KeepsFirst as_keeper
keeps_first as_keeper k db = grew_same (as_keeper k)

-- ---- what a stop leaves

wider : (kept : Option (List Record)) (made l : List Record) → Between kept [] l → Between kept made l
wider None made l b = tt
wider (Some records) made l b = (b.0, b.1 ++ made, b.2, ap (λ x. x ++ made) b.3 ∙ append_assoc b.0 b.1 made)

-- where nothing is kept, whatever an ask makes
holds_wider : (old new : Keeper) (made : List Record) → Holds old new [] → Holds old new made
holds_wider old new made h t l before x = ⊎_elim (λ y. inl y) (λ y. inr (wider old.records made l y)) (h t l before x)

pub stops_within : {K : Type 0} (as_keeper : K → Keeper) (e f : EngineState K) (s : SessionId) (ask : Ask) (a : Answer) → AnswersAsk as_keeper e f s ask a → StopsWithin (as_keeper e.keeper) (as_keeper f.keeper) (Reply (database_of e) s ask).records
stops_within as_keeper e f s ask a did = by (has_given_up e.history) a did.gives
  where
    without_memory : (light : Bool) → Replies light answer.NoMemory (Reply (database_of e) s ask) (as_keeper e.keeper) (as_keeper f.keeper) → StopsWithin (as_keeper e.keeper) (as_keeper f.keeper) (Reply (database_of e) s ask).records
    without_memory true g = λ told. holds_wider (as_keeper e.keeper) (as_keeper f.keeper) (Reply (database_of e) s ask).records (g.holds told)
    without_memory false g = g.holds

    by : (b : Bool) (a : Answer) → Gives as_keeper b e.keeper f.keeper ask a (Reply (database_of e) s ask) → StopsWithin (as_keeper e.keeper) (as_keeper f.keeper) (Reply (database_of e) s ask).records
    by false answer.DiskFault g = g.holds
    by false answer.NoMemory g = without_memory (is_light ask) g
    by false answer.Stopped g = absurd g
    by false a g = g.1.holds
    by true a g = subst (λ k. StopsWithin (as_keeper e.keeper) (as_keeper k) (Reply (database_of e) s ask).records) (sym g.1) (λ told t l before x. inl x)
