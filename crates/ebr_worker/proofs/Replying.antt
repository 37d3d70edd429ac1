-- What an answered ask leaves of the engine.
use Rattle.std.proofs.Common.{ℕ, zero, suc, ◌≡◌, ◌<◌, ◌≤◌, Bool, true, false, List, [], ◌∷◌, length, Option, Some, None, arith, refl, sym, ◌∙◌, ap, subst}
use Rattle.std.specs.Prelude.{slice_get, slice_set}
use Rattle.ebr_base.specs.declared.numbers.SessionId.{SessionId}
use Rattle.ebr_ast.specs.declared.view.EditionView.{EditionView}
use Rattle.ebr_asks.specs.declared.ask.Ask.{Ask}
use Rattle.ebr_asks.specs.declared.ask.Ask.TheVariants as ask
use Rattle.ebr_asks.specs.declared.answer.Answer.{Answer}
use Rattle.ebr_asks.specs.declared.answer.Answer.TheVariants as answer
use Rattle.ebr_record.specs.Keeper.{Keeper}
use Rattle.ebr_database.specs.Database.{Replied}
use Rattle.ebr_units.specs.Served.{served}
use Rattle.ebr_session.specs.Has as session
use Rattle.ebr_session.specs.Has.{Suits}
use Rattle.ebr_core.specs.Asked as core
use Rattle.ebr_core.specs.Machine.{Build, Reply}
use Rattle.ebr_core.specs.History.{After, IsLive, Legal}
use Rattle.ebr_core.specs.Engine.{AnswersAsk, EngineState, Gives, HasBook, book_at, database_of, entry_of, has_given_up, with_book}
use Rattle.ebr_worker.specs.Ends.{AnswersLeave}
use Rattle.ebr_worker.specs.Paced.{IsSession}
use Rattle.ebr_worker.specs.Replies.{Replies}

-- what a session asks is fit for the engine
pub fit_ask : (q : Ask) → session.IsFit q → core.IsFit q
fit_ask (ask.Ddl what text) fit = record { spelled = fit.spelled; small = fit.small }
fit_ask q fit = tt

entry_of_session : (s : SessionId) (q : Ask) (x : Answer) → (entry_of s q x).session ≡ s
entry_of_session s q answer.Stopped = refl
entry_of_session s q x = refl

-- ---- the keeper

module _ {K : Type 0} (as_keeper : K → Keeper) where
  pub stopped_by : (b : Bool) (old new : K) (q : Ask) (x : Answer) (r : Replied) → Gives as_keeper b old new q x r → x ≡ answer.Stopped → b ≡ true
  stopped_by false old new q x r gives is = absurd (subst (λ a. Gives as_keeper false old new q a r) is gives)
  stopped_by true old new q x r gives is = refl

  leaves_by : (b : Bool) (old new : K) (q : Ask) (x : Answer) (r : Replied) → Gives as_keeper b old new q x r → (b ≡ false → x ≡ answer.Done) → AnswersLeave x
  leaves_by false old new q x r gives done = subst AnswersLeave (sym (done refl)) tt
  leaves_by true old new q x r gives done = subst AnswersLeave (sym gives.0) tt

-- ---- its book

set_length : {X : Type 0} (xs : List X) (n : ℕ) (y : X) → length (slice_set xs n y) ≡ length xs
set_length [] n y = refl
set_length (z ∷ xs) zero y = refl
set_length (z ∷ xs) (suc n) y = ap suc (set_length xs n y)

set_here : {X : Type 0} (xs : List X) (n : ℕ) (y : X) → n < length xs → slice_get (slice_set xs n y) n ≡ Some y
set_here [] n y within = absurd (omega (arith, within))
set_here (z ∷ xs) zero y within = refl
set_here (z ∷ xs) (suc n) y within = set_here xs n y (omega (arith, within))

books_length : (books : List (Option EditionView)) (n : ℕ) (book : Option EditionView) → length (with_book books n book) ≡ length books
books_length books zero book = refl
books_length books (suc n) book = set_length books n book

book_taken : (books : List (Option EditionView)) (n : ℕ) (book : Option EditionView) → 1 ≤ n → n ≤ length books → book_at (with_book books n book) n ≡ book
book_taken books zero book first last = absurd (omega (arith, first))
book_taken books (suc n) book first last = ap taken (set_here books n book (omega (arith, last)))
  where
    taken : Option (Option EditionView) → Option EditionView
    taken None = None
    taken (Some b) = b

suits : (x : Answer) (book : Option EditionView) → HasBook x book → Suits (λ v e. served v) x book
suits (answer.View v) book has = subst (λ b. Suits (λ v e. served v) (answer.View v) b) (sym has.0) (has.1, has.2)
suits x book has = tt

-- ---- the whole

module _ {K : Type 0} (as_keeper : K → Keeper) (old mid : EngineState K) (s : SessionId) (q : Ask) (x : Answer) (seat : IsSession (length old.books) s) (did : AnswersAsk as_keeper old mid s q x) where
  book_is : book_at mid.books s.0 ≡ did.book
  book_is = ap (λ books. book_at books s.0) did.books ∙ book_taken old.books s.0 did.book seat.first seat.last

  -- the database stays where a book is taken
  taken : database_of (record mid { books = with_book mid.books s.0 None }) ≡ database_of mid
  taken = ap (λ n. After (Build mid.recovered n) mid.history) (books_length mid.books s.0 None)

  replies_taken : Replies as_keeper old (record mid { books = with_book mid.books s.0 None }) s q x (book_at mid.books s.0)
  replies_taken = record {
    adds = record {
      ask = q;
      answer = x;
      entry = refl;
      of = entry_of_session s q x;
      is = did.entry;
      recovered = did.recovered;
      books = books_length mid.books s.0 None ∙ ap length did.books ∙ books_length old.books s.0 did.book;
      others = λ r differ is. subst (λ db. IsLive db r) (sym taken) (did.others r differ is);
      gives = did.gives;
    };
    legal = subst (λ n. Legal (Build mid.recovered n) mid.history) (sym (books_length mid.books s.0 None)) did.legal;
    suits = suits x _ (subst (HasBook x) (sym book_is) did.has_book);
    leaves = λ is. leaves_by as_keeper (has_given_up old.history) old.keeper mid.keeper q x (Reply (database_of old) s q) did.gives (did.leaves is);
    stays = λ going staying. subst (λ db. IsLive db s) (sym taken) (did.stays going staying);
  }

  pub replies : (new : EngineState K) (book : Option EditionView) → new ≡ record mid { books = with_book mid.books s.0 None } → book ≡ book_at mid.books s.0 → Replies as_keeper old new s q x book
  replies new book is book_told = subst (λ n. Replies as_keeper old n s q x book) (sym is) (subst (Replies as_keeper old (record mid { books = with_book mid.books s.0 None }) s q x) (sym book_told) replies_taken)
