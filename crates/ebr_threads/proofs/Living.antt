-- An engine of a run, and who lives by its own exchanges.
use Rattle.std.proofs.Common.{◌≡◌, ℕ, ◌+◌, ◌-◌, ◌^◌, ◌<◌, Bool, true, false, ◌||◌, List, [], ◌∷◌, ◌++◌, length, refl, sym, ap, subst, ◌∙◌, arith}
use Rattle.std.specs.Prelude.{◌==◌, Option, Some, filter, map}
use Rattle.std.specs.List.{list_any}
use Rattle.std.proofs.lemmas.List.{map-append, length-append}
use mathlib.Core.Bool.{cond}
use mathlib.Core.Logic.{dite}
use native.Mathlib.Decide.{ℕ_discrete}
use Rattle.ebr_base.specs.declared.numbers.SessionId.{SessionId}
use Rattle.ebr_ast.specs.declared.view.EditionView.{EditionView}
use Rattle.ebr_asks.specs.declared.ask.Ask.{Ask}
use Rattle.ebr_asks.specs.declared.ask.Ask.TheVariants as ask
use Rattle.ebr_asks.specs.declared.answer.Answer.{Answer}
use Rattle.ebr_asks.specs.declared.answer.Answer.TheVariants as answer
use Rattle.ebr_asks.specs.declared.entry.Entry.{Entry}
use Rattle.ebr_asks.specs.declared.entry.Exchange.{Exchange}
use Rattle.ebr_record.specs.declared.record.Record.{Record}
use Rattle.ebr_record.specs.Keeper.{Keeper}
use Rattle.ebr_core.specs.Engine.{EngineState, database_of, entry_of, first_of}
use Rattle.ebr_core.specs.History.{IsLive, Legal, Mine, is_of}
use Rattle.ebr_core.specs.History as history
use Rattle.ebr_session.specs.Has.{is_short}
use Rattle.ebr_session.specs.Transcripts.{ends, exchange}
use Rattle.ebr_worker.specs.declared.limits.TheConstants.{MAX_ASKS}
use Rattle.ebr_worker.specs.Matches.{as_recorded}
use Rattle.ebr_worker.specs.Paced.{IsSession, has_ended, is_over}
use Rattle.ebr_worker.specs.Replies.{Replies}
use Rattle.ebr_worker.specs.Work.{Adds, MayAsk}
use Rattle.ebr_worker.proofs.First.{first_live}
use Rattle.ebr_worker.proofs.Histories.{any_more, mine_more, mine_other, over_is, short_is}
use Rattle.ebr_worker.proofs.Keeping.{kept_adds, kept_none}
use Rattle.ebr_worker.proofs.OverEngine.{entry_kept}
use Rattle.ebr_worker.proofs.Turns.{is_true, stopped_ends}
use Rattle.ebr_turn.specs.declared.view.View.{View}
use Rattle.ebr_turn.specs.Chairs.{Closes, Leaves, Left, Met, add_if, done, entered, items}
use Rattle.ebr_threads.specs.Booking.{IsAtChair, IsOfRun, IsTold, asked, book, chair_of, pair_of, recorded}

-- ---- what a history stands for

add_mapped : (b : Bool) (x : Entry) (l : List Entry) (m : List Exchange) → m ≡ map history.exchange l → add_if b (history.exchange x) m ≡ map history.exchange (cond b (x ∷ l) l)
add_mapped true x l m e = ap (λ (z : List Exchange). history.exchange x ∷ z) e
add_mapped false x l m e = e

-- the items of a session are what it sees of the history
pub items_mine : (s : SessionId) (h : List Entry) → items s.0 (book h) ≡ Mine h s
items_mine s [] = refl
items_mine s (x ∷ h) = add_mapped (x.session.0 == s.0) x (filter (is_of s) h) (items s.0 (book h)) (items_mine s h)

-- ---- who lives

any_parts : (p : Exchange → Bool) (xs : List Exchange) (x : Exchange) → list_any p (xs ++ x ∷ []) ≡ false → (list_any p xs ≡ false) × (p x ≡ false)
any_parts p [] x none = (refl, last (p x) none)
  where
    last : (b : Bool) → (b || false) ≡ false → b ≡ false
    last true is = cc
    last false is = refl
any_parts p (y ∷ xs) x none = by (p y) none (any_parts p xs x)
  where
    by : (b : Bool) → (b || list_any p (xs ++ x ∷ [])) ≡ false → (list_any p (xs ++ x ∷ []) ≡ false → (list_any p xs ≡ false) × (p x ≡ false)) → ((b || list_any p xs) ≡ false) × (p x ≡ false)
    by true is rest = absurd cc
    by false is rest = rest is

-- an entry ends its session where its exchange does
ends_entry : (s : SessionId) (q : Ask) (a : Answer) → ends (entry_of s q a).ask (entry_of s q a).answer ≡ ends q a
ends_entry s q answer.Stopped = sym (stopped_ends q)
ends_entry s q a = refl

number_is : (r s : SessionId) → r.0 ≡ s.0 → r ≡ s
number_is r s same = λ i. record { 0 = same i }

module _ {K : Type 0} (as_keeper : K → Keeper) (recovered : List Record) (sessions : ℕ) (first : Keeper) (e f : EngineState K) (run : IsOfRun as_keeper recovered sessions first e) (s : SessionId) (q : Ask) (a : Answer) (book_is : Option EditionView) (did : Replies as_keeper e f s q a book_is) where
  lives_there : (r : SessionId) → (r.0 ≡ s.0 → ⊥) → IsSession sessions r → is_over f.history r ≡ false → IsLive (database_of f) r
  lives_there r other is over =
      let same : Mine f.history r ≡ Mine e.history r = ap (λ h. Mine h r) did.adds.is ∙ mine_other e.history (entry_of s q a) s r did.adds.of other in
      did.adds.others r other (run.lives r is (ap has_ended (sym same) ∙ over))

  lives_here : is_over f.history s ≡ false → IsLive (database_of f) s
  lives_here over =
      let more : Mine f.history s ≡ Mine e.history s ++ history.exchange (entry_of s q a) ∷ [] = ap (λ h. Mine h s) did.adds.is ∙ mine_more e.history (entry_of s q a) s did.adds.of in
      let parts = any_parts (λ (x : Exchange). ends x.ask x.answer) (Mine e.history s) (history.exchange (entry_of s q a)) (ap has_ended (sym more) ∙ over) in
      let going : ends q a ≡ false = sym (ends_entry s q a) ∙ parts.1 in
      did.stays (λ is. is_true (ends q a) going (ap (ends q) is ∙ stopped_ends q)) (λ is. is_true (ends q a) going (ap (λ p. ends p a) is))

  lives_on : (r : SessionId) → IsSession sessions r → is_over f.history r ≡ false → IsLive (database_of f) r
  lives_on r is over = dite (ℕ_discrete r.0 s.0)
      (λ same. subst (IsLive (database_of f)) (sym (number_is r s same)) (lives_here (subst (λ t. is_over f.history t ≡ false) (number_is r s same) over)))
      (λ other. lives_there r other is over)

  -- an engine of a run stays one with each ask
  pub of_run_on : IsOfRun as_keeper recovered sessions first f
  of_run_on = record {
    recovered_are = did.adds.recovered ∙ run.recovered_are;
    sessions_are = did.adds.books ∙ run.sessions_are;
    legal = did.legal;
    kept = kept_adds as_keeper first s (entry_of s q a) e f did.adds run.kept;
    lives = lives_on;
  }

-- at the beginning
pub of_run_first : {K : Type 0} (as_keeper : K → Keeper) (e : EngineState K) → e.history ≡ [] → IsOfRun as_keeper e.recovered (length e.books) (as_keeper e.keeper) e
of_run_first as_keeper e none = record {
  recovered_are = refl;
  sessions_are = refl;
  legal = subst (λ (h : List Entry). Legal (first_of e) h) (sym none) tt;
  kept = kept_none as_keeper e none;
  lives = λ s is over. first_live e s none is;
}

-- ---- at its turn

module _ (sessions : ℕ) (s : SessionId) (before : List Exchange) (v : View Exchange) (at : IsAtChair sessions s before v) where
  base_is : v.base ≡ []
  base_is = ap (λ (u : View Exchange). u.base) at.chair

  own_number : v.number ≡ Some s.0
  own_number = ap (λ (u : View Exchange). u.number) at.chair

  mine_is : v.mine ≡ map as_recorded before
  mine_is = ap (λ (u : View Exchange). u.mine) at.chair

module _ {K : Type 0} where
  abbrev stands : EngineState K → List (ℕ × Exchange)
  stands e = book e.history

  module _ (sessions : ℕ) (s : SessionId) (before : List Exchange) (v : View Exchange) (at : IsAtChair sessions s before v) where
    -- the exchanges are those of the history
    matches_at : (e : EngineState K) → Met stands v e → Mine e.history s ≡ map as_recorded before
    matches_at e met =
        let whole : stands e ≡ met.0 = met.1 ∙ ap (λ (l : List (ℕ × Exchange)). l ++ met.0) (base_is sessions s before v at) in
        sym (items_mine s e.history) ∙ ap (items s.0) whole ∙ met.2 s.0 (own_number sessions s before v at) ∙ mine_is sessions s before v at

    -- the session may ask
    pub may_at : (as_keeper : K → Keeper) (recovered : List Record) (first : Keeper) (e : EngineState K) → Met stands v e → IsOfRun as_keeper recovered sessions first e → MayAsk e s before
    may_at as_keeper recovered first e met run =
        let matches = matches_at e met in
        record {
          is_session = subst (λ n. IsSession n s) (sym run.sessions_are) at.is_session;
          matches = matches;
          live = run.lives s at.is_session (over_is e.history s before matches ∙ at.goes_on);
        }

    pub short_at : (e : EngineState K) (q : Ask) → Met stands v e → (is_short before ≡ true → q ≡ ask.Leave) → history.is_short e.history s ≡ true → q ≡ ask.Leave
    short_at e q met short is = short (sym (short_is e.history s before (matches_at e met)) ∙ is)

    entry_booked : (as_keeper : K → Keeper) (e f : EngineState K) (q : Ask) (a : Answer) → Adds as_keeper s (entry_of s q a) e f → stands f ≡ stands e ++ (s.0, recorded q a) ∷ []
    entry_booked as_keeper e f q a adds = ap book adds.is ∙ map-append pair_of e.history (entry_of s q a ∷ []) ∙ (λ i. stands e ++ ((adds.of i).0, entry_kept s q a i) ∷ [])

    -- the answer makes one entry, which the session leaves
    pub may_leave : (as_keeper : K → Keeper) (e f : EngineState K) (w : View Exchange) (q : Ask) (a : Answer) → w ≡ entered v (stands e) → Adds as_keeper s (entry_of s q a) e f → Leaves stands w f
    may_leave as_keeper e f w q a is adds =
        (s.0, recorded q a, stands e, ap (λ (u : View Exchange). u.stage) is, ap (λ (u : View Exchange). u.number) is ∙ own_number sessions s before v at, entry_booked as_keeper e f q a adds)

    pub has_asked : (as_keeper : K → Keeper) (e f : EngineState K) (w w' : View Exchange) (q : Ask) (a : Answer) → w ≡ entered v (stands e) → Adds as_keeper s (entry_of s q a) e f → Left stands w f w' → w' ≡ asked v q a
    has_asked as_keeper e f w w' q a is adds left =
        left s.0 (recorded q a) (stands e) (ap (λ (u : View Exchange). u.stage) is) (ap (λ (u : View Exchange). u.number) is ∙ own_number sessions s before v at) (entry_booked as_keeper e f q a adds)
        ∙ (ap (λ (u : View Exchange). done u (recorded q a)) is ∙ (λ i. record (asked v q a) { stage = ap (λ (u : View Exchange). u.stage) (sym at.chair) i }))

  -- what closing gives
  pub is_told : (base : List (ℕ × Exchange)) (f : EngineState K) (v : View Exchange) → base ≡ [] → Closes stands base v f → IsTold f.history v
  is_told base f v empty closed s = sym (items_mine s f.history) ∙ (ap (items s.0) (closed.1 ∙ ap (λ (l : List (ℕ × Exchange)). l ++ closed.0) empty) ∙ closed.2 s.0)

-- ---- the chair behind an answer

pub chair_more : (s : SessionId) (before : List Exchange) (v w : View Exchange) (q : Ask) (a : Answer) → length before < MAX_ASKS → v ≡ chair_of s before → w ≡ asked v q a → w ≡ chair_of s (before ++ exchange q a ∷ [])
chair_more s before v w q a few chair is = is ∙ ap (λ u. asked u q a) chair ∙ (λ i. record (chair_of s before) { mine = sym (map-append as_recorded before (exchange q a ∷ [])) i; left = left i })
  where
    left : 2 ^ 31 - length before - 1 ≡ 2 ^ 31 - length (before ++ exchange q a ∷ [])
    left = let len = length-append before (exchange q a ∷ []) in omega (arith, len, few)

pub may_again : (sessions : ℕ) (s : SessionId) (before : List Exchange) (v w : View Exchange) (q : Ask) (a : Answer) → length before < MAX_ASKS → IsAtChair sessions s before v → w ≡ asked v q a → ends q a ≡ false → IsAtChair sessions s (before ++ exchange q a ∷ []) w
may_again sessions s before v w q a few at is going = record {
  is_session = at.is_session;
  goes_on = any_more (λ (x : Exchange). ends x.ask x.answer) before (exchange q a) at.goes_on ∙ going;
  chair = chair_more s before v w q a few at.chair is;
}

-- it may enter once more
pub may_enter : (sessions : ℕ) (s : SessionId) (before : List Exchange) (v : View Exchange) → length before < MAX_ASKS → IsAtChair sessions s before v → 0 < v.left
may_enter sessions s before v few at = let left : v.left ≡ 2 ^ 31 - length before = ap (λ (u : View Exchange). u.left) at.chair in omega (arith, left, few)
