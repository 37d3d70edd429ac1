-- What sessions see of a history with one entry more.
use Rattle.std.proofs.Common.{ℕ, ◌≡◌, Bool, true, false, ◌||◌, List, [], ◌∷◌, ◌++◌, refl, sym, ◌∙◌, ap, append-nil, if◌then◌else◌}
use Rattle.std.specs.Prelude.{◌==◌, map, filter}
use Rattle.std.specs.Cmp.{unsigned_Decides}
use Rattle.std.specs.List.{list_any}
use Rattle.std.proofs.lemmas.List.{map-append}
use Rattle.std.proofs.lemmas.List.Elements.{filter-append}
use Rattle.ebr_base.specs.declared.numbers.SessionId.{SessionId}
use Rattle.ebr_asks.specs.declared.entry.Entry.{Entry}
use Rattle.ebr_asks.specs.declared.entry.Exchange.{Exchange}
use Rattle.ebr_asks.specs.declared.ask.Ask.{Ask}
use Rattle.ebr_asks.specs.declared.ask.Ask.TheVariants as ask
use Rattle.ebr_asks.specs.declared.answer.Answer.{Answer}
use Rattle.ebr_asks.specs.declared.answer.Answer.TheVariants as answer
use Rattle.ebr_session.specs.Has as session
use Rattle.ebr_session.specs.Transcripts.{ends}
use Rattle.ebr_core.specs.History as core
use Rattle.ebr_core.specs.History.{Mine, exchange, is_of}
use Rattle.ebr_worker.specs.Matches.{Matches, ask_recorded, as_recorded}
use Rattle.ebr_worker.specs.Paced.{has_ended, is_over}

same_number : (m n : ℕ) → m ≡ n → (m == n) ≡ true
same_number m n same = (unsigned_Decides m n).1 same

not_true : (b : Bool) → (b ≡ true → ⊥) → b ≡ false
not_true true never = absurd (never refl)
not_true false never = refl

other_number : (m n : ℕ) → (m ≡ n → ⊥) → (m == n) ≡ false
other_number m n other = not_true (m == n) (λ is. other ((unsigned_Decides m n).0 is))

only : (s : SessionId) (x : Entry) (q : Bool) → is_of s x ≡ q → filter (is_of s) (x ∷ []) ≡ (if q then x ∷ [] else [])
only s x q is = ap (λ b. if b then x ∷ [] else []) is

-- the session itself sees the entry
pub mine_more : (h : List Entry) (x : Entry) (s : SessionId) → x.session ≡ s → Mine (h ++ x ∷ []) s ≡ Mine h s ++ exchange x ∷ []
mine_more h x s of =
    ap (map exchange) (filter-append (is_of s) h (x ∷ []) ∙ ap (λ xs. filter (is_of s) h ++ xs) (only s x true (same_number x.session.0 s.0 (ap (λ (r : SessionId). r.0) of))))
    ∙ map-append exchange (filter (is_of s) h) (x ∷ [])

-- another one doesn't
pub mine_other : (h : List Entry) (x : Entry) (s r : SessionId) → x.session ≡ s → (r.0 ≡ s.0 → ⊥) → Mine (h ++ x ∷ []) r ≡ Mine h r
mine_other h x s r of other =
    ap (map exchange) (filter-append (is_of r) h (x ∷ [])
    ∙ ap (λ xs. filter (is_of r) h ++ xs) (only r x false (other_number x.session.0 r.0 (λ same. other (sym same ∙ ap (λ (t : SessionId). t.0) of))))
    ∙ append-nil (filter (is_of r) h))

pub any_more : (p : Exchange → Bool) (xs : List Exchange) (x : Exchange) → list_any p xs ≡ false → list_any p (xs ++ x ∷ []) ≡ p x
any_more p [] x none = or_false (p x)
  where
    or_false : (b : Bool) → b || false ≡ b
    or_false true = refl
    or_false false = refl
any_more p (y ∷ xs) x none =
    ap (λ b. b || list_any p (xs ++ x ∷ [])) (first (p y) (list_any p xs) none) ∙ any_more p xs x (second (p y) (list_any p xs) none)
  where
    first : (b c : Bool) → b || c ≡ false → b ≡ false
    first true c is = cc
    first false c is = refl

    second : (b c : Bool) → b || c ≡ false → c ≡ false
    second true c is = cc
    second false c is = is

pub any_on : (p : Exchange → Bool) (xs ys : List Exchange) → list_any p xs ≡ true → list_any p (xs ++ ys) ≡ true
any_on p [] ys some = cc
any_on p (x ∷ xs) ys some = by (p x) (list_any p xs) (list_any p (xs ++ ys)) some (any_on p xs ys)
  where
    by : (a b c : Bool) → a || b ≡ true → (b ≡ true → c ≡ true) → a || c ≡ true
    by true b c some rest = refl
    by false b c some rest = rest some

pub any_last : (p : Exchange → Bool) (xs : List Exchange) (x : Exchange) → p x ≡ true → list_any p (xs ++ x ∷ []) ≡ true
any_last p [] x is = ap (λ b. b || false) is
any_last p (y ∷ xs) x is = by (p y) (list_any p (xs ++ x ∷ [])) (any_last p xs x is)
  where
    by : (a b : Bool) → b ≡ true → a || b ≡ true
    by true b is = refl
    by false b is = is

-- ---- what is kept of exchanges

-- what ends a session does so where Leave stands for an ask that was answered Stopped
ends_kept : (x : Exchange) → ends (as_recorded x).ask (as_recorded x).answer ≡ ends x.ask x.answer
ends_kept x = by x.ask x.answer
  where
    stopped : (q : Ask) → ends q answer.Stopped ≡ true
    stopped ask.Leave = refl
    stopped q = refl

    by : (q : Ask) (a : Answer) → ends (ask_recorded q a) a ≡ ends q a
    by q answer.Stopped = sym (stopped q)
    by q a = refl

has_ended_kept : (mine : List Exchange) → has_ended (map as_recorded mine) ≡ has_ended mine
has_ended_kept [] = refl
has_ended_kept (x ∷ mine) = ap (λ b. b || has_ended (map as_recorded mine)) (ends_kept x) ∙ ap (λ b. ends x.ask x.answer || b) (has_ended_kept mine)

wants_same : (a : Answer) → core.wants a ≡ session.wants a
wants_same answer.NoMemory = refl
wants_same a = refl

short_kept : (mine : List Exchange) → list_any (λ (x : Exchange). core.wants x.answer) (map as_recorded mine) ≡ session.is_short mine
short_kept [] = refl
short_kept (x ∷ mine) =
    ap (λ b. b || list_any (λ (y : Exchange). core.wants y.answer) (map as_recorded mine)) (wants_same x.answer) ∙ ap (λ b. session.wants x.answer || b) (short_kept mine)

pub kept_short : (mine : List Exchange) → session.is_short (map as_recorded mine) ≡ session.is_short mine
kept_short [] = refl
kept_short (x ∷ mine) = ap (λ b. session.wants x.answer || b) (kept_short mine)

-- whether a session has ended, and whether it was answered that there is no memory, by its own exchanges
module _ (h : List Entry) (s : SessionId) (transcript : List Exchange) (matches : Matches transcript h s) where
  pub over_is : is_over h s ≡ has_ended transcript
  over_is = ap has_ended matches ∙ has_ended_kept transcript

  pub short_is : core.is_short h s ≡ session.is_short transcript
  short_is = ap (λ mine. list_any (λ (x : Exchange). core.wants x.answer) mine) matches ∙ short_kept transcript

-- whether a session that ran has ended with its next entry
pub over_more : (h : List Entry) (x : Entry) (s : SessionId) → x.session ≡ s → is_over h s ≡ false → is_over (h ++ x ∷ []) s ≡ ends x.ask x.answer
over_more h x s of runs = ap has_ended (mine_more h x s of) ∙ any_more (λ (y : Exchange). ends y.ask y.answer) (Mine h s) (exchange x) runs
