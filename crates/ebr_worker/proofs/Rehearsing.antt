-- What turns make of a rehearsal.
use Rattle.std.proofs.Common.{ℕ, suc, ◌≡◌, ◌+◌, ◌-◌, ◌<◌, ◌≤◌, Bool, true, false, List, [], ◌∷◌, ◌++◌, length, Option, Some, None, inl, inr, refl, sym, ◌∙◌, ap, subst, arith, rules, append-nil, append_assoc}
use Rattle.std.specs.Prelude.{All, drop, get_or, zero, ◌⊎◌, cond, if◌then◌else◌, nat_lt, not, sum_by, map, slice_get, slice_set, is_none}
use Rattle.std.specs.List.{position, position_or_len, prefix_len}
use Rattle.std.proofs.lemmas.List.{length-append, length-map}
use Rattle.std.proofs.lemmas.List.{at_drop_more}
use Rattle.std.proofs.lemmas.List.Elements.{All-get_or}
use Rattle.std.proofs.lemmas.List.Sums.{sum_by-set}
use Rattle.std.proofs.lemmas.Option.{get_or_from_slice_get, slice_get_within}
use Rattle.ebr_worker.specs.declared.limits.TheConstants.{MAX_ASKS}
use Rattle.ebr_base.specs.declared.numbers.SessionId.{SessionId}
use Rattle.ebr_report.specs.declared.ends.EndKind.{EndKind}
use Rattle.ebr_asks.specs.declared.entry.Entry.{Entry}
use Rattle.ebr_record.specs.Keeper.{Keeper}
use Rattle.ebr_core.specs.Engine.{EngineState, first_of}
use Rattle.ebr_core.specs.History.{Mine, exchange}
use Rattle.ebr_core.specs.Kept.{Kept}
use Rattle.ebr_worker.specs.Matches.{as_recorded}
use Rattle.ebr_worker.specs.Paced.{AllOver, IsFirst, IsSession, Next, Paced, ToEnds, Turn, Turns, is_over}
use Rattle.ebr_worker.specs.Work.{Adds, Makes, Over, Seated, Stands, StandsBy, Turned, Work, Works, job_of}
use Rattle.ebr_worker.specs.Rehearsal.{AllEnded, AllStand, jobs_of}
use Rattle.ebr_worker.specs.inside.Rehearsal.{Rehearses, TurnedAt, asks_left, goes_on}
use Rattle.ebr_worker.proofs.Histories.{mine_more, mine_other, over_is}
use Rattle.ebr_worker.proofs.Keeping.{kept_adds, kept_none}

-- ---- workers behind an entry of another session

module _ {K : Type 0} (as_keeper : K → Keeper) (s : SessionId) (x : Entry) (w : Work) (e e' : EngineState K) (adds : Adds as_keeper s x e e') (other : w.session.session.0 ≡ s.0 → ⊥) where
  same_mine : Mine e'.history w.session.session ≡ Mine e.history w.session.session
  same_mine = ap (λ h. Mine h w.session.session) adds.is ∙ mine_other e.history x s w.session.session adds.of other

  seated_on : Seated w.session e → Seated w.session e'
  seated_on seated = record {
    is_session = subst (λ n. IsSession n w.session.session) (sym adds.books) seated.is_session;
    matches = same_mine ∙ seated.matches;
  }

  by_end : (k : Option EndKind) → StandsBy k w e → StandsBy k w e'
  by_end None works = record {
    runs = works.runs;
    seated = seated_on works.seated;
    live = adds.others w.session.session other works.live;
  }
  by_end (Some k) over = record { come = over.come; seated = seated_on over.seated }

  pub stands_on : Stands w e → Stands w e'
  stands_on = by_end w.end

-- ---- one element of a list

module _ {X : Type 0} where
  set_here : (xs : List X) (n : ℕ) (x y : X) → slice_get xs n ≡ Some x → slice_get (slice_set xs n y) n ≡ Some y
  set_here [] n x y is = cc
  set_here (z ∷ xs) zero x y is = refl
  set_here (z ∷ xs) (suc n) x y is = set_here xs n x y is

  set_there : (xs : List X) (n m : ℕ) (y : X) → (m ≡ n → ⊥) → slice_get (slice_set xs n y) m ≡ slice_get xs m
  set_there [] n m y other = refl
  set_there (z ∷ xs) zero zero y other = absurd (other refl)
  set_there (z ∷ xs) zero (suc m) y other = refl
  set_there (z ∷ xs) (suc n) zero y other = refl
  set_there (z ∷ xs) (suc n) (suc m) y other = set_there xs n m y (λ same. other (ap suc same))

  set_length : (xs : List X) (n : ℕ) (y : X) → length (slice_set xs n y) ≡ length xs
  set_length [] n y = refl
  set_length (z ∷ xs) zero y = refl
  set_length (z ∷ xs) (suc n) y = ap suc (set_length xs n y)

  map_same : {Y : Type 0} (f : X → Y) (xs : List X) (n : ℕ) (x y : X) → slice_get xs n ≡ Some x → f y ≡ f x → map f (slice_set xs n y) ≡ map f xs
  map_same f [] n x y is same = refl
  map_same f (z ∷ xs) zero x y is same = ap (λ u. u ∷ map f xs) (same ∙ ap f (sym (some_is z x is)))
    where
      some_is : (a b : X) → Some a ≡ Some b → a ≡ b
      some_is a b e = cc
  map_same f (z ∷ xs) (suc n) x y is same = ap (λ us. f z ∷ us) (map_same f xs n x y is same)

same_some : {X : Type 0} (a b : X) → Some a ≡ Some b → a ≡ b
same_some a b e = cc

-- ---- all workers behind a turn

eq_or_not : (m n : ℕ) → (m ≡ n) ⊎ (m ≡ n → ⊥)
eq_or_not zero zero = inl refl
eq_or_not zero (suc n) = inr (λ is. omega (arith, is))
eq_or_not (suc m) zero = inr (λ is. omega (arith, is))
eq_or_not (suc m) (suc n) = elim (eq_or_not m n) [ inl is ↦ inl (ap suc is) | inr other ↦ inr (λ is. other (omega (arith, is))) ]

-- the number of a worker
numbered : (w : Work) (i : ℕ) → w.session.session ≡ record { 0 = i + 1 } → w.session.session.0 ≡ i + 1
numbered w i is = ap (λ (s : SessionId). s.0) is

module _ {K : Type 0} (as_keeper : K → Keeper) (at : ℕ) (ws ws' : List Work) (e e' : EngineState K) (all : AllStand ws e) (did : TurnedAt as_keeper at ws ws' e e') where
  get : (i : ℕ) (w : Work) → (i ≡ at → ⊥) → slice_get ws' i ≡ Some w → slice_get ws i ≡ Some w
  get i w other is = sym (set_there ws at i did.after other) ∙ ap (λ xs. slice_get xs i) (sym did.now) ∙ is

  here : (w : Work) → slice_get ws' at ≡ Some w → did.after ≡ w
  here w is = same_some did.after w (sym (set_here ws at did.before did.after did.was) ∙ ap (λ xs. slice_get xs at) (sym did.now) ∙ is)

  number_is : did.before.session.session ≡ record { 0 = at + 1 }
  number_is = all.number at did.before did.was

  books_by : (k : Option EndKind) → Makes as_keeper k did.before did.after e e' → length e'.books ≡ length e.books
  books_by None (x, adds) = adds.books
  books_by (Some k) (same, is) = ap (λ (f : EngineState K). length f.books) is

  stand_by : (k : Option EndKind) → Makes as_keeper k did.before did.after e e' → (i : ℕ) (w : Work) → (i ≡ at → ⊥) → slice_get ws i ≡ Some w → Stands w e'
  stand_by None (x, adds) i w other is =
      stands_on as_keeper did.before.session.session x w e e' adds
      (λ same. other (omega (arith, same, numbered w i (all.number i w is), numbered did.before at number_is)))
      (all.stand i w is)
  stand_by (Some k) (same, is_same) i w other is = subst (Stands w) (sym is_same) (all.stand i w is)

  pub books_turned : length e'.books ≡ length e.books
  books_turned = books_by did.before.end did.turned.makes

  pub all_turned : AllStand ws' e'
  all_turned = record {
    count = ap length did.now ∙ set_length ws at did.after ∙ all.count ∙ sym books_turned;
    number = λ i w is. number_at i w (eq_or_not i at) is;
    stand = λ i w is. stand_at i w (eq_or_not i at) is;
  }
    where
      number_at : (i : ℕ) (w : Work) → (i ≡ at) ⊎ (i ≡ at → ⊥) → slice_get ws' i ≡ Some w → w.session.session ≡ record { 0 = i + 1 }
      number_at i w (inl same) is =
          ap (λ (v : Work). v.session.session) (sym (here w (ap (slice_get ws') (sym same) ∙ is))) ∙ did.turned.session ∙ number_is ∙ ap (λ n. record { 0 = n + 1 }) (sym same)
      number_at i w (inr other) is = all.number i w (get i w other is)

      stand_at : (i : ℕ) (w : Work) → (i ≡ at) ⊎ (i ≡ at → ⊥) → slice_get ws' i ≡ Some w → Stands w e'
      stand_at i w (inl same) is = subst (λ v. Stands v e') (here w (ap (slice_get ws') (sym same) ∙ is)) did.turned.stands
      stand_at i w (inr other) is = stand_by did.before.end did.turned.makes i w other (get i w other is)

  pub jobs_turned : jobs_of ws' ≡ jobs_of ws
  jobs_turned = ap jobs_of did.now ∙ map_same job_of ws at did.before did.after did.was did.turned.job

-- ---- the history behind a turn

pub seated_of : {K : Type 0} (k : Option EndKind) (w : Work) (e : EngineState K) → StandsBy k w e → Seated w.session e
seated_of None w e works = works.seated
seated_of (Some k) w e over = over.seated

-- A session that runs hasn't ended in the history, ..
pub still_runs : {K : Type 0} (w : Work) (e : EngineState K) → Works w e → is_over e.history w.session.session ≡ false
still_runs w e works = over_is e.history w.session.session w.session.transcript works.seated.matches ∙ works.runs.not_over

-- .. and one that has ended has.
pub is_done : {K : Type 0} (k : EndKind) (w : Work) (e : EngineState K) → Over k w e → is_over e.history w.session.session ≡ true
is_done k w e over = over_is e.history w.session.session w.session.transcript over.seated.matches ∙ over.come.over

module _ {K : Type 0} (as_keeper : K → Keeper) (order left : List SessionId) (ws0 ws ws' : List Work) (first e e' : EngineState K) (at : ℕ) (did : TurnedAt as_keeper at ws ws' e e') where
  -- What a turn keeps of a rehearsal, whatever is left of the order.
  keeps : (left' : List SessionId) → Rehearses as_keeper order left ws0 ws first e
      → ((rest : List Entry) → Turns (length e.books) left' e'.history rest → Turns (length e.books) order [] (e'.history ++ rest))
      → Rehearses as_keeper order left' ws0 ws' first e'
  keeps left' so_far paced' =
      let all : AllStand ws e = so_far.all_stand in
      let books : length e'.books ≡ length e.books = books_turned as_keeper at ws ws' e e' all did in
      record {
        all_stand = all_turned as_keeper at ws ws' e e' all did;
        jobs = jobs_turned as_keeper at ws ws' e e' all did ∙ so_far.jobs;
        books = books ∙ so_far.books;
        recovered = recovered_by did.before.end did.turned.makes ∙ so_far.recovered;
        paced = subst (λ n. (rest : List Entry) → Turns n left' e'.history rest → Turns n order [] (e'.history ++ rest)) (sym books) paced';
        kept = kept_by did.before.end did.turned.makes so_far.kept;
      }
    where
      recovered_by : (k : Option EndKind) → Makes as_keeper k did.before did.after e e' → e'.recovered ≡ e.recovered
      recovered_by None (x, adds) = adds.recovered
      recovered_by (Some k) (same, is) = ap (λ (f : EngineState K). f.recovered) is

      kept_by : (k : Option EndKind) → Makes as_keeper k did.before did.after e e' → Kept (as_keeper first.keeper) (as_keeper e.keeper) (first_of e) e.history → Kept (as_keeper first.keeper) (as_keeper e'.keeper) (first_of e') e'.history
      kept_by None (x, adds) kept = kept_adds as_keeper (as_keeper first.keeper) did.before.session.session x e e' adds kept
      kept_by (Some k) (same, is) kept = subst (λ (f : EngineState K). Kept (as_keeper first.keeper) (as_keeper f.keeper) (first_of f) f.history) (sym is) kept

-- A turn of the order is taken.
module _ {K : Type 0} (as_keeper : K → Keeper) (order left : List SessionId) (s : SessionId) (ws0 ws ws' : List Work) (first e e' : EngineState K) (at : ℕ) (did : TurnedAt as_keeper at ws ws' e e') (is : s ≡ record { 0 = at + 1 })
    (so_far : Rehearses as_keeper order (s ∷ left) ws0 ws first e) where
  session_is : did.before.session.session ≡ s
  session_is = so_far.all_stand.number at did.before did.was ∙ sym is

  step : (n : ℕ) → ((rest : List Entry) → Turns n (s ∷ left) e.history rest → Turns n order [] (e.history ++ rest)) → (k : Option EndKind) → StandsBy k did.before e → Makes as_keeper k did.before did.after e e'
      → (rest : List Entry) → Turns n left e'.history rest → Turns n order [] (e'.history ++ rest)
  step n on None works (x, adds) =
      let runs : is_over e.history s ≡ false = subst (λ r. is_over e.history r ≡ false) session_is (still_runs did.before e works) in
      subst (λ h. (rest : List Entry) → Turns n left h rest → Turns n order [] (h ++ rest)) (sym adds.is)
      (λ rest turns. subst (Turns n order []) (sym (append_assoc e.history (x ∷ []) rest))
      (on (x ∷ rest) (subst (λ b. Turn b (Turns n left e.history (x ∷ rest)) (Next s (x ∷ rest) (λ y more. Turns n left (e.history ++ y ∷ []) more))) (sym runs) (adds.of ∙ session_is, turns))))
  step n on (Some k) over (same, is_same) =
      let ended : is_over e.history s ≡ true = subst (λ r. is_over e.history r ≡ true) session_is (is_done k did.before e over) in
      subst (λ (f : EngineState K). (rest : List Entry) → Turns n left f.history rest → Turns n order [] (f.history ++ rest)) (sym is_same)
      (λ rest turns. on rest (subst (λ b. Turn b (Turns n left e.history rest) (Next s rest (λ y more. Turns n left (e.history ++ y ∷ []) more))) (sym ended) turns))

  pub turn_taken : Rehearses as_keeper order left ws0 ws' first e'
  turn_taken = keeps as_keeper order (s ∷ left) ws0 ws ws' first e e' at did left so_far (step (length e.books) so_far.paced did.before.end (so_far.all_stand.stand at did.before did.was) did.turned.makes)

-- The same of the turn at a place of the order.
pub taken_at : {K : Type 0} (as_keeper : K → Keeper) (order : List SessionId) (n i at : ℕ) (s d : SessionId) (ws0 ws ws' : List Work) (first e e' : EngineState K) → i < length order → s ≡ get_or order i d → All (IsSession n) order → at ≡ s.0 - 1
    → TurnedAt as_keeper at ws ws' e e' → Rehearses as_keeper order (drop i order) ws0 ws first e → Rehearses as_keeper order (drop (i + 1) order) ws0 ws' first e'
taken_at as_keeper order n i at s d ws0 ws ws' first e e' within is sessions place did so_far =
    let session : IsSession n s = subst (IsSession n) (sym is) (All-get_or (IsSession n) order i d within sessions) in
    let left : drop i order ≡ s ∷ drop (i + 1) order = at_drop_more (λ xs. xs) order i d within ∙ ap (λ x. x ∷ drop (i + 1) order) (sym is) in
    let number : s.0 ≡ at + 1 = omega (arith, place, session.first) in
    turn_taken as_keeper order (drop (i + 1) order) s ws0 ws ws' first e e' at did (ap (λ m. record { 0 = m }) number) (subst (λ l. Rehearses as_keeper order l ws0 ws first e) left so_far)

-- ---- the first session that hasn't ended

module _ {X : Type 0} (q : X → Bool) where
  one_of : (y x : X) (xs : List X) (b : Bool) → q y ≡ b → ((j : ℕ) → j < prefix_len q xs → slice_get xs j ≡ Some x → q x ≡ true) → (j : ℕ) → j < cond b (1 + prefix_len q xs) 0 → slice_get (y ∷ xs) j ≡ Some x → q x ≡ true
  one_of y x xs false is rest j within at = absurd (omega (arith, within))
  one_of y x xs true is rest zero within at = ap q (sym (same_some y x at)) ∙ is
  one_of y x xs true is rest (suc j) within at = rest j (omega (arith, within)) at

  before_len : (xs : List X) (x : X) (j : ℕ) → j < prefix_len q xs → slice_get xs j ≡ Some x → q x ≡ true
  before_len [] x j within at = cc
  before_len (y ∷ xs) x j within at = one_of y x xs (q y) refl (before_len xs x) j within at

  at_of : (y x : X) (xs : List X) (b : Bool) → q y ≡ b → ((j : ℕ) → prefix_len q xs ≡ j → slice_get xs j ≡ Some x → q x ≡ false) → (j : ℕ) → cond b (1 + prefix_len q xs) 0 ≡ j → slice_get (y ∷ xs) j ≡ Some x → q x ≡ false
  at_of y x xs false is rest zero long at = ap q (sym (same_some y x at)) ∙ is
  at_of y x xs false is rest (suc j) long at = absurd (omega (arith, long))
  at_of y x xs true is rest zero long at = absurd (omega (arith, long))
  at_of y x xs true is rest (suc j) long at = rest j (omega (arith, long)) at

  at_len : (xs : List X) (x : X) (j : ℕ) → prefix_len q xs ≡ j → slice_get xs j ≡ Some x → q x ≡ false
  at_len [] x j long at = cc
  at_len (y ∷ xs) x j long at = at_of y x xs (q y) refl (at_len xs x) j long at

module _ (ws : List Work) where
  len_is : (b : Bool) (l n : ℕ) → (if b then Some l else None) ≡ Some n → l ≡ n
  len_is true l n is = same_some l n is
  len_is false l n is = cc

  none_is : (l n : ℕ) → (if nat_lt l n then Some l else None) ≡ None → n ≤ l
  none_is l n is = by (nat_lt l n) refl is
    where
      by : (b : Bool) → nat_lt l n ≡ b → (if b then Some l else None) ≡ None → n ≤ l
      by true less is = cc
      by false less is = search (rules, arith, less)

  pub ended_before : (at j : ℕ) (w : Work) → position goes_on ws ≡ Some at → j < at → slice_get ws j ≡ Some w → not (goes_on w) ≡ true
  ended_before at j w first less is =
      before_len (λ v. not (goes_on v)) ws w j (omega (arith, less, len_is (nat_lt (position_or_len goes_on ws) (length ws)) (position_or_len goes_on ws) at first)) is

  pub ended_all : (j : ℕ) (w : Work) → position goes_on ws ≡ None → slice_get ws j ≡ Some w → not (goes_on w) ≡ true
  ended_all j w none is =
      before_len (λ v. not (goes_on v)) ws w j (omega (arith, none_is (position_or_len goes_on ws) (length ws) none, slice_get_within ws j w is)) is

  pub works_at : (at : ℕ) (w : Work) → position goes_on ws ≡ Some at → slice_get ws at ≡ Some w → w.end ≡ None
  works_at at w first is =
      no_end w.end (at_len (λ v. not (goes_on v)) ws w at (len_is (nat_lt (position_or_len goes_on ws) (length ws)) (position_or_len goes_on ws) at first) is)
    where
      no_end : (o : Option EndKind) → not (is_none o) ≡ false → o ≡ None
      no_end None is = refl
      no_end (Some k) is = cc

has_end : (w : Work) → not (goes_on w) ≡ true → (k : EndKind) × (w.end ≡ Some k)
has_end w is = by w.end is
  where
    by : (o : Option EndKind) → not (is_none o) ≡ true → (k : EndKind) × (o ≡ Some k)
    by None is = cc
    by (Some k) is = (k, refl)

is_over_by : {K : Type 0} (w : Work) (e : EngineState K) (k : EndKind) → w.end ≡ Some k → Stands w e → Over k w e
is_over_by w e k is stands = subst (λ o. StandsBy o w e) is stands

element : {X : Type 0} (xs : List X) (i : ℕ) → i < length xs → (x : X) × (slice_get xs i ≡ Some x)
element [] i within = absurd (omega (arith, within))
element (x ∷ xs) zero within = (x, refl)
element (x ∷ xs) (suc i) within = element xs i (omega (arith, within))

-- The session of a worker that has ended is over.
module _ {K : Type 0} (ws : List Work) (e : EngineState K) (all : AllStand ws e) where
  over_at : (r : SessionId) → IsSession (length e.books) r → ((w : Work) → slice_get ws (r.0 - 1) ≡ Some w → not (goes_on w) ≡ true) → is_over e.history r ≡ true
  over_at r is_session ended =
      let there = element ws (r.0 - 1) (omega (arith, all.count, is_session.first, is_session.last)) in
      let how = has_end there.0 (ended there.0 there.1) in
      let number : r.0 - 1 + 1 ≡ r.0 = omega (arith, is_session.first) in
      subst (λ q. is_over e.history q ≡ true) (all.number (r.0 - 1) there.0 there.1 ∙ ap (λ n. record { 0 = n }) number)
      (is_done how.0 there.0 e (is_over_by there.0 e how.0 how.1 (all.stand (r.0 - 1) there.0 there.1)))

  pub all_ended : position goes_on ws ≡ None → AllEnded ws e
  all_ended none = record {
    count = all.count;
    number = all.number;
    ended = λ i w is. let how = has_end w (ended_all ws i w none is) in (how.0, how.1, is_over_by w e how.0 how.1 (all.stand i w is));
  }

  pub all_over : position goes_on ws ≡ None → AllOver (length e.books) e.history
  all_over none r is_session = over_at r is_session (λ w is. ended_all ws (r.0 - 1) w none is)

-- Behind the order the first session that hasn't ended makes a turn.
module _ {K : Type 0} (as_keeper : K → Keeper) (order : List SessionId) (ws0 ws ws' : List Work) (first e e' : EngineState K) (at : ℕ) (did : TurnedAt as_keeper at ws ws' e e') (working : position goes_on ws ≡ Some at)
    (so_far : Rehearses as_keeper order [] ws0 ws first e) where
  abbrev all : AllStand ws e
  all = so_far.all_stand

  is_first : is_over e.history did.before.session.session ≡ false → IsFirst (length e.books) e.history did.before.session.session
  is_first runs = record {
    is_session = (seated_of did.before.end did.before e (all.stand at did.before did.was)).is_session;
    works = runs;
    before = λ r is_session less. over_at ws e all r is_session
        (λ w is. ended_before ws at (r.0 - 1) w working (omega (arith, less, is_session.first, numbered did.before at (all.number at did.before did.was))) is);
  }

  last_step : (k : Option EndKind) → StandsBy k did.before e → Makes as_keeper k did.before did.after e e' → (rest : List Entry) → ToEnds (length e.books) e'.history rest → Turns (length e.books) order [] (e'.history ++ rest)
  last_step None works (x, adds) =
      subst (λ h. (rest : List Entry) → ToEnds (length e.books) h rest → Turns (length e.books) order [] (h ++ rest)) (sym adds.is)
      (λ rest turns. subst (Turns (length e.books) order []) (sym (append_assoc e.history (x ∷ []) rest))
      (so_far.paced (x ∷ rest) (subst (IsFirst (length e.books) e.history) (sym adds.of) (is_first (still_runs did.before e works)), turns)))
  last_step (Some k) over (same, is_same) =
      subst (λ (f : EngineState K). (rest : List Entry) → ToEnds (length e.books) f.history rest → Turns (length e.books) order [] (f.history ++ rest)) (sym is_same) so_far.paced

  pub turn_behind : Rehearses as_keeper order [] ws0 ws' first e'
  turn_behind = keeps as_keeper order [] ws0 ws ws' first e e' at did [] so_far (last_step did.before.end (all.stand at did.before did.was) did.turned.makes)

-- ---- the beginning and the end

pub begins : {K : Type 0} (as_keeper : K → Keeper) (order : List SessionId) (ws : List Work) (e : EngineState K) → AllStand ws e → e.history ≡ [] → Rehearses as_keeper order order ws ws e e
begins as_keeper order ws e all empty = record {
  all_stand = all;
  jobs = refl;
  books = refl;
  recovered = refl;
  paced = subst (λ h. (rest : List Entry) → Turns (length e.books) order h rest → Turns (length e.books) order [] (h ++ rest)) (sym empty) (λ rest turns. turns);
  kept = kept_none as_keeper e empty;
}

pub paced_so : {K : Type 0} (as_keeper : K → Keeper) (order : List SessionId) (ws0 ws : List Work) (first e : EngineState K) → Rehearses as_keeper order [] ws0 ws first e → position goes_on ws ≡ None → Paced (length e.books) order e.history
paced_so as_keeper order ws0 ws first e so_far none =
    subst (Turns (length e.books) order []) (append-nil e.history) (so_far.paced [] (all_over ws e so_far.all_stand none))

-- ---- how many asks are left

-- A turn that makes an entry makes the session's exchanges one more.
module _ {K : Type 0} (as_keeper : K → Keeper) (w w' : Work) (e e' : EngineState K) (did : Turned as_keeper w w' e e') where
  mine_length : (v : Work) (f : EngineState K) → Seated v.session f → length (Mine f.history v.session.session) ≡ length v.session.transcript
  mine_length v f seated = ap length seated.matches ∙ length-map v.session.transcript as_recorded

  grown : (x : Entry) → Adds as_keeper w.session.session x e e' → Seated w.session e → Seated w'.session e' → length w'.session.transcript ≡ length w.session.transcript + 1
  grown x adds was now =
      let s : SessionId = w.session.session in
      let more : Mine e'.history s ≡ Mine e.history s ++ exchange x ∷ [] = ap (λ h. Mine h s) adds.is ∙ mine_more e.history x s adds.of in
      sym (mine_length w' e' now) ∙ ap (λ r. length (Mine e'.history r)) did.session ∙ ap length more ∙ length-append (Mine e.history s) (exchange x ∷ []) ∙ ap (λ n. n + 1) (mine_length w e was)

  fewer_by : (k : Option EndKind) → k ≡ None → StandsBy k w e → Makes as_keeper k w w' e e' → MAX_ASKS - length w'.session.transcript < MAX_ASKS - length w.session.transcript
  fewer_by None is works (x, adds) = omega (arith, works.runs.few, grown x adds works.seated (seated_of w'.end w' e' did.stands))
  fewer_by (Some k) is over makes = cc

  pub fewer_turned : w.end ≡ None → Stands w e → MAX_ASKS - length w'.session.transcript < MAX_ASKS - length w.session.transcript
  fewer_turned none stands = fewer_by w.end none stands did.makes

module _ {K : Type 0} (as_keeper : K → Keeper) (at : ℕ) (ws ws' : List Work) (e e' : EngineState K) (all : AllStand ws e) (did : TurnedAt as_keeper at ws ws' e e') where
  sum_less : (f : Work → ℕ) (xs : List Work) (n : ℕ) (x y : Work) → slice_get xs n ≡ Some x → f y < f x → sum_by f (slice_set xs n y) < sum_by f xs
  sum_less f xs n x y is less = omega (arith, sum_by-set f xs n y x (slice_get_within xs n x is), ap f (get_or_from_slice_get xs n x x is), less)

  pub fewer_left : did.before.end ≡ None → asks_left ws' < asks_left ws
  fewer_left none =
      subst (λ xs. asks_left xs < asks_left ws) (sym did.now)
      (sum_less (λ (w : Work). MAX_ASKS - length w.session.transcript) ws at did.before did.after did.was (fewer_turned as_keeper did.before did.after e e' did.turned none (all.stand at did.before did.was)))
