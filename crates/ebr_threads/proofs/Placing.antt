-- Workers in their places, and the chairs that they are given.
use Rattle.std.proofs.Common.{◌≡◌, ℕ, zero, suc, ◌+◌, ◌-◌, ◌^◌, ◌<◌, ◌≤◌, List, [], ◌∷◌, ◌++◌, length, map, get_or, sym, refl, ap, subst, ◌∙◌, append_assoc, length-append, arith, eq-eqb, ne_eqb, Option, Some, None, true, false, inl, inr}
use Rattle.std.specs.Prelude.{All, IsSome, slice_get}
use Rattle.std.specs.List.{AllZip}
use Rattle.std.proofs.lemmas.List.Elements.{AllZip-push}
use Rattle.std.proofs.lemmas.List.{map-append}
use Rattle.ebr_base.specs.declared.numbers.SessionId.{SessionId}
use Rattle.ebr_asks.specs.declared.entry.Entry.{Entry}
use Rattle.ebr_asks.specs.declared.entry.Exchange.{Exchange}
use Rattle.ebr_report.specs.declared.ends.EndKind.{EndKind}
use Rattle.ebr_core.specs.Engine.{EngineState}
use Rattle.ebr_core.specs.History.{Mine}
use Rattle.ebr_worker.specs.Matches.{Matches, as_recorded}
use Rattle.ebr_worker.specs.Paced.{IsSession, has_ended}
use Rattle.ebr_worker.specs.Rehearsal.{AllStand}
use Rattle.ebr_worker.specs.Work as over
use Rattle.ebr_worker.specs.Work.{Work}
use Rattle.ebr_turn.specs.declared.view.View.{View}
use Rattle.ebr_turn.specs.declared.view.Stage.TheVariants.{Idle}
use Rattle.ebr_turn.specs.Chairs.{ChairState, In, TurnId, fresh, joined, list_of, lists, opener, parted, pick_if}
use Rattle.ebr_threads.specs.Booking.{chair_of}
use Rattle.ebr_threads.specs.Seating.{AllReady, AllWent, HasEnded, HasSat, IsFresh, IsReady, StandsBy, WentOn, list_by, workers_of}
use Rattle.ebr_threads.specs.inside.Giving.{Gives}

-- ---- elements by their places

same_some : {A : Type 0} (x y : A) → Some x ≡ Some y → x ≡ y
same_some x y is = cc

front : {A : Type 0} (ws : List A) (w : A) (more : List A) → slice_get ((ws ++ w ∷ []) ++ more) (length ws) ≡ Some w
front [] w more = refl
front (x ∷ ws) w more = front ws w more

pub within : {A : Type 0} (xs : List A) (i : ℕ) (x : A) → slice_get xs i ≡ Some x → i < length xs
within [] i x is = cc
within (y ∷ xs) zero x is = omega arith
within (y ∷ xs) (suc i) x is = let h = within xs i x is in omega (arith, h)

got : {A : Type 0} (xs : List A) (i : ℕ) (x d : A) → slice_get xs i ≡ Some x → get_or xs i d ≡ x
got [] i x d is = cc
got (y ∷ xs) zero x d is = same_some y x is
got (y ∷ xs) (suc i) x d is = got xs i x d is

pub all_at : {A : Type 0} (P : A → Type 0) (xs : List A) (i : ℕ) (x : A) → All P xs → slice_get xs i ≡ Some x → P x
all_at P xs i x all is = subst P (got xs i x x is) (all i x (within xs i x is))

-- ---- two lists side by side

pub zip_len : {A B : Type 0} (R : A → B → Type 0) (xs : List A) (ys : List B) → AllZip R xs ys → length ys ≡ length xs
zip_len R [] [] z = refl
zip_len R [] (y ∷ ys) z = absurd z
zip_len R (x ∷ xs) [] z = absurd z
zip_len R (x ∷ xs) (y ∷ ys) z = ap suc (zip_len R xs ys z.1)

pub zip_at : {A : Type 0} (R : A → A → Type 0) (xs ys : List A) (i : ℕ) (y : A) → AllZip R xs ys → slice_get ys i ≡ Some y → (x : A) × (slice_get xs i ≡ Some x) × R x y
zip_at R [] [] i y z is = cc
zip_at R [] (v ∷ ys) i y z is = absurd z
zip_at R (u ∷ xs) [] i y z is = absurd z
zip_at R (u ∷ xs) (v ∷ ys) zero y z is = (u, refl, subst (R u) (same_some v y is) z.0)
zip_at R (u ∷ xs) (v ∷ ys) (suc i) y z is = zip_at R xs ys i y z.1 is

module _ {A : Type 0} (worker : A → Work) where
  pub of_push : (xs : List A) (x : A) → workers_of worker (xs ++ x ∷ []) ≡ worker x ∷ workers_of worker xs
  of_push [] x = refl
  of_push (y ∷ xs) x = ap (λ l. l ++ worker y ∷ []) (of_push xs x)

  pub went_of : (xs ys : List A) → length ys ≡ length xs → AllWent worker xs ys → AllZip WentOn (workers_of worker xs) (workers_of worker ys)
  went_of [] [] e r = tt
  went_of [] (y ∷ ys) e r = absurd (omega (arith, e))
  went_of (x ∷ xs) [] e r = absurd (omega (arith, e))
  went_of (x ∷ xs) (y ∷ ys) e r = AllZip-push WentOn (workers_of worker xs) (workers_of worker ys) (worker x) (worker y) (went_of xs ys (omega (arith, e)) (λ k d inside. r (suc k) d (omega (arith, inside)))) (r 0 x (omega arith))

  -- the last one is taken from the others
  pub moved_on : (ws : List Work) (xs ys : List A) (x : A) (all : List Work) → ws ++ workers_of worker xs ≡ all → xs ≡ ys ++ x ∷ [] → (ws ++ worker x ∷ []) ++ workers_of worker ys ≡ all
  moved_on ws xs ys x all is pops = append_assoc ws (worker x ∷ []) (workers_of worker ys) ∙ ap (λ l. ws ++ l) (sym (of_push ys x) ∙ ap (workers_of worker) (sym pops)) ∙ is

pub seated_more : {A : Type 0} (worker : A → Work) (ws : List Work) (w : Work) (ss ts : List A) (x : A) (all : List Work) → (ws ++ w ∷ []) ++ workers_of worker ss ≡ all → worker x ≡ w → ts ≡ ss ++ x ∷ [] → ws ++ workers_of worker ts ≡ all
seated_more worker ws w ss ts x all is same pushes =
    ap (λ l. ws ++ workers_of worker l) pushes ∙ ap (λ l. ws ++ l) (of_push worker ss x ∙ ap (λ u. u ∷ workers_of worker ss) same) ∙ sym (append_assoc ws (w ∷ []) (workers_of worker ss)) ∙ is

pub popped_len : {A : Type 0} (xs ys : List A) (x : A) → xs ≡ ys ++ x ∷ [] → length xs ≡ suc (length ys)
popped_len xs ys x is = let len = length-append ys (x ∷ []) in let whole : length xs ≡ length (ys ++ x ∷ []) = ap length is in omega (arith, len, whole)

-- the list of a number is that of the worker with it
pub list_at : (ws : List Work) (first i : ℕ) (w : Work) → ((k : ℕ) (u : Work) → slice_get ws k ≡ Some u → u.session.session.0 ≡ first + k) → slice_get ws i ≡ Some w → list_of (first + i) (map list_by ws) ≡ map as_recorded w.session.transcript
list_at [] first i w number is = cc
list_at (x ∷ ws) first zero w number is =
    ap (λ b. pick_if b (map as_recorded x.session.transcript) (list_of (first + 0) (map list_by ws))) (eq-eqb x.session.session.0 (first + 0) (number 0 x refl))
    ∙ ap (λ (v : Work). map as_recorded v.session.transcript) (same_some x w is)
list_at (x ∷ ws) first (suc i) w number is =
    let here : x.session.session.0 ≡ first + 0 = number 0 x refl in
    ap (λ b. pick_if b (map as_recorded x.session.transcript) (list_of (first + suc i) (map list_by ws))) (ne_eqb x.session.session.0 (first + suc i) (λ e. omega (arith, here, e)))
    ∙ ap (λ n. list_of n (map list_by ws)) (let n : first + suc i ≡ suc first + i = omega arith in n)
    ∙ list_at ws (suc first) i w (λ k u there. let n = number (suc k) u there in omega (arith, n)) is

-- ---- before the first ask

nothing_had : (t : List Exchange) → [] ≡ map as_recorded t → t ≡ []
nothing_had [] is = refl
nothing_had (x ∷ t) is = cc

-- workers over an engine without entries have made no ask
pub ready_first : {K : Type 0} (ws : List Work) (e : EngineState K) → AllStand ws e → e.history ≡ [] → AllReady (length e.books) ws
ready_first ws e all none = record { count = all.count; each = λ i w is. by i w (all.number i w is) w.end refl (all.stand i w is) }
  where
    had : (w : Work) → Matches w.session.transcript e.history w.session.session → w.session.transcript ≡ []
    had w matches = nothing_had w.session.transcript (ap (λ (h : List Entry). Mine h w.session.session) (sym none) ∙ matches)

    not_over : (t : List Exchange) → t ≡ [] → has_ended t ≡ true → ⊥
    not_over t is ended = differ (sym (ap has_ended is) ∙ ended)
      where
        differ : false ≡ true → ⊥
        differ e = cc

    by : (i : ℕ) (w : Work) → w.session.session ≡ record { 0 = i + 1 } → (o : Option EndKind) → w.end ≡ o → over.StandsBy o w e → IsFresh i w
    by i w number None is works = record { number = number; runs = works.runs; no_end = is; none = had w works.seated.matches }
    by i w number (Some k) is gone = absurd (not_over w.session.transcript (had w gone.seated.matches) gone.come.over)

-- ---- the first chair while it gives numbers

pub gives_first : (n : ℕ) (v : View Exchange) → v ≡ opener [] (n + 1) → Gives n n v
gives_first n v is = subst (Gives n n) (sym is) (record {
  stage = refl;
  number = refl;
  kept = refl;
  base = refl;
  gives = refl;
  share = omega arith;
  left = omega arith;
  given = λ k h. absurd h;
})

pub is_empty : {A : Type 0} (xs : List A) → length xs ≡ 0 → xs ≡ []
is_empty [] none = refl
is_empty (x ∷ xs) none = absurd (omega (arith, none))

-- where all are given
pub given_all : (n : ℕ) (ws : List Work) (v : View Exchange) → length ws ≡ 0 → Gives n (length ws) v → (v.stage ≡ Idle) × (v.share ≡ 1) × (v.number ≡ None) × (v.kept ≡ [])
given_all n ws v none g = let s = g.share in (g.stage, omega (arith, s, none), g.number, g.kept)

pub gives_more : (n m : ℕ) (v w : View Exchange) → n < 2 ^ 31 → Gives n (suc m) v → w ≡ parted (suc m) v → Gives n m w
gives_more n m v w few g is = subst (Gives n m) (sym is) (record {
  stage = g.stage;
  number = g.number;
  kept = g.kept;
  base = g.base;
  gives = g.gives;
  share = let s = g.share in omega (arith, s);
  left = let l = g.left in omega (arith, l, few);
  given = λ k h. elim h [ inl e ↦ (let same : suc m ≡ k = e in omega arith) | inr i ↦ (let less = g.given k i in omega (arith, less)) ];
})

pub may_split : (n m : ℕ) (v : View Exchange) → n < 2 ^ 31 → Gives n (suc m) v → (2 ≤ v.share) × (2 ^ 31 ≤ v.left)
may_split n m v few g = let s = g.share in let l = g.left in (omega (arith, s), omega (arith, l, few))

pub is_new : (n m : ℕ) (v : View Exchange) → Gives n (suc m) v → (v.gives ≡ true) × (In (suc m) v.given → ⊥)
is_new n m v g = (g.gives, λ h. let less = g.given (suc m) h in omega (arith, less))

-- the next worker has the number that is given next
pub next_worker : (n : ℕ) (all xs ws : List Work) (w : Work) (more : List Work) (v : View Exchange) → AllReady n all → xs ++ more ≡ all → xs ≡ ws ++ w ∷ [] → Gives (length all) (length xs) v
    → ((ws ++ w ∷ []) ++ more ≡ all) × IsFresh (length ws) w × (w.session.session.0 ≡ suc (length ws)) × Gives (length all) (suc (length ws)) v
next_worker n all xs ws w more v ready is pops g =
    let whole : (ws ++ w ∷ []) ++ more ≡ all = ap (λ l. l ++ more) (sym pops) ∙ is in
    let fresh_one = ready.each (length ws) w (ap (λ l. slice_get l (length ws)) (sym whole) ∙ front ws w more) in
    let number : w.session.session.0 ≡ length ws + 1 = ap (λ (s : SessionId). s.0) fresh_one.number in
    (whole, fresh_one, omega (arith, number), subst (λ m. Gives (length all) m v) (popped_len xs ws w pops) g)

pub is_ready : (z : TurnId) (n : ℕ) (all ws : List Work) (w : Work) (more : List Work) (v : View Exchange) (child : ChairState Exchange) → AllReady n all → (ws ++ w ∷ []) ++ more ≡ all → IsFresh (length ws) w → child.turn ≡ z → v.base ≡ [] → child.view ≡ fresh w.session.session.0 v
    → IsReady z n w child
is_ready z n all ws w more v child ready is fresh_one same base split =
    let there : slice_get all (length ws) ≡ Some w = ap (λ l. slice_get l (length ws)) (sym is) ∙ front ws w more in
    let inside = within all (length ws) w there in
    let number : w.session.session.0 ≡ length ws + 1 = ap (λ (s : SessionId). s.0) fresh_one.number in
    let count = ready.count in
    let place : IsSession n w.session.session = record { first = omega (arith, number); last = omega (arith, number, inside, count) } in
    record {
      sits = record {
        turn = same;
        is_session = place;
        stands = subst (λ o. StandsBy o w) (sym fresh_one.no_end) fresh_one.runs;
        chair = split ∙ (λ i. record (chair_of w.session.session []) { base = base i }) ∙ (λ i. chair_of w.session.session (sym fresh_one.none i));
      };
      no_end = fresh_one.no_end;
    }

-- ---- chairs are joined

pub ended_of : (z : TurnId) (n : ℕ) (w : Work) (c : ChairState Exchange) → HasSat z n w c → HasEnded w
ended_of z n w c sat = by w.end refl sat.ended sat.sits.stands
  where
    by : (o : Option EndKind) → w.end ≡ o → IsSome o → StandsBy o w → HasEnded w
    by None is some stands = cc
    by (Some k) is some come = record { end = k; ended = is; come = come }

pub joins_one : (z : TurnId) (n : ℕ) (ws us : List Work) (v u : View Exchange) (c : ChairState Exchange) (x : Work) → HasSat z n x c → u ≡ joined v c.view → v.kept ≡ map list_by ws → us ≡ ws ++ x ∷ []
    → (u.share ≡ v.share + 1) × (u.kept ≡ map list_by us) × (u.stage ≡ v.stage) × (u.number ≡ v.number)
joins_one z n ws us v u c x sat is kept pushes =
    let one : c.view.share ≡ 1 = ap (λ (y : View Exchange). y.share) sat.sits.chair in
    let told : lists c.view ≡ list_by x ∷ [] = ap lists sat.sits.chair in
    let share : u.share ≡ v.share + c.view.share = ap (λ (y : View Exchange). y.share) is in (
      omega (arith, one, share),
      ap (λ (y : View Exchange). y.kept) is ∙ ap (λ l. v.kept ++ l) told ∙ ap (λ l. l ++ list_by x ∷ []) kept ∙ sym (map-append list_by ws (x ∷ [])) ∙ ap (map list_by) (sym pushes),
      ap (λ (y : View Exchange). y.stage) is,
      ap (λ (y : View Exchange). y.number) is,
    )
