-- One turn of each loop, and one call of each chain.
use Rattle.std.proofs.Common.{◌≡◌, ℕ, zero, suc, ◌+◌, ◌-◌, ◌<◌, ◌≤◌, ◌^◌, List, [], ◌∷◌, ◌++◌, map, drop, length, get_or, Option, Some, None, Result, Ok, Err, refl, sym, ap, subst, ◌∙◌, arith}
use Rattle.std.specs.List.{last_or}
use Rattle.std.proofs.lemmas.List.{drop_more, drop_all}
use Rattle.ebr_base.specs.declared.code.Code.{Code}
use Rattle.ebr_base.specs.declared.value.Value.{Value}
use Rattle.ebr_exprtree.specs.declared.op.Op.{Op}
use Rattle.ebr_asks.specs.declared.ask.Ask.{Ask}
use Rattle.ebr_asks.specs.declared.answer.Answer.{Answer}
use Rattle.ebr_tx.specs.Data.{Data}
use Rattle.ebr_record.specs.Keeper.{Keeper}
use Rattle.ebr_dml.specs.declared.taken.Taken.{Taken}
use Rattle.ebr_dml.specs.Images.{old_values, new_values, after_values}
use Rattle.ebr_dml.specs.Tests.{written}
use Rattle.ebr_database.specs.declared.failure.Failure.{Failure}
use Rattle.ebr_database.specs.declared.failure.Failure.TheVariants.{Refused, Halted}
use Rattle.ebr_database.specs.declared.failure.Halt.{Halt}
use Rattle.ebr_database.specs.Base.{Base, with_data}
use Rattle.ebr_database.specs.Outcome.{Outcome, gives, after, and_then, go_on, then_run}
use Rattle.ebr_database.specs.Shows.{GaveUp, Said, Shows}
use Rattle.ebr_database.proofs.Goes.{Goes, begins, says, ends, steps, then_gives, then_gave_up, fails, goes_on, gave_up}
use Rattle.ebr_database.proofs.Keeping.{gave_up_more}
use Rattle.ebr_run.specs.Run.{Seen}
use Rattle.ebr_statements.specs.declared.ready.Ready.{Ready as Held}
use Rattle.ebr_bodies.specs.Ready.{Ready}
use Rattle.ebr_bodies.specs.Bodies.{Site, Doing, serve, served, next_ask, on_ask, max_asks, closed, ended_by, row_left, after_run, run_of, body, bodies}
use Rattle.ebr_bodies.specs.Rows.{Work, at_data, changed, one_row, rows}
use Rattle.ebr_statements.specs.inside.Held.{ready_of}

-- 1. The triggers of a row

module _ (w : Site) (o : Op) (hs : List Held) (i : ℕ) (old new : List Value) (σ : Doing) (whole : Outcome Doing (Result (List Value) Code)) (k mid : Keeper) where
  abbrev behind : ℕ → List Value → Doing → Outcome Doing (Result (List Value) Code)
  behind n x τ = bodies w o (map ready_of (drop n hs)) old x τ

  at_trigger : (d : Held) → i < length hs → Goes whole (behind i new σ) k mid → Goes whole (then_run (body w o (ready_of (get_or hs i d)) old new σ) (behind (i + 1))) k mid
  at_trigger d h g = subst (λ r. Goes whole r k mid) (ap (λ l. bodies w o (map ready_of l) old new σ) (drop_more hs i d h)) g

  pub trigger_done : (d : Held) (now : Keeper) (s : Doing) (a : List Value) → i < length hs → Goes whole (behind i new σ) k mid
      → Said (body w o (ready_of (get_or hs i d)) old new σ) s mid now (Ok a) → Goes whole (behind (i + 1) a s) k now
  trigger_done d now s a h g r = goes_on whole (body w o (ready_of (get_or hs i d)) old new σ) (behind (i + 1)) k mid now s a (at_trigger d h g) r

  pub trigger_fails : (d : Held) (now : Keeper) (s : Doing) (e : Failure) → i < length hs → Goes whole (behind i new σ) k mid
      → Shows (body w o (ready_of (get_or hs i d)) old new σ) s mid now (Err e) → Shows whole s k now (Err e)
  trigger_fails d now s e h g r = fails whole (body w o (ready_of (get_or hs i d)) old new σ) (behind (i + 1)) k mid now s e (at_trigger d h g) r

  pub trigger_next : (x : Held) (now : Keeper) (s : Doing) (a : List Value) → x ≡ get_or hs i x → i < length hs → Goes whole (behind i new σ) k mid
      → Said (body w o (ready_of x) old new σ) s mid now (Ok a) → Goes whole (behind (i + 1) a s) k now
  trigger_next x now s a is h g r = trigger_done x now s a h g (subst (λ y. Said (body w o (ready_of y) old new σ) s mid now (Ok a)) is r)

  pub trigger_stops : (x : Held) (now : Keeper) (s : Doing) (e : Failure) → x ≡ get_or hs i x → i < length hs → Goes whole (behind i new σ) k mid
      → Shows (body w o (ready_of x) old new σ) s mid now (Err e) → Shows whole s k now (Err e)
  trigger_stops x now s e is h g r = trigger_fails x now s e h g (subst (λ y. Shows (body w o (ready_of y) old new σ) s mid now (Err e)) is r)

  pub triggers_over : length hs ≤ i → Goes whole (behind i new σ) k mid → Said whole σ k mid (Ok new)
  triggers_over h g = ends whole (gives σ (Ok new)) k mid mid σ (Ok new) (subst (λ l. Goes whole (bodies w o (map ready_of l) old new σ) k mid) (drop_all i hs h) g) (says σ (Ok new) mid)

-- 2. The asks of a body

pub last_behind : (x : Option Ask) (asks : List Ask) (q : Ask) → last_or x (asks ++ q ∷ []) ≡ Some q
last_behind x [] q = refl
last_behind x (a ∷ asks) q = last_behind (Some a) asks q

pub in_bound : (n : ℕ) → n < 2 ^ 64 - 1 → n < max_asks
unfolding max_asks
in_bound n h = h

module _ (w : Site) (r : Ready) (run : List Answer → Seen) (answers : List Answer) (b : Base) (s : Seen) where
  abbrev going : ℕ → Seen → Ask → Outcome Base Seen
  going n x q = and_then (serve w r x.room q b) (λ a b'. served n w r run (answers ++ a ∷ []) b')

  asks_at : (n : ℕ) (q : Ask) → run answers ≡ s → next_ask s ≡ Some q → served (suc n) w r run answers b ≡ going n s q
  asks_at n q is e = ap (λ (x : Seen). on_ask (next_ask x) x b (going n x)) is ∙ ap (λ o. on_ask o s b (going n s)) e

  done_at : (n : ℕ) → run answers ≡ s → next_ask s ≡ None → served n w r run answers b ≡ gives b s
  done_at zero is e = ap (gives b) is
  done_at (suc n) is e = ap (λ (x : Seen). on_ask (next_ask x) x b (going n x)) is ∙ ap (λ o. on_ask o s b (going n s)) e

  module _ (whole : Outcome Base Seen) (k mid : Keeper) where
    at_ask : (j : ℕ) (q : Ask) → j < max_asks → run answers ≡ s → next_ask s ≡ Some q → Goes whole (served (max_asks - j) w r run answers b) k mid → Goes whole (going (max_asks - (j + 1)) s q) k mid
    at_ask j q h is e g =
        let one : max_asks - j ≡ suc (max_asks - (j + 1)) = omega (arith, h) in
        subst (λ o. Goes whole o k mid) (ap (λ n. served n w r run answers b) one ∙ asks_at (max_asks - (j + 1)) q is e) g

    pub asked : (j room : ℕ) (q : Ask) (now : Keeper) (b' : Base) (a : Answer) → j < max_asks → run answers ≡ s → next_ask s ≡ Some q → room ≡ s.room
        → Goes whole (served (max_asks - j) w r run answers b) k mid → Said (serve w r room q b) b' mid now a → Goes whole (served (max_asks - (j + 1)) w r run (answers ++ a ∷ []) b') k now
    asked j room q now b' a h is e er g said =
        steps whole (serve w r s.room q b) (λ x y. served (max_asks - (j + 1)) w r run (answers ++ x ∷ []) y) k mid now b' a (at_ask j q h is e g)
        (subst (λ n. Said (serve w r n q b) b' mid now a) er said)

    pub ask_gives_up : (j room : ℕ) (q : Ask) (now : Keeper) (why : Halt) → j < max_asks → run answers ≡ s → next_ask s ≡ Some q → room ≡ s.room
        → Goes whole (served (max_asks - j) w r run answers b) k mid → GaveUp mid now (serve w r room q b).made why → GaveUp k now whole.made why
    ask_gives_up j room q now why h is e er g said =
        gave_up whole (going (max_asks - (j + 1)) s q) k mid now why (at_ask j q h is e g)
        (gave_up_more mid now (serve w r s.room q b).made _ why (subst (λ n. GaveUp mid now (serve w r n q b).made why) er said))

    pub ended : (n : ℕ) → run answers ≡ s → next_ask s ≡ None → Goes whole (served n w r run answers b) k mid → Said whole b k mid s
    ended n is e g = ends whole (gives b s) k mid mid b s (subst (λ o. Goes whole o k mid) (done_at n is e) g) (says b s mid)

pub asks_begin : (w : Site) (r : Ready) (run : List Answer → Seen) (b : Base) (k : Keeper) → Goes (served max_asks w r run [] b) (served (max_asks - 0) w r run [] b) k k
asks_begin w r run b k =
    let whole : max_asks - 0 ≡ max_asks = omega arith in
    subst (λ n. Goes (served max_asks w r run [] b) (served n w r run [] b) k k) (sym whole) (begins (served max_asks w r run [] b) k)

-- 3. A body that has ended

module _ (w : Site) (o : Op) (r : Ready) (old new : List Value) (σ : Doing) (k now : Keeper) where
  abbrev asked_for : Outcome Base Seen
  asked_for = served max_asks w r (run_of w o r old new σ) [] σ.base

  pub body_ends : (b : Base) (s : Seen) (d : Data) (made room : ℕ) (lines : List (List ℕ)) (v : Result (List Value) Code) → Said asked_for b k now s
      → d ≡ closed w b.data_now → made ≡ σ.steps + s.steps → room ≡ s.room → lines ≡ σ.lines ++ s.lines → ended_by s.standing (row_left o r new s.new) ≡ v
      → Said (body w o r old new σ) (record { base = with_data d b; steps = made; room = room; lines = lines }) k now v
  body_ends b s d made room lines v said e1 e2 e3 e4 e5 =
      let so : after_run w o r new σ s b ≡ gives (record { base = with_data d b; steps = made; room = room; lines = lines }) v =
      λ i. gives (record { base = with_data (sym e1 i) b; steps = sym e2 i; room = sym e3 i; lines = sym e4 i }) (e5 i) in
      then_gives asked_for (after_run w o r new σ) k now b s _ v said so

  pub body_gives_up : (why : Halt) → GaveUp k now asked_for.made why → GaveUp k now (body w o r old new σ).made why
  body_gives_up why h = then_gave_up asked_for (after_run w o r new σ) k now why h

-- 4. The rows

module _ (w : Site) (j : Work) (r : Taken) (new : List Value) (σ : Doing) (computed : new_values j.plan j.binds r ≡ Ok new) where
  abbrev pub befores : Outcome Doing (Result (List Value) Code)
  befores = bodies w j.operation j.before (old_values j.plan r) new σ

  row_is : one_row w j r σ ≡ then_run befores (changed w j r)
  row_is = ap (λ v. go_on (λ new σ'. then_run (bodies w j.operation j.before (old_values j.plan r) new σ') (changed w j r)) v σ) computed

  row_goes : (k : Keeper) → Goes (one_row w j r σ) (then_run befores (changed w j r)) k k
  row_goes k = subst (λ x. Goes (one_row w j r σ) x k k) row_is (begins (one_row w j r σ) k)

  module _ (n : ℕ) (rest : List Taken) (whole : Outcome Doing (Result ℕ Code)) (k mid : Keeper) (g : Goes whole (rows w j n (r ∷ rest) σ) k mid) where
    abbrev others : List Value → Doing → Outcome Doing (Result ℕ Code)
    others x τ = rows w j n rest τ

    -- its BEFORE triggers are refused, or give up
    pub before_fails : (now : Keeper) (s : Doing) (e : Failure) → Shows befores s mid now (Err e) → Shows whole s k now (Err e)
    before_fails now s e h = fails whole (one_row w j r σ) others k mid now s e g (fails (one_row w j r σ) befores (changed w j r) mid mid now s e (row_goes mid) h)

    -- its change, or its AFTER triggers
    pub after_fails : (mid' now : Keeper) (s s' : Doing) (new' : List Value) (e : Failure) → Said befores s mid mid' (Ok new') → Shows (changed w j r new' s) s' mid' now (Err e) → Shows whole s' k now (Err e)
    after_fails mid' now s s' new' (Refused code) h h' =
        fails whole (one_row w j r σ) others k mid now s' (Refused code) g
        (ends (one_row w j r σ) (changed w j r new' s) mid mid' now s' (Err code) (goes_on (one_row w j r σ) befores (changed w j r) mid mid mid' s new' (row_goes mid) h) h')
    after_fails mid' now s s' new' (Halted why) h h' =
        fails whole (one_row w j r σ) others k mid now s' (Halted why) g
        (gave_up (one_row w j r σ) (changed w j r new' s) mid mid' now why (goes_on (one_row w j r σ) befores (changed w j r) mid mid mid' s new' (row_goes mid) h) h')

    pub row_done : (mid' now : Keeper) (s s' : Doing) (new' x : List Value) → Said befores s mid mid' (Ok new') → Said (changed w j r new' s) s' mid' now (Ok x) → Goes whole (rows w j n rest s') k now
    row_done mid' now s s' new' x h h' =
        goes_on whole (one_row w j r σ) others k mid now s' x g
        (ends (one_row w j r σ) (changed w j r new' s) mid mid' now s' (Ok x) (goes_on (one_row w j r σ) befores (changed w j r) mid mid mid' s new' (row_goes mid) h) h')

module _ (w : Site) (j : Work) (r : Taken) (σ : Doing) where
  -- an expression of its raises a code
  pub row_refused : (n : ℕ) (rest : List Taken) (whole : Outcome Doing (Result ℕ Code)) (k mid : Keeper) (code : Code) → new_values j.plan j.binds r ≡ Err code → Goes whole (rows w j n (r ∷ rest) σ) k mid → Said whole σ k mid (Err code)
  row_refused n rest whole k mid code e g =
      let is : one_row w j r σ ≡ gives σ (Err code) = ap (λ v. go_on (λ new σ'. then_run (bodies w j.operation j.before (old_values j.plan r) new σ') (changed w j r)) v σ) e in
      fails whole (one_row w j r σ) (λ x τ. rows w j n rest τ) k mid mid σ (Refused code) g (subst (λ x. Said x σ mid mid (Err code)) (sym is) (says σ (Err code) mid))

  pub changed_is : (new : List Value) (d : Data) → written σ.base.data_now w.tx j.plan r new ≡ Ok d → changed w j r new σ ≡ bodies w j.operation j.after (old_values j.plan r) (after_values j.plan new) (at_data d σ)
  changed_is new d e = ap (λ v. go_on (λ d σ'. bodies w j.operation j.after (old_values j.plan r) (after_values j.plan new) (at_data d σ')) v σ) e

  pub change_refused : (new : List Value) (k : Keeper) (code : Code) → written σ.base.data_now w.tx j.plan r new ≡ Err code → Said (changed w j r new σ) σ k k (Err code)
  change_refused new k code e =
      let is : changed w j r new σ ≡ gives σ (Err code) = ap (λ v. go_on (λ d σ'. bodies w j.operation j.after (old_values j.plan r) (after_values j.plan new) (at_data d σ')) v σ) e in
      subst (λ x. Said x σ k k (Err code)) (sym is) (says σ (Err code) k)

-- bodies over what a call was lent
pub of_slices : (w : Site) (o : Op) (hs ts : List Held) (xs ys new : List Value) (σ τ : Doing) (k now : Keeper) (r : Result (List Value) Failure) (Q : List Held → Type 0) → hs ≡ ts → xs ≡ ys
    → (Q hs → Shows (bodies w o (map ready_of hs) xs new σ) τ k now r) → Q ts → Shows (bodies w o (map ready_of ts) ys new σ) τ k now r
of_slices w o hs ts xs ys new σ τ k now r Q e e' h =
    subst (λ l. Q l → Shows (bodies w o (map ready_of l) ys new σ) τ k now r) e (subst (λ y. Q hs → Shows (bodies w o (map ready_of hs) y new σ) τ k now r) e' h)
