-- What a session does with an answer.
use Rattle.std.proofs.Common.{ℕ, zero, suc, ◌≡◌, ◌+◌, ◌-◌, ◌≤◌, Bool, true, false, if◌then◌else◌, List, [], ◌∷◌, ◌++◌, codes, length, drop, slice_get, Option, Some, None, refl, sym, ◌∙◌, ap, subst, arith, append_assoc, length-append, true≢false, Result, Ok, Err, OnErr, IsErr}
use Rattle.std.proofs.lemmas.List.{length-take}
use Rattle.std.proofs.lemmas.List.Elements.{All-tail}
use Rattle.ebr_base.specs.declared.code.Code.{Code}
use Rattle.ebr_base.specs.declared.numbers.EditionNo.{EditionNo}
use Rattle.ebr_base.specs.Code.{code_text}
use Rattle.ebr_asks.specs.declared.ask.Ask.{Ask}
use Rattle.ebr_asks.specs.declared.ask.Ask.TheVariants as ask
use Rattle.ebr_asks.specs.declared.answer.Answer.{Answer}
use Rattle.ebr_asks.specs.declared.entry.Exchange.{Exchange}
use Rattle.ebr_code.specs.Books.{Book}
use Rattle.ebr_run.specs.Packages.{PackageState}
use Rattle.ebr_script.specs.declared.piece.Piece.{Piece}
use Rattle.ebr_script.specs.Pieces.{KeepsText, LiesWithin, text_of}
use Rattle.ebr_machine.specs.declared.machine.Machine.{Machine}
use Rattle.ebr_machine.specs.declared.next.End.{End}
use Rattle.ebr_machine.specs.declared.next.Next.{Next}
use Rattle.ebr_machine.specs.declared.next.Next.TheVariants as next
use Rattle.ebr_machine.specs.Has.{IsAsk, IsOut, SaysAsk}
use Rattle.ebr_calls.specs.declared.levels.Levels.{Levels}
use Rattle.ebr_calls.specs.Levels.{OpensBy}
use Rattle.ebr_calls.specs.Asked.{IsOfRun}
use Rattle.ebr_calls.specs.Steps.{Step, line_of, most_steps, printing, result_lines, then_run}
use Rattle.ebr_calls.specs.Courses.{Comes, Course, GoesOn, finishing, Place, place, state_at}
use Rattle.ebr_calls.proofs.Going.{goes_printed}
use Rattle.ebr_session.specs.declared.after.After.TheVariants as after
use Rattle.ebr_session.specs.declared.after.Request.{Request}
use Rattle.ebr_session.specs.declared.script.Turn.{Turn}
use Rattle.ebr_session.specs.declared.script.Turn.TheVariants as turn
use Rattle.ebr_session.specs.declared.work.Stage.TheVariants as stage
use Rattle.ebr_session.specs.declared.work.Work.{Work}
use Rattle.ebr_session.specs.Has.{IsFit, most_bytes}
use Rattle.ebr_session.specs.Sessions.{run_piece}
use Rattle.ebr_session.specs.inside.Kept.{last_of}
use Rattle.ebr_session.specs.inside.Requests.{AsksBy, IsRead, IsTurn, Reading, Stays, Takes, behind, packages_behind, rest_of}
use Rattle.ebr_session.specs.inside.Stages.{Awaits, Goes, Leaves, Requests, Runs, here}
use Rattle.ebr_session.proofs.Asking.{goes_edition}

-- ---- texts

pub text_small : (script : List ℕ) (p : Piece) → length script ≤ most_bytes → length (text_of script p) ≤ most_bytes
unfolding text_of
text_small script p h =
    let a = length-take (p.text_end - p.from) (drop p.from script) in
    let b = short p.from script in
    omega (arith, a, b, h)
  where
    short : (n : ℕ) (xs : List ℕ) → length (drop n xs) ≤ length xs
    short zero xs = omega arith
    short (suc n) [] = omega arith
    short (suc n) (x ∷ xs) = let l = short n xs in omega (arith, l)

-- ---- pieces

-- A piece was taken.
pub takes_piece : (t : Turn) (script : List ℕ) (p : Piece) (old new : List Piece) → old ≡ p ∷ new → IsTurn t (run_piece p.what (text_of script p)) → Takes t (record { script = script; left = old }) (record { script = script; left = new })
takes_piece turn.Ends script p old new e h = absurd h
takes_piece (turn.Asks r) script p old new e h = record { piece = p; left = e; step = run_piece p.what (text_of script p); turn = h; is = λ σ. ap (λ l. rest_of (record { script = script; left = l }) σ) e }
takes_piece (turn.Prints c) script p old new e h = record { piece = p; left = e; step = run_piece p.what (text_of script p); turn = h; is = λ σ. ap (λ l. rest_of (record { script = script; left = l }) σ) e }

pub read_less : (script : List ℕ) (p : Piece) (old new : List Piece) → old ≡ p ∷ new → IsRead script old → IsRead script new
read_less script p old new e h = let k = subst (IsRead script) e h in record { small = k.small; within = All-tail (LiesWithin script) p new k.within; texts = All-tail (KeepsText script) p new k.texts }

-- What reading pieces keeps: the rest of the script is to be done.
pub record ReadsOn {B : Type 0} (first now : Work B) (before left : Reading) : Type 0 where
  pub script : left.script ≡ before.script
  pub goes : (f : Course) (made : List Ask) (printed : List ℕ) → GoesOn f (rest_of before) (here made printed first) → GoesOn f (rest_of left) (here made printed now)

-- ---- requests

-- a step that makes a request
pub requested : (r : Request) (step : Step) (f : Course) (rest : Step) (p : Place) → AsksBy r step → GoesOn f (λ σ. then_run (step σ) rest) p → Requests r.after r.ask f rest p
requested r step f rest p h was = record { fit = h.fit; stays = h.stays; goes = record { by = λ coming quit. was.by coming quit ∙ ap (λ o. then_run o rest) (h.is (state_at p coming quit)) } }

pub asked_as : {B : Type 0} (serves : B → EditionNo → Book) (w w' : Work B) (q : Ask) (r : Request) (f : Course) (rest : Step) (made : List Ask) (printed : List ℕ) → q ≡ r.ask → w' ≡ record w { stage = stage.Plain r.after }
    → Requests r.after r.ask f rest (here made printed w) → Awaits serves w'.stage q f rest (here made printed w')
asked_as serves w w' q r f rest made printed e k h =
    subst (λ (v : Work _). Awaits serves v.stage q f rest (here made printed v)) (sym k) (subst (λ a. Requests r.after a f rest (here made printed w)) (sym e) h)

-- ---- answers

-- Something was printed, and nothing is asked.
pub printed_on : {B : Type 0} (serves : B → EditionNo → Book) (w w' : Work B) (o : Option Ask) (t : List ℕ) (f : Course) (rest : Step) (made : List Ask) (printed : List ℕ) → o ≡ None → w' ≡ record w { fresh = w.fresh ++ t }
    → GoesOn f (λ σ. then_run (printing t σ) rest) (here made printed w) → Goes serves o w'.stage f rest (here made printed w')
printed_on serves w w' o t f rest made printed e k was =
    subst (λ (v : Work _). Goes serves o v.stage f rest (here made printed v)) (sym k)
    (subst (λ a. Goes serves a w.stage f rest (here made printed (record w { fresh = w.fresh ++ t }))) (sym e)
    (subst (λ l. GoesOn f rest (place made l w.packages w.room)) (append_assoc printed w.fresh t) (goes_printed f t rest (here made printed w) was)))

-- The same of SET EDITION.
pub edition_on : {B : Type 0} (serves : B → EditionNo → Book) (x : Answer) (w w' : Work B) (o : Option Ask) (f : Course) (rest : Step) (made : List Ask) (printed : List ℕ) → o ≡ None
    → w' ≡ record w { fresh = w.fresh ++ result_lines (codes "OK") x; packages = packages_behind x w.packages }
    → GoesOn f (λ σ. then_run (behind after.SetEdition x σ) rest) (here made printed w) → Goes serves o w'.stage f rest (here made printed w')
edition_on serves x w w' o f rest made printed e k was =
    subst (λ (v : Work _). Goes serves o v.stage f rest (here made printed v)) (sym k)
    (subst (λ a. Goes serves a w.stage f rest (here made printed (record w { fresh = w.fresh ++ result_lines (codes "OK") x; packages = packages_behind x w.packages }))) (sym e)
    (subst (λ l. GoesOn f rest (place made l (packages_behind x w.packages) w.room)) (append_assoc printed w.fresh (result_lines (codes "OK") x)) (goes_edition x f rest (here made printed w) was)))

-- ---- blocks

pub valid_goes : (b : Bool) (one other : Step) (f : Course) (rest : Step) (p : Place) → b ≡ true → GoesOn f (λ σ. then_run (if b then one σ else other σ) rest) p → GoesOn f (λ σ. then_run (one σ) rest) p
valid_goes b one other f rest p e was = subst (λ (c : Bool). GoesOn f (λ σ. then_run (if c then one σ else other σ) rest) p) e was

pub invalid_goes : (b : Bool) (one other : Step) (f : Course) (rest : Step) (p : Place) → b ≡ false → GoesOn f (λ σ. then_run (if b then one σ else other σ) rest) p → GoesOn f (λ σ. then_run (other σ) rest) p
invalid_goes b one other f rest p e was = subst (λ (c : Bool). GoesOn f (λ σ. then_run (if c then one σ else other σ) rest) p) e was

-- An ask of a run is fit, and no Leave.
fits_run : (q : Ask) → IsOfRun most_steps q → IsFit q × Stays q
fits_run (ask.Sql s binds left) h = (h, tt)
fits_run ask.Begin h = absurd h
fits_run ask.Commit h = (tt, tt)
fits_run ask.Rollback h = (tt, tt)
fits_run (ask.Savepoint n) h = (tt, tt)
fits_run (ask.BackTo n) h = (tt, tt)
fits_run (ask.Ddl what text) h = absurd h
fits_run (ask.SetEdition n) h = absurd h
fits_run ask.PushAuto h = (tt, tt)
fits_run (ask.PopAuto failed) h = (tt, tt)
fits_run (ask.EndCall failed) h = absurd h
fits_run ask.Leave h = absurd h

-- A run has made an ask.
pub run_goes_on : {B : Type 0} (serves : B → EditionNo → Book) (b b' : B) (m m' : Machine) (shown : ℕ) (l : Levels) (n : Next) (q : Ask) (f : Course) (rest : Step) (made : List Ask) (printed : List ℕ) (packages : List PackageState) (room : ℕ)
    → n ≡ next.Ask q → b' ≡ b → m'.edition ≡ m.edition → room ≡ m'.inner.room → Comes n (serves b m.edition) f m' shown l.now rest (place made printed packages m'.inner.room)
    → (IsAsk n → IsOut m') → SaysAsk n m'.inner.ask → (IsAsk n → OpensBy m'.inner.ask l) → Runs (serves b' m'.edition) m' shown l q f rest (place made printed packages room)
run_goes_on serves b b' m m' shown l n q f rest made printed packages room e same at size comes out says opens =
    let c = subst (λ n. Comes n (serves b m.edition) f m' shown l.now rest (place made printed packages m'.inner.room)) e comes in
    let i : IsAsk n = subst IsAsk (sym e) tt in
    let s = subst (λ n. SaysAsk n m'.inner.ask) e says in
    let k = fits_run q c.2 in
    subst (λ (codes : Book). Runs codes m' shown l q f rest (place made printed packages room)) (sym (λ j. serves (same j) (at j)))
    (subst (λ r. Runs (serves b m.edition) m' shown l q f rest (place made printed packages r)) (sym size)
    (record { fit = k.0; stays = k.1; asks = c.0; is_in = c.1; opens = subst (λ a. OpensBy a l) (sym s) (opens i); out = out i; is = s }))

-- A run has ended.
pub run_ends_on : (codes : Book) (m : Machine) (shown levels : ℕ) (l : Levels) (n : Next) (how : End) (r : Request) (f : Course) (rest : Step) (made : List Ask) (printed : List ℕ) (packages : List PackageState) (room : ℕ)
    → n ≡ next.Done how → levels ≡ l.now → room ≡ m.inner.room → AsksBy r (finishing how levels) → Comes n codes f m shown l.now rest (place made printed packages m.inner.room) → Requests r.after r.ask f rest (place made printed packages room)
run_ends_on codes m shown levels l n how r f rest made printed packages room e k size by comes =
    let c = subst (λ n. Comes n codes f m shown l.now rest (place made printed packages m.inner.room)) e comes in
    let d = subst (λ i. GoesOn f (λ σ. then_run (finishing how i σ) rest) (place made printed packages m.inner.room)) (sym k) c in
    requested r (finishing how levels) f rest (place made printed packages room) by (subst (λ i. GoesOn f (λ σ. then_run (finishing how levels σ) rest) (place made printed packages i)) (sym size) d)

-- ---- what the next piece asks

pub read_asks : (t : Turn) (r : Request) (old new : Reading) (f : Course) (p : Place) → t ≡ turn.Asks r → Takes t old new → GoesOn f (rest_of old) p → Requests r.after r.ask f (rest_of new) p
read_asks t r old new f p e takes was =
    let k = subst (λ t. Takes t old new) e takes in
    requested r k.step f (rest_of new) p k.turn (record { by = λ coming quit. was.by coming quit ∙ k.is (state_at p coming quit) })

pub read_prints : {B : Type 0} (t : Turn) (c : Code) (old new : Reading) (w w' : Work B) (f : Course) (made : List Ask) (printed : List ℕ) → t ≡ turn.Prints c → Takes t old new → w' ≡ record w { fresh = w.fresh ++ line_of (code_text c) }
    → GoesOn f (rest_of old) (here made printed w) → GoesOn f (rest_of new) (here made printed w')
read_prints t c old new w w' f made printed e takes k was =
    let d = subst (λ t. Takes t old new) e takes in
    let l = line_of (code_text c) in
    let g : GoesOn f (λ σ. then_run (printing l σ) (rest_of new)) (here made printed w) = record { by = λ coming quit. was.by coming quit ∙ d.is (state_at (here made printed w) coming quit) ∙ ap (λ o. then_run o (rest_of new)) (d.turn (state_at (here made printed w) coming quit)) } in
    subst (λ (v : Work _). GoesOn f (rest_of new) (here made printed v)) (sym k) (subst (λ y. GoesOn f (rest_of new) (place made y w.packages w.room)) (append_assoc printed w.fresh l) (goes_printed f l (rest_of new) (here made printed w) g))

pub read_ends : (t : Turn) (old new : Reading) (f : Course) (p : Place) → t ≡ turn.Ends → Takes t old new → GoesOn f (rest_of old) p → Leaves ask.Leave f p
read_ends t old new f p e takes was =
    let d = subst (λ t. Takes t old new) e takes in
    record { leave = refl; goes = record { by = λ coming quit. was.by coming quit ∙ d (state_at p coming quit) } }

pub reads_less : (t : Turn) (c : Code) (old new : Reading) → t ≡ turn.Prints c → Takes t old new → length old.left ≡ suc (length new.left)
reads_less t c old new e takes = let d = subst (λ t. Takes t old new) e takes in ap length d.left

-- ---- what is held

pub failed_too : {T U E : Type 0} (r : Result T E) (d : Result U E) (P : Type 0) → OnErr r (IsErr d) → OnErr d P → OnErr r P
failed_too (Ok x) d P h k = tt
failed_too (Err e) (Ok u) P h k = absurd (true≢false (sym h))
failed_too (Err e) (Err e') P h k = k

-- ---- the last answer

pub last_more : (mine : List Exchange) (e : Exchange) → last_of (mine ++ e ∷ []) ≡ Some e
last_more mine e = ap (λ n. slice_get (mine ++ e ∷ []) (n - 1)) (length-append mine (e ∷ [])) ∙ ap (slice_get (mine ++ e ∷ [])) (less (length mine)) ∙ at_end mine e
  where
    less : (n : ℕ) → n + 1 - 1 ≡ n
    less n = omega arith

    at_end : (mine : List Exchange) (e : Exchange) → slice_get (mine ++ e ∷ []) (length mine) ≡ Some e
    at_end [] e = refl
    at_end (x ∷ mine) e = at_end mine e
