-- What a session asks next.
use Rattle.std.proofs.Common.{ℕ, zero, suc, ◌≡◌, Bool, true, false, if◌then◌else◌, List, [], ◌∷◌, ◌++◌, codes, Option, Some, None, refl, sym, ◌∙◌, ap, subst, append_assoc, append-nil}
use Rattle.ebr_base.specs.declared.code.Code.{Code}
use Rattle.ebr_base.specs.declared.code.Code.TheVariants.{Ora}
use Rattle.ebr_base.specs.declared.numbers.EditionNo.{EditionNo}
use Rattle.ebr_base.specs.Code.{code_text}
use Rattle.ebr_ast.specs.declared.definition.Statement.{Statement}
use Rattle.ebr_ast.specs.declared.definition.Statement.TheVariants as statement
use Rattle.ebr_ast.specs.declared.statement.Block.{Block}
use Rattle.ebr_ast.specs.declared.unit.UnitTree.TheVariants as unit
use Rattle.ebr_ast.specs.declared.view.EditionView.{EditionView}
use Rattle.ebr_validity.specs.Verdict.{is_valid}
use Rattle.ebr_asks.specs.declared.ask.Ask.{Ask}
use Rattle.ebr_asks.specs.declared.ask.Ask.TheVariants as ask
use Rattle.ebr_asks.specs.declared.answer.Answer.{Answer}
use Rattle.ebr_asks.specs.declared.answer.Answer.TheVariants as answer
use Rattle.ebr_code.specs.Books.{Book}
use Rattle.ebr_laws.specs.Served.{HasCodeOf}
use Rattle.ebr_script.specs.declared.piece.Piece.{Piece}
use Rattle.ebr_script.specs.declared.piece.PieceKind.{PieceKind}
use Rattle.ebr_script.specs.declared.piece.PieceKind.TheVariants as piece
use Rattle.ebr_script.specs.Pieces.{text_of}
use Rattle.ebr_calls.specs.Steps.{Step, asked, closing, ending, leaving, printing, printing_result, result_lines, run_valid, then_run}
use Rattle.ebr_calls.specs.Continuation.{Continues}
use Rattle.ebr_calls.specs.Courses.{Asks, AsksNext, Course, GoesOn, Place, place, with_answer, with_ask}
use Rattle.ebr_calls.proofs.Going.{asks_next, asks_then, goes_answered, goes_printed, leaves_next}
use Rattle.ebr_calls.proofs.NextAsks.{begins_next, goes_next}
use Rattle.ebr_session.specs.declared.after.After.{After}
use Rattle.ebr_session.specs.declared.after.After.TheVariants as after
use Rattle.ebr_session.specs.declared.work.Stage.{Stage}
use Rattle.ebr_session.specs.declared.work.Stage.TheVariants as stage
use Rattle.ebr_session.specs.Has.{IsFit, Suits}
use Rattle.ebr_session.specs.Transcripts.{IsPrefix}
use Rattle.ebr_session.specs.Sessions.{printing_edition, run_piece, run_pieces, run_statement}
use Rattle.ebr_session.specs.inside.Requests.{Stays, behind, packages_behind}
use Rattle.ebr_session.specs.inside.Stages.{Awaits, IsReady}
use Rattle.ebr_session.specs.inside.Holds.{WillAsk}

-- ---- prefixes

pub prefix_same : (xs ys : List ℕ) → ys ≡ xs → IsPrefix xs ys
prefix_same xs ys e = record { rest = []; whole = e ∙ sym (append-nil xs) }

pub prefix_more : (xs t : List ℕ) → IsPrefix xs (xs ++ t)
prefix_more xs t = record { rest = t; whole = refl }

pub prefix_trans : (xs ys zs : List ℕ) → IsPrefix xs ys → IsPrefix ys zs → IsPrefix xs zs
prefix_trans xs ys zs h k = record { rest = h.rest ++ k.rest; whole = k.whole ∙ (ap (λ l. l ++ k.rest) h.whole ∙ append_assoc xs h.rest k.rest) }

-- ---- steps

-- SET EDITION was answered.
pub goes_edition : (x : Answer) (f : Course) (rest : Step) (p : Place) → GoesOn f (λ σ. then_run (printing_edition x σ) rest) p
    → GoesOn f rest (place p.asks (p.printed ++ result_lines (codes "OK") x) (packages_behind x p.packages) p.room)
goes_edition answer.Done f rest p was = record { by = was.by }
goes_edition (answer.View v) f rest p was = record { by = was.by }
goes_edition (answer.Rows rows) f rest p was = record { by = was.by }
goes_edition (answer.Count n s l) f rest p was = record { by = was.by }
goes_edition answer.Invalid f rest p was = record { by = was.by }
goes_edition (answer.Refused c s l) f rest p was = record { by = was.by }
goes_edition answer.DiskFault f rest p was = record { by = was.by }
goes_edition answer.NoMemory f rest p was = record { by = was.by }
goes_edition answer.Stopped f rest p was = record { by = was.by }

-- ---- the next ask

-- what goes on so has a next ask
abbrev pub HasNext : Step → Type 0
HasNext step = (f : Course) (p : Place) → GoesOn f step p → WillAsk f p.asks p.printed

-- it is this one
pub will_ask : (f : Course) (q : Ask) (p : Place) → AsksNext f q p → WillAsk f p.asks p.printed
will_ask f q p h = record { ask = q; at = p; asks_are = refl; more = prefix_same p.printed p.printed refl; will = h }

pub next_asked : (q : Ask) (k : Answer → Step) (rest : Step) → HasNext (λ σ. then_run (asked q k σ) rest)
next_asked q k rest f p was = will_ask f q p (asks_next f q p (asks_then f q k rest p was))

-- behind more that is printed
pub will_print : (f : Course) (made : List Ask) (printed t : List ℕ) → WillAsk f made (printed ++ t) → WillAsk f made printed
will_print f made printed t h = record { ask = h.ask; at = h.at; asks_are = h.asks_are; more = prefix_trans printed (printed ++ t) h.at.printed (prefix_more printed t) h.more; will = h.will }

pub next_printed : (t : List ℕ) (rest : Step) → HasNext rest → HasNext (λ σ. then_run (printing t σ) rest)
next_printed t rest h f p was = will_print f p.asks p.printed t (h f (record p { printed = p.printed ++ t }) (goes_printed f t rest p was))

next_closing : (n : ℕ) (c : Code) (rest : Step) → HasNext (λ σ. then_run (closing n (ending true (code_text c)) σ) rest)
next_closing zero c rest = next_asked (ask.EndCall true) (printing_result (code_text c)) rest
next_closing (suc n) c rest = next_asked (ask.PopAuto true) (λ x. closing n (ending true (code_text c))) rest

next_statement : (s : Statement) (text : List ℕ) (rest : Step) → HasNext (λ σ. then_run (run_statement s text σ) rest)
next_statement (statement.Sql t) text rest = next_asked _ _ rest
next_statement (statement.Transaction t) text rest = next_asked _ _ rest
next_statement (statement.SetEdition name) text rest = next_asked _ _ rest
next_statement (statement.Definition what) text rest = next_asked _ _ rest
next_statement (statement.Block b) text rest = next_asked _ _ rest

next_piece : (k : PieceKind) (text : List ℕ) (rest : Step) → HasNext rest → HasNext (λ σ. then_run (run_piece k text σ) rest)
next_piece (piece.Refused c) text rest h = next_printed _ rest h
next_piece (piece.Tree s) text rest h = next_statement s text rest

pub next_pieces : (script : List ℕ) (pieces : List Piece) → HasNext (run_pieces script pieces)
next_pieces script [] = λ f p was. will_ask f ask.Leave p (leaves_next f p was)
next_pieces script (x ∷ pieces) = next_piece x.what (text_of script x) (run_pieces script pieces) (next_pieces script pieces)

next_seen : (b : Bool) (served : Book) (v : EditionView) (t : Block) (rest : Step) → HasCodeOf v served → HasNext (λ σ. then_run (if b then run_valid v t σ else ending true (code_text (Ora 6550)) σ) rest)
next_seen false served v t rest h = next_asked (ask.EndCall true) (printing_result (code_text (Ora 6550))) rest
next_seen true served v t rest h = λ f p was.
    let n = begins_next served v t f rest p h was in
    record { ask = n.ask; at = _; asks_are = append-nil p.asks; more = prefix_more p.printed _; will = asks_next f n.ask _ n.asks }

next_begun : {B : Type 0} (serves : B → EditionNo → Book) (t : Block) (x : Answer) (book : Option B) (rest : Step) → HasNext rest → Suits serves x book → HasNext (λ σ. then_run (behind (after.Begin t) x σ) rest)
next_begun serves t (answer.View v) (Some b) rest h s = next_seen (is_valid v (unit.Block t)) (serves b v.edition) v t rest s.1
next_begun serves t (answer.View v) None rest h s = absurd s
next_begun serves t (answer.Rows rows) book rest h s = next_printed _ rest h
next_begun serves t (answer.Count n m l) book rest h s = next_printed _ rest h
next_begun serves t answer.Done book rest h s = next_printed _ rest h
next_begun serves t answer.Invalid book rest h s = next_printed _ rest h
next_begun serves t (answer.Refused c m l) book rest h s = next_printed _ rest h
next_begun serves t answer.DiskFault book rest h s = next_printed _ rest h
next_begun serves t answer.NoMemory book rest h s = next_printed _ rest h
next_begun serves t answer.Stopped book rest h s = next_printed _ rest h

next_behind : {B : Type 0} (serves : B → EditionNo → Book) (a : After) (x : Answer) (book : Option B) (rest : Step) → HasNext rest → Suits serves x book → HasNext (λ σ. then_run (behind a x σ) rest)
next_behind serves (after.Print s) x book rest h k = next_printed _ rest h
next_behind serves after.SetEdition x book rest h k = λ f p was.
    will_print f p.asks p.printed (result_lines (codes "OK") x) (h f (place p.asks (p.printed ++ result_lines (codes "OK") x) (packages_behind x p.packages) p.room) (goes_edition x f rest p was))
next_behind serves (after.Begin t) x book rest h k = next_begun serves t x book rest h k
next_behind serves (after.Close n c) x book rest h k = next_closing n c rest

-- ---- asks that are out

pub awaits_asks : {B : Type 0} (serves : B → EditionNo → Book) (s : Stage B) (q : Ask) (f : Course) (rest : Step) (p : Place) → Stays q → Awaits serves s q f rest p → Asks f q p
awaits_asks serves stage.Start q f rest p st h = absurd h
awaits_asks serves (stage.Plain a) q f rest p st h = asks_then f q (behind a) rest p h.goes
awaits_asks serves (stage.Run c) q f rest p st h = h.asks
awaits_asks serves stage.Leaving q f rest p st h = absurd (subst Stays h.leave st)

pub awaits_next : {B : Type 0} (serves : B → EditionNo → Book) (s : Stage B) (q : Ask) (f : Course) (rest : Step) (p : Place) → Awaits serves s q f rest p → AsksNext f q p
awaits_next serves stage.Start q f rest p h = absurd h
awaits_next serves (stage.Plain a) q f rest p h = asks_next f q p (asks_then f q (behind a) rest p h.goes)
awaits_next serves (stage.Run c) q f rest p h = asks_next f q p h.asks
awaits_next serves stage.Leaving q f rest p h = subst (λ a. AsksNext f a p) (sym h.leave) (leaves_next f p h.goes)

pub awaits_fit : {B : Type 0} (serves : B → EditionNo → Book) (s : Stage B) (q : Ask) (f : Course) (rest : Step) (p : Place) → Awaits serves s q f rest p → IsFit q
awaits_fit serves stage.Start q f rest p h = absurd h
awaits_fit serves (stage.Plain a) q f rest p h = h.fit
awaits_fit serves (stage.Run c) q f rest p h = h.fit
awaits_fit serves stage.Leaving q f rest p h = subst IsFit (sym h.leave) tt

pub awaits_ready : {B : Type 0} (serves : B → EditionNo → Book) (s : Stage B) (q : Ask) (f : Course) (rest : Step) (p : Place) → Awaits serves s q f rest p → IsReady s
awaits_ready serves stage.Start q f rest p h = tt
awaits_ready serves (stage.Plain a) q f rest p h = tt
awaits_ready serves (stage.Run c) q f rest p h = h.out
awaits_ready serves stage.Leaving q f rest p h = tt

-- Leave is out at the end alone.
pub awaits_leave : {B : Type 0} (serves : B → EditionNo → Book) (s : Stage B) (f : Course) (rest : Step) (p : Place) → Awaits serves s ask.Leave f rest p → GoesOn f leaving p
awaits_leave serves stage.Start f rest p h = absurd h
awaits_leave serves (stage.Plain a) f rest p h = absurd h.stays
awaits_leave serves (stage.Run c) f rest p h = absurd h.stays
awaits_leave serves stage.Leaving f rest p h = h.goes

-- The answer to an ask that is out was taken.
pub will_answered : {B : Type 0} (serves : B → EditionNo → Book) (s : Stage B) (q : Ask) (x : Answer) (book : Option B) (f : Course) (rest : Step) (p : Place) → HasNext rest
    → Stays q → Continues x → Suits serves x book → Awaits serves s q f rest p → WillAsk (with_answer x f) (p.asks ++ q ∷ []) p.printed
will_answered serves stage.Start q x book f rest p n st c k h = absurd h
will_answered serves (stage.Plain a) q x book f rest p n st c k h = next_behind serves a x book rest n k (with_answer x f) (with_ask q p) (goes_answered f q (behind a) rest p x c h.goes)
will_answered serves (stage.Run r) q x book f rest p n st c k h =
    let i = goes_next (serves r.value.book r.value.machine.edition) f r.value.machine r.value.shown r.value.levels.now rest p h.is_in h.out x c in
    record { ask = i.next.ask; at = i.at; asks_are = i.asks_are ∙ ap (λ a. p.asks ++ a ∷ []) (sym h.is); more = record { rest = i.rest; whole = i.printed_is }; will = asks_next (with_answer x f) i.next.ask i.at i.next.asks }
will_answered serves stage.Leaving q x book f rest p n st c k h = absurd (subst Stays h.leave st)
