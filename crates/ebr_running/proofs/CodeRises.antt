-- No code takes steps or lines back.
use Rattle.std.proofs.Common.{◌≡◌, ℕ, suc, ◌-◌, Bool, List, [], ◌∷◌, map, Option, Some, None, Ok, Err, refl, sym, subst, arith}
use Rattle.std.specs.Prelude.{nat_eq, length, slice_get, int_lt, unsigned_abs, ◌-ℤ◌}
use Rattle.ebr_base.specs.declared.code.Code.{Code}
use Rattle.ebr_base.specs.declared.value.Value.{Value}
use Rattle.ebr_base.specs.declared.value.Value.TheVariants as value
use Rattle.ebr_exprtree.specs.declared.expression.RowImage.{RowImage}
use Rattle.ebr_exprtree.specs.declared.expression.RowImage.TheVariants as image
use Rattle.ebr_value.specs.declared.form.Place.TheVariants.{Code as InCode}
use Rattle.ebr_value.specs.Forms.{binary, function}
use Rattle.ebr_value.specs.Outcomes.{Outcome as Computed}
use Rattle.ebr_value.specs.Texts.{printed}
use Rattle.ebr_expr.specs.Operators.{unsigned, decided}
use Rattle.ebr_asks.specs.declared.ask.Ask.TheVariants as ask
use Rattle.ebr_asks.specs.declared.answer.Answer.{Answer}
use Rattle.ebr_asks.specs.declared.answer.Answer.TheVariants as answer
use Rattle.ebr_scope.specs.Meanings.{Word}
use Rattle.ebr_sqlcheck.specs.Types.{Known}
use Rattle.ebr_run.specs.declared.callee.Callee.{Callee}
use Rattle.ebr_run.specs.declared.callee.Reference.{Reference}
use Rattle.ebr_run.specs.declared.fault.Fault.{Fault}
use Rattle.ebr_run.specs.declared.place.Location.{Location}
use Rattle.ebr_run.specs.declared.place.Location.TheVariants.{Own, Member}
use Rattle.ebr_run.specs.Faults.{ora, is_caught}
use Rattle.ebr_run.specs.Cursors.{Cursor, Closed, Open as Opened, is_open, attribute_of, Fetched, Unopened, NoRow, Unfit, Row as Found, row_fits, fetched}
use Rattle.ebr_run.specs.Packages.{PackageState, state_of}
use Rattle.ebr_run.specs.State.{State, Outcome, End, Runs, Row, Normal, Exit, Continue, Stopped, bare, with_operands, done, when_done}
use Rattle.ebr_run.specs.Values.{when_fit, unfit, on_value, on_some, on_member, is_true, read, write, with_variable, cursor_at, with_cursor, moved_on, with_fault, on_fault, number_of, on_row, set_new}
use Rattle.ebr_run.specs.Expressions.{Calls, Then, give_on}
use Rattle.ebr_run.specs.Statements.{over_numbers, in_turn, only_row, changed, transact, result_given}
use Rattle.ebr_code.specs.declared.instruction.Lookup.{Lookup}
use Rattle.ebr_code.specs.declared.instruction.Lookup.TheVariants as lookup
use Rattle.ebr_code.specs.declared.instruction.Handler.{Handler}
use Rattle.ebr_code.specs.declared.instruction.Operation.{Operation}
use Rattle.ebr_code.specs.declared.instruction.Operation.TheVariants as does
use Rattle.ebr_code.specs.declared.instruction.Instruction.{Instruction}
use Rattle.ebr_code.specs.declared.instruction.Instruction.TheOpen.{Instruction-F, Handler-F}
use Rattle.ebr_code.specs.declared.instruction.Instruction.TheOpen as code
use Rattle.ebr_code.specs.declared.instruction.Instruction.TheViews.{roll-Instruction, roll-Handler}
use Rattle.ebr_code.specs.declared.instruction.Instruction.TheFolds.{fold-roll-Instruction, fold-roll-Handler, map-Instruction, map-Handler, ind-Instruction, ind-Handler, claims}
use Rattle.ebr_code.specs.declared.instruction.Instruction.TheBlock.{the_family, member-Instruction, member-Handler}
use denote.Hole.Holds.{Such}
use Rattle.ebr_code.specs.Instructions.{Meaning, push, pop_from, pop, last, beneath, holding, above, run_all, rows_to, count_to, looked_up, row_fetched, catches, Handling, handled, load_column, decide, operate, act, handler, meaning_of, handling_of, run}
use Rattle.ebr_running.proofs.Rises.{Rises, Grows, same, Keeps, kept_at, kept_done, kept_then, onto, either, go_on_grows, step_grows, loop_grows, counting_grows, catch_on_grows, finish_on_grows, line_grows, asked_grows, when_done_grows}

pub record CallsGrow (calls : Calls) : Type 0 where
  pub call : (f : Callee) (vs : List Value) → Grows (calls.call f vs)
  pub refer : (r : Reference) (p : Word) → Grows (calls.refer r p)

pub record MeaningGrows (m : Meaning) : Type 0 where
  pub by : (calls : Calls) → CallsGrow calls → Grows (m calls)

-- ---- operands

pop_from_grows : (vs : List Value) (next : Then) (σ : State) → ((v : Value) → Grows (next v)) → Rises σ.left σ.steps σ.lines (pop_from vs next σ)
pop_from_grows [] next σ h = record { left_is = refl; le = omega arith; more = same _ }
pop_from_grows (v ∷ vs) next σ h = let x = h v (with_operands vs σ) in record { left_is = x.left_is; le = x.le; more = x.more }

pop_grows : (next : Then) → ((v : Value) → Grows (next v)) → Grows (pop next)
pop_grows next h σ = pop_from_grows σ.memory.operands next σ h

push_grows : (v : Value) → Grows (push v)
push_grows v σ = record { left_is = refl; le = omega arith; more = same _ }

pub holding_grows : (vs : List Value) → Grows (holding vs)
holding_grows vs σ = record { left_is = refl; le = omega arith; more = same _ }

-- ---- values

when_fit_grows : (o : Option Code) (k : Runs) → Grows k → Grows (when_fit o k)
when_fit_grows None k h σ = h σ
when_fit_grows (Some c) k h σ = record { left_is = refl; le = omega arith; more = same _ }

on_value_grows : (c : Computed) (k : Value → Runs) → ((v : Value) → Grows (k v)) → Grows (on_value c k)
on_value_grows (Ok v) k h σ = h v σ
on_value_grows (Err c) k h σ = record { left_is = refl; le = omega arith; more = same _ }

on_some_grows : (o : Option Value) (f : Fault) (k : Value → Runs) → ((v : Value) → Grows (k v)) → Grows (on_some o f k)
on_some_grows (Some v) f k h σ = h v σ
on_some_grows None f k h σ = record { left_is = refl; le = omega arith; more = same _ }

on_member_grows : (o : Option PackageState) (k : PackageState → Runs) → ((s : PackageState) → Grows (k s)) → Grows (on_member o k)
on_member_grows None k h σ = record { left_is = refl; le = omega arith; more = same _ }
on_member_grows (Some s) k h σ = h s σ

read_grows : (l : Location) (next : Value → Runs) → ((v : Value) → Grows (next v)) → Grows (read l next)
read_grows (Own k) next h σ = h _ σ
read_grows (Member p k) next h σ = on_member_grows (state_of p σ.packages) _ (λ s. h _) σ

write_keeps : (l : Location) (v : Value) (σ : State) → Keeps σ (write l v σ)
write_keeps (Own k) v σ = record { left_is = refl; steps_are = refl; lines_are = refl }
write_keeps (Member p k) v σ = record { left_is = refl; steps_are = refl; lines_are = refl }

pub cursor_keeps : (l : Location) (c : Cursor) (σ : State) → Keeps σ (with_cursor l c σ)
cursor_keeps (Own k) c σ = record { left_is = refl; steps_are = refl; lines_are = refl }
cursor_keeps (Member p k) c σ = record { left_is = refl; steps_are = refl; lines_are = refl }

on_fault_grows : (o : Option Fault) (k : Fault → Runs) → ((f : Fault) → Grows (k f)) → Grows (on_fault o k)
on_fault_grows None k h σ = record { left_is = refl; le = omega arith; more = same _ }
on_fault_grows (Some f) k h σ = h f σ

on_row_grows : (r : Option Row) (k : Row → Runs) → ((r : Row) → Grows (k r)) → Grows (on_row r k)
on_row_grows None k h σ = record { left_is = refl; le = omega arith; more = same _ }
on_row_grows (Some r) k h σ = h r σ

set_new_grows : (k : ℕ) (v : Value) → Grows (set_new k v)
set_new_grows k v σ = on_row_grows σ.row _ (λ r τ. record { left_is = refl; le = omega arith; more = same _ }) σ

column_grows : (i : RowImage) (k : ℕ) → Grows (load_column i k push)
column_grows image.New k σ = on_row_grows σ.row _ (λ r. push_grows _) σ
column_grows image.Old k σ = on_row_grows σ.row _ (λ r. push_grows _) σ

-- ---- answers

row_grows : (ts : List Known) (rows : List (List Value)) → Grows (only_row ts rows holding)
row_grows ts [] σ = record { left_is = refl; le = omega arith; more = same _ }
row_grows ts (row ∷ []) σ = either σ.left σ.steps σ.lines (row_fits ts row) _ _ (record { left_is = refl; le = omega arith; more = same _ }) (record { left_is = refl; le = omega arith; more = same _ })
row_grows ts (row ∷ other ∷ rows) σ = record { left_is = refl; le = omega arith; more = same _ }

rows_grow : (l : Lookup) (rows : List (List Value)) → Grows (rows_to l rows)
rows_grow (lookup.Row ts) rows σ = row_grows ts rows σ
rows_grow (lookup.Open l) rows σ = kept_done σ (with_cursor l (Opened rows 0 None) σ) (cursor_keeps l (Opened rows 0 None) σ)
rows_grow lookup.Count rows σ = record { left_is = refl; le = omega arith; more = same _ }

changed_grows : (a : Answer) → Grows (changed a)
changed_grows (answer.Count n steps ls) σ = record { left_is = refl; le = omega arith; more = same _ }
changed_grows (answer.Refused c steps ls) σ = record { left_is = refl; le = omega arith; more = same _ }
changed_grows (answer.View v) σ = record { left_is = refl; le = omega arith; more = same _ }
changed_grows (answer.Rows rows) σ = record { left_is = refl; le = omega arith; more = same _ }
changed_grows answer.Done σ = record { left_is = refl; le = omega arith; more = same _ }
changed_grows answer.Invalid σ = record { left_is = refl; le = omega arith; more = same _ }
changed_grows answer.DiskFault σ = record { left_is = refl; le = omega arith; more = same _ }
changed_grows answer.NoMemory σ = record { left_is = refl; le = omega arith; more = same _ }
changed_grows answer.Stopped σ = record { left_is = refl; le = omega arith; more = same _ }

count_grows : (l : Lookup) (a : Answer) → Grows (count_to l a)
count_grows (lookup.Row ts) a σ = record { left_is = refl; le = omega arith; more = same _ }
count_grows (lookup.Open l) a σ = record { left_is = refl; le = omega arith; more = same _ }
count_grows lookup.Count a σ = changed_grows a σ

pub looked_up_grows : (l : Lookup) (a : Answer) → Grows (looked_up l a)
looked_up_grows l (answer.Rows rows) σ = rows_grow l rows σ
looked_up_grows l (answer.Count n steps ls) σ = count_grows l (answer.Count n steps ls) σ
looked_up_grows l (answer.Refused c steps ls) σ = count_grows l (answer.Refused c steps ls) σ
looked_up_grows l (answer.View v) σ = count_grows l (answer.View v) σ
looked_up_grows l answer.Done σ = count_grows l answer.Done σ
looked_up_grows l answer.Invalid σ = count_grows l answer.Invalid σ
looked_up_grows l answer.DiskFault σ = count_grows l answer.DiskFault σ
looked_up_grows l answer.NoMemory σ = count_grows l answer.NoMemory σ
looked_up_grows l answer.Stopped σ = count_grows l answer.Stopped σ

fetched_grows : (f : Fetched) → Grows (row_fetched f)
fetched_grows Unopened σ = record { left_is = refl; le = omega arith; more = same _ }
fetched_grows NoRow σ = record { left_is = refl; le = omega arith; more = same _ }
fetched_grows Unfit σ = record { left_is = refl; le = omega arith; more = same _ }
fetched_grows (Found vs) σ = record { left_is = refl; le = omega arith; more = same _ }

pub give_on_grows : (l s : ℕ) (w : List (List ℕ)) (e : End) (n : ℕ) (o : Outcome) (next : List Value → Runs) → Rises l s w o → ((vs : List Value) → Grows (next vs)) → Rises l s w (give_on e n o next)
give_on_grows l s w Normal n o next h g = either l s w (nat_eq (length o.state.memory.operands) n) _ _ (onto l s w o (next o.state.memory.operands o.state) h (g o.state.memory.operands o.state)) (record { left_is = h.left_is; le = h.le; more = h.more })
give_on_grows l s w e n o next h g = h

-- ---- operations

operate_grows : (o : Operation) (calls : Calls) → CallsGrow calls → Grows (operate o calls)
operate_grows does.Step calls hc σ = step_grows done (λ τ. record { left_is = refl; le = omega arith; more = same _ }) σ
operate_grows (does.Push v) calls hc σ = push_grows v σ
operate_grows does.Copy calls hc σ = pop_grows _ (λ x τ. record { left_is = refl; le = omega arith; more = same _ }) σ
operate_grows does.Over calls hc σ = pop_grows _ (λ y. pop_grows _ (λ x τ. record { left_is = refl; le = omega arith; more = same _ })) σ
operate_grows does.Nip calls hc σ = pop_grows _ (λ y. pop_grows _ (λ x τ. record { left_is = refl; le = omega arith; more = same _ })) σ
operate_grows does.Drop calls hc σ = pop_grows _ (λ x τ. record { left_is = refl; le = omega arith; more = same _ }) σ
operate_grows (does.Load l) calls hc σ = read_grows l push push_grows σ
operate_grows (does.Assign l t) calls hc σ = pop_grows _ (λ v. when_fit_grows (unfit t v) _ (λ υ. kept_at υ (write l v υ) Normal (write_keeps l v υ))) σ
operate_grows (does.LoadColumn i k) calls hc σ = column_grows i k σ
operate_grows (does.AssignNew k t) calls hc σ = pop_grows _ (λ v. when_fit_grows (unfit (Some t) v) (set_new k v) (set_new_grows k v)) σ
operate_grows (does.Firing o) calls hc σ = on_row_grows σ.row _ (λ r. push_grows _) σ
operate_grows (does.SqlCode k) calls hc σ = on_fault_grows (slice_get σ.memory.faults k) _ (λ f. push_grows (number_of f)) σ
operate_grows (does.Affected a) calls hc σ = push_grows _ σ
operate_grows (does.Attribute l a) calls hc σ = on_some_grows (attribute_of a (cursor_at l σ)) (ora 1001) push push_grows σ
operate_grows (does.Binary o) calls hc σ = pop_grows _ (λ y. pop_grows _ (λ x. on_value_grows (binary o x y InCode) push push_grows)) σ
operate_grows (does.Function f n) calls hc σ = let x = on_value_grows (function f (last n σ) InCode) push push_grows (with_operands (beneath n σ) σ) in record { left_is = x.left_is; le = x.le; more = x.more }
operate_grows does.Unsigned calls hc σ = pop_grows _ (λ x. on_value_grows (unsigned x) push push_grows) σ
operate_grows (does.Refer r p) calls hc σ = let o = calls.refer r p (bare σ) in let x = hc.refer r p (bare σ) in go_on_grows σ.left σ.steps σ.lines o.end o (holding σ.memory.operands) (record { left_is = x.left_is; le = x.le; more = x.more }) (holding_grows σ.memory.operands)
operate_grows (does.Call f) calls hc σ = let o = calls.call f (last f.arguments σ) (bare σ) in let x = hc.call f (last f.arguments σ) (bare σ) in give_on_grows σ.left σ.steps σ.lines o.end f.results o (above (beneath f.arguments σ)) (record { left_is = x.left_is; le = x.le; more = x.more }) (λ vs τ. record { left_is = refl; le = omega arith; more = same _ })
operate_grows does.Return calls hc σ = record { left_is = refl; le = omega arith; more = same _ }
operate_grows (does.Give t) calls hc σ = pop_grows (result_given t) (λ v. when_fit_grows (unfit t v) _ (λ τ. record { left_is = refl; le = omega arith; more = same _ })) σ
operate_grows (does.Raise f) calls hc σ = record { left_is = refl; le = omega arith; more = same _ }
operate_grows (does.Reraise k) calls hc σ = on_fault_grows (slice_get σ.memory.faults k) _ (λ f τ. record { left_is = refl; le = omega arith; more = same _ }) σ
operate_grows does.Exit calls hc σ = record { left_is = refl; le = omega arith; more = same _ }
operate_grows does.Continue calls hc σ = record { left_is = refl; le = omega arith; more = same _ }
operate_grows does.PutLine calls hc σ = pop_grows _ (λ v. line_grows (printed v)) σ
operate_grows (does.Sql s n l) calls hc σ = let x = asked_grows (ask.Sql s (last n σ) (σ.left - σ.steps)) (looked_up l) (looked_up_grows l) (bare σ) in record { left_is = x.left_is; le = x.le; more = x.more }
operate_grows (does.Transact t) calls hc σ = let x = asked_grows (transact t) (λ a. when_done a done) (λ a. when_done_grows a done (λ τ. record { left_is = refl; le = omega arith; more = same _ })) (bare σ) in record { left_is = x.left_is; le = x.le; more = x.more }
operate_grows (does.Affect n) calls hc σ = record { left_is = refl; le = omega arith; more = same _ }
operate_grows (does.Open l) calls hc σ = either σ.left σ.steps σ.lines (is_open (cursor_at l σ)) _ _ (record { left_is = refl; le = omega arith; more = same _ }) (record { left_is = refl; le = omega arith; more = same _ })
operate_grows (does.Reset l) calls hc σ = kept_done σ (with_cursor l Closed σ) (cursor_keeps l Closed σ)
operate_grows (does.Fetch l ts) calls hc σ = kept_then σ (moved_on l σ) (row_fetched (fetched ts (cursor_at l σ))) (cursor_keeps l _ σ) (fetched_grows (fetched ts (cursor_at l σ)))
operate_grows (does.Close l) calls hc σ = either σ.left σ.steps σ.lines (is_open (cursor_at l σ)) _ _ (kept_done σ (with_cursor l Closed σ) (cursor_keeps l Closed σ)) (record { left_is = refl; le = omega arith; more = same _ })
operate_grows does.Broken calls hc σ = record { left_is = refl; le = omega arith; more = same _ }

-- ---- instructions

abbrev AllGrow : List Meaning → Type 0
AllGrow [] = Unit {0}
AllGrow (m ∷ ms) = MeaningGrows m × AllGrow ms

run_all_grows : (ms : List Meaning) → AllGrow ms → (calls : Calls) → CallsGrow calls → Grows (run_all ms calls)
run_all_grows [] h calls hc σ = record { left_is = refl; le = omega arith; more = same _ }
run_all_grows (m ∷ ms) h calls hc σ = go_on_grows σ.left σ.steps σ.lines (m calls σ).end (m calls σ) (run_all ms calls) (h.0.by calls hc σ) (run_all_grows ms h.1 calls hc)

abbrev pub AllHandle : List Handling → Type 0
AllHandle [] = Unit {0}
AllHandle (h ∷ hs) = MeaningGrows h.run × AllHandle hs

pub handled_grows : (k : ℕ) (hs : List Handling) → AllHandle hs → (calls : Calls) → CallsGrow calls → (f : Fault) → Grows (handled k hs calls f)
handled_grows k [] h calls hc f σ = record { left_is = refl; le = omega arith; more = same _ }
handled_grows k (x ∷ hs) h calls hc f σ =
    let y = h.0.by calls hc (with_fault k f (bare σ)) in
    either σ.left σ.steps σ.lines (is_caught (catches x.caught) f) _ _ (record { left_is = y.left_is; le = y.le; more = y.more }) (handled_grows k hs h.1 calls hc f σ)

pub numbers_grow : (k : ℕ) (reversed : Bool) (low high : Value) (body : Runs) → Grows body → Grows (over_numbers k reversed low high body)
numbers_grow k reversed (value.Num low) (value.Num high) body h σ =
    either σ.left σ.steps σ.lines (int_lt high low) _ _ (record { left_is = refl; le = omega arith; more = same _ }) (counting_grows (suc (unsigned_abs (high -ℤ low))) (in_turn k reversed low high body) (λ n τ.
    let x = h (with_variable k (value.Num _) τ) in record { left_is = x.left_is; le = x.le; more = x.more }) σ)
numbers_grow k reversed (value.Num low) value.Null body h σ = record { left_is = refl; le = omega arith; more = same _ }
numbers_grow k reversed (value.Num low) (value.Text t) body h σ = record { left_is = refl; le = omega arith; more = same _ }
numbers_grow k reversed (value.Num low) (value.Bool b) body h σ = record { left_is = refl; le = omega arith; more = same _ }
numbers_grow k reversed value.Null high body h σ = record { left_is = refl; le = omega arith; more = same _ }
numbers_grow k reversed (value.Text t) high body h σ = record { left_is = refl; le = omega arith; more = same _ }
numbers_grow k reversed (value.Bool b) high body h σ = record { left_is = refl; le = omega arith; more = same _ }

decide_grows : (o : Option Value) (x : Value) (rest : List Meaning) → AllGrow rest → (calls : Calls) → CallsGrow calls → Grows (decide o x (run_all rest) calls)
decide_grows (Some v) x rest h calls hc σ = push_grows v σ
decide_grows None x rest h calls hc σ = go_on_grows σ.left σ.steps σ.lines Normal (push x σ) (run_all rest calls) (push_grows x σ) (run_all_grows rest h calls hc)

abbrev PartsGrow : Instruction-F Meaning Handling → Type 0
PartsGrow (code.Do o) = Unit {0}
PartsGrow (code.Decide o a) = AllGrow a
PartsGrow (code.If a b) = AllGrow a × AllGrow b
PartsGrow (code.Loop a b) = AllGrow a × AllGrow b
PartsGrow (code.Numbers k r a) = AllGrow a
PartsGrow (code.Guard a k hs) = AllGrow a × AllHandle hs
PartsGrow (code.Closing l a) = AllGrow a

act_grows : (i : Instruction-F Meaning Handling) → PartsGrow i → (calls : Calls) → CallsGrow calls → Grows (act i calls)
act_grows (code.Do o) h calls hc σ = operate_grows o calls hc σ
act_grows (code.Decide o a) h calls hc σ = pop_grows _ (λ x. decide_grows (decided o x) x a h calls hc) σ
act_grows (code.If a b) h calls hc σ = pop_grows _ (λ v τ. either τ.left τ.steps τ.lines (is_true v) _ _ (run_all_grows a h.0 calls hc τ) (run_all_grows b h.1 calls hc τ)) σ
act_grows (code.Loop a b) h calls hc σ = loop_grows (run_all a calls) (run_all b calls) (run_all_grows a h.0 calls hc) (run_all_grows b h.1 calls hc) σ
act_grows (code.Numbers k r a) h calls hc σ = pop_grows _ (λ high. pop_grows _ (λ low τ. let x = numbers_grow k r low high (run_all a calls) (run_all_grows a h calls hc) (bare τ) in record { left_is = x.left_is; le = x.le; more = x.more })) σ
act_grows (code.Guard a k hs) h calls hc σ = let o = run_all a calls σ in catch_on_grows σ.left σ.steps σ.lines o.end o (handled k hs calls) (run_all_grows a h.0 calls hc σ) (handled_grows k hs h.1 calls hc)
act_grows (code.Closing l a) h calls hc σ = let o = run_all a calls σ in finish_on_grows σ.left σ.steps σ.lines o.end o (with_cursor l Closed) (run_all_grows a h calls hc σ) (cursor_keeps l Closed)

abbrev P : Instruction → Type 0
P i = MeaningGrows (meaning_of i)

abbrev P' : Handler → Type 0
P' h = MeaningGrows (handling_of h).run

abbrev S : Type 0
S = Such the_family (claims P P') member-Instruction

abbrev H : Type 0
H = Such the_family (claims P P') member-Handler

all_such : (l : List S) → AllGrow (map meaning_of (map (λ e. e.0) l))
all_such [] = tt
all_such (e ∷ l) = (e.1, all_such l)

all_handle : (l : List H) → AllHandle (map handling_of (map (λ e. e.0) l))
all_handle [] = tt
all_handle (e ∷ l) = (e.1, all_handle l)

parts_grow : (y : Instruction-F S H) → PartsGrow (map-Instruction Instruction Handler Meaning Handling meaning_of handling_of (map-Instruction S H Instruction Handler (λ e. e.0) (λ e. e.0) y))
parts_grow (code.Do o) = tt
parts_grow (code.Decide o a) = all_such a
parts_grow (code.If a b) = (all_such a, all_such b)
parts_grow (code.Loop a b) = (all_such a, all_such b)
parts_grow (code.Numbers k r a) = all_such a
parts_grow (code.Guard a k hs) = (all_such a, all_handle hs)
parts_grow (code.Closing l a) = all_such a

meaning_of-roll : (d : Instruction-F Instruction Handler) → meaning_of (roll-Instruction d) ≡ act (map-Instruction Instruction Handler Meaning Handling meaning_of handling_of d)
unfolding meaning_of handling_of
meaning_of-roll d = fold-roll-Instruction Meaning Handling act handler d

handling_of-roll : (d : Handler-F Instruction Handler) → handling_of (roll-Handler d) ≡ handler (map-Handler Instruction Handler Meaning Handling meaning_of handling_of d)
unfolding meaning_of handling_of
handling_of-roll d = fold-roll-Handler Meaning Handling act handler d

instruction_step : (x : Instruction-F Instruction Handler) (y : Instruction-F S H) → map-Instruction S H Instruction Handler (λ e. e.0) (λ e. e.0) y ≡ x → P (roll-Instruction x)
instruction_step x y e = subst (λ d. P (roll-Instruction d)) e (subst MeaningGrows (sym (meaning_of-roll _)) (record { by = act_grows _ (parts_grow y) }))

handler_step : (x : Handler-F Instruction Handler) (y : Handler-F S H) → map-Handler S H Instruction Handler (λ e. e.0) (λ e. e.0) y ≡ x → P' (roll-Handler x)
handler_step x y e = subst (λ d. P' (roll-Handler d)) e (subst (λ (h : Handling). MeaningGrows h.run) (sym (handling_of-roll _)) (record { by = run_all_grows _ (all_such y.body) }))

instruction_grows : (i : Instruction) → MeaningGrows (meaning_of i)
instruction_grows = ind-Instruction P P' instruction_step handler_step

all_grow : (l : List Instruction) → AllGrow (map meaning_of l)
all_grow [] = tt
all_grow (i ∷ l) = (instruction_grows i, all_grow l)

pub run_grows : (l : List Instruction) → MeaningGrows (run l)
run_grows l = record { by = run_all_grows (map meaning_of l) (all_grow l) }

handler_grows : (h : Handler) → P' h
handler_grows = ind-Handler P P' instruction_step handler_step

pub all_handlers : (hs : List Handler) → AllHandle (map handling_of hs)
all_handlers [] = tt
all_handlers (h ∷ hs) = (handler_grows h, all_handlers hs)
