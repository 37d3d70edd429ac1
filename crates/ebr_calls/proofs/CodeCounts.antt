-- How many answers code takes.
use Rattle.std.proofs.Common.{◌≡◌, ℕ, suc, ◌-◌, Bool, List, [], ◌∷◌, map, Option, Some, None, Ok, Err, refl, sym, subst, arith, append-nil}
use Rattle.std.specs.Prelude.{nat_eq, length, slice_get, int_lt, unsigned_abs, ◌-ℤ◌}
use Rattle.ebr_base.specs.declared.code.Code.{Code}
use Rattle.ebr_base.specs.declared.value.Value.{Value}
use Rattle.ebr_base.specs.declared.value.Value.TheVariants as value
use Rattle.ebr_exprtree.specs.declared.expression.RowImage.{RowImage}
use Rattle.ebr_exprtree.specs.declared.expression.RowImage.TheVariants as image
use Rattle.ebr_value.specs.declared.form.Place.TheVariants.{Code as InCode}
use Rattle.ebr_value.specs.Forms.{binary, function}
use Rattle.ebr_value.specs.Outcomes.{Outcome as Computed}
use Rattle.ebr_value.specs.Texts.{printed}
use Rattle.ebr_expr.specs.Operators.{unsigned, decided}
use Rattle.ebr_ast.specs.declared.sql.Transaction.{Transaction}
use Rattle.ebr_ast.specs.declared.sql.Transaction.TheVariants as transaction
use Rattle.ebr_asks.specs.declared.ask.Ask.{Ask}
use Rattle.ebr_asks.specs.declared.ask.Ask.TheVariants as ask
use Rattle.ebr_asks.specs.declared.answer.Answer.{Answer}
use Rattle.ebr_asks.specs.declared.answer.Answer.TheVariants as answer
use Rattle.ebr_scope.specs.Meanings.{Word}
use Rattle.ebr_sqlcheck.specs.Types.{Known}
use Rattle.ebr_run.specs.declared.callee.Callee.{Callee}
use Rattle.ebr_run.specs.declared.callee.Reference.{Reference}
use Rattle.ebr_run.specs.declared.fault.Fault.{Fault}
use Rattle.ebr_run.specs.declared.place.Location.{Location}
use Rattle.ebr_run.specs.declared.place.Location.TheVariants.{Own, Member}
use Rattle.ebr_run.specs.Faults.{ora, is_caught}
use Rattle.ebr_run.specs.Cursors.{Cursor, Closed, Open as Opened, is_open, attribute_of, Fetched, Unopened, NoRow, Unfit, Row as Found, row_fits, fetched}
use Rattle.ebr_run.specs.Packages.{PackageState, state_of}
use Rattle.ebr_run.specs.State.{State, Outcome, End, Runs, Row, Normal, bare, with_operands, done, when_done}
use Rattle.ebr_run.specs.Values.{when_fit, unfit, on_value, on_some, on_member, is_true, read, write, with_variable, cursor_at, with_cursor, moved_on, with_fault, on_fault, number_of, on_row, set_new}
use Rattle.ebr_run.specs.Expressions.{Calls, Then, give_on}
use Rattle.ebr_run.specs.Statements.{over_numbers, in_turn, only_row, changed, transact, result_given}
use Rattle.ebr_code.specs.declared.instruction.Lookup.{Lookup}
use Rattle.ebr_code.specs.declared.instruction.Lookup.TheVariants as lookup
use Rattle.ebr_code.specs.declared.instruction.Handler.{Handler}
use Rattle.ebr_code.specs.declared.instruction.Operation.{Operation}
use Rattle.ebr_code.specs.declared.instruction.Operation.TheVariants as does
use Rattle.ebr_code.specs.declared.instruction.Instruction.{Instruction}
use Rattle.ebr_code.specs.declared.instruction.Instruction.TheOpen.{Instruction-F, Handler-F}
use Rattle.ebr_code.specs.declared.instruction.Instruction.TheOpen as code
use Rattle.ebr_code.specs.declared.instruction.Instruction.TheViews.{roll-Instruction, roll-Handler}
use Rattle.ebr_code.specs.declared.instruction.Instruction.TheFolds.{fold-roll-Instruction, fold-roll-Handler, map-Instruction, map-Handler, ind-Instruction, ind-Handler, claims}
use Rattle.ebr_code.specs.declared.instruction.Instruction.TheBlock.{the_family, member-Instruction, member-Handler}
use denote.Hole.Holds.{Such}
use Rattle.ebr_code.specs.Instructions.{Meaning, push, pop_from, pop, last, beneath, holding, above, run_all, rows_to, count_to, looked_up, row_fetched, catches, Handling, handled, load_column, decide, operate, act, handler, meaning_of, handling_of, run}
use Rattle.ebr_calls.specs.Asked.{IsOfRun}
use Rattle.ebr_calls.proofs.Counts.{Counts, CountsIn, Keeps, kept_at, kept_done, kept_then, evened, onto, either, go_on_counts, step_counts, loop_counts, counting_counts, catch_on_counts, finish_on_counts, line_counts, asked_counts, when_done_counts}

pub record CallsCount (calls : Calls) : Type 0 where
  pub call : (f : Callee) (vs : List Value) → CountsIn (calls.call f vs)
  pub refer : (r : Reference) (p : Word) → CountsIn (calls.refer r p)

pub record MeaningCounts (m : Meaning) : Type 0 where
  pub by : (calls : Calls) → CallsCount calls → CountsIn (m calls)

-- ---- operands

pop_from_counts : (vs : List Value) (next : Then) (σ : State) → ((v : Value) → CountsIn (next v)) → Counts σ.left σ.asks σ.answers (pop_from vs next σ)
pop_from_counts [] next σ h = record { left_is = refl; made = []; used = []; asks_are = sym (append-nil _); given_are = refl; even = refl; kinds = tt }
pop_from_counts (v ∷ vs) next σ h = let x = h v (with_operands vs σ) in record { left_is = x.left_is; made = x.made; used = x.used; asks_are = x.asks_are; given_are = x.given_are; even = x.even; kinds = x.kinds }

pop_counts : (next : Then) → ((v : Value) → CountsIn (next v)) → CountsIn (pop next)
pop_counts next h σ = pop_from_counts σ.memory.operands next σ h

push_counts : (v : Value) → CountsIn (push v)
push_counts v σ = record { left_is = refl; made = []; used = []; asks_are = sym (append-nil _); given_are = refl; even = refl; kinds = tt }

pub holding_counts : (vs : List Value) → CountsIn (holding vs)
holding_counts vs σ = record { left_is = refl; made = []; used = []; asks_are = sym (append-nil _); given_are = refl; even = refl; kinds = tt }

-- ---- values

when_fit_counts : (o : Option Code) (k : Runs) → CountsIn k → CountsIn (when_fit o k)
when_fit_counts None k h σ = h σ
when_fit_counts (Some c) k h σ = record { left_is = refl; made = []; used = []; asks_are = sym (append-nil _); given_are = refl; even = refl; kinds = tt }

on_value_counts : (c : Computed) (k : Value → Runs) → ((v : Value) → CountsIn (k v)) → CountsIn (on_value c k)
on_value_counts (Ok v) k h σ = h v σ
on_value_counts (Err c) k h σ = record { left_is = refl; made = []; used = []; asks_are = sym (append-nil _); given_are = refl; even = refl; kinds = tt }

on_some_counts : (o : Option Value) (f : Fault) (k : Value → Runs) → ((v : Value) → CountsIn (k v)) → CountsIn (on_some o f k)
on_some_counts (Some v) f k h σ = h v σ
on_some_counts None f k h σ = record { left_is = refl; made = []; used = []; asks_are = sym (append-nil _); given_are = refl; even = refl; kinds = tt }

on_member_counts : (o : Option PackageState) (k : PackageState → Runs) → ((s : PackageState) → CountsIn (k s)) → CountsIn (on_member o k)
on_member_counts None k h σ = record { left_is = refl; made = []; used = []; asks_are = sym (append-nil _); given_are = refl; even = refl; kinds = tt }
on_member_counts (Some s) k h σ = h s σ

read_counts : (l : Location) (next : Value → Runs) → ((v : Value) → CountsIn (next v)) → CountsIn (read l next)
read_counts (Own k) next h σ = h _ σ
read_counts (Member p k) next h σ = on_member_counts (state_of p σ.packages) _ (λ s. h _) σ

write_keeps : (l : Location) (v : Value) (σ : State) → Keeps σ (write l v σ)
write_keeps (Own k) v σ = record { left_is = refl; asks_are = refl; given_are = refl }
write_keeps (Member p k) v σ = record { left_is = refl; asks_are = refl; given_are = refl }

pub cursor_keeps : (l : Location) (c : Cursor) (σ : State) → Keeps σ (with_cursor l c σ)
cursor_keeps (Own k) c σ = record { left_is = refl; asks_are = refl; given_are = refl }
cursor_keeps (Member p k) c σ = record { left_is = refl; asks_are = refl; given_are = refl }

on_fault_counts : (o : Option Fault) (k : Fault → Runs) → ((f : Fault) → CountsIn (k f)) → CountsIn (on_fault o k)
on_fault_counts None k h σ = record { left_is = refl; made = []; used = []; asks_are = sym (append-nil _); given_are = refl; even = refl; kinds = tt }
on_fault_counts (Some f) k h σ = h f σ

on_row_counts : (r : Option Row) (k : Row → Runs) → ((r : Row) → CountsIn (k r)) → CountsIn (on_row r k)
on_row_counts None k h σ = record { left_is = refl; made = []; used = []; asks_are = sym (append-nil _); given_are = refl; even = refl; kinds = tt }
on_row_counts (Some r) k h σ = h r σ

set_new_counts : (k : ℕ) (v : Value) → CountsIn (set_new k v)
set_new_counts k v σ = on_row_counts σ.row _ (λ r τ. record { left_is = refl; made = []; used = []; asks_are = sym (append-nil _); given_are = refl; even = refl; kinds = tt }) σ

column_counts : (i : RowImage) (k : ℕ) → CountsIn (load_column i k push)
column_counts image.New k σ = on_row_counts σ.row _ (λ r. push_counts _) σ
column_counts image.Old k σ = on_row_counts σ.row _ (λ r. push_counts _) σ

-- ---- answers

row_counts : (ts : List Known) (rows : List (List Value)) → CountsIn (only_row ts rows holding)
row_counts ts [] σ = record { left_is = refl; made = []; used = []; asks_are = sym (append-nil _); given_are = refl; even = refl; kinds = tt }
row_counts ts (row ∷ []) σ = either σ.left σ.asks σ.answers (row_fits ts row) _ _ (record { left_is = refl; made = []; used = []; asks_are = sym (append-nil _); given_are = refl; even = refl; kinds = tt }) (record { left_is = refl; made = []; used = []; asks_are = sym (append-nil _); given_are = refl; even = refl; kinds = tt })
row_counts ts (row ∷ other ∷ rows) σ = record { left_is = refl; made = []; used = []; asks_are = sym (append-nil _); given_are = refl; even = refl; kinds = tt }

rows_count : (l : Lookup) (rows : List (List Value)) → CountsIn (rows_to l rows)
rows_count (lookup.Row ts) rows σ = row_counts ts rows σ
rows_count (lookup.Open l) rows σ = kept_done σ (with_cursor l (Opened rows 0 None) σ) (cursor_keeps l (Opened rows 0 None) σ)
rows_count lookup.Count rows σ = record { left_is = refl; made = []; used = []; asks_are = sym (append-nil _); given_are = refl; even = refl; kinds = tt }

changed_counts : (a : Answer) → CountsIn (changed a)
changed_counts (answer.Count n steps ls) σ = record { left_is = refl; made = []; used = []; asks_are = sym (append-nil _); given_are = refl; even = refl; kinds = tt }
changed_counts (answer.Refused c steps ls) σ = record { left_is = refl; made = []; used = []; asks_are = sym (append-nil _); given_are = refl; even = refl; kinds = tt }
changed_counts (answer.View v) σ = record { left_is = refl; made = []; used = []; asks_are = sym (append-nil _); given_are = refl; even = refl; kinds = tt }
changed_counts (answer.Rows rows) σ = record { left_is = refl; made = []; used = []; asks_are = sym (append-nil _); given_are = refl; even = refl; kinds = tt }
changed_counts answer.Done σ = record { left_is = refl; made = []; used = []; asks_are = sym (append-nil _); given_are = refl; even = refl; kinds = tt }
changed_counts answer.Invalid σ = record { left_is = refl; made = []; used = []; asks_are = sym (append-nil _); given_are = refl; even = refl; kinds = tt }
changed_counts answer.DiskFault σ = record { left_is = refl; made = []; used = []; asks_are = sym (append-nil _); given_are = refl; even = refl; kinds = tt }
changed_counts answer.NoMemory σ = record { left_is = refl; made = []; used = []; asks_are = sym (append-nil _); given_are = refl; even = refl; kinds = tt }
changed_counts answer.Stopped σ = record { left_is = refl; made = []; used = []; asks_are = sym (append-nil _); given_are = refl; even = refl; kinds = tt }

count_counts : (l : Lookup) (a : Answer) → CountsIn (count_to l a)
count_counts (lookup.Row ts) a σ = record { left_is = refl; made = []; used = []; asks_are = sym (append-nil _); given_are = refl; even = refl; kinds = tt }
count_counts (lookup.Open l) a σ = record { left_is = refl; made = []; used = []; asks_are = sym (append-nil _); given_are = refl; even = refl; kinds = tt }
count_counts lookup.Count a σ = changed_counts a σ

pub looked_up_counts : (l : Lookup) (a : Answer) → CountsIn (looked_up l a)
looked_up_counts l (answer.Rows rows) σ = rows_count l rows σ
looked_up_counts l (answer.Count n steps ls) σ = count_counts l (answer.Count n steps ls) σ
looked_up_counts l (answer.Refused c steps ls) σ = count_counts l (answer.Refused c steps ls) σ
looked_up_counts l (answer.View v) σ = count_counts l (answer.View v) σ
looked_up_counts l answer.Done σ = count_counts l answer.Done σ
looked_up_counts l answer.Invalid σ = count_counts l answer.Invalid σ
looked_up_counts l answer.DiskFault σ = count_counts l answer.DiskFault σ
looked_up_counts l answer.NoMemory σ = count_counts l answer.NoMemory σ
looked_up_counts l answer.Stopped σ = count_counts l answer.Stopped σ

fetched_counts : (f : Fetched) → CountsIn (row_fetched f)
fetched_counts Unopened σ = record { left_is = refl; made = []; used = []; asks_are = sym (append-nil _); given_are = refl; even = refl; kinds = tt }
fetched_counts NoRow σ = record { left_is = refl; made = []; used = []; asks_are = sym (append-nil _); given_are = refl; even = refl; kinds = tt }
fetched_counts Unfit σ = record { left_is = refl; made = []; used = []; asks_are = sym (append-nil _); given_are = refl; even = refl; kinds = tt }
fetched_counts (Found vs) σ = record { left_is = refl; made = []; used = []; asks_are = sym (append-nil _); given_are = refl; even = refl; kinds = tt }

pub give_on_counts : (l : ℕ) (s : List Ask) (w : List Answer) (e : End) (n : ℕ) (o : Outcome) (next : List Value → Runs) → o.end ≡ e → Counts l s w o → ((vs : List Value) → CountsIn (next vs)) → Counts l s w (give_on e n o next)
give_on_counts l s w Normal n o next same h g =
    let v = evened l s w Normal o same h in
    either l s w (nat_eq (length o.state.memory.operands) n) _ _ (onto l s w o (next o.state.memory.operands o.state) h v (g o.state.memory.operands o.state)) (record { left_is = h.left_is; made = h.made; used = h.used; asks_are = h.asks_are; given_are = h.given_are; even = v; kinds = h.kinds })
give_on_counts l s w e n o next same h g = h

-- ---- operations

transact_fits : (l : ℕ) (t : Transaction) → IsOfRun l (transact t)
transact_fits l transaction.Commit = tt
transact_fits l transaction.Rollback = tt
transact_fits l (transaction.RollbackTo n) = tt
transact_fits l (transaction.Savepoint n) = tt

operate_counts : (o : Operation) (calls : Calls) → CallsCount calls → CountsIn (operate o calls)
operate_counts does.Step calls hc σ = step_counts done (λ τ. record { left_is = refl; made = []; used = []; asks_are = sym (append-nil _); given_are = refl; even = refl; kinds = tt }) σ
operate_counts (does.Push v) calls hc σ = push_counts v σ
operate_counts does.Copy calls hc σ = pop_counts _ (λ x τ. record { left_is = refl; made = []; used = []; asks_are = sym (append-nil _); given_are = refl; even = refl; kinds = tt }) σ
operate_counts does.Over calls hc σ = pop_counts _ (λ y. pop_counts _ (λ x τ. record { left_is = refl; made = []; used = []; asks_are = sym (append-nil _); given_are = refl; even = refl; kinds = tt })) σ
operate_counts does.Nip calls hc σ = pop_counts _ (λ y. pop_counts _ (λ x τ. record { left_is = refl; made = []; used = []; asks_are = sym (append-nil _); given_are = refl; even = refl; kinds = tt })) σ
operate_counts does.Drop calls hc σ = pop_counts _ (λ x τ. record { left_is = refl; made = []; used = []; asks_are = sym (append-nil _); given_are = refl; even = refl; kinds = tt }) σ
operate_counts (does.Load l) calls hc σ = read_counts l push push_counts σ
operate_counts (does.Assign l t) calls hc σ = pop_counts _ (λ v. when_fit_counts (unfit t v) _ (λ υ. kept_at υ (write l v υ) Normal refl (write_keeps l v υ))) σ
operate_counts (does.LoadColumn i k) calls hc σ = column_counts i k σ
operate_counts (does.AssignNew k t) calls hc σ = pop_counts _ (λ v. when_fit_counts (unfit (Some t) v) (set_new k v) (set_new_counts k v)) σ
operate_counts (does.Firing o) calls hc σ = on_row_counts σ.row _ (λ r. push_counts _) σ
operate_counts (does.SqlCode k) calls hc σ = on_fault_counts (slice_get σ.memory.faults k) _ (λ f. push_counts (number_of f)) σ
operate_counts (does.Affected a) calls hc σ = push_counts _ σ
operate_counts (does.Attribute l a) calls hc σ = on_some_counts (attribute_of a (cursor_at l σ)) (ora 1001) push push_counts σ
operate_counts (does.Binary o) calls hc σ = pop_counts _ (λ y. pop_counts _ (λ x. on_value_counts (binary o x y InCode) push push_counts)) σ
operate_counts (does.Function f n) calls hc σ = let x = on_value_counts (function f (last n σ) InCode) push push_counts (with_operands (beneath n σ) σ) in record { left_is = x.left_is; made = x.made; used = x.used; asks_are = x.asks_are; given_are = x.given_are; even = x.even; kinds = x.kinds }
operate_counts does.Unsigned calls hc σ = pop_counts _ (λ x. on_value_counts (unsigned x) push push_counts) σ
operate_counts (does.Refer r p) calls hc σ = let o = calls.refer r p (bare σ) in let x = hc.refer r p (bare σ) in go_on_counts σ.left σ.asks σ.answers o.end o (holding σ.memory.operands) refl (record { left_is = x.left_is; made = x.made; used = x.used; asks_are = x.asks_are; given_are = x.given_are; even = x.even; kinds = x.kinds }) (holding_counts σ.memory.operands)
operate_counts (does.Call f) calls hc σ = let o = calls.call f (last f.arguments σ) (bare σ) in let x = hc.call f (last f.arguments σ) (bare σ) in give_on_counts σ.left σ.asks σ.answers o.end f.results o (above (beneath f.arguments σ)) refl (record { left_is = x.left_is; made = x.made; used = x.used; asks_are = x.asks_are; given_are = x.given_are; even = x.even; kinds = x.kinds }) (λ vs τ. record { left_is = refl; made = []; used = []; asks_are = sym (append-nil _); given_are = refl; even = refl; kinds = tt })
operate_counts does.Return calls hc σ = record { left_is = refl; made = []; used = []; asks_are = sym (append-nil _); given_are = refl; even = refl; kinds = tt }
operate_counts (does.Give t) calls hc σ = pop_counts (result_given t) (λ v. when_fit_counts (unfit t v) _ (λ τ. record { left_is = refl; made = []; used = []; asks_are = sym (append-nil _); given_are = refl; even = refl; kinds = tt })) σ
operate_counts (does.Raise f) calls hc σ = record { left_is = refl; made = []; used = []; asks_are = sym (append-nil _); given_are = refl; even = refl; kinds = tt }
operate_counts (does.Reraise k) calls hc σ = on_fault_counts (slice_get σ.memory.faults k) _ (λ f τ. record { left_is = refl; made = []; used = []; asks_are = sym (append-nil _); given_are = refl; even = refl; kinds = tt }) σ
operate_counts does.Exit calls hc σ = record { left_is = refl; made = []; used = []; asks_are = sym (append-nil _); given_are = refl; even = refl; kinds = tt }
operate_counts does.Continue calls hc σ = record { left_is = refl; made = []; used = []; asks_are = sym (append-nil _); given_are = refl; even = refl; kinds = tt }
operate_counts does.PutLine calls hc σ = pop_counts _ (λ v. line_counts (printed v)) σ
operate_counts (does.Sql s n l) calls hc σ = let x = asked_counts (ask.Sql s (last n σ) (σ.left - σ.steps)) (looked_up l) (looked_up_counts l) (bare σ) (omega arith) in record { left_is = x.left_is; made = x.made; used = x.used; asks_are = x.asks_are; given_are = x.given_are; even = x.even; kinds = x.kinds }
operate_counts (does.Transact t) calls hc σ = let x = asked_counts (transact t) (λ a. when_done a done) (λ a. when_done_counts a done (λ τ. record { left_is = refl; made = []; used = []; asks_are = sym (append-nil _); given_are = refl; even = refl; kinds = tt })) (bare σ) (transact_fits σ.left t) in record { left_is = x.left_is; made = x.made; used = x.used; asks_are = x.asks_are; given_are = x.given_are; even = x.even; kinds = x.kinds }
operate_counts (does.Affect n) calls hc σ = record { left_is = refl; made = []; used = []; asks_are = sym (append-nil _); given_are = refl; even = refl; kinds = tt }
operate_counts (does.Open l) calls hc σ = either σ.left σ.asks σ.answers (is_open (cursor_at l σ)) _ _ (record { left_is = refl; made = []; used = []; asks_are = sym (append-nil _); given_are = refl; even = refl; kinds = tt }) (record { left_is = refl; made = []; used = []; asks_are = sym (append-nil _); given_are = refl; even = refl; kinds = tt })
operate_counts (does.Reset l) calls hc σ = kept_done σ (with_cursor l Closed σ) (cursor_keeps l Closed σ)
operate_counts (does.Fetch l ts) calls hc σ = kept_then σ (moved_on l σ) (row_fetched (fetched ts (cursor_at l σ))) (cursor_keeps l _ σ) (fetched_counts (fetched ts (cursor_at l σ)))
operate_counts (does.Close l) calls hc σ = either σ.left σ.asks σ.answers (is_open (cursor_at l σ)) _ _ (kept_done σ (with_cursor l Closed σ) (cursor_keeps l Closed σ)) (record { left_is = refl; made = []; used = []; asks_are = sym (append-nil _); given_are = refl; even = refl; kinds = tt })
operate_counts does.Broken calls hc σ = record { left_is = refl; made = []; used = []; asks_are = sym (append-nil _); given_are = refl; even = refl; kinds = tt }

-- ---- instructions

abbrev AllCount : List Meaning → Type 0
AllCount [] = Unit {0}
AllCount (m ∷ ms) = MeaningCounts m × AllCount ms

run_all_counts : (ms : List Meaning) → AllCount ms → (calls : Calls) → CallsCount calls → CountsIn (run_all ms calls)
run_all_counts [] h calls hc σ = record { left_is = refl; made = []; used = []; asks_are = sym (append-nil _); given_are = refl; even = refl; kinds = tt }
run_all_counts (m ∷ ms) h calls hc σ = go_on_counts σ.left σ.asks σ.answers (m calls σ).end (m calls σ) (run_all ms calls) refl (h.0.by calls hc σ) (run_all_counts ms h.1 calls hc)

abbrev pub AllHandle : List Handling → Type 0
AllHandle [] = Unit {0}
AllHandle (h ∷ hs) = MeaningCounts h.run × AllHandle hs

pub handled_counts : (k : ℕ) (hs : List Handling) → AllHandle hs → (calls : Calls) → CallsCount calls → (f : Fault) → CountsIn (handled k hs calls f)
handled_counts k [] h calls hc f σ = record { left_is = refl; made = []; used = []; asks_are = sym (append-nil _); given_are = refl; even = refl; kinds = tt }
handled_counts k (x ∷ hs) h calls hc f σ =
    let y = h.0.by calls hc (with_fault k f (bare σ)) in
    either σ.left σ.asks σ.answers (is_caught (catches x.caught) f) _ _ (record { left_is = y.left_is; made = y.made; used = y.used; asks_are = y.asks_are; given_are = y.given_are; even = y.even; kinds = y.kinds }) (handled_counts k hs h.1 calls hc f σ)

pub numbers_count : (k : ℕ) (reversed : Bool) (low high : Value) (body : Runs) → CountsIn body → CountsIn (over_numbers k reversed low high body)
numbers_count k reversed (value.Num low) (value.Num high) body h σ =
    either σ.left σ.asks σ.answers (int_lt high low) _ _ (record { left_is = refl; made = []; used = []; asks_are = sym (append-nil _); given_are = refl; even = refl; kinds = tt }) (counting_counts (suc (unsigned_abs (high -ℤ low))) (in_turn k reversed low high body) (λ n τ.
    let x = h (with_variable k (value.Num _) τ) in record { left_is = x.left_is; made = x.made; used = x.used; asks_are = x.asks_are; given_are = x.given_are; even = x.even; kinds = x.kinds }) σ)
numbers_count k reversed (value.Num low) value.Null body h σ = record { left_is = refl; made = []; used = []; asks_are = sym (append-nil _); given_are = refl; even = refl; kinds = tt }
numbers_count k reversed (value.Num low) (value.Text t) body h σ = record { left_is = refl; made = []; used = []; asks_are = sym (append-nil _); given_are = refl; even = refl; kinds = tt }
numbers_count k reversed (value.Num low) (value.Bool b) body h σ = record { left_is = refl; made = []; used = []; asks_are = sym (append-nil _); given_are = refl; even = refl; kinds = tt }
numbers_count k reversed value.Null high body h σ = record { left_is = refl; made = []; used = []; asks_are = sym (append-nil _); given_are = refl; even = refl; kinds = tt }
numbers_count k reversed (value.Text t) high body h σ = record { left_is = refl; made = []; used = []; asks_are = sym (append-nil _); given_are = refl; even = refl; kinds = tt }
numbers_count k reversed (value.Bool b) high body h σ = record { left_is = refl; made = []; used = []; asks_are = sym (append-nil _); given_are = refl; even = refl; kinds = tt }

decide_counts : (o : Option Value) (x : Value) (rest : List Meaning) → AllCount rest → (calls : Calls) → CallsCount calls → CountsIn (decide o x (run_all rest) calls)
decide_counts (Some v) x rest h calls hc σ = push_counts v σ
decide_counts None x rest h calls hc σ = go_on_counts σ.left σ.asks σ.answers Normal (push x σ) (run_all rest calls) refl (push_counts x σ) (run_all_counts rest h calls hc)

abbrev PartsCount : Instruction-F Meaning Handling → Type 0
PartsCount (code.Do o) = Unit {0}
PartsCount (code.Decide o a) = AllCount a
PartsCount (code.If a b) = AllCount a × AllCount b
PartsCount (code.Loop a b) = AllCount a × AllCount b
PartsCount (code.Numbers k r a) = AllCount a
PartsCount (code.Guard a k hs) = AllCount a × AllHandle hs
PartsCount (code.Closing l a) = AllCount a

act_counts : (i : Instruction-F Meaning Handling) → PartsCount i → (calls : Calls) → CallsCount calls → CountsIn (act i calls)
act_counts (code.Do o) h calls hc σ = operate_counts o calls hc σ
act_counts (code.Decide o a) h calls hc σ = pop_counts _ (λ x. decide_counts (decided o x) x a h calls hc) σ
act_counts (code.If a b) h calls hc σ = pop_counts _ (λ v τ. either τ.left τ.asks τ.answers (is_true v) _ _ (run_all_counts a h.0 calls hc τ) (run_all_counts b h.1 calls hc τ)) σ
act_counts (code.Loop a b) h calls hc σ = loop_counts (run_all a calls) (run_all b calls) (run_all_counts a h.0 calls hc) (run_all_counts b h.1 calls hc) σ
act_counts (code.Numbers k r a) h calls hc σ = pop_counts _ (λ high. pop_counts _ (λ low τ. let x = numbers_count k r low high (run_all a calls) (run_all_counts a h calls hc) (bare τ) in record { left_is = x.left_is; made = x.made; used = x.used; asks_are = x.asks_are; given_are = x.given_are; even = x.even; kinds = x.kinds })) σ
act_counts (code.Guard a k hs) h calls hc σ = let o = run_all a calls σ in catch_on_counts σ.left σ.asks σ.answers o.end o (handled k hs calls) refl (run_all_counts a h.0 calls hc σ) (handled_counts k hs h.1 calls hc)
act_counts (code.Closing l a) h calls hc σ = let o = run_all a calls σ in finish_on_counts σ.left σ.asks σ.answers o.end o (with_cursor l Closed) refl (run_all_counts a h calls hc σ) (cursor_keeps l Closed)

abbrev P : Instruction → Type 0
P i = MeaningCounts (meaning_of i)

abbrev P' : Handler → Type 0
P' h = MeaningCounts (handling_of h).run

abbrev S : Type 0
S = Such the_family (claims P P') member-Instruction

abbrev H : Type 0
H = Such the_family (claims P P') member-Handler

all_such : (l : List S) → AllCount (map meaning_of (map (λ e. e.0) l))
all_such [] = tt
all_such (e ∷ l) = (e.1, all_such l)

all_handle : (l : List H) → AllHandle (map handling_of (map (λ e. e.0) l))
all_handle [] = tt
all_handle (e ∷ l) = (e.1, all_handle l)

parts_count : (y : Instruction-F S H) → PartsCount (map-Instruction Instruction Handler Meaning Handling meaning_of handling_of (map-Instruction S H Instruction Handler (λ e. e.0) (λ e. e.0) y))
parts_count (code.Do o) = tt
parts_count (code.Decide o a) = all_such a
parts_count (code.If a b) = (all_such a, all_such b)
parts_count (code.Loop a b) = (all_such a, all_such b)
parts_count (code.Numbers k r a) = all_such a
parts_count (code.Guard a k hs) = (all_such a, all_handle hs)
parts_count (code.Closing l a) = all_such a

meaning_of-roll : (d : Instruction-F Instruction Handler) → meaning_of (roll-Instruction d) ≡ act (map-Instruction Instruction Handler Meaning Handling meaning_of handling_of d)
unfolding meaning_of handling_of
meaning_of-roll d = fold-roll-Instruction Meaning Handling act handler d

handling_of-roll : (d : Handler-F Instruction Handler) → handling_of (roll-Handler d) ≡ handler (map-Handler Instruction Handler Meaning Handling meaning_of handling_of d)
unfolding meaning_of handling_of
handling_of-roll d = fold-roll-Handler Meaning Handling act handler d

instruction_step : (x : Instruction-F Instruction Handler) (y : Instruction-F S H) → map-Instruction S H Instruction Handler (λ e. e.0) (λ e. e.0) y ≡ x → P (roll-Instruction x)
instruction_step x y e = subst (λ d. P (roll-Instruction d)) e (subst MeaningCounts (sym (meaning_of-roll _)) (record { by = act_counts _ (parts_count y) }))

handler_step : (x : Handler-F Instruction Handler) (y : Handler-F S H) → map-Handler S H Instruction Handler (λ e. e.0) (λ e. e.0) y ≡ x → P' (roll-Handler x)
handler_step x y e = subst (λ d. P' (roll-Handler d)) e (subst (λ (h : Handling). MeaningCounts h.run) (sym (handling_of-roll _)) (record { by = run_all_counts _ (all_such y.body) }))

instruction_counts : (i : Instruction) → MeaningCounts (meaning_of i)
instruction_counts = ind-Instruction P P' instruction_step handler_step

all_count : (l : List Instruction) → AllCount (map meaning_of l)
all_count [] = tt
all_count (i ∷ l) = (instruction_counts i, all_count l)

pub run_counts : (l : List Instruction) → MeaningCounts (run l)
run_counts l = record { by = run_all_counts (map meaning_of l) (all_count l) }

handler_counts : (h : Handler) → P' h
handler_counts = ind-Handler P P' instruction_step handler_step

pub all_handlers : (hs : List Handler) → AllHandle (map handling_of hs)
all_handlers [] = tt
all_handlers (h ∷ hs) = (handler_counts h, all_handlers hs)
