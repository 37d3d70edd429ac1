-- Calls in expressions, and operators, ask what their operands ask.
use Rattle.std.proofs.Common.{ℕ, Bool, true, false, List, [], ◌∷◌, length, Option, Some, None}
use Rattle.std.specs.Prelude.{nat_eq}
use Rattle.std.specs.List.{AllByRecursion}
use Rattle.ebr_base.specs.declared.object.Class.{Class}
use Rattle.ebr_base.specs.declared.object.Class.TheVariants as class
use Rattle.ebr_base.specs.declared.object.ObjectKey.{ObjectKey}
use Rattle.ebr_base.specs.declared.value.Value.{Value}
use Rattle.ebr_value.specs.declared.form.BinOp.{BinOp}
use Rattle.ebr_value.specs.declared.form.BinOp.TheVariants as op
use Rattle.ebr_value.specs.declared.form.Builtin.{Builtin}
use Rattle.ebr_value.specs.declared.form.Builtin.TheVariants as builtin
use Rattle.ebr_value.specs.declared.form.Place.TheVariants.{Code as InCode}
use Rattle.ebr_value.specs.Forms.{binary, function}
use Rattle.ebr_expr.specs.Operators.{decided}
use Rattle.ebr_scope.specs.Meanings.{Word}
use Rattle.ebr_run.specs.declared.callee.Callee.{Callee}
use Rattle.ebr_run.specs.declared.callee.Reference.{Reference}
use Rattle.ebr_run.specs.declared.callee.Reference.TheVariants as reference
use Rattle.ebr_run.specs.declared.place.Location.{Location}
use Rattle.ebr_run.specs.declared.place.Location.TheVariants.{Own, Member}
use Rattle.ebr_run.specs.State.{Runs, Outcome, Normal, End, bare, broken}
use Rattle.ebr_run.specs.Values.{on_value, read}
use Rattle.ebr_run.specs.Scope.{Env, callee}
use Rattle.ebr_run.specs.Expressions.{Calls, Then, Reading, Term, referred, located, give_on, given_back, referring, called_with, only_value, values, function_called, of_one, unless_decided, of_two, further, summed, not_if, between, among}
use Rattle.ebr_bodies.proofs.CodeStates.{Kept, Keeps, if_keeps, then_run_keeps}
use Rattle.ebr_bodies.proofs.CodeValues.{ThenKeeps, on_value_keeps, read_keeps}

-- calls ask what code may ask
pub record CallsKeep (calls : Calls) : Type 0 where
  pub call : (f : Callee) (vs : List Value) → Keeps (calls.call f vs)
  pub refer : (r : Reference) (p : Word) → Keeps (calls.refer r p)

abbrev pub ReadingKeeps : Reading → Type 0
ReadingKeeps r = (env : Env) (calls : Calls) → CallsKeep calls → (next : Then) → ThenKeeps next → Keeps (r env calls next)

abbrev pub ListsKeep : (List Value → Runs) → Type 0
ListsKeep next = (vs : List Value) → Keeps (next vs)

-- ---- names and calls

pub referred_keeps : (l : Location) (calls : Calls) → CallsKeep calls → (next : Runs) → Keeps next → Keeps (referred l calls next)
referred_keeps (Own k) calls kc next n σ h = n σ h
referred_keeps (Member p k) calls kc next n σ h = then_run_keeps (calls.refer reference.Data p (bare σ)) next (kc.refer reference.Data p (bare σ) h) n

pub located_keeps : (l : Location) (calls : Calls) → CallsKeep calls → (next : Then) → ThenKeeps next → Keeps (located l calls next)
located_keeps l calls kc next n σ h = referred_keeps l calls kc (read l next) (read_keeps l next n) σ h

give_on_keeps : (e : End) (n : ℕ) (o : Outcome) (next : List Value → Runs) → Kept o → ListsKeep next → Kept (give_on e n o next)
give_on_keeps Normal n o next h c = if_keeps (nat_eq (length o.state.memory.operands) n) (next o.state.memory.operands o.state) (broken o.state) (c o.state.memory.operands o.state h) h
give_on_keeps e n o next h c = h

given_back_keeps : (n : ℕ) (o : Outcome) (next : List Value → Runs) → Kept o → ListsKeep next → Kept (given_back n o next)
given_back_keeps n o next h c = give_on_keeps o.end n o next h c

referring_keeps : (c : Class) (p : Word) (calls : Calls) → CallsKeep calls → (next : Runs) → Keeps next → Keeps (referring c p calls next)
referring_keeps class.Body p calls kc next n σ h = then_run_keeps (calls.refer reference.Other p (bare σ)) next (kc.refer reference.Other p (bare σ) h) n
referring_keeps c p calls kc next n σ h = n σ h

pub called_with_keeps : (f : Callee) (vs : List Value) (calls : Calls) → CallsKeep calls → (next : List Value → Runs) → ListsKeep next → Keeps (called_with f vs calls next)
called_with_keeps f vs calls kc next n σ h = referring_keeps f.unit.class f.unit.name calls kc (λ τ. given_back f.results (calls.call f vs (bare τ)) next) (λ τ k. given_back_keeps f.results (calls.call f vs (bare τ)) next (kc.call f vs (bare τ) k) n) σ h

only_value_keeps : (next : Then) → ThenKeeps next → ListsKeep (only_value next)
only_value_keeps next n [] σ h = h
only_value_keeps next n (v ∷ []) σ h = n v σ h
only_value_keeps next n (v ∷ w ∷ vs) σ h = h

pub values_keeps : (rs : List Reading) → AllByRecursion ReadingKeeps rs → (env : Env) (calls : Calls) → CallsKeep calls → (next : List Value → Runs) → ListsKeep next → Keeps (values rs env calls next)
values_keeps [] rk env calls kc next n σ h = n [] σ h
values_keeps (r ∷ rs) rk env calls kc next n σ h =
    rk.0 env calls kc (λ v τ. values rs env calls (λ vs υ. next (v ∷ vs) υ) τ) (λ v. values_keeps rs rk.1 env calls kc (λ vs υ. next (v ∷ vs) υ) (λ vs. n (v ∷ vs))) σ h

pub function_called_keeps : (key : ObjectKey) (at : ℕ) (rs : List Reading) → AllByRecursion ReadingKeeps rs → ReadingKeeps (function_called key at rs)
function_called_keeps key at rs rk env calls kc next n σ h =
    values_keeps rs rk env calls kc (λ vs. called_with (callee key at (length rs) 1) vs calls (only_value next)) (λ vs. called_with_keeps (callee key at (length rs) 1) vs calls kc (only_value next) (only_value_keeps next n)) σ h

-- ---- operators

pub of_one_keeps : (f : Builtin) (a : Reading) → ReadingKeeps a → ReadingKeeps (of_one f a)
of_one_keeps f a ak env calls kc next n σ h = ak env calls kc (λ x τ. on_value (function f (x ∷ []) InCode) next τ) (λ x. on_value_keeps (function f (x ∷ []) InCode) next n) σ h

unless_decided_keeps : (v : Option Value) (next : Then) (more : Runs) → ThenKeeps next → Keeps more → Keeps (unless_decided v next more)
unless_decided_keeps (Some v) next more n c σ h = n v σ h
unless_decided_keeps None next more n c σ h = c σ h

pub of_two_keeps : (o : BinOp) (x : Value) (b : Reading) → ReadingKeeps b → ReadingKeeps (of_two o x b)
of_two_keeps o x b bk env calls kc next n σ h =
    unless_decided_keeps (decided o x) next (b env calls (λ y τ. on_value (binary o x y InCode) next τ)) n (bk env calls kc (λ y τ. on_value (binary o x y InCode) next τ) (λ y. on_value_keeps (binary o x y InCode) next n)) σ h

pub further_keeps : (o : BinOp) (bs : List Reading) → AllByRecursion ReadingKeeps bs → (x : Value) → ReadingKeeps (further o bs x)
further_keeps o [] bk x env calls kc next n σ h = n x σ h
further_keeps o (b ∷ bs) bk x env calls kc next n σ h = of_two_keeps o x b bk.0 env calls kc (λ y τ. further o bs y env calls next τ) (λ y. further_keeps o bs bk.1 y env calls kc next n) σ h

abbrev pub TermKeeps : Term → Type 0
TermKeeps t = ReadingKeeps t.operand

pub summed_keeps : (ts : List Term) → AllByRecursion TermKeeps ts → (x : Value) → ReadingKeeps (summed ts x)
summed_keeps [] tk x env calls kc next n σ h = n x σ h
summed_keeps (t ∷ ts) tk x env calls kc next n σ h = of_two_keeps t.operator x t.operand tk.0 env calls kc (λ y τ. summed ts y env calls next τ) (λ y. summed_keeps ts tk.1 y env calls kc next n) σ h

pub not_if_keeps : (negated : Bool) (next : Then) → ThenKeeps next → ThenKeeps (not_if negated next)
not_if_keeps true next n x σ h = on_value_keeps (function builtin.Not (x ∷ []) InCode) next n σ h
not_if_keeps false next n x σ h = n x σ h

pub between_keeps : (x : Value) (a b : Reading) → ReadingKeeps a → ReadingKeeps b → ReadingKeeps (between x a b)
between_keeps x a b ak bk env calls kc next n σ h =
    of_two_keeps op.GreaterOrEqual x a ak env calls kc (λ c τ. of_two op.And c (λ e ks more υ. of_two op.LessOrEqual x b e ks more υ) env calls next τ)
    (λ c. of_two_keeps op.And c (λ e ks more υ. of_two op.LessOrEqual x b e ks more υ) (of_two_keeps op.LessOrEqual x b bk) env calls kc next n) σ h

pub among_keeps : (x : Value) (bs : List Reading) → AllByRecursion ReadingKeeps bs → (found : Value) → ReadingKeeps (among x bs found)
among_keeps x [] bk found env calls kc next n σ h = n found σ h
among_keeps x (b ∷ bs) bk found env calls kc next n σ h =
    of_two_keeps op.Or found (λ e ks more υ. of_two op.Equal x b e ks more υ) (of_two_keeps op.Equal x b bk.0) env calls kc (λ c τ. among x bs c env calls next τ) (λ c. among_keeps x bs bk.1 c env calls kc next n) σ h
