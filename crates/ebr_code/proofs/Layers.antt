-- The meaning of code at one layer.
use Rattle.std.proofs.Common.{◌≡◌, ℕ, Bool, List, map, ap, ◌∙◌, rules}
use Rattle.ebr_run.specs.declared.place.Location.{Location}
use Rattle.ebr_value.specs.declared.form.BinOp.{BinOp}
use Rattle.ebr_code.specs.declared.instruction.Operation.{Operation}
use Rattle.ebr_code.specs.declared.instruction.Handler.{Handler, out-Handler}
use Rattle.ebr_code.specs.declared.instruction.Instruction.{Instruction, out-Instruction, Do, Decide, If, Loop, Numbers, Guard, Closing}
use Rattle.ebr_code.specs.declared.instruction.Instruction.TheOpen.{Instruction-F, Handler-F}
use Rattle.ebr_code.specs.declared.instruction.Instruction.TheOpen as code
use Rattle.ebr_code.specs.declared.instruction.Instruction.TheViews.{the_lemmas, roll-Handler}
use Rattle.ebr_code.specs.declared.instruction.Instruction.TheFolds.{fold_out-Instruction, fold_out-Handler, fold-roll-Handler, map-Instruction, map-Handler}
use Rattle.ebr_code.specs.Instructions.{Meaning, Handling, operate, act, handler, meaning_of, handling_of, run}

pub meaning_of-out : (i : Instruction) → meaning_of i ≡ act (map-Instruction Instruction Handler Meaning Handling meaning_of handling_of (out-Instruction i))
unfolding meaning_of handling_of
meaning_of-out i = fold_out-Instruction Meaning Handling act handler i

meaning_at : (i : Instruction) (d : Instruction-F Instruction Handler) → out-Instruction i ≡ d → meaning_of i ≡ act (map-Instruction Instruction Handler Meaning Handling meaning_of handling_of d)
meaning_at i d e = meaning_of-out i ∙ ap (λ x. act (map-Instruction Instruction Handler Meaning Handling meaning_of handling_of x)) e

pub handling_of-out : (h : Handler) → handling_of h ≡ handler (map-Handler Instruction Handler Meaning Handling meaning_of handling_of (out-Handler h))
unfolding meaning_of handling_of
handling_of-out h = fold_out-Handler Meaning Handling act handler h

pub handling_of-roll : (h : Handler-F Instruction Handler) → handling_of (roll-Handler h) ≡ record { caught = h.caught; run = run h.body }
unfolding meaning_of handling_of
handling_of-roll h = fold-roll-Handler Meaning Handling act handler h

pub meaning_of-Do : (o : Operation) → meaning_of (Do o) ≡ operate o
meaning_of-Do o = meaning_at (Do o) (code.Do o) (search (rules, the_lemmas))

pub meaning_of-Decide : (o : BinOp) (a : List Instruction) → meaning_of (Decide o a) ≡ act (code.Decide o (map meaning_of a))
meaning_of-Decide o a = meaning_at (Decide o a) (code.Decide o a) (search (rules, the_lemmas))

pub meaning_of-If : (a b : List Instruction) → meaning_of (If a b) ≡ act (code.If (map meaning_of a) (map meaning_of b))
meaning_of-If a b = meaning_at (If a b) (code.If a b) (search (rules, the_lemmas))

pub meaning_of-Loop : (a b : List Instruction) → meaning_of (Loop a b) ≡ act (code.Loop (map meaning_of a) (map meaning_of b))
meaning_of-Loop a b = meaning_at (Loop a b) (code.Loop a b) (search (rules, the_lemmas))

pub meaning_of-Numbers : (k : ℕ) (reversed : Bool) (a : List Instruction) → meaning_of (Numbers k reversed a) ≡ act (code.Numbers k reversed (map meaning_of a))
meaning_of-Numbers k reversed a = meaning_at (Numbers k reversed a) (code.Numbers k reversed a) (search (rules, the_lemmas))

pub meaning_of-Guard : (a : List Instruction) (k : ℕ) (hs : List Handler) → meaning_of (Guard a k hs) ≡ act (code.Guard (map meaning_of a) k (map handling_of hs))
meaning_of-Guard a k hs = meaning_at (Guard a k hs) (code.Guard a k hs) (search (rules, the_lemmas))

pub meaning_of-Closing : (l : Location) (a : List Instruction) → meaning_of (Closing l a) ≡ act (code.Closing l (map meaning_of a))
meaning_of-Closing l a = meaning_at (Closing l a) (code.Closing l a) (search (rules, the_lemmas))
