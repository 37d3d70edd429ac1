use Rattle.std.proofs.Common.{◌≡◌, ◌≢◌, true, false, None, Some, [], ◌∷◌, rules}
use Rattle.ebr_grammar.specs.declared.tokens.ReadStop.TheVariants.{NoMemory}
use Rattle.ebr_grammar.specs.declared.kind.Kind.TheVariants as k
use Rattle.ebr_grammar.specs.Forms.{sees}
use Rattle.ebr_grammar.specs.Reading.{next}
use Rattle.ebr_ddlparse.specs.Base.{reading}
use Rattle.ebr_ddlparse.specs.Tables.{column, is_key}
use Rattle.ebr_ddlparse.proofs.Entries.{at_end, at_last_turn, at_key, at_fault, at_column}
use Rattle.ebr_ddlparse.proofs.tables.more_entries.Goals as goal

pub returns-then-not-eat : goal.returns-then-not-eat
returns-then-not-eat c =
    let unseen : sees (k.Comma ∷ []) c.loop-turn.tokens ≡ false = search rules in
    let z = at_end c.args.first c.args.tokens.now _ _ c.loop-turn.columns c.loop-turn.tokens c.loop-turn.invariant unseen in
    search (rules, z)

pub returns-then-is_key : goal.returns-then-is_key
returns-then-is_key c =
    let seen : sees (k.Comma ∷ []) c.loop-turn.tokens ≡ true = search rules in
    let is : is_key (next c.loop-turn.tokens) ≡ true = search rules in
    let z = at_key c.args.first c.args.tokens.now _ _ c.loop-turn.columns c.loop-turn.tokens c.loop-turn.invariant c.loop-turn-test.true seen is in
    search (rules, z)

pub returns-in_err-next : goal.returns-in_err-next
returns-in_err-next c =
    let seen : sees (k.Comma ∷ []) c.loop-turn.tokens ≡ true = search rules in
    let is : is_key (next c.loop-turn.tokens) ≡ false = search rules in
    let none : c.in_err-next.field-0.0 ≢ NoMemory → reading column (next c.loop-turn.tokens) ≡ None = λ x. search (rules, c.in_err-next.ensures x) in
    let z = λ (x : c.in_err-next.field-0.0 ≢ NoMemory). at_fault c.args.first c.args.tokens.now _ _ c.loop-turn.columns c.loop-turn.tokens c.loop-turn.invariant c.loop-turn-test.true seen is (none x) in
    search (rules, z)

pub loop-turn-preserved : goal.loop-turn-preserved
loop-turn-preserved c =
    let seen : sees (k.Comma ∷ []) c.loop-turn.tokens ≡ true = search rules in
    let is : is_key (next c.loop-turn.tokens) ≡ false = search rules in
    let read : reading column (next c.loop-turn.tokens) ≡ Some (c.in_ok-next.next, c.column.new.tokens) = search rules in
    let e = at_column c.args.first c.args.tokens.now _ _ c.loop-turn.columns c.loop-turn.tokens c.loop-turn.invariant c.loop-turn-test.true seen is c.in_ok-next.next c.column.new.tokens read in
    search (rules, e)

pub returns : goal.returns
returns c =
    let z = at_last_turn c.args.first c.args.tokens.now _ _ c.loop-turn.columns c.loop-turn.tokens c.loop-turn.invariant c.loop-turn-test.false in
    search (rules, z)
