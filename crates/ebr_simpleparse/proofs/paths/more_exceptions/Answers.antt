use Rattle.std.proofs.Common.{◌≡◌, ◌≢◌, ◌∙◌, true, false, None, Some, [], ◌∷◌, length, rules}
use Rattle.ebr_grammar.specs.declared.tokens.ReadStop.TheVariants.{NoMemory}
use Rattle.ebr_grammar.specs.declared.kind.Kind.TheVariants as k
use Rattle.ebr_grammar.specs.Forms.{sees}
use Rattle.ebr_grammar.specs.Words.{◌▸◌}
use Rattle.ebr_grammar.proofs.Steps.{steps}
use Rattle.ebr_grammar.proofs.Loops.{stops, ends, goes_on, fails, from_first}
use Rattle.ebr_simpleparse.specs.Productions.{reads_by}
use Rattle.ebr_simpleparse.specs.Paths.{path, more_exceptions}
use Rattle.ebr_simpleparse.proofs.paths.more_exceptions.Goals as goal

pub returns-then-not-eat : goal.returns-then-not-eat
unfolding more_exceptions
returns-then-not-eat c =
    let unseen : sees (k.Or ∷ []) c.loop-turn.tokens ≡ false = search rules in
    let e = stops (k.Or ∷ []) (reads_by (k.Or ▸ path)) _ _ c.loop-turn.found c.loop-turn.tokens _ c.loop-turn.invariant unseen in
    let z = from_first (k.Or ∷ []) (reads_by (k.Or ▸ path)) (length c.args.tokens.now) c.args.first c.args.tokens.now ∙ e in
    simp steps (search (rules, z))

pub returns-in_err-next : goal.returns-in_err-next
unfolding more_exceptions
returns-in_err-next c =
    let seen : sees (k.Or ∷ []) c.loop-turn.tokens ≡ true = search rules in
    let none : c.in_err-next.field-0.0 ≢ NoMemory → reads_by (k.Or ▸ path) c.loop-turn.tokens ≡ None = λ x. simp steps (search (rules, c.in_err-next.ensures x)) in
    let e = λ (x : c.in_err-next.field-0.0 ≢ NoMemory). fails (k.Or ∷ []) (reads_by (k.Or ▸ path)) _ _ c.loop-turn.found c.loop-turn.tokens _ c.loop-turn.invariant c.loop-turn-test.true seen (none x) in
    let z = λ (x : c.in_err-next.field-0.0 ≢ NoMemory). from_first (k.Or ∷ []) (reads_by (k.Or ▸ path)) (length c.args.tokens.now) c.args.first c.args.tokens.now ∙ e x in
    simp steps (search (rules, z))

pub loop-turn-preserved : goal.loop-turn-preserved
loop-turn-preserved c =
    let seen : sees (k.Or ∷ []) c.loop-turn.tokens ≡ true = search rules in
    let read : reads_by (k.Or ▸ path) c.loop-turn.tokens ≡ Some (c.in_ok-next.next, c.read_path.new.tokens) = simp steps (search rules) in
    let e = goes_on (k.Or ∷ []) (reads_by (k.Or ▸ path)) _ _ c.loop-turn.found c.loop-turn.tokens _ c.loop-turn.invariant c.in_ok-next.next c.read_path.new.tokens c.loop-turn-test.true seen read in
    search (rules, e)

pub returns : goal.returns
unfolding more_exceptions
returns c =
    let e = ends (k.Or ∷ []) (reads_by (k.Or ▸ path)) _ _ c.loop-turn.found c.loop-turn.tokens _ c.loop-turn.invariant c.loop-turn-test.false in
    let z = from_first (k.Or ∷ []) (reads_by (k.Or ▸ path)) (length c.args.tokens.now) c.args.first c.args.tokens.now ∙ e in
    simp steps (search (rules, z))
