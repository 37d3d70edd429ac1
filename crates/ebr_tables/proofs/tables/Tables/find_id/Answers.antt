use Rattle.std.proofs.Common.{◌≡◌, ◌+◌, ◌-◌, ◌/◌, ◌<◌, ◌≤◌, ◌==◌, ℕ, Some, ⊎_elim, sym, ap, ◌∙◌, arith}
use Rattle.std.specs.Prelude.{slice_get}
use Rattle.std.specs.Option.{option_copied}
use Rattle.std.proofs.lemmas.Bool.{both_ways, eqb-true, eq-eqb, cases_lt}
use Rattle.ebr_tables.proofs.ById.{between_upper, between_lower, found_here, not_found}
use Rattle.ebr_tables.proofs.tables.Tables.find_id.Goals as goal

pub returns-then-eq : goal.returns-then-eq
returns-then-eq c =
    let at : ℕ = c.loop-low.low + (c.loop-low.high - c.loop-low.low) / 2 in
    sym (found_here c.args.self.now.made c.args.self.now.living c.nth.ensures.kept.ids c.args.id.0 c.loop-low.low c.loop-low.high at c.in-Some.def.now c.loop-low.invariant
    (sym c.nth.ensures.table ∙ ap option_copied c.in-Some.is) (eqb-true c.in-Some.def.now.id.0 c.args.id.0 (sym c.eq.ensures ∙ c.if-eq.true)))

pub loop-low-preserved-then-def-id : goal.loop-low-preserved-then-def-id
loop-low-preserved-then-def-id c =
    let at : ℕ = c.loop-low.low + (c.loop-low.high - c.loop-low.low) / 2 in
    between_upper c.args.self.now.made c.args.self.now.living c.nth.ensures.kept.ids c.args.id.0 c.loop-low.low c.loop-low.high at c.in-Some.def.now c.loop-low.invariant
    (sym c.nth.ensures.table ∙ ap option_copied c.in-Some.is) c.if-def-id.true (omega (arith, c.loop-low-test.true))

pub loop-low-preserved : goal.loop-low-preserved
loop-low-preserved c =
    let at : ℕ = c.loop-low.low + (c.loop-low.high - c.loop-low.low) / 2 in
    let more : c.args.id.0 < c.in-Some.def.now.id.0 =
    ⊎_elim (λ (a : c.args.id.0 < c.in-Some.def.now.id.0). a)
    (λ (b : c.in-Some.def.now.id.0 ≤ c.args.id.0).
    let same : c.in-Some.def.now.id.0 ≡ c.args.id.0 = omega (arith, b, c.if-def-id.false) in
    absurd (both_ways (c.in-Some.def.now.id.0 == c.args.id.0) (sym c.eq.ensures ∙ c.if-eq.false) (eq-eqb c.in-Some.def.now.id.0 c.args.id.0 same)))
    (cases_lt c.args.id.0 c.in-Some.def.now.id.0)
    in
    between_lower c.args.self.now.made c.args.self.now.living c.nth.ensures.kept.ids c.args.id.0 c.loop-low.low c.loop-low.high at c.in-Some.def.now c.loop-low.invariant
    (sym c.nth.ensures.table ∙ ap option_copied c.in-Some.is) more (omega arith)

pub returns : goal.returns
returns c = not_found c.args.self.now.living c.args.id.0 c.loop-low.low c.loop-low.high c.loop-low.invariant (omega (arith, c.loop-low-test.false))
