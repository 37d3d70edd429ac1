use Rattle.std.proofs.Common.{arith}
use Rattle.ebr_cut.proofs.Lengths.{line_within, later_within}
use Rattle.ebr_cut.proofs.blank.blank_ahead.Goals as goal

pub overflow_add-result : goal.overflow_add-result
overflow_add-result c = omega (arith, c.requires.small, line_within c.args.rest.now c.args.seen.line c.requires.some c.requires.seen.line)

pub returns-then-begins-clause-within : goal.returns-then-begins-clause-within
returns-then-begins-clause-within c = omega (arith, line_within c.args.rest.now c.args.seen.line c.requires.some c.requires.seen.line)

pub overflow_add-result-in-Some : goal.overflow_add-result-in-Some
overflow_add-result-in-Some c =
    omega (arith, c.requires.small, later_within c.args.rest.now c.args.seen.later c.in-Some.length c.in-Some.is c.requires.seen.later (c.begins-2.ensures.within c.if-begins-2.true))

pub returns-in-Some-clause-within : goal.returns-in-Some-clause-within
returns-in-Some-clause-within c = later_within c.args.rest.now c.args.seen.later c.in-Some.length c.in-Some.is c.requires.seen.later (c.begins-2.ensures.within c.if-begins-2.true)
