use Rattle.std.proofs.Common.{◌≡◌, true, rules}
use Rattle.ebr_base.specs.Answers.{Answers}
use Rattle.ebr_value.specs.Forms.{binary, OnWant, joins}
use Rattle.ebr_value.proofs.Relations.{like_tells}
use Rattle.ebr_value.proofs.calls.binary.Goals as goal

pub returns-clause-like : goal.returns-clause-like
returns-clause-like c = λ text pattern o x y.
    let v : Answers c.answer.result (binary c.args.op c.args.a.now c.args.b.now c.args.place) = search rules in
    let m : OnWant c.answer.result (joins c.args.op ≡ true) = search rules in
    like_tells c.answer.result c.args.op c.args.a.now c.args.b.now c.args.place text pattern v m o x y
