use Rattle.std.proofs.Common.{refl}
use Rattle.ebr_units.proofs.Kept.{on-err}
use Rattle.ebr_units.proofs.Made.{made-none, made-one, made-stops, made-all}
use Rattle.ebr_units.proofs.units.Units.make_all.Goals as goal

pub loop-before-init : goal.loop-before-init
loop-before-init c = λ lists own all is. made-none c.args.c.now lists c.args.self.now c.last_living-before-end.ensures.line is all

pub loop-before-preserved : goal.loop-before-preserved
loop-before-preserved c = λ lists own all is.
    let before = c.loop-before.invariant lists own all is in
    made-one lists c.args.self.now c.loop-before.self c.book.new.self c.loop-before.before _ c.in_ok-book.field-0 c.book.result refl c.in_ok-book.was before (c.book.ensures lists own before.keeps.current is)

pub returns-clause-serve : goal.returns-clause-serve
returns-clause-serve c = λ lists own all is.
    made-all c.args.c.now lists c.args.self.now c.loop-before.self c.loop-before.before c.last_living-before-end.result c.last_living-before-end.ensures.line is c.last_living-before-end.ensures.leaf c.loop-before-test.false
    (c.loop-before.invariant lists own all is)

pub returns-in_err-book : goal.returns-in_err-book
returns-in_err-book c = record {
  serve = λ lists own all is. on-err _ c.from_residual.result c.from_residual.ensures.0;
  keeps = λ lists own all is.
      let before = c.loop-before.invariant lists own all is in
      made-stops lists c.args.self.now c.loop-before.self c.book.new.self c.loop-before.before _ c.book.result before (c.book.ensures lists own before.keeps.current is);
}
