use Rattle.std.proofs.Common.{sym, ◌∙◌, arith}
use Rattle.ebr_locks.proofs.Released.{released-all, released-step, released-most}
use Rattle.ebr_locks.proofs.list.LockList.release_to.Goals as goal

pub loop-held-init : goal.loop-held-init
loop-held-init c = record {
  now = sym (released-all c.args.tx c.held-held.result c.args.self.now (omega (arith, c.held-held.ensures)));
  within = omega (arith, c.held-held.ensures);
  low = λ less. c.held-held.ensures;
}

pub loop-held-preserved : goal.loop-held-preserved
loop-held-preserved c = record {
  now = released-step c.args.tx c.loop-held.held c.args.self.now c.loop-held.self c.release_last.new.self c.loop-held.invariant.now c.loop-held.invariant.within c.release_last.ensures;
  within = omega (arith, c.loop-held.invariant.within);
  low = λ less. absurd (omega (arith, less, c.loop-held-test.true));
}

pub returns : goal.returns
returns c = c.loop-held.invariant.now ∙ released-most c.args.tx c.loop-held.held c.args.mark c.args.self.now (omega (arith, c.loop-held-test.false)) c.loop-held.invariant.low
