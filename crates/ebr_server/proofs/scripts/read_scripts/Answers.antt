use Rattle.std.proofs.Common.{length, arith, ◌∙◌}
use Rattle.ebr_server.specs.Program.{source_at}
use Rattle.ebr_server.proofs.Calls.{sources_at, step_more}
use Rattle.ebr_server.proofs.InWords.{fails_on, scripts_more}
use Rattle.ebr_server.proofs.scripts.read_scripts.Goals as goal

pub returns-in-Err-clause-fails : goal.returns-in-Err-clause-fails
returns-in-Err-clause-fails g c =
    fails_on _ _ _ _ _ _ _ _ _ _ _ c.loop-word.invariant.same c.loop-word.invariant.scripts c.loop-word.invariant.from (omega arith) c.loop-word.invariant.counted c.in-Err.ensures.fails

pub returns-in-Err-clause-called : goal.returns-in-Err-clause-called
returns-in-Err-clause-called g c =
    sources_at c.args.words.now _ _ _ c.args.first c.loop-word.word (length c.args.words.now) _ c.loop-word.invariant.from (omega arith) c.loop-word.invariant.called c.in-Err.ensures.called

pub loop-word-preserved : goal.loop-word-preserved
loop-word-preserved g c = record {
  from = omega (arith, c.loop-word.invariant.from);
  scripts = scripts_more (g.H.Host.bytes c.args.host.now) (g.H.Host.bytes c.loop-word.host) c.args.words.now c.args.first c.loop-word.word _ _ c.loop-word.invariant.same c.loop-word.invariant.scripts c.in_default.ensures.read;
  same = λ w. c.read_more.ensures.same w ∙ c.loop-word.invariant.same w;
  same_disks = λ w. c.read_more.ensures.same_disks w ∙ c.loop-word.invariant.same_disks w;
  counted = omega (arith, c.loop-word.invariant.counted, c.read_more.ensures.counted);
  reports = c.read_more.ensures.reports ∙ c.loop-word.invariant.reports;
  called = step_more (source_at c.args.words.now) _ _ _ c.args.first c.loop-word.word c.loop-word.invariant.from c.loop-word.invariant.called c.in_default.ensures.opened;
}
