use Rattle.std.proofs.Common.{List, subst}
use Rattle.ebr_journal.specs.declared.read.Gate.TheVariants.{Open, Mark}
use Rattle.ebr_journal.specs.Found.{LiesWithin, StandsAt}
use Rattle.ebr_journal.proofs.Moments.{stands_here, stands_still, told_after}
use Rattle.ebr_journal.proofs.Places.{early_marked, early_more}
use Rattle.ebr_journal.proofs.Reading.{walks_start, walks_more, walks_marked}
use Rattle.ebr_journal.proofs.read.walk.Goals as goal

pub loop-walked-init : goal.loop-walked-init
loop-walked-init g c =
    let m0 = g.D.Disk.as_medium c.args.disk.now in
    record {
      stands = stands_here m0;
      shows = c.requires.shows;
      walks = walks_start m0 c.args.len c.begin-walked.result c.begin-walked.ensures c.requires.some c.requires.told;
    }

pub loop-walked-preserved-in-Mark : goal.loop-walked-preserved-in-Mark
loop-walked-preserved-in-Mark g c =
    let m0 = g.D.Disk.as_medium c.args.disk.now in
    let m1 = g.D.Disk.as_medium c.loop-walked.disk in
    let inv = c.loop-walked.invariant in
    let w = c.loop-walked.walked in
    record {
      stands = stands_still m0 m1 (g.D.Disk.as_medium c.at_gate.new.disk) inv.stands c.at_gate.ensures.stands;
      shows = c.in_ok-at_gate.ensures.shows;
      walks = walks_marked m0 c.args.len w c.pass_mark.new.self inv.walks c.loop-walked-test.true c.pass_mark.ensures (subst (LiesWithin w.gate c.args.len w.form) c.in-Mark.is c.in_ok-at_gate.ensures.lies)
          (λ told. subst (λ (b : List _). StandsAt b w.gate w.form Mark) inv.stands.reads (subst (StandsAt m1.reads w.gate w.form) c.in-Mark.is (c.in_ok-at_gate.ensures.gate (told_after m0 m1 inv.stands.goes told))))
          (early_marked m0.reads w c.loop-walked-test.true);
    }

pub loop-walked-preserved : goal.loop-walked-preserved
loop-walked-preserved g c =
    let m0 = g.D.Disk.as_medium c.args.disk.now in
    let m1 = g.D.Disk.as_medium c.loop-walked.disk in
    let inv = c.loop-walked.invariant in
    let w = c.loop-walked.walked in
    let r = c.in-Open.r in
    record {
      stands = stands_still m0 m1 (g.D.Disk.as_medium c.at_gate.new.disk) inv.stands c.at_gate.ensures.stands;
      shows = c.in_ok-at_gate.ensures.shows;
      walks = walks_more m0 c.args.len w c.add.new.self inv.walks r c.in-Open.next c.loop-walked-test.true c.in_ok-add-in-Open.ensures (subst (LiesWithin w.gate c.args.len w.form) c.in-Open.is c.in_ok-at_gate.ensures.lies)
          (λ told. subst (λ (b : List _). StandsAt b w.gate w.form (Open r c.in-Open.next)) inv.stands.reads (subst (StandsAt m1.reads w.gate w.form) c.in-Open.is (c.in_ok-at_gate.ensures.gate (told_after m0 m1 inv.stands.goes told))))
          (early_more m0.reads w r c.loop-walked-test.true);
    }
