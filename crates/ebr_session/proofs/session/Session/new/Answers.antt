use Rattle.std.proofs.Common.{None}
use Rattle.ebr_session.specs.declared.session.Phase.TheVariants as phase
use Rattle.ebr_session.proofs.Following.{follows, new_holds}
use Rattle.ebr_session.proofs.session.Session.new.Goals as goal

pub invariant_of-result : goal.invariant_of-result
invariant_of-result g c =
    new_holds g.B.CodeBook.answers c.args.id c.args.script.now _ _ _ _ None c.in_ok-new.ensures c.in_ok-transcript.ensures.none c.in_ok-transcript.ensures.room c.new-3.ensures c.new-4.ensures

pub returns-clause-follows : goal.returns-clause-follows
returns-clause-follows g c = follows g.B.CodeBook.answers phase.Working None _ (invariant_of-result g c)
