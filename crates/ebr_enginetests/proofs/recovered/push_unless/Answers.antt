use Rattle.std.proofs.Common.{sym, subst}
use Rattle.std.specs.Prelude.{All}
use Rattle.std.proofs.lemmas.List.Elements.{All-push}
use Rattle.ebr_recovery.specs.Recovery.{HasRoom}
use Rattle.ebr_enginetests.proofs.recovered.push_unless.Goals as goal

pub returns : goal.returns
returns c = λ h.
    subst (All HasRoom) (sym c.in_ok-push.ensures.ok)
    (All-push HasRoom c.args.copies.now c.in_ok-copied.copied h (subst HasRoom (sym c.in_ok-copied.ensures.same) c.in_ok-copied.ensures.room))
