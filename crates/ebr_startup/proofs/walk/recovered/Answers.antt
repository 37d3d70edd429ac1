use Rattle.std.proofs.Common.{[], subst, sym}
use Rattle.std.specs.Prelude.{All}
use Rattle.ebr_recovery.specs.Recovery.{Extends, HasRoom}
use Rattle.ebr_startup.specs.inside.Walk.{IsWithin}
use Rattle.ebr_startup.proofs.Walking.{have_room, told_within, walked_to}
use Rattle.ebr_startup.proofs.walk.recovered.Goals as goal

pub extend-walked-requires-clause-stands : goal.extend-walked-requires-clause-stands
extend-walked-requires-clause-stands c = record { sessions = c.args.sessions; records = []; stands = c.in_ok-recovery.ensures }

pub extend-walked-requires-clause-room : goal.extend-walked-requires-clause-room
extend-walked-requires-clause-room c = subst (All HasRoom) (sym c.as_slice.ensures) (have_room c.args.found.now.records c.requires.payloads)

pub placed-done-requires-clause-within : goal.placed-done-requires-clause-within
placed-done-requires-clause-within c =
    subst (λ l. IsWithin l c.extend-walked.result) c.as_slice.ensures (told_within c.args.sessions c.as_slice.result.now c.extend-walked.new.self c.extend-walked.result (c.extend-walked.ensures c.args.sessions [] c.in_ok-recovery.ensures))

pub returns : goal.returns
returns c =
    walked_to c.args.sessions c.args.found.now c.extend-walked.new.self c.extend-walked.result c.placed-done.result c.value_if_done.result
    (subst (λ l. Extends c.args.sessions [] l c.extend-walked.new.self c.extend-walked.result) c.as_slice.ensures (c.extend-walked.ensures c.args.sessions [] c.in_ok-recovery.ensures)) c.placed-done.ensures c.value_if_done.ensures
