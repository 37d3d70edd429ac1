use Rattle.std.proofs.Common.{◌-◌, ◌<◌, ◌⊎◌, None, length, ap, refl, ◌∙◌}
use Rattle.std.specs.Prelude.{IsSomeAnd}
use Rattle.ebr_faults.specs.Faults.{Rises}
use Rattle.ebr_server.specs.Program.{fault_at}
use Rattle.ebr_server.proofs.Calls.{all_called, fault_of, order_faultless}
use Rattle.ebr_server.proofs.Staying.{bad_none, fails_none}
use Rattle.ebr_server.proofs.rehearsal.read_turns.Goals as goal

pub returns-in-Ok-clause-called : goal.returns-in-Ok-clause-called
returns-in-Ok-clause-called g c =
    all_called _ _ _ _ _ _ c.in-Ok.ensures.opened
    (fault_of _ _ None c.without_source.ensures.source (ap fault_at c.without_source.ensures.code ∙ order_faultless (length c.args.words.now - 3) c.as_slice.result.now c.in-Err-turns_in.code c.in-Err-turns_in.ensures.stops)) refl refl

pub returns-in-Ok-clause-no_disk : goal.returns-in-Ok-clause-no_disk
returns-in-Ok-clause-no_disk g c = bad_none (length c.args.words.now - 3) c.as_slice.result.now _ _ c.without_source.ensures.code c.in-Err-turns_in.ensures.stops

pub returns-clause-no_disk : goal.returns-clause-no_disk
returns-clause-no_disk g c =
    fails_none (g.H.Host.bytes c.args.host.now) c.args.words.now 2 (Rises (g.H.Host.faults c.args.host.now) (g.H.Host.faults c.read_word.new.host) ⊎ IsSomeAnd c.in-Err.halt.source (λ s. 0 < g.H.Source.Source.faults s)) c.in-Err.halt.code c.in-Err.ensures.fails
