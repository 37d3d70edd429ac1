use Rattle.std.proofs.Common.{rules, ap, sym, ◌∙◌}
use Rattle.ebr_code.specs.Instructions.{push}
use Rattle.ebr_run.specs.Packages.{state_of as state_in}
use Rattle.ebr_running.specs.Rest.{stand, later_of, state_of}
use Rattle.ebr_running.proofs.Members.{read_found, read_lost}
use Rattle.ebr_running.proofs.running.Running.load_member.Goals as goal

pub returns-in_ok-push-in-Some : goal.returns-in_ok-push-in-Some
returns-in_ok-push-in-Some c calls asks given =
    let m = c.args.self.now in
    c.in_ok-push-in-Some.ensures calls asks given
    ∙ ap (stand calls (later_of m)) (sym (read_found c.args.place push (state_of m asks given) c.in-Some.value (state_in c.args.name.now m.packages) (search rules)))

pub returns-in-None : goal.returns-in-None
returns-in-None c calls asks given =
    let m = c.args.self.now in
    c.end_broken.ensures.moves calls asks given
    ∙ ap (stand calls (later_of m)) (sym (read_lost c.args.place push (state_of m asks given) (state_in c.args.name.now m.packages) (search rules)))
