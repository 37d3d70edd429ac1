use Rattle.std.proofs.Common.{length, ap, sym, ◌∙◌, arith}
use Rattle.ebr_worker.proofs.Running.{count_by_scripts, new_count, new_own}
use Rattle.ebr_worker.proofs.run.sessions_of.Goals as goal

pub seated-requires-clause-new : goal.seated-requires-clause-new
seated-requires-clause-new g c = new_own c.args.scripts.now _ c.in-Ok.ensures.new

pub seated-requires-clause-sinks : goal.seated-requires-clause-sinks
seated-requires-clause-sinks g c = c.requires.sinks ∙ sym (new_count c.args.scripts.now _ c.in-Ok.ensures.new)

pub seated-requires-clause-empty : goal.seated-requires-clause-empty
seated-requires-clause-empty g c = c.in-Ok.ensures.empty.0

pub seated-requires-clause-room : goal.seated-requires-clause-room
seated-requires-clause-room g c =
    let count = new_count c.args.scripts.now _ c.in-Ok.ensures.new in
    let room = c.in-Ok.ensures.room.0 in
    omega (arith, count, room)

pub invariant_of-result : goal.invariant_of-result
invariant_of-result g c =
    let count = count_by_scripts c.args.scripts.now _ (c.seated.ensures.scripts ∙ c.in-Ok.ensures.new.scripts_are) in
    record {
      begun = c.seated.ensures.begun;
      no_end = c.in-Ok.ensures.empty.1;
      fits = (let room = c.in-Ok.ensures.room.1 in omega (arith, count, room));
      no_sink = c.in-Ok.ensures.empty.2;
      sinks_fit = (let room = c.in-Ok.ensures.room.2 in omega (arith, count, room));
    }

pub returns-clause-scripts : goal.returns-clause-scripts
returns-clause-scripts g c = c.seated.ensures.scripts ∙ c.in-Ok.ensures.new.scripts_are
