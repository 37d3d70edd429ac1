use Rattle.std.proofs.Common.{[], ap, sym, subst, ◌∙◌}
use Rattle.std.specs.Prelude.{Err}
use Rattle.ebr_asks.specs.declared.answer.Answer.TheVariants as answer
use Rattle.ebr_database.specs.Shows.{GaveUp}
use Rattle.ebr_database.specs.Database.{reply_commit}
use Rattle.ebr_core.specs.Machine.{reply_ddl, reply_define}
use Rattle.ebr_core.specs.inside.Held.{Replies, answered}
use Rattle.ebr_core.proofs.Carrying.{committed, committed_there, then_replied, refused_first, gave_up_first}
use Rattle.ebr_core.proofs.define.ddl.Goals as goal

pub defined-requires-clause-held : goal.defined-requires-clause-held
defined-requires-clause-held g c =
    let h = c.requires.held in
    let m = c.in-Ok.ensures h.database h.edition h.session h.holds h.has in
    record {
      database = (reply_commit h.database c.args.s h.session).database;
      edition = h.edition;
      session = committed h.database c.args.s h.session;
      holds = m.holds;
      has = committed_there g.K.Keep.as_keeper h.database c.args.s h.edition h.session h.has;
    }

pub returns-in-Ok : goal.returns-in-Ok
returns-in-Ok g c = λ db d x h has same.
    let m = c.in-Ok.ensures db d x h has in
    let first = reply_commit db c.args.s x in
    then_replied g.K.Keep.as_keeper c.args.current.now c.commit.new.current c.defined.new.current first (reply_define d c.args.s c.args.what.now c.args.text.now) c.defined.result m
    (c.defined.ensures first.database d (committed db c.args.s x) m.holds (committed_there g.K.Keep.as_keeper db c.args.s d x has) same)

pub returns-in-Err-Refused : goal.returns-in-Err-Refused
returns-in-Err-Refused g c = λ db d x h has same.
    let first = reply_commit db c.args.s x in
    refused_first g.K.Keep.as_keeper c.args.current.now c.commit.new.current first (reply_define d c.args.s c.args.what.now c.args.text.now) c.in-Err-Refused.code c.refusal.result
    (c.refusal.ensures ∙ ap (λ k. answer.Refused k 0 []) c.in-Err-Refused.code-is)
    (subst (λ f. Replies g.K.Keep.as_keeper c.args.current.now c.commit.new.current (answered (Err f)) first) c.in-Err-Refused.field-0-is (c.in-Err-Refused.ensures db d x h has))

pub returns-in-Err-Halted : goal.returns-in-Err-Halted
returns-in-Err-Halted g c = λ db d x h has same.
    let first = reply_commit db c.args.s x in
    subst (λ w. GaveUp (g.K.Keep.as_keeper c.args.current.now.world.keeper) (g.K.Keep.as_keeper c.commit.new.current.world.keeper) (reply_ddl d db c.args.s x c.args.what.now c.args.text.now).records w) (sym c.in-Err-Halted.why-is)
    (gave_up_first (g.K.Keep.as_keeper c.args.current.now.world.keeper) (g.K.Keep.as_keeper c.commit.new.current.world.keeper) first (reply_define d c.args.s c.args.what.now c.args.text.now) c.in-Err-Halted.why
    (subst (λ f. Replies g.K.Keep.as_keeper c.args.current.now c.commit.new.current (answered (Err f)) first) c.in-Err-Halted.field-0-is (c.in-Err-Halted.ensures db d x h has)))
