use Rattle.std.proofs.Common.{◌∙◌, subst, sym}
use Rattle.ebr_asks.specs.declared.ask.Ask.TheVariants.{Sql}
use Rattle.ebr_core.specs.History.{is_light}
use Rattle.ebr_core.specs.Machine.{reply_in}
use Rattle.ebr_core.specs.inside.Held.{CopiesGiven, Tries}
use Rattle.ebr_core.proofs.LightAsks.{heavy_plainly, tried_plainly}
use Rattle.ebr_core.proofs.current.reply_in.Goals as goal

pub returns-in-Begin-clause-reply : goal.returns-in-Begin-clause-reply
returns-in-Begin-clause-reply g c = λ db d x h has same.
    subst (λ a. Tries g.K.Keep.as_keeper (is_light a) c.args.current.now c.begin.new.current db c.begin.result (reply_in d db c.args.s x a)) (sym c.in-Begin.is) (c.begin.ensures.reply db d x h has same)

pub statement-requires-clause-is : goal.statement-requires-clause-is
statement-requires-clause-is g c = c.in-Sql.is ∙ (λ i. Sql (sym c.get.ensures i) (sym (c.as_slice.ensures ∙ c.get-in-Sql.ensures) i) c.in-Sql.left)

pub returns-in-Sql-clause-reply : goal.returns-in-Sql-clause-reply
returns-in-Sql-clause-reply g c = λ db d x h has same.
    subst (λ a. Tries g.K.Keep.as_keeper (is_light a) c.args.current.now c.statement.new.current db c.statement.result (reply_in d db c.args.s x a)) (sym (c.in-Sql.is ∙ (λ i. Sql (sym c.get.ensures i) (sym (c.as_slice.ensures ∙ c.get-in-Sql.ensures) i) c.in-Sql.left))) (c.statement.ensures.reply db d x h has same)

pub returns-in_default-clause-reply : goal.returns-in_default-clause-reply
returns-in_default-clause-reply g c = λ db d x h has same.
    subst (λ b. Tries g.K.Keep.as_keeper b c.args.current.now c.reply_plainly.new.current db c.told.result (reply_in d db c.args.s x c.args.ask.now)) (sym (heavy_plainly c.args.ask.now c.in_default.not-Begin c.in_default.not-Sql))
    (tried_plainly g.K.Keep.as_keeper c.args.current.now c.reply_plainly.new.current db c.reply_plainly.result c.told.result (reply_in d db c.args.s x c.args.ask.now) (c.reply_plainly.ensures db d x h has same)
    (subst (λ y. CopiesGiven y c.told.result) c.with_nothing.ensures c.told.ensures))
