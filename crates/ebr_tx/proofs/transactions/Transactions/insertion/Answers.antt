use Rattle.std.proofs.Common.{Option, None, sym, ap, subst, ◌∙◌}
use Rattle.std.specs.Option.{option_or}
use Rattle.ebr_base.specs.Answers.{Answers}
use Rattle.ebr_base.specs.declared.code.Code.{Code}
use Rattle.ebr_tx.specs.Data.{own}
use Rattle.ebr_tx.specs.Limits.{is_full, limit_refusal, max_row}
use Rattle.ebr_tx.specs.Calls.{unless_refused, new_key_refusal, new_number, insertion}
use Rattle.std.specs.Prelude.{nat_lt, ◌||◌}
use Rattle.ebr_tx.proofs.transactions.Transactions.insertion.Goals as goal

pub returns-in-Some : goal.returns-in-Some
returns-in-Some c =
    ap (λ (o : Option Code). unless_refused (option_or o (limit_refusal (nat_lt max_row (new_number c.args.self.now.contents c.args.def.now.id) || is_full (own c.args.self.now.contents c.args.t).changes (insertion c.args.self.now.contents c.args.def.now.id c.args.values)))) (insertion c.args.self.now.contents c.args.def.now.id c.args.values))
    (ap (new_key_refusal c.args.self.now.contents c.args.t c.args.def.now.id None) (sym (c.as_slice.ensures ∙ c.get.ensures)) ∙ sym c.in_ok-code.ensures ∙ c.in-Some.is)

pub returns : goal.returns
returns c =
    subst (λ (o : Option Code). Answers c.numbered.result (unless_refused (option_or o (limit_refusal (nat_lt max_row (new_number c.args.self.now.contents c.args.def.now.id) || is_full (own c.args.self.now.contents c.args.t).changes (insertion c.args.self.now.contents c.args.def.now.id c.args.values)))) (insertion c.args.self.now.contents c.args.def.now.id c.args.values)))
    (sym c.in_default.is ∙ c.in_ok-code.ensures ∙ ap (new_key_refusal c.args.self.now.contents c.args.t c.args.def.now.id None) (c.as_slice.ensures ∙ c.get.ensures))
    c.numbered.ensures
