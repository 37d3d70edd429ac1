use Rattle.std.proofs.Common.{length, ◌≤◌, sym, ap, ◌∙◌, arith}
use Rattle.std.proofs.lemmas.List.{drop_all}
use Rattle.ebr_grammar.specs.Forms.{sees}
use Rattle.ebr_grammar.proofs.Next.{sees-nothing}
use Rattle.ebr_grammar.proofs.tokens.Tokens.sees_later.Goals as goal

pub returns-then-skipped-self : goal.returns-then-skipped-self
returns-then-skipped-self c =
    let past : length c.args.self.now ≤ c.args.skipped = rw (← c.self.view_is) (omega (arith, c.if-skipped-self.true)) in
    sym (ap (sees c.args.kinds.now) (drop_all c.args.skipped c.args.self.now past) ∙ sees-nothing c.args.kinds.now)
