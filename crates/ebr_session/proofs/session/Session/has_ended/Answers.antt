use Rattle.std.proofs.Common.{◌∙◌, ap, subst}
use Rattle.ebr_session.specs.Has.{Follows, Progress}
use Rattle.ebr_session.proofs.Following.{follows}
use Rattle.ebr_session.proofs.session.Session.has_ended.Goals as goal

pub returns : goal.returns
returns g c = record {
  ended = c.is_over.ensures ∙ ap (λ (p : Progress). p.ended) c.self.view_is;
  follows = subst Follows c.self.view_is (follows g.B.CodeBook.answers c.self.inside.phase c.self.inside.out _ c.self.invariant);
}
