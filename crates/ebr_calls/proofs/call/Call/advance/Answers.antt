use Rattle.std.proofs.Common.{◌≡◌, ◌++◌, IfOk, rules, subst, sym, ap, ◌∙◌, append_assoc}
use Rattle.ebr_calls.specs.declared.levels.Levels.{Levels}
use Rattle.ebr_machine.specs.declared.machine.Machine.{Machine}
use Rattle.ebr_machine.specs.Has.{SaysAsk}
use Rattle.ebr_calls.specs.Levels.{OpensAt}
use Rattle.ebr_calls.proofs.Opening.{opened_by}
use Rattle.ebr_calls.proofs.Runs.{comes, moved}
use Rattle.ebr_calls.proofs.call.Call.advance.Goals as goal

pub returns-in-Ok-clause-comes : goal.returns-in-Ok-clause-comes
returns-in-Ok-clause-comes g c codes f rest made earlier room e was =
    let n = c.in_ok-next.ensures in
    let s = c.in-Ok.ensures in
    moved _ codes f _ _ _ _ rest made _ _ c.show.ensures.machine
    (comes codes f _ _ _ _ _ _ rest made _ _ _ _ room _ was
    (λ run asks answers h. n.has codes run asks answers (search rules) h)
    (λ run asks answers h. n.shows codes run asks answers (search rules) h)
    (λ d run asks answers more h. n.over d codes run asks answers more (search rules) h)
    (λ run asks answers h. n.prints codes run asks answers (search rules) h)
    (λ enough. ap (λ l. earlier ++ l) (s.printed enough) ∙ sym (append_assoc earlier _ _))
    s.shown (subst (λ r. IfOk r (λ (l : Levels). l.now ≡ c.args.self.now.levels.now)) s.levels c.before-levels.ensures.now))

pub returns-in-Ok-clause-says : goal.returns-in-Ok-clause-says
returns-in-Ok-clause-says g c = subst (λ (m : Machine). SaysAsk c.in_ok-next.next m.inner.ask) (sym c.show.ensures.machine) c.in_ok-next.ensures.says

pub returns-in-Ok-clause-opens : goal.returns-in-Ok-clause-opens
returns-in-Ok-clause-opens g c i =
    opened_by _ _ _ _ c.show.ensures.machine i c.in_ok-next.ensures.says (subst (λ r. IfOk r (λ (l : Levels). OpensAt c.in_ok-next.next l)) c.in-Ok.ensures.levels c.before-levels.ensures.moves)
