use Rattle.std.proofs.Common.{◌≡◌, Some, None, sym, subst}
use Rattle.ebr_session.specs.declared.session.Phase.TheVariants as phase
use Rattle.ebr_session.specs.Has.{Progress, quitting}
use Rattle.ebr_session.specs.inside.Holds.{HasQuit, Parts, progress}
use Rattle.ebr_session.proofs.Following.{follows}
use Rattle.ebr_session.proofs.Taking.{quit_view, quits}
use Rattle.ebr_session.proofs.session.Session.quit.Goals as goal

pub invariant_of-self : goal.invariant_of-self
invariant_of-self g c =
    let old : Parts g.row.B.Denot = record { session = c.self.inside.id; script = c.self.inside.script; transcript = c.self.inside.transcript; printed = c.self.inside.printed; quit = c.self.inside.quit; work = c.self.inside.work; book = c.self.inside.book } in
    subst (λ o. HasQuit o (record old { quit = Some c.len.result })) (sym c.put.ensures)
    (subst (λ n. HasQuit None (record old { quit = Some n })) (sym c.len.ensures) (quits g.B.CodeBook.answers c.self.inside.phase c.self.inside.out old c.self.invariant c.in_default.not-Over))

pub returns-in_default : goal.returns-in_default
returns-in_default g c =
    let old : Parts g.row.B.Denot = record { session = c.self.inside.id; script = c.self.inside.script; transcript = c.self.inside.transcript; printed = c.self.inside.printed; quit = c.self.inside.quit; work = c.self.inside.work; book = c.self.inside.book } in
    record {
      quits = subst (λ (p : Progress). progress phase.Quitting c.put.new.place (record old { quit = Some c.len.result }) ≡ quitting p.ended p) c.self.view_is
          (quit_view c.self.inside.phase c.self.inside.out c.put.new.place old c.len.result c.in_default.not-Over c.len.ensures c.put.ensures);
      follows = follows g.B.CodeBook.answers phase.Quitting c.put.new.place _ (invariant_of-self g c);
    }
