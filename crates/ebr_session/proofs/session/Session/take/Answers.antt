use Rattle.std.proofs.Common.{◌≡◌, ◌∙◌, Option, None, IsSome, ap, sym, subst}
use Rattle.ebr_session.specs.Has.{Progress, answered}
use Rattle.ebr_session.specs.inside.Holds.{Holds, Parts, out_of, phase_behind, progress}
use Rattle.ebr_session.proofs.Following.{follows}
use Rattle.ebr_session.proofs.Taking.{room_out, taken, taken_view}
use Rattle.ebr_session.proofs.session.Session.take.Goals as goal

pub push-requires : goal.push-requires
push-requires g c = record { room = room_out g.B.CodeBook.answers c.self.inside.phase c.self.inside.out _ c.self.invariant (subst (λ (p : Progress). IsSome p.out) (sym c.self.view_is) c.requires.out) }

pub invariant_of-self : goal.invariant_of-self
invariant_of-self g c =
    let old : Parts g.row.B.Denot = record { session = c.self.inside.id; script = c.self.inside.script; transcript = c.self.inside.transcript; printed = c.self.inside.printed; quit = c.self.inside.quit; work = c.self.inside.work; book = c.self.inside.book } in
    subst (λ o. Holds g.B.CodeBook.answers c.phase_behind-self-inside.result o (record old { transcript = c.push.new.self; book = c.put.new.place })) (sym c.replace.ensures.after)
    (subst (λ (b : Option g.row.B.Denot). Holds g.B.CodeBook.answers c.phase_behind-self-inside.result None (record old { transcript = c.push.new.self; book = b })) (sym c.put.ensures)
    (taken g.B.CodeBook.answers c.self.inside.phase c.phase_behind-self-inside.result c.self.inside.out old c.push.new.self c.args.book c.unwrap-ask.result c.args.a c.self.invariant
    (sym c.replace.ensures.value ∙ c.unwrap-ask.ensures) (subst (λ (p : Progress). IsSome p.out) (sym c.self.view_is) c.requires.out)
    (c.phase_behind-self-inside.ensures ∙ ap (λ e. phase_behind e c.args.a c.self.inside.phase) c.ends.ensures) c.push.ensures.more c.push.ensures.left c.requires.suits))

pub returns-clause-taken : goal.returns-clause-taken
returns-clause-taken g c =
    let old : Parts g.row.B.Denot = record { session = c.self.inside.id; script = c.self.inside.script; transcript = c.self.inside.transcript; printed = c.self.inside.printed; quit = c.self.inside.quit; work = c.self.inside.work; book = c.self.inside.book } in
    subst (λ (p : Progress). progress c.phase_behind-self-inside.result c.replace.new.dest (record old { transcript = c.push.new.self; book = c.put.new.place }) ≡ answered p.out c.args.a p) c.self.view_is
    (subst (λ o. progress c.phase_behind-self-inside.result o (record old { transcript = c.push.new.self; book = c.put.new.place }) ≡ answered (out_of c.self.inside.phase c.self.inside.out) c.args.a (progress c.self.inside.phase c.self.inside.out old)) (sym c.replace.ensures.after)
    (taken_view c.self.inside.phase c.phase_behind-self-inside.result c.self.inside.out old c.push.new.self c.put.new.place c.unwrap-ask.result c.args.a
    (sym c.replace.ensures.value ∙ c.unwrap-ask.ensures) (subst (λ (p : Progress). IsSome p.out) (sym c.self.view_is) c.requires.out)
    (c.phase_behind-self-inside.ensures ∙ ap (λ e. phase_behind e c.args.a c.self.inside.phase) c.ends.ensures) c.push.ensures.more))

pub returns-clause-follows : goal.returns-clause-follows
returns-clause-follows g c = follows g.B.CodeBook.answers c.phase_behind-self-inside.result c.replace.new.dest _ (invariant_of-self g c)
