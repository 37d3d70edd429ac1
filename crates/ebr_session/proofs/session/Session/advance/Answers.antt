use Rattle.std.proofs.Common.{◌≡◌, ◌∙◌, false, Option, Some, IfSome, refl, sym, ap, subst}
use Rattle.ebr_asks.specs.declared.ask.Ask.TheVariants.{Leave}
use Rattle.ebr_session.specs.declared.session.Phase.TheVariants as phase
use Rattle.ebr_session.specs.Has.{Follows, MakesAsk, Progress, Suits, is_leaving}
use Rattle.ebr_session.specs.inside.Kept.{last_of}
use Rattle.ebr_session.specs.inside.Holds.{Holds, Parts, progress}
use Rattle.ebr_session.proofs.Following.{follows}
use Rattle.ebr_session.proofs.Advancing.{again_fails, answered_here, asks_again, asks_leave, failed_moved, fails_so, follows_left, left_holds, makes_ask, next_fails, still_fails, suits_last, waits_now}
use Rattle.ebr_session.proofs.session.Session.advance.Goals as goal

pub returns-in_err-clone_in-in-Some-clause-follows : goal.returns-in_err-clone_in-in-Some-clause-follows
returns-in_err-clone_in-in-Some-clause-follows g c = subst Follows c.self.view_is (follows g.B.CodeBook.answers c.self.inside.phase c.self.inside.out _ c.self.invariant)

pub ask_next-requires-clause-suits : goal.ask_next-requires-clause-suits
ask_next-requires-clause-suits g c =
    let old : Parts g.row.B.Denot = record { session = c.self.inside.id; script = c.self.inside.script; transcript = c.self.inside.transcript; printed = c.self.inside.printed; quit = c.self.inside.quit; work = c.self.inside.work; book = c.self.inside.book } in
    subst (λ (b : Option g.row.B.Denot). IfSome (last_of c.self.inside.transcript.exchanges) (λ e. Suits g.B.CodeBook.answers e.answer b)) (sym c.replace-book.ensures.value)
    (suits_last g.B.CodeBook.answers old (answered_here g.B.CodeBook.answers c.self.inside.phase c.self.inside.out old c.in-Working.is c.in-None.is c.self.invariant))

pub returns-in_err-ask-in-None-clause-follows : goal.returns-in_err-ask-in-None-clause-follows
returns-in_err-ask-in-None-clause-follows g c =
    let old : Parts g.row.B.Denot = record { session = c.self.inside.id; script = c.self.inside.script; transcript = c.self.inside.transcript; printed = c.self.inside.printed; quit = c.self.inside.quit; work = c.self.inside.work; book = c.self.inside.book } in
    let e = c.in_err-ask-in-None.ensures in
    follows g.B.CodeBook.answers phase.Failed c.self.inside.out _
    (failed_moved g.B.CodeBook.answers old (answered_here g.B.CodeBook.answers c.self.inside.phase c.self.inside.out old c.in-Working.is c.in-None.is c.self.invariant)
    c.ask_next.new.script c.ask_next.new.transcript c.ask_next.new.printed c.ask_next.new.work c.replace-book.new.dest e.script e.same e.unprinted e.kept)

pub invariant_of-self-in-None : goal.invariant_of-self-in-None
invariant_of-self-in-None g c =
    let old : Parts g.row.B.Denot = record { session = c.self.inside.id; script = c.self.inside.script; transcript = c.self.inside.transcript; printed = c.self.inside.printed; quit = c.self.inside.quit; work = c.self.inside.work; book = c.self.inside.book } in
    let h = answered_here g.B.CodeBook.answers c.self.inside.phase c.self.inside.out old c.in-Working.is c.in-None.is c.self.invariant in
    let e = c.in_ok-ask-in-None.ensures in
    let new : Parts g.row.B.Denot = record { session = c.self.inside.id; script = c.ask_next.new.script; transcript = c.ask_next.new.transcript; printed = c.ask_next.new.printed; quit = c.self.inside.quit; work = c.ask_next.new.work; book = c.replace-book.new.dest } in
    subst (λ o. Holds g.B.CodeBook.answers phase.Working o new) (sym (c.put.ensures ∙ ap Some (sym e.copy)))
    (waits_now g.B.CodeBook.answers old h c.ask_next.new.script c.ask_next.new.transcript c.ask_next.new.printed c.ask_next.new.work c.replace-book.new.dest c.in_ok-ask-in-None.ask e.script e.same e.room e.grown e.first e.goes)

pub returns-in_ok-clone_in-in-Some-clause-follows : goal.returns-in_ok-clone_in-in-Some-clause-follows
returns-in_ok-clone_in-in-Some-clause-follows g c = subst Follows c.self.view_is (follows g.B.CodeBook.answers c.self.inside.phase c.self.inside.out _ c.self.invariant)

pub returns-in_ok-ask-in-None-clause-advances : goal.returns-in_ok-ask-in-None-clause-advances
returns-in_ok-ask-in-None-clause-advances g c =
    let old : Parts g.row.B.Denot = record { session = c.self.inside.id; script = c.self.inside.script; transcript = c.self.inside.transcript; printed = c.self.inside.printed; quit = c.self.inside.quit; work = c.self.inside.work; book = c.self.inside.book } in
    let h = answered_here g.B.CodeBook.answers c.self.inside.phase c.self.inside.out old c.in-Working.is c.in-None.is c.self.invariant in
    let e = c.in_ok-ask-in-None.ensures in
    let new : Parts g.row.B.Denot = record { session = c.self.inside.id; script = c.ask_next.new.script; transcript = c.ask_next.new.transcript; printed = c.ask_next.new.printed; quit = c.self.inside.quit; work = c.ask_next.new.work; book = c.replace-book.new.dest } in
    subst (λ (p : Progress). MakesAsk c.in_ok-ask-in-None.ask p (progress phase.Working c.put.new.place new)) c.self.view_is
    (subst (λ d. MakesAsk c.in_ok-ask-in-None.ask (progress d c.self.inside.out old) (progress phase.Working c.put.new.place new)) (sym c.in-Working.is)
    (subst (λ o. MakesAsk c.in_ok-ask-in-None.ask (progress phase.Working o old) (progress phase.Working c.put.new.place new)) (sym c.in-None.is)
    (makes_ask g.B.CodeBook.answers old h c.ask_next.new.script c.ask_next.new.transcript c.ask_next.new.printed c.ask_next.new.work c.replace-book.new.dest c.in_ok-ask-in-None.ask e.script e.same e.room e.grown e.first e.goes c.put.new.place (c.put.ensures ∙ ap Some (sym e.copy)))))

pub returns-in_ok-ask-in-None-clause-follows : goal.returns-in_ok-ask-in-None-clause-follows
returns-in_ok-ask-in-None-clause-follows g c = follows g.B.CodeBook.answers phase.Working c.put.new.place _ (invariant_of-self-in-None g c)

pub returns-in-Failed-clause-follows : goal.returns-in-Failed-clause-follows
returns-in-Failed-clause-follows g c = subst Follows c.self.view_is (follows g.B.CodeBook.answers c.self.inside.phase c.self.inside.out _ c.self.invariant)

pub invariant_of-self-in-Leaving : goal.invariant_of-self-in-Leaving
invariant_of-self-in-Leaving g c = left_holds g.B.CodeBook.answers c.self.inside.phase c.self.inside.out c.put-in-Leaving.new.place _ c.in-Leaving.is c.put-in-Leaving.ensures c.self.invariant

pub returns-in-Leaving-clause-advances : goal.returns-in-Leaving-clause-advances
returns-in-Leaving-clause-advances g c =
    let old : Parts g.row.B.Denot = record { session = c.self.inside.id; script = c.self.inside.script; transcript = c.self.inside.transcript; printed = c.self.inside.printed; quit = c.self.inside.quit; work = c.self.inside.work; book = c.self.inside.book } in
    subst (λ (p : Progress). MakesAsk Leave p (progress c.self.inside.phase c.put-in-Leaving.new.place old)) c.self.view_is
    (asks_leave g.B.CodeBook.answers c.self.inside.phase c.self.inside.out c.put-in-Leaving.new.place old c.in-Leaving.is c.put-in-Leaving.ensures c.self.invariant)

pub returns-in-Leaving-clause-follows : goal.returns-in-Leaving-clause-follows
returns-in-Leaving-clause-follows g c = follows_left g.B.CodeBook.answers c.self.inside.phase c.self.inside.out c.put-in-Leaving.new.place _ c.in-Leaving.is c.put-in-Leaving.ensures c.self.invariant

pub returns-in_err-clone_in-in-Some-clause-advances : goal.returns-in_err-clone_in-in-Some-clause-advances
returns-in_err-clone_in-in-Some-clause-advances g c =
    let old : Parts g.row.B.Denot = record { session = c.self.inside.id; script = c.self.inside.script; transcript = c.self.inside.transcript; printed = c.self.inside.printed; quit = c.self.inside.quit; work = c.self.inside.work; book = c.self.inside.book } in
    fails_so c.from_residual.result _ _ _ c.from_residual.ensures.1
    (subst (λ (p : Progress). (p.ended ≡ false) × (is_leaving p ≡ false) × (p ≡ p)) c.self.view_is (again_fails g.B.CodeBook.answers c.self.inside.phase c.self.inside.out old _ c.in-Working.is c.in-Some.is c.self.invariant))

pub returns-in_ok-clone_in-in-Some-clause-advances : goal.returns-in_ok-clone_in-in-Some-clause-advances
returns-in_ok-clone_in-in-Some-clause-advances g c =
    let old : Parts g.row.B.Denot = record { session = c.self.inside.id; script = c.self.inside.script; transcript = c.self.inside.transcript; printed = c.self.inside.printed; quit = c.self.inside.quit; work = c.self.inside.work; book = c.self.inside.book } in
    subst (λ q. MakesAsk q c.args.self.now c.args.self.now) (sym c.in_ok-clone_in-in-Some.ensures) (subst (λ (p : Progress). MakesAsk c.in-Some.ask p p) c.self.view_is (asks_again g.B.CodeBook.answers c.self.inside.phase c.self.inside.out old _ c.in-Working.is c.in-Some.is c.self.invariant))

pub returns-in_err-ask-in-None-clause-advances : goal.returns-in_err-ask-in-None-clause-advances
returns-in_err-ask-in-None-clause-advances g c =
    let old : Parts g.row.B.Denot = record { session = c.self.inside.id; script = c.self.inside.script; transcript = c.self.inside.transcript; printed = c.self.inside.printed; quit = c.self.inside.quit; work = c.self.inside.work; book = c.self.inside.book } in
    let e = c.in_err-ask-in-None.ensures in
    let new : Parts g.row.B.Denot = record { session = c.self.inside.id; script = c.ask_next.new.script; transcript = c.ask_next.new.transcript; printed = c.ask_next.new.printed; quit = c.self.inside.quit; work = c.ask_next.new.work; book = c.replace-book.new.dest } in
    fails_so c.from_residual-in_err-ask-in-None.result _ _ _ c.from_residual-in_err-ask-in-None.ensures.1
    (subst (λ (p : Progress). (p.ended ≡ false) × (is_leaving p ≡ false) × (progress phase.Failed c.self.inside.out new ≡ p)) c.self.view_is
    (next_fails g.B.CodeBook.answers c.self.inside.phase c.self.inside.out old new c.in-Working.is c.in-None.is c.self.invariant refl e.script e.same e.unprinted refl))

pub returns-in-Failed-clause-advances : goal.returns-in-Failed-clause-advances
returns-in-Failed-clause-advances g c =
    let old : Parts g.row.B.Denot = record { session = c.self.inside.id; script = c.self.inside.script; transcript = c.self.inside.transcript; printed = c.self.inside.printed; quit = c.self.inside.quit; work = c.self.inside.work; book = c.self.inside.book } in
    subst (λ (p : Progress). (p.ended ≡ false) × (is_leaving p ≡ false) × (p ≡ p)) c.self.view_is (still_fails g.B.CodeBook.answers c.self.inside.phase c.self.inside.out old c.in-Failed.is c.self.invariant)
