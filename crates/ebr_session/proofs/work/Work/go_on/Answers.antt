use Rattle.std.proofs.Common.{◌++◌, ◌∙◌, refl, sym, ap, subst}
use Rattle.ebr_calls.specs.declared.call.Call.{Call}
use Rattle.ebr_calls.specs.Courses.{IsIn, place}
use Rattle.ebr_session.specs.inside.Stages.{Awaits, here}
use Rattle.ebr_session.proofs.Doing.{asked_as, run_ends_on, run_goes_on}
use Rattle.ebr_session.proofs.work.Work.go_on.Goals as goal

pub returns-in-Ask : goal.returns-in-Ask
returns-in-Ask g c = record {
  goes = λ f rest made printed was.
      let e = c.in_ok-ask.ensures in
      let is_in = subst (λ (k : Call g.row.B.Denot). IsIn (g.B.CodeBook.answers k.book k.machine.edition) f k.machine k.shown k.levels.now rest (here made printed c.args.self.now)) (sym c.deref_mut.ensures.value) was in
      subst (λ s. Awaits g.B.CodeBook.answers s c.in-Ask.ask f rest (place made (printed ++ c.advance.new.printed) c.advance.new.packages c.room-self.result)) (sym c.put.ensures)
      (run_goes_on g.B.CodeBook.answers c.deref_mut.result.now.book _ c.deref_mut.result.now.machine _ _ _ _ c.in-Ask.ask f rest made _ _ _ c.in-Ask.is e.book e.edition (c.room-self.ensures ∙ ap (λ (k : Call g.row.B.Denot). k.machine.inner.room) c.deref.ensures)
      (e.comes _ f rest made printed _ refl is_in) e.out e.says e.opens);
}

pub returns-in-Done : goal.returns-in-Done
returns-in-Done g c = record {
  goes = λ f rest made printed was.
      let e = c.in_ok-ask.ensures in
      let is_in = subst (λ (k : Call g.row.B.Denot). IsIn (g.B.CodeBook.answers k.book k.machine.edition) f k.machine k.shown k.levels.now rest (here made printed c.args.self.now)) (sym c.deref_mut.ensures.value) was in
      asked_as g.B.CodeBook.answers (record { packages = c.advance.new.packages; room = c.room-self-in-Done.result; fresh = c.advance.new.printed; stage = c.args.self.now.stage }) c.ask.new.self c.ask.result c.finish.result f rest made printed c.ask.ensures.ask c.ask.ensures.stage
      (run_ends_on _ c.advance.new.self.machine _ c.levels.result c.advance.new.self.levels _ c.in-Done.how c.finish.result f rest made _ _ _ c.in-Done.is
      (c.levels.ensures ∙ ap (λ (k : Call g.row.B.Denot). k.levels.now) c.deref-in-Done-2.ensures)
      (c.room-self-in-Done.ensures ∙ ap (λ (k : Call g.row.B.Denot). k.machine.inner.room) c.deref-in-Done.ensures) c.finish.ensures (e.comes _ f rest made printed _ refl is_in));
}
