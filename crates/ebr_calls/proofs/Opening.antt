-- What asks open and close.
use Rattle.std.proofs.Common.{◌≡◌, ◌≢◌, Bool, refl, sym, subst}
use Rattle.ebr_asks.specs.declared.ask.Ask.{Ask}
use Rattle.ebr_asks.specs.declared.ask.Ask.TheVariants as ask
use Rattle.ebr_calls.specs.declared.levels.Levels.{Levels}
use Rattle.ebr_machine.specs.declared.next.Next.{Next}
use Rattle.ebr_machine.specs.declared.next.Next.TheVariants as next
use Rattle.ebr_machine.specs.declared.machine.Machine.{Machine}
use Rattle.ebr_machine.specs.Has.{IsAsk, SaysAsk}
use Rattle.ebr_calls.specs.Levels.{OpensBy, OpensAt}

pub opens_nothing : (q : Ask) (l : Levels) → q ≢ ask.PushAuto → ((failed : Bool) → q ≢ ask.PopAuto failed) → l.if_done ≡ l.now → l.otherwise ≡ l.now → OpensBy q l
opens_nothing ask.PushAuto l a b d o = absurd (a refl)
opens_nothing (ask.PopAuto failed) l a b d o = absurd (b failed refl)
opens_nothing q l a b d o = record { done = d; other = o }

opened : (n : Next) (q : Ask) (l : Levels) → IsAsk n → SaysAsk n q → OpensAt n l → OpensBy q l
opened (next.Ask q') q l i s o = subst (λ x. OpensBy x l) s o
opened (next.Done e) q l i s o = absurd i

pub opened_by : (n : Next) (m m' : Machine) (l : Levels) → m' ≡ m → IsAsk n → SaysAsk n m.inner.ask → OpensAt n l → OpensBy m'.inner.ask l
opened_by n m m' l same i s o = subst (λ (x : Machine). OpensBy x.inner.ask l) (sym same) (opened n m.inner.ask l i s o)
