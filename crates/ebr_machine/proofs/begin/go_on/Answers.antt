use Rattle.std.proofs.Common.{◌≡◌, true, rules, subst}
use Rattle.ebr_machine.specs.inside.Rows.{Ran, is_normal}
use Rattle.ebr_machine.proofs.Row.{normal_at, ran_on, ran_up}
use Rattle.ebr_machine.proofs.begin.go_on.Goals as goal

pub returns-then-is_normal : goal.returns-then-is_normal
returns-then-is_normal g c =
    let m = c.row.new.run in
    let b : is_normal m.flow ≡ true = search rules in
    let r : Ran c.args.run.now m c.args.place c.in_ok-at.at c.args.body = subst (λ b. Ran c.args.run.now m c.args.place c.in_ok-at.at b) c.get.ensures c.in_ok-at.ensures in
    ran_on (g.B.CodeBook.answers c.args.book.now c.args.edition) c.args.run.now m c.begin_at.new.run c.args.place c.in_ok-at.at c.args.body (normal_at m.flow b) r c.in_ok-begin_at.ensures

pub returns : goal.returns
returns g c =
    let m = c.row.new.run in
    let r : Ran c.args.run.now m c.args.place c.in_ok-at.at c.args.body = subst (λ b. Ran c.args.run.now m c.args.place c.in_ok-at.at b) c.get.ensures c.in_ok-at.ensures in
    ran_up (g.B.CodeBook.answers c.args.book.now c.args.edition) c.args.run.now m (record m { tasks = c.push.new.self }) c.args.place c.in_ok-at.at c.args.body (search rules) r
