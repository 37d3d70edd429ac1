use Rattle.std.proofs.Common.{◌≡◌, Some, sym, subst, ◌∙◌, rules}
use Rattle.std.specs.Prelude.{slice_get}
use Rattle.std.specs.Option.{option_copied}
use Rattle.ebr_sqlcheck.specs.inside.Found.{Begins, ends_of, may_have, starts_from}
use Rattle.ebr_sqlcheck.proofs.ByName.{begins_at, begins_nowhere}
use Rattle.ebr_sqlcheck.proofs.lookup.index_start.Goals as goal

pub returns-in-Some : goal.returns-in-Some
returns-in-Some c =
    let list = c.args.list.now in
    let n = c.args.path.now.name in
    let m = c.args.path.now.member in
    let e : ends_of (may_have n m) list ≡ Some c.in-Some.ends = search rules in
    let s : option_copied c.get.result ≡ slice_get (starts_from 0 list) c.in-Some.ends.first = search (rules, c.requires.started) in
    subst (Begins n m list) (sym c.start_at.ensures) (begins_at list n m c.in-Some.ends (option_copied c.get.result) e s)

pub returns-in-None : goal.returns-in-None
returns-in-None c = begins_nowhere c.args.list.now c.args.path.now.name c.args.path.now.member (sym c.in-None.is ∙ c.places.ensures)
