use Rattle.std.proofs.Common.{◌≡◌, None, map, rules, ap, sym, ◌∙◌}
use Rattle.std.specs.Map.{lookup}
use Rattle.std.specs.Str.{bytes_eq}
use Rattle.ebr_run.specs.Cursors as cursors
use Rattle.ebr_run.specs.Packages.{change, state_of}
use Rattle.ebr_run.specs.Values.{cursor_in, set_cursor_member}
use Rattle.ebr_memory.specs.inside.Views.{package_of, cursor_at}
use Rattle.ebr_memory.proofs.States.{changed_at, found_at, found_none, once_from, unchanged}
use Rattle.ebr_memory.proofs.package.Packages.fetch.Goals as goal

pub returns-in_default-clause-given : goal.returns-in_default-clause-given
returns-in_default-clause-given c =
    let n = c.args.name.now in
    let es = c.self.inside.states.entries in
    let none : lookup (bytes_eq n) es ≡ None = search rules in
    ap (λ o. cursors.fetched c.args.types.now (cursor_in o c.args.place)) (sym (found_none n es none) ∙ ap (state_of n) c.self.view_is)

pub returns-in_default-clause-moved : goal.returns-in_default-clause-moved
returns-in_default-clause-moved c =
    let n = c.args.name.now in
    let es = c.self.inside.states.entries in
    let ss = map package_of es in
    let none : lookup (bytes_eq n) es ≡ None = search rules in
    let same : c.get_mut.follows.lender-at-none.entries ≡ es = search rules in
    ap (map package_of) same
    ∙ sym (unchanged n (set_cursor_member c.args.place (cursors.after_fetch (cursor_in (state_of n ss) c.args.place))) ss (found_none n es none))
    ∙ ap (λ ss. change n (set_cursor_member c.args.place (cursors.after_fetch (cursor_in (state_of n ss) c.args.place))) ss) c.self.view_is

pub returns-clause-given : goal.returns-clause-given
returns-clause-given c =
    let n = c.args.name.now in
    let found = found_at n c.self.inside.states.entries c.in-Some.state.now (sym c.in-Some.ensures.value) in
    c.in_ok-given.ensures.given ∙ ap (λ o. cursors.fetched c.args.types.now (cursor_in o c.args.place)) (sym found.1 ∙ ap (state_of n) c.self.view_is)

pub returns-clause-moved : goal.returns-clause-moved
returns-clause-moved c =
    let n = c.args.name.now in
    let es = c.self.inside.states.entries in
    let s = c.in-Some.state.now in
    let found = found_at n es s (sym c.in-Some.ensures.value) in
    ap (map package_of) (c.get_mut.follows.holds c.fetch_in.new.state).0
    ∙ changed_at n (set_cursor_member c.args.place (cursors.after_fetch (cursor_at c.args.place s))) s c.fetch_in.new.state es (sym c.in-Some.ensures.value) (once_from n es c.get_mut.ensures.unique)
    (λ m. ap (λ w. package_of (m, w)) c.in_ok-given.ensures.moved)
    ∙ ap (λ o. change n (set_cursor_member c.args.place (cursors.after_fetch (cursor_in o c.args.place))) (map package_of es)) (sym found.1)
    ∙ ap (λ ss. change n (set_cursor_member c.args.place (cursors.after_fetch (cursor_in (state_of n ss) c.args.place))) ss) c.self.view_is
