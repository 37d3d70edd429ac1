use Rattle.std.proofs.Common.{◌≡◌, None, map, rules, ap, sym, ◌∙◌}
use Rattle.std.specs.Map.{lookup}
use Rattle.std.specs.Str.{bytes_eq}
use Rattle.ebr_run.specs.Packages.{change}
use Rattle.ebr_run.specs.Values.{set_cursor_member}
use Rattle.ebr_memory.specs.inside.Views.{package_of}
use Rattle.ebr_memory.proofs.States.{changed_at, found_none, once_from, unchanged}
use Rattle.ebr_memory.proofs.package.Packages.put_cursor.Goals as goal

pub returns-in_default : goal.returns-in_default
returns-in_default c =
    let n = c.args.name.now in
    let es = c.self.inside.states.entries in
    let g = set_cursor_member c.args.place c.args.cursor in
    let none : lookup (bytes_eq n) es ≡ None = search rules in
    let same : c.get_mut.follows.lender-at-none.entries ≡ es = search rules in
    ap (map package_of) same ∙ sym (unchanged n g (map package_of es) (found_none n es none)) ∙ ap (change n g) c.self.view_is

pub returns : goal.returns
returns c =
    let n = c.args.name.now in
    let es = c.self.inside.states.entries in
    let g = set_cursor_member c.args.place c.args.cursor in
    ap (map package_of) (c.get_mut.follows.holds c.put_cursor_in.new.state).0
    ∙ changed_at n g c.in-Some.state.now c.put_cursor_in.new.state es (sym c.in-Some.ensures.value) (once_from n es c.get_mut.ensures.unique) (λ m. ap (λ w. package_of (m, w)) c.in_ok-put_cursor_in.ensures)
    ∙ ap (change n g) c.self.view_is
