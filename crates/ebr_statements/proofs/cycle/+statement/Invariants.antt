use Rattle.std.proofs.Common.{◌≡◌, ◌+◌, ◌*◌, ◌-◌, List, [], drop, length}
use Rattle.ebr_asks.specs.declared.answer.Answer.{Answer}
use Rattle.ebr_asks.specs.declared.ask.Ask.{Ask}
use Rattle.std.specs.Prelude.{map, ◌∷◌}
use Rattle.ebr_cross.specs.Catalogue.{Lists, HaveOwnKeys, View, as_catalogue}
use Rattle.ebr_database.specs.Shows.{base_of}
use Rattle.ebr_database.proofs.Goes.{Goes}
use Rattle.ebr_exec.specs.Places.{names_of}
use Rattle.ebr_levels.specs.Keeps.{UnderChange}
use Rattle.ebr_machine.specs.Has.{Has}
use Rattle.ebr_run.specs.Run.{Seen}
use Rattle.ebr_units.specs.Living.{AreCurrent}
use Rattle.ebr_units.specs.Served.{served}
use Rattle.ebr_bodies.specs.Bodies as spec
use Rattle.ebr_bodies.specs.Rows as rows
use Rattle.ebr_statements.specs.Fits.{Remains}
use Rattle.ebr_statements.specs.inside.Fits.{RemainsOpen, Spares, under_by}
use Rattle.ebr_statements.specs.inside.Held.{AreServed, IsServed, ready_of}
use Rattle.ebr_statements.specs.inside.Sites.{IsBegun, doing_at, site_at, work_at}
use Rattle.ebr_statements.proofs.Rowing.{Row, left_rows, total_of}
use Rattle.ebr_statements.proofs.cycle.+statement.Given as goal

-- the levels below a statement, and inside a level what calls what
abbrev pub decreases-statement : goal.decreases-statement
decreases-statement g l = 16 * l.levels

abbrev pub decreases-serve : goal.decreases-serve
decreases-serve g l = 16 * l.site.now.levels + 1

abbrev pub decreases-asks : goal.decreases-asks
decreases-asks g l = 16 * l.site.now.levels + 2

abbrev pub decreases-body : goal.decreases-body
decreases-body g l = 16 * l.site.now.levels + 3

abbrev pub decreases-bodies : goal.decreases-bodies
decreases-bodies g l = 16 * l.site.now.levels + 4

abbrev pub decreases-write_row : goal.decreases-write_row
decreases-write_row g l = 16 * l.site.now.levels + 5

abbrev pub decreases-rows : goal.decreases-rows
decreases-rows g l = 16 * l.site.now.levels + 6

abbrev pub decreases-changed : goal.decreases-changed
decreases-changed g l = 16 * l.site.now.levels + 7

abbrev pub decreases-change : goal.decreases-change
decreases-change g l = 16 * l.site.now.levels + 8

abbrev pub decreases-tested : goal.decreases-tested
decreases-tested g l = 16 * l.levels + 9

-- the bodies that are left
abbrev pub invariant-bodies-bodies : goal.invariant-bodies-bodies
invariant-bodies-bodies g l =
    ((c : Lists) → HaveOwnKeys c → AreCurrent c l.fn.units → l.c ≡ as_catalogue c → AreServed (View c) l.triggers
    → Goes (spec.bodies (site_at (names_of c) l.site) l.op (map ready_of l.triggers) l.old l.fn.new (doing_at l.fn.tx.contents (g.K.Keep.as_keeper l.fn.keeper) l.fn.tally))
    (spec.bodies (site_at (names_of c) l.site) l.op (map ready_of (drop l.r-index l.triggers)) l.old l.new (doing_at l.tx.contents (g.K.Keep.as_keeper l.keeper) l.tally))
    (g.K.Keep.as_keeper l.fn.keeper) (g.K.Keep.as_keeper l.keeper))
    × Remains l.c l.site.t (under_by l.site.changing) l.fn.units l.fn.tx.contents l.units l.tx.contents
    × (length l.new ≡ length l.fn.new)

-- the asks that are left
abbrev pub invariant-asks-asks : goal.invariant-asks-asks
invariant-asks-asks g l =
    ((c : Lists) → HaveOwnKeys c → AreCurrent c l.fn.units → l.c ≡ as_catalogue c → (run : List Answer → Seen) → IsServed (View c) l.r → IsBegun (served l.r.book) run l.fn.course
    → (asks : List Ask) × (answers : List Answer) × Has (served l.r.book) l.course.machine l.course.packages l.course.left run asks answers
    × Goes (spec.served spec.max_asks (site_at (names_of c) l.site) (ready_of l.r) run [] (base_of l.fn.tx.contents (g.K.Keep.as_keeper l.fn.keeper)))
    (spec.served (spec.max_asks - l._ask) (site_at (names_of c) l.site) (ready_of l.r) run answers (base_of l.tx.contents (g.K.Keep.as_keeper l.keeper)))
    (g.K.Keep.as_keeper l.fn.keeper) (g.K.Keep.as_keeper l.keeper))
    × RemainsOpen l.c l.site.t (under_by l.site.changing) l.fn.opened l.fn.units l.fn.tx.contents l.opened l.units l.tx.contents

-- the rows that are left
abbrev pub invariant-rows-rows : goal.invariant-rows-rows
invariant-rows-rows g l =
    ((c : Lists) → HaveOwnKeys c → AreCurrent c l.fn.units → l.c ≡ as_catalogue c → AreServed (View c) l.work.before → AreServed (View c) l.work.after
    → Goes (rows.rows_of (site_at (names_of c) l.site) (work_at l.fn.left l.work) l.fn.left.rest (doing_at l.fn.tx.contents (g.K.Keep.as_keeper l.fn.keeper) l.fn.tally))
    (left_rows (site_at (names_of c) l.site) (work_at l.fn.left l.work) (total_of l.left) l.left.rest (doing_at l.tx.contents (g.K.Keep.as_keeper l.keeper) l.tally))
    (g.K.Keep.as_keeper l.fn.keeper) (g.K.Keep.as_keeper l.keeper))
    × Row l.fn.left l.left l.tx.contents
    × ((under : UnderChange) → Spares under l.site.t l.site.changing (l.fn.left.plan.table.id ∷ []) → Remains l.c l.site.t under l.fn.units l.fn.tx.contents l.units l.tx.contents)
