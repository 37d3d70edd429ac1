use Rattle.std.proofs.Common.{◌≡◌, ◌+◌, ◌∙◌, rules, true, false, Some, None, ap, sym}
use Rattle.std.specs.Prelude.{slice_get}
use Rattle.ebr_run.specs.Cursors.{row_fits}
use Rattle.ebr_memory.specs.SharedRows.{or_empty, row_at}
use Rattle.ebr_memory.proofs.Fetching.{no_row, stays, fitting_row, unfit_row, goes_on}
use Rattle.ebr_memory.proofs.cursor.Rows.fetch.Goals as goal

pub returns-in_default-clause-given : goal.returns-in_default-clause-given
returns-in_default-clause-given c =
    let r = c.args.self.now in
    let none : None ≡ slice_get r.all r.fetched = search rules in
    no_row c.args.types.now r.all r.fetched r.found none

pub returns-in_default-clause-moved : goal.returns-in_default-clause-moved
returns-in_default-clause-moved c =
    let r = c.args.self.now in
    let none : None ≡ slice_get r.all r.fetched = search rules in
    stays c.args.types.now r.all r.fetched r.found none

pub returns-then-fits-clause-given : goal.returns-then-fits-clause-given
returns-then-fits-clause-given c =
    let r = c.args.self.now in
    let row = c.in-Some.row.now in
    let some : Some row ≡ slice_get r.all r.fetched = search rules in
    let fits : row_fits c.args.types.now row ≡ true = search rules in
    let at_place : c.new.result ≡ row_at r.fetched r.all = search rules in
    fitting_row c.args.types.now r.all r.fetched r.found row c.new.result some fits (at_place ∙ ap or_empty (sym some))

pub returns-then-fits-clause-moved : goal.returns-then-fits-clause-moved
returns-then-fits-clause-moved c =
    let r = c.args.self.now in
    let row = c.in-Some.row.now in
    let some : Some row ≡ slice_get r.all r.fetched = search rules in
    let more : c.in-Some-checked_add.fetched ≡ r.fetched + 1 = search rules in
    goes_on c.args.types.now r.all r.fetched r.found row c.in-Some-checked_add.fetched some more

pub returns-clause-given : goal.returns-clause-given
returns-clause-given c =
    let r = c.args.self.now in
    let row = c.in-Some.row.now in
    let some : Some row ≡ slice_get r.all r.fetched = search rules in
    let fits : row_fits c.args.types.now row ≡ false = search rules in
    unfit_row c.args.types.now r.all r.fetched r.found row some fits

pub returns-clause-moved : goal.returns-clause-moved
returns-clause-moved c =
    let r = c.args.self.now in
    let row = c.in-Some.row.now in
    let some : Some row ≡ slice_get r.all r.fetched = search rules in
    let more : c.in-Some-checked_add.fetched ≡ r.fetched + 1 = search rules in
    goes_on c.args.types.now r.all r.fetched r.found row c.in-Some-checked_add.fetched some more
