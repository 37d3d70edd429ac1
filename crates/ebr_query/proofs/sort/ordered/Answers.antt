use Rattle.std.proofs.Common.{◌≡◌, Bool, List, [], ◌∷◌, Ok, map, length, sym, ap, ◌∙◌, arith, rules, refl}
use Rattle.std.specs.Ordering.{is_lt}
use Rattle.ebr_ast.specs.declared.query.SortKey.{SortKey}
use Rattle.ebr_query.specs.declared.order.KeyedRow.{KeyedRow}
use Rattle.ebr_query.specs.Order.{keys_order, in_order}
use Rattle.ebr_query.specs.Results.{all, keyed, ordered}
use Rattle.ebr_query.specs.inside.Numbers.{rows_numbered, keyed_row}
use Rattle.ebr_query.proofs.ByNumber.{ordered-by}
use Rattle.ebr_query.proofs.Plainly.{ordered-none}
use Rattle.ebr_query.proofs.sort.ordered.Goals as goal

none-there : {X : Type 0} (xs : List X) → length xs ≡ 0 → xs ≡ []
none-there [] e = refl
none-there (x ∷ xs) e = absurd (grind (arith, e))

pub returns-then-is_empty : goal.returns-then-is_empty
returns-then-is_empty c =
    let rows = rows_numbered c.args.sources.now c.args.numbers in
    let z : length c.args.keys.now ≡ 0 = grind (arith, c.is_empty.ensures, c.if-is_empty.true) in
    ap (λ keys. ordered keys c.args.binds.now rows) (none-there c.args.keys.now z) ∙ ordered-none c.args.binds.now rows

pub returns : goal.returns
returns c =
    let sources = c.args.sources.now in
    let keys = c.args.keys.now in
    let binds = c.args.binds.now in
    let rows = rows_numbered sources c.args.numbers in
    let ks = c.in_ok-rows.rows in
    let found : all (map (keyed keys binds) rows) ≡ Ok (map (keyed_row sources) ks) = search rules in
    let before : List Bool → KeyedRow → KeyedRow → Bool = λ ds a b. is_lt (keys_order ds a.keys b.keys) in
    let down : List Bool = map (λ (k : SortKey). k.descending) keys in
    let d : c.as_slice-2.result.now ≡ down = search rules in
    let s : c.as_slice-3.result.now ≡ in_order (before down) ks
    = c.as_slice-3.ensures.value ∙ c.in_ok-sorted.ensures ∙ ap (λ ds. in_order (before ds) c.into_vec.result.items) d ∙ ap (in_order (before down)) c.into_vec.ensures in
    let n : c.in_ok-numbers_of.field-0 ≡ map (λ (k : KeyedRow). k.at) c.as_slice-3.result.now = search rules in
    ordered-by sources keys binds rows ks found ∙ ap (λ xs. Ok (rows_numbered sources xs)) (sym (n ∙ ap (map (λ (k : KeyedRow). k.at)) s))
