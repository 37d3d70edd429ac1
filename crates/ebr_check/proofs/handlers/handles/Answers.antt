use Rattle.std.proofs.Common.{◌≡◌, ◌≤◌, ◌&&◌, ◌++◌, append-nil, length, map, flat_map, arith, rules, sym, ap, ◌∙◌}
use Rattle.std.proofs.lemmas.List.{drop_all}
use Rattle.ebr_scope.specs.Lent.{env}
use Rattle.ebr_validity.specs.Rules.{are_distinct_paths, caught_paths, others_is_last}
use Rattle.ebr_validity.specs.Statements.{caught_in_full}
use Rattle.ebr_rules.specs.Noted.{lower}
use Rattle.ebr_check.specs.inside.Caught.{caught_of, as_path}
use Rattle.ebr_check.proofs.FullNames.{same_last}
use Rattle.ebr_check.proofs.handlers.handles.Goals as goal

pub returns : goal.returns
returns c =
    let e = env c.args.place.now c.args.known.now in
    let cs = map caught_of c.args.handlers.now in
    let past : length c.args.handlers.now ≤ c.loop-handler.handler-index = omega arith in
    let none = drop_all c.loop-handler.handler-index c.args.handlers.now past in
    let items : c.as_slice.result.now ≡ c.loop-handler.paths = search rules in
    let whole : map as_path c.loop-handler.paths ≡ flat_map caught_paths (map (caught_in_full e) cs) = sym (append-nil (map as_path c.loop-handler.paths)) ∙ ap (λ hs. map as_path c.loop-handler.paths ++ flat_map caught_paths (map (caught_in_full e) (map caught_of hs))) (sym none) ∙ c.loop-handler.invariant in
    let paths : map as_path c.as_slice.result.now ≡ flat_map caught_paths (map (caught_in_full e) cs) = ap (map as_path) items ∙ whole in
    c.must.ensures
    ∙ ap (λ b. lower 8 b c.args.least.now)
    (c.stand.ensures
    ∙ ap (λ b. b && c.in_ok-distinct.distinct) (sym (same_last e cs))
    ∙ ap (λ b. others_is_last (map (caught_in_full e) cs) && b) (c.in_ok-distinct.ensures ∙ ap are_distinct_paths paths))
