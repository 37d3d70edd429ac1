-- The name of a number, among names that are lent.
use Rattle.std.proofs.Common.{◌≡◌, ℕ, ◌+◌, ◌-◌, ◌<◌, ◌≤◌, true, List, [], length, get_or, Some, None, sym, ◌∙◌, ap, arith}
use Rattle.std.specs.Prelude.{nat_lt, slice_get, unwrap_or}
use Rattle.std.specs.Borrow.{Bor}
use Rattle.std.specs.Option.{option_map}
use Rattle.std.proofs.lemmas.Bool.{ltb-true}
use Rattle.std.proofs.lemmas.Option.{slice_get-get_or, slice_get-map, slice_get_past}
use Rattle.ebr_dump.specs.Dump.{numbered}
use Rattle.ebr_dump.specs.inside.Lent.{lent_name, lent_names}

module _ (names : List (Bor (List ℕ))) (at : ℕ) where
  place : at + 1 - 1 ≡ at
  place = omega arith

  pub some_name : (x : Bor (List ℕ)) → true ≡ nat_lt at (length names) → x ≡ get_or names at x → x.now ≡ numbered (lent_names names) (at + 1)
  some_name x l is =
      let within : at < length names = ltb-true at (length names) (sym l) in
      let here : slice_get (lent_names names) at ≡ Some x.now = slice_get-map lent_name names at ∙ ap (option_map lent_name) (slice_get-get_or names at x within) ∙ ap (λ (y : Bor (List ℕ)). Some y.now) (sym is) in
      sym (ap (λ o. unwrap_or o []) (ap (slice_get (lent_names names)) place ∙ here))

  pub none_name : length names ≤ at → [] ≡ numbered (lent_names names) (at + 1)
  none_name past =
      let here : slice_get (lent_names names) at ≡ None = slice_get-map lent_name names at ∙ ap (option_map lent_name) (slice_get_past names at past) in
      sym (ap (λ o. unwrap_or o []) (ap (slice_get (lent_names names)) place ∙ here))
