-- Which sessions were answered that there is no memory.
use Rattle.std.proofs.Common.{◌≡◌, Bool, true, false, ◌||◌, ◌&&◌, if◌then◌else◌, List, [], ◌∷◌, refl, sym, ap, ◌∙◌}
use Rattle.std.specs.Prelude.{filter, map}
use Rattle.std.specs.List.{list_any}
use Rattle.ebr_base.specs.declared.numbers.SessionId.{SessionId}
use Rattle.ebr_asks.specs.declared.entry.Entry.{Entry}
use Rattle.ebr_asks.specs.declared.entry.Exchange.{Exchange}
use Rattle.ebr_core.specs.History.{exchange, is_of, is_short, wants}

abbrev told : List Entry → Bool
told h = list_any (λ (y : Exchange). wants y.answer) (map exchange h)

one_more : (x : Entry) (rest : List Entry) (b : Bool) → ((b && wants x.answer) || told rest) ≡ told (if b then x ∷ rest else rest)
one_more x rest true = refl
one_more x rest false = refl

pub short_by : (h : List Entry) (s : SessionId) → list_any (λ (x : Entry). is_of s x && wants x.answer) h ≡ is_short h s
short_by [] s = refl
short_by (x ∷ h) s = ap (λ b. (is_of s x && wants x.answer) || b) (short_by h s) ∙ one_more x (filter (is_of s) h) (is_of s x)
