-- Writing values one after the other, as a loop does.
use Rattle.std.proofs.Common.{◌≡◌, ℕ, ◌+◌, ◌<◌, List, [], ◌∷◌, ◌++◌, length, get_or, take, sym, ap, subst, ◌∙◌, append_assoc}
use Rattle.std.specs.List.{flat_map, AllByRecursion}
use Rattle.std.proofs.lemmas.Grind.{take_at_read}
use Rattle.std.proofs.lemmas.List.{append-nil}
use Rattle.std.proofs.lemmas.List.Concat.{flat_map-append}
use Rattle.ebr_encoding.specs.Reading.{Reader}
use Rattle.ebr_encoding.specs.inside.Written.{AreWritten, IsReadAgain, IsWritten}

all_push : {X : Type 0} (P : X → Type 0) (xs : List X) (x : X) → AllByRecursion P xs → P x → AllByRecursion P (xs ++ x ∷ [])
all_push P [] x all last = (last, tt)
all_push P (y ∷ xs) x all last = (all.0, all_push P xs x all.1 last)

module _ {X : Type 0} (read : Reader X) (spelling : X → List ℕ) where
  pub none_written : (old : List ℕ) → AreWritten read spelling [] old old
  none_written old = record { bytes = sym (append-nil old); each = tt }

  pub one_more : (xs : List X) (x : X) (old mid new : List ℕ) → AreWritten read spelling xs old mid → IsWritten read (spelling x) x mid new → AreWritten read spelling (xs ++ x ∷ []) old new
  one_more xs x old mid new before last =
      let one : flat_map spelling (xs ++ x ∷ []) ≡ flat_map spelling xs ++ spelling x = flat_map-append spelling xs (x ∷ []) ∙ ap (λ (t : List ℕ). flat_map spelling xs ++ t) (append-nil (spelling x)) in
      record {
        bytes = last.bytes ∙ ap (λ (t : List ℕ). t ++ spelling x) before.bytes ∙ append_assoc old (flat_map spelling xs) (spelling x) ∙ ap (λ (t : List ℕ). old ++ t) (sym one);
        each = all_push (λ y. IsReadAgain read (spelling y) y) xs x before.each last.again;
      }

  pub next_written : (xs : List X) (i : ℕ) (x : X) (old mid new : List ℕ) → i < length xs → get_or xs i x ≡ x → AreWritten read spelling (take i xs) old mid → IsWritten read (spelling x) x mid new → AreWritten read spelling (take (i + 1) xs) old new
  next_written xs i x old mid new within at before last =
      let more : take (i + 1) xs ≡ take i xs ++ x ∷ [] = (take_at_read xs i x within).1 ∙ ap (λ (y : X). take i xs ++ y ∷ []) at in
      subst (λ (ys : List X). AreWritten read spelling ys old new) (sym more) (one_more (take i xs) x old mid new before last)

-- what three writes left
pub behind_two : (old first second new a b v : List ℕ) → first ≡ old ++ a → second ≡ first ++ b → new ≡ second ++ v → new ≡ old ++ ((a ++ b) ++ v)
behind_two old first second new a b v e f g =
    g ∙ ap (λ (t : List ℕ). t ++ v) (f ∙ ap (λ (t : List ℕ). t ++ b) e ∙ append_assoc old a b) ∙ append_assoc old (a ++ b) v
