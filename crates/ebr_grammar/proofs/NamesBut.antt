-- Names but some.
use Rattle.std.proofs.Common.{◌≡◌, Bool, true, false, List, [], ◌∷◌, Option, None, refl, ap, ◌∙◌}
use Rattle.std.specs.Prelude.{◌||◌, if◌then◌else◌}
use Rattle.ebr_grammar.specs.declared.kind.Kind.{Kind}
use Rattle.ebr_lexer.specs.declared.token.Token.{Token}
use Rattle.ebr_grammar.specs.Kinds.{same, kind_of, member, without, name_kinds, names_but}
use Rattle.ebr_grammar.specs.Forms.{Found, sees}
use Rattle.ebr_grammar.specs.Reading.{before, read_token}
use Rattle.ebr_grammar.proofs.Next.{not_both, same_is}

without_step : (k x : Kind) (left_out kinds : List Kind) (out is it : Bool) → member k left_out ≡ out → member x left_out ≡ is → same k x ≡ it
    → member k (without left_out kinds) ≡ (if out then false else member k kinds)
    → member k (if is then without left_out kinds else x ∷ without left_out kinds) ≡ (if out then false else (it || member k kinds))
without_step k x left_out kinds true true it out-is is-is it-is h = h
without_step k x left_out kinds false true true out-is is-is it-is h = absurd (not_both (member k left_out) (ap (λ (z : Kind). member z left_out) (same_is k x it-is) ∙ is-is) out-is)
without_step k x left_out kinds false true false out-is is-is it-is h = h
without_step k x left_out kinds true false true out-is is-is it-is h = absurd (not_both (member k left_out) out-is (ap (λ (z : Kind). member z left_out) (same_is k x it-is) ∙ is-is))
without_step k x left_out kinds true false false out-is is-is it-is h = ap (λ (z : Bool). z || member k (without left_out kinds)) it-is ∙ h
without_step k x left_out kinds false false it out-is is-is it-is h = ap (λ (z : Bool). z || member k (without left_out kinds)) it-is ∙ ap (λ (z : Bool). it || z) h

pub member-without : (k : Kind) (left_out kinds : List Kind) → member k (without left_out kinds) ≡ (if member k left_out then false else member k kinds)
member-without k left_out [] = elim (member k left_out) as (λ b. false ≡ (if b then false else false)) [ true ↦ refl | false ↦ refl ]
member-without k left_out (x ∷ kinds) = without_step k x left_out kinds (member k left_out) (member x left_out) (same k x) refl refl refl (member-without k left_out kinds)

read_step : {A : Type 0} (out is : Bool) (found : Found A) → (if (if out then false else is) then found else None) ≡ (if out then None else (if is then found else None))
read_step true is found = refl
read_step false is found = refl

-- a name but some is none of these, and a name
pub read_but : {A : Type 0} (left_out : List Kind) (f : Token → Option A) (ts : List Token) → read_token (names_but left_out) f ts ≡ (if sees left_out ts then None else read_token name_kinds f ts)
unfolding read_token names_but sees
read_but left_out f [] = refl
read_but left_out f (t ∷ ts) =
    ap (λ (z : Bool). if z then before ts (f t) else None) (member-without (kind_of t) left_out name_kinds) ∙ read_step (member (kind_of t) left_out) (member (kind_of t) name_kinds) (before ts (f t))
