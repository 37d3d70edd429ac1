-- Reading a type, before which CONSTANT may stand, is right.
use Rattle.std.proofs.Common.{◌≡◌, ℕ, Bool, true, false, List, [], ◌∷◌, ◌++◌, refl, sym, ap, subst, ◌∙◌, inl, inr}
use Rattle.std.specs.Prelude.{◌&&◌, not}
use Rattle.ebr_lexer.specs.declared.token.Token.{Token}
use Rattle.ebr_grammar.specs.declared.kind.Kind.{Kind}
use Rattle.ebr_grammar.specs.declared.kind.Kind.TheVariants as k
use Rattle.ebr_grammar.specs.Kinds.{same, kind_of, member, name_kinds}
use Rattle.ebr_grammar.specs.Forms.{sees}
use Rattle.ebr_grammar.specs.Grammar.{token, both}
use Rattle.ebr_grammar.specs.Choice.{apart}
use Rattle.ebr_grammar.specs.Outcome.{named_by}
use Rattle.ebr_grammar.proofs.Next.{not_both, member-apart, sees-append, sees-apart}
use Rattle.ebr_grammar.proofs.Right.{IsReader, widened}
use Rattle.ebr_grammar.proofs.Laws.{begun, begun_first}
use Rattle.ebr_grammar.proofs.Outside.{either_reader}
use Rattle.ebr_ast.specs.declared.statement.DeclaredType.{DeclaredType}
use Rattle.ebr_ddlparse.specs.Base as base
use Rattle.ebr_ddlparse.specs.Types.{table_names, column_of, number_type, integer_type, varchar2_type, boolean_type, of_column, declared_type, SpellsType, type_goes_on}
use Rattle.ebr_ddlparse.proofs.Parts.{reads_types}
use Rattle.ebr_simpleparse.specs.Types.{Typed, constant, variable, is_constant, SpelledPlainly, reads_plainly, SpellsTyped, typed_reader}
use Rattle.ebr_simpleparse.proofs.Reader.{reads_plain}

reads_constant : IsReader (k.Constant ∷ []) type_goes_on (SpelledPlainly constant) (reads_plainly constant)
unfolding same name_kinds type_goes_on constant
reads_constant = widened (reads_plain constant (record { clear = refl; full = refl; right = (reads_types, tt) })) refl refl

reads_variable : IsReader name_kinds type_goes_on (SpelledPlainly variable) (reads_plainly variable)
unfolding same name_kinds type_goes_on variable
reads_variable = widened (reads_plain variable (record { clear = refl; full = refl; right = (reads_types, tt) })) refl refl

-- ---- where CONSTANT is the keyword, the test holds

both_are : (a b : Bool) → a ≡ true → b ≡ false → (a && not b) ≡ true
both_are a b p q = rw (p, q) refl

seen : (t : Token) (ts : List Token) → member (kind_of t) (k.Constant ∷ []) ≡ true → sees (k.Dot ∷ []) ts ≡ false → is_constant (t ∷ ts) ≡ true
unfolding is_constant sees
seen t ts p q = both_are (member (kind_of t) (k.Constant ∷ [])) (sees (k.Dot ∷ []) ts) p q

constant_is_seen : (front rest : List Token) (a : Typed) → SpelledPlainly constant front a → sees type_goes_on rest ≡ false → is_constant (front ++ rest) ≡ true
unfolding constant same name_kinds
constant_is_seen front rest a s stop =
    let no_dot : sees (k.Dot ∷ []) (s.1 ++ rest) ≡ false = sees-apart (k.Dot ∷ []) name_kinds (s.1 ++ rest) refl (sees-append name_kinds s.1 rest (reads_types.begun s.1 s.6.0 s.6.1)) in
    let all : front ≡ s.5.0 ∷ s.1 = s.4 ∙ ap (λ (z : List Token). z ++ s.1) s.5.1 in
    subst (λ (z : List Token). is_constant (z ++ rest) ≡ true) (sym all) (seen s.5.0 (s.1 ++ rest) s.5.2 no_dot)

-- ---- where a type stands alone, it fails

-- the first token of a type, and a dot where that is CONSTANT
abbrev Parts : List Token → Type 0
Parts ts = (t : Token) × (y : List Token) × (ts ≡ t ∷ y) × (member (kind_of t) (k.Constant ∷ []) ≡ true → sees (k.Dot ∷ []) y ≡ true)

keyword : (kinds : List Kind) (g : base.P (List ℕ → DeclaredType)) → apart kinds (k.Constant ∷ []) ≡ true
    → (ts : List Token) (ty : DeclaredType) → base.SpellsBy (both (λ word f. f word) (token kinds named_by) g) ts ty → Parts ts
keyword kinds g other ts ty s =
    (s.5.0, s.1, s.4 ∙ ap (λ (z : List Token). z ++ s.1) s.5.1, λ is. absurd (not_both (member (kind_of s.5.0) (k.Constant ∷ [])) is (member-apart (kind_of s.5.0) kinds (k.Constant ∷ []) other s.5.2)))

tabled : (ts : List Token) (ty : DeclaredType) → base.SpellsBy (both (λ table f. f table) (token table_names named_by) of_column) ts ty → Parts ts
unfolding same name_kinds base.hints of_column column_of
tabled ts ty s =
    let dot : sees (k.Dot ∷ []) s.1 ≡ true = begun_first (k.Dot ∷ []) false s.1 refl (begun base.hints (λ _ ts a. ⊥) (λ part ts a s. absurd s) of_column refl tt s.1 s.3 s.6) in
    (s.5.0, s.1, s.4 ∙ ap (λ (z : List Token). z ++ s.1) s.5.1, λ is. dot)

type_parts : (ts : List Token) (ty : DeclaredType) → SpellsType ts ty → Parts ts
unfolding same declared_type
type_parts ts ty (inl s) = keyword (k.Number ∷ []) number_type refl ts ty s
type_parts ts ty (inr (inl s)) = keyword (k.Integer ∷ []) integer_type refl ts ty s
type_parts ts ty (inr (inr (inl s))) = keyword (k.Varchar2 ∷ []) varchar2_type refl ts ty s
type_parts ts ty (inr (inr (inr (inl s)))) = keyword (k.Boolean ∷ []) boolean_type refl ts ty s
type_parts ts ty (inr (inr (inr (inr s)))) = tabled ts ty s

not_then : (a b : Bool) → (a ≡ true → b ≡ true) → (a && not b) ≡ false
not_then true b h = rw (h refl) refl
not_then false b h = refl

unseen : (t : Token) (ts : List Token) → (member (kind_of t) (k.Constant ∷ []) ≡ true → sees (k.Dot ∷ []) ts ≡ true) → is_constant (t ∷ ts) ≡ false
unfolding is_constant sees
unseen t ts h = not_then (member (kind_of t) (k.Constant ∷ [])) (sees (k.Dot ∷ []) ts) h

variable_is_unseen : (front rest : List Token) (a : Typed) → SpelledPlainly variable front a → sees type_goes_on rest ≡ false → is_constant (front ++ rest) ≡ false
unfolding variable
variable_is_unseen front rest a s stop =
    let parts = type_parts front s.0 s.1 in
    subst (λ (z : List Token). is_constant (z ++ rest) ≡ false) (sym parts.2) (unseen parts.0 (parts.1 ++ rest) (λ is. sees-append (k.Dot ∷ []) parts.1 rest (parts.3 is)))

pub reads_typed : IsReader name_kinds type_goes_on SpellsTyped typed_reader
unfolding same name_kinds type_goes_on typed_reader
reads_typed =
    widened
    (either_reader (k.Constant ∷ []) type_goes_on name_kinds type_goes_on (SpelledPlainly constant) (SpelledPlainly variable) (reads_plainly constant) (reads_plainly variable) reads_constant reads_variable is_constant constant_is_seen variable_is_unseen)
    refl refl
