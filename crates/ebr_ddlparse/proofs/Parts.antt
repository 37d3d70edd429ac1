-- Reading the parts of definitions is right: types, views, columns, and what stands behind a comma in a table.
use Rattle.std.proofs.Common.{◌≡◌, ℕ, Bool, true, false, List, [], ◌∷◌, ◌++◌, None, drop, refl, sym, ap, subst, ◌∙◌, inl, inr, append_assoc}
use Rattle.std.specs.Prelude.{◌&&◌, ◌||◌, ◌⊎◌}
use Rattle.ebr_lexer.specs.declared.token.Token.{Token}
use Rattle.ebr_grammar.specs.declared.kind.Kind.{Kind}
use Rattle.ebr_grammar.specs.declared.kind.Kind.TheVariants as k
use Rattle.ebr_grammar.specs.Kinds.{same, kind_of, member, name_kinds, names_but}
use Rattle.ebr_grammar.specs.Forms.{sees}
use Rattle.ebr_grammar.specs.Grammar.{token, both, led, SpellsEach}
use Rattle.ebr_grammar.specs.Reading.{nullable, first}
use Rattle.ebr_grammar.specs.Choice.{among, apart, after, is_clear}
use Rattle.ebr_grammar.specs.Outcome.{named_by}
use Rattle.ebr_grammar.proofs.Next.{not_both, member-apart, sees-append, sees-apart, sees-among, unseen-among, or_right}
use Rattle.ebr_grammar.proofs.Right.{IsReader, IsRight, foreign, AreRight, widened}
use Rattle.ebr_grammar.proofs.Laws.{begun, begun_first}
use Rattle.ebr_grammar.proofs.Outside.{IsReadable, reader_over, either_reader}
use Rattle.ebr_ast.specs.declared.statement.DeclaredType.{DeclaredType}
use Rattle.ebr_ast.specs.declared.definition.ColumnConstraint.{ColumnConstraint}
use Rattle.ebr_ddlparse.specs.Base.{P, hints, reading, SpellsBy, one_name, more_names, names, closed_names}
use Rattle.ebr_ddlparse.specs.Types.{table_names, column_of, digits, unit, closed_unit, size, number_type, integer_type, varchar2_type, boolean_type, of_column, declared_type, type_reader, type_goes_on}
use Rattle.ebr_ddlparse.specs.Tables.{constraint, constraint_begins, constraints, column_rest, column, key_words, key_head, key, Entry, is_key_words, is_key, key_entry, column_entry, SpellsEntry, entry_reader}
use Rattle.ebr_ddlparse.specs.Views.{alias, item, more_items, items, selected, view_body, view_names, view_head, editioning_view, view_reader}
use Rattle.ebr_ddlparse.specs.Definitions.{column_goes_on}
use Rattle.ebr_ddlparse.specs.Parts.{type_part, view_part}
use Rattle.ebr_ddlparse.proofs.Clear.{type_is, column_is, column_entry_is, key_entry_is, view_is}

-- ---- a production without names

how_begun : {C : Type 0} (g : P C) → is_clear hints g ≡ true → AreRight (foreign g) → (ts : List Token) (c : C) → SpellsBy g ts c → (sees (first hints g) ts ≡ true) ⊎ ((nullable hints g ≡ true) × (ts ≡ []))
how_begun g clear right ts c s = begun hints (λ _ ts a. ⊥) (λ part ts a s. absurd s) g clear right ts c s

reader_of : {C : Type 0} (g : P C) → IsReadable hints g → IsReader (first hints g) (after hints g) (SpellsBy g) (reading g)
reader_of g is = reader_over hints (λ _ ts a. ⊥) (λ _ ts. None) (λ part. absurd part) g is

pub reads_types : IsRight type_part
unfolding same name_kinds names_but hints column_of digits unit closed_unit size number_type integer_type varchar2_type boolean_type of_column declared_type type_reader type_goes_on
reads_types = widened (reader_of declared_type type_is) refl refl

pub reads_columns : IsReader name_kinds column_goes_on (SpellsBy column) (reading column)
unfolding same name_kinds names_but hints column_of digits unit closed_unit size number_type integer_type varchar2_type boolean_type of_column declared_type constraint constraints column_rest column column_goes_on
reads_columns = widened (reader_of column column_is) refl refl

reads_column_entries : IsReader name_kinds column_goes_on (SpellsBy column_entry) (reading column_entry)
unfolding same name_kinds names_but hints column_of digits unit closed_unit size number_type integer_type varchar2_type boolean_type of_column declared_type constraint constraints column_rest column column_entry column_goes_on
reads_column_entries = widened (reader_of column_entry column_entry_is) refl refl

reads_key_entries : IsReader name_kinds column_goes_on (SpellsBy key_entry) (reading key_entry)
unfolding same name_kinds hints one_name more_names names closed_names key_words key_head key key_entry column_goes_on
reads_key_entries = widened (reader_of key_entry key_entry_is) refl refl

pub reads_views : IsRight view_part
unfolding same name_kinds hints one_name more_names names closed_names alias item more_items items selected view_body view_names view_head editioning_view view_reader
reads_views = widened (reader_of editioning_view view_is) refl refl

-- ---- where a key begins, the test holds

and_is : (a b : Bool) → a ≡ true → b ≡ true → (a && b) ≡ true
and_is true b p q = q
and_is false b p q = absurd cc

or_left : (a b : Bool) → a ≡ true → (a || b) ≡ true
or_left true b e = refl
or_left false b e = absurd cc

not_first : (a b : Bool) → a ≡ false → (a && b) ≡ false
not_first true b e = absurd cc
not_first false b e = refl

not_second : (a b : Bool) → b ≡ false → (a && b) ≡ false
not_second true b e = e
not_second false b e = refl

neither : (a b : Bool) → a ≡ false → b ≡ false → (a || b) ≡ false
neither true b p q = absurd cc
neither false b p q = q

abbrev Is : Kind → Token → Type 0
Is kind t = member (kind_of t) (kind ∷ []) ≡ true

words_are : (ts : List Token) (c : Unit {0}) → SpellsBy key_words ts c → (t u v : Token) × (ts ≡ t ∷ u ∷ v ∷ []) × Is k.Primary t × Is k.Key u × Is k.LeftParen v
unfolding key_words
words_are ts c s = (s.5.0, s.6.5.0, s.6.6.0, rw (s.4, s.5.1, s.6.4, s.6.5.1, s.6.6.1) refl, s.5.2, s.6.5.2, s.6.6.2)

words_are_seen : (t u v : Token) (ts : List Token) → Is k.Primary t → Is k.Key u → Is k.LeftParen v → is_key_words 0 (t ∷ u ∷ v ∷ ts) ≡ true
unfolding sees
words_are_seen t u v ts p q r = and_is (member (kind_of t) (k.Primary ∷ [])) (member (kind_of u) (k.Key ∷ []) && member (kind_of v) (k.LeftParen ∷ [])) p (and_is (member (kind_of u) (k.Key ∷ [])) (member (kind_of v) (k.LeftParen ∷ [])) q r)

named_words_are_seen : (w n t u v : Token) (ts : List Token) → Is k.Constraint w → Is k.Primary t → Is k.Key u → Is k.LeftParen v → is_key (w ∷ n ∷ t ∷ u ∷ v ∷ ts) ≡ true
unfolding sees is_key
named_words_are_seen w n t u v ts is p q r =
    or_right (is_key_words 0 (w ∷ n ∷ t ∷ u ∷ v ∷ ts)) (member (kind_of w) (k.Constraint ∷ []) && is_key_words 2 (w ∷ n ∷ t ∷ u ∷ v ∷ ts))
    (and_is (member (kind_of w) (k.Constraint ∷ [])) (is_key_words 2 (w ∷ n ∷ t ∷ u ∷ v ∷ ts)) is (words_are_seen t u v ts p q r))

five_are : (front x y xs ys : List Token) (w n t u v : Token) → front ≡ x ++ y → x ≡ w ∷ [] → y ≡ xs ++ ys → xs ≡ n ∷ [] → ys ≡ t ∷ u ∷ v ∷ [] → front ≡ w ∷ n ∷ t ∷ u ∷ v ∷ []
five_are front x y xs ys w n t u v a b c d e = rw (a, b, c, d, e) refl

head_is_seen : (front rest : List Token) (c : Unit {0}) → SpellsBy key_head front c → is_key (front ++ rest) ≡ true
unfolding key_head is_key
head_is_seen front rest c (inl s) =
    let words = words_are s.6.1 s.6.3 s.6.6 in
    let all : front ≡ s.5.0 ∷ s.6.5.0 ∷ words.0 ∷ words.1 ∷ words.2 ∷ [] = five_are front s.0 s.1 s.6.0 s.6.1 s.5.0 s.6.5.0 words.0 words.1 words.2 s.4 s.5.1 s.6.4 s.6.5.1 words.3 in
    subst (λ (z : List Token). is_key (z ++ rest) ≡ true) (sym all) (named_words_are_seen s.5.0 s.6.5.0 words.0 words.1 words.2 rest s.5.2 words.4 words.5 words.6)
head_is_seen front rest c (inr s) =
    let words = words_are front c s in
    let seen = words_are_seen words.0 words.1 words.2 rest words.4 words.5 words.6 in
    let all : List Token = words.0 ∷ words.1 ∷ words.2 ∷ rest in
    subst (λ (z : List Token). is_key (z ++ rest) ≡ true) (sym words.3) (or_left (is_key_words 0 all) (sees (k.Constraint ∷ []) all && is_key_words 2 all) seen)

key_is_seen : (front rest : List Token) (entry : Entry) → SpellsBy key_entry front entry → sees column_goes_on rest ≡ false → is_key (front ++ rest) ≡ true
unfolding key_entry key
key_is_seen front rest entry s stop =
    subst (λ (z : List Token). is_key (z ++ rest) ≡ true) (sym s.1.4) (ap is_key (append_assoc s.1.0 s.1.1 rest) ∙ head_is_seen s.1.0 (s.1.1 ++ rest) s.1.2 s.1.5)

-- ---- where a column stands, it fails

abbrev brackets : List Kind
brackets = k.LeftParen ∷ k.Dot ∷ []

-- the first token of a type, and what follows it
abbrev Parts : List Token → Type 0
Parts ts = (t : Token) × (y : List Token) × (ts ≡ t ∷ y) × ((sees brackets y ≡ true) ⊎ (y ≡ [])) × (Is k.Key t → sees (k.Dot ∷ []) y ≡ true)

keyword : (kinds : List Kind) (g : P (List ℕ → DeclaredType)) → is_clear hints g ≡ true → AreRight (foreign g) → apart kinds (k.Key ∷ []) ≡ true → among (first hints g) brackets ≡ true
    → (ts : List Token) (ty : DeclaredType) → SpellsBy (both (λ word f. f word) (token kinds named_by) g) ts ty → Parts ts
keyword kinds g clear right other begins ts ty s =
    let tail : (sees brackets s.1 ≡ true) ⊎ (s.1 ≡ []) = elim (how_begun g clear right s.1 s.3 s.6) [ inl seen ↦ inl (sees-among (first hints g) brackets s.1 begins seen) | inr none ↦ inr none.1 ] in
    (s.5.0, s.1, s.4 ∙ ap (λ (z : List Token). z ++ s.1) s.5.1, tail, λ is. absurd (not_both (member (kind_of s.5.0) (k.Key ∷ [])) is (member-apart (kind_of s.5.0) kinds (k.Key ∷ []) other s.5.2)))

tabled : (ts : List Token) (ty : DeclaredType) → SpellsBy (both (λ table f. f table) (token table_names named_by) of_column) ts ty → Parts ts
unfolding same name_kinds hints of_column column_of
tabled ts ty s =
    let dot : sees (k.Dot ∷ []) s.1 ≡ true = begun_first (k.Dot ∷ []) false s.1 refl (how_begun of_column refl tt s.1 s.3 s.6) in
    (s.5.0, s.1, s.4 ∙ ap (λ (z : List Token). z ++ s.1) s.5.1, inl (sees-among (k.Dot ∷ []) brackets s.1 refl dot), λ is. dot)

type_parts : (ts : List Token) (ty : DeclaredType) → SpellsBy declared_type ts ty → Parts ts
unfolding same name_kinds hints column_of digits unit closed_unit size number_type integer_type varchar2_type boolean_type declared_type
type_parts ts ty (inl s) = keyword (k.Number ∷ []) number_type refl tt refl refl ts ty s
type_parts ts ty (inr (inl s)) = keyword (k.Integer ∷ []) integer_type refl tt refl refl ts ty s
type_parts ts ty (inr (inr (inl s))) = keyword (k.Varchar2 ∷ []) varchar2_type refl tt refl refl ts ty s
type_parts ts ty (inr (inr (inr (inl s)))) = keyword (k.Boolean ∷ []) boolean_type refl tt refl refl ts ty s
type_parts ts ty (inr (inr (inr (inr s)))) = tabled ts ty s

-- no key behind one constraint
behind_constraint : (x : List Token) (c : ColumnConstraint) → SpellsBy constraint x c → (ts : List Token) → sees (k.LeftParen ∷ []) ts ≡ false → is_key_words 0 (x ++ ts) ≡ false
unfolding same constraint sees
behind_constraint x c (inl s) ts stop =
    let all : x ≡ s.5.0 ∷ s.6.0 ∷ [] = rw (s.4, s.5.1, s.6.1) refl in
    let other : member (kind_of s.5.0) (k.Primary ∷ []) ≡ false = member-apart (kind_of s.5.0) (k.Not ∷ []) (k.Primary ∷ []) refl s.5.2 in
    subst (λ (z : List Token). is_key_words 0 (z ++ ts) ≡ false) (sym all) (not_first (member (kind_of s.5.0) (k.Primary ∷ [])) (member (kind_of s.6.0) (k.Key ∷ []) && sees (k.LeftParen ∷ []) ts) other)
behind_constraint x c (inr s) ts stop =
    let all : x ≡ s.5.0 ∷ s.6.0 ∷ [] = rw (s.4, s.5.1, s.6.1) refl in
    subst (λ (z : List Token). is_key_words 0 (z ++ ts) ≡ false) (sym all)
    (not_second (member (kind_of s.5.0) (k.Primary ∷ [])) (member (kind_of s.6.0) (k.Key ∷ []) && sees (k.LeftParen ∷ []) ts) (not_second (member (kind_of s.6.0) (k.Key ∷ [])) (sees (k.LeftParen ∷ []) ts) stop))

abbrev Constraints : List ColumnConstraint → List Token → Type 0
Constraints each ts = SpellsEach (SpellsBy (led constraint_begins constraint)) each ts

no_bracket : (each : List ColumnConstraint) (y rest : List Token) → Constraints each y → sees column_goes_on rest ≡ false → sees (k.LeftParen ∷ []) (y ++ rest) ≡ false
unfolding same hints constraints constraint column_goes_on
no_bracket each y rest s stop =
    elim (how_begun constraints refl tt y each (each, s, refl)) [
      | inl seen ↦ sees-apart (k.LeftParen ∷ []) constraint_begins (y ++ rest) refl (sees-append constraint_begins y rest seen)
      | inr none ↦ subst (λ (z : List Token). sees (k.LeftParen ∷ []) (z ++ rest) ≡ false) (sym none.1) (unseen-among (k.LeftParen ∷ []) column_goes_on rest refl stop)
    ]

behind_constraints : (each : List ColumnConstraint) (cs rest : List Token) → Constraints each cs → sees column_goes_on rest ≡ false → is_key_words 0 (cs ++ rest) ≡ false
unfolding same column_goes_on
behind_constraints [] cs rest s stop =
    subst (λ (z : List Token). is_key_words 0 (z ++ rest) ≡ false) (sym s)
    (not_first (sees (k.Primary ∷ []) rest) (sees (k.Key ∷ []) (drop 1 rest) && sees (k.LeftParen ∷ []) (drop 2 rest)) (unseen-among (k.Primary ∷ []) column_goes_on rest refl stop))
behind_constraints (c ∷ each) cs rest s stop =
    subst (λ (z : List Token). is_key_words 0 (z ++ rest) ≡ false) (sym s.2)
    (ap (is_key_words 0) (append_assoc s.0 s.1 rest) ∙ behind_constraint s.0 c s.3 (s.1 ++ rest) (no_bracket each s.1 rest s.4 stop))

not_key_words : (t u : Token) (ts : List Token) (b : Bool) → member (kind_of u) (k.Key ∷ []) ≡ b → (Is k.Key u → sees (k.LeftParen ∷ []) ts ≡ false) → is_key_words 0 (t ∷ u ∷ ts) ≡ false
unfolding sees
not_key_words t u ts true is h =
    not_second (member (kind_of t) (k.Primary ∷ [])) (member (kind_of u) (k.Key ∷ []) && sees (k.LeftParen ∷ []) ts) (not_second (member (kind_of u) (k.Key ∷ [])) (sees (k.LeftParen ∷ []) ts) (h is))
not_key_words t u ts false is h =
    not_second (member (kind_of t) (k.Primary ∷ [])) (member (kind_of u) (k.Key ∷ []) && sees (k.LeftParen ∷ []) ts) (not_first (member (kind_of u) (k.Key ∷ [])) (sees (k.LeftParen ∷ []) ts) is)

not_key : (t u : Token) (ts : List Token) → (Is k.Key u → sees (k.LeftParen ∷ []) ts ≡ false) → is_key_words 0 ts ≡ false → is_key (t ∷ u ∷ ts) ≡ false
unfolding is_key
not_key t u ts h none =
    neither (is_key_words 0 (t ∷ u ∷ ts)) (sees (k.Constraint ∷ []) (t ∷ u ∷ ts) && is_key_words 2 (t ∷ u ∷ ts)) (not_key_words t u ts (member (kind_of u) (k.Key ∷ [])) refl h)
    (not_second (sees (k.Constraint ∷ []) (t ∷ u ∷ ts)) (is_key_words 2 (t ∷ u ∷ ts)) none)

two_and_rest : (front x y ty cs more rest : List Token) (t u : Token) → front ≡ x ++ y → x ≡ t ∷ [] → y ≡ ty ++ cs → ty ≡ u ∷ more → front ++ rest ≡ t ∷ u ∷ (more ++ (cs ++ rest))
two_and_rest front x y ty cs more rest t u a b c d = rw (a, b, c, d) (ap (λ (z : List Token). t ∷ u ∷ z) (append_assoc more cs rest))

column_is_no_key : (front rest : List Token) (entry : Entry) → SpellsBy column_entry front entry → sees column_goes_on rest ≡ false → is_key (front ++ rest) ≡ false
unfolding same column_entry column column_rest constraints
column_is_no_key front rest entry s stop =
    let q = s.1 in
    let r = q.6 in
    let parts = type_parts r.0 r.2 r.5 in
    let after_word : List Token = parts.1 ++ (r.1 ++ rest) in
    let all : front ++ rest ≡ q.5.0 ∷ parts.0 ∷ after_word = two_and_rest front q.0 q.1 r.0 r.1 parts.1 rest q.5.0 parts.0 q.4 q.5.1 r.4 parts.2 in
    let none : is_key_words 0 after_word ≡ false =
    elim parts.3 [
      | inl seen ↦ not_first (sees (k.Primary ∷ []) after_word) (sees (k.Key ∷ []) (drop 1 after_word) && sees (k.LeftParen ∷ []) (drop 2 after_word))
          (sees-apart (k.Primary ∷ []) brackets after_word refl (sees-append brackets parts.1 (r.1 ++ rest) seen))
      | inr bare ↦ subst (λ (z : List Token). is_key_words 0 (z ++ (r.1 ++ rest)) ≡ false) (sym bare) (behind_constraints r.6.0 r.1 rest r.6.1 stop)
    ] in
    ap is_key all ∙ not_key q.5.0 parts.0 after_word (λ is. sees-apart (k.LeftParen ∷ []) (k.Dot ∷ []) after_word refl (sees-append (k.Dot ∷ []) parts.1 (r.1 ++ rest) (parts.4 is))) none

pub reads_entries : IsReader name_kinds column_goes_on SpellsEntry entry_reader
unfolding same name_kinds column_goes_on entry_reader
reads_entries =
    widened
    (either_reader name_kinds column_goes_on name_kinds column_goes_on (SpellsBy key_entry) (SpellsBy column_entry) (reading key_entry) (reading column_entry) reads_key_entries reads_column_entries is_key key_is_seen column_is_no_key) refl refl
