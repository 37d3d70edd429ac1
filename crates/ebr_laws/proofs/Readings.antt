-- What the code of an expression does is what the expression does.
use Rattle.std.proofs.Common.{◌≡◌, ℕ, zero, suc, Bool, false, List, [], ◌∷◌, ◌++◌, map, Option, Some, None, Ok, Err, refl, sym, ap, ◌∙◌, subst, append_assoc}
use Rattle.std.specs.Prelude.{pos}
use Rattle.ebr_base.specs.declared.value.Value.{Value}
use Rattle.ebr_base.specs.declared.value.Value.TheVariants as value
use Rattle.ebr_base.specs.Values.{text_value}
use Rattle.ebr_exprtree.specs.declared.expression.Attribute.{Attribute}
use Rattle.ebr_exprtree.specs.declared.expression.Path.{Path}
use Rattle.ebr_exprtree.specs.declared.expression.RowImage.{RowImage}
use Rattle.ebr_exprtree.specs.declared.expression.RowImage.TheVariants as image
use Rattle.ebr_exprtree.specs.declared.expression.Expr.{Expr}
use Rattle.ebr_exprtree.specs.declared.expression.Addend.{Addend}
use Rattle.ebr_exprtree.specs.declared.expression.Expr.TheOpen.{Expr-F, Addend-F}
use Rattle.ebr_exprtree.specs.declared.expression.Expr.TheOpen as expr
use Rattle.ebr_exprtree.specs.declared.expression.Expr.TheViews.{roll-Expr, roll-Addend}
use Rattle.ebr_exprtree.specs.declared.expression.Expr.TheFolds.{fold-roll-Expr, fold-roll-Addend, map-Expr, map-Addend, ind-Expr, claims}
use Rattle.ebr_exprtree.specs.declared.expression.Expr.TheBlock.{the_family, member-Expr, member-Addend}
use denote.Hole.Holds.{Such}
use Rattle.ebr_value.specs.declared.form.BinOp.TheVariants as op
use Rattle.ebr_value.specs.declared.form.Builtin.{Builtin}
use Rattle.ebr_value.specs.declared.form.Builtin.TheVariants as builtin
use Rattle.ebr_value.specs.Outcomes.{Outcome as Computed, whole}
use Rattle.ebr_expr.specs.Operators.{compared_by, builtin_at, unsigned}
use Rattle.ebr_scope.specs.Meanings.{Word}
use Rattle.ebr_run.specs.Faults.{ora}
use Rattle.ebr_run.specs.Cursors.{attribute_of}
use Rattle.ebr_run.specs.State.{State, with_operands, then_run}
use Rattle.ebr_run.specs.Scope.{Env, Denoted, Variable, Exception, Cursor, Record, Subprogram, meant, meant_at, applied, column_place}
use Rattle.ebr_run.specs.Values.{on_value, on_some, cursor_at, number_of, affected_attribute, same_op}
use Rattle.ebr_run.specs.Expressions.{Calls, Then, Reading, Term, reads, term, reading_of, term_of, name_reading, applied_reading, call_reading, image_at, sqlcode_reading, cursor_attribute, attribute_reading, of_two, of_one, further, summed, not_if, between, among}
use Rattle.ebr_code.specs.declared.instruction.Instruction.{Instruction, Do}
use Rattle.ebr_code.specs.declared.instruction.Operation.TheVariants as does
use Rattle.ebr_code.specs.Instructions.{push, run}
use Rattle.ebr_code.specs.Codes.{Coded, expr_codes, term_codes, expr_code, term_code, value_code, name_code, applied_code, calls_code, image_code, sqlcode_code, cursor_code, attribute_code, refer_code, right_code, further_code, summed_code, not_code, between_code, among_code}
use Rattle.ebr_code.specs.Codes as codes
use Rattle.ebr_laws.proofs.Lists.{first_does}
use Rattle.ebr_laws.proofs.Steps.{Goes, Same, SameReading, recoded, chained, by_operation, behind_operation, nothing_known, value_pushes, some_pushes, handled_pushes, in_row_pushes, referred_same, located_same, cursor_beneath}
use Rattle.ebr_laws.proofs.Operands.{AllRead, none, one_more, function_same, called_function}
use Rattle.ebr_laws.proofs.Operators.{SameTerm, AllTerms, no_term, term_more, two_same, one_same, further_same, summed_same, not_same, between_same, among_same}

-- ---- what has no operands

-- a value that is there
pushed : (v : Value) (calls : Calls) (operands : List Value) → Same (λ next. next v) (Do (does.Push v) ∷ []) calls operands operands
pushed v calls operands = by_operation (does.Push v) (λ next. next v) calls operands operands (λ next more h σ. h v σ)

computed : (r : Computed) (calls : Calls) (operands : List Value) → Same (on_value r) (value_code r) calls operands operands
computed (Ok v) calls operands = pushed v calls operands
computed (Err c) calls operands = by_operation (does.Raise _) (on_value (Err c)) calls operands operands (λ next more h σ. refl)

named : (d : Option Denoted) (env : Env) (calls : Calls) (operands : List Value) → Same (name_reading d env calls) (name_code d env) calls operands operands
named (Some (Variable l t)) env calls operands = located_same l calls operands
named (Some (Subprogram key at h)) env calls operands = called_function key at [] [] none env calls operands
named (Some (Exception p f)) env calls operands = nothing_known calls operands operands
named (Some (Cursor l q fs)) env calls operands = nothing_known calls operands operands
named (Some (Record ps)) env calls operands = nothing_known calls operands operands
named None env calls operands = nothing_known calls operands operands

of_row : (i : RowImage) (k : Option ℕ) (calls : Calls) (operands : List Value) → Same (image_at i k) (image_code i k) calls operands operands
of_row image.New (Some k) calls operands = by_operation (does.LoadColumn image.New k) (image_at image.New (Some k)) calls operands operands (λ next more h σ. in_row_pushes _ next more calls operands h σ)
of_row image.Old (Some k) calls operands = by_operation (does.LoadColumn image.Old k) (image_at image.Old (Some k)) calls operands operands (λ next more h σ. in_row_pushes _ next more calls operands h σ)
of_row image.New None calls operands = nothing_known calls operands operands
of_row image.Old None calls operands = nothing_known calls operands operands

of_handler : (n : ℕ) (calls : Calls) (operands : List Value) → Same (sqlcode_reading n) (sqlcode_code n) calls operands operands
of_handler zero calls operands = pushed (value.Num (pos 0)) calls operands
of_handler (suc n) calls operands = by_operation (does.SqlCode n) (sqlcode_reading (suc n)) calls operands operands (λ next more h σ. handled_pushes n number_of next more calls operands h σ)

-- an attribute of a cursor
of_cursor : (a : Attribute) (d : Option Denoted) (env : Env) (calls : Calls) (operands : List Value) → Same (cursor_attribute a d env calls) (cursor_code a d) calls operands operands
of_cursor a (Some (Cursor l q fs)) env calls operands = record {
  by = λ next more h σ.
      referred_same l calls operands _ (Do (does.Attribute l a) ∷ more) (λ τ.
      some_pushes (attribute_of a (cursor_at l τ)) (ora 1001) next more calls operands h τ
      ∙ ap (λ c. then_run (on_some (attribute_of a c) (ora 1001) push (with_operands operands τ)) (run more calls)) (sym (cursor_beneath l operands τ))
      ∙ sym (first_does (does.Attribute l a) more calls (with_operands operands τ))) σ
      ∙ ap (λ z. run z calls (with_operands operands σ)) (sym (append_assoc (refer_code l) (Do (does.Attribute l a) ∷ []) more));
}
of_cursor a (Some (Variable l t)) env calls operands = nothing_known calls operands operands
of_cursor a (Some (Subprogram key at h)) env calls operands = nothing_known calls operands operands
of_cursor a (Some (Exception p f)) env calls operands = nothing_known calls operands operands
of_cursor a (Some (Record ps)) env calls operands = nothing_known calls operands operands
of_cursor a None env calls operands = nothing_known calls operands operands

of_attribute : (c : Option Word) (a : Attribute) (env : Env) (calls : Calls) (operands : List Value) → Same (attribute_reading c a env calls) (attribute_code c a env) calls operands operands
of_attribute None a env calls operands = by_operation (does.Affected a) (attribute_reading None a env calls) calls operands operands (λ next more h σ. h (affected_attribute a σ.affected) σ)
of_attribute (Some c) a env calls operands = of_cursor a (meant_at env c None) env calls operands

-- ---- calls

applied_same : (d : Option Denoted) {rs : List Reading} {cs : List Coded} → AllRead rs cs → (env : Env) (calls : Calls) (operands : List Value) → Same (applied_reading d rs env calls) (applied_code d cs env) calls operands operands
applied_same (Some (Subprogram key at h)) {rs} {cs} ss env calls operands = called_function key at rs cs ss env calls operands
applied_same (Some (Variable l t)) ss env calls operands = nothing_known calls operands operands
applied_same (Some (Exception p f)) ss env calls operands = nothing_known calls operands operands
applied_same (Some (Cursor l q fs)) ss env calls operands = nothing_known calls operands operands
applied_same (Some (Record ps)) ss env calls operands = nothing_known calls operands operands
applied_same None ss env calls operands = nothing_known calls operands operands

calls_same : (f : Option Builtin) (path : Path) {rs : List Reading} {cs : List Coded} → AllRead rs cs → (env : Env) (calls : Calls) (operands : List Value) → Same (call_reading f path rs env calls) (calls_code f path cs env) calls operands operands
calls_same (Some f) path {rs} {cs} ss env calls operands = function_same f rs cs ss env calls operands
calls_same None path ss env calls operands = applied_same (applied env path) ss env calls operands

-- ---- expressions

abbrev IsRead : Expr → Type 0
IsRead x = SameReading (reading_of x) (expr_code x)

abbrev IsTermRead : Addend → Type 0
IsTermRead t = SameTerm (term_of t) (term_code t)

abbrev ReadExpr : Type 0
ReadExpr = Such the_family (claims IsRead IsTermRead) member-Expr

abbrev ReadAddend : Type 0
ReadAddend = Such the_family (claims IsRead IsTermRead) member-Addend

all_read : (l : List ReadExpr) → AllRead (map reading_of (map (λ e. e.0) l)) (map expr_code (map (λ e. e.0) l))
all_read [] = none
all_read (e ∷ l) = one_more e.1 (all_read l)

all_terms : (l : List ReadAddend) → AllTerms (map term_of (map (λ e. e.0) l)) (map term_code (map (λ e. e.0) l))
all_terms [] = no_term
all_terms (e ∷ l) = term_more e.1 (all_terms l)

abbrev trees : Expr-F ReadExpr ReadAddend → Expr-F Expr Addend
trees y = map-Expr ReadExpr ReadAddend Expr Addend (λ e. e.0) (λ e. e.0) y

abbrev readings : Expr-F Expr Addend → Reading
readings d = reads (map-Expr Expr Addend Reading Term reading_of term_of d)

abbrev coded : Expr-F Expr Addend → Coded
coded d = expr_codes (map-Expr Expr Addend Coded codes.Term expr_code term_code d)

-- a value, and then what is done with it
behind : (s : ReadExpr) (k : Env → Calls → Value → Then → _) (d : Coded) → ((env : Env) (calls : Calls) (operands : List Value) (v : Value) → Same (k env calls v) (d env) calls (v ∷ operands) operands)
    → SameReading (λ env calls next. reading_of s.0 env calls (λ v τ. k env calls v next τ)) (λ env. expr_code s.0 env ++ d env)
behind s k d t = record {
  by = λ env calls operands. chained (reading_of s.0 env calls) (k env calls) (expr_code s.0 env) (d env) calls operands operands operands (s.1.by env calls operands) (t env calls operands);
}

-- with NOT behind it or without
or_not : (negated : Bool) (r : Then → _) (c : List Instruction) (calls : Calls) (before operands : List Value) → Same r c calls before operands → Same (λ next. r (not_if negated next)) (c ++ not_code negated) calls before operands
or_not negated r c calls before operands s = chained r (λ x next. not_if negated next x) c (not_code negated) calls before operands operands s (λ x. not_same negated x calls operands)

right_of : (o : _) (b : ReadExpr) (env : Env) (calls : Calls) (operands : List Value) (x : Value) → Same (of_two o x (reading_of b.0) env calls) (right_code o (expr_code b.0 env)) calls (x ∷ operands) operands
right_of o b env calls operands x = two_same o x (reading_of b.0) (expr_code b.0 env) env calls operands (b.1.by env calls (x ∷ operands))

expression_same : (y : Expr-F ReadExpr ReadAddend) → SameReading (readings (trees y)) (coded (trees y))
expression_same (expr.Number n) = record { by = λ env calls operands. computed (whole (pos n)) calls operands }
expression_same (expr.Text t) = record { by = λ env calls operands. pushed (text_value t) calls operands }
expression_same expr.Null = record { by = λ env calls operands. pushed value.Null calls operands }
expression_same (expr.Boolean b) = record { by = λ env calls operands. pushed (value.Bool b) calls operands }
expression_same (expr.Name path) = record { by = λ env calls operands. named (meant env path) env calls operands }
expression_same (expr.Call path l) = record { by = λ env calls operands. calls_same (builtin_at path.name path.member) path (all_read l) env calls operands }
expression_same (expr.Row i c) = record { by = λ env calls operands. of_row i (column_place env c) calls operands }
expression_same expr.SqlCode = record { by = λ env calls operands. of_handler env.handlers calls operands }
expression_same (expr.Firing o) = record { by = λ env calls operands. by_operation (does.Firing o) _ calls operands operands (λ next more h σ. in_row_pushes (λ r. value.Bool (same_op o r.op)) next more calls operands h σ) }
expression_same (expr.Attribute c a) = record { by = λ env calls operands. of_attribute c a env calls operands }
expression_same (expr.Quotient a b) = behind a (λ env calls x. of_two op.Quotient x (reading_of b.0) env calls) (λ env. right_code op.Quotient (expr_code b.0 env)) (right_of op.Quotient b)
expression_same (expr.Plus a) =
    behind a (λ env calls x. on_value (unsigned x)) (λ env. Do does.Unsigned ∷ []) (λ env calls operands x.
    by_operation does.Unsigned (on_value (unsigned x)) calls (x ∷ operands) operands (λ next more h σ. value_pushes (unsigned x) next more calls operands h σ))
expression_same (expr.Minus a) = record { by = λ env calls operands. one_same builtin.Negate (reading_of a.0) (expr_code a.0 env) env calls operands (a.1.by env calls operands) }
expression_same (expr.Product a l) =
    behind a (λ env calls x. further op.Multiply (map reading_of (map (λ e. e.0) l)) x env calls) (λ env. further_code op.Multiply (map expr_code (map (λ e. e.0) l)) env)
    (λ env calls operands x. further_same op.Multiply (all_read l) x env calls operands)
expression_same (expr.Sum a l) =
    behind a (λ env calls x. summed (map term_of (map (λ e. e.0) l)) x env calls) (λ env. summed_code (map term_code (map (λ e. e.0) l)) env)
    (λ env calls operands x. summed_same (all_terms l) x env calls operands)
expression_same (expr.Compare c a b) = behind a (λ env calls x. of_two (compared_by c) x (reading_of b.0) env calls) (λ env. right_code (compared_by c) (expr_code b.0 env)) (right_of (compared_by c) b)
expression_same (expr.IsNull a negated) = record {
  by = λ env calls operands.
      let c = expr_code a.0 env in
      recoded (append_assoc c (Do (does.Function builtin.IsNull 1) ∷ []) (not_code negated))
      (or_not negated (of_one builtin.IsNull (reading_of a.0) env calls) (c ++ Do (does.Function builtin.IsNull 1) ∷ []) calls operands operands (one_same builtin.IsNull (reading_of a.0) c env calls operands (a.1.by env calls operands)));
}
expression_same (expr.Between x a b negated) =
    behind x (λ env calls v next. between v (reading_of a.0) (reading_of b.0) env calls (not_if negated next)) (λ env. between_code (expr_code a.0 env) (expr_code b.0 env) ++ not_code negated) (λ env calls operands v.
    or_not negated _ (between_code (expr_code a.0 env) (expr_code b.0 env)) calls (v ∷ operands) operands (between_same v (reading_of a.0) (reading_of b.0) (expr_code a.0) (expr_code b.0) a.1 b.1 env calls operands))
expression_same (expr.In x l negated) =
    let rs = map reading_of (map (λ e. e.0) l) in
    let cs = map expr_code (map (λ e. e.0) l) in
    behind x (λ env calls v next. among v rs (value.Bool false) env calls (not_if negated next)) (λ env. Do (does.Push (value.Bool false)) ∷ (among_code cs env ++ not_code negated)) (λ env calls operands v.
    behind_operation (does.Push (value.Bool false)) _ (among_code cs env ++ not_code negated) calls (v ∷ operands) (value.Bool false ∷ v ∷ operands) operands (λ σ. refl)
    (or_not negated _ (among_code cs env) calls (value.Bool false ∷ v ∷ operands) operands (among_same v (all_read l) (value.Bool false) env calls operands)))
expression_same (expr.Like a b negated) =
    behind a (λ env calls x next. of_two op.Like x (reading_of b.0) env calls (not_if negated next)) (λ env. right_code op.Like (expr_code b.0 env) ++ not_code negated) (λ env calls operands x.
    or_not negated _ (right_code op.Like (expr_code b.0 env)) calls (x ∷ operands) operands (right_of op.Like b env calls operands x))
expression_same (expr.Not a) = record { by = λ env calls operands. one_same builtin.Not (reading_of a.0) (expr_code a.0 env) env calls operands (a.1.by env calls operands) }
expression_same (expr.And a l) =
    behind a (λ env calls x. further op.And (map reading_of (map (λ e. e.0) l)) x env calls) (λ env. further_code op.And (map expr_code (map (λ e. e.0) l)) env)
    (λ env calls operands x. further_same op.And (all_read l) x env calls operands)
expression_same (expr.Or a l) =
    behind a (λ env calls x. further op.Or (map reading_of (map (λ e. e.0) l)) x env calls) (λ env. further_code op.Or (map expr_code (map (λ e. e.0) l)) env)
    (λ env calls operands x. further_same op.Or (all_read l) x env calls operands)
expression_same (expr.Place k) = record { by = λ env calls operands. nothing_known calls operands operands }
expression_same (expr.Bind k) = record { by = λ env calls operands. nothing_known calls operands operands }

-- ---- one layer of a tree

reading_of-roll : (d : Expr-F Expr Addend) → reading_of (roll-Expr d) ≡ readings d
unfolding reading_of term_of
reading_of-roll d = fold-roll-Expr Reading Term reads term d

term_of-roll : (d : Addend-F Expr Addend) → term_of (roll-Addend d) ≡ term (map-Addend Expr Addend Reading Term reading_of term_of d)
unfolding reading_of term_of
term_of-roll d = fold-roll-Addend Reading Term reads term d

expr_code-roll : (d : Expr-F Expr Addend) → expr_code (roll-Expr d) ≡ coded d
unfolding expr_code term_code
expr_code-roll d = fold-roll-Expr Coded codes.Term expr_codes term_codes d

term_code-roll : (d : Addend-F Expr Addend) → term_code (roll-Addend d) ≡ term_codes (map-Addend Expr Addend Coded codes.Term expr_code term_code d)
unfolding expr_code term_code
term_code-roll d = fold-roll-Addend Coded codes.Term expr_codes term_codes d

rolled : (d : Expr-F Expr Addend) → SameReading (readings d) (coded d) → IsRead (roll-Expr d)
rolled d s = subst (SameReading (reading_of (roll-Expr d))) (sym (expr_code-roll d)) (subst (λ r. SameReading r (coded d)) (sym (reading_of-roll d)) s)

term_same : (y : Addend-F ReadExpr ReadAddend) → IsTermRead (roll-Addend (map-Addend ReadExpr ReadAddend Expr Addend (λ e. e.0) (λ e. e.0) y))
term_same y =
    let d = map-Addend ReadExpr ReadAddend Expr Addend (λ e. e.0) (λ e. e.0) y in
    subst (SameTerm (term_of (roll-Addend d))) (sym (term_code-roll d))
    (subst (λ t. SameTerm t (term_codes (map-Addend Expr Addend Coded codes.Term expr_code term_code d))) (sym (term_of-roll d)) (record { operator = refl; operand = y.term.1 }))

pub expression_read : (e : Expr) → SameReading (reading_of e) (expr_code e)
expression_read = ind-Expr IsRead IsTermRead (λ x y e. subst (λ d. IsRead (roll-Expr d)) e (rolled _ (expression_same y))) (λ x y e. subst (λ d. IsTermRead (roll-Addend d)) e (term_same y))

-- What is done with the value of an expression is what the code behind its code does with it on the operands.
pub reading_same : (e : Expr) (env : Env) (calls : Calls) (σ : State) (operands : List Value) (more : List Instruction) (next : Then) → Goes next more calls operands
    → reading_of e env calls next σ ≡ run (expr_code e env ++ more) calls (with_operands operands σ)
reading_same e env calls σ operands more next h = ((expression_read e).by env calls operands).by next more h σ
