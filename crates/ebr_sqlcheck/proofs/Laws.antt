-- What is found of an expression at one layer.
use Rattle.std.proofs.Common.{◌≡◌, List, map, length}
use Rattle.std.proofs.lemmas.List.{length-map}
use Rattle.ebr_exprtree.specs.declared.expression.Addend.{Addend, out-Addend}
use Rattle.ebr_exprtree.specs.declared.expression.Expr.{Expr, out-Expr}
use Rattle.ebr_exprtree.specs.declared.expression.Expr.TheFolds.{fold_out-Expr, fold_out-Addend, map-Expr, map-Addend}
use Rattle.ebr_sqlcheck.specs.Checked.{Checked}
use Rattle.ebr_sqlcheck.specs.Sources.{Relation}
use Rattle.ebr_sqlcheck.specs.Names.{Others, names_in, names_form, names_term}
use Rattle.ebr_sqlcheck.specs.inside.Terms.{names_in_term, typed_term}
use Rattle.ebr_sqlcheck.specs.Operands.{Typed, Term, typed, type_form, type_term}

pub names_in-out : (relations : List Relation) (others : Others) (e : Expr) → names_in relations others e
    ≡ names_form relations others (map-Expr Expr Addend Checked Checked (names_in relations others) (names_in_term relations others) (out-Expr e))
unfolding names_in names_in_term
names_in-out relations others e = fold_out-Expr Checked Checked (names_form relations others) names_term e

pub names_in_term-out : (relations : List Relation) (others : Others) (t : Addend) → names_in_term relations others t
    ≡ names_term (map-Addend Expr Addend Checked Checked (names_in relations others) (names_in_term relations others) (out-Addend t))
unfolding names_in names_in_term
names_in_term-out relations others t = fold_out-Addend Checked Checked (names_form relations others) names_term t

pub typed-out : (relations : List Relation) (others : Others) (e : Expr) → typed relations others e
    ≡ type_form relations others (map-Expr Expr Addend Typed Term (typed relations others) (typed_term relations others) (out-Expr e))
unfolding typed typed_term
typed-out relations others e = fold_out-Expr Typed Term (type_form relations others) type_term e

pub typed_term-out : (relations : List Relation) (others : Others) (t : Addend) → typed_term relations others t
    ≡ type_term (map-Addend Expr Addend Typed Term (typed relations others) (typed_term relations others) (out-Addend t))
unfolding typed typed_term
typed_term-out relations others t = fold_out-Addend Typed Term (type_form relations others) type_term t

pub mapped_length : {A B : Type 0} (f : A → B) (xs : List A) → length (map f xs) ≡ length xs
mapped_length f xs = length-map xs f
