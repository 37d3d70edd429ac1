-- Locks that a transaction adds.
use Rattle.std.proofs.Common.{◌≡◌, Bool, true, false, cond, List, [], ◌∷◌, ◌++◌, map, Option, Some, None, refl, sym, ap, ◌∙◌, subst, append_assoc, append-nil}
use Rattle.std.proofs.lemmas.List.{map-append}
use Rattle.ebr_base.specs.declared.row.RowId.{RowId}
use Rattle.ebr_base.specs.declared.row.TxId.{TxId}
use Rattle.ebr_locks.specs.Locks.{Lock, after_take, holder_of}
use Rattle.ebr_versions.specs.Data.{changes_row}
use Rattle.ebr_tx.specs.Data.{Data, own}
use Rattle.ebr_tx.specs.Calls.{after_lock}
use Rattle.ebr_query.specs.Queries.{AddsLocks}

abbrev by_it : TxId → RowId → Lock
by_it t row = (row, t)

abbrev with_taken : Data → List Lock → Data
with_taken d taken = record d { locks = taken }

pub none-added : (d : Data) (t : TxId) → AddsLocks d t d
none-added d t = record { added = []; is = ap (with_taken d) (sym (append-nil d.locks)) }

taken-one : (d : Data) (t : TxId) (row : RowId) (b : Bool) (h : Option TxId) → AddsLocks d t (with_taken d (cond b d.locks (after_take h row t d.locks)))
taken-one d t row true h = none-added d t
taken-one d t row false None = record { added = row ∷ []; is = refl }
taken-one d t row false (Some by) = none-added d t

pub one-added : (d : Data) (t : TxId) (row : RowId) → AddsLocks d t (after_lock d t row)
one-added d t row = taken-one d t row (changes_row row (own d t).changes) (holder_of row d.locks)

pub both-added : (a b c : Data) (t : TxId) → AddsLocks a t b → AddsLocks b t c → AddsLocks a t c
both-added a b c t x y = record {
  added = x.added ++ y.added;
  is =
      y.is
      ∙ ap (λ (d : Data). with_taken d (d.locks ++ map (by_it t) y.added)) x.is
      ∙ ap (with_taken a) (append_assoc a.locks (map (by_it t) x.added) (map (by_it t) y.added) ∙ ap (λ more. a.locks ++ more) (sym (map-append (by_it t) x.added y.added)));
}

-- one row more
pub more-added : (a b c : Data) (t : TxId) (row : RowId) → AddsLocks a t b → c ≡ after_lock b t row → AddsLocks a t c
more-added a b c t row x e = both-added a b c t x (subst (AddsLocks b t) (sym e) (one-added b t row))

pub no-more-added : (a b c : Data) (t : TxId) → AddsLocks a t b → c ≡ b → AddsLocks a t c
no-more-added a b c t x e = subst (AddsLocks a t) (sym e) x
