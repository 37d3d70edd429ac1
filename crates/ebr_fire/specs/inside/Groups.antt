-- How a group grows, object by object.
use Rattle.std.specs.Prelude.{ℕ, if◌then◌else◌, List, Option, Some, None, filter, fold}
use Rattle.std.specs.BTreeSet.{insert_key}
use Rattle.ebr_base.specs.declared.numbers.EditionNo.{EditionNo}
use Rattle.ebr_base.specs.declared.object.ObjectKey.{ObjectKey}
use Rattle.ebr_ast.specs.declared.view.Object.{Object}
use Rattle.ebr_editions.specs.Objects.{actual_object, is_in, keys_of}
use Rattle.ebr_cross.specs.Catalogue.{Lists, visible}
use Rattle.ebr_fire.specs.declared.firing.Stamped.{Stamped}
use Rattle.ebr_fire.specs.declared.kind.Kind.{Kind}
use Rattle.ebr_fire.specs.Fires.{is_fired, is_trigger_key, firing_order, stamped}

abbrev pub with_object : Kind → List ℕ → List Stamped → Object → List Stamped
with_object k on group o = if is_fired k on o then insert_key firing_order group (stamped o) else group

abbrev pub with_some : Kind → List ℕ → List Stamped → Option Object → List Stamped
with_some k on group None = group
with_some k on group (Some o) = with_object k on group o

-- with what is there under a key
abbrev pub with_key : (ObjectKey → Option Object) → Kind → List ℕ → List Stamped → ObjectKey → List Stamped
with_key at k on group key = if is_trigger_key key then with_some k on group (at key) else group

abbrev pub with_keys : (ObjectKey → Option Object) → Kind → List ℕ → List Stamped → List ObjectKey → List Stamped
with_keys at k on group keys = fold (with_key at k on) group keys

-- with what an edition sees under keys
abbrev pub with_seen : Lists → EditionNo → Kind → List ℕ → List Stamped → List ObjectKey → List Stamped
with_seen c e k on group keys = with_keys (λ key. visible c e key) k on group keys

-- with what is actual in an edition
abbrev pub with_edition : Lists → Kind → List ℕ → List Stamped → EditionNo → List Stamped
with_edition c k on group e = with_keys (λ key. actual_object c.entries e key) k on group (keys_of (filter (is_in e) c.entries))

abbrev pub with_editions : Lists → Kind → List ℕ → List Stamped → List EditionNo → List Stamped
with_editions c k on group es = fold (with_edition c k on) group es
