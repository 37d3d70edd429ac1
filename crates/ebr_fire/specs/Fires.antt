-- Which triggers a change of rows fires, in which order, and in which edition each body runs.
-- Oracle Database Development Guide 19c, Using Edition-Based Redefinition, Crossedition Triggers; Database PL/SQL Language
-- Reference 19c, Order in Which Triggers Fire. Which crossedition triggers fire, and the order, are own.
use Rattle.std.specs.Prelude.{ℕ, zero, suc, Bool, true, false, ◌&&◌, if◌then◌else◌, List, [], ◌∷◌, ◌++◌, map, filter, fold, Option, Some, None, is_some}
use Rattle.std.specs.List.{filter_map, flat_map, list_any}
use Rattle.std.specs.BTreeSet.{insert_key}
use Rattle.std.specs.Ordering.{nat_cmp, ordering_then}
use Rattle.std.specs.Str.{bytes_eq}
use Rattle.std.specs.declared.cmp.Ordering.{Ordering}
use Rattle.ebr_base.specs.declared.numbers.EditionNo.{EditionNo}
use Rattle.ebr_base.specs.declared.numbers.Stamp.{Stamp}
use Rattle.ebr_base.specs.declared.object.Class.{Class}
use Rattle.ebr_base.specs.declared.object.Class.TheVariants as class
use Rattle.ebr_base.specs.declared.object.ObjectKey.{ObjectKey}
use Rattle.ebr_base.specs.Keys.{key_order}
use Rattle.ebr_exprtree.specs.declared.op.Op.{Op}
use Rattle.ebr_exprtree.specs.declared.op.Op.TheVariants as op
use Rattle.ebr_ast.specs.declared.kinds.Origin.{Origin}
use Rattle.ebr_ast.specs.declared.kinds.Origin.TheVariants.{Plain, Forward, Reverse}
use Rattle.ebr_ast.specs.declared.kinds.Timing.{Timing}
use Rattle.ebr_ast.specs.declared.kinds.Timing.TheVariants as timing
use Rattle.ebr_ast.specs.declared.unit.Direction.{Direction}
use Rattle.ebr_ast.specs.declared.unit.Direction.TheVariants as direction
use Rattle.ebr_ast.specs.declared.unit.Trigger.{Trigger}
use Rattle.ebr_ast.specs.declared.unit.UnitTree.{UnitTree}
use Rattle.ebr_ast.specs.declared.unit.UnitTree.TheVariants as unit
use Rattle.ebr_ast.specs.declared.view.Object.{Object}
use Rattle.ebr_editions.specs.declared.entry.EditionEntry.{EditionEntry}
use Rattle.ebr_editions.specs.Editions.{child_of, parent_of, line_from, max_editions}
use Rattle.ebr_editions.specs.Objects.{actual_object, is_in, keys_of}
use Rattle.ebr_cross.specs.Catalogue.{Lists, visible}
use Rattle.ebr_cross.specs.Kinds.{unit_key}
use Rattle.ebr_fire.specs.declared.firing.Firing.{Firing}
use Rattle.ebr_fire.specs.declared.firing.Stamped.{Stamped}
use Rattle.ebr_fire.specs.declared.kind.Kind.{Kind}

-- WHICH TRIGGERS

abbrev pub same_op : Op → Op → Bool
same_op op.Insert op.Insert = true
same_op op.Update op.Update = true
same_op op.Delete op.Delete = true
same_op a b = false

abbrev pub same_timing : Timing → Timing → Bool
same_timing timing.Before timing.Before = true
same_timing timing.After timing.After = true
same_timing a b = false

abbrev pub same_direction : Option Direction → Option Direction → Bool
same_direction None None = true
same_direction (Some direction.Forward) (Some direction.Forward) = true
same_direction (Some direction.Reverse) (Some direction.Reverse) = true
same_direction a b = false

-- whether a trigger is of a kind and names this table or editioning view behind ON
abbrev pub stands_on : Kind → List ℕ → Trigger → Bool
stands_on k on t = bytes_eq on t.on && same_direction k.crossedition t.crossedition && same_timing k.timing t.timing && list_any (same_op k.op) t.events

abbrev pub is_trigger_on : Kind → List ℕ → UnitTree → Bool
is_trigger_on k on (unit.Trigger t) = stands_on k on t
is_trigger_on k on tree = false

-- Whether an object is an enabled trigger of a kind on a name. Of a trigger that ALTER TRIGGER changed, the text stays and
-- the object is enabled or not.
abbrev pub is_fired : Kind → List ℕ → Object → Bool
is_fired k on o = o.enabled && is_trigger_on k on o.tree

abbrev pub ordinary : Op → Timing → Kind
ordinary o t = record { crossedition = None; op = o; timing = t }

abbrev pub forward : Op → Timing → Kind
forward o t = record { crossedition = Some direction.Forward; op = o; timing = t }

abbrev pub reverse : Op → Timing → Kind
reverse o t = record { crossedition = Some direction.Reverse; op = o; timing = t }

abbrev pub is_trigger_key : ObjectKey → Bool
is_trigger_key key = is_trigger_class key.class
  where
    is_trigger_class : Class → Bool
    is_trigger_class class.Trigger = true
    is_trigger_class c = false

-- the triggers that an edition sees
abbrev pub seen_triggers : Lists → EditionNo → List Object
seen_triggers c e = filter_map (λ key. visible c e key) (filter is_trigger_key (keys_of c.entries))

-- the triggers that are actual in an edition itself
abbrev pub actual_triggers : Lists → EditionNo → List Object
actual_triggers c e = filter_map (λ key. actual_object c.entries e key) (filter is_trigger_key (keys_of (filter (is_in e) c.entries)))

-- EDITIONS

-- at most n living editions of the line that begins with this one: itself, its child, and so on down
abbrev pub line_down : List EditionEntry → ℕ → Option EditionNo → List EditionNo
line_down made zero e = []
line_down made (suc n) None = []
line_down made (suc n) (Some e) = e ∷ line_down made n (child_of made e)

-- The strict descendants of an edition that live. No more than 256 editions live.
abbrev pub descendants : List EditionEntry → EditionNo → List EditionNo
descendants made e = line_down made max_editions (child_of made e)

-- the strict ancestors of an edition
abbrev pub ancestors : List EditionEntry → EditionNo → List EditionNo
ancestors made e = line_from made (parent_of made e)

-- the triggers that are actual in one of these editions
abbrev pub actual_among : Lists → List EditionNo → List Object
actual_among c es = flat_map (actual_triggers c) es

-- ORDER

abbrev pub stamped : Object → Stamped
stamped o = record { stamp = o.stamp; key = o.key }

abbrev pub stamp_order : Stamp → Stamp → Ordering
stamp_order a b = ordering_then (nat_cmp a.edition.0 b.edition.0) (nat_cmp a.count b.count)

-- By the number of the edition in which a trigger is actual, and then by the count of its definitions. No two definitions
-- have one stamp, so the key decides nothing.
abbrev pub firing_order : Stamped → Stamped → Ordering
firing_order a b = ordering_then (stamp_order a.stamp b.stamp) (key_order a.key b.key)

unfoldable pub in_order : List Stamped → List Stamped
in_order triggers = fold (insert_key firing_order) [] triggers

-- A body runs in the edition of the change, that of a crossedition trigger in the edition in which it is actual: its stamp
-- tells which.
abbrev pub run_edition : Option Direction → EditionNo → Stamp → EditionNo
run_edition None e s = e
run_edition (Some d) e s = s.edition

abbrev pub firing : Option Direction → EditionNo → Stamped → Firing
firing d e t = record { key = t.key; edition = run_edition d e t.stamp }

-- the firings of one group: the enabled triggers of a kind on a name among these objects, in order
abbrev pub group : EditionNo → Kind → List ℕ → List Object → List Firing
group e k on objects = map (firing k.crossedition e) (in_order (map stamped (filter (is_fired k on) objects)))

-- GROUPS

-- The crossedition triggers that a change of a table's rows fires. A change by a session or an ordinary body fires the
-- reverse ones that its edition sees, and then each forward one that is actual in a strict descendant. One by the body of
-- a crossedition trigger fires only those of the same direction, further along.
abbrev pub Crossing : Lists → EditionNo → List ℕ → Op → Timing → Origin → List Firing
Crossing c e table o t Plain =
    group e (reverse o t) table (seen_triggers c e) ++ group e (forward o t) table (actual_among c (descendants c.editions.made e))
Crossing c e table o t Forward = group e (forward o t) table (actual_among c (descendants c.editions.made e))
Crossing c e table o t Reverse = group e (reverse o t) table (actual_among c (ancestors c.editions.made e))

-- the ordinary triggers on a name that the edition sees; the body of a crossedition trigger fires none
abbrev pub ordinary_on : Lists → EditionNo → List ℕ → Op → Timing → Origin → List Firing
ordinary_on c e on o t Plain = group e (ordinary o t) on (seen_triggers c e)
ordinary_on c e on o t Forward = []
ordinary_on c e on o t Reverse = []

-- The ordinary triggers on a table: the name behind their ON means the table where the edition sees no object of it.
abbrev pub ordinary_on_table : Lists → EditionNo → List ℕ → Op → Timing → Origin → List Firing
ordinary_on_table c e table o t from = if is_some (visible c e (unit_key table)) then [] else ordinary_on c e table o t from

-- what a change of a table's rows fires: the ordinary triggers on the table, and then the crossedition triggers on it
abbrev pub on_table : Lists → EditionNo → List ℕ → Op → Timing → Origin → List Firing
on_table c e table o t from = ordinary_on_table c e table o t from ++ Crossing c e table o t from

-- Behind an editioning view the triggers on the view go first, and then come those on its table. No other object has rows.
abbrev pub on_object : Lists → EditionNo → UnitTree → List ℕ → Op → Timing → Origin → List Firing
on_object c e (unit.View v) named o t from = ordinary_on c e named o t from ++ on_table c e v.table o t from
on_object c e tree named o t from = []

abbrev pub on_name : Lists → EditionNo → Option Object → List ℕ → Op → Timing → Origin → List Firing
on_name c e (Some object) named o t from = on_object c e object.tree named o t from
on_name c e None named o t from = on_table c e named o t from

-- What an INSERT, UPDATE or DELETE of this name fires in an edition, for one timing: the triggers on the editioning view that
-- it names, the ordinary ones on the table, the reverse crossedition ones, the forward ones, each group in the order of
-- stamps. A name under which the edition sees no object is a table's; whether there is such a table isn't asked here.
abbrev pub Fires : Lists → EditionNo → List ℕ → Op → Timing → Origin → List Firing
Fires c e named o t from = on_name c e (visible c e (unit_key named)) named o t from
