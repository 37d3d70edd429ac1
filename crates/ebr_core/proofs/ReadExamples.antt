-- The catalogue of records, tried on examples.
use Rattle.std.proofs.Common.{◌≡◌, true, false, List, [], ◌∷◌, ◌++◌, Some, None, refl}
use Rattle.std.specs.Prelude.{codes}
use Rattle.ebr_base.specs.declared.numbers.EditionNo.{EditionNo}
use Rattle.ebr_base.specs.declared.numbers.TableId.{TableId}
use Rattle.ebr_base.specs.declared.object.Class.TheVariants as class
use Rattle.ebr_base.specs.declared.table.Column.{Column}
use Rattle.ebr_base.specs.declared.value.ColType.TheVariants.{Num, Text}
use Rattle.ebr_record.specs.declared.record.DroppedClass.TheVariants as dropped
use Rattle.ebr_record.specs.declared.record.Record.{Record}
use Rattle.ebr_record.specs.declared.record.Record.TheVariants.{Commit, Edition, Default, Gone, Table, Column as More, TableGone}
use Rattle.ebr_database.specs.Database.{tables_from}
use Rattle.ebr_core.specs.Records.{catalogue_of}

abbrev numbered : EditionNo
numbered = record { 0 = 2 }

abbrev first : EditionNo
first = record { 0 = 1 }

abbrev id : Column
id = record { name = codes "ID"; ty = Num 18; not_null = true }

abbrev note : Column
note = record { name = codes "NOTE"; ty = Text 40; not_null = false }

abbrev t : TableId
t = record { 0 = 1 }

abbrev u : TableId
u = record { 0 = 2 }

-- CREATE TABLE t, CREATE TABLE u, ALTER TABLE t ADD, a commit, DROP TABLE u: the second table had the id 2, and the data has both.
abbrev tables : List Record
tables = Table (codes "T") (id ∷ []) (0 ∷ []) ∷ Table (codes "U") (id ∷ []) [] ∷ More t note ∷ Commit [] ∷ []

two_tables : (catalogue_of tables).tables
    ≡ record {
      made = 2;
      living = record { id = t; name = codes "T"; columns = id ∷ note ∷ []; key = 0 ∷ [] } ∷ record { id = u; name = codes "U"; columns = id ∷ []; key = [] } ∷ [];
    }
two_tables = refl

one_table : (catalogue_of (tables ++ TableGone u ∷ [])).tables
    ≡ record { made = 2; living = record { id = t; name = codes "T"; columns = id ∷ note ∷ []; key = 0 ∷ [] } ∷ [] }
one_table = refl

both_added : tables_from 0 (tables ++ TableGone u ∷ []) ≡ record { id = t; key = 0 ∷ [] } ∷ record { id = u; key = [] } ∷ []
both_added = refl

-- CREATE EDITION below the first one, and then it is the default
a_child : (catalogue_of (Edition (codes "V2") first ∷ Default numbered ∷ [])).editions
    ≡ record {
      made = record { number = first; name = codes "ORA$BASE"; parent = None; living = true } ∷ record { number = numbered; name = codes "V2"; parent = Some first; living = true } ∷ [];
      default = numbered;
    }
a_child = refl

-- the drop of a trigger hides the name in that class alone
a_drop : (catalogue_of (Gone numbered dropped.Trigger (codes "R") ∷ [])).entries
    ≡ record { edition = numbered; key = record { class = class.Trigger; name = codes "R" }; object = None; stamp = record { edition = numbered; count = 1 } } ∷ []
a_drop = refl
