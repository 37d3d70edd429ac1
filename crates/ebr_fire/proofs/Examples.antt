-- What fires in a line of three editions, computed.
use Rattle.std.proofs.Common.{◌≡◌, ℕ, true, List, [], ◌∷◌, codes, Option, Some, None, refl}
use Rattle.ebr_base.specs.declared.numbers.EditionNo.{EditionNo}
use Rattle.ebr_base.specs.declared.object.Class.TheVariants as class
use Rattle.ebr_exprtree.specs.declared.op.Op.TheVariants as op
use Rattle.ebr_ast.specs.declared.kinds.Origin.TheVariants.{Plain, Forward, Reverse}
use Rattle.ebr_ast.specs.declared.kinds.Timing.TheVariants as timing
use Rattle.ebr_ast.specs.declared.statement.Block.{Block}
use Rattle.ebr_ast.specs.declared.unit.Direction.{Direction}
use Rattle.ebr_ast.specs.declared.unit.Direction.TheVariants as direction
use Rattle.ebr_ast.specs.declared.unit.UnitTree.TheVariants as unit
use Rattle.ebr_ast.specs.declared.view.Object.{Object}
use Rattle.ebr_editions.specs.declared.entry.EditionEntry.{EditionEntry}
use Rattle.ebr_editions.specs.Objects.{ObjectEntry}
use Rattle.ebr_cross.specs.Catalogue.{Lists}
use Rattle.ebr_fire.specs.declared.firing.Firing.{Firing}
use Rattle.ebr_fire.specs.Fires.{Fires, in_order}

abbrev edition : ℕ → EditionNo
edition n = record { 0 = n }

abbrev made : List EditionEntry
made =
    record { number = edition 1; name = codes "ORA$BASE"; parent = None; living = true }
    ∷ record { number = edition 2; name = codes "V2"; parent = Some (edition 1); living = true }
    ∷ record { number = edition 3; name = codes "V3"; parent = Some (edition 2); living = true }
    ∷ []

abbrev fired : List ℕ → ℕ → Firing
fired name n = record { key = record { class = class.Trigger; name = name }; edition = edition n }

module _ (body : Block) where
  -- BEFORE INSERT ON T, defined in an edition with this stamp there
  abbrev trigger : List ℕ → ℕ → ℕ → Option Direction → Object
  trigger name n count d = record {
    key = record { class = class.Trigger; name = name };
    text = [];
    tree = unit.Trigger (record { name = name; timing = timing.Before; events = op.Insert ∷ []; on = codes "T"; crossedition = d; enabled = true; body = body });
    stamp = record { edition = edition n; count = count };
    enabled = true;
  }

  abbrev entry : Object → ObjectEntry Object
  entry o = record { edition = o.stamp.edition; key = o.key; object = Some o; stamp = o.stamp }

  -- an ordinary trigger in the first edition, forward ones in the third and in the second, and a reverse one in the second
  abbrev lists : Lists
  lists = record {
    editions = record { made = made; default = edition 1 };
    entries =
        entry (trigger (codes "O") 1 1 None)
        ∷ entry (trigger (codes "UP3") 3 1 (Some direction.Forward))
        ∷ entry (trigger (codes "UP2") 2 1 (Some direction.Forward))
        ∷ entry (trigger (codes "BACK2") 2 2 (Some direction.Reverse))
        ∷ [];
    tables = record { made = 0; living = [] };
  }

  above : Fires lists (edition 1) (codes "T") op.Insert timing.Before Plain ≡ fired (codes "O") 1 ∷ fired (codes "UP2") 2 ∷ fired (codes "UP3") 3 ∷ []
  unfolding in_order
  above = refl

  between : Fires lists (edition 2) (codes "T") op.Insert timing.Before Plain ≡ fired (codes "O") 2 ∷ fired (codes "BACK2") 2 ∷ fired (codes "UP3") 3 ∷ []
  unfolding in_order
  between = refl

  below : Fires lists (edition 3) (codes "T") op.Insert timing.Before Plain ≡ fired (codes "O") 3 ∷ fired (codes "BACK2") 2 ∷ []
  unfolding in_order
  below = refl

  from_forward : Fires lists (edition 2) (codes "T") op.Insert timing.Before Forward ≡ fired (codes "UP3") 3 ∷ []
  unfolding in_order
  from_forward = refl

  from_reverse : Fires lists (edition 3) (codes "T") op.Insert timing.Before Reverse ≡ fired (codes "BACK2") 2 ∷ []
  unfolding in_order
  from_reverse = refl

  other_operation : Fires lists (edition 1) (codes "T") op.Update timing.Before Plain ≡ []
  unfolding in_order
  other_operation = refl
