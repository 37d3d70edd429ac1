-- What an edition sees, as it is handed down.
use Rattle.ebr_ast.specs.declared.view.EditionView.{EditionView}

pub record Visible : Type 0 where
  pub view : EditionView
