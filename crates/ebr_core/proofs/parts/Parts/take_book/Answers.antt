use Rattle.std.proofs.Common.{List, length, ap, ◌∙◌}
use Rattle.std.specs.Prelude.{Option, None}
use Rattle.ebr_ast.specs.declared.view.EditionView.{EditionView}
use Rattle.ebr_core.proofs.Answering.{sound_on}
use Rattle.ebr_core.proofs.Books.{as_many}
use Rattle.ebr_core.proofs.parts.Parts.take_book.Goals as goal

pub returns-clause-sound : goal.returns-clause-sound
returns-clause-sound g c =
    record {
      sound = sound_on g.K.Keep.as_keeper c.args.self.now c.take_at.new.books (ap (λ (bs : List (Option EditionView)). length bs) c.take_at.ensures.taken ∙ as_many c.args.self.now.books.items c.args.s.0 None) c.requires.sound;
      fit = c.requires.fit;
    }
