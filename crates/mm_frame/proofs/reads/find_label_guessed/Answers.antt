use Rattle.mm_frame.proofs.Rules.SymbolLookups.{label_number}
use Rattle.mm_frame.proofs.reads.find_label_guessed.Goals as goal

pub returns-in-None : goal.returns-in-None
returns-in-None c some =
    (rw c.in-None.is at c.find_guessed.ensures)
    ((label_number _ _ c.args.label.now c.requires.labels.all).0 some)
