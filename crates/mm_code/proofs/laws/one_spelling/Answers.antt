use Rattle.mm_code.proofs.OneSpelling.{some_spelling, one_spelling_only, one_number}
use Rattle.mm_code.proofs.laws.one_spelling.Goals as goal

pub returns : goal.returns
returns c = record { some = some_spelling; only = one_spelling_only; number = one_number }
