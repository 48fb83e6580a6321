use Rattle.mm_frame.proofs.Names.LabelNumbers.{one_number_holds}
use Rattle.mm_frame.proofs.laws.one_number.Goals as goal

pub returns : goal.returns
returns c = one_number_holds
