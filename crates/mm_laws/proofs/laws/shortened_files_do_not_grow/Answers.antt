use Rattle.mm_laws.proofs.SavingLaws.ShortenedProofs.{all_shortened_no_longer}
use Rattle.mm_laws.proofs.laws.shortened_files_do_not_grow.Goals as goal

pub returns : goal.returns
returns c = all_shortened_no_longer
