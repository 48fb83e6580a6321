use Rattle.mm_text.proofs.Reader.OneReading.{faults_end_longest_prefixes}
use Rattle.mm_text.proofs.laws.faults_end_longest_prefixes.Goals as goal

pub returns : goal.returns
returns c = faults_end_longest_prefixes
