-- The test finds the number where it stands.
use Rattle.mm_rules.proofs.KeptNumbers.LabelsAmong.{any_among}
use Rattle.mm_rules.proofs.kept.is_among.Goals as goal

pub returns : goal.returns
returns c = any_among c.args.numbers.now c.args.id c.contains.result c.contains.ensures.value
