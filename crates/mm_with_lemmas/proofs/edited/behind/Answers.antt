-- The first part, and then the second.
use Rattle.std.proofs.lemmas.Bool.Decides.{Decides-eqb}
use Rattle.std.proofs.lemmas.Slice.Eq.{strip_prefix_is}
use Rattle.std.proofs.Common.{Some}
use Rattle.mm_with_lemmas.proofs.EditedBytes.{behind_both}
use Rattle.mm_with_lemmas.proofs.edited.behind.Goals as goal

pub returns-in-Some : goal.returns-in-Some
returns-in-Some c =
    behind_both c.args.bytes.now c.args.kept.now c.in-Some.others.now c.args.text.now
    c.strip_prefix-in-Some.result
    (strip_prefix_is Decides-eqb c.args.bytes.now c.args.kept.now (Some c.in-Some.others)
    c.in-Some.ensures.cases)
    (strip_prefix_is Decides-eqb c.in-Some.others.now c.args.text.now
    c.strip_prefix-in-Some.result c.strip_prefix-in-Some.ensures.cases)
