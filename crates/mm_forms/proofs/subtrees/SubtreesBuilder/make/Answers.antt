use Rattle.mm_forms.proofs.PackedProofs.SubtreeNumbers.{subtrees_make}
use Rattle.mm_forms.proofs.subtrees.SubtreesBuilder.make.Goals as goal

pub returns-clause-made : goal.returns-clause-made
returns-clause-made c first st stack shelf rest below kept steps label named many h =
    subtrees_make st first c.args.self.now c.number_row.new.self stack c.args.below.now shelf _ rest below kept label
    (c.in_ok-below.ensures.number st) c.in_ok-below.ensures.kept c.in_ok-below.ensures.once named many h
