-- By the remarks on both checked databases.
use Rattle.std.proofs.Common.{ap, subst}
use Rattle.mm_rules.specs.Conclusion.{Conclusion}
use Rattle.mm_verdict.proofs.Verdicts.AcceptedStatements.{KeptWell}
use Rattle.mm_with_lemmas.proofs.KeptRemarks.{remarks_kept}
use Rattle.mm_with_lemmas.proofs.remarked.are_remarks_kept.Goals as goal

pub returns : goal.returns
returns c = λ t statements others reads reads_too.
    remarks_kept c.args.old.now c.args.new.now c.in_ok-old_remarks.old_remarks.items
    c.args.remarks.now statements others (subst KeptWell c.old.view_is c.old.invariant)
    (subst KeptWell c.new.view_is c.new.invariant) c.in_ok-old_remarks.ensures c.requires
    (rw (
      c.deref.ensures.value,
      ap (λ (v : Conclusion). v.sentences) c.old.view_is,
      ap (λ (v : Conclusion). v.sentences) c.new.view_is,
    ) at (c.are_all_kept-are.ensures t)) reads reads_too
