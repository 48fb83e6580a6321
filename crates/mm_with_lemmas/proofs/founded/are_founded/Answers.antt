-- By the proofs of both checked databases.
use Rattle.std.proofs.Common.{ap, subst}
use Rattle.std.proofs.lemmas.Result.{IfOk-weaker}
use Rattle.mm_rules.specs.Conclusion.{Conclusion}
use Rattle.mm_verdict.proofs.Verdicts.AcceptedStatements.{KeptWell}
use Rattle.mm_with_lemmas.proofs.FoundedTheorems.{founded_all}
use Rattle.mm_with_lemmas.proofs.founded.are_founded.Goals as goal

pub are_proofs_founded-are-requires : goal.are_proofs_founded-are-requires
are_proofs_founded-are-requires c = record {
  old_tables = c.in_ok-old_tables.ensures;
  new_tables = c.in_ok-new_tables.ensures;
  formers =
      rw (
        ap (λ (v : Conclusion). v.sentences) c.old.view_is,
        ap (λ (v : Conclusion). v.sentences) c.new.view_is,
      ) at c.in_ok-formers.ensures;
}

pub returns : goal.returns
returns c =
    IfOk-weaker c.are_proofs_founded-are.result _ _
    (λ are h t statements others reads reads_too.
    founded_all c.args.old.now c.args.new.now statements others
    (subst KeptWell c.old.view_is c.old.invariant) (subst KeptWell c.new.view_is c.new.invariant)
    reads reads_too (h t))
    c.are_proofs_founded-are.ensures
