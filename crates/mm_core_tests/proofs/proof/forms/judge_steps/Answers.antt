-- What is proved makes one tree.
use Rattle.mm_core_tests.proofs.proof.forms.judge_steps.Goals as goal

pub returns : goal.returns
returns c = record {
  makes = λ index s moves proof numbered.
      let p = (c.in_ok-_used.ensures.proved c.requires.whole index s moves proof numbered).0 in
      (p.label, p.below, record { kept = p.kept; made = p.made });
}
