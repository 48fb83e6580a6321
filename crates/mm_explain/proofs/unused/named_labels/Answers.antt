-- One code more names one label more, or none.
use Rattle.std.proofs.Common.{◌≡◌, ℕ, List, nat_eq, take, subst}
use Rattle.std.proofs.lemmas.List.{map_more, take_all}
use Rattle.indexmap.specs.IndexSet.{contains}
use Rattle.mm_code.specs.declared.code.Code.{Code}
use Rattle.mm_step.specs.Plain.{ids_in}
use Rattle.mm_proof.specs.Mirror.CodeSteps.{code_move, moves_of}
use Rattle.mm_explain.specs.Unused.{is_named}
use Rattle.mm_explain.proofs.UnusedLabels.{named_more}
use Rattle.mm_explain.proofs.unused.named_labels.Goals as goal

pub loop-code-preserved : goal.loop-code-preserved
loop-code-preserved c = λ id.
    let ids = ids_in c.args.entries.now in
    named_more _ (moves_of c.args.entries.now (take c.loop-code.code-index c.args.said.now)) _ id
    _ _
    (map_more (code_move ids) c.args.said.now c.loop-code.code-index _ c.loop-code-test.true)
    (c.loop-code.invariant id) (c.in_ok-put_named.ensures id)

pub returns : goal.returns
returns c =
    subst (λ (said : List Code). (id : ℕ) → contains nat_eq c.loop-code.named id
    ≡ is_named nat_eq (moves_of c.args.entries.now said) id)
    (take_all c.loop-code.code-index c.args.said.now c.loop-code-test.false)
    c.loop-code.invariant
