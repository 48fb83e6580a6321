use Rattle.std.proofs.lemmas.Bool.{false≢true}
use Rattle.std.proofs.Common.{◌∷◌, [], refl, sym, ap, inr, ◌∙◌, arith}
use Rattle.mm_proof.proofs.ProofVerdicts.JudgedMoves.{only_entry, same_fault}
use Rattle.mm_proof.proofs.judge.ending.Goals as goal

pub returns-then-not-is_same-clause-fault : goal.returns-then-not-is_same-clause-fault
returns-then-not-is_same-clause-fault g c rule at is =
    let told = same_fault _ rule _ at (sym c.fault_at_step-then-not-is_same.ensures ∙ is) in
    (told.1, inr (told.0, _, only_entry (g.S.Store.stack c.args.store.now) _ (omega arith) c.at.ensures, λ same. false≢true (c.if-not-is_same.ensures.1 same)))

pub returns-clause-ok : goal.returns-clause-ok
returns-clause-ok g c =
    only_entry (g.S.Store.stack c.args.store.now) _ (omega arith) c.at.ensures ∙ ap (λ e. e ∷ []) (c.if-not-is_same.ensures.0 refl)
