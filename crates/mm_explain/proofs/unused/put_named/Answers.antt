-- The label that the code names is put into the set, if the code names one.
use Rattle.std.proofs.Common.{◌≡◌, ◌-◌, Some, length, slice_get, sym, ap, ◌∙◌, arith}
use Rattle.std.proofs.lemmas.Bool.{ltb-false}
use Rattle.std.proofs.lemmas.Bool.Decides.{Decides-ltb}
use Rattle.std.proofs.lemmas.Option.{slice_get_past}
use Rattle.std.proofs.lemmas.List.{length-map}
use Rattle.mm_frame.specs.declared.number.LabelId.{LabelId}
use Rattle.mm_step.specs.Plain.{ids_in}
use Rattle.mm_step.proofs.ByNumbers.CalledAssertions.{entry_at}
use Rattle.mm_proof.specs.Mirror.CodeSteps.{code_move, move_by}
use Rattle.mm_proof.proofs.ProofTokens.ProofCodes.{entry_moves}
use Rattle.mm_explain.proofs.UnusedLabels.{put_more, put_none}
use Rattle.mm_explain.proofs.unused.put_named.Goals as goal

pub returns-in_ok-insert-in-Some : goal.returns-in_ok-insert-in-Some
returns-in_ok-insert-in-Some c = λ id.
    let ids = ids_in c.args.entries.now in
    let index = c.saturating_sub.result in
    let less = (Decides-ltb index _).0 (sym c.in-Some.ensures.lookup.0) in
    let there : slice_get ids index ≡ Some c.in-Some.id.now.0 =
    entry_at c.args.entries.now index c.in-Some.id.now less
    ∙ ap (λ (k : LabelId). Some k.0) (sym c.in-Some.ensures.lookup.1) in
    let at : index ≡ c.in-Number.number - 1 = c.saturating_sub.ensures in
    put_more c.in-Some.id.now.0 id _ _ (code_move ids c.args.code.now)
    (c.in_ok-insert-in-Some.ensures.updates.0 id)
    (ap (code_move ids) c.in-Number.is
    ∙ entry_moves ids (c.in-Number.number - 1) c.in-Some.id.now.0
    (ap (slice_get ids) (sym at) ∙ there))

pub returns-in-None : goal.returns-in-None
returns-in-None c = λ id.
    let ids = ids_in c.args.entries.now in
    let index = c.saturating_sub.result in
    let at : index ≡ c.in-Number.number - 1 = c.saturating_sub.ensures in
    let past = ltb-false index _ (sym c.in-None.ensures.lookup.0) in
    put_none id _ (code_move ids c.args.code.now) (c.in-Number.number - 1 - length ids)
    (ap (code_move ids) c.in-Number.is
    ∙ ap (λ o. move_by o (c.in-Number.number - 1 - length ids))
    (ap (slice_get ids) (sym at)
    ∙ slice_get_past ids index
    (omega (arith, past, length-map c.args.entries.now (λ (i : LabelId). i.0)))))
