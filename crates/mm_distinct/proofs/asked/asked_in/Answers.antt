use Rattle.std.proofs.Common.{◌≡◌, length, is_some, ap, ◌∙◌, arith}
use Rattle.std.proofs.lemmas.Result.{IfOk-weaker}
use Rattle.mm_frame.proofs.Frames.VariableIndices.{variables_counted}
use Rattle.mm_frame.specs.Pieces.{variables_of}
use Rattle.mm_step.proofs.ByNumbers.NumberedSymbols.{part_within, no_hypothesis}
use Rattle.mm_proof.proofs.ProofNumbers.NamedAssertions.{pattern_asked, typing_asked}
use Rattle.mm_distinct.proofs.asked.asked_in.Goals as goal

pub said_of-requires : goal.said_of-requires
said_of-requires c =
    let xs = c.args.signature.now.hypotheses.now in
    let size : length (variables_of xs) ≡ length c.args.entries.now =
    variables_counted xs ∙ c.requires.entries in
    part_within _ _ xs _ _ c.args.number _ no_hypothesis size c.requires.patterns.1
    (omega (arith, c.requires.number, c.requires.entries)) (ap is_some c.in-None.is)
    c.pattern.ensures

pub returns-in-Some : goal.returns-in-Some
returns-in-Some c hypothesis there =
    IfOk-weaker c.typed_value.result _ _
    (λ asked is. is ∙ typing_asked c.args.entries.now _ _ _ _ hypothesis _ _ _
    c.requires.number there c.in-Some.is)
    c.typed_value.ensures

pub returns-in-None : goal.returns-in-None
returns-in-None c hypothesis there =
    IfOk-weaker c.said_of.result _ _
    (λ asked is. is ∙ pattern_asked _ _ _ c.args.number _ _ _ no_hypothesis hypothesis
    c.requires.patterns.1 there c.in-None.is c.pattern.ensures)
    c.said_of.ensures
