-- The letters say codes, so they break no rule.
use Rattle.std.proofs.Common.{◌≡◌, ◌∙◌, ℕ, List, Ok, Err, Result, flat_map, ap, subst, sym}
use Rattle.std.specs.Global.{Vec}
use Rattle.mm_code.specs.declared.code.Code.{Code}
use Rattle.mm_code.specs.declared.code.CodeFault.{CodeFault}
use Rattle.mm_code.specs.Letters.{Answers, Letters, joined_tokens}
use Rattle.mm_step.specs.Plain.{token_texts}
use Rattle.mm_proof.proofs.ProofTokens.ProofCodes.{joined_texts}
use Rattle.mm_places.proofs.letters.codes_of.Goals as goal

pub unreachable-requires : goal.unreachable-requires
unreachable-requires c =
    let (said, letters) = c.requires in
    let joined : joined_tokens c.deref.result.now
    ≡ flat_map (λ p. p) (token_texts c.args.pieces.now) =
    joined_texts c.deref.result.now
    ∙ ap (flat_map (λ (p : List ℕ). p))
    (rw (← c.deref.ensures.value) at c.in_ok-fill_texts.ensures) in
    let answers = c.read_codes.ensures.whole said
    (subst (λ (text : List ℕ). Letters text said) (sym joined) letters) in
    let is = c.in-Err-Rule.is ∙ ap Err c.in-Err-Rule.field-0-is in
    let fault = subst (λ (r : Result (Vec Code) CodeFault). Answers r (Ok said)) is answers in
    absurd cc
