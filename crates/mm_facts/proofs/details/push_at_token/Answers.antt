-- The token is told where the rule is one of labels or of letters.
use Rattle.std.proofs.Common.{[], ◌∷◌, refl, sym, subst, take}
use Rattle.std.proofs.lemmas.Result.{on_ok_weaker}
use Rattle.mm_code.specs.Layout.{texts}
use Rattle.mm_step.specs.declared.fault.ProofRule.{ProofRule}
use Rattle.mm_facts.specs.Explained.{token_at_fault, AreTokenDetails}
use Rattle.mm_facts.proofs.HaltDetails.{one_told}
use Rattle.mm_facts.proofs.details.push_at_token.Goals as goal

pub returns-in-P2 : goal.returns-in-P2
returns-in-P2 c =
    on_ok_weaker c.push_unknown_label.result
    (λ told index s proof.
    let (details, are, added) = told index s proof in (
      details,
      subst
          (λ (r : ProofRule). AreTokenDetails (take index c.args.book.now.statements) (texts c.args.listed.now) r
          c.args.text.now details)
          (sym c.in-P2.is) are,
      added,
    ))
    c.push_unknown_label.ensures

pub returns-in-P3 : goal.returns-in-P3
returns-in-P3 c =
    let fact = token_at_fault c.args.text.now in
    on_ok_weaker c.push_token.result
    (λ told index s proof. (
      fact ∷ [],
      subst
          (λ (r : ProofRule). AreTokenDetails (take index c.args.book.now.statements) (texts c.args.listed.now) r
          c.args.text.now (fact ∷ []))
          (sym c.in-P3.is) refl,
      one_told c.args.out.now.items c.push_token.new.out.items fact told,
    ))
    c.push_token.ensures

pub returns-in-P4 : goal.returns-in-P4
returns-in-P4 c =
    let fact = token_at_fault c.args.text.now in
    on_ok_weaker c.push_token-in-P4.result
    (λ told index s proof. (
      fact ∷ [],
      subst
          (λ (r : ProofRule). AreTokenDetails (take index c.args.book.now.statements) (texts c.args.listed.now) r
          c.args.text.now (fact ∷ []))
          (sym c.in-P4.is) refl,
      one_told c.args.out.now.items c.push_token-in-P4.new.out.items fact told,
    ))
    c.push_token-in-P4.ensures

pub returns-in-P15 : goal.returns-in-P15
returns-in-P15 c =
    let fact = token_at_fault c.args.text.now in
    on_ok_weaker c.push_token-in-P15.result
    (λ told index s proof. (
      fact ∷ [],
      subst
          (λ (r : ProofRule). AreTokenDetails (take index c.args.book.now.statements) (texts c.args.listed.now) r
          c.args.text.now (fact ∷ []))
          (sym c.in-P15.is) refl,
      one_told c.args.out.now.items c.push_token-in-P15.new.out.items fact told,
    ))
    c.push_token-in-P15.ensures
