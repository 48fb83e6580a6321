-- The token is told, and behind it the labels that are near.
use Rattle.std.proofs.Common.{[], ◌∷◌, Bor, List, ℕ, take, inl, inr, refl, sym, subst, ◌∙◌}
use Rattle.std.proofs.lemmas.Result.{on_ok_weaker}
use Rattle.mm_code.specs.Layout.{texts}
use Rattle.mm_facts.specs.Explained.{AreNearLabels, token_at_fault, near_labels, told_of}
use Rattle.mm_facts.proofs.HaltDetails.{one_told}
use Rattle.mm_facts.proofs.LackingDetails.{both_told}
use Rattle.mm_facts.proofs.details.push_unknown_label.Goals as goal

pub returns-then-is_parenthesis : goal.returns-then-is_parenthesis
returns-then-is_parenthesis c = λ index s proof.
    let fact = token_at_fault c.args.label.now in (
      fact ∷ [],
      ([], inl (sym c.is_parenthesis.ensures ∙ c.if-is_parenthesis.true, refl), refl),
      one_told c.args.out.now.items c.push_token.new.out.items fact c.in_ok-push_token.ensures,
    )

pub returns : goal.returns
returns c =
    let fact = token_at_fault c.args.label.now in
    let labels = texts c.deref.result.now in
    let near = told_of labels (near_labels labels ∷ []) in
    on_ok_weaker c.push_near.result
    (λ told index s proof. (
      fact ∷ near,
      (
        near,
        inr (
          sym c.is_parenthesis.ensures ∙ c.if-is_parenthesis.false,
          labels,
          subst
              (λ (ls : List (Bor (List ℕ))). AreNearLabels (take index c.args.book.now.statements)
              (texts c.args.listed.now) c.args.label.now (texts ls))
              (sym c.deref.ensures.value) (c.in_ok-near.ensures index s proof),
          refl,
        ),
        refl,
      ),
      both_told (fact ∷ []) near c.args.out.now.items c.push_token.new.out.items
          c.push_near.new.out.items
          (one_told c.args.out.now.items c.push_token.new.out.items fact c.in_ok-push_token.ensures)
          told,
    ))
    c.push_near.ensures
