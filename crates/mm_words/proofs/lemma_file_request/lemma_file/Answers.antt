-- The words ask for a file with lemmas; or the prefix, the comment, the numbers or the name of the file
-- are to blame.
use Rattle.std.proofs.Common.{IsTrue, inl, inr, refl, rules}
use Rattle.mm_base.proofs.Lists.{error_keeps}
use Rattle.mm_words.specs.RefusedWords.{IsFaultFor, IsNoLemmaWish}
use Rattle.mm_words.proofs.AskedWords.{blamed_for, texts_in}
use Rattle.mm_words.proofs.LemmaWishes.{now_in}
use Rattle.mm_words.proofs.lemma_file_request.lemma_file.Goals as goal

pub returns-in_err-prefix-clause-fault : goal.returns-in_err-prefix-clause-fault
returns-in_err-prefix-clause-fault c =
    error_keeps c.from_residual.result c.in_err-prefix.field-0.0
    (IsFaultFor (IsNoLemmaWish (texts_in c.args.words.now) (now_in c.args.prefix)
    (now_in c.args.comment))) c.from_residual.ensures.1
    (blamed_for _ _ _ c.in_err-prefix.ensures.fault (λ none. inl none))

pub returns-then-not-may_be_said-clause-fault : goal.returns-then-not-may_be_said-clause-fault
returns-then-not-may_be_said-clause-fault c =
    inr (inl (λ may. let is : IsTrue c.may_be_said.result = c.may_be_said.ensures.1 may in
    search rules))

pub returns-in_err-chosen-clause-fault : goal.returns-in_err-chosen-clause-fault
returns-in_err-chosen-clause-fault c =
    error_keeps c.from_residual-in_err-chosen.result c.in_err-chosen.field-0.0
    (IsFaultFor (IsNoLemmaWish (texts_in c.args.words.now) (now_in c.args.prefix)
    (now_in c.args.comment))) c.from_residual-in_err-chosen.ensures.1
    (blamed_for _ _ _ c.in_err-chosen.ensures.fault (λ none. inr (inr none)))

pub returns-clause-wish : goal.returns-clause-wish
returns-clause-wish c =
    let may : IsTrue c.may_be_said.result = search rules in (
      c.in_ok-prefix.ensures.same,
      c.in_ok-prefix.ensures.fit,
      refl,
      c.may_be_said.ensures.0 may,
      c.in_ok-chosen.ensures.named,
    )
