-- The chain, or why there is none, is that of the statements of the files.
use Rattle.std.proofs.Common.{◌≡◌, ◌<◌, ℕ, List, length, sym, ap, subst, ◌∙◌}
use Rattle.mm_base.proofs.Lists.{error_keeps}
use Rattle.mm_frame.specs.Sentence.{Sentence}
use Rattle.mm_rules.specs.Conclusion.{Conclusion, labels_in}
use Rattle.mm_rules.specs.Answer.{IsKeptOf}
use Rattle.mm_rules.proofs.Numbers.{count_labelled}
use Rattle.mm_verdict.proofs.Verdicts.AcceptedStatements.{read_statements, KeptWell}
use Rattle.mm_axioms.proofs.ShortestChains.{chain_of, independent_of, leads_within}
use Rattle.mm_axioms.proofs.asked_axioms.chain.Goals as goal

pub returns-in_err-ends-clause-fault : goal.returns-in_err-ends-clause-fault
returns-in_err-ends-clause-fault c =
    let well = subst KeptWell c.checked.view_is c.checked.invariant in
    error_keeps c.from_residual.result c.in_err-ends.field-0.0 _ c.from_residual.ensures.1
    (λ statements reads. c.in_err-ends.ensures.fault statements
    (read_statements c.args.checked.now statements well.origin reads).kept)

pub returns-in-Some-clause-chain : goal.returns-in-Some-clause-chain
returns-in-Some-clause-chain c = λ statements reads.
    let now : Conclusion = c.args.checked.now in
    let well = subst KeptWell c.checked.view_is c.checked.invariant in
    let kept : IsKeptOf statements now = (read_statements now statements well.origin reads).kept in
    let uses : c.checked.inside.kept ≡ now.uses = ap
    (λ (v : Conclusion). v.uses) c.checked.view_is in
    let (others, whole, first) = rw (c.in-Some.is, uses) at c.in_ok-chain.ensures.some in
    chain_of statements now c.args.label.now c.args.other.now _ _ _ others kept
    c.in_ok-ends.ensures.sound.0
    (c.in_ok-ends.ensures.ends statements kept) whole first

pub returns-in-Some-clause-in_range : goal.returns-in-Some-clause-in_range
returns-in-Some-clause-in_range c =
    let now : Conclusion = c.args.checked.now in
    let well = subst KeptWell c.checked.view_is c.checked.invariant in
    let uses : c.checked.inside.kept ≡ now.uses = ap
    (λ (v : Conclusion). v.uses) c.checked.view_is in
    let labels : labels_in c.checked.inside.book.statements ≡ now.labels = ap
    (λ (v : Conclusion). v.labels) c.checked.view_is in
    let told : c.checked.inside.book.statements ≡ now.sentences = ap
    (λ (v : Conclusion). v.sentences) c.checked.view_is in
    let same : labels_in now.sentences ≡ now.labels = ap labels_in (sym told) ∙ labels in
    let (others, whole, first) = rw (c.in-Some.is, uses) at c.in_ok-chain.ensures.some in
    let theorem : ℕ = c.in_ok-ends.ends.theorem.0 in
    let less : theorem < length (labels_in now.sentences) =
    subst (λ (k : ℕ). theorem < k)
    (count_labelled (λ (s : Sentence). s.label) now.sentences) c.in_ok-ends.ensures.within in
    let within : theorem < length now.labels = subst
    (λ (ls : List (List ℕ)). theorem < length ls) same less in
    rw whole (
      within,
      leads_within now.uses others theorem _
          (length now.labels) well.backward first.leads within,
    )

pub returns-in-None-clause-fault : goal.returns-in-None-clause-fault
returns-in-None-clause-fault c = λ statements reads.
    let now : Conclusion = c.args.checked.now in
    let well = subst KeptWell c.checked.view_is c.checked.invariant in
    let kept : IsKeptOf statements now = (read_statements now statements well.origin reads).kept in
    let uses : c.checked.inside.kept ≡ now.uses = ap
    (λ (v : Conclusion). v.uses) c.checked.view_is in
    independent_of statements now c.args.label.now c.args.other.now c.in_ok-ends.ends.theorem.0
    c.in_ok-ends.ends.assertion.0 kept c.in_ok-ends.ensures.sound.0
    (c.in_ok-ends.ensures.ends statements kept)
    (rw uses at (c.in_ok-chain.ensures.none c.in-None.is))
