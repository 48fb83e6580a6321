-- By the file, the span, the proof, the mark and the text.
use Rattle.std.proofs.Common.{◌≡◌, ℕ, List, sym, subst, ◌∙◌, arith}
use Rattle.std.proofs.lemmas.Result.{IfOk-weaker}
use Rattle.mm_base.specs.Statement.{PlainStatement, plain_statement}
use Rattle.mm_with_lemmas.specs.WithLemmas.{IsOtherProof}
use Rattle.mm_with_lemmas.proofs.replaced.is_theorem_at.Goals as goal

pub returns : goal.returns
returns c =
    let s : PlainStatement = plain_statement c.args.statement.now in
    let start : s.span.0 ≡ c.span-span.result.0 = omega arith in
    let stop : s.span.1 ≡ c.span-span.result.1 = omega arith in
    let place : s.span ≡ c.span-span.result = λ i. (start i, stop i) in
    IfOk-weaker c.is_other_proof.result _ _
    (λ is other t. record {
      home = omega arith;
      span = place ∙ c.span-span.ensures;
      complete = sym c.is_theorem.ensures ∙ c.if-not-is_theorem.false;
      unmarked = c.may_be_marked.ensures c.if-may_be_marked.false;
      other = subst (λ (text : List ℕ). IsOtherProof text s) c.text.ensures (other t);
    })
    c.is_other_proof.ensures
