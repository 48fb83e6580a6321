-- The one that says the same, if this is the one that it says.
use Rattle.std.proofs.Common.{ℕ, sym, subst, ◌∙◌}
use Rattle.std.proofs.lemmas.Bool.{false≢true}
use Rattle.mm_diff.specs.Diff.{IsOnlyAlike}
use Rattle.mm_diff.proofs.RenamedLabels.{none_back, none_renamed, other_back}
use Rattle.mm_diff.proofs.renamed.renamed_as.Goals as goal

pub returns-in_default-clause-none : goal.returns-in_default-clause-none
returns-in_default-clause-none c = λ none.
    none_renamed c.args.book.now.statements c.args.other.now.statements c.args.id.0
    (c.in_ok-named.ensures.none c.in_default.is)

pub returns-in_default-2-clause-none : goal.returns-in_default-2-clause-none
returns-in_default-2-clause-none c = λ none.
    none_back c.args.book.now.statements c.args.other.now.statements c.args.id.0 c.in-Some.named.0
    (rw c.in-Some.is at c.in_ok-named.ensures.some) (c.in_ok-back.ensures.none c.in_default-2.is)

pub returns-then-is_same-clause-some : goal.returns-then-is_same-clause-some
returns-then-is_same-clause-some c =
    let back : IsOnlyAlike c.args.other.now.statements c.args.book.now.statements c.in-Some.named.0
    c.in-Some-2.back.0 =
    rw c.in-Some-2.is at c.in_ok-back.ensures.some in (
      rw c.in-Some.is at c.in_ok-named.ensures.some,
      subst (λ (k : ℕ). IsOnlyAlike c.args.other.now.statements c.args.book.now.statements
          c.in-Some.named.0 k) (c.is_same.ensures.0 c.if-is_same.true) back,
    )

pub returns-else-is_same-clause-none : goal.returns-else-is_same-clause-none
returns-else-is_same-clause-none c = λ none.
    other_back c.args.book.now.statements c.args.other.now.statements c.args.id.0 c.in-Some.named.0
    c.in-Some-2.back.0 (rw c.in-Some.is at c.in_ok-named.ensures.some)
    (rw c.in-Some-2.is at c.in_ok-back.ensures.some)
    (λ same. false≢true (sym c.if-is_same.false ∙ c.is_same.ensures.1 same))
