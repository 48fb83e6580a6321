-- What the book finds under the label.
use Rattle.mm_frame.specs.Sentence.{IsHypothesis, IsAssertion}
use Rattle.mm_axioms.proofs.AcceptedProofs.{found_where}
use Rattle.mm_axioms.proofs.accepted.assertion_in.Goals as goal

pub returns-in-Hypothesis-clause-fault : goal.returns-in-Hypothesis-clause-fault
returns-in-Hypothesis-clause-fault c = λ statements same.
    let (index, s, numbered, named, kind, active) = c.in-Hypothesis.ensures.found in (
      c.in-Hypothesis.id.0,
      found_where c.args.book.now.statements statements c.args.label.now IsHypothesis
          c.in-Hypothesis.id.0 index s same numbered named kind,
    )

pub returns-in-Assertion-clause-found : goal.returns-in-Assertion-clause-found
returns-in-Assertion-clause-found c = λ statements same.
    let (index, s, numbered, named, kind) = c.in-Assertion.ensures.found in
    found_where c.args.book.now.statements statements c.args.label.now IsAssertion
    c.in-Assertion.id.0 index s same numbered named kind
