-- By whether the statement is an assertion.
use Rattle.std.proofs.Common.{inr, refl, sym, [], append-nil}
use Rattle.std.proofs.lemmas.Result.{on_ok_weaker}
use Rattle.mm_frame.specs.Sentence.{sentence_of}
use Rattle.mm_find.proofs.Assertions.{asserts_nothing, last_asserted}
use Rattle.mm_find.proofs.found.push_listed.Goals as goal

pub push_asked-requires : goal.push_asked-requires
push_asked-requires c =
    let (before, s, last, same) = c.requires in
    (before, sentence_of s, last_asserted _ c.args.taken _ before s last c.in-Assertion.is, same)

pub returns-in-Assertion : goal.returns-in-Assertion
returns-in-Assertion c =
    on_ok_weaker c.push_asked.result
    (λ told before s last same.
    told before (sentence_of s) (last_asserted _ c.args.taken _ before s last c.in-Assertion.is)
    same)
    c.push_asked.ensures

pub returns-in_default : goal.returns-in_default
returns-in_default c before s last same = (
  [],
  inr (asserts_nothing before s.kind c.args.taken last.kind c.in_default.not-Assertion, refl),
  sym (append-nil c.args.out.now.items),
)
