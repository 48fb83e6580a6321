-- The line follows, or nothing.
use Rattle.std.proofs.Common.{inl, inr, refl, sym, subst, ◌∙◌, [], append-nil}
use Rattle.std.proofs.lemmas.Bool.{false≢true}
use Rattle.std.proofs.lemmas.Result.{on_ok_weaker}
use Rattle.mm_frame.specs.Sentence.{IsAssertion}
use Rattle.mm_find.specs.Plain.{plain_assertion}
use Rattle.mm_find.specs.Found.{line_of}
use Rattle.mm_find.proofs.found.push_asked.Goals as goal

pub assertion_at-requires : goal.assertion_at-requires
assertion_at-requires c = let (before, s, last, same) = c.requires in (before, s, last)

pub push_line-requires : goal.push_line-requires
push_line-requires c =
    let (before, s, last, same) = c.requires in
    let states = c.in_ok-assertion.ensures before s last same in
    subst IsAssertion (sym states.kind) states.asserts

pub returns-then-asked : goal.returns-then-asked
returns-then-asked c =
    on_ok_weaker c.push_line.result
    (λ told before s last same. (
      line_of (plain_assertion c.in_ok-assertion.assertion),
      inl (
        plain_assertion c.in_ok-assertion.assertion,
        c.in_ok-assertion.ensures before s last same,
        inl (c.in_ok-asked.ensures.0 c.if-asked.true, refl),
      ),
      told,
    ))
    c.push_line.ensures

pub returns : goal.returns
returns c before s last same = (
  [],
  inl (
    plain_assertion c.in_ok-assertion.assertion,
    c.in_ok-assertion.ensures before s last same,
    inr ((λ asked. false≢true (sym c.if-asked.false ∙ c.in_ok-asked.ensures.1 asked)), refl),
  ),
  sym (append-nil c.args.out.now.items),
)
