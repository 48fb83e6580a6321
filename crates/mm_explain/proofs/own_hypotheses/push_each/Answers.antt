-- The fact of the next hypothesis is one more.
use Rattle.std.proofs.Common.{List, ◌∙◌, map, take_all, subst, arith}
use Rattle.mm_text.specs.Files.{PlainFile, plain_file}
use Rattle.mm_frame.specs.Sentence.{Sentence}
use Rattle.mm_step.proofs.ByNumbers.NumberedSymbols.{as_many}
use Rattle.mm_explain.specs.Mirror.Standing.{AddsEach}
use Rattle.mm_rules.specs.Verdict.{sentences}
use Rattle.mm_explain.proofs.OwnHypotheses.{told_at, first_within, one_told, put_there}
use Rattle.mm_explain.proofs.own_hypotheses.push_each.Goals as goal

pub bounds-firsts-hypothesis : goal.bounds-firsts-hypothesis
bounds-firsts-hypothesis c =
    let (before, stated, rest, are, first_are) = c.requires in
    let told = told_at c.args.book.now.statements before c.args.hypotheses.now stated
    c.loop-hypothesis.hypothesis-index _ are c.loop-hypothesis-test.true in
    first_within c.args.book.now.statements before rest c.args.firsts.now stated
    c.loop-hypothesis.hypothesis-index _ first_are told

pub loop-hypothesis-preserved : goal.loop-hypothesis-preserved
loop-hypothesis-preserved c =
    let files : List PlainFile = map plain_file c.args.files.now in
    let same = c.loop-hypothesis.invariant.0 in (
      c.place_of-place.ensures.files ∙ same,
      λ before stated rest are first_are.
          let told = told_at c.args.book.now.statements before c.args.hypotheses.now stated
          c.loop-hypothesis.hypothesis-index _ are c.loop-hypothesis-test.true in
          one_told files c.args.book.now.statements before rest c.args.firsts.now stated
          c.loop-hypothesis.hypothesis-index _ _ c.label.result.now c.args.out.now.items
          c.loop-hypothesis.out.items c.push_hypothesis_at.new.out.items first_are told
          c.label.ensures (c.loop-hypothesis.invariant.1 before stated rest are first_are)
          (put_there files c.loop-hypothesis.lines _ _ c.label.result.now
          c.loop-hypothesis.out.items c.push_hypothesis_at.new.out.items
          c.place_of-place.result same c.place_of-place.ensures.place
          c.in_ok-push_hypothesis_at.ensures),
    )

pub returns : goal.returns
returns c = λ before stated rest are first_are.
    let many = as_many (sentences before) c.args.hypotheses.now stated are.numbered in
    subst
    (λ (hs : List Sentence). AddsEach (map plain_file c.args.files.now) before hs
    c.args.out.now.items c.loop-hypothesis.out.items)
    (take_all c.loop-hypothesis.hypothesis-index stated
    (omega (arith, many, c.loop-hypothesis-test.false)))
    (c.loop-hypothesis.invariant.1 before stated rest are first_are)
