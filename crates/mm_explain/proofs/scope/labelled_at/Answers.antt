-- The statement is the first that has the label, or has it not.
use Rattle.std.proofs.Common.{List, ap, sym, subst, ◌∙◌}
use Rattle.std.specs.Prelude.{option_map}
use Rattle.std.proofs.lemmas.Option.{none-some}
use Rattle.mm_base.specs.Statement.{PlainStatement}
use Rattle.mm_base.specs.Token.{PlainToken}
use Rattle.mm_frame.specs.Sentence.{SomeSentence, IsLabelled}
use Rattle.mm_rules.specs.Verdict.{sentences}
use Rattle.mm_explain.proofs.HypothesisScopes.{unlabelled_more}
use Rattle.mm_explain.proofs.OutlinedStatements.{briefs_ended, next_brief}
use Rattle.mm_explain.proofs.scope.labelled_at.Goals as goal

pub loop-index-init : goal.loop-index-init
loop-index-init c = λ statements are (index, t, there, named). none-some t there

pub returns-then-is_labelled-clause-there : goal.returns-then-is_labelled-clause-there
returns-then-is_labelled-clause-there c = λ statements are.
    let (h, there, is, longer) = next_brief statements c.args.briefs.now c.loop-index.index _ are
    c.loop-index-test.true in (
      h,
      there,
      ap (option_map (λ (t : PlainToken). t.text)) (sym is.label)
          ∙ c.is_labelled.ensures.0 c.if-is_labelled.true,
    )

pub loop-index-preserved : goal.loop-index-preserved
loop-index-preserved c = λ statements are.
    let (s, there, is, longer) = next_brief statements c.args.briefs.now c.loop-index.index _ are
    c.loop-index-test.true in
    rw longer (unlabelled_more c.args.label.now _ s (c.loop-index.invariant statements are)
    (λ named. let t = c.is_labelled.ensures.1
    (ap (option_map (λ (t : PlainToken). t.text)) is.label ∙ named) in
    absurd (let f = c.if-is_labelled.false in cc)))

pub returns-clause-there : goal.returns-clause-there
returns-clause-there c = λ statements are.
    subst
    (λ (ss : List PlainStatement). ¬ (SomeSentence (sentences ss) (IsLabelled c.args.label.now)))
    (briefs_ended statements c.args.briefs.now c.loop-index.index are c.loop-index-test.false)
    (c.loop-index.invariant statements are)
