-- A rule of a chapter is one of the rules; one more chapter has none.
use Rattle.std.proofs.Common.{◌≢◌}
use Rattle.mm_help.specs.declared.rule_text.RuleText.{RuleText}
use Rattle.mm_help.proofs.AskedCodes.{all_made_more, contains_made}
use Rattle.mm_help.proofs.explain.rule_among.Goals as goal

pub returns-in-Some-clause-found : goal.returns-in-Some-clause-found
returns-in-Some-clause-found c =
    let (inside, same) = c.in-Some.ensures.found in (
      contains_made (λ chapter. chapter.now) c.args.chapters.now c.loop-chapter.chapter-index _
          c.in-Some.rule c.loop-chapter-test.true inside,
      same,
    )

pub loop-chapter-preserved : goal.loop-chapter-preserved
loop-chapter-preserved c =
    all_made_more (λ (rule : RuleText). rule.code.now ≢ c.args.code.now) (λ chapter. chapter.now)
    c.args.chapters.now c.loop-chapter.chapter-index _ c.loop-chapter-test.true
    c.loop-chapter.invariant c.in_default.ensures.unknown
