-- By what was checked.
use Rattle.std.proofs.Common.{List, map, refl, subst, ◌∙◌}
use Rattle.mm_base.specs.Statement.{PlainStatement}
use Rattle.mm_text.specs.Files.{PlainFile, plain_file}
use Rattle.mm_step.specs.declared.profile.Profile.TheVariants.{Lenient}
use Rattle.mm_rules.specs.Answer.{verdict_of_conclusion}
use Rattle.mm_rules.specs.Conclusion.{Conclusion}
use Rattle.mm_rules.specs.Verdict.{AreAccepted}
use Rattle.mm_verdict.proofs.ReplyTexts.{accepted_with}
use Rattle.mm_with_lemmas.proofs.judged.are_with_lemmas.Goals as goal

pub is_whole-is-requires-clause-accepted : goal.is_whole-is-requires-clause-accepted
is_whole-is-requires-clause-accepted c =
    let new : Conclusion = c.in-Ok.new in
    subst (λ (fs : List PlainFile). (others : List PlainStatement) × AreAccepted Lenient fs others)
    c.requires
    (accepted_with Lenient (map plain_file c.args.files.now) new new.incomplete
    (c.in-Ok.ensures.verdict (verdict_of_conclusion new) refl))

pub is_whole-is-requires-clause-files : goal.is_whole-is-requires-clause-files
is_whole-is-requires-clause-files c = c.in-Ok.ensures.files ∙ c.requires
