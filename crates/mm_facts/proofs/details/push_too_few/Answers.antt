-- The step's label is that of an assertion, and its hypotheses are those of its frame.
use Rattle.std.proofs.Common.{◌∷◌, ◌++◌, ◌≡◌, refl, sym, subst, ◌∙◌, ap, take, length, map, vec_len, rules}
use Rattle.std.proofs.lemmas.Result.{on_ok_weaker}
use Rattle.mm_frame.specs.FrameIndex.{FrameIndex, AreHypotheses}
use Rattle.mm_step.specs.declared.fault.ProofRule.TheVariants.{P8}
use Rattle.mm_proof.proofs.ProofNumbers.NamedAssertions.{assertion_number}
use Rattle.mm_step.proofs.ByNumbers.NumberedSymbols.{as_many}
use Rattle.mm_facts.specs.Explained.{entry_counts, hypotheses_stated, entries_given}
use Rattle.mm_facts.specs.Mirror.Explaining.{told_steps}
use Rattle.mm_facts.proofs.HaltDetails.{step_left, broken_step, frame_names, too_few}
use Rattle.mm_facts.proofs.details.push_too_few.Goals as goal

pub frame-requires : goal.frame-requires
frame-requires c =
    let st = c.args.book.now.statements in
    let halt = c.requires.halt.1 in
    let h = halt.halts in
    let step = step_left st h.there.left c.args.stop.now.halt.at c.args.label c.requires.place h.place in
    let broken = broken_step c.requires.halt.0 st (take halt.index st) halt.s halt.prefix halt.moves c.args.stop.now.halt h c.args.label.0 step P8 c.requires.rule in
    assertion_number st halt.index c.args.label.0 broken.0 step.label broken.1 broken.2 c.requires.sound.0 step.numbered broken.3

pub returns : goal.returns
returns c =
    let st = c.args.book.now.statements in
    let at = c.frame.result.index in
    let frame_is : c.frame.result ≡ record { statements = st; index = at } =
    ap (λ s. let f : FrameIndex = record { statements = s; index = at } in f) c.frame.ensures.book in
    let xs = c.hypotheses-hypotheses.result.now in
    let are = subst (λ f. AreHypotheses f (map (λ h. h.id.0) xs)) frame_is c.hypotheses-hypotheses.ensures.ids in
    on_ok_weaker c.push_entries.result
    (λ told limit index s prefix moves number h.
    let step = step_left st h.there.left c.args.stop.now.halt.at c.args.label c.requires.place h.place in
    let broken = broken_step limit st (take index st) s prefix moves c.args.stop.now.halt h c.args.label.0 step P8 c.requires.rule in
    let own = c.frame.ensures.index in
    let names = frame_names st index c.requires.sound.0 c.args.label.0 at own.0 own.1 own.2 (map (λ h. h.id.0) xs) are step.label step.numbered
    broken.0 broken.1 broken.2 broken.3 in
    let entries = told limit index s prefix moves number h in
    let many : length xs ≡ length are.hypotheses = sym (as_many st xs are.hypotheses are.numbered) in
    let long : vec_len c.args.stop.now.halt.origins ≡ length c.args.stop.now.halt.origins.items = search rules in
    let there : c.len.result ≡ length h.there.stack = c.len.ensures ∙ long ∙ ap length h.same_origins ∙ h.there.made.count in (
      entry_counts (length are.hypotheses) (length h.there.stack) ∷ (hypotheses_stated are.hypotheses ++ entries_given (told_steps c.args.stop.now) h.there.stack),
      (step.label, step.more, step.first, (at, own.0, are.hypotheses, names, refl)),
      too_few c.args.out.now.items c.push_counts.new.out.items c.push_hypotheses.new.out.items c.push_entries.new.out.items
          (length xs) c.len.result are.hypotheses (told_steps c.args.stop.now) h.there.stack entries.0 many there entries.1
          c.in_ok-push_counts.ensures (c.in_ok-push_hypotheses.ensures are.hypotheses are.numbered) entries.2,
    ))
    c.push_entries.ensures
