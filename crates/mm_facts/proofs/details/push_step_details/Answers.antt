-- Behind the label the facts of the rule are told.
use Rattle.std.proofs.Common.{[], ◌∷◌, ◌++◌, refl, sym, subst, ◌∙◌, ap, ℕ, append-nil, take}
use Rattle.std.proofs.lemmas.Result.{on_ok_weaker}
use Rattle.mm_step.specs.declared.fault.ProofRule.{ProofRule}
use Rattle.mm_step.specs.Profiles.{limit_of}
use Rattle.mm_facts.specs.Explained.{most_symbols, detail_text, AreStepDetails}
use Rattle.mm_facts.specs.Mirror.Explaining.{AddsAtHalt, StepFacts, DisjointFacts, told_steps}
use Rattle.mm_facts.proofs.HaltDetails.{step_left, step_other, one_told}
use Rattle.mm_facts.proofs.details.push_step_details.Goals as goal

pub returns-in-P8 : goal.returns-in-P8
returns-in-P8 c =
    on_ok_weaker c.push_too_few.result
    (λ told. subst (λ (r : ProofRule). AddsAtHalt (limit_of c.args.profile) c.args.book.now.statements c.args.id.0 c.args.stop.now
    (StepFacts (limit_of c.args.profile) r) c.args.out.now.items c.push_too_few.new.out.items) (sym c.in-P8.is) (told (limit_of c.args.profile)))
    c.push_too_few.ensures

pub returns-in-P9 : goal.returns-in-P9
returns-in-P9 c =
    on_ok_weaker c.push_types_asked.result
    (λ told. subst (λ (r : ProofRule). AddsAtHalt (limit_of c.args.profile) c.args.book.now.statements c.args.id.0 c.args.stop.now
    (StepFacts (limit_of c.args.profile) r) c.args.out.now.items c.push_types_asked.new.out.items)
    (sym c.in-P9.is) (told (limit_of c.args.profile)))
    c.push_types_asked.ensures

pub returns-in-P10 : goal.returns-in-P10
returns-in-P10 c =
    on_ok_weaker c.push_asked_in_turn.result
    (λ told. subst (λ (r : ProofRule). AddsAtHalt (limit_of c.args.profile) c.args.book.now.statements c.args.id.0 c.args.stop.now
    (StepFacts (limit_of c.args.profile) r) c.args.out.now.items
    c.push_asked_in_turn.new.out.items) (sym c.in-P10.is) (told (limit_of c.args.profile)))
    c.push_asked_in_turn.ensures

pub returns-in-P11 : goal.returns-in-P11
returns-in-P11 c =
    let limit = limit_of c.args.profile in
    let st = c.args.book.now.statements in
    on_ok_weaker c.push_pairs_asked.result
    (λ told. subst (λ (r : ProofRule). AddsAtHalt limit st c.args.id.0 c.args.stop.now (StepFacts limit r) c.args.out.now.items c.push_pairs_asked.new.out.items)
    (sym c.in-P11.is) (subst (λ (r : ProofRule). AddsAtHalt limit st c.args.id.0 c.args.stop.now (DisjointFacts r) c.args.out.now.items c.push_pairs_asked.new.out.items)
    c.in-P11.is (told limit)))
    c.push_pairs_asked.ensures

pub returns-in-P12 : goal.returns-in-P12
returns-in-P12 c =
    let limit = limit_of c.args.profile in
    let st = c.args.book.now.statements in
    on_ok_weaker c.push_pairs_asked-in-P12.result
    (λ told. subst (λ (r : ProofRule). AddsAtHalt limit st c.args.id.0 c.args.stop.now (StepFacts limit r) c.args.out.now.items c.push_pairs_asked-in-P12.new.out.items)
    (sym c.in-P12.is) (subst (λ (r : ProofRule). AddsAtHalt limit st c.args.id.0 c.args.stop.now (DisjointFacts r) c.args.out.now.items c.push_pairs_asked-in-P12.new.out.items)
    c.in-P12.is (told limit)))
    c.push_pairs_asked-in-P12.ensures

pub returns-in-L1 : goal.returns-in-L1
returns-in-L1 c =
    on_ok_weaker c.push_most.result
    (λ told index s prefix moves number h.
    let step = step_left c.args.book.now.statements h.there.left c.args.stop.now.halt.at c.args.step.0 c.requires.place h.place in
    let limit = limit_of c.args.profile in (
      most_symbols limit ∷ [],
      (
        step.label,
        step.more,
        step.first,
        subst (λ (r : ProofRule). AreStepDetails limit (take index c.args.book.now.statements) h.there.stack (told_steps c.args.stop.now) step.label r (most_symbols limit ∷ [])) (sym c.in-L1.is) refl,
      ),
      one_told c.args.out.now.items c.push_most.new.out.items (most_symbols limit)
          (told ∙ ap (λ (n : ℕ). c.args.out.now.items ++ detail_text (most_symbols n)) c.limit.ensures),
    ))
    c.push_most.ensures

pub returns-in_default : goal.returns-in_default
returns-in_default c = λ index s prefix moves number h.
    let step = step_left c.args.book.now.statements h.there.left c.args.stop.now.halt.at c.args.step.0 c.requires.place h.place in (
      [],
      (
        step.label,
        step.more,
        step.first,
        step_other (limit_of c.args.profile) _ h.there.stack (told_steps c.args.stop.now) step.label c.args.step.1 c.in_default.not-P8 c.in_default.not-P9 c.in_default.not-P10
            c.in_default.not-P11 c.in_default.not-P12 c.in_default.not-L1,
      ),
      sym (append-nil c.args.out.now.items),
    )
