-- Each rule is broken where it is sought.
use Rattle.std.proofs.Common.{take, subst, sym, refl}
use Rattle.std.proofs.lemmas.Result.{IfOk-weaker}
use Rattle.mm_step.specs.declared.fault.ProofRule.{ProofRule}
use Rattle.mm_step.specs.declared.fault.ProofRule.TheVariants.{P3}
use Rattle.mm_step.specs.Plain.{token_texts}
use Rattle.mm_places.specs.WholePlaces.{IsWholePlace}
use Rattle.mm_places.proofs.ProofPlaces.WholePlaces.{only_whole, of_own, breaks_as, idle_there}
use Rattle.mm_places.proofs.whole_places.place_in.Goals as goal

pub label_index-requires-in-P3-clause-blamed : goal.label_index-requires-in-P3-clause-blamed
label_index-requires-in-P3-clause-blamed c =
    let own = c.requires.own in
    idle_there c.args.book.now.statements c.args.own.now.index (token_texts c.args.tokens.now)
    (breaks_as (take c.args.own.now.index c.args.book.now.statements) own.0
    (token_texts c.args.tokens.now) c.args.rule P3 c.in-P3.is (λ e. cc)
    (c.requires.broken c.args.own.now.index own.0 own.1))

pub unreachable-requires : goal.unreachable-requires
unreachable-requires c =
    let own = c.requires.own in
    let other = c.in_default in
    only_whole (take c.args.own.now.index c.args.book.now.statements) own.0
    (token_texts c.args.tokens.now) c.args.rule
    (c.requires.broken c.args.own.now.index own.0 own.1) other.not-P1 other.not-P2 other.not-P3
    other.not-P4 other.not-P5 other.not-P15

pub returns-in-P1 : goal.returns-in-P1
returns-in-P1 c = λ index s proof.
    subst
    (λ (rule : ProofRule). IsWholePlace (take index c.args.book.now.statements) s
    (token_texts c.args.tokens.now) rule 0 0)
    (sym c.in-P1.is) (refl, refl)

pub returns-in-P2 : goal.returns-in-P2
returns-in-P2 c =
    let own = c.requires.own in
    let st = c.args.book.now.statements in
    of_own st c.args.id.0 c.args.own.now.index own.0 own.1.numbered
    (λ index s. IsWholePlace (take index st) s (token_texts c.args.tokens.now) c.args.rule
    c.label_index.result 0)
    (λ s. subst
    (λ (rule : ProofRule). IsWholePlace (take c.args.own.now.index st) s
    (token_texts c.args.tokens.now) rule c.label_index.result 0)
    (sym c.in-P2.is) (c.label_index.ensures, refl))

pub returns-in-P3 : goal.returns-in-P3
returns-in-P3 c =
    let own = c.requires.own in
    let st = c.args.book.now.statements in
    of_own st c.args.id.0 c.args.own.now.index own.0 own.1.numbered
    (λ index s. IsWholePlace (take index st) s (token_texts c.args.tokens.now) c.args.rule
    c.label_index-in-P3.result 0)
    (λ s. subst
    (λ (rule : ProofRule). IsWholePlace (take c.args.own.now.index st) s
    (token_texts c.args.tokens.now) rule c.label_index-in-P3.result 0)
    (sym c.in-P3.is) (c.label_index-in-P3.ensures, refl))

pub returns-in-P4 : goal.returns-in-P4
returns-in-P4 c =
    IfOk-weaker c.letter_place.result _ _
    (λ place there index s proof.
    subst
    (λ (rule : ProofRule). IsWholePlace (take index c.args.book.now.statements) s
    (token_texts c.args.tokens.now) rule place.0 place.1)
    (sym c.in-P4.is) (there (take index c.args.book.now.statements) s))
    c.letter_place.ensures

pub returns-in-P5 : goal.returns-in-P5
returns-in-P5 c =
    IfOk-weaker c.letter_place-in-P5.result _ _
    (λ place there index s proof.
    subst
    (λ (rule : ProofRule). IsWholePlace (take index c.args.book.now.statements) s
    (token_texts c.args.tokens.now) rule place.0 place.1)
    (sym c.in-P5.is) (there (take index c.args.book.now.statements) s))
    c.letter_place-in-P5.ensures

pub returns-in-P15 : goal.returns-in-P15
returns-in-P15 c =
    IfOk-weaker c.form_place.result _ _
    (λ place there index s proof.
    subst
    (λ (rule : ProofRule). IsWholePlace (take index c.args.book.now.statements) s
    (token_texts c.args.tokens.now) rule place.0 place.1)
    (sym c.in-P15.is) (there index s proof))
    c.form_place.ensures
