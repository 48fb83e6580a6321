-- Statements that say the same, and whose proofs spell the same trees, tell no change; and where
-- they do so beside those of two other databases, the same is told of both. On this file rests the
-- law of `laws`.
use Rattle.std.proofs.Common.{◌≡◌, ℕ, List, [], ◌∷◌, Some, take, slice_get, inl, inr, refl, sym}
use Rattle.std.proofs.Common.{ap, subst, ◌∙◌, arith}
use Rattle.mm_base.specs.Statement.{PlainStatement}
use Rattle.mm_frame.specs.Frame.{AreMandatory, IsMandatoryAt}
use Rattle.mm_frame.specs.Numbers.{IsNumbered}
use Rattle.mm_frame.specs.Rules.{AllMeant}
use Rattle.mm_frame.specs.Sentence.{Sentence}
use Rattle.mm_frame.proofs.Rules.DecidedStatements.{mandatory_at_dec}
use Rattle.mm_proof.proofs.Members.{those_of}
use Rattle.mm_rules.specs.Conclusion.{labels_in}
use Rattle.mm_rules.specs.Rests.{AreInOrder, HasTree}
use Rattle.mm_rules.specs.Verdict.{sentences}
use Rattle.mm_verdict.proofs.Questions.AskedTheorems.{one_tree}
use Rattle.mm_rules.proofs.OrderedNumbers.{in_order_once}
use Rattle.mm_diff.specs.Diff.{AreRenamed, AreTold, DependsFurther, DependsLess}
use Rattle.mm_alike.specs.Alike.{AreAlike}
use Rattle.mm_diff.specs.Diff.{HasPlaces, HaveTurned, IsFurther, IsOne, IsOneTheorem}
use Rattle.mm_alike.specs.Alike.{IsAlone}
use Rattle.mm_diff.specs.Diff.{IsMissing, IsMoved}
use Rattle.mm_alike.specs.Alike.{IsAssertionNamed, IsChanged}
use Rattle.mm_alike.specs.Alike.{IsReproved, IsShared}
use Rattle.mm_diff.specs.Diff.{PlainChanges, TellsChanges}
use Rattle.mm_diff.specs.Diff.{changes_text, changes_status, no_changes}
use Rattle.mm_diff.specs.Laws.{HaveSameTrees, TellsNothing}
use Rattle.mm_alike.proofs.DifferingNumbers.{one_number}
use Rattle.mm_diff.proofs.FurtherAxioms.{none_so}
use Rattle.mm_diff.proofs.ToldDependences.{flipped, further_carries, less_carries, never_further}
use Rattle.mm_rules.proofs.RisingNumbers.{rising_once}

-- an assertion says what it says
alike_itself : (st : List Sentence) (id index : ℕ) (s : Sentence) → IsNumbered st id index s
    → AreAlike st st id id
alike_itself st id index s numbered =
    let before : List Sentence = take index st in
    let own : (hypotheses : List Sentence) × AreMandatory before s hypotheses =
    those_of (IsMandatoryAt before s) (mandatory_at_dec before s) 0 before in (
      index,
      s,
      numbered,
      index,
      s,
      numbered,
      record {
        assertion = refl;
        hypotheses = own.0;
        mandatory = own.1;
        other_hypotheses = own.0;
        other_mandatory = own.1;
        premises = refl;
        pairs = λ x y. ((λ h. h), (λ h. h));
      },
    )

never_alone : (st : List Sentence) (id : ℕ) → ¬ (IsAlone st st id)
never_alone st id (label, here, none) = none id here

never_changed : (st : List Sentence) (id : ℕ) → AllMeant st → ¬ (IsChanged st st id)
never_changed st id meant (label, here, n, there, apart) =
    let same : id ≡ n = one_number st label id n meant here there in
    apart (subst (λ (k : ℕ). AreAlike st st id k) same
    (alike_itself st id here.0 here.1 here.2))

never_reproved : (old new : List PlainStatement) (id : ℕ) → AllMeant (sentences old)
    → HaveSameTrees old new → ¬ (IsReproved new old id)
never_reproved old new id meant same
    (label, named, n, named_too, alike, (i, t, has, j, u, has_too, apart)) =
    let here : IsAssertionNamed (sentences old) label id =
    subst (λ (ss : List Sentence). IsAssertionNamed ss label id) (sym same.said) named in
    let one : n ≡ id = one_number (sentences old) label n id meant named_too here in
    let other : HasTree old id j u = subst (λ (k : ℕ). HasTree old k j u) one has_too in
    apart (one_tree old id i j t u meant ((same.trees id i t).1 has) other).1

never_renamed : (st : List Sentence) (pairs : List (ℕ × ℕ)) → AreRenamed st st pairs → pairs ≡ []
never_renamed st [] are = refl
never_renamed st (p ∷ pairs) are = absurd (never_alone st p.1 are.each.0.0.0)

-- one place before and now
one_place : (st : List Sentence) (id was is : ℕ) → AllMeant st → HasPlaces st st id was is
    → was ≡ is
one_place st id was is meant
    ((own, order, there), label, named, former, named_too, (own_too, order_too, there_too)) =
    let same : own_too ≡ own = in_order_once (IsShared st st) own_too own order_too order in
    let one : former ≡ id = one_number st label former id meant named_too named in
    rising_once own was is id order.rising
    (subst (λ (ids : List ℕ). slice_get ids was ≡ Some id) same
    (subst (λ (k : ℕ). slice_get own_too was ≡ Some k) one there_too)) there

never_turned : (was is other_was other_is : ℕ) → was ≡ is → other_was ≡ other_is
    → ¬ (HaveTurned was is other_was other_is)
never_turned was is other_was other_is same same_too (inl turned) = omega arith
never_turned was is other_was other_is same same_too (inr turned) = omega arith

never_moved : (st : List Sentence) (id : ℕ) → AllMeant st → ¬ (IsMoved st st id)
never_moved st id meant moved =
    never_turned moved.was moved.is moved.other_was moved.other_is
    (one_place st id moved.was moved.is meant moved.places)
    (one_place st moved.other moved.other_was moved.other_is meant moved.other_places) moved.turned

-- a theorem of one database, where both say the same, is one with itself alone
one_itself : (st : List Sentence) (id n : ℕ) → AllMeant st → IsOne st st id n → n ≡ id
one_itself st id n meant (inl (label, here, there)) = one_number st label n id meant there here
one_itself st id n meant (inr both) = absurd (never_alone st id both.1.0)

module _ (old new : List PlainStatement) (meant : AllMeant (sentences old))
    (same : HaveSameTrees old new) where
  paired_itself : (id former : ℕ) → IsOneTheorem new old id former → former ≡ id
  paired_itself id former (one, theorem, other) =
      one_itself (sentences old) id former meant
      (subst (λ (ss : List Sentence). IsOne ss (sentences old) id former) (sym same.said) one)

  never_tells_further : (id : ℕ) (axioms : List ℕ) → ¬ (DependsFurther old new id axioms)
  never_tells_further id axioms (former, pair, order, some) =
      some (none_so (IsFurther new old id former) axioms order (λ n further.
      never_further new old id n (flipped old new same)
      (subst (λ (k : ℕ). IsFurther new old id k n) (paired_itself id former pair) further)))

  never_tells_less : (id : ℕ) (axioms : List ℕ) → ¬ (DependsLess old new id axioms)
  never_tells_less id axioms (former, pair, order, some) =
      some (none_so (IsFurther old new former id) axioms order (λ n further.
      never_further old new id n same
      (subst (λ (k : ℕ). IsFurther old new k id n) (paired_itself id former pair) further)))

-- nothing is told where nothing is to be told of any
never_told : (T : ℕ → List ℕ → Type 0) (told : List (ℕ × List ℕ)) → AreTold T told
    → ((id : ℕ) (axioms : List ℕ) → ¬ (T id axioms)) → told ≡ []
never_told T [] are none = refl
never_told T (p ∷ told) are none = absurd (none p.0 p.1 are.each.0)

-- ---- the law

-- changes of which there is none
abbrev made : (gone added changed reproved : List ℕ) (renamed : List (ℕ × ℕ)) (moved : List ℕ)
    (further less : List (ℕ × List ℕ)) → PlainChanges
made gone added changed reproved renamed moved further less = record {
  gone = gone;
  added = added;
  changed = changed;
  reproved = reproved;
  renamed = renamed;
  moved = moved;
  further = further;
  less = less;
}

none_of_each : (c : PlainChanges) → c.gone ≡ [] → c.added ≡ [] → c.changed ≡ [] → c.reproved ≡ []
    → c.renamed ≡ [] → c.moved ≡ [] → c.further ≡ [] → c.less ≡ [] → c ≡ no_changes
none_of_each c gone added changed reproved renamed moved further less =
    ap (λ (l : List ℕ).
    made l c.added c.changed c.reproved c.renamed c.moved c.further c.less) gone
    ∙ ap (λ (l : List ℕ). made [] l c.changed c.reproved c.renamed c.moved c.further c.less) added
    ∙ ap (λ (l : List ℕ). made [] [] l c.reproved c.renamed c.moved c.further c.less) changed
    ∙ ap (λ (l : List ℕ). made [] [] [] l c.renamed c.moved c.further c.less) reproved
    ∙ ap (λ (l : List (ℕ × ℕ)). made [] [] [] [] l c.moved c.further c.less) renamed
    ∙ ap (λ (l : List ℕ). made [] [] [] [] [] l c.further c.less) moved
    ∙ ap (λ (l : List (ℕ × List ℕ)). made [] [] [] [] [] [] l c.less) further
    ∙ ap (λ (l : List (ℕ × List ℕ)). made [] [] [] [] [] [] [] l) less

pub tells_nothing : TellsNothing
tells_nothing old new text status meant same told =
    let st : List Sentence = sentences old in
    let c : PlainChanges = told.changes in
    let nothing : c ≡ no_changes =
    none_of_each c
    (none_so (IsMissing st st) c.gone
    (subst (λ (ss : List Sentence). AreInOrder (IsMissing st ss) c.gone) (sym same.said)
    told.are.are_gone) (λ n missing. never_alone st n missing.0))
    (none_so (IsMissing st st) c.added
    (subst (λ (ss : List Sentence). AreInOrder (IsMissing ss st) c.added) (sym same.said)
    told.are.are_added) (λ n missing. never_alone st n missing.0))
    (none_so (IsChanged st st) c.changed
    (subst (λ (ss : List Sentence). AreInOrder (IsChanged ss st) c.changed) (sym same.said)
    told.are.are_changed) (λ n. never_changed st n meant))
    (none_so (IsReproved new old) c.reproved told.are.are_reproved
    (λ n. never_reproved old new n meant same))
    (never_renamed st c.renamed
    (subst (λ (ss : List Sentence). AreRenamed st ss c.renamed) (sym same.said)
    told.are.are_renamed))
    (none_so (IsMoved st st) c.moved
    (subst (λ (ss : List Sentence). AreInOrder (IsMoved st ss) c.moved) (sym same.said)
    told.are.are_moved) (λ n. never_moved st n meant))
    (never_told (DependsFurther old new) c.further told.are.are_further
    (never_tells_further old new meant same))
    (never_told (DependsLess old new) c.less told.are.are_less
    (never_tells_less old new meant same)) in (
      told.said ∙ ap (changes_text (labels_in st) (labels_in (sentences new))) nothing,
      told.ends ∙ ap changes_status nothing,
    )

-- ---- other databases with the same statements and trees

reproved_carried : (old olds new news : List PlainStatement) (id : ℕ) → HaveSameTrees old olds
    → HaveSameTrees new news → IsReproved new old id → IsReproved news olds id
reproved_carried old olds new news id before after
    (label, named, n, named_too, alike, (i, t, has, j, u, has_too, apart)) = (
      label,
      subst (λ (ss : List Sentence). IsAssertionNamed ss label id) after.said named,
      n,
      subst (λ (ss : List Sentence). IsAssertionNamed ss label n) before.said named_too,
      subst (λ (ss : List Sentence). AreAlike ss (sentences olds) id n) after.said
          (subst (λ (ss : List Sentence). AreAlike (sentences new) ss id n) before.said alike),
      (i, t, (after.trees id i t).0 has, j, u, (before.trees n j u).0 has_too, apart),
    )

pub tells_carried : (old olds new news : List PlainStatement) (text : List ℕ) (status : ℕ)
    → HaveSameTrees old olds → HaveSameTrees new news → TellsChanges old new text status
    → TellsChanges olds news text status
tells_carried old olds new news text status before after told = record {
  changes = told.changes;
  are = record {
    are_gone = rw (before.said, after.said) at told.are.are_gone;
    are_added = rw (before.said, after.said) at told.are.are_added;
    are_changed = rw (before.said, after.said) at told.are.are_changed;
    are_reproved = record {
      rising = told.are.are_reproved.rising;
      each = λ id. (
        (λ h. reproved_carried old olds new news id before after
            ((told.are.are_reproved.each id).0 h)),
        (λ h. (told.are.are_reproved.each id).1
            (reproved_carried olds old news new id (flipped old olds before)
            (flipped new news after) h)),
      );
    };
    are_renamed = rw (before.said, after.said) at told.are.are_renamed;
    are_moved = rw (before.said, after.said) at told.are.are_moved;
    are_further =
        further_carries old olds new news before after told.changes.further told.are.are_further;
    are_less = less_carries old olds new news before after told.changes.less told.are.are_less;
  };
  said = rw (before.said, after.said) at told.said;
  ends = told.ends;
}
