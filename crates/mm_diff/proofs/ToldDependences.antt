-- What is told of theorems by what is kept of two databases is told of their statements; and where
-- the statements of others say the same and have the same trees, it is told of those. On this file
-- rest the contracts of `changes`, and the law of `laws`.
use Rattle.std.proofs.Common.{◌≡◌, ◌↔◌, ℕ, ◌<◌, List, map, take, length}
use Rattle.std.proofs.Common.{inl, refl, sym, ap, subst, ◌∙◌}
use Rattle.std.specs.List.{AllByRecursion}
use Rattle.mm_base.specs.declared.statement.Kind.{Kind}
use Rattle.mm_base.specs.declared.statement.Kind.TheVariants.{Axiom, Provable}
use Rattle.mm_base.specs.Statement.{PlainStatement}
use Rattle.mm_base.proofs.Lists.{all_weaker, all_within}
use Rattle.mm_frame.specs.Numbers.{IsNumbered}
use Rattle.mm_frame.specs.Rules.{AllMeant}
use Rattle.mm_frame.specs.Sentence.{Sentence, sentence_of}
use Rattle.mm_frame.proofs.Names.LabelNumbers.{numbered_within}
use Rattle.mm_proof.specs.Used.{IsUsedNumber}
use Rattle.mm_rules.specs.Answer.{IsKeptOf}
use Rattle.mm_rules.specs.Conclusion.{Conclusion, labels_in}
use Rattle.mm_rules.specs.Mirror.Marks.{IsAxiomNumber, UsedIn}
use Rattle.mm_rules.specs.Rests.{IsNumberWhere, Uses}
use Rattle.mm_rules.specs.Verdict.{sentences}
use Rattle.mm_rules.proofs.Numbers.{count_labelled, in_order_same}
use Rattle.mm_verdict.proofs.Questions.AskedTheorems.{axiom_within, map-take, numbered_as, rests_as}
use Rattle.mm_verdict.proofs.Questions.AskedTheorems.{used_is}
use Rattle.mm_verdict.proofs.Questions.FewLabels.{some_label}
use Rattle.mm_diff.specs.Diff.{AreTold, DependsFurther, DependsLess, DependsOn, IsFurther, IsOne}
use Rattle.mm_diff.specs.Diff.{IsOneTheorem}
use Rattle.mm_alike.specs.Alike.{IsAssertionNamed}
use Rattle.mm_diff.specs.Laws.{HaveSameTrees}
use Rattle.mm_diff.specs.Mirror.Changes.{AreNumbersOf}
use Rattle.mm_alike.specs.Mirror.Databases.{IsTheorem}
use Rattle.mm_diff.specs.Mirror.Depends.{DependsOnIn, IsFurtherIn, IsOneTheoremIn, Tells}
use Rattle.mm_diff.specs.Mirror.Depends.{TellsFurther, TellsLess}

-- ---- what is told otherwise

module _ (P Q : ℕ → ℕ → Type 0) (R S : ℕ → ℕ → ℕ → Type 0)
    (pairs : (id n : ℕ) → P id n ↔ Q id n) (same : (id n k : ℕ) → R id n k ↔ S id n k) where
  tells_as : (id : ℕ) (axioms : List ℕ) → Tells P R id axioms → Tells Q S id axioms
  tells_as id axioms (n, pair, order, some) = (
    n,
    (pairs id n).0 pair,
    in_order_same (R id n) (S id n) axioms order (same id n),
    some,
  )

  tells_back : (id : ℕ) (axioms : List ℕ) → Tells Q S id axioms → Tells P R id axioms
  tells_back id axioms (n, pair, order, some) = (
    n,
    (pairs id n).1 pair,
    in_order_same (S id n) (R id n) axioms order
        (λ k. ((same id n k).1, (same id n k).0)),
    some,
  )

  pub told_as : (told : List (ℕ × List ℕ)) → AreTold (Tells P R) told → AreTold (Tells Q S) told
  told_as told are = record {
    order = in_order_same (λ id. (axioms : List ℕ) × Tells P R id axioms)
        (λ id. (axioms : List ℕ) × Tells Q S id axioms) (map (λ (p : ℕ × List ℕ). p.0) told)
        are.order
        (λ id. (
          (λ (axioms, tells). (axioms, tells_as id axioms tells)),
          (λ (axioms, tells). (axioms, tells_back id axioms tells)),
        ));
    each = all_weaker (λ (p : ℕ × List ℕ). Tells P R p.0 p.1)
        (λ (p : ℕ × List ℕ). Tells Q S p.0 p.1) (λ p. tells_as p.0 p.1) told are.each;
  }

-- ---- statements, by what they say

-- the statement with a number is of a kind
number_is : (statements : List PlainStatement) (kind : Kind) (n : ℕ)
    → ((index : ℕ) × (s : Sentence) × IsNumbered (sentences statements) n index s
    × (s.kind ≡ kind)) ↔ IsNumberWhere statements (λ s. s.kind ≡ kind) n
number_is statements kind n = (
  (λ (index, t, numbered, is).
      let (s, at, says) = numbered_as statements n index t numbered in
      (index, s, at, ap (λ (u : Sentence). u.kind) says ∙ is)),
  (λ (index, s, at, is). (index, sentence_of s, at.numbered, is)),
)

theorem_is : (statements : List PlainStatement) (st : List Sentence) (n : ℕ)
    → st ≡ sentences statements
    → IsTheorem st n ↔ IsNumberWhere statements (λ s. s.kind ≡ Provable) n
theorem_is statements st n told = (
  (λ (index, t, number). (number_is statements Provable n).0 (
    index,
    t,
    subst (λ (ss : List Sentence). IsNumbered ss n index t) told number.numbered,
    number.provable,
  )),
  (λ holds.
      let (index, t, numbered, is) = (number_is statements Provable n).1 holds in (
        index,
        t,
        record {
          numbered = subst (λ (ss : List Sentence). IsNumbered ss n index t) (sym told) numbered;
          provable = is;
        },
      )),
)

-- assertions that are one are so in databases that say the same
one_as : (st others us ps : List Sentence) (id n : ℕ) → st ≡ us → others ≡ ps
    → IsOne st others id n → IsOne us ps id n
one_as st others us ps id n same same_too one =
    subst (λ (ss : List Sentence). IsOne us ss id n) same_too
    (subst (λ (ss : List Sentence). IsOne ss others id n) same one)

-- ---- by what is kept

depends_is : (statements : List PlainStatement) (c : Conclusion) (theorem n : ℕ)
    → IsKeptOf statements c → AllMeant (sentences statements)
    → DependsOnIn c theorem n ↔ DependsOn statements theorem n
depends_is statements c theorem n kept meant =
    let uses = used_is statements c.uses meant kept.uses in (
      (λ (is, rests). (
        (number_is statements Axiom n).0
            (subst (λ (ss : List Sentence). IsAxiomNumber ss n) kept.sentences is),
        rests_as (UsedIn c.uses) (Uses statements) (λ x y. (uses x y).0) theorem n rests,
      )),
      (λ (is, rests). (
        subst (λ (ss : List Sentence). IsAxiomNumber ss n) (sym kept.sentences)
            ((number_is statements Axiom n).1 is),
        rests_as (Uses statements) (UsedIn c.uses) (λ x y. (uses x y).1) theorem n rests,
      )),
    )

module _ (c d : Conclusion) (statements others : List PlainStatement)
    (here : IsKeptOf statements c) (there : IsKeptOf others d)
    (meant : AllMeant (sentences statements)) (meant_too : AllMeant (sentences others)) where
  further_is : (theorem other n : ℕ)
      → IsFurtherIn c d theorem other n ↔ IsFurther statements others theorem other n
  further_is theorem other n = (
    (λ (depends, none). (
      (depends_is statements c theorem n here meant).0 depends,
      λ m one so. none m
          (one_as (sentences statements) (sentences others) c.sentences d.sentences n m
          (sym here.sentences) (sym there.sentences) one)
          ((depends_is others d other m there meant_too).1 so),
    )),
    (λ (depends, none). (
      (depends_is statements c theorem n here meant).1 depends,
      λ m one so. none m
          (one_as c.sentences d.sentences (sentences statements) (sentences others) n m
          here.sentences there.sentences one)
          ((depends_is others d other m there meant_too).0 so),
    )),
  )

  pair_is : (id n : ℕ)
      → IsOneTheoremIn c.sentences d.sentences id n ↔ IsOneTheorem statements others id n
  pair_is id n = (
    (λ (one, theorem, other). (
      one_as c.sentences d.sentences (sentences statements) (sentences others) id n
          here.sentences there.sentences one,
      (theorem_is statements c.sentences id here.sentences).0 theorem,
      (theorem_is others d.sentences n there.sentences).0 other,
    )),
    (λ (one, theorem, other). (
      one_as (sentences statements) (sentences others) c.sentences d.sentences id n
          (sym here.sentences) (sym there.sentences) one,
      (theorem_is statements c.sentences id here.sentences).1 theorem,
      (theorem_is others d.sentences n there.sentences).1 other,
    )),
  )

module _ (c d : Conclusion) (before after : List PlainStatement) (here : IsKeptOf before c)
    (there : IsKeptOf after d) (meant : AllMeant (sentences before))
    (meant_too : AllMeant (sentences after)) (told : List (ℕ × List ℕ)) where
  pub further_told : AreTold (TellsFurther c d) told → AreTold (DependsFurther before after) told
  further_told are =
      told_as (IsOneTheoremIn d.sentences c.sentences) (IsOneTheorem after before)
      (λ id former. IsFurtherIn d c id former) (λ id former. IsFurther after before id former)
      (pair_is d c after before there here meant_too meant)
      (further_is d c after before there here meant_too meant) told are

  pub less_told : AreTold (TellsLess c d) told → AreTold (DependsLess before after) told
  less_told are =
      told_as (IsOneTheoremIn d.sentences c.sentences) (IsOneTheorem after before)
      (λ id former. IsFurtherIn c d former id) (λ id former. IsFurther before after former id)
      (pair_is d c after before there here meant_too meant)
      (λ id former n. further_is c d before after here there meant meant_too former id n) told are

-- ---- numbers of labels

theorem_within : (c : Conclusion) (n : ℕ) → IsTheorem c.sentences n
    → n < length (labels_in c.sentences)
theorem_within c n (index, s, number) =
    subst (λ (k : ℕ). n < k) (count_labelled (λ (u : Sentence). u.label) c.sentences)
    (numbered_within c.sentences n index s number.numbered)

module _ (c d : Conclusion) (told : List (ℕ × List ℕ)) where
  pub further_within : AreTold (TellsFurther c d) told
      → AllByRecursion (AreNumbersOf (labels_in d.sentences) (labels_in d.sentences)) told
  further_within are =
      all_weaker (λ (p : ℕ × List ℕ). TellsFurther c d p.0 p.1)
      (AreNumbersOf (labels_in d.sentences) (labels_in d.sentences))
      (λ p (former, pair, order, some). (
        theorem_within d p.0 pair.1,
        all_within (λ n. n < length (labels_in d.sentences)) p.1
            (λ n among. axiom_within d.sentences n ((order.each n).0 among).0.0),
      )) told are.each

  pub less_within : AreTold (TellsLess c d) told
      → AllByRecursion (AreNumbersOf (labels_in d.sentences) (labels_in c.sentences)) told
  less_within are =
      all_weaker (λ (p : ℕ × List ℕ). TellsLess c d p.0 p.1)
      (AreNumbersOf (labels_in d.sentences) (labels_in c.sentences))
      (λ p (former, pair, order, some). (
        theorem_within d p.0 pair.1,
        all_within (λ n. n < length (labels_in c.sentences)) p.1
            (λ n among. axiom_within c.sentences n ((order.each n).0 among).0.0),
      )) told are.each

-- ---- statements that say the same, with the same trees

-- seen from the others
pub flipped : (statements others : List PlainStatement) → HaveSameTrees statements others
    → HaveSameTrees others statements
flipped statements others same = record {
  said = sym same.said;
  trees = λ id index t. ((same.trees id index t).1, (same.trees id index t).0);
}

module _ (ss us : List PlainStatement) (same : HaveSameTrees ss us) where
  -- those of a kind are of that kind
  kind_carried : (kind : Kind) (n : ℕ) → IsNumberWhere ss (λ s. s.kind ≡ kind) n
      → IsNumberWhere us (λ s. s.kind ≡ kind) n
  kind_carried kind n holds =
      let (index, s, numbered, is) = (number_is ss kind n).1 holds in
      (number_is us kind n).0
      (index, s, subst (λ (st : List Sentence). IsNumbered st n index s) same.said numbered, is)

  uses_carried : (id used : ℕ) → Uses ss id used → Uses us id used
  uses_carried id used (index, t, has, among) = (
    index,
    t,
    (same.trees id index t).0 has,
    subst (λ (st : List Sentence). IsUsedNumber st t used)
        (map-take index ss ∙ ap (take index) same.said ∙ sym (map-take index us)) among,
  )

  pub depends_carried : (theorem n : ℕ) → DependsOn ss theorem n → DependsOn us theorem n
  depends_carried theorem n (is, rests) =
      (kind_carried Axiom n is, rests_as (Uses ss) (Uses us) uses_carried theorem n rests)

module _ (ss us os ps : List PlainStatement) (same : HaveSameTrees ss us)
    (same_too : HaveSameTrees os ps) where
  further_carried : (theorem other n : ℕ) → IsFurther ss os theorem other n
      → IsFurther us ps theorem other n
  further_carried theorem other n (depends, none) = (
    depends_carried ss us same theorem n depends,
    λ m one so. none m
        (one_as (sentences us) (sentences ps) (sentences ss) (sentences os) n m
        (sym same.said) (sym same_too.said) one)
        (depends_carried ps os (flipped os ps same_too) other m so),
  )

  pair_carried : (id n : ℕ) → IsOneTheorem ss os id n → IsOneTheorem us ps id n
  pair_carried id n (one, theorem, other) = (
    one_as (sentences ss) (sentences os) (sentences us) (sentences ps) id n same.said
        same_too.said one,
    kind_carried ss us same Provable id theorem,
    kind_carried os ps same_too Provable n other,
  )

module _ (old olds new news : List PlainStatement) (before : HaveSameTrees old olds)
    (after : HaveSameTrees new news) (told : List (ℕ × List ℕ)) where
  pub further_carries : AreTold (DependsFurther old new) told
      → AreTold (DependsFurther olds news) told
  further_carries are =
      told_as (IsOneTheorem new old) (IsOneTheorem news olds)
      (λ id former. IsFurther new old id former) (λ id former. IsFurther news olds id former)
      (λ id n. (
        pair_carried new news old olds after before id n,
        pair_carried news new olds old (flipped new news after) (flipped old olds before) id n,
      ))
      (λ id former n. (
        further_carried new news old olds after before id former n,
        further_carried news new olds old (flipped new news after) (flipped old olds before) id
            former n,
      )) told are

  pub less_carries : AreTold (DependsLess old new) told → AreTold (DependsLess olds news) told
  less_carries are =
      told_as (IsOneTheorem new old) (IsOneTheorem news olds)
      (λ id former. IsFurther old new former id) (λ id former. IsFurther olds news former id)
      (λ id n. (
        pair_carried new news old olds after before id n,
        pair_carried news new olds old (flipped new news after) (flipped old olds before) id n,
      ))
      (λ id former n. (
        further_carried old olds new news before after former id n,
        further_carried olds old news new (flipped old olds before) (flipped new news after) former
            id n,
      )) told are

-- ---- the same axioms in both

-- an axiom is one with itself
itself : (statements : List PlainStatement) (n : ℕ)
    → IsNumberWhere statements (λ s. s.kind ≡ Axiom) n
    → IsOne (sentences statements) (sentences statements) n n
itself statements n (index, s, at, is) =
    let (label, named) = some_label (sentence_of s).label at.numbered.named in
    let here : IsAssertionNamed (sentences statements) label n =
    (index, sentence_of s, at.numbered, named, inl is) in
    inl (label, here, here)

-- no theorem depends on further axioms than itself
pub never_further : (ss us : List PlainStatement) (theorem n : ℕ) → HaveSameTrees ss us
    → ¬ (IsFurther ss us theorem theorem n)
never_further ss us theorem n same (depends, none) =
    none n
    (one_as (sentences ss) (sentences ss) (sentences ss) (sentences us) n n refl same.said
    (itself ss n depends.0))
    (depends_carried ss us same theorem n depends)
