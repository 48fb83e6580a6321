-- Hypotheses of two frames, compared by what they say, and two assertions as a whole. On this file
-- rest the contracts of `have_same_hypotheses` and `are_alike`.
use Rattle.std.proofs.Common.{◌≡◌, ◌↔◌, ℕ, List, map, take, slice_get, Bool, true}
use Rattle.std.proofs.Common.{Some, option_map, sym, ap, subst, ◌∙◌}
use Rattle.std.proofs.lemmas.Option.{same_Some, slice_get_within}
use Rattle.std.proofs.lemmas.Simd.{map-map}
use Rattle.mm_base.proofs.Lists.{one_there}
use Rattle.mm_base.specs.declared.statement.Kind.{Kind}
use Rattle.mm_frame.specs.declared.hypothesis.Hypothesis.{Hypothesis}
use Rattle.mm_frame.specs.Frame.{AreMandatory, IsMandatoryPair}
use Rattle.mm_frame.specs.FrameIndex.{FrameIndex, AreHypotheses}
use Rattle.mm_frame.specs.Numbers.{IsNumbered, labelled_sentences}
use Rattle.mm_frame.specs.Sentence.{Sentence, IsAssertion}
use Rattle.mm_frame.proofs.Frames.FrameLaws.{mandatory_unique}
use Rattle.mm_frame.proofs.Names.LabelNumbers.{numbered_get, numbered_unique}
use Rattle.mm_frame.proofs.Names.NameNumbers.{get_alike, get_mapped}
use Rattle.mm_alike.specs.Alike.{said, AreAlike}
use Rattle.mm_alike.specs.Mirror.Names.{said_at, said_of, AreLabels}
use Rattle.mm_alike.specs.Mirror.Names.{HaveSameHypotheses, HaveSamePairs}
use Rattle.mm_alike.proofs.ComparedNames.{some_once}
use Rattle.mm_alike.proofs.ComparedPairs.{frame_at}

-- ---- hypotheses

-- these are the hypotheses of the assertion with a number
pub record HasHypotheses (st : List Sentence) (id : ℕ) (hs : List Hypothesis) : Type 0 where
  pub index : ℕ
  pub s : Sentence
  pub numbered : IsNumbered st id index s
  pub stated : List Sentence
  pub mandatory : AreMandatory (take index st) s stated
  pub are : map (slice_get (labelled_sentences st)) (map (λ h. h.id.0) hs)
      ≡ map (λ (t : Sentence). Some t) stated

pub hypotheses_of_frame : (f : FrameIndex) (st : List Sentence) (id : ℕ) (hs : List Hypothesis)
    → f.statements ≡ st → ((s : Sentence) × IsNumbered st id f.index s × IsAssertion s.kind)
    → AreHypotheses f (map (λ h. h.id.0) hs) → HasHypotheses st id hs
hypotheses_of_frame f st id hs is (s, numbered, asserts) are =
    let same : f ≡ frame_at st f.index =
    ap (λ (ss : List Sentence). frame_at ss f.index) is in
    let mine : AreHypotheses (frame_at st f.index) (map (λ h. h.id.0) hs) =
    subst (λ (g : FrameIndex). AreHypotheses g (map (λ h. h.id.0) hs)) same are in
    let one : mine.assertion ≡ s =
    one_there st f.index mine.assertion s mine.there numbered.there in
    record {
      index = f.index;
      s = s;
      numbered = numbered;
      stated = mine.hypotheses;
      mandatory =
          subst (λ (t : Sentence). AreMandatory (take f.index st) t mine.hypotheses) one
          mine.mandatory;
      are = mine.numbered;
    }

-- their numbers are those of labelled statements
pub hypotheses_within : (st : List Sentence) (id : ℕ) (hs : List Hypothesis)
    → HasHypotheses st id hs → AreLabels st hs
hypotheses_within st id hs has k h there =
    let labelled : List Sentence = labelled_sentences st in
    let at = get_mapped (λ (g : Hypothesis). g.id.0) hs k h there in
    let (s, stands, is) = get_alike (slice_get labelled) (λ (t : Sentence). Some t)
    (map (λ (g : Hypothesis). g.id.0) hs) has.stated k h.id.0 has.are at in
    slice_get_within labelled h.id.0 s (sym is)

-- what they say is what the statements say
stated_said : (st : List Sentence) (id : ℕ) (hs : List Hypothesis) (has : HasHypotheses st id hs)
    → said_of st hs ≡ map (λ (v : Kind × List (List ℕ)). Some v) (map said has.stated)
stated_said st id hs has =
    let labelled : List Sentence = labelled_sentences st in
    let number : Hypothesis → ℕ = λ h. h.id.0 in
    sym (map-map (λ (n : ℕ). option_map said (slice_get labelled n)) number hs)
    ∙ sym (map-map (option_map said) (slice_get labelled) (map number hs))
    ∙ ap (map (option_map said)) has.are
    ∙ map-map (option_map said) (λ (t : Sentence). Some t) has.stated
    ∙ sym (map-map (λ (v : Kind × List (List ℕ)). Some v) said has.stated)

pub same_hypotheses : (old new : List Sentence) (one other : ℕ) (hs ks : List Hypothesis)
    → HasHypotheses old one hs → HasHypotheses new other ks → (b : Bool)
    → (b ≡ true) ↔ (said_of old hs ≡ said_of new ks)
    → (b ≡ true) ↔ HaveSameHypotheses old new one other
same_hypotheses old new one other hs ks here there b told = (
  (λ t. record {
    i = here.index;
    s = here.s;
    numbered = here.numbered;
    j = there.index;
    t = there.s;
    other_numbered = there.numbered;
    hypotheses = here.stated;
    mandatory = here.mandatory;
    other_hypotheses = there.stated;
    other_mandatory = there.mandatory;
    premises =
        some_once (map said here.stated) (map said there.stated)
        (sym (stated_said old one hs here) ∙ told.0 t ∙ stated_said new other ks there);
  }),
  (λ h.
      let (i, s) = numbered_unique old one h.i here.index h.s here.s h.numbered here.numbered in
      let (j, t) =
      numbered_unique new other h.j there.index h.t there.s h.other_numbered there.numbered in
      let mine : AreMandatory (take here.index old) here.s h.hypotheses =
      subst (λ (a : ℕ). AreMandatory (take a old) here.s h.hypotheses) i
      (subst (λ (u : Sentence). AreMandatory (take h.i old) u h.hypotheses) s h.mandatory) in
      let others : AreMandatory (take there.index new) there.s h.other_hypotheses =
      subst (λ (a : ℕ). AreMandatory (take a new) there.s h.other_hypotheses) j
      (subst (λ (u : Sentence). AreMandatory (take h.j new) u h.other_hypotheses) t
      h.other_mandatory) in
      let left = mandatory_unique (take here.index old) here.s here.stated h.hypotheses
      here.mandatory mine in
      let right = mandatory_unique (take there.index new) there.s h.other_hypotheses there.stated
      others there.mandatory in
      told.1 (stated_said old one hs here
      ∙ ap (map (λ (v : Kind × List (List ℕ)). Some v))
      (ap (map said) left ∙ h.premises ∙ ap (map said) right)
      ∙ sym (stated_said new other ks there))),
)

-- ---- the whole

module _ (old new : List Sentence) (one other : ℕ) where
  pub parts_alike : said_at old one ≡ said_at new other → HaveSameHypotheses old new one other
      → HaveSamePairs old new one other → AreAlike old new one other
  parts_alike same h p =
      let (i, s) = numbered_unique old one p.i h.i p.s h.s p.numbered h.numbered in
      let (j, t) =
      numbered_unique new other p.j h.j p.t h.t p.other_numbered h.other_numbered in
      let at = numbered_get old one h.i h.s h.numbered in
      let also = numbered_get new other h.j h.t h.other_numbered in
      let says : said_at old one ≡ Some (said h.s) = ap (option_map said) at in
      let tells : said_at new other ≡ Some (said h.t) = ap (option_map said) also in (
        h.i,
        h.s,
        h.numbered,
        h.j,
        h.t,
        h.other_numbered,
        record {
          assertion = same_Some (said h.s) (said h.t) (sym says ∙ same ∙ tells);
          hypotheses = h.hypotheses;
          mandatory = h.mandatory;
          other_hypotheses = h.other_hypotheses;
          other_mandatory = h.other_mandatory;
          premises = h.premises;
          pairs = λ x y.
              subst (λ (a : ℕ). IsMandatoryPair (take a old) h.s x y
              ↔ IsMandatoryPair (take h.j new) h.t x y) i
              (subst (λ (u : Sentence). IsMandatoryPair (take p.i old) u x y
              ↔ IsMandatoryPair (take h.j new) h.t x y) s
              (subst (λ (a : ℕ). IsMandatoryPair (take p.i old) p.s x y
              ↔ IsMandatoryPair (take a new) h.t x y) j
              (subst (λ (u : Sentence). IsMandatoryPair (take p.i old) p.s x y
              ↔ IsMandatoryPair (take p.j new) u x y) t (p.pairs x y))));
        },
      )

  pub alike_said : AreAlike old new one other → said_at old one ≡ said_at new other
  alike_said (i, s, numbered, j, t, other_numbered, same) =
      ap (option_map said) (numbered_get old one i s numbered)
      ∙ ap (λ (v : Kind × List (List ℕ)). Some v) same.assertion
      ∙ sym (ap (option_map said) (numbered_get new other j t other_numbered))

  pub alike_hypotheses : AreAlike old new one other → HaveSameHypotheses old new one other
  alike_hypotheses (i, s, numbered, j, t, other_numbered, same) = record {
    i = i;
    s = s;
    numbered = numbered;
    j = j;
    t = t;
    other_numbered = other_numbered;
    hypotheses = same.hypotheses;
    mandatory = same.mandatory;
    other_hypotheses = same.other_hypotheses;
    other_mandatory = same.other_mandatory;
    premises = same.premises;
  }

  pub alike_pairs : AreAlike old new one other → HaveSamePairs old new one other
  alike_pairs (i, s, numbered, j, t, other_numbered, same) = record {
    i = i;
    s = s;
    numbered = numbered;
    j = j;
    t = t;
    other_numbered = other_numbered;
    pairs = same.pairs;
  }
