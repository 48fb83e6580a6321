-- The pair that is made of the packed proof of a tree is its small proof.
use Rattle.std.proofs.Common.{◌≡◌, ℕ, ◌+◌, ◌<◌, ◌≤◌, List, [], ◌∷◌, ◌++◌, length, slice_get}
use Rattle.std.proofs.Common.{take, Some, sym, ap, subst, ◌∙◌, arith, ⊎_elim}
use Rattle.std.proofs.Common.{All, inl, inr}
use Rattle.std.specs.List.{AllZip}
use Rattle.std.proofs.lemmas.List.{length-map}
use Rattle.std.proofs.lemmas.Option.{same_Some, get_or_from_slice_get, slice_get_within}
use Rattle.mm_base.proofs.Lists.{zip_left, zip_right, zip_length, get_within, get_after}
use Rattle.mm_code.specs.declared.code.Code.{Code}
use Rattle.mm_code.specs.declared.code.Code.TheVariants.{Number, Tag}
use Rattle.mm_code.specs.Letters.{IsExact, largest}
use Rattle.mm_code.specs.LetterCount.{letter_count}
use Rattle.mm_frame.specs.declared.number.LabelId.{LabelId}
use Rattle.mm_frame.specs.Sentence.{Sentence}
use Rattle.mm_frame.specs.Rules.{AllMeant}
use Rattle.mm_frame.specs.Form.{IsSound}
use Rattle.mm_frame.specs.Frame.{AreMandatory}
use Rattle.mm_frame.specs.Numbers.{labelled_sentences, IsNumbered}
use Rattle.mm_frame.specs.FrameIndex.{FrameIndex, AreHypotheses}
use Rattle.mm_frame.proofs.Frames.FrameLaws.{mandatory_unique}
use Rattle.mm_frame.proofs.Rules.ObeyedRules.{allmeant_prefix}
use Rattle.mm_forms.specs.declared.small.LabelUse.{LabelUse}
use Rattle.mm_step.specs.Tree.{Trees}
use Rattle.mm_step.specs.Moves.{Move, name}
use Rattle.mm_proof.specs.Tokens.{Says}
use Rattle.mm_forms.specs.Spelled.{AreLabelsOf, IsNumberOfLabel}
use Rattle.mm_forms.specs.Sharing.{AreFirstUses, PairSays}
use Rattle.mm_forms.specs.BigSubtrees.{IsBig}
use Rattle.mm_forms.specs.ChosenSharing.{IsWorthATag}
use Rattle.mm_forms.specs.Packing.{AreSharedProof}
use Rattle.mm_forms.specs.SmallProofs.{IsByUse, AreSmall}
use Rattle.mm_forms.specs.Mirror.CodeSmall.{AreListedByUse}
use Rattle.mm_step.proofs.ByNumbers.OneIndex.{one_index}
use Rattle.mm_proof.proofs.Members.{Once, once_indices, in_get, get_in}
use Rattle.mm_forms.proofs.FullSharing.OneSharedProof.{uses_apart, once_joined, mandatory_once}
use Rattle.mm_forms.proofs.SmallProofs.UsedLabels.{named, named_in, named_uses, first_named}
use Rattle.mm_forms.proofs.SmallProofs.ListedByUse.{all_say_new, listed_by_use}
use Rattle.mm_forms.proofs.SmallProofs.OneSmallProof.{one_by_use}

-- ---- labels by their numbers

-- the labels of numbers in an order
labels_of_order : (st : List Sentence) (ids : List LabelId) (listed : List (List ℕ))
    (order : List LabelUse) (ids' : List LabelId) → AreLabelsOf st ids listed
    → AllZip (λ (one : LabelUse) id. slice_get ids one.index ≡ Some id) order ids'
    → (listed' : List (List ℕ)) × AreLabelsOf st ids' listed'
    × AllZip (λ (one : LabelUse) l. slice_get listed one.index ≡ Some l) order listed'
labels_of_order st ids listed [] [] are z = ([], tt, tt)
labels_of_order st ids listed (one ∷ order) (id ∷ ids') are z =
    let at = zip_left (λ (i : LabelId) l. IsNumberOfLabel st i.0 l) ids listed one.index id are z.0
    in
    let rest = labels_of_order st ids listed order ids' are z.1 in
    (at.0 ∷ rest.0, (at.2, rest.1), (at.1, rest.2))
labels_of_order st ids listed order ids' are z = absurd z

-- there are as many numbers of hypotheses as labels of them
own_many : (st : List Sentence) (index : ℕ) (s : Sentence) (numbers : List ℕ)
    (listed : List (List ℕ)) (codes : List Code) (moves : List (Move (List ℕ)))
    → AreHypotheses (record { statements = st; index = index }) numbers
    → slice_get st index ≡ Some s → (p : PairSays (take index st) s listed codes moves)
    → length numbers ≡ length p.labels
own_many st index s numbers listed codes moves own there p =
    let before = take index st in
    let same : own.assertion ≡ s = same_Some own.assertion s (sym own.there ∙ there) in
    let mandatory : AreMandatory before s own.hypotheses = rw same at own.mandatory in
    let one : own.hypotheses ≡ p.hypotheses =
    mandatory_unique before s own.hypotheses p.hypotheses mandatory p.mandatory in
    let a = ap length own.numbered in
    let b = length-map numbers (slice_get (labelled_sentences st)) in
    let c = length-map own.hypotheses Some in
    let d = ap length p.labelled in
    let e = length-map p.hypotheses (λ (h : Sentence). h.label) in
    let f = length-map p.labels Some in
    let g = ap length one in omega (arith, a, b, c, d, e, f, g)

-- ---- the labels have numbers that are exact

pair_few : (names listed : List (List ℕ)) (codes : List Code) (moves : List (Move (List ℕ)))
    → Once (names ++ listed) → AllZip (Says (names ++ listed)) codes moves
    → AreFirstUses names (named moves) listed → All IsExact codes → length names < largest
    → length names + length listed < largest
pair_few names [] codes moves once says first exact few = omega arith
pair_few names (l ∷ ls) codes moves once says first exact few =
    let listed = l ∷ ls in
    let last = get_within listed (length ls) (omega arith) in
    let used = named_in moves last.0 (first_named names (named moves) listed last.0 first
    (get_in listed (length ls) last.0 last.1)) in
    let at = in_get moves (name last.0) used in
    let beside = zip_right (Says (names ++ listed)) codes moves at.0 (name last.0) says at.1 in
    let within = slice_get_within codes at.0 beside.0 beside.1 in
    let its : IsExact beside.0 = subst IsExact
    (get_or_from_slice_get codes at.0 beside.0 beside.0 beside.1) (exact at.0 beside.0 within) in
    go beside.0 last.0 beside.2 its (get_after names listed (length ls) last.0 last.1)
  where
    go : (c : Code) (label : List ℕ) → Says (names ++ l ∷ ls) c (name label) → IsExact c
        → slice_get (names ++ l ∷ ls) (length names + length ls) ≡ Some label
        → length names + length (l ∷ ls) < largest
    go Tag label said is there = absurd cc
    go (Number n) label said is there = ⊎_elim
        (λ a.
        let same : a.0 ≡ label = cc (a.2) in
        let index = once_indices (names ++ l ∷ ls) said.0 (length names + length ls) label once
        (a.1 ∙ ap Some same) there in
        omega (arith, index, said.1, is))
        (λ a. absurd (cc (a.2))) said.2

-- ---- the small proof

-- the labels with these numbers and the codes are the proof that shares those subtrees, by use
abbrev pub AreByUseOf : (P : Trees → Type 0) → List Sentence → (index : ℕ) → Sentence → Trees
    → List LabelId → List Code → Type 0
AreByUseOf P st index s trees ids codes =
    (listed : List (List ℕ)) × AreLabelsOf st ids listed
    × IsByUse P (take index st) s trees listed codes

module _ (st : List Sentence) (index : ℕ) (s : Sentence) (trees : Trees) (ids : List LabelId)
    (codes : List Code) (numbers : List ℕ) (P : Trees → Type 0) (meant : AllMeant (take index st))
    (own : AreHypotheses (record { statements = st; index = index }) numbers)
    (there : slice_get st index ≡ Some s)
    (packed : AreSharedProof P st index s trees ids codes) where
  abbrev before : List Sentence
  before = take index st

  first : AreFirstUses packed.2.says.labels (named packed.2.moves) packed.0
  first = named_uses P before trees packed.2.moves packed.2.says.labels packed.0
      packed.2.shared packed.2.uses

  own_once : Once packed.2.says.labels
  own_once = mandatory_once before s packed.2.says.hypotheses packed.2.says.labels meant
      packed.2.says.mandatory packed.2.says.labelled

  few_labels : All IsExact codes → length numbers < largest
      → length numbers + length ids < largest
  few_labels exact few =
      let p = packed.2 in
      let many = own_many st index s numbers packed.0 codes p.moves own there p.says in
      let apart = uses_apart (named p.moves) p.says.labels packed.0 first in
      let once = once_joined p.says.labels packed.0 own_once apart.0 apart.1 in
      let long = zip_length (λ (i : LabelId) l. IsNumberOfLabel st i.0 l) ids packed.0 packed.1 in
      let h = pair_few p.says.labels packed.0 codes p.moves once p.says.each first exact
      (omega (arith, many)) in
      omega (arith, h, many, long)

  small_of : (ids' : List LabelId) (codes' : List Code)
      → AreListedByUse (length numbers) ids codes ids' codes'
      → AreByUseOf P st index s trees ids' codes'
  small_of ids' codes' l =
      let p = packed.2 in
      let n = length numbers in
      let many = own_many st index s numbers packed.0 codes p.moves own there p.says in
      let long = zip_length (λ (i : LabelId) m. IsNumberOfLabel st i.0 m) ids packed.0 packed.1 in
      let labels = labels_of_order st ids packed.0 l.order ids' packed.1 l.listed in
      let whole : length l.by_use.uses ≡ length packed.0 = l.by_use.many ∙ long in (
        labels.0,
        labels.1,
        record {
          moves = p.moves;
          says = record {
            hypotheses = p.says.hypotheses;
            mandatory = p.says.mandatory;
            labels = p.says.labels;
            labelled = p.says.labelled;
            each = all_say_new n p.says.labels packed.0 codes p.moves l.by_use.uses l.order
                l.by_use.counted l.by_use.permuted whole many labels.0 labels.2 l.places l.long
                l.placed codes codes'
                p.moves p.says.each l.said;
          };
          shared = p.shared;
          by_use = listed_by_use n p.says.labels packed.0 codes p.moves l.by_use.uses l.order
              l.by_use.counted l.by_use.permuted whole many labels.0 labels.2 l.by_use.ordered
              own_once first p.says.each;
        },
      )

-- of a book's own frame
module _ (st : List Sentence) (id index : ℕ) (s t : Sentence) (own : FrameIndex) (trees : Trees)
    (ids : List LabelId) (codes : List Code) (numbers : List ℕ) (P : Trees → Type 0)
    (sound : IsSound st)
    (numbered : IsNumbered st id index s) (book : own.statements ≡ st)
    (its : IsNumbered st id own.index t) (are : AreHypotheses own numbers)
    (packed : AreSharedProof P st index s trees ids codes) where
  own_here : AreHypotheses (record { statements = st; index = index }) numbers
  own_here =
      let at : own.index ≡ index = one_index st id own.index index t s its numbered in
      rw (← book, ← at) are

  pub few_ids : All IsExact codes → length numbers < largest → length numbers + length ids < largest
  few_ids = few_labels st index s trees ids codes numbers P (allmeant_prefix st index sound.0)
      own_here numbered.there packed

  pub small_made : (ids' : List LabelId) (codes' : List Code)
      → AreListedByUse (length numbers) ids codes ids' codes'
      → AreByUseOf P st index s trees ids' codes'
  small_made = small_of st index s trees ids codes numbers P (allmeant_prefix st index sound.0)
      own_here numbered.there packed

-- ---- of the two, the one that has fewer letters

module _ (st : List Sentence) (index : ℕ) (s : Sentence) (trees : Trees)
    (meant : AllMeant (take index st)) (full chosen : List LabelId) (codes codes' : List Code)
    (p : AreByUseOf IsBig st index s trees full codes)
    (q : AreByUseOf IsWorthATag st index s trees chosen codes') where
  pub chosen_small : letter_count codes' < letter_count codes
      → AreSmall st index s trees chosen codes'
  chosen_small fewer = (
    q.0,
    q.1,
    inl (
      q.2,
      λ others more r.
          let same = one_by_use IsBig (take index st) s trees p.0 others codes more meant p.2 r in
          subst (λ (c : List Code). letter_count codes' < letter_count c) same.1 fewer,
    ),
  )

  pub full_small : letter_count codes ≤ letter_count codes' → AreSmall st index s trees full codes
  full_small fewer = (
    p.0,
    p.1,
    inr (
      p.2,
      λ others more r.
          let same = one_by_use IsWorthATag (take index st) s trees q.0 others codes' more meant
          q.2 r
          in subst (λ (c : List Code). letter_count codes ≤ letter_count c) same.1 fewer,
    ),
  )
