-- Where the mandatory hypotheses of a `$p` stand: the first tokens of labelled statements, by their
-- numbers.
use Rattle.std.proofs.Common.{◌≡◌, ℕ, zero, suc, ◌+◌, ◌<◌, List, [], ◌∷◌, ◌++◌, length, take}
use Rattle.std.proofs.Common.{map, filter, slice_get, get_or, Bool, true, false, Option, Some}
use Rattle.std.proofs.Common.{inl, inr, refl, sym, ap, subst, ◌∙◌, arith, append-nil}
use Rattle.std.proofs.Common.{append_assoc, codes}
use Rattle.std.specs.Prelude.{is_some}
use Rattle.std.specs.List.{AllZip}
use Rattle.std.proofs.lemmas.Grind.{flat_map-append}
use Rattle.std.proofs.lemmas.List.{map-append, length-map}
use Rattle.std.proofs.lemmas.List.Elements.{filter-append}
use Rattle.std.proofs.lemmas.Option.{none-some, same_Some, slice_get-get_or, slice_get_within}
use Rattle.mm_base.specs.declared.statement.Kind.{Kind}
use Rattle.mm_base.specs.declared.statement.Kind.TheVariants.{Provable}
use Rattle.mm_base.specs.declared.token.Token.{Token}
use Rattle.mm_text.specs.Files.{PlainFile}
use Rattle.mm_base.specs.Statement.{PlainStatement}
use Rattle.mm_base.specs.Token.{PlainToken, plain_token}
use Rattle.mm_base.proofs.Lists.{get_kept, one_there, pushed_cases, take_next, zip_push}
use Rattle.mm_frame.specs.declared.hypothesis.Hypothesis.{Hypothesis}
use Rattle.mm_frame.specs.Frame.{AreMandatory, IsMandatoryAt}
use Rattle.mm_frame.specs.FrameIndex.{FrameIndex, AreHypotheses}
use Rattle.mm_frame.specs.Numbers.{labelled_sentences, IsNumbered}
use Rattle.mm_frame.specs.Sentence.{Sentence, sentence_of, IsLabelled, IsAssertion}
use Rattle.mm_frame.proofs.Frames.FrameLaws.{those_hold}
use Rattle.mm_frame.proofs.Names.LabelNumbers.{numbered_unique}
use Rattle.mm_frame.proofs.Names.NameNumbers.{get_alike, get_mapped}
use Rattle.mm_facts.specs.Explained.{Detail, detail_text, details_text, hypothesis_at}
use Rattle.mm_facts.specs.Explained.{its_hypotheses, told_of}
use Rattle.mm_explain.specs.HypothesisPlaces.{AreOwnHypotheses, IsHypothesisFact}
use Rattle.mm_rules.specs.Places.{token_place}
use Rattle.mm_rules.specs.Places.{place_of, place_text}
use Rattle.mm_rules.specs.declared.position.Place.{Place}
use Rattle.mm_explain.specs.Mirror.Outlined.{firsts_of}
use Rattle.mm_explain.specs.Mirror.Standing.{AddsEach, AreEarlier, IsPlaced}
use Rattle.mm_rules.specs.Verdict.{sentences}
use Rattle.mm_verdict.proofs.Questions.TheoremsAgain.{said_label}
use Rattle.mm_rules.proofs.Judgements.JudgedProofs.{prefix_of}

-- ---- first tokens of labelled statements

pub firsts_append : (a b : List PlainStatement) → firsts_of (a ++ b) ≡ firsts_of a ++ firsts_of b
firsts_append a b =
    ap (map (λ (s : PlainStatement). s.first))
    (filter-append (λ (s : PlainStatement). is_some s.label) a b)
    ∙ map-append (λ (s : PlainStatement). s.first)
    (filter (λ (s : PlainStatement). is_some s.label) a)
    (filter (λ (s : PlainStatement). is_some s.label) b)

-- of one statement, with a label or without
pub first_of_labelled : (s : PlainStatement) → is_some s.label ≡ true
    → firsts_of (s ∷ []) ≡ s.first ∷ []
first_of_labelled s labelled = rw labelled refl

pub first_of_unlabelled : (s : PlainStatement) → is_some s.label ≡ false → firsts_of (s ∷ []) ≡ []
first_of_unlabelled s unlabelled = rw unlabelled refl

-- the labelled statement with a number, and its first token
pub record FirstThere (before : List PlainStatement) (number : ℕ) (h : Sentence) : Type 0 where
  pub index : ℕ
  pub stated : PlainStatement
  pub there : slice_get before index ≡ Some stated
  pub same : sentence_of stated ≡ h
  pub first : slice_get (firsts_of before) number ≡ Some stated.first

first_behind : (s : PlainStatement) (before : List PlainStatement) (number next : ℕ) (h : Sentence)
    → ((t : PlainToken) → slice_get (firsts_of before) number ≡ Some t
    → slice_get (firsts_of (s ∷ before)) next ≡ Some t)
    → FirstThere before number h → FirstThere (s ∷ before) next h
first_behind s before number next h more f = record {
  index = suc f.index;
  stated = f.stated;
  there = f.there;
  same = f.same;
  first = more f.stated.first f.first;
}

first_labelled : (s : PlainStatement) (before : List PlainStatement) (h : Sentence)
    → ((n : ℕ) → slice_get (labelled_sentences (sentences before)) n ≡ Some h
    → FirstThere before n h)
    → is_some s.label ≡ true → (n : ℕ)
    → slice_get (sentence_of s ∷ labelled_sentences (sentences before)) n ≡ Some h
    → FirstThere (s ∷ before) n h
first_labelled s before h rest e zero at = record {
  index = 0;
  stated = s;
  there = refl;
  same = same_Some (sentence_of s) h at;
  first = rw e refl;
}
first_labelled s before h rest e (suc n) at =
    first_behind s before n (suc n) h (λ t is. rw e is) (rest n at)

first_in : (s : PlainStatement) (before : List PlainStatement) (number : ℕ) (h : Sentence)
    → ((n : ℕ) → slice_get (labelled_sentences (sentences before)) n ≡ Some h
    → FirstThere before n h)
    → (b : Bool) → is_some s.label ≡ b → is_some (sentence_of s).label ≡ b
    → slice_get (labelled_sentences (sentence_of s ∷ sentences before)) number ≡ Some h
    → FirstThere (s ∷ before) number h
first_in s before number h rest true e f there =
    first_labelled s before h rest e number (rw f at there)
first_in s before number h rest false e f there =
    first_behind s before number number h (λ t is. rw e is) (rest number (rw f at there))

pub first_there : (before : List PlainStatement) (number : ℕ) (h : Sentence)
    → slice_get (labelled_sentences (sentences before)) number ≡ Some h
    → FirstThere before number h
first_there [] number h there = absurd (none-some h there)
first_there (s ∷ before) number h there =
    first_in s before number h (λ n. first_there before n h) (is_some s.label) refl
    (said_label s.label) there

-- ---- the facts of hypotheses, one after the other

-- the hypothesis at an index of those that are told, and its first token
pub record ToldThere (statements : List Sentence) (before : List PlainStatement)
    (stated : List Sentence) (i number : ℕ) : Type 0 where
  pub h : Sentence
  pub there : slice_get stated i ≡ Some h
  pub numbered : slice_get (labelled_sentences statements) number ≡ Some h
  pub found : FirstThere before number h

pub told_at : (st : List Sentence) (before : List PlainStatement) (xs : List Hypothesis)
    (stated : List Sentence) (i : ℕ) (d : Hypothesis)
    → AreEarlier st before (map (λ h. h.id.0) xs) stated → i < length xs
    → ToldThere st before stated i (get_or xs i d).id.0
told_at st before xs stated i d are less =
    let number : Hypothesis → ℕ = λ h. h.id.0 in
    let at = get_mapped number xs i (get_or xs i d) (slice_get-get_or xs i d less) in
    let (h, there, is) = get_alike (slice_get (labelled_sentences (sentences before)))
    (λ (y : Sentence). Some y) (map number xs) stated i (number (get_or xs i d)) are.numbered at in
    record {
      h = h;
      there = there;
      numbered = ap (λ ss. slice_get ss (number (get_or xs i d)))
          (ap labelled_sentences are.told
          ∙ filter-append (λ (s : Sentence). is_some s.label) (sentences before) (are.last ∷ []))
          ∙ get_kept (labelled_sentences (sentences before))
          (labelled_sentences (are.last ∷ [])) (number (get_or xs i d)) h (sym is);
      found = first_there before (number (get_or xs i d)) h (sym is);
    }

-- there is a first token
pub first_within : (st : List Sentence) (before : List PlainStatement) (rest : List PlainToken)
    (firsts : List Token) (stated : List Sentence) (i number : ℕ)
    → map plain_token firsts ≡ firsts_of before ++ rest
    → ToldThere st before stated i number → number < length firsts
first_within st before rest firsts stated i number are told =
    let first : PlainToken = told.found.stated.first in
    let within = slice_get_within (firsts_of before ++ rest) number first
    (get_kept (firsts_of before) rest number first told.found.first) in
    omega (arith, within, length-map firsts plain_token, ap length are)

-- it is the token with the number
first_is : (before : List PlainStatement) (rest : List PlainToken) (firsts : List Token)
    (number : ℕ) (d : Token) (t : PlainToken)
    → map plain_token firsts ≡ firsts_of before ++ rest → number < length firsts
    → slice_get (firsts_of before) number ≡ Some t → plain_token (get_or firsts number d) ≡ t
first_is before rest firsts number d t are less there =
    same_Some (plain_token (get_or firsts number d)) t
    (sym (get_mapped plain_token firsts number (get_or firsts number d)
    (slice_get-get_or firsts number d less))
    ∙ ap (λ ts. slice_get ts number) are ∙ get_kept (firsts_of before) rest number t there)

-- one fact more
fact_more : (out text more : List ℕ) (each : List Detail) (d : Detail)
    → text ≡ out ++ details_text each → more ≡ text ++ detail_text d
    → more ≡ out ++ details_text (each ++ d ∷ [])
fact_more out text more each d so_far is =
    is ∙ ap (λ (o : List ℕ). o ++ detail_text d) so_far
    ∙ append_assoc out (details_text each) (detail_text d)
    ∙ ap (λ (o : List ℕ). out ++ o)
    (ap (λ (o : List ℕ). details_text each ++ o) (sym (append-nil (detail_text d)))
    ∙ sym (flat_map-append detail_text each (d ∷ [])))

-- the place of the token, with its line counted on
pub put_there : (files lines : List PlainFile) (file position : ℕ) (label out more : List ℕ)
    (place : Place) → lines ≡ files → place ≡ place_of lines file position
    → more ≡ out ++ detail_text (hypothesis_at (place_text files place) label)
    → more
    ≡ out ++ detail_text (hypothesis_at (place_text files (place_of files file position)) label)
put_there files lines file position label out more place same at is =
    is ∙ ap (λ (p : Place). out ++ detail_text (hypothesis_at (place_text files p) label))
    (at ∙ ap (λ (fs : List PlainFile). place_of fs file position) same)

pub one_told : (files : List PlainFile) (st : List Sentence) (before : List PlainStatement)
    (rest : List PlainToken) (firsts : List Token) (stated : List Sentence) (i number : ℕ)
    (d : Token) (label out text more : List ℕ)
    → map plain_token firsts ≡ firsts_of before ++ rest
    → (told : ToldThere st before stated i number)
    → ((s : Sentence) → slice_get (labelled_sentences st) number ≡ Some s → IsLabelled label s)
    → AddsEach files before (take i stated) out text
    → more ≡ text
    ++ detail_text (hypothesis_at (token_place files (plain_token (get_or firsts number d))) label)
    → AddsEach files before (take (i + 1) stated) out more
one_told files st before rest firsts stated i number d label out text more are told named
    (each, facts, so_far) is =
    let f = told.found in
    let less = first_within st before rest firsts stated i number are told in
    let token : plain_token (get_or firsts number d) ≡ f.stated.first =
    first_is before rest firsts number d f.stated.first are less f.first in
    let one : Detail =
    hypothesis_at (token_place files (plain_token (get_or firsts number d))) label in
    let labelled : IsLabelled label told.h = named told.h told.numbered in
    let fact : IsHypothesisFact files before told.h one = (
      label,
      labelled,
      f.index,
      f.stated,
      f.there,
      subst (IsLabelled label) (sym f.same) labelled,
      ap (λ (t : PlainToken). hypothesis_at (token_place files t) label) token,
    ) in
    let next : suc i ≡ i + 1 = omega arith in
    let longer : take (i + 1) stated ≡ take i stated ++ told.h ∷ [] =
    subst (λ n. take n stated ≡ take i stated ++ told.h ∷ []) next
    (take_next stated i told.h told.there) in (
      each ++ one ∷ [],
      subst (λ hs. AllZip (IsHypothesisFact files before) hs (each ++ one ∷ [])) (sym longer)
          (zip_push (IsHypothesisFact files before) (take i stated) each told.h one facts fact),
      fact_more out text more each one so_far is,
    )

-- ---- the hypotheses of the `$p`

module _ {files : List PlainFile} {st : List Sentence} {id count : ℕ}
    (p : IsPlaced files st id count) where
  -- a `$p` is no hypothesis
  not_last : (kind : Kind) → kind ≡ Provable → (h : Sentence) → h.kind ≡ kind → (index : ℕ)
      → IsMandatoryAt (sentences p.site.before) (sentence_of p.site.s) index h → ⊥
  not_last kind provable h same index (active, inl essential) = cc (essential, same, provable)
  not_last kind provable h same index (active, inr (code, x, types, mandatory)) =
      cc (types.0, same, provable)

  -- what stands before it
  pub placed_prefix : take count st ≡ sentences p.site.before
  placed_prefix =
      ap (λ n. take n st) (sym p.site.counted ∙ sym (length-map p.site.before sentence_of))
      ∙ prefix_of st (sentences p.site.before) (sentence_of p.site.s) p.told

  -- its frame's
  pub record OwnFrame (numbers : List ℕ) : Type 0 where
    pub hypotheses : List Sentence
    pub mandatory : AreMandatory (sentences p.site.before) (sentence_of p.site.s) hypotheses
    pub earlier : AreEarlier st p.site.before numbers hypotheses

  pub own_frame : (f : FrameIndex) (numbers : List ℕ) → f.statements ≡ st
      → ((t : Sentence) × IsNumbered st id f.index t × IsAssertion t.kind)
      → AreHypotheses f numbers → OwnFrame numbers
  own_frame f numbers is (t, other, asserts) are =
      let at : f.index ≡ count =
      (numbered_unique st id f.index count t (sentence_of p.site.s) other p.number.numbered).0 in
      let frame : FrameIndex = record { statements = st; index = count } in
      let same : f ≡ frame =
      ap (λ ss. let g : FrameIndex = record { statements = ss; index = f.index } in g) is
      ∙ ap (λ n. let g : FrameIndex = record { statements = st; index = n } in g) at in
      let own : AreHypotheses frame numbers = subst (λ g. AreHypotheses g numbers) same are in
      let one : own.assertion ≡ sentence_of p.site.s =
      one_there st count own.assertion (sentence_of p.site.s) own.there p.number.numbered.there in
      let mandatory : AreMandatory (sentences p.site.before) (sentence_of p.site.s) own.hypotheses =
      rw (placed_prefix, one) at own.mandatory in
      record {
        hypotheses = own.hypotheses;
        mandatory = mandatory;
        earlier = record {
          last = sentence_of p.site.s;
          told = p.told;
          numbered = among numbers own.hypotheses own.numbered
              (λ i h there. let (j, at_j, holds) = those_hold
              (IsMandatoryAt (sentences p.site.before) (sentence_of p.site.s)) 0
              (sentences p.site.before) own.hypotheses i h mandatory there in
              λ kind. not_last (sentence_of p.site.s).kind p.number.provable h kind (0 + j) holds);
        };
      }
    where
      here : (number : ℕ) (h : Sentence) → slice_get (labelled_sentences st) number ≡ Some h
          → ¬ (h.kind ≡ (sentence_of p.site.s).kind)
          → slice_get (labelled_sentences (sentences p.site.before)) number ≡ Some h
      here number h there other =
          let split : labelled_sentences st
          ≡ labelled_sentences (sentences p.site.before) ++ sentence_of p.site.s ∷ [] =
          ap labelled_sentences p.told
          ∙ filter-append (λ (s : Sentence). is_some s.label) (sentences p.site.before)
          (sentence_of p.site.s ∷ [])
          ∙ ap (λ l. labelled_sentences (sentences p.site.before) ++ l)
          (rw p.number.numbered.named refl) in
          elim (pushed_cases (labelled_sentences (sentences p.site.before)) (sentence_of p.site.s)
          number h (rw split at there)) [
            | inl before ↦ before
            | inr (at, same) ↦ absurd (other (ap (λ (x : Sentence). x.kind) (sym same)))
          ]

      among : (numbers : List ℕ) (hs : List Sentence)
          → map (slice_get (labelled_sentences st)) numbers ≡ map Some hs
          → ((i : ℕ) (h : Sentence) → slice_get hs i ≡ Some h
          → ¬ (h.kind ≡ (sentence_of p.site.s).kind))
          → map (slice_get (labelled_sentences (sentences p.site.before))) numbers ≡ map Some hs
      among [] [] is other = refl
      among [] (h ∷ hs) is other = absurd cc
      among (n ∷ numbers) [] is other = absurd cc
      among (n ∷ numbers) (h ∷ hs) is other =
          let first : slice_get (labelled_sentences st) n ≡ Some h = cc in
          let rest = among numbers hs (cc) (λ i x there. other (suc i) x there) in
          ap (λ (o : Option Sentence). o
          ∷ map (slice_get (labelled_sentences (sentences p.site.before))) numbers)
          (here n h first (other 0 h refl))
          ∙ ap (λ l. Some h ∷ l) rest

  -- none
  pub no_hypotheses : (numbers : List ℕ) (f : OwnFrame numbers) (out : List ℕ) → numbers ≡ []
      → (details : List Detail)
      × AreOwnHypotheses files p.site.before p.site.s details × (out ≡ out ++ details_text details)
  no_hypotheses numbers f out empty = (
    [],
    none numbers f.hypotheses empty f.earlier.numbered f.mandatory,
    sym (append-nil out),
  )
    where
      none : (ns : List ℕ) (hs : List Sentence) → ns ≡ []
          → map (slice_get (labelled_sentences (sentences p.site.before))) ns ≡ map Some hs
          → AreMandatory (sentences p.site.before) (sentence_of p.site.s) hs
          → AreOwnHypotheses files p.site.before p.site.s []
      none ns [] e is mandatory = ([], mandatory, [], tt, refl)
      none [] (h ∷ hs) e is mandatory = absurd cc
      none (n ∷ ns) (h ∷ hs) e is mandatory = absurd cc

  -- some
  pub some_hypotheses : (numbers : List ℕ) (f : OwnFrame numbers) (out text more : List ℕ)
      → ¬ (numbers ≡ []) → text ≡ out ++ codes "  the theorem's hypotheses\n"
      → AddsEach files p.site.before f.hypotheses text more → (details : List Detail)
      × AreOwnHypotheses files p.site.before p.site.s details
      × (more ≡ out ++ details_text details)
  some_hypotheses numbers f out text more some heading (each, facts, put) = (
    its_hypotheses ∷ each,
    (f.hypotheses, f.mandatory, each, facts, told f.hypotheses numbers f.earlier.numbered some),
    put ∙ ap (λ o. o ++ details_text each) heading
        ∙ append_assoc out (codes "  the theorem's hypotheses\n") (details_text each),
  )
    where
      told : (hs : List Sentence) (ns : List ℕ)
          → map (slice_get (labelled_sentences (sentences p.site.before))) ns ≡ map Some hs
          → ¬ (ns ≡ []) → its_hypotheses ∷ each ≡ told_of hs (its_hypotheses ∷ each)
      told [] [] is some_there = absurd (some_there refl)
      told [] (n ∷ ns) is some_there = absurd cc
      told (h ∷ hs) ns is some_there = refl
