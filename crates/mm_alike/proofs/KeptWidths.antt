-- Labels that stand over as many trees in two databases, and mandatory hypotheses with the same
-- labels: so proofs of the same tokens make one tree. On this file rest the contracts of `widths`
-- and `written`.
use Rattle.std.proofs.Common.{◌≡◌, ℕ, ◌+◌, ◌<◌, ◌≤◌, List, [], ◌∷◌, map, take, length, slice_get}
use Rattle.std.proofs.Common.{get_or, is_some, Some, inl, inr, refl, sym, ap, subst, ◌∙◌, arith}
use Rattle.std.specs.List.{AllByRecursion, AllZip}
use Rattle.std.proofs.lemmas.Bool.{cases_eq}
use Rattle.std.proofs.lemmas.List.{take_more}
use Rattle.std.proofs.lemmas.Option.{same_Some}
use Rattle.mm_base.proofs.Lists.{get_from_front, zip_push}
use Rattle.mm_frame.specs.declared.hypothesis.Hypothesis.{Hypothesis}
use Rattle.mm_frame.specs.Frame.{AreMandatory}
use Rattle.mm_frame.specs.Numbers.{IsNumbered, labelled_sentences}
use Rattle.mm_frame.specs.Rules.{AllMeant}
use Rattle.mm_frame.specs.Sentence.{Sentence, SomeSentence, IsLabelled}
use Rattle.mm_frame.proofs.Frames.FrameLaws.{mandatory_unique}
use Rattle.mm_frame.proofs.Names.LabelNumbers.{numbered_at, numbered_from_get, numbered_get}
use Rattle.mm_frame.proofs.Names.LabelNumbers.{numbered_unique, numbered_within}
use Rattle.mm_step.specs.Moves.{Move, name, again, mark, Makes}
use Rattle.mm_step.specs.Tree.{Trees, none, MayStandOver, roots}
use Rattle.mm_forms.specs.Spelled.{IsNumberOfLabel}
use Rattle.mm_forms.proofs.PackedProofs.SubtreeNumbers.{one_label_of, one_number_of}
use Rattle.mm_proof.specs.Tokens.{SayMoves}
use Rattle.mm_proof.proofs.ProofTokens.SaidMoves.{moves_once, normal_or_compressed}
use Rattle.mm_alike.specs.Mirror.Steps.{HaveOneWidth, IsSameStep}
use Rattle.mm_alike.specs.Mirror.Steps.{KeepsWidth, KeepWidths, NameTheSame}
use Rattle.mm_alike.proofs.ComparedFrames.{HasHypotheses}
use Rattle.mm_alike.proofs.WidthsInBoth.{named_number, stands_width}
use Rattle.mm_alike.proofs.TreesOfBoth.{made_in_both, StandsAsWide}

-- ---- widths

-- a label is looked up in the other database
pub keeps_found : (st others : List Sentence) (id n : ℕ) (x : List ℕ) (s : Sentence) (i : ℕ)
    → AllMeant others
    → ((t : Sentence) → slice_get (labelled_sentences st) id ≡ Some t → IsLabelled x t)
    → IsNumbered others n i s → IsLabelled x s → HaveOneWidth st others id n
    → KeepsWidth st others id
keeps_found st others id n x s i meant told numbered named width m label here there =
    let own : IsNumberOfLabel st id x =
    record { s = here.s; there = here.there; named = told here.s here.there } in
    let same : label ≡ x = one_label_of st id label x here own in
    let other : IsNumberOfLabel others n label = record {
      s = s;
      there = numbered_get others n i s numbered;
      named = named ∙ ap (λ (l : List ℕ). Some l) (sym same);
    } in
    let one : n ≡ m = one_number_of others n m label meant other there in
    subst (λ (k : ℕ). HaveOneWidth st others id k) one width

-- none has it
pub keeps_none : (st others : List Sentence) (id : ℕ) (x : List ℕ)
    → ((t : Sentence) → slice_get (labelled_sentences st) id ≡ Some t → IsLabelled x t)
    → ¬ (SomeSentence others (IsLabelled x)) → KeepsWidth st others id
keeps_none st others id x told lacks m label here there =
    let own : IsNumberOfLabel st id x =
    record { s = here.s; there = here.there; named = told here.s here.there } in
    let same : label ≡ x = one_label_of st id label x here own in
    let (index, numbered) = numbered_from_get others m there.s there.there in
    absurd (lacks (
      index,
      there.s,
      numbered.there,
      there.named ∙ ap (λ (l : List ℕ). Some l) same,
    ))

-- all were looked up
pub all_kept : (st others : List Sentence) (end : ℕ) → length (labelled_sentences st) ≤ end
    → ((n : ℕ) → n < end → KeepsWidth st others n) → KeepWidths st others
all_kept st others end past each id (index, s, numbered) =
    let within : id < length (labelled_sentences st) = numbered_within st id index s numbered in
    each id (omega arith)

pub one_kept : (st others : List Sentence) (end : ℕ)
    → ((n : ℕ) → n < end → KeepsWidth st others n) → KeepsWidth st others end → (n : ℕ)
    → n < end + 1 → KeepsWidth st others n
one_kept st others end each next n less = elim (cases_eq n end) [
  | inl same ↦ subst (λ (k : ℕ). KeepsWidth st others k) (sym same) next
  | inr other ↦ each n (omega arith)
]

-- ---- hypotheses

pub labels_more : (st others : List Sentence) (hs ks : List Hypothesis) (i : ℕ) (d : Hypothesis)
    → i < length hs → i < length ks
    → AllZip (λ h k. IsSameStep st others h.id.0 k.id.0) (take i hs) (take i ks)
    → IsSameStep st others (get_or hs i d).id.0 (get_or ks i d).id.0
    → AllZip (λ h k. IsSameStep st others h.id.0 k.id.0) (take (i + 1) hs) (take (i + 1) ks)
labels_more st others hs ks i d less within same next =
    rw (take_more hs i d less, take_more ks i d within)
    (zip_push (λ (h k : Hypothesis). IsSameStep st others h.id.0 k.id.0) (take i hs) (take i ks)
    (get_or hs i d) (get_or ks i d) same next)

module _ (st others : List Sentence) where
  stated_alike : (hs ks : List Hypothesis) (ss ts : List Sentence)
      → AllZip (λ h k. IsSameStep st others h.id.0 k.id.0) hs ks
      → map (slice_get (labelled_sentences st)) (map (λ (h : Hypothesis). h.id.0) hs)
      ≡ map (λ (t : Sentence). Some t) ss
      → map (slice_get (labelled_sentences others)) (map (λ (h : Hypothesis). h.id.0) ks)
      ≡ map (λ (t : Sentence). Some t) ts
      → map (λ (t : Sentence). t.label) ss ≡ map (λ (t : Sentence). t.label) ts
  stated_alike [] [] [] [] same are are_too = refl
  stated_alike [] [] (s ∷ ss) ts same are are_too = absurd (cc)
  stated_alike [] [] [] (t ∷ ts) same are are_too = absurd (cc)
  stated_alike (h ∷ hs) (k ∷ ks) [] ts same are are_too = absurd (cc)
  stated_alike (h ∷ hs) (k ∷ ks) (s ∷ ss) [] same are are_too = absurd (cc)
  stated_alike (h ∷ hs) (k ∷ ks) (s ∷ ss) (t ∷ ts) same are are_too =
      let (label, n, m) = same.0.0 in
      let at : slice_get (labelled_sentences st) h.id.0 ≡ Some s = cc in
      let at_too : slice_get (labelled_sentences others) k.id.0 ≡ Some t = cc in
      let mine : n.s ≡ s = same_Some n.s s (sym n.there ∙ at) in
      let theirs : m.s ≡ t = same_Some m.s t (sym m.there ∙ at_too) in
      let first : s.label ≡ t.label =
      ap (λ (u : Sentence). u.label) (sym mine) ∙ n.named ∙ sym m.named
      ∙ ap (λ (u : Sentence). u.label) theirs in
      let own : map (slice_get (labelled_sentences st)) (map (λ (g : Hypothesis). g.id.0) hs)
      ≡ map (λ (u : Sentence). Some u) ss = cc in
      let own_too : map (slice_get (labelled_sentences others))
      (map (λ (g : Hypothesis). g.id.0) ks) ≡ map (λ (u : Sentence). Some u) ts = cc in
      let rest = stated_alike hs ks ss ts same.1 own own_too in cc
  stated_alike hs ks ss ts same are are_too = absurd same

  pub names_told : (one other : ℕ) (hs ks : List Hypothesis) → HasHypotheses st one hs
      → HasHypotheses others other ks
      → AllZip (λ h k. IsSameStep st others h.id.0 k.id.0) hs ks
      → NameTheSame st others one other
  names_told one other hs ks has has_too same i s j t own own_too numbered numbered_too mandatory
      mandatory_too =
      let (at, one_s) = numbered_unique st one has.index i has.s s has.numbered numbered in
      let (at_too, one_t) =
      numbered_unique others other has_too.index j has_too.s t has_too.numbered numbered_too in
      let mine : AreMandatory (take i st) s has.stated =
      subst (λ (k : ℕ). AreMandatory (take k st) s has.stated) at
      (subst (λ (u : Sentence). AreMandatory (take has.index st) u has.stated) one_s
      has.mandatory) in
      let theirs : AreMandatory (take j others) t has_too.stated =
      subst (λ (k : ℕ). AreMandatory (take k others) t has_too.stated) at_too
      (subst (λ (u : Sentence). AreMandatory (take has_too.index others) u has_too.stated) one_t
      has_too.mandatory) in
      let left = mandatory_unique (take i st) s own has.stated mandatory mine in
      let right = mandatory_unique (take j others) t has_too.stated own_too theirs mandatory_too in
      ap (map (λ (h : Sentence). h.label)) left
      ∙ stated_alike hs ks has.stated has_too.stated same has.are has_too.are
      ∙ ap (map (λ (h : Sentence). h.label)) right

-- ---- tokens that say the same moves

-- the number of a label
number_at : (st : List Sentence) (k : ℕ) (s : Sentence) (label : List ℕ)
    → slice_get st k ≡ Some s → IsLabelled label s → (id : ℕ) × IsNumberOfLabel st id label
number_at st k s label there named =
    let id : ℕ = length (labelled_sentences (take k st)) in
    let numbered : IsNumbered st id k s = numbered_at st k s there (ap is_some named) in
    (id, record { s = s; there = numbered_get st id k s numbered; named = named })

-- by hypotheses with the same labels
pub said_alike : (before others : List Sentence) (s t : Sentence) (tokens : List (List ℕ))
    (a b : List (Move (List ℕ)))
    → ((hs ks : List Sentence) → AreMandatory before s hs → AreMandatory others t ks
    → map (λ (h : Sentence). h.label) hs ≡ map (λ (h : Sentence). h.label) ks)
    → SayMoves before s tokens a → SayMoves others t tokens b → a ≡ b
said_alike before others s t tokens a b alike (inl p) (inl q) = p.1 ∙ sym q.1
said_alike before others s t tokens a b alike (inl p) (inr q) =
    absurd (normal_or_compressed tokens q.listed q.letters p.0 q.parts)
said_alike before others s t tokens a b alike (inr p) (inl q) =
    absurd (normal_or_compressed tokens p.listed p.letters q.0 p.parts)
said_alike before others s t tokens a b alike (inr p) (inr q) =
    moves_once before s tokens a b (inr p) (inr (record {
      listed = q.listed;
      letters = q.letters;
      parts = q.parts;
      codes = q.codes;
      coded = q.coded;
      hypotheses = p.hypotheses;
      mandatory = p.mandatory;
      labels = q.labels;
      labelled = alike p.hypotheses q.hypotheses p.mandatory q.mandatory ∙ q.labelled;
      each = q.each;
    }))

-- ---- where labels keep their widths

-- a label that may stand over trees has a number
number_stands : (st : List Sentence) (i : ℕ) (label : List ℕ) (below : Trees)
    → MayStandOver (take i st) label below → (id : ℕ) × IsNumberOfLabel st id label
number_stands st i label below (inl p) =
    number_at st p.1.0 p.1.1 label (get_from_front st i p.1.0 p.1.1 p.1.2) p.1.4.0
number_stands st i label below (inr p) =
    number_at st p.0 p.1 label (get_from_front st i p.0 p.1 p.3.there) p.3.named

module _ (st others : List Sentence) (i j : ℕ) (meant : AllMeant st) (meant_too : AllMeant others)
    (kept : KeepWidths st others) where
  stands_kept : (label : List ℕ) (below below' : Trees) → MayStandOver (take i st) label below
      → MayStandOver (take j others) label below' → roots below ≡ roots below'
  stands_kept label below below' stands stands_too =
      let (id, here) = number_stands st i label below stands in
      let (n, there) = number_stands others j label below' stands_too in
      let (width, wide, wide_too) = kept id (named_number st id label here) n label here there in
      stands_width st i id label below meant here width wide stands
      ∙ sym (stands_width others j n label below' meant_too there width wide_too stands_too)

  all_kept_wide : (moves : List (Move (List ℕ)))
      → AllByRecursion (StandsAsWide (take i st) (take j others)) moves
  all_kept_wide [] = tt
  all_kept_wide (name label ∷ moves) = (
    (λ below below' stands stands_too. stands_kept label below below' stands stands_too),
    all_kept_wide moves,
  )
  all_kept_wide (again tag ∷ moves) = (tt, all_kept_wide moves)
  all_kept_wide (mark ∷ moves) = (tt, all_kept_wide moves)

  -- proofs of the same tokens make one tree
  pub tokens_tree : (s t : Sentence) (tokens : List (List ℕ)) (a b : List (Move (List ℕ)))
      (u v : Trees) (k l : List Trees)
      → ((hs ks : List Sentence) → AreMandatory (take i st) s hs → AreMandatory (take j others) t ks
      → map (λ (h : Sentence). h.label) hs ≡ map (λ (h : Sentence). h.label) ks)
      → SayMoves (take i st) s tokens a → SayMoves (take j others) t tokens b
      → Makes (take i st) a none [] u k → Makes (take j others) b none [] v l → u ≡ v
  tokens_tree s t tokens a b u v k l alike said said_too makes makes_too =
      let same : a ≡ b =
      said_alike (take i st) (take j others) s t tokens a b alike said said_too in
      made_in_both (take i st) (take j others) a none u v [] k l (all_kept_wide a) makes
      (subst (λ (ms : List (Move (List ℕ))). Makes (take j others) ms none [] v l) (sym same)
      makes_too)
