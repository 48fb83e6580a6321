-- Distinct pairs of two frames, compared by names. On this file rests the contract of
-- `have_same_pairs`.
use Rattle.std.proofs.Common.{◌≡◌, ◌↔◌, ℕ, ◌<◌, List, take, length, Bool, true}
use Rattle.std.proofs.Common.{Contains, get_or, inl, inr, sym, ap, subst, ◌∙◌}
use Rattle.std.proofs.lemmas.Option.{same_Some, slice_get_within}
use Rattle.mm_base.proofs.Lists.{one_there}
use Rattle.mm_frame.specs.Frame.{IsMandatoryPair}
use Rattle.mm_frame.specs.FrameIndex.{FrameIndex, ArePairs}
use Rattle.mm_frame.specs.Numbers.{IsNumbered, IsNumberOf, symbols_of}
use Rattle.mm_frame.specs.Sentence.{Sentence, IsAssertion}
use Rattle.mm_frame.proofs.Frames.FrameLaws.{distinct_other}
use Rattle.mm_frame.proofs.Names.LabelNumbers.{numbered_unique}
use Rattle.mm_frame.specs.declared.distinct.DistinctPair.{DistinctPair}
use Rattle.mm_alike.specs.Mirror.Names.{ArePairsAmong, ArePairsOfSymbols, HaveSamePairs}
use Rattle.mm_alike.specs.Mirror.Names.{numbers_of_pairs}
use Rattle.mm_alike.proofs.AlikeLists.{mapped_there}

-- a mandatory pair is one in the other order
pub mandatory_other : (before : List Sentence) (s : Sentence) (x y : List ℕ)
    → IsMandatoryPair before s x y → IsMandatoryPair before s y x
mandatory_other before s x y (apart, one, other) = (distinct_other before x y apart, other, one)

-- the frame of the assertion at an index
abbrev pub frame_at : List Sentence → ℕ → FrameIndex
frame_at st index = record { statements = st; index = index }

-- these are the pairs of the assertion with a number
pub record HasPairs (st : List Sentence) (id : ℕ) (pairs : List (ℕ × ℕ)) : Type 0 where
  pub index : ℕ
  pub s : Sentence
  pub numbered : IsNumbered st id index s
  pub are : ArePairs (frame_at st index) pairs

pub pairs_of_frame : (f : FrameIndex) (st : List Sentence) (id : ℕ) (pairs : List (ℕ × ℕ))
    → f.statements ≡ st → ((s : Sentence) × IsNumbered st id f.index s × IsAssertion s.kind)
    → ArePairs f pairs → HasPairs st id pairs
pairs_of_frame f st id pairs is (s, numbered, asserts) are =
    let same : f ≡ frame_at st f.index =
    ap (λ (ss : List Sentence). frame_at ss f.index) is in
    record {
      index = f.index;
      s = s;
      numbered = numbered;
      are = subst (λ (g : FrameIndex). ArePairs g pairs) same are;
    }

-- the numbers are those of symbols
pub pairs_within : (st : List Sentence) (id : ℕ) (pairs : List (ℕ × ℕ)) → HasPairs st id pairs
    → ArePairsOfSymbols st pairs
pairs_within st id pairs has p among =
    let (x, y, at_x, at_y, mandatory) = has.are.only p among in
    (slice_get_within (symbols_of st) p.0 x at_x, slice_get_within (symbols_of st) p.1 y at_y)

module _ (old new : List Sentence) (one other : ℕ) (ps qs : List (ℕ × ℕ))
    (here : HasPairs old one ps) (there : HasPairs new other qs) where
  own : here.are.assertion ≡ here.s
  own = one_there old here.index here.are.assertion here.s here.are.there here.numbered.there

  others : there.are.assertion ≡ there.s
  others =
      one_there new there.index there.are.assertion there.s there.are.there there.numbered.there

  -- a pair that is among those of the other frame is mandatory there
  pair_there : (p : ℕ × ℕ) (x y : List ℕ) → ArePairsAmong old new ps qs → Contains ps p
      → IsNumberOf old x p.0 → IsNumberOf old y p.1
      → IsMandatoryPair (take there.index new) there.are.assertion x y
  pair_there p x y all among at_x at_y =
      let (q, in_q, names) = all p among in
      let (u, v, at_u, at_v, m) = there.are.only q in_q in
      let M : List ℕ → List ℕ → Type 0 =
      IsMandatoryPair (take there.index new) there.are.assertion in
      elim names [
        | inl (a, b) ↦
            let xu : x ≡ u = same_Some x u (sym at_x ∙ a ∙ at_u) in
            let yv : y ≡ v = same_Some y v (sym at_y ∙ b ∙ at_v) in
            subst (λ (z : List ℕ). M z y) (sym xu) (subst (λ (z : List ℕ). M u z) (sym yv) m)
        | inr (a, b) ↦
            let xv : x ≡ v = same_Some x v (sym at_x ∙ a ∙ at_v) in
            let yu : y ≡ u = same_Some y u (sym at_y ∙ b ∙ at_u) in
            mandatory_other (take there.index new) there.are.assertion y x
            (subst (λ (z : List ℕ). M z x) (sym yu) (subst (λ (z : List ℕ). M u z) (sym xv) m))
      ]

  pub among_sound : ArePairsAmong old new ps qs → (x y : List ℕ)
      → IsMandatoryPair (take here.index old) here.s x y
      → IsMandatoryPair (take there.index new) there.s x y
  among_sound all x y m =
      let mine = subst (λ (s : Sentence). IsMandatoryPair (take here.index old) s x y) (sym own) m
      in
      let (p, at_x, at_y, side) = here.are.each x y mine in
      subst (λ (t : Sentence). IsMandatoryPair (take there.index new) t x y) others
      (elim side [
        | inl among ↦ pair_there p x y all among at_x at_y
        | inr swapped ↦
            mandatory_other (take there.index new) there.are.assertion y x
            (pair_there (p.1, p.0) y x all swapped at_y at_x)
      ])

  pub among_complete : ((x y : List ℕ) → IsMandatoryPair (take here.index old) here.s x y
      → IsMandatoryPair (take there.index new) there.s x y) → ArePairsAmong old new ps qs
  among_complete all p among =
      let (x, y, at_x, at_y, m) = here.are.only p among in
      let mine = subst (λ (s : Sentence). IsMandatoryPair (take here.index old) s x y) own m in
      let also = subst (λ (t : Sentence). IsMandatoryPair (take there.index new) t x y)
      (sym others) (all x y mine) in
      let (q, also_x, also_y, side) = there.are.each x y also in
      elim side [
        | inl in_q ↦ (q, in_q, inl (at_x ∙ sym also_x, at_y ∙ sym also_y))
        | inr in_q ↦ ((q.1, q.0), in_q, inr (at_x ∙ sym also_x, at_y ∙ sym also_y))
      ]

  -- what is had of the pairs of the two
  pub pairs_had : (h : HaveSamePairs old new one other) (x y : List ℕ)
      → IsMandatoryPair (take here.index old) here.s x y
      ↔ IsMandatoryPair (take there.index new) there.s x y
  pairs_had h x y =
      let (i, s) = numbered_unique old one h.i here.index h.s here.s h.numbered here.numbered in
      let (j, t) =
      numbered_unique new other h.j there.index h.t there.s h.other_numbered there.numbered in
      subst (λ (a : ℕ). IsMandatoryPair (take a old) here.s x y
      ↔ IsMandatoryPair (take there.index new) there.s x y) i
      (subst (λ (u : Sentence). IsMandatoryPair (take h.i old) u x y
      ↔ IsMandatoryPair (take there.index new) there.s x y) s
      (subst (λ (a : ℕ). IsMandatoryPair (take h.i old) h.s x y
      ↔ IsMandatoryPair (take a new) there.s x y) j
      (subst (λ (u : Sentence). IsMandatoryPair (take h.i old) h.s x y
      ↔ IsMandatoryPair (take h.j new) u x y) t (h.pairs x y))))

-- the pairs are the same where each of the one is among those of the other, and the other way round
pub same_pairs : (old new : List Sentence) (one other : ℕ) (ps qs : List (ℕ × ℕ))
    → HasPairs old one ps → HasPairs new other qs → ArePairsAmong old new ps qs → (b : Bool)
    → (b ≡ true) ↔ ArePairsAmong new old qs ps → (b ≡ true) ↔ HaveSamePairs old new one other
same_pairs old new one other ps qs here there all b back = (
  (λ t. record {
    i = here.index;
    s = here.s;
    numbered = here.numbered;
    j = there.index;
    t = there.s;
    other_numbered = there.numbered;
    pairs = λ x y. (
      among_sound old new one other ps qs here there all x y,
      among_sound new old other one qs ps there here (back.0 t) x y,
    );
  }),
  (λ h. back.1 (among_complete new old other one qs ps there here
      (λ x y m. (pairs_had old new one other ps qs here there h x y).1 m))),
)

pub other_pairs : (old new : List Sentence) (one other : ℕ) (ps qs : List (ℕ × ℕ))
    → HasPairs old one ps → HasPairs new other qs → ¬ (ArePairsAmong old new ps qs)
    → ¬ (HaveSamePairs old new one other)
other_pairs old new one other ps qs here there lacks h =
    lacks (among_complete old new one other ps qs here there
    (λ x y m. (pairs_had old new one other ps qs here there h x y).0 m))

-- the numbers of a pair at an index are those of symbols
pub pair_at : (st : List Sentence) (pairs : List DistinctPair) (i : ℕ) (d : DistinctPair)
    → ArePairsOfSymbols st (numbers_of_pairs pairs) → i < length pairs
    → ((get_or pairs i d).variables.0.0 < length (symbols_of st))
    × ((get_or pairs i d).variables.1.0 < length (symbols_of st))
pair_at st pairs i d all less =
    all ((get_or pairs i d).variables.0.0, (get_or pairs i d).variables.1.0)
    (mapped_there (λ (p : DistinctPair). (p.variables.0.0, p.variables.1.0)) pairs i d less)
