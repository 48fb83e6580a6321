-- Two readings side by side, statement by statement: what was there and what was put in, and the
-- blocks that are open.
use Rattle.std.proofs.Common.{◌≡◌, ℕ, suc, ◌+◌, List, [], ◌∷◌, ◌++◌, map, length, take, cond}
use Rattle.std.proofs.Common.{true, inl, inr, refl, sym, ap, subst, ◌∙◌}
use Rattle.std.proofs.Common.{arith, append_assoc, append-nil, take_all}
use Rattle.std.specs.List.{flat_map}
use Rattle.std.proofs.lemmas.List.{map-append}
use Rattle.std.proofs.lemmas.List.Concat.{flat_map-append}
use Rattle.std.proofs.lemmas.List.Elements.{All-nil, All-push}
use Rattle.mm_base.specs.declared.statement.Kind.{Kind}
use Rattle.mm_base.specs.declared.statement.Kind.TheVariants.{Opening, Closing}
use Rattle.mm_base.specs.Blocks.{is_opening, is_closing}
use Rattle.mm_base.specs.Statement.{PlainStatement}
use Rattle.mm_base.proofs.Lists.{last_cut, nil_append, take_next}
use Rattle.mm_text.specs.Files.{PlainFile}
use Rattle.mm_frame.specs.Active.{open_marks, close_marks}
use Rattle.mm_frame.specs.Sentence.{Sentence, sentence_of}
use Rattle.mm_frame.proofs.Blocks.NumberedBlocks.{closings-append, closings_one}
use Rattle.mm_frame.proofs.Blocks.NumberedBlocks.{openings-append, openings_one}
use Rattle.mm_rules.specs.Verdict.{is_proof, sentences}
use Rattle.mm_with_lemmas.specs.WithLemmas.{IsCondition, IsLemma, IsStrictAfter, Kept, MayStand}
use Rattle.mm_with_lemmas.specs.WithLemmas.{Part, Put, new_of, old_of, put_of, said}
use Rattle.mm_with_lemmas.specs.declared.lemma.Place.{Place}
use Rattle.mm_with_lemmas.specs.declared.lemma.Stage.{Stage}
use Rattle.mm_with_lemmas.specs.declared.lemma.Stage.TheVariants.{Outside, Conditions, Proved}
use Rattle.mm_with_lemmas.specs.Mirror.Walking.{AreParts, IsBegun, IsBlockBegun, IsBlockProved}
use Rattle.mm_with_lemmas.specs.Mirror.Walking.{IsDepth, IsDepthAfter, IsGrown, IsStrictIfProved}
use Rattle.mm_with_lemmas.specs.Mirror.Walking.{IsWalked, IsWholeLemma, MeetsKept, MeetsPut}

-- ---- a lemma on its way

-- a block begins
pub block_begun : (s : PlainStatement) → s.kind ≡ Opening → IsBlockBegun (s ∷ [])
block_begun s opens = record {
  opening = s;
  conditions = [];
  whole = refl;
  opens = opens;
  each = All-nil IsCondition;
}

-- with one more condition
pub block_on : (partial : List PlainStatement) (s : PlainStatement) → IsCondition s
    → IsBlockBegun partial → IsBlockBegun (partial ++ s ∷ [])
block_on partial s condition b = record {
  opening = b.opening;
  conditions = b.conditions ++ s ∷ [];
  whole = ap (λ (ss : List PlainStatement). ss ++ s ∷ []) b.whole;
  opens = b.opens;
  each = All-push IsCondition b.conditions s b.each condition;
}

-- with its theorem
pub block_proved : (before partial : List PlainStatement) (s : PlainStatement)
    → is_proof s ≡ true → IsStrictIfProved (before ++ partial) s → IsBlockBegun partial
    → IsBlockProved before (partial ++ s ∷ [])
block_proved before partial s complete strict b = record {
  theorem = s;
  complete = complete;
  opening = b.opening;
  conditions = b.conditions;
  whole = ap (λ (ss : List PlainStatement). ss ++ s ∷ []) b.whole;
  opens = b.opens;
  each = b.each;
  strict = subst (λ (ss : List PlainStatement). IsStrictAfter (before ++ ss) s) b.whole
      (strict complete);
}

-- and closed
pub block_closed : (before partial : List PlainStatement) (s : PlainStatement) → s.kind ≡ Closing
    → IsBlockProved before partial → IsWholeLemma before (partial ++ s ∷ [])
block_closed before partial s closes b = record {
  theorem = b.theorem;
  complete = b.complete;
  alone = inr (record {
    opening = b.opening;
    conditions = b.conditions;
    closing = s;
    whole = ap (λ (ss : List PlainStatement). ss ++ s ∷ []) b.whole
        ∙ append_assoc (b.opening ∷ b.conditions) (b.theorem ∷ []) (s ∷ []);
    opens = b.opens;
    each = b.each;
    closes = closes;
    strict = b.strict;
  });
}

-- a theorem alone
pub theorem_alone : (before : List PlainStatement) (s : PlainStatement) → is_proof s ≡ true
    → IsStrictIfProved before s → IsWholeLemma before (s ∷ [])
theorem_alone before s complete strict = record {
  theorem = s;
  complete = complete;
  alone = inl (refl, strict complete);
}

-- ---- blocks

depth_of_kind : (kind : Kind) (opens closes depth after : ℕ) → opens ≡ closes + depth
    → IsDepthAfter depth kind after
    → opens + cond (is_opening kind) 1 0 ≡ closes + cond (is_closing kind) 1 0 + after
depth_of_kind Opening opens closes depth after is step = omega arith
depth_of_kind Closing opens closes depth after is step = omega arith
depth_of_kind kind opens closes depth after is step = omega arith

depth_on : (taken : List PlainStatement) (s : PlainStatement) (depth after : ℕ)
    → IsDepth taken depth → IsDepthAfter depth s.kind after → IsDepth (taken ++ s ∷ []) after
depth_on taken s depth after is step =
    let all : List Sentence = sentences taken in
    let one : List Sentence = sentence_of s ∷ [] in
    let more : sentences (taken ++ s ∷ []) ≡ all ++ one = map-append sentence_of taken (s ∷ []) in
    let opens = ap open_marks more ∙ openings-append all one in
    let closes = ap close_marks more ∙ closings-append all one in
    let opened = openings_one (sentence_of s) (is_opening s.kind) refl in
    let closed = closings_one (sentence_of s) (is_closing s.kind) refl in
    let whole = depth_of_kind s.kind (open_marks all) (close_marks all) depth after is step in
    omega (arith, opens, closes, opened, closed, whole)

-- ---- parts

-- each of the parts may stand where it does
abbrev AreStanding : (files anew : List PlainFile) → List Part → Type 0
AreStanding files anew parts =
    (before after : List Part) (part : Part) → parts ≡ before ++ part ∷ after
    → MayStand files anew (flat_map new_of before) part

standing_on : (files anew : List PlainFile) (parts : List Part) (p : Part)
    → AreStanding files anew parts → MayStand files anew (flat_map new_of parts) p
    → AreStanding files anew (parts ++ p ∷ [])
standing_on files anew parts p each may before after part split =
    elim (last_cut parts p before part after split) [
      | inl (mid, earlier) ↦ each before mid part earlier
      | inr (same, is) ↦
          subst (λ (q : Part). MayStand files anew (flat_map new_of before) q) is
          (subst (λ (ps : List Part). MayStand files anew (flat_map new_of ps) p) (sym same) may)
    ]

-- what is read of them, with one more
parts_on : (f : Part → List PlainStatement) (parts : List Part) (p : Part)
    → flat_map f (parts ++ p ∷ []) ≡ flat_map f parts ++ f p
parts_on f parts p =
    flat_map-append f parts (p ∷ [])
    ∙ ap (λ (ss : List PlainStatement). flat_map f parts ++ ss) (append-nil (f p))

-- ---- the walk

pub walked_none : (files anew : List PlainFile) (statements put : List PlainStatement)
    → IsWalked files anew statements put [] statements
    (record { put = 0; depth = 0; stage = Outside })
walked_none files anew statements put = record {
  parts = [];
  partial = [];
  old = refl;
  new = refl;
  each = λ before after part split. absurd (nil_append before part after split);
  lemmas = refl;
  begun = refl;
  outside = inl refl;
  depth = omega arith;
}

-- outside of lemmas nothing of one was met
no_part : (stage : Stage) (before partial : List PlainStatement) → stage ≡ Outside
    → IsBegun stage before partial → partial ≡ []
no_part Outside before partial is none = none
no_part stage before partial is begun = absurd cc

none_begun : (stage : Stage) (before : List PlainStatement) → stage ≡ Outside
    → IsBegun stage before []
none_begun Outside before is = refl
none_begun stage before is = absurd cc

module _ (files anew : List PlainFile) (statements put taken : List PlainStatement) where
  -- a statement that was there
  pub walked_kept : (left : List PlainStatement) (at after : Place) (o n : PlainStatement)
      → IsWalked files anew statements put taken (o ∷ left) at → MeetsKept at n.kind after
      → MayStand files anew taken (Kept o n)
      → IsWalked files anew statements put (taken ++ n ∷ []) left after
  walked_kept left at after o n w meets may =
      let none : w.partial ≡ [] =
      no_part at.stage (flat_map new_of w.parts) w.partial meets.before w.begun in
      let read : taken ≡ flat_map new_of w.parts =
      w.new ∙ ap (λ (ss : List PlainStatement). flat_map new_of w.parts ++ ss) none
      ∙ append-nil (flat_map new_of w.parts) in
      let more : List Part = w.parts ++ Kept o n ∷ [] in
      record {
        parts = more;
        partial = [];
        old = w.old ∙ sym (ap (λ (ss : List PlainStatement). ss ++ left) (parts_on old_of w.parts (Kept o n))
            ∙ append_assoc (flat_map old_of w.parts) (o ∷ []) left);
        new = ap (λ (ss : List PlainStatement). ss ++ n ∷ []) read
            ∙ sym (parts_on new_of w.parts (Kept o n)) ∙ sym (append-nil (flat_map new_of more));
        each = standing_on files anew w.parts (Kept o n) w.each
            (subst (λ (ss : List PlainStatement). MayStand files anew ss (Kept o n)) read may);
        lemmas = ap (map said) (append-nil (flat_map put_of more) ∙ parts_on put_of w.parts (Kept o n))
            ∙ ap (λ (ss : List PlainStatement). map said (flat_map put_of w.parts ++ ss)) (sym none)
            ∙ w.lemmas ∙ ap (λ (k : ℕ). map said (take k put)) (sym meets.count);
        begun = none_begun after.stage (flat_map new_of more) meets.after;
        outside = inl meets.after;
        depth = depth_on taken n at.depth after.depth w.depth meets.depth;
      }

  -- the lemma that is met stands outside of blocks
  stands_outside : (left : List PlainStatement) (at after : Place) (s : PlainStatement)
      → (w : IsWalked files anew statements put taken left at) → MeetsPut put at s after
      → IsDepth (flat_map new_of w.parts) 0
  stands_outside left at after s w meets = elim w.outside [
    | inl is ↦
        let none : w.partial ≡ [] =
        no_part at.stage (flat_map new_of w.parts) w.partial is w.begun in
        let read : taken ≡ flat_map new_of w.parts =
        w.new ∙ ap (λ (ss : List PlainStatement). flat_map new_of w.parts ++ ss) none
        ∙ append-nil (flat_map new_of w.parts) in
        subst (λ (ss : List PlainStatement). IsDepth ss 0) read
        (subst (λ (n : ℕ). IsDepth taken n) (meets.outside is) w.depth)
    | inr outside ↦ outside
  ]

  -- what was put in so far, with one more
  put_next : (at after : Place) (s : PlainStatement) (met : List PlainStatement)
      → MeetsPut put at s after → map said met ≡ map said (take at.put put)
      → map said (met ++ s ∷ []) ≡ map said (take after.put put)
  put_next at after s met meets same =
      let count : suc at.put ≡ after.put = let more = meets.count in omega arith in
      map-append said met (s ∷ [])
      ∙ (λ i. same i ++ meets.same i ∷ [])
      ∙ sym (map-append said (take at.put put) (meets.next ∷ []))
      ∙ ap (map said) (sym (take_next put at.put meets.next meets.there))
      ∙ ap (λ (k : ℕ). map said (take k put)) count

  -- the last statement of a lemma
  whole_next : (left : List PlainStatement) (at after : Place) (s : PlainStatement)
      → (w : IsWalked files anew statements put taken left at) → MeetsPut put at s after
      → after.stage ≡ Outside → IsWholeLemma (flat_map new_of w.parts) (w.partial ++ s ∷ [])
      → IsWalked files anew statements put (taken ++ s ∷ []) left after
  whole_next left at after s w meets is whole =
      let lemma : List PlainStatement = w.partial ++ s ∷ [] in
      let outside = stands_outside left at after s w meets in
      let stands : IsLemma (flat_map new_of w.parts) lemma = record {
        outside = omega (arith, outside);
        theorem = whole.theorem;
        complete = whole.complete;
        alone = whole.alone;
      } in
      let more : List Part = w.parts ++ Put lemma ∷ [] in
      record {
        parts = more;
        partial = [];
        old = w.old ∙ ap (λ (ss : List PlainStatement). ss ++ left)
            (sym (parts_on old_of w.parts (Put lemma) ∙ append-nil (flat_map old_of w.parts)));
        new = ap (λ (ss : List PlainStatement). ss ++ s ∷ []) w.new
            ∙ append_assoc (flat_map new_of w.parts) w.partial (s ∷ [])
            ∙ sym (parts_on new_of w.parts (Put lemma)) ∙ sym (append-nil (flat_map new_of more));
        each = standing_on files anew w.parts (Put lemma) w.each stands;
        lemmas = ap (map said) (append-nil (flat_map put_of more) ∙ parts_on put_of w.parts (Put lemma)
            ∙ sym (append_assoc (flat_map put_of w.parts) w.partial (s ∷ [])))
            ∙ put_next at after s (flat_map put_of w.parts ++ w.partial) meets w.lemmas;
        begun = none_begun after.stage (flat_map new_of more) is;
        outside = inl is;
        depth = depth_on taken s at.depth after.depth w.depth meets.depth;
      }

  -- another one of it
  part_next : (left : List PlainStatement) (at after : Place) (s : PlainStatement)
      → (w : IsWalked files anew statements put taken left at) → MeetsPut put at s after
      → IsBegun after.stage (flat_map new_of w.parts) (w.partial ++ s ∷ [])
      → IsWalked files anew statements put (taken ++ s ∷ []) left after
  part_next left at after s w meets begun = record {
    parts = w.parts;
    partial = w.partial ++ s ∷ [];
    old = w.old;
    new = ap (λ (ss : List PlainStatement). ss ++ s ∷ []) w.new
        ∙ append_assoc (flat_map new_of w.parts) w.partial (s ∷ []);
    each = w.each;
    lemmas = ap (map said) (sym (append_assoc (flat_map put_of w.parts) w.partial (s ∷ [])))
        ∙ put_next at after s (flat_map put_of w.parts ++ w.partial) meets w.lemmas;
    begun = begun;
    outside = inr (stands_outside left at after s w meets);
    depth = depth_on taken s at.depth after.depth w.depth meets.depth;
  }

  -- a statement that was put in
  grown_next : (left : List PlainStatement) (at after : Place) (s : PlainStatement) (stage : Stage)
      → (w : IsWalked files anew statements put taken left at) → MeetsPut put at s after
      → after.stage ≡ stage → IsGrown stage (flat_map new_of w.parts) (w.partial ++ s ∷ [])
      → IsWalked files anew statements put (taken ++ s ∷ []) left after
  grown_next left at after s Outside w meets is whole =
      whole_next left at after s w meets is whole
  grown_next left at after s Conditions w meets is begun =
      part_next left at after s w meets
      (subst (λ (t : Stage). IsBegun t (flat_map new_of w.parts) (w.partial ++ s ∷ [])) (sym is)
      begun)
  grown_next left at after s Proved w meets is begun =
      part_next left at after s w meets
      (subst (λ (t : Stage). IsBegun t (flat_map new_of w.parts) (w.partial ++ s ∷ [])) (sym is)
      begun)

  pub walked_put : (left : List PlainStatement) (at after : Place) (s : PlainStatement)
      → IsStrictIfProved taken s → IsWalked files anew statements put taken left at
      → MeetsPut put at s after → IsWalked files anew statements put (taken ++ s ∷ []) left after
  walked_put left at after s strict w meets =
      let read = subst (λ (ss : List PlainStatement). IsStrictIfProved ss s) w.new strict in
      grown_next left at after s after.stage w meets refl
      (meets.grown (flat_map new_of w.parts) w.partial read w.begun)

  -- the end
  pub walked_all : (at : Place) → IsWalked files anew statements put taken [] at
      → at.stage ≡ Outside → at.put ≡ length put → AreParts files anew statements taken put
  walked_all at w is all =
      let none : w.partial ≡ [] = no_part at.stage (flat_map new_of w.parts) w.partial is w.begun in
      record {
        parts = w.parts;
        old = w.old ∙ append-nil (flat_map old_of w.parts);
        new = w.new ∙ ap (λ (ss : List PlainStatement). flat_map new_of w.parts ++ ss) none
            ∙ append-nil (flat_map new_of w.parts);
        each = w.each;
        lemmas = sym (ap (λ (ss : List PlainStatement). map said (flat_map put_of w.parts ++ ss)) (sym none)
            ∙ w.lemmas ∙ ap (map said) (take_all at.put put (omega arith)))
            ∙ ap (map said) (append-nil (flat_map put_of w.parts));
      }
