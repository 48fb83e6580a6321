-- The labels of a tree, and the tokens of a fully shared proof of it, are a proof of what it
-- derives.
use Rattle.std.proofs.Common.{◌≡◌, ℕ, List, [], ◌∷◌, ◌++◌, drop, slice_get, Contains}
use Rattle.std.proofs.Common.{Some, inl, inr, refl, sym, ap, subst, arith, append_assoc, ⊎_elim}
use Rattle.std.proofs.Common.{zero, suc, ◌≤◌, length, ◌∙◌, flat_map}
use Rattle.std.proofs.lemmas.List.Elements.{Contains-append_left, Contains-append_right}
use Rattle.mm_base.proofs.Lists.{get_before, get_parted}
use Rattle.mm_code.specs.declared.code.Code.{Code}
use Rattle.mm_code.specs.declared.code.CodeRule.{CodeRule}
use Rattle.mm_code.specs.Letters.{Letters, LettersBreak}
use Rattle.mm_code.specs.Layout.{in_parentheses}
use Rattle.mm_frame.specs.Sentence.{Sentence, SomeSentence, IsLabelled, IsAssertion}
use Rattle.mm_frame.specs.Rules.{AllMeant}
use Rattle.mm_step.specs.Tree.{Trees, none, tree, spelling, MayStandOver, TreesFit, DeriveAll}
use Rattle.mm_step.specs.Moves.{name, Move, mark, Makes}
use Rattle.mm_proof.specs.Tokens.{opening_token, closing_token, SaysCompressed}
use Rattle.mm_proof.specs.Tokens.{AreLetters}
use Rattle.mm_forms.specs.Sharing.{AreFirstUses, PairMakes, IsPacked, ShareThose}
use Rattle.mm_step.proofs.ProofSteps.Derivations.{derive_fits}
use Rattle.mm_proof.proofs.ProofTokens.SaidMoves.{labels_once, letters_once}
use Rattle.mm_proof.proofs.ProofTokens.SaidMoves.{compressed_once, moves_once}
use Rattle.mm_proof.proofs.ProofTokens.CodeLetters.{coded_not_broken}
use Rattle.mm_proof.proofs.Members.{contains_first, contains_later, contains_cases, contains_in}
use Rattle.mm_proof.proofs.Members.{once_indices}
use Rattle.mm_frame.proofs.Frames.FrameLaws.{mandatory_unique}
use Rattle.mm_forms.specs.BigSubtrees.{IsBig}
use Rattle.mm_forms.specs.Visits.{makes, keeps, visits}
use Rattle.mm_proof.specs.Strict.{IsStrictList, MarkAssertions, IsStrict}
use Rattle.mm_forms.proofs.FullSharing.OneSharedProof.{uses_apart}
use Rattle.mm_proof.proofs.ProofVerdicts.StrictForm.{last_of}
use Rattle.mm_proof.proofs.ProofTokens.WrittenLabels.{ByLabel, IsProofBy, label_fits, label_in, no_member, whole_of}

-- ---- the tokens of a fully shared proof

-- listed labels are among those of the tree
first_used : (seen word listed : List (List ℕ)) (label : List ℕ) → AreFirstUses seen word listed → Contains listed label → Contains word label
first_used seen [] listed label uses c = absurd (no_member label (subst (λ (ls : List (List ℕ)). Contains ls label) uses c))
first_used seen (own ∷ word) listed label (inl (old, uses)) c = contains_later own word label (first_used seen word listed label uses c)
first_used seen (own ∷ word) listed label (inr (new, others, e, uses)) c =
    ⊎_elim (λ same. subst (Contains (own ∷ word)) same (contains_first own word))
    (λ h. contains_later own word label (first_used (own ∷ seen) word others label uses h))
    (contains_cases own others label (rw e at c))

module _ (before : List Sentence) (s : Sentence) (trees : Trees) (listed : List (List ℕ))
    (codes : List Code) where
  -- a pair that makes trees, whose list has labels of the trees alone
  pub record MakesKnown : Type 0 where
    pub makes : PairMakes before s trees listed codes
    pub known : (label : List ℕ) → Contains listed label → Contains (spelling trees) label

  pub packed_listed : (label : List ℕ) → IsPacked before s trees listed codes
      → Contains listed label → Contains (spelling trees) label
  packed_listed label p c = first_used p.says.labels (spelling trees) listed label p.uses c

  abbrev pub packed_makes : IsPacked before s trees listed codes → MakesKnown
  packed_makes p = record {
    makes = record { moves = p.moves; says = p.says; kept = p.shared.kept; made = p.shared.made };
    known = λ label c. packed_listed label p c;
  }

  -- its tokens say its moves
  abbrev pub pair_says : (letters : List ℕ) (pieces : List (List ℕ))
      (p : MakesKnown) → Letters letters codes
      → flat_map (λ piece. piece) pieces ≡ letters → ¬ (Contains (spelling trees) closing_token)
      → SaysCompressed before s (in_parentheses listed ++ pieces) p.makes.moves
  pair_says letters pieces p coded joined apart = record {
    listed = listed;
    letters = pieces;
    parts = record {
      whole = ap (λ (l : List (List ℕ)). opening_token ∷ l)
          (append_assoc listed (closing_token ∷ []) pieces);
      first = λ c. apart (p.known closing_token c);
    };
    codes = codes;
    coded = subst (λ (text : List ℕ). Letters text codes) (sym joined) coded;
    hypotheses = p.makes.says.hypotheses;
    mandatory = p.makes.says.mandatory;
    labels = p.makes.says.labels;
    labelled = p.makes.says.labelled;
    each = p.makes.says.each;
  }

-- the tokens of a pair that makes a tree prove what the tree derives
pub pair_proves : (Fits : List (List ℕ) → Type 0) (before : List Sentence) (s : Sentence)
    (label : List ℕ) (below : Trees) (listed : List (List ℕ)) (codes : List Code)
    (letters : List ℕ) (pieces : List (List ℕ)) → AllMeant before
    → MakesKnown before s (tree label below none) listed codes → Letters letters codes
    → flat_map (λ piece. piece) pieces ≡ letters
    → ¬ (Contains (spelling (tree label below none)) closing_token)
    → DeriveAll Fits before (tree label below none) (s.symbols ∷ [])
    → IsProofBy Fits before s (in_parentheses listed ++ pieces) label below
pair_proves Fits before s label below listed codes letters pieces meant p coded joined apart
    derived =
    let trees : Trees = tree label below none in
    let tokens : List (List ℕ) = in_parentheses listed ++ pieces in
    let text : List ℕ = flat_map (λ piece. piece) pieces in
    let fit : TreesFit before trees = derive_fits Fits before trees (s.symbols ∷ []) derived in
    let says = pair_says before s trees listed codes letters pieces p coded joined apart in
    let closes : Contains (drop 1 tokens) closing_token =
    Contains-append_left (listed ++ closing_token ∷ []) pieces closing_token
    (Contains-append_right listed (closing_token ∷ []) closing_token
    (contains_first closing_token [])) in
    let broken_not : (others : List ℕ) (rule : CodeRule) → AreLetters tokens others
    → ¬ (LettersBreak rule others) = λ others rule are broken.
    let same : others ≡ text =
    letters_once tokens others text are (listed, pieces, says.parts, refl) in
    coded_not_broken text codes rule says.coded (subst (LettersBreak rule) same broken) in (
      record {
        whole = whole_of before tokens listed meant (λ broken. broken.1 closes)
            (λ others are. labels_once tokens others listed are (inr (pieces, says.parts)))
            (λ l used. label_fits before trees l fit (p.known l used)) broken_not;
        moves = p.makes.moves;
        said = inr says;
        proves = record {
          label = label;
          below = below;
          kept = p.makes.kept;
          made = p.makes.made;
          derived = derived;
        };
      },
      refl,
    )

pub packed_proves : (Fits : List (List ℕ) → Type 0) (before : List Sentence) (s : Sentence)
    (label : List ℕ) (below : Trees) (listed : List (List ℕ)) (codes : List Code)
    (letters : List ℕ) (pieces : List (List ℕ)) → AllMeant before
    → IsPacked before s (tree label below none) listed codes → Letters letters codes
    → flat_map (λ piece. piece) pieces ≡ letters
    → ¬ (Contains (spelling (tree label below none)) closing_token)
    → DeriveAll Fits before (tree label below none) (s.symbols ∷ [])
    → IsProofBy Fits before s (in_parentheses listed ++ pieces) label below
packed_proves Fits before s label below listed codes letters pieces meant p coded joined apart
    derived =
    let trees : Trees = tree label below none in
    pair_proves Fits before s label below listed codes letters pieces meant
    (packed_makes before s trees listed codes p) coded joined apart derived

-- the labels by first use are listed once, and those of mandatory hypotheses aren't
packed_list : (before : List Sentence) (s : Sentence) (trees : Trees) (listed : List (List ℕ))
    (codes : List Code) → IsPacked before s trees listed codes → IsStrictList before s listed
packed_list before s trees listed codes p =
    let u = uses_apart (spelling trees) p.says.labels listed p.uses in
    record {
      once = λ i j label a b. once_indices listed i j label u.0 a b;
      optional = λ hypotheses h label those has named among.
          let same : hypotheses ≡ p.says.hypotheses =
          mandatory_unique before s hypotheses p.says.hypotheses those p.says.mandatory in
          u.1 label (contains_in listed label among)
          (label_in p.says.hypotheses p.says.labels h label p.says.labelled
          (rw same at (contains_in hypotheses h has)) named);
    }

-- ---- the marks

-- a mark keeps a tree
kept_there : (before : List Sentence) (moves : List (Move (List ℕ))) (row : Trees)
    (kept : List Trees) (row' : Trees) (kept' : List Trees)
    (made : Makes before moves row kept row' kept') (i : ℕ) → slice_get moves i ≡ Some mark
    → (t : Trees) × (slice_get (visits before moves row kept row' kept' made) i ≡ Some (keeps t))
kept_there before [] row kept row' kept' made i at = absurd cc
kept_there before (mark ∷ moves) row kept row' kept' made zero at =
    (tree made.2.1 made.2.2 none, refl)
kept_there before (move ∷ moves) row kept row' kept' made zero at = absurd cc
kept_there before (move ∷ moves) row kept row' kept' made (suc i) at =
    kept_there before moves made.0 made.1 row' kept' made.3 i at

module _ (before : List Sentence) where
  pub made_there : (moves : List (Move (List ℕ))) (row : Trees) (kept : List Trees) (row' : Trees)
      (kept' : List Trees) (made : Makes before moves row kept row' kept') (j : ℕ) (t : Trees)
      → slice_get (visits before moves row kept row' kept' made) j ≡ Some (makes t)
      → ByLabel before (slice_get moves j) t
  made_there [] row kept row' kept' made j t at = absurd cc
  made_there (name label ∷ moves) row kept row' kept' made zero t at =
      record { label = label; below = made.2.1; whole = cc; there = refl; stands = made.2.3 }
  made_there (move ∷ moves) row kept row' kept' made zero t at = absurd cc
  made_there (move ∷ moves) row kept row' kept' made (suc j) t at =
      made_there moves made.0 made.1 row' kept' made.3 j t at

  -- what stands over a tree is an assertion's label
  pub big_assertion : (label : List ℕ) (below : Trees) → IsBig (tree label below none)
      → MayStandOver before label below
      → SomeSentence before (λ a. IsLabelled label a × IsAssertion a.kind)
  big_assertion label below big (inl (bare, h)) =
      absurd (let small : 2 ≤ 1 = rw bare at big in omega arith)
  big_assertion label below big (inr (index, assertion, hypotheses, names, many)) =
      (index, assertion, names.there, (names.named, names.kind))

  -- where moves share big subtrees alone, each mark stands right after a step by an assertion
  pub shared_marks : (P : Trees → Type 0) → ((t : Trees) → P t → IsBig t) → (trees : Trees)
      (moves : List (Move (List ℕ))) → ShareThose P before trees moves
      → MarkAssertions before moves
  shared_marks P are_big trees moves s prefix after parts =
      let at : slice_get moves (length prefix) ≡ Some mark = rw parts (get_parted prefix after mark) in
      let k = kept_there before moves none [] trees s.kept s.made (length prefix) at in
      let m = s.marked (length prefix) k.0 k.1 in
      let l = made_there moves none [] trees s.kept s.made m.1 k.0 m.3 in
      let held : slice_get prefix m.1 ≡ Some (name l.label) =
      get_before prefix (mark ∷ after) m.1 (name l.label) (omega (arith, m.2))
      (ap (λ x. slice_get x m.1) (sym parts) ∙ l.there) in
      let last = last_of prefix m.1 (name l.label) m.2 held in (
        last.0,
        l.label,
        last.1,
        big_assertion l.label l.below (subst IsBig l.whole (are_big k.0 m.0)) l.stands,
      )

  -- ---- the form

  -- the tokens of a pair whose list and whose marks are strict have the strict form
  pub pair_is_strict : (s : Sentence) (trees : Trees) (listed : List (List ℕ)) (codes : List Code)
      (letters : List ℕ) (pieces : List (List ℕ)) (p : MakesKnown before s trees listed codes)
      → IsStrictList before s listed → MarkAssertions before p.makes.moves
      → Letters letters codes → flat_map (λ piece. piece) pieces ≡ letters
      → ¬ (Contains (spelling trees) closing_token)
      → IsStrict before s (in_parentheses listed ++ pieces)
  pair_is_strict s trees listed codes letters pieces p list marks coded joined apart =
      let tokens = in_parentheses listed ++ pieces in
      let says = pair_says before s trees listed codes letters pieces p coded joined apart in
      record {
        listed = λ labels others parts. subst (IsStrictList before s)
            (compressed_once tokens says.listed labels says.letters others says.parts parts).0 list;
        marked = λ others other. subst (MarkAssertions before)
            (moves_once before s tokens p.makes.moves others (inr says) (inr other)) marks;
      }

  -- the tokens of a packed proof have the strict form
  pub packed_is_strict : (s : Sentence) (trees : Trees) (listed : List (List ℕ)) (codes : List Code)
      (letters : List ℕ) (pieces : List (List ℕ)) → IsPacked before s trees listed codes
      → Letters letters codes → flat_map (λ piece. piece) pieces ≡ letters
      → ¬ (Contains (spelling trees) closing_token)
      → IsStrict before s (in_parentheses listed ++ pieces)
  packed_is_strict s trees listed codes letters pieces p coded joined apart =
      pair_is_strict s trees listed codes letters pieces
      (packed_makes before s trees listed codes p) (packed_list before s trees listed codes p)
      (shared_marks IsBig (λ t big. big) trees p.moves p.shared) coded joined apart
