-- Moves that pass: each prefix of them has passed.
use Rattle.std.proofs.Common.{◌≡◌, ℕ, List, [], ◌∷◌, ◌++◌, map, slice_get, Some}
use Rattle.std.proofs.Common.{inl, ⊎_elim, refl, sym, ap, subst, ◌∙◌, ◌<◌, ◌≤◌}
use Rattle.std.proofs.Common.{length, append-nil, arith}
use Rattle.std.proofs.lemmas.Option.{slice_get_within}
use Rattle.mm_base.proofs.Lists.{zip_push, zip_right, zip_left, zip_front}
use Rattle.mm_frame.specs.Sentence.{Sentence}
use Rattle.mm_frame.specs.Rules.{AllMeant}
use Rattle.mm_step.specs.Substitution.{instance_of}
use Rattle.mm_step.specs.Tree.{Trees, none, tree, beside, DeriveAll}
use Rattle.mm_step.specs.Moves.{Move, name, again, mark, Makes, MakesOne}
use Rattle.mm_proof.specs.Proof.{Prove}
use Rattle.mm_step.specs.Proof.{Passed, BreaksMove, FirstAtMove}
use Rattle.mm_step.proofs.ProofSteps.OneStep.{StepTo}
use Rattle.mm_step.proofs.ProofSteps.OneStep.{step_breaks_none}
use Rattle.mm_step.proofs.ProofSteps.Derivations.{makes_more}
use Rattle.mm_step.proofs.ProofSteps.Derivations.{derive_beside, derive_halves}
use Rattle.mm_step.proofs.ProofSteps.Derivations.{single_derives, tree_step, derived_once}
use Rattle.mm_step.proofs.ProofSteps.Derivations.{makes_split, makes_once, zip_once, derive_apart}
use Rattle.std.specs.List.{AllZip}
use Rattle.mm_step.specs.declared.fault.ProofRule.{ProofRule}
use Rattle.mm_step.specs.declared.fault.ProofRule.TheVariants.{L1}

-- ---- one move more

-- no moves
pub passed_none : (Fits : List (List ℕ) → Type 0) (before : List Sentence) → Passed Fits before [] [] []
passed_none Fits before = record { trees = none; shelf = []; made = (refl, refl); derived = refl; kept_derived = tt }

-- a step by a tag
pub passed_again : (Fits : List (List ℕ) → Type 0) (before : List Sentence) (moves : List (Move (List ℕ))) (stack kept : List (List (List ℕ))) (tag : ℕ) (e : List (List ℕ))
    → Passed Fits before moves stack kept → slice_get kept tag ≡ Some e → Passed Fits before (moves ++ again tag ∷ []) (stack ++ e ∷ []) kept
passed_again Fits before moves stack kept tag e passed there =
    let t = zip_right (λ u f. DeriveAll Fits before u (f ∷ [])) passed.shelf kept tag e passed.kept_derived there in
    record {
      trees = beside passed.trees t.0;
      shelf = passed.shelf;
      made = makes_more before moves (again tag) none passed.trees (beside passed.trees t.0) [] passed.shelf passed.shelf passed.made (t.0, t.1, refl, refl);
      derived = derive_beside Fits before passed.trees t.0 stack (e ∷ []) passed.derived t.2;
      kept_derived = passed.kept_derived;
    }

-- a mark
pub passed_mark : (Fits : List (List ℕ) → Type 0) (before : List Sentence) (moves : List (Move (List ℕ))) (rest kept : List (List (List ℕ))) (e : List (List ℕ))
    → Passed Fits before moves (rest ++ e ∷ []) kept → Passed Fits before (moves ++ mark ∷ []) (rest ++ e ∷ []) (kept ++ e ∷ [])
passed_mark Fits before moves rest kept e passed =
    let h = derive_halves Fits before passed.trees rest (e ∷ []) passed.derived in
    let one = single_derives Fits before h.right e h.derive_right in
    let t : Trees = tree one.0 one.1 none in
    record {
      trees = passed.trees;
      shelf = passed.shelf ++ t ∷ [];
      made = makes_more before moves mark none passed.trees passed.trees [] passed.shelf (passed.shelf ++ t ∷ []) passed.made
          (h.left, one.0, one.1, h.parts ∙ ap (beside h.left) one.2, refl, refl);
      derived = passed.derived;
      kept_derived = zip_push (λ u f. DeriveAll Fits before u (f ∷ [])) passed.shelf kept t e passed.kept_derived
          (subst (λ u. DeriveAll Fits before u (e ∷ [])) one.2 h.derive_right);
    }

-- ---- the end

-- all moves passed and left the statement's expression
pub prove_at_end : (Fits : List (List ℕ) → Type 0) (before : List Sentence) (s : Sentence) (moves : List (Move (List ℕ))) (kept : List (List (List ℕ)))
    → Passed Fits before moves (s.symbols ∷ []) kept → Prove Fits before s moves
prove_at_end Fits before s moves kept passed =
    let one = single_derives Fits before passed.trees s.symbols passed.derived in
    record {
      label = one.0;
      below = one.1;
      kept = passed.shelf;
      made = subst (λ t. Makes before moves none [] t passed.shelf) one.2 passed.made;
      derived = subst (λ t. DeriveAll Fits before t (s.symbols ∷ [])) one.2 passed.derived;
    }

-- ==== each prefix of moves that passed has passed, and no move of it breaks a rule

-- trees that keep expressions derive them
abbrev pub KeepAll : (List (List ℕ) → Type 0) → List Sentence → List Trees → List (List (List ℕ)) → Type 0
KeepAll Fits before shelf kept = AllZip (λ t e. DeriveAll Fits before t (e ∷ [])) shelf kept

-- ---- what moves left stood in what they make

-- what the last tree of a row stands over derives its hypotheses, and the step by its label makes what it derives
pub record Step (Fits : List (List ℕ) → Type 0) (before : List Sentence) (row : Trees) (label : List ℕ) (es : List (List (List ℕ))) : Type 0 where
  pub stack : List (List (List ℕ))
  pub rest : List (List (List ℕ))
  pub e : List (List ℕ)
  pub derived : DeriveAll Fits before row stack
  pub step : StepTo before stack label rest e
  pub fits : Fits e
  pub after : es ≡ rest ++ e ∷ []

pub step_of_tree : (Fits : List (List ℕ) → Type 0) (before : List Sentence) (rest : Trees) (label : List ℕ) (below : Trees) (es : List (List (List ℕ))) → AllMeant before
    → DeriveAll Fits before (beside rest (tree label below none)) es → Step Fits before (beside rest below) label es
step_of_tree Fits before rest label below es all derived =
    let parts = derive_apart Fits before rest (tree label below none) es derived in
    let d = parts.4 in
    let after : es ≡ parts.0 ++ d.0 ∷ [] = parts.2 ∙ ap (λ l. parts.0 ++ l) (d.2 ∙ ap (λ l. d.0 ∷ l) d.5) in
    ⊎_elim
    (λ leaf. record {
      stack = parts.0 ++ [];
      rest = parts.0;
      e = d.0;
      derived = derive_beside Fits before rest below parts.0 [] parts.3 (subst (λ b. DeriveAll Fits before b []) (sym leaf.0) refl);
      step = inl (record {
        kept = sym (append-nil parts.0);
        index = leaf.1.0;
        hypothesis = leaf.1.1;
        there = leaf.1.2;
        active = leaf.1.3;
        named = leaf.1.4.0;
        kind = leaf.1.4.1;
        made = leaf.1.4.2;
      });
      fits = d.3;
      after = after;
    })
    (λ n. record {
      stack = parts.0 ++ map (λ (h : Sentence). instance_of n.3 h.symbols) n.2;
      rest = parts.0;
      e = d.0;
      derived = derive_beside Fits before rest below parts.0 (map (λ (h : Sentence). instance_of n.3 h.symbols) n.2) parts.3 n.6;
      step = tree_step before label n.0 n.1 n.2 n.3 parts.0 d.0 all n.4 n.5 n.7 n.8;
      fits = d.3;
      after = after;
    }) d.4

-- the row that a move is made on derives what stands on the stack, and the kept trees what is kept
pub record Stood (Fits : List (List ℕ) → Type 0) (before : List Sentence) (row : Trees) (shelf : List Trees) : Type 0 where
  pub stack : List (List (List ℕ))
  pub kept : List (List (List ℕ))
  pub derived : DeriveAll Fits before row stack
  pub kept_derived : KeepAll Fits before shelf kept

module _ (Fits : List (List ℕ) → Type 0) (before : List Sentence) where
  one_stood : (move : Move (List ℕ)) (a b : Trees) (k l : List Trees) → AllMeant before
      → MakesOne before move a k b l → Stood Fits before b l → Stood Fits before a k
  one_stood (name label) a b k l all m s =
      let t = step_of_tree Fits before m.0 label m.1 s.stack all (subst (λ x. DeriveAll Fits before x s.stack) m.4 s.derived) in
      let held = rw m.5 at s.kept_derived in
      record { stack = t.stack; kept = s.kept; derived = rw m.2 t.derived; kept_derived = held }
  one_stood (again tag) a b k l all m s =
      let parts = derive_apart Fits before a m.0 s.stack (subst (λ x. DeriveAll Fits before x s.stack) m.2 s.derived) in
      record { stack = parts.0; kept = s.kept; derived = parts.3; kept_derived = subst (λ x. KeepAll Fits before x s.kept) m.3 s.kept_derived }
  one_stood mark a b k l all m s =
      let prefix = zip_front (λ t e. DeriveAll Fits before t (e ∷ [])) k (tree m.1 m.2 none) s.kept (subst (λ x. KeepAll Fits before x s.kept) m.5 s.kept_derived) in
      record { stack = s.stack; kept = prefix.0; derived = subst (λ x. DeriveAll Fits before x s.stack) m.4 s.derived; kept_derived = prefix.3 }

  all_stood : (moves : List (Move (List ℕ))) (a b : Trees) (k l : List Trees) → AllMeant before
      → Makes before moves a k b l → Stood Fits before b l → Stood Fits before a k
  all_stood [] a b k l all m s = rw (m.0, m.1) at s
  all_stood (move ∷ moves) a b k l all m s = one_stood move a m.0 k m.1 all m.2 (all_stood moves m.0 b m.1 l all m.3 s)

-- ---- the stack is one

-- what the same moves leave is the same
pub passed_once : (Fits Gits : List (List ℕ) → Type 0) (before : List Sentence) (moves : List (Move (List ℕ))) (stack stack' kept kept' : List (List (List ℕ))) → AllMeant before
    → Passed Fits before moves stack kept → Passed Gits before moves stack' kept' → (stack ≡ stack') × (kept ≡ kept')
passed_once Fits Gits before moves stack stack' kept kept' all p q =
    let one = makes_once before moves none p.trees q.trees [] p.shelf q.shelf all p.made q.made in (
      derived_once Fits Gits before q.trees q.trees stack stack' all (subst (λ x. DeriveAll Fits before x stack) one.0 p.derived) q.derived refl,
      zip_once (λ t e. DeriveAll Fits before t (e ∷ [])) (λ t e. DeriveAll Gits before t (e ∷ [])) q.shelf kept kept'
          (λ t e f d g. let same : e ∷ [] ≡ f ∷ [] = derived_once Fits Gits before t t (e ∷ []) (f ∷ []) all d g refl in cc)
          (subst (λ x. KeepAll Fits before x kept) one.1 p.kept_derived) q.kept_derived,
    )

-- ---- a move that goes on breaks no rule

-- of moves that passed, a prefix has passed with what it left, and the move after it is made on
-- that
pub record Went (Fits : List (List ℕ) → Type 0) (before : List Sentence) (stack kept : List (List (List ℕ))) (move : Move (List ℕ)) : Type 0 where
  pub row : Trees
  pub shelf : List Trees
  pub derived : DeriveAll Fits before row stack
  pub kept_derived : KeepAll Fits before shelf kept
  pub row' : Trees
  pub shelf' : List Trees
  pub made : MakesOne before move row shelf row' shelf'
  pub stood : Stood Fits before row' shelf'

pub went_on : (Fits Gits : List (List ℕ) → Type 0) (before : List Sentence) (earlier : List (Move (List ℕ))) (move : Move (List ℕ)) (later : List (Move (List ℕ)))
    (last : Trees) (end : List Trees) (stack kept : List (List (List ℕ))) → AllMeant before
    → Makes before (earlier ++ move ∷ later) none [] last end → Stood Fits before last end → Passed Gits before earlier stack kept → Went Fits before stack kept move
went_on Fits Gits before earlier move later last end stack kept all made stood passed =
    let s = makes_split before earlier (move ∷ later) none last [] end made in
    let m = s.3 in
    let after : Stood Fits before m.0 m.1 = all_stood Fits before later m.0 last m.1 end all m.3 stood in
    let here : Stood Fits before s.0 s.1 = one_stood Fits before move s.0 m.0 s.1 m.1 all m.2 after in
    let prefix : Passed Fits before earlier here.stack here.kept =
    record { trees = s.0; shelf = s.1; made = s.2; derived = here.derived; kept_derived = here.kept_derived } in
    let one = passed_once Fits Gits before earlier here.stack stack here.kept kept all prefix passed in
    record {
      row = s.0;
      shelf = s.1;
      derived = subst (DeriveAll Fits before s.0) one.0 here.derived;
      kept_derived = subst (KeepAll Fits before s.1) one.1 here.kept_derived;
      row' = m.0;
      shelf' = m.1;
      made = m.2;
      stood = after;
    }

-- the step by a label
pub went_step : (Fits : List (List ℕ) → Type 0) (before : List Sentence) (stack kept : List (List (List ℕ))) (label : List ℕ) → AllMeant before
    → Went Fits before stack kept (name label) → (rest : List (List (List ℕ))) × (e : List (List ℕ)) × StepTo before stack label rest e × Fits e
went_step Fits before stack kept label all w =
    let m = w.made in
    let t = step_of_tree Fits before m.0 label m.1 w.stood.stack all (subst (λ x. DeriveAll Fits before x w.stood.stack) m.4 w.stood.derived) in
    let same : t.stack ≡ stack = derived_once Fits Fits before w.row w.row t.stack stack all (subst (λ x. DeriveAll Fits before x t.stack) (sym m.2) t.derived) w.derived refl in
    (t.rest, t.e, subst (λ k. StepTo before k label t.rest t.e) same t.step, t.fits)

pub nothing_left : (Fits : List (List ℕ) → Type 0) (before : List Sentence) (rest : Trees) (label : List ℕ) (below : Trees) → DeriveAll Fits before (beside rest (tree label below none)) [] → ⊥
nothing_left Fits before none label below d = let p : [] ≡ d.0 ∷ d.1 = d.2 in absurd cc
nothing_left Fits before (tree l b r) label below d = let p : [] ≡ d.0 ∷ d.1 = d.2 in absurd cc

pub went_well : (Fits Gits : List (List ℕ) → Type 0) (rule : ProofRule) (before : List Sentence) (stack kept : List (List (List ℕ))) (move : Move (List ℕ)) → AllMeant before
    → ((e : List (List ℕ)) → rule ≡ L1 → Fits e → Gits e) → Went Fits before stack kept move → ¬ (BreaksMove Gits rule before stack kept move)
went_well Fits Gits rule before stack kept (name label) all weaker w b =
    let s = went_step Fits before stack kept label all w in
    step_breaks_none Gits rule before stack label s.0 s.1 all (λ limit. weaker s.1 limit s.3) s.2 b
went_well Fits Gits rule before stack kept (again tag) all weaker w b =
    let e = zip_left (λ t f. DeriveAll Fits before t (f ∷ [])) w.shelf kept tag w.made.0 w.kept_derived w.made.1 in
    let within : tag < length kept = slice_get_within kept tag e.0 e.1 in
    let over : length kept ≤ tag = b.1 in
    absurd (omega arith)
went_well Fits Gits rule before stack kept mark all weaker w b =
    nothing_left Fits before w.made.0 w.made.1 w.made.2 (subst (λ x. DeriveAll Fits before x []) w.made.3 (subst (DeriveAll Fits before w.row) b.1 w.derived))

-- ---- what is kept derives

-- the row before moves derives, and what they keep does if what was kept before them did
abbrev Back : (List (List ℕ) → Type 0) → List Sentence → Trees → List Trees → List Trees → Type 0
Back Fits before a k l =
    (ds : List (List (List ℕ))) × DeriveAll Fits before a ds
    × ((ks : List (List (List ℕ))) → KeepAll Fits before k ks
    → (ls : List (List (List ℕ))) × KeepAll Fits before l ls)

one_back : (Fits : List (List ℕ) → Type 0) (before : List Sentence) (move : Move (List ℕ)) (a b : Trees) (k l : List Trees) (es : List (List (List ℕ))) → AllMeant before
    → MakesOne before move a k b l → DeriveAll Fits before b es → Back Fits before a k l
one_back Fits before (name label) a b k l es all m d =
    let t = step_of_tree Fits before m.0 label m.1 es all (rw m.4 at d) in
    (t.stack, rw m.2 t.derived, λ ks h. (ks, rw m.5 h))
one_back Fits before (again tag) a b k l es all m d =
    let parts = derive_apart Fits before a m.0 es (rw m.2 at d) in
    (parts.0, parts.3, λ ks h. (ks, rw m.3 h))
one_back Fits before mark a b k l es all m d =
    let t : Trees = tree m.1 m.2 none in
    let parts = derive_apart Fits before m.0 t es (rw (m.4, m.3) at d) in
    let last = parts.4 in
    let one : parts.1 ≡ last.0 ∷ [] = last.2 ∙ ap (λ l. last.0 ∷ l) last.5 in
    let push = zip_push (λ t e. DeriveAll Fits before t (e ∷ [])) k in
    (es, rw m.4 at d, λ ks h. (ks ++ last.0 ∷ [], rw m.5 (push ks t last.0 h (rw one at last))))

all_back : (Fits : List (List ℕ) → Type 0) (before : List Sentence) (moves : List (Move (List ℕ))) (a b : Trees) (k l : List Trees) (es : List (List (List ℕ))) → AllMeant before
    → Makes before moves a k b l → DeriveAll Fits before b es → Back Fits before a k l
all_back Fits before [] a b k l es all m d = (es, rw m.0 at d, λ ks h. (ks, rw m.1 h))
all_back Fits before (move ∷ moves) a b k l es all m d =
    let next = all_back Fits before moves m.0 b m.1 l es all m.3 d in
    let one = one_back Fits before move a m.0 k m.1 next.0 all m.2 next.1 in
    (one.0, one.1, λ ks h. let more = one.2 ks h in next.2 more.0 more.1)

-- moves that prove the statement have passed
pub proof_passed : (Fits : List (List ℕ) → Type 0) (before : List Sentence) (s : Sentence) (moves : List (Move (List ℕ))) → AllMeant before → Prove Fits before s moves
    → (kept : List (List (List ℕ))) × Passed Fits before moves (s.symbols ∷ []) kept
proof_passed Fits before s moves all p =
    let k = (all_back Fits before moves none (tree p.label p.below none) [] p.kept (s.symbols ∷ []) all p.made p.derived).2 [] tt in
    (k.0, record { trees = tree p.label p.below none; shelf = p.kept; made = p.made; derived = p.derived; kept_derived = k.1 })

-- no move of moves that passed breaks a rule
pub no_fault_within : (Fits : List (List ℕ) → Type 0) (before : List Sentence) (earlier : List (Move (List ℕ))) (move : Move (List ℕ)) (later : List (Move (List ℕ)))
    (stack kept last end : List (List (List ℕ))) (rule : ProofRule) → AllMeant before
    → Passed Fits before (earlier ++ move ∷ later) last end → Passed Fits before earlier stack kept → FirstAtMove Fits rule before stack kept move → ⊥
no_fault_within Fits before earlier move later stack kept last end rule all whole passed fault =
    went_well Fits Fits rule before stack kept move all (λ e limit fits. fits)
    (went_on Fits Fits before earlier move later whole.trees whole.shelf stack kept all whole.made
    (record { stack = last; kept = end; derived = whole.derived; kept_derived = whole.kept_derived }) passed) fault.broken
