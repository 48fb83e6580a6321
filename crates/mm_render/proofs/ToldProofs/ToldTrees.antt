-- What is told of the steps of a theorem is told of its tree.
use Rattle.std.proofs.Common.{◌≡◌, ℕ, zero, suc, ◌<◌, List, [], ◌∷◌, take, length}
use Rattle.std.proofs.Common.{slice_get}
use Rattle.std.proofs.Common.{Some, inl, inr, sym, ap, subst, ◌∙◌, ◌++◌}
use Rattle.std.proofs.Common.{get_or, ◌⊎◌, arith}
use Rattle.mm_base.specs.Statement.{PlainStatement}
use Rattle.mm_frame.specs.declared.number.LabelId.{LabelId}
use Rattle.mm_frame.specs.Sentence.{Sentence, sentence_of, IsLabelled}
use Rattle.mm_frame.specs.Numbers.{labelled_sentences}
use Rattle.mm_base.proofs.Lists.{zip_length}
use Rattle.mm_step.specs.Tree.{Trees, spelling, none, tree}
use Rattle.mm_rules.specs.Verdict.{sentences}
use Rattle.mm_rules.specs.Rests.{IsAskFault}
use Rattle.std.proofs.lemmas.Option.{same_Some}
use Rattle.mm_step.specs.Moves.{Move}
use Rattle.mm_forms.specs.OneTree.{MakeOneTree}
use Rattle.mm_forms.specs.Spelled.{AreLabelsOf, IsNumberOfLabel}
use Rattle.mm_forms.specs.Packing.{OfTree}
use Rattle.mm_proof.specs.ReadSteps.{ReadSteps}
use Rattle.mm_proof.specs.Verified.{OfMoves}
use Rattle.mm_rules.specs.declared.ask.AskFault.{AskFault}
use Rattle.mm_rules.specs.declared.rule.AskRule.TheVariants.{L2}
use Rattle.mm_render.specs.Shown.{ShowsProof}
use Rattle.mm_render.specs.Forms.{most_labels, HasProofTree, IsNormalFault}
use Rattle.mm_verdict.specs.Mirror.Theorems.{AreProvedSteps, AreStepsOf}
use Rattle.mm_render.specs.Mirror.Theorems.{IsListingOf}
use Rattle.mm_rules.specs.declared.ask.AskFault.TheVariants as ask
use Rattle.mm_verdict.proofs.Questions.AskedTheorems.{of_theorem}

-- so they make one tree
pub steps_make : (st : List Sentence) (id : ℕ) (steps : ReadSteps) → AreProvedSteps st id steps → OfMoves st id steps.moves (λ index s moves. MakeOneTree (take index st) moves)
steps_make st id steps proved index s moves number numbered =
    let p = proved index s moves number numbered in (p.label, p.below, record { kept = p.kept; made = p.made })

-- the listing
pub shown_of : (ss : List Sentence) (statements : List PlainStatement) (label : List ℕ) (id : ℕ) (steps : List (Move ℕ)) (text : List ℕ)
    → ss ≡ sentences statements → AreStepsOf statements label id steps → OfMoves ss id steps (λ index s moves. IsListingOf (take index ss) moves text)
    → ShowsProof statements label text
shown_of ss statements label id steps text same r holds =
    let listed = of_theorem ss statements label id steps (λ before s moves. IsListingOf before moves text) same r holds in
    record {
      index = r.index;
      s = r.s;
      there = r.there;
      named = r.named;
      complete = r.complete;
      shown = record { moves = r.moves; told = r.told; steps = listed.0; listed = listed.1; laid = listed.2 };
    }

-- what is told of its tree
module _ (ss : List Sentence) (statements : List PlainStatement) (label : List ℕ) (id : ℕ)
    (steps : ReadSteps) (same : ss ≡ sentences statements)
    (r : AreStepsOf statements label id steps.moves) (proved : AreProvedSteps ss id steps)
    (P : List Sentence → Sentence → Trees → Type 0) (holds : OfMoves ss id steps.moves
    (λ index s moves. OfTree (take index ss) moves (P (take index ss) s))) where
  pub tree_told : (root : List ℕ) × (below : Trees)
      × HasProofTree statements label r.index r.s root below
      × P (sentences (take r.index statements)) (sentence_of r.s) (tree root below none)
  tree_told =
      let (root, below, made) =
      of_theorem ss statements label id steps.moves (λ before s moves. MakeOneTree before moves)
      same r (steps_make ss id steps proved) in
      let told =
      of_theorem ss statements label id steps.moves
      (λ before s moves. OfTree before moves (P before s)) same r holds in (
        root,
        below,
        record {
          there = r.there;
          named = r.named;
          complete = r.complete;
          moves = r.moves;
          told = r.told;
          made = made;
        },
        told root below made,
      )

  pub told_of_tree : (index : ℕ) × (s : PlainStatement) × (root : List ℕ) × (below : Trees)
      × HasProofTree statements label index s root below
      × P (sentences (take index statements)) (sentence_of s) (tree root below none)
  told_of_tree =
      let (root, below, has, told) = tree_told in (r.index, r.s, root, below, has, told)

pub normal_fault : (ss : List Sentence) (statements : List PlainStatement) (label : List ℕ) (id : ℕ) (steps : ReadSteps) (fault : AskFault)
    → ss ≡ sentences statements → AreStepsOf statements label id steps.moves → AreProvedSteps ss id steps
    → ((fault ≡ ask.Memory) ⊎ ((fault ≡ ask.Rule L2) × OfMoves ss id steps.moves (λ index s moves. OfTree (take index ss) moves (λ trees. most_labels < length (spelling trees)))))
    → IsNormalFault statements label fault
normal_fault ss statements label id steps fault same r proved (inl memory) = subst (IsNormalFault statements label) (sym memory) tt
normal_fault ss statements label id steps fault same r proved (inr (long, holds)) =
    rw long (told_of_tree ss statements label id steps same r proved
    (λ before s trees. most_labels < length (spelling trees)) holds)

pub ask_fault : (statements : List PlainStatement) (label : List ℕ) (fault : AskFault) → IsAskFault statements label fault → IsNormalFault statements label fault
ask_fault statements label (ask.Rule L2) h = absurd h
ask_fault statements label _ h = h

-- ---- labels by numbers

pub next_name : (st : List Sentence) (ids : List LabelId) (labels : List (List ℕ)) (k : ℕ) (d : LabelId) (label : List ℕ) → AreLabelsOf st ids labels → k < length ids
    → ((s : Sentence) → slice_get (labelled_sentences st) (get_or ids k d).0 ≡ Some s → IsLabelled label s) → take (suc k) labels ≡ take k labels ++ label ∷ []
next_name st [] labels k d label are less named = absurd (omega arith)
next_name st (id ∷ ids) [] k d label are less named = absurd are
next_name st (id ∷ ids) (first ∷ labels) zero d label are less named =
    let same : first ≡ label = same_Some first label (sym are.0.named ∙ named are.0.s are.0.there) in ap (λ (l : List ℕ). l ∷ []) same
next_name st (id ∷ ids) (first ∷ labels) (suc k) d label are less named =
    ap (λ (ls : List (List ℕ)). first ∷ ls) (next_name st ids labels k d label are.1 (omega arith) named)

pub as_many_names : (st : List Sentence) (ids : List LabelId) (labels : List (List ℕ)) → AreLabelsOf st ids labels → length labels ≡ length ids
as_many_names st ids labels are =
    sym (zip_length (λ (id : LabelId). IsNumberOfLabel st id.0) ids labels are)
