-- Labels by their numbers, which rise with the indices of their statements, moves by theirs, and a
-- whole proof at the index of its statement's number.
use Rattle.std.proofs.Common.{◌≡◌, ℕ, ◌<◌, ◌≤◌, List, length, take, sym, ap, ◌∙◌, arith, slice_get}
use Rattle.std.proofs.Common.{inr, subst}
use Rattle.mm_frame.specs.Sentence.{Sentence, IsLabelled}
use Rattle.mm_frame.specs.Numbers.{labelled_sentences, IsNumbered}
use Rattle.mm_frame.specs.Rules.{AllMeant}
use Rattle.mm_frame.proofs.Names.LabelNumbers.{numbered_rise}
use Rattle.mm_step.specs.Moves.{Move, name, again, mark}
use Rattle.mm_step.specs.Steps.{IsNumberedMove, AreSteps, IsProofNumber, IsUsableMove}
use Rattle.mm_proof.specs.Mirror.CodeSteps.{IsUnknown, IsReading}
use Rattle.mm_base.proofs.Lists.{get_from_take}
use Rattle.mm_step.proofs.ProofSteps.OneStep.{one_label}
use Rattle.std.specs.List.{AllByRecursion}
use Rattle.std.proofs.lemmas.Option.{same_Some}
use Rattle.mm_step.specs.declared.fault.ProofRule.{ProofRule}
use Rattle.mm_proof.specs.Proof.{IsWhole, IsWholeFault}
use Rattle.mm_step.specs.Proof.{IsWithin}
use Rattle.mm_proof.specs.Verified.{OfMoves, ProvesUsingNumbers, TokensProve}
use Rattle.mm_proof.specs.Parsed.{OfProof, SaySteps}
use Rattle.mm_step.specs.declared.profile.Profile.{Profile}
use Rattle.mm_proof.specs.CheckedPrefix.{Pass, AreAllowed}
use Rattle.mm_proof.specs.Strict.{HasFormOf}
use Rattle.mm_proof.specs.UnderProfile.{HaveFirstFault}
use Rattle.mm_step.proofs.ByNumbers.OneIndex.{one_index}

-- ==== labels by their numbers, which rise with the indices of their statements, and moves by
-- theirs

-- a number that isn't less is that of no earlier statement
numbers_order_back : (statements : List Sentence) (i j p q : ℕ) (s t : Sentence) → IsNumbered statements i p s → IsNumbered statements j q t → j ≤ i → q ≤ p
numbers_order_back statements i j p q s t n m le =
    let before = numbered_rise statements i j p q s t n m in grind arith

-- a lesser number is that of an earlier statement
pub numbers_order : (statements : List Sentence) (i j p q : ℕ) (s t : Sentence) → IsNumbered statements i p s → IsNumbered statements j q t → i < j → p < q
numbers_order statements i j p q s t n m less =
    let le = numbers_order_back statements j i q p t s m n (omega arith) in
    let same : p ≡ q → i ≡ j =
    λ e. sym n.number ∙ ap (λ k. length (labelled_sentences (take k statements))) e ∙ m.number in
    grind arith

-- the statement with a number that isn't less has the label, so no statement before has it
pub not_earlier : (statements : List Sentence) (found at : ℕ) (s : Sentence) (id index : ℕ) (own : Sentence) (label : List ℕ) → AllMeant statements
    → IsNumbered statements found at s → IsLabelled label s → IsNumbered statements id index own → id ≤ found → IsUnknown statements index label
not_earlier statements found at s id index own label all n named m le h =
    let prefix = get_from_take statements index h.0 h.1 h.2 in
    let one : h.0 ≡ at = one_label statements h.0 at h.1 s label all prefix.1 n.there h.3 named in
    let after = numbers_order_back statements found id at index s own n m le in
    absurd (let before : h.0 < index = prefix.0 in omega arith)

-- a move by a number is that of one label
pub one_move : (st : List Sentence) (x : Move ℕ) (y z : Move (List ℕ)) → IsNumberedMove st x y → IsNumberedMove st x z → y ≡ z
one_move st (name id) y z a b =
    let same : a.0 ≡ b.0 = cc (a.2, b.2) in
    let named = rw same at a.3 in
    cc (named, b.3, a.4, b.4)
one_move st (again tag) y z a b = a ∙ sym b
one_move st mark y z a b = a ∙ sym b

-- ==== what is read as a proof at its own index, wherever the statement with its number stands

pub reading_said : (st : List Sentence) (id own : ℕ) (t : Sentence) (tokens : List (List ℕ)) (steps : List (Move ℕ)) → IsNumbered st id own t → IsReading st own tokens steps
    → OfProof st id (λ index s. SaySteps st index s tokens steps)
reading_said st id own t tokens steps number r index s proof =
    let at = one_index st id own index t s number proof.numbered in
    let same = same_Some r.own s (sym r.there ∙ ap (slice_get st) at ∙ proof.numbered.there) in (
      subst (λ (k : ℕ). IsWhole (take k st) tokens) at r.whole,
      r.moves,
      rw (same, at) at r.said,
      r.numbered,
    )

pub reading_usable : (st : List Sentence) (id own index : ℕ) (t s : Sentence) (tokens : List (List ℕ)) (steps : List (Move ℕ)) → IsNumbered st id own t → IsProofNumber st id index s
    → IsReading st own tokens steps → AreSteps st id steps
reading_usable st id own index t s tokens steps number proof r = record {
  index = index;
  s = s;
  proof = proof;
  moves = r.moves;
  numbered = r.numbered;
  usable = subst (λ (k : ℕ). AllByRecursion (IsUsableMove (take k st)) r.moves) (one_index st id own index t s number proof.numbered) r.usable;
}

pub whole_fault_there : (st : List Sentence) (id own : ℕ) (t : Sentence) (tokens : List (List ℕ)) (rule : ProofRule) (step : ℕ) → IsNumbered st id own t
    → (step ≡ 0) × IsWholeFault (take own st) tokens rule → OfProof st id (λ index s. (step ≡ 0) × IsWholeFault (take index st) tokens rule)
whole_fault_there st id own t tokens rule step number f index s proof =
    (f.0, subst (λ (k : ℕ). IsWholeFault (take k st) tokens rule) (one_index st id own index t s number proof.numbered) f.1)

-- ---- the tokens, from what is said of their moves

pub tokens_prove : (limit : ℕ) (st : List Sentence) (id : ℕ) (tokens : List (List ℕ)) (steps : List (Move ℕ)) (used : List ℕ) → OfProof st id (λ index s. SaySteps st index s tokens steps)
    → OfMoves st id steps (λ index s moves. ProvesUsingNumbers limit st index s moves used) → OfProof st id (λ index s. TokensProve limit (take index st) s tokens used)
tokens_prove limit st id tokens steps used says proves index s proof =
    let said = says index s proof in
    let p = proves index s said.1 proof said.3 in
    record { proof = record { whole = said.0; moves = said.1; said = said.2; proves = p.0 }; all = p.1 }

pub tokens_pass : (limit : ℕ) (st : List Sentence) (id : ℕ) (tokens : List (List ℕ))
    (steps : List (Move ℕ)) → OfProof st id (λ index s. SaySteps st index s tokens steps)
    → OfMoves st id steps (λ index s moves. Pass (IsWithin limit) (take index st) moves)
    → OfProof st id (λ index s. AreAllowed (IsWithin limit) (take index st) s tokens)
tokens_pass limit st id tokens steps says passes index s proof =
    let said = says index s proof in
    record {
      whole = said.0;
      moves = said.1;
      said = said.2;
      pass = passes index s said.1 proof said.3;
    }

-- their fault, from that of their moves
pub tokens_fail : (Faults : ℕ → Sentence → List (Move (List ℕ)) → ProofRule → ℕ → Type 0)
    (profile : Profile) (st : List Sentence) (id : ℕ) (tokens : List (List ℕ))
    (steps : List (Move ℕ)) (rule : ProofRule) (step : ℕ)
    → OfProof st id (λ index s. SaySteps st index s tokens steps)
    → OfProof st id (λ index s. HasFormOf profile (take index st) s tokens)
    → OfMoves st id steps (λ index s moves. Faults index s moves rule step)
    → OfProof st id (λ index s.
    HaveFirstFault (Faults index s) profile (take index st) s tokens rule step)
tokens_fail Faults profile st id tokens steps rule step says form fails index s proof =
    let said = says index s proof in
    inr (said.0, form index s proof, said.1, said.2, fails index s said.1 proof said.3)
