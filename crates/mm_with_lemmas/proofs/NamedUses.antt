-- Labels, numbers and uses, by what is kept of a database and by what was read.
use Rattle.std.proofs.Common.{◌≡◌, ℕ, ◌+◌, ◌<◌, List, [], ◌∷◌, ◌++◌, map, take, length, get_or}
use Rattle.std.proofs.Common.{Some, inl, inr, refl, sym, ap, subst, ◌∙◌, slice_get, Contains}
use Rattle.std.proofs.lemmas.List.{map-append}
use Rattle.std.proofs.lemmas.List.Elements.{Contains-push_cases}
use Rattle.std.proofs.lemmas.Option.{same_Some}
use Rattle.mm_base.specs.Statement.{PlainStatement}
use Rattle.mm_frame.specs.declared.number.LabelId.{LabelId}
use Rattle.mm_frame.specs.Numbers.{IsNumbered, labelled_sentences}
use Rattle.mm_frame.specs.Rules.{AllMeant}
use Rattle.mm_frame.specs.Sentence.{IsLabelled, Sentence, sentence_of}
use Rattle.mm_frame.proofs.Names.LabelNumbers.{numbered_get}
use Rattle.mm_proof.proofs.ProofNumbers.MoreLabels.{one_more}
use Rattle.mm_rules.specs.Answer.{IsKeptOf}
use Rattle.mm_rules.specs.Conclusion.{Conclusion}
use Rattle.mm_rules.specs.Rests.{IsNamed}
use Rattle.mm_rules.specs.Verdict.{sentences}
use Rattle.mm_verdict.proofs.Questions.AskedTheorems.{found_as, used_is}
use Rattle.mm_with_lemmas.specs.WithLemmas.{UsesNamed}
use Rattle.mm_with_lemmas.specs.Mirror.Using.{HasName, IsTold, UsesIn}

-- ---- labels

-- the label of a number is one
pub one_name : (ss : List Sentence) (text label : List ℕ) (id : ℕ)
    → ((s : Sentence) → slice_get (labelled_sentences ss) id ≡ Some s → IsLabelled text s)
    → HasName ss label id → text ≡ label
one_name ss text label id told (index, s, numbered, labelled) =
    same_Some text label (sym (told s (numbered_get ss id index s numbered)) ∙ labelled)

-- ---- lists of numbers

-- one more
pub each_more : (P : ℕ → Type 0) (ids : List LabelId) (i : ℕ) (d : LabelId) → i < length ids
    → ((n : ℕ) → Contains (map (λ (l : LabelId). l.0) (take i ids)) n → P n) → P (get_or ids i d).0
    → (n : ℕ) → Contains (map (λ (l : LabelId). l.0) (take (i + 1) ids)) n → P n
each_more P ids i d less before last n among =
    let number : LabelId → ℕ = λ l. l.0 in
    let x : LabelId = get_or ids i d in
    let more : map number (take (i + 1) ids) ≡ map number (take i ids) ++ x.0 ∷ [] =
    ap (map number) (one_more ids i d x less refl) ∙ map-append number (take i ids) (x ∷ []) in
    elim (Contains-push_cases (map number (take i ids)) x.0 n
    (subst (λ (ns : List ℕ). Contains ns n) more among)) [
      | inl earlier ↦ before n earlier
      | inr same ↦ subst P same last
    ]

-- ---- by what was read

module _ (statements : List PlainStatement) (c : Conclusion) (kept : IsKeptOf statements c) where
  pub name_of : (label : List ℕ) (id : ℕ) → IsNamed statements label (λ s. Unit {0}) id
      → HasName c.sentences label id
  name_of label id (index, s, at, (labelled, so)) = (
    index,
    sentence_of s,
    subst (λ (ss : List Sentence). IsNumbered ss id index (sentence_of s)) (sym kept.sentences)
        at.numbered,
    labelled,
  )

  pub named_of : (label : List ℕ) (id : ℕ) → HasName c.sentences label id
      → IsNamed statements label (λ s. Unit {0}) id
  named_of label id (index, s, numbered, labelled) =
      found_as statements c label (λ k. Unit {0}) id index s kept numbered labelled tt

  pub told_of : (label : List ℕ) (id : ℕ) → IsNamed statements label (λ s. Unit {0}) id
      → IsTold c.sentences label
  told_of label id named =
      let (index, s, numbered, labelled) = name_of label id named in
      (index, s, numbered.there, labelled)

  pub uses_of : AllMeant (sentences statements) → (label used : List ℕ) → UsesIn c label used
      → UsesNamed statements label used
  uses_of meant label used (id, n, named, named_too, uses) = (
    id,
    n,
    named_of label id named,
    named_of used n named_too,
    (used_is statements c.uses meant kept.uses id n).0 uses,
  )
