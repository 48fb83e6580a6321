-- What theorems rest on, by the labels of two databases. On this file rests the contract of
-- `are_founded`.
use Rattle.std.proofs.Common.{◌≡◌, ℕ, ◌+◌, List, [], ◌∷◌, ◌++◌, length, slice_get, Contains}
use Rattle.std.proofs.Common.{Option, Some, None, IfSome, false, inl, inr, refl, sym, ap, subst}
use Rattle.std.proofs.Common.{◌∙◌, arith, length-append}
use Rattle.std.proofs.Math.Decide.{ℕ_discrete}
use Rattle.std.proofs.lemmas.Bool.{false≢true}
use Rattle.mm_base.specs.Statement.{PlainStatement}
use Rattle.mm_base.proofs.Lists.{contains_from_at, at_from_contains, pushed_cases}
use Rattle.mm_text.specs.Reading.{Reads}
use Rattle.mm_frame.specs.declared.number.LabelId.{LabelId}
use Rattle.mm_frame.specs.Numbers.{IsNumbered, labelled_sentences}
use Rattle.mm_frame.specs.Rules.{AllMeant}
use Rattle.mm_frame.specs.Sentence.{IsLabelled, Sentence, sentence_of}
use Rattle.mm_frame.proofs.Rules.DecidedStatements.{dec_some}
use Rattle.mm_rules.specs.Answer.{IsKeptOf}
use Rattle.mm_rules.specs.Conclusion.{Conclusion, ProofUses}
use Rattle.mm_rules.specs.Mirror.Marks.{IsAxiomNumber, UsedIn}
use Rattle.mm_rules.specs.Rests.{AreInOrder, RestsOn, Uses}
use Rattle.mm_rules.specs.Verdict.{sentences}
use Rattle.mm_render.specs.Shorter.{IsUnfounded}
use Rattle.mm_verdict.proofs.Questions.AskedTheorems.{numbered_as, rests_as, used_is}
use Rattle.mm_verdict.proofs.Verdicts.AcceptedStatements.{KeptWell, read_statements}
use Rattle.mm_verdict.proofs.Verdicts.StatementByStatement.{all_meant}
use Rattle.mm_axioms.specs.Mirror.Shortening.{IsLoose}
use Rattle.mm_with_lemmas.specs.WithLemmas.{IsThere, RestsOnNamed}
use Rattle.mm_with_lemmas.specs.Mirror.Founding.{AreFormers, HasFormerAmong, IsFormer, IsFoundedBy}
use Rattle.mm_with_lemmas.specs.Mirror.Founding.{IsProofFounded}
use Rattle.mm_with_lemmas.specs.Mirror.Using.{HasName, IsTold}
use Rattle.mm_with_lemmas.proofs.NamedUses.{name_of, named_of, one_name, told_of}

-- ---- labels

module _ (old new : List Sentence) (text : List ℕ) (id : ℕ)
    (told : (s : Sentence) → slice_get (labelled_sentences new) id ≡ Some s → IsLabelled text s)
  where
    -- a statement has the label that the new one has
    pub former_is : (former : ℕ) → HasName old text former → IsFormer old new id former
    former_is former there label named =
        subst (λ (l : List ℕ). HasName old l former) (one_name new text label id told named) there

    -- none has it
    pub former_lacks : ¬ (IsTold old text) → (label : List ℕ) → HasName new label id
        → ¬ (IsTold old label)
    former_lacks none label named there =
        none (subst (λ (l : List ℕ). IsTold old l)
        (sym (one_name new text label id told named)) there)

-- ---- the table

-- a table has one for each number so far
pub record AreFormersTo (old new : List Sentence) (end : ℕ)
    (formers : List (Option LabelId)) : Type 0 where
  pub long : length formers ≡ end
  pub each : AreFormers old new formers

module _ (old new : List Sentence) where
  pub formers_none : (formers : List (Option LabelId)) → formers ≡ []
      → AreFormersTo old new 0 formers
  formers_none formers e =
      subst (λ (fs : List (Option LabelId)). AreFormersTo old new 0 fs) (sym e)
      (record { long = refl; each = λ id former at. absurd (cc at) })

  -- one more
  pub formers_more : (end : ℕ) (formers more : List (Option LabelId)) (o : Option LabelId)
      → AreFormersTo old new end formers → IfSome o (λ l. IsFormer old new end l.0)
      → more ≡ formers ++ o ∷ [] → AreFormersTo old new (end + 1) more
  formers_more end formers more o so_far some e =
      subst (λ (fs : List (Option LabelId)). AreFormersTo old new (end + 1) fs) (sym e) (record {
        long = omega (arith, length-append formers (o ∷ []), so_far.long);
        each = λ id former at. elim (pushed_cases formers o id (Some former) at) [
          | inl before ↦ so_far.each id former before
          | inr (last, is) ↦
              subst (λ (k : ℕ). IsFormer old new k former.0) (sym (last ∙ so_far.long))
              (subst (λ (p : Option LabelId). IfSome p (λ l. IsFormer old new end l.0)) is some)
        ];
      })

-- what the table has at a number
pub former_there : (formers : List (Option LabelId)) (id : ℕ) (o : Option LabelId)
    → slice_get formers id ≡ Some o → IfSome o (λ l. slice_get formers id ≡ Some (Some l))
former_there formers id None there = tt
former_there formers id (Some l) there = there

-- ---- what a theorem rests on

module _ (c d : Conclusion) (formers : List (Option LabelId)) (former id : ℕ)
    (of : AreFormers c.sentences d.sentences formers) where
  -- by their labels they are among those on which the old one rests
  rested_there : (P Q : ℕ → Type 0) (ids others : List ℕ)
      → AreInOrder (λ n. P n × RestsOn (UsedIn d.uses) id n) ids
      → AreInOrder (λ n. Q n × RestsOn (UsedIn c.uses) former n) others
      → ((n : ℕ) → Contains ids n → HasFormerAmong formers others n)
      → (n : ℕ) → P n → RestsOn (UsedIn d.uses) id n
      → (m : ℕ) × IsFormer c.sentences d.sentences n m × Q m × RestsOn (UsedIn c.uses) former m
  rested_there P Q ids others order order_too all n is rests =
      let (l, at, among) = all n ((order.each n).1 (is, rests)) in
      let (so, rests_too) = (order_too.each l.0).0 among in
      (l.0, of n l at, so, rests_too)

  pub founded_by : (axioms old_axioms unproved old_unproved : List ℕ)
      → AreInOrder (λ n. IsAxiomNumber d.sentences n × RestsOn (UsedIn d.uses) id n) axioms
      → AreInOrder (λ n. IsAxiomNumber c.sentences n × RestsOn (UsedIn c.uses) former n) old_axioms
      → AreInOrder (λ n. Contains d.incomplete n × RestsOn (UsedIn d.uses) id n) unproved
      → AreInOrder (λ n. Contains c.incomplete n × RestsOn (UsedIn c.uses) former n) old_unproved
      → ((n : ℕ) → Contains axioms n → HasFormerAmong formers old_axioms n)
      → ((n : ℕ) → Contains unproved n → HasFormerAmong formers old_unproved n)
      → IsFoundedBy c d former id
  founded_by axioms old_axioms unproved old_unproved a b u v all all_too n (inl is, rests) =
      let (m, there, so, rests_too) =
      rested_there (IsAxiomNumber d.sentences) (IsAxiomNumber c.sentences) axioms old_axioms a b all
      n is rests in
      (m, there, (inl so, rests_too))
  founded_by axioms old_axioms unproved old_unproved a b u v all all_too n (inr is, rests) =
      let (m, there, so, rests_too) =
      rested_there (λ k. Contains d.incomplete k) (λ k. Contains c.incomplete k) unproved
      old_unproved u v all_too n is rests in
      (m, there, (inr so, rests_too))

-- ---- of proofs

module _ (c d : Conclusion) where
  -- of a proof whose theorem was there
  pub founded_there : (id former : ℕ) (u : ProofUses)
      → IsFormer c.sentences d.sentences id former → id ≡ u.number → IsFoundedBy c d former id
      → IsProofFounded c d u
  founded_there id former u is number by = λ label named known. (
    former,
    is label (subst (λ (k : ℕ). HasName d.sentences label k) (sym number) named),
    subst (λ (k : ℕ). IsFoundedBy c d former k) number by,
  )

  -- of one whose theorem wasn't there
  pub founded_new : (id : ℕ) (u : ProofUses)
      → ((label : List ℕ) → HasName d.sentences label id → ¬ (IsTold c.sentences label))
      → id ≡ u.number → IsProofFounded c d u
  founded_new id u none number = λ label named known.
      absurd (none label (subst (λ (k : ℕ). HasName d.sentences label k) (sym number) named) known)

-- what rests on something has a proof
pub proof_resting : (uses : List ProofUses) (id n : ℕ) → RestsOn (UsedIn uses) id n
    → (u : ProofUses) × Contains uses u × (u.number ≡ id)
proof_resting uses id n rests =
    elim (dec_some (λ k (u : ProofUses). u.number ≡ id) (λ k u. ℕ_discrete u.number id) uses) [
      | yes (k, u, there, is) ↦ (u, contains_from_at uses u (k, there), is)
      | no none ↦ absurd (false≢true (rests (λ m. false) (record {
        own = λ used (u, among, is, holds). absurd (
            let (k, there) = at_from_contains uses u among in none (k, u, there, is));
        others = λ m used is holds. is;
      })))
    ]

-- ---- by what was read

module _ (statements : List PlainStatement) (c : Conclusion) (kept : IsKeptOf statements c) where
  loose_of : (n : ℕ) → IsUnfounded statements n → IsLoose c.sentences c.incomplete n
  loose_of n (inl (index, s, at, kind)) =
      inl (
        index,
        sentence_of s,
        subst (λ (ss : List Sentence). IsNumbered ss n index (sentence_of s)) (sym kept.sentences)
            at.numbered,
        kind,
      )
  loose_of n (inr unproved) = inr ((kept.incomplete.each n).1 unproved)

  unfounded_of : (n : ℕ) → IsLoose c.sentences c.incomplete n → IsUnfounded statements n
  unfounded_of n (inl (index, t, numbered, kind)) =
      let (s, at, said) = numbered_as statements n index t
      (subst (λ (ss : List Sentence). IsNumbered ss n index t) kept.sentences numbered) in
      inl (index, s, at, ap (λ (u : Sentence). u.kind) said ∙ kind)
  unfounded_of n (inr among) = inr ((kept.incomplete.each n).0 among)

-- all of them
pub founded_of : (c d : Conclusion) (statements others : List PlainStatement)
    → IsKeptOf statements c → IsKeptOf others d → AllMeant (sentences statements)
    → AllMeant (sentences others)
    → ((u : ProofUses) → Contains d.uses u → IsProofFounded c d u)
    → (label basis : List ℕ) → IsThere statements label → RestsOnNamed others label basis
    → RestsOnNamed statements label basis
founded_of c d statements others kept kept_too meant meant_too all label basis (first, there)
    (id, n, named, named_too, loose, rests) =
    let in_old = used_is statements c.uses meant kept.uses in
    let in_new = used_is others d.uses meant_too kept_too.uses in
    let told = rests_as (Uses others) (UsedIn d.uses) (λ x y. (in_new x y).1) id n rests in
    let (u, among, number) = proof_resting d.uses id n told in
    let (former, former_named, by) = all u among label
    (subst (λ (k : ℕ). HasName d.sentences label k) (sym number)
    (name_of others d kept_too label id named)) (told_of statements c kept label first there) in
    let (m, is, (loose_too, rests_too)) = by n (
      loose_of others d kept_too n loose,
      subst (λ (k : ℕ). RestsOn (UsedIn d.uses) k n) (sym number) told,
    ) in (
      former,
      m,
      named_of statements c kept label former former_named,
      named_of statements c kept basis m (is basis (name_of others d kept_too basis n named_too)),
      unfounded_of statements c kept m loose_too,
      rests_as (UsedIn c.uses) (Uses statements) (λ x y. (in_old x y).0) former m rests_too,
    )

-- of checked files
pub founded_all : (c d : Conclusion) (statements others : List PlainStatement) → KeptWell c
    → KeptWell d → Reads c.files statements None → Reads d.files others None
    → ((u : ProofUses) → Contains d.uses u → IsProofFounded c d u)
    → (label basis : List ℕ) → IsThere statements label → RestsOnNamed others label basis
    → RestsOnNamed statements label basis
founded_all c d statements others well well_too reads reads_too all =
    let of = read_statements c statements well.origin reads in
    let of_too = read_statements d others well_too.origin reads_too in
    founded_of c d statements others of.kept of_too.kept
    (all_meant c.profile statements of.accepted.obeyed)
    (all_meant d.profile others of_too.accepted.obeyed) all
