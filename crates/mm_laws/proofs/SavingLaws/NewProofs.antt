-- Statements of which some have new proofs: they obey the rules, and the verdict is the same. Where
-- each new proof has the tree of the old one, so is all that is answered.
use Rattle.std.proofs.Common.{◌≡◌, ℕ, ◌+◌, ◌↔◌, ◌⊎◌, List, [], ◌∷◌, ◌++◌, take, drop, length}
use Rattle.std.proofs.Common.{suc, slice_get, Bool, true, false, not, ◌&&◌, cond, Some, inl, inr}
use Rattle.std.proofs.Common.{refl, sym, ap, subst, ◌∙◌, filter, flat_map, fold, option_to_list}
use Rattle.std.proofs.Math.Seq.{take-append_seam}
use Rattle.std.proofs.lemmas.List.{length-map}
use Rattle.mm_base.specs.Statement.{PlainStatement, is_provable}
use Rattle.mm_text.specs.Files.{PlainFile}
use Rattle.mm_text.specs.Replaced.{placeless}
use Rattle.mm_base.proofs.Lists.{get_parted, split_at}
use Rattle.mm_frame.specs.Sentence.{Sentence, sentence_of}
use Rattle.mm_frame.specs.Rules.{AllMeant}
use Rattle.mm_step.specs.declared.profile.Profile.{Profile}
use Rattle.mm_proof.specs.Proof.{IsProved}
use Rattle.mm_proof.specs.Tokens.{is_incomplete}
use Rattle.mm_step.specs.Tree.{Trees}
use Rattle.mm_rules.specs.Verdict.{AreAccepted, AllObey, Obeys, HasVerdict, Verdict, sentences}
use Rattle.mm_rules.specs.Verdict.{proof_of, is_proof, is_unproved, label_of, unproved_of}
use Rattle.mm_rules.specs.Rests.{tree_of}
use Rattle.mm_laws.specs.SavedLaws.{SayTheSame}
use Rattle.mm_verdict.proofs.Questions.AskedTheorems.{same_tree}
use Rattle.mm_verdict.proofs.AlikeVerdicts.{same_sentence, same_proof, obeys_alike}
use Rattle.mm_verdict.proofs.Verdicts.StatementByStatement.{any_proof, proof_not_unproved}
use Rattle.mm_laws.proofs.SavingLaws.OtherStatements.{AllAlong, along_at, along_from}
use Rattle.mm_verdict.proofs.FileBytes.StatementsInFiles.{nowhere, IsNewProof, AreAlikeAt, alike_at, Carries}
use Rattle.mm_verdict.proofs.FileBytes.StatementsInFiles.{prefix_told, tree_carried, report_carried}
use Rattle.mm_verdict.proofs.FileBytes.StatementsInFiles.{verdict_carried}
use Rattle.mm_verdict.proofs.FileBytes.StatementsInFiles.{prefix_meant}

-- ---- one statement

-- A statement that stands where another stood, behind these: it says the same, and has the other's
-- proof, where that may be kept, or a new one of a tree that may stand there.
pub record IsWrittenAs (profile : Profile) (Keep : PlainStatement → Type 0)
    (May : List Sentence → PlainStatement → Trees → Type 0) (prefix : List Sentence)
    (s t : PlainStatement) : Type 0 where
  pub said : sentence_of s ≡ sentence_of t
  pub home : s.first.file ≡ t.first.file
  pub proofs : is_proof s ≡ is_proof t
  pub unproved : is_unproved s ≡ is_unproved t
  pub proof : (Keep s × (proof_of t ≡ proof_of s))
      ⊎ ((is_proof s ≡ true)
      × IsNewProof profile (May prefix s) prefix (sentence_of t) (proof_of t))

module _ (profile : Profile) (Keep : PlainStatement → Type 0)
    (May : List Sentence → PlainStatement → Trees → Type 0) where
  -- with the other's proof
  pub written_same : (prefix : List Sentence) (s t : PlainStatement)
      → sentence_of s ≡ sentence_of t → s.first.file ≡ t.first.file → proof_of s ≡ proof_of t
      → Keep s → IsWrittenAs profile Keep May prefix s t
  written_same prefix s t said home proof keep = record {
    said = said;
    home = home;
    proofs = λ i. is_provable (said i).kind && not (is_incomplete (proof i));
    unproved = λ i. is_provable (said i).kind && is_incomplete (proof i);
    proof = inl (keep, sym proof);
  }

  -- wherever its tokens stand
  pub written_moved : (prefix : List Sentence) (s t u : PlainStatement)
      → placeless t ≡ placeless u → IsWrittenAs profile Keep May prefix s t
      → IsWrittenAs profile Keep May prefix s u
  written_moved prefix s t u same is =
      let said = same_sentence nowhere nowhere t u same in
      let proof = same_proof nowhere nowhere t u same in
      record {
        said = is.said ∙ said;
        home = is.home ∙ ap (λ (v : PlainStatement). v.first.file) same;
        proofs = is.proofs ∙ (λ i. is_provable (said i).kind && not (is_incomplete (proof i)));
        unproved = is.unproved ∙ (λ i. is_provable (said i).kind && is_incomplete (proof i));
        proof = elim is.proof [
          | inl (keep, kept) ↦ inl (keep, sym proof ∙ kept)
          | inr (complete, new) ↦ inr (complete, rw (said, proof) at new)
        ];
      }

-- where less is said of what is kept
pub written_more : (profile : Profile) (Keep More : PlainStatement → Type 0)
    (May : List Sentence → PlainStatement → Trees → Type 0) (prefix : List Sentence)
    (s t : PlainStatement) → (Keep s → More s) → IsWrittenAs profile Keep May prefix s t
    → IsWrittenAs profile More May prefix s t
written_more profile Keep More May prefix s t more is = record {
  said = is.said;
  home = is.home;
  proofs = is.proofs;
  unproved = is.unproved;
  proof = elim is.proof [ inl (keep, kept) ↦ inl (more keep, kept) | inr new ↦ inr new ];
}

-- ---- all statements

-- any proof may be kept
abbrev pub IsAny : PlainStatement → Type 0
IsAny s = Unit {0}

-- the tree is that of the statement's own proof
abbrev pub IsOwnTree : List Sentence → PlainStatement → Trees → Type 0
IsOwnTree prefix s t = (p : IsProved prefix (sentence_of s) (proof_of s)) → tree_of p ≡ t

module _ (profile : Profile) (Keep : PlainStatement → Type 0)
    (May : List Sentence → PlainStatement → Trees → Type 0) where
  abbrev pub AreWrittenAs : List Sentence → (after later : List PlainStatement) → Type 0
  AreWrittenAs prefix after later = AllAlong (IsWrittenAs profile Keep May) prefix after later

  said_along : (prefix : List Sentence) (after later : List PlainStatement)
      → AreWrittenAs prefix after later → sentences after ≡ sentences later
  said_along prefix [] [] all = refl
  said_along prefix [] (t ∷ later) all = absurd all
  said_along prefix (s ∷ after) [] all = absurd all
  said_along prefix (s ∷ after) (t ∷ later) all =
      let rest = said_along _ after later all.1 in λ i. all.0.said i ∷ rest i

  counted_along : (count : ℕ) (prefix : List Sentence) (after later : List PlainStatement)
      → AreWrittenAs prefix after later
      → fold (λ n s. n + cond (is_proof s) 1 0) count after
      ≡ fold (λ n s. n + cond (is_proof s) 1 0) count later
  counted_along count prefix [] [] all = refl
  counted_along count prefix [] (t ∷ later) all = absurd all
  counted_along count prefix (s ∷ after) [] all = absurd all
  counted_along count prefix (s ∷ after) (t ∷ later) all =
      counted_along (count + cond (is_proof s) 1 0) _ after later all.1
      ∙ ap (λ (b : Bool). fold (λ n u. n + cond (is_proof u) 1 0) (count + cond b 1 0) later)
      all.0.proofs

  left_along : (prefix : List Sentence) (after later : List PlainStatement)
      → AreWrittenAs prefix after later → unproved_of after ≡ unproved_of later
  left_along prefix [] [] all = refl
  left_along prefix [] (t ∷ later) all = absurd all
  left_along prefix (s ∷ after) [] all = absurd all
  left_along prefix (s ∷ after) (t ∷ later) all =
      by (is_unproved s) (ap (λ (x : Sentence). option_to_list x.label) all.0.said)
      (left_along _ after later all.1)
      ∙ ap (λ (b : Bool). flat_map label_of
      (cond b (t ∷ filter is_unproved later) (filter is_unproved later))) all.0.unproved
    where
      by : (b : Bool) → label_of s ≡ label_of t → unproved_of after ≡ unproved_of later
          → flat_map label_of (cond b (s ∷ filter is_unproved after) (filter is_unproved after))
          ≡ flat_map label_of (cond b (t ∷ filter is_unproved later) (filter is_unproved later))
      by true own rest = λ i. own i ++ rest i
      by false own rest = rest

  module _ (statements same : List PlainStatement) (all : AreWrittenAs [] statements same) where
    pub told_along : sentences statements ≡ sentences same
    told_along = said_along [] statements same all

    -- they obey the rules
    obeys : AllObey profile statements → (index : ℕ) (t : PlainStatement)
        → slice_get same index ≡ Some t → Obeys profile (sentences (take index same)) t
    obeys obeyed index t there =
        let (s, here, is) =
        along_at (IsWrittenAs profile Keep May) [] statements same all index t there in
        let prefix = prefix_told statements same index told_along in
        let old = obeyed (take index statements) (drop (suc index) statements) s
        (split_at statements index s here) in
        elim is.proof [
          | inl (keep, kept) ↦
              obeys_alike profile (sentences (take index statements)) (sentences (take index same))
              s t prefix is.said (sym kept) old
          | inr (complete, new) ↦
              record {
                meant = rw (prefix, is.said) at old.meant;
                proved = λ proved. new.under;
                known = λ unproved. absurd (cc (proof_not_unproved s complete, is.unproved));
              }
        ]

    pub obeyed_along : AllObey profile statements → AllObey profile same
    obeyed_along obeyed before after t split =
        let there : slice_get same (length before) ≡ Some t =
        rw split (get_parted before after t) in
        let prefix : take (length before) same ≡ before =
        ap (take (length before)) split ∙ take-append_seam before (t ∷ after) in
        subst (λ (ss : List PlainStatement). Obeys profile (sentences ss) t) prefix
        (obeys obeyed (length before) t there)

    module _ (files others : List PlainFile) (accepted : AreAccepted profile files statements)
        (still : AreAccepted profile others same) where
      -- the verdict is the same
      pub verdict_along : (v : Verdict) → HasVerdict profile files v ↔ HasVerdict profile others v
      verdict_along v =
          let left = left_along [] statements same all in
          let many = sym (length-map statements sentence_of)
          ∙ ap (λ (ss : List Sentence). length ss) told_along ∙ length-map same sentence_of in
          let count = counted_along 0 [] statements same all in (
            verdict_carried profile files others statements same accepted still left many count v,
            verdict_carried profile others files same statements still accepted (sym left)
                (sym many) (sym count) v,
          )

-- ---- where the new proofs have the trees of the old ones

module _ (profile : Profile) (Keep : PlainStatement → Type 0)
    (statements same : List PlainStatement)
    (all : AreWrittenAs profile Keep IsOwnTree [] statements same) where
  abbrev Written : List Sentence → PlainStatement → PlainStatement → Type 0
  Written = IsWrittenAs profile Keep IsOwnTree

  told : sentences statements ≡ sentences same
  told = told_along profile Keep IsOwnTree statements same all

  alike : (prefix : List Sentence) (s t : PlainStatement) → Written prefix s t
      → AreAlikeAt prefix s t
  alike prefix s t is = elim is.proof [
    | inl (keep, kept) ↦ alike_at prefix s t is.said (sym kept)
    | inr (complete, new) ↦
        record {
          said = is.said;
          proofs = is.proofs;
          unproved = is.unproved;
          tree = λ c p. (new.proof, new.may p);
        }
  ]

  turned : (prefix : List Sentence) (s t : PlainStatement) → AllMeant prefix
      → Obeys profile prefix s → Written prefix s t → AreAlikeAt prefix t s
  turned prefix s t meant obeyed is = elim is.proof [
    | inl (keep, kept) ↦ alike_at prefix t s (sym is.said) kept
    | inr (complete, new) ↦
        let old = any_proof profile prefix (sentence_of s) (proof_of s)
        (obeyed.proved complete).1 in
        record {
          said = sym is.said;
          proofs = sym is.proofs;
          unproved = sym is.unproved;
          tree = λ c q. (
            old,
            same_tree prefix (sentence_of t) (proof_of t) q new.proof meant ∙ sym (new.may old),
          );
        }
  ]

  pub carried : Carries statements same
  carried = record {
    told = told;
    at = λ index s there.
        let (t, here, is) = along_from Written [] statements same all index s there in
        let prefix = sym (prefix_told statements same index told) in (
          t,
          here,
          alike (sentences (take index statements)) s t
              (subst (λ (ss : List Sentence). Written ss s t) prefix is),
        );
  }

  carried_back : AllObey profile statements → Carries same statements
  carried_back obeyed = record {
    told = sym told;
    at = λ index t there.
        let (s, here, is) = along_at Written [] statements same all index t there in
        let prefix = prefix_told statements same index told in
        let own = obeyed (take index statements) (drop (suc index) statements) s
        (split_at statements index s here) in (
          s,
          here,
          turned (sentences (take index same)) s t
              (rw prefix at (prefix_meant profile statements index obeyed)) (rw prefix at own) is,
        );
  }

  pub said_same : (files others : List PlainFile) → AreAccepted profile files statements
      → AreAccepted profile others same → SayTheSame profile files others statements same
  said_same files others accepted still =
      let back = carried_back accepted.obeyed in
      record {
        accepted = still;
        told = told;
        verdict = verdict_along profile Keep IsOwnTree statements same all files others accepted
            still;
        trees = λ id index t. (
          tree_carried statements same id index t carried,
          tree_carried same statements id index t back,
        );
        rests = λ label axioms unproved. (
          report_carried statements same label axioms unproved carried back,
          report_carried same statements label axioms unproved back carried,
        );
      }
