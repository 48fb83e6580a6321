-- What is answered of files in which theorems have shorter proofs: the verdict is the same, a
-- theorem with the proof that it had has its tree, and no theorem rests on more.
use Rattle.std.proofs.Common.{◌≡◌, ℕ, ◌<◌, List, [], take, length, slice_get}
use Rattle.std.proofs.Common.{true, Some, inl, inr, sym, ap}
use Rattle.std.proofs.Common.{subst, ◌∙◌, arith, Contains}
use Rattle.std.proofs.lemmas.Option.{same_Some}
use Rattle.mm_base.specs.declared.statement.Kind.TheVariants.{Axiom}
use Rattle.mm_base.specs.Statement.{PlainStatement}
use Rattle.mm_text.specs.Files.{PlainFile}
use Rattle.mm_text.specs.Replaced.{with_bytes}
use Rattle.mm_frame.specs.Sentence.{Sentence, sentence_of, IsLabelled}
use Rattle.mm_frame.specs.Rules.{AllMeant}
use Rattle.mm_frame.specs.Numbers.{labelled_sentences}
use Rattle.mm_frame.proofs.Rules.ObeyedRules.{one_label, allmeant_prefix}
use Rattle.mm_frame.proofs.Names.LabelNumbers.{numbered_within}
use Rattle.mm_step.specs.declared.profile.Profile.{Profile}
use Rattle.mm_step.specs.Tree.{Trees}
use Rattle.mm_proof.specs.Used.{IsUsedNumber}
use Rattle.mm_rules.specs.Verdict.{AllObey, sentences, proof_of, is_unproved}
use Rattle.mm_rules.specs.Rests.{IsAt, IsNumberWhere, HasTree, Uses, RestsOn, IsReport, tree_of}
use Rattle.mm_render.specs.Shorter.{IsUnfounded, RestsThrough}
use Rattle.mm_laws.specs.AllShorterLaws.{HasSameOrShorter, KeepsProof}
use Rattle.mm_laws.specs.AllShorterLaws.{ShorteningChangesNoVerdict}
use Rattle.mm_verdict.proofs.Questions.AskedTheorems.{map-take, same_tree}
use Rattle.mm_axioms.proofs.Resting.UsersOf.{rests_by}
use Rattle.mm_verdict.proofs.Verdicts.StatementByStatement.{all_meant}
use Rattle.mm_verdict.proofs.FileBytes.StatementsInFiles.{alike_at, tree_at, index_carried, prefix_told}
use Rattle.mm_laws.proofs.SavingLaws.NewProofs.{IsAny, IsWrittenAs, AreWrittenAs, told_along}
use Rattle.mm_laws.proofs.SavingLaws.NewProofs.{verdict_along}
use Rattle.mm_laws.proofs.SavingLaws.OtherStatements.{along_at, along_from}
use Rattle.mm_laws.proofs.SavingLaws.ShortenedProofs.{IsShorterThere, all_shortened_put}
use Rattle.mm_laws.proofs.SavingLaws.ShortenedRests.{rests_on_no_more}

module _ (profile : Profile) (files : List PlainFile) (statements : List PlainStatement)
    (number : ℕ) where
  abbrev May : List Sentence → PlainStatement → Trees → Type 0
  May = IsShorterThere profile files statements number

  abbrev Shortened : List Sentence → PlainStatement → PlainStatement → Type 0
  Shortened = IsWrittenAs profile IsAny May

  -- ==== what is said of each theorem

  module _ (same : List PlainStatement) (all : AreWrittenAs profile IsAny May [] statements same)
      (obeyed : AllObey profile statements) where
    told : sentences statements ≡ sentences same
    told = told_along profile IsAny May statements same all

    meant : AllMeant (sentences statements)
    meant = all_meant profile statements obeyed

    -- one whose proof is as it was has its tree
    tree_kept : (id index : ℕ) (t : Trees) → KeepsProof statements same index
        → HasTree statements id index t → HasTree same id index t
    tree_kept id index t keeps has =
        let (u, there, is) = along_from Shortened [] statements same all index has.s has.at.there in
        tree_at statements same id index t told has u there
        (alike_at (sentences (take index statements)) has.s u is.said
        (sym (keeps has.s u has.at.there there)))

    -- each proof is as it was or of a shorter tree
    proof_kept : (index : ℕ) (s t : PlainStatement) → slice_get statements index ≡ Some s
        → slice_get same index ≡ Some t
        → HasSameOrShorter profile files statements number (sentences (take index same)) s t
    proof_kept index s t there here =
        let (u, found, is) = along_from Shortened [] statements same all index s there in
        let proof : HasSameOrShorter profile files statements number (sentences (take index same)) s
        u = elim is.proof [
          | inl (any, kept) ↦ inl kept
          | inr (complete, new) ↦ inr (new.may.0, new.strict, new.proof, new.may.1)
        ] in
        subst (HasSameOrShorter profile files statements number (sentences (take index same)) s)
        (same_Some u t (sym found ∙ here)) proof

    -- a number is that of one index with the label
    number_of : (label : List ℕ) (id other index place : ℕ) (s t : PlainStatement)
        → IsAt statements id index s → IsLabelled label (sentence_of s)
        → IsAt statements other place t → IsLabelled label (sentence_of t)
        → (index ≡ place) × (id ≡ other)
    number_of label id other index place s t one named two labelled =
        let here : index ≡ place = one_label (sentences statements) label index place
        (sentence_of s) (sentence_of t) meant one.numbered.there two.numbered.there named
        labelled in (
          here,
          sym one.numbered.number
              ∙ ap (λ (n : ℕ). length (labelled_sentences (take n (sentences statements)))) here
              ∙ two.numbered.number,
        )

    -- What a proof uses now leads to nothing unfounded on which the theorem didn't rest.
    uses_founded : (id used n : ℕ) → Uses same id used → IsUnfounded statements n
        → RestsThrough statements used n → RestsOn (Uses statements) id n
    uses_founded id used n (index, t, has, stands) loose through =
        let (s, there, is) = along_at Shortened [] statements same all index has.s has.at.there in
        let at : IsAt statements id index s =
        index_carried same statements id index has.s s (sym told) (sym is.said) there has.at in
        let prefix : sentences (take index same) ≡ sentences (take index statements) =
        sym (prefix_told statements same index told) in
        let moved : IsUsedNumber (sentences (take index statements)) t used = rw prefix at stands in
        elim is.proof [
          | inl (any, kept) ↦
              let old : HasTree statements id index t =
              tree_at same statements id index t (sym told)
              has s there (alike_at (sentences (take index same)) has.s s (sym is.said) kept) in
              rests_by (Uses statements) id used n (index, t, old, moved) through
          | inr (complete, new) ↦
              let (label, named, bytes, small, text, sh) = new.may.1 in
              let (here, own) = number_of label sh.id id sh.index index sh.s s sh.at sh.own.named at
              named in
              let before : AllMeant (sentences (take index same)) =
              rw (prefix, map-take index statements)
              (allmeant_prefix (sentences statements) index meant) in
              let one : t ≡ tree_of new.proof = has.spelled
              ∙ same_tree (sentences (take index same)) (sentence_of has.s) (proof_of has.s)
              has.proof new.proof before in
              let there : IsUsedNumber (sentences (take sh.index statements)) t used =
              rw here moved in
              rw own at (sh.founded used n
              (subst (λ (u : Trees). IsUsedNumber (sentences (take sh.index statements)) u used) one
              there) loose through)
        ]

    -- numbers of what is used are numbers of labels
    uses_within : (id used : ℕ) → Uses same id used
        → used < length (labelled_sentences (sentences same))
    uses_within id used (index, t, has, stands) =
        let less = numbered_within (sentences (take index same)) used stands.0 stands.1 stands.3 in
        let most = numbered_within (sentences same) id index (sentence_of has.s) has.at.numbered in
        let here = has.at.numbered.number in
        let Count : List Sentence → ℕ = λ ss. length (labelled_sentences ss) in
        let long = ap Count (map-take index same) in
        omega (arith, less, most, here, long)

    rests_less : (id n : ℕ) → IsUnfounded statements n → RestsOn (Uses same) id n
        → RestsOn (Uses statements) id n
    rests_less id n loose rests =
        rests_on_no_more (Uses statements) (Uses same) (IsUnfounded statements)
        (length (labelled_sentences (sentences same))) uses_within uses_founded id n loose rests

    -- the statement with a number is so in both
    number_back : (P : PlainStatement → Type 0) (n : ℕ)
        → ((s t : PlainStatement) → sentence_of s ≡ sentence_of t → is_unproved s ≡ is_unproved t
        → P t → P s)
        → IsNumberWhere same P n → IsNumberWhere statements P n
    number_back P n so (index, t, at, is) =
        let (s, there, put) = along_at Shortened [] statements same all index t at.there in (
          index,
          s,
          index_carried same statements n index t s (sym told) (sym put.said) there at,
          so s t put.said put.unproved is,
        )

    -- a report tells no more
    fewer_told : (label : List ℕ) (axioms unproved fewer unproved_fewer : List ℕ)
        → IsReport statements label axioms unproved → IsReport same label fewer unproved_fewer
        → ((n : ℕ) → Contains fewer n → Contains axioms n)
        × ((n : ℕ) → Contains unproved_fewer n → Contains unproved n)
    fewer_told label axioms unproved fewer unproved_fewer r q =
        let (index, s, at, (named, complete)) = r.theorem in
        let (place, t, stands, (labelled, proved)) = q.theorem in
        let (u, there, put) = along_at Shortened [] statements same all place t stands.there in
        let found : IsAt statements q.id place u =
        index_carried same statements q.id place t u (sym told) (sym put.said) there stands in
        let one : q.id ≡ r.id = (number_of label q.id r.id place index u s found
        (subst (IsLabelled label) (sym put.said) labelled) at named).1 in (
          λ n among.
              let (kind, rests) = (q.are_axioms.each n).0 among in
              let old = number_back (λ v. v.kind ≡ Axiom) n
              (λ v w said left is. ap (λ (x : Sentence). x.kind) said ∙ is) kind in
              (r.are_axioms.each n).1 (old, rw one at (rests_less q.id n (inl old) rests)),
          λ n among.
              let (left, rests) = (q.are_unproved.each n).0 among in
              let old = number_back (λ v. is_unproved v ≡ true) n
              (λ v w said left is. left ∙ is) left in
              (r.are_unproved.each n).1 (old, rw one at (rests_less q.id n (inr old) rests)),
        )

-- ==== the law

pub shortening_changes_no_verdict : ShorteningChangesNoVerdict
shortening_changes_no_verdict profile duplicates files statements number bytes accepted sv =
    let (same, still, along) = all_shortened_put accepted sv in (
      same,
      record {
        accepted = still;
        told = told profile files statements number same along accepted.obeyed;
        verdict = verdict_along profile IsAny (IsShorterThere profile files statements number)
            statements same along files (with_bytes files number bytes) accepted still;
        proofs = proof_kept profile files statements number same along accepted.obeyed;
        trees = tree_kept profile files statements number same along accepted.obeyed;
        rests = fewer_told profile files statements number same along accepted.obeyed;
      },
    )
