-- What proofs newly use, and whether they may, by the marks and the mathboxes of a database and by
-- the labels of two. On this file rests the contract of `are_uses_heeded`.
use Rattle.std.proofs.Common.{◌≡◌, ℕ, zero, suc, ◌+◌, ◌<◌, ◌⊎◌, List, [], ◌∷◌, ◌++◌, map, take}
use Rattle.std.proofs.Common.{length, get_or, replicate, Some, None, slice_get, Contains, refl, ap}
use Rattle.std.proofs.Common.{inl, inr, sym, subst, ◌∙◌, arith}
use Rattle.std.proofs.lemmas.List.{map-append}
use Rattle.std.proofs.lemmas.List.Elements.{Contains-append_left, Contains-push}
use Rattle.std.proofs.lemmas.Option.{none-some, same_Some}
use Rattle.mm_base.specs.Statement.{PlainStatement}
use Rattle.mm_text.specs.Reading.{Reads}
use Rattle.mm_frame.specs.declared.number.LabelId.{LabelId}
use Rattle.mm_frame.specs.Numbers.{labelled_sentences}
use Rattle.mm_frame.specs.Rules.{AllMeant}
use Rattle.mm_frame.specs.Sentence.{Sentence, sentence_of}
use Rattle.mm_frame.proofs.Names.LabelNumbers.{numbered_within}
use Rattle.mm_proof.proofs.ProofNumbers.MoreLabels.{one_more}
use Rattle.mm_rules.specs.Answer.{IsKeptOf}
use Rattle.mm_rules.specs.Conclusion.{Conclusion, ProofUses}
use Rattle.mm_rules.specs.Mirror.Marks.{UsedIn}
use Rattle.mm_rules.specs.Rests.{IsAt, IsNamed}
use Rattle.mm_rules.specs.Verdict.{sentences}
use Rattle.mm_verdict.proofs.Questions.AskedTheorems.{used_is}
use Rattle.mm_verdict.proofs.Verdicts.AcceptedStatements.{KeptWell, one_stands, read_statements}
use Rattle.mm_verdict.proofs.Verdicts.StatementByStatement.{all_meant}
use Rattle.mm_minimize.specs.declared.remarks.Remark.{Remark}
use Rattle.mm_minimize.specs.Remarks.{AreRemarks}
use Rattle.mm_minimize.proofs.ShorterTheorems.StatementRemarks.{remarks_count}
use Rattle.mm_with_lemmas.specs.WithLemmas.{IsThere, MayUseNamed, UseLemmasAlone, UsesNamed}
use Rattle.mm_with_lemmas.specs.Mirror.Founding.{IsFormer}
use Rattle.mm_with_lemmas.specs.Mirror.Using.{AreBelow, AreStamped, HasName, IsProofHeeded}
use Rattle.mm_with_lemmas.specs.Mirror.Using.{IsStampedFrom, WasUsed, WereUsed}
use Rattle.mm_with_lemmas.proofs.NamedUses.{name_of, told_of, uses_of}

-- ---- stamps

-- one more number
pub stamped_on : (old new : List ℕ) (stamp : ℕ) (ids : List LabelId) (i : ℕ) (d : LabelId)
    → i < length ids → AreStamped stamp old (map (λ (l : LabelId). l.0) (take i ids))
    → IsStampedFrom old stamp (get_or ids i d).0 new
    → AreStamped stamp new (map (λ (l : LabelId). l.0) (take (i + 1) ids))
stamped_on old new stamp ids i d less before from = λ n at.
    let number : LabelId → ℕ = λ l. l.0 in
    let x : LabelId = get_or ids i d in
    let more : map number (take (i + 1) ids) ≡ map number (take i ids) ++ x.0 ∷ [] =
    ap (map number) (one_more ids i d x less refl) ∙ map-append number (take i ids) (x ∷ []) in
    subst (λ (ns : List ℕ). Contains ns n) (sym more)
    (elim (from n stamp at) [
      | inl (same, _) ↦
          subst (λ (k : ℕ). Contains (map number (take i ids) ++ x.0 ∷ []) k) (sym same)
          (Contains-push (map number (take i ids)) x.0)
      | inr there ↦ Contains-append_left (map number (take i ids)) (x.0 ∷ []) n (before n there)
    ])

pub below_on : (old new : List ℕ) (stamp id : ℕ) → AreBelow (stamp + 1) old
    → IsStampedFrom old stamp id new → AreBelow (stamp + 1) new
below_on old new stamp id before from = λ n mark at. elim (from n mark at) [
  | inl (_, same) ↦ omega (arith, same)
  | inr there ↦ before n mark there
]

pub below_later : (limit : ℕ) (marks : List ℕ) → AreBelow limit marks → AreBelow (limit + 1) marks
below_later limit marks below = λ n mark at. let less = below n mark at in omega (arith, less)

-- none has a stamp that is greater
pub none_stamped : (stamp : ℕ) (marks : List ℕ) → AreBelow stamp marks → AreStamped stamp marks []
none_stamped stamp marks below = λ n at. absurd (let less = below n stamp at in omega (arith, less))

-- a table without stamps
pub below_one : (count : ℕ) → AreBelow 1 (replicate count 0)
below_one zero n mark at = absurd (none-some mark at)
below_one (suc count) zero mark at = let same = same_Some 0 mark at in omega (arith, same)
below_one (suc count) (suc n) mark at = below_one count n mark at

-- those with the stamp were used
pub were_used : (c d : Conclusion) (theorem former stamp : ℕ) (marks ids : List ℕ)
    → IsFormer c.sentences d.sentences theorem former → AreStamped stamp marks ids
    → ((n : ℕ) → Contains ids n → UsedIn c.uses former n) → WereUsed c d theorem stamp marks
were_used c d theorem former stamp marks ids is stamped uses = λ label named n at.
    (former, is label named, uses n (stamped n at))

pub was_used : (c d : Conclusion) (theorem used id stamp : ℕ) (marks : List ℕ)
    → WereUsed c d theorem stamp marks → IsFormer c.sentences d.sentences used id
    → slice_get marks id ≡ Some stamp → WasUsed c d theorem used
was_used c d theorem used id stamp marks were is at = λ label name named named_too.
    let (former, known, uses) = were label named id at in
    (former, id, known, is name named_too, uses)

-- ---- remarks

-- the number of a proof, and what it uses, have remarks
pub proof_remarked : (d : Conclusion) (remarks : List Remark) (u : ProofUses) → KeptWell d
    → AreRemarks d.files remarks → Contains d.uses u → u.number < length remarks
proof_remarked d remarks u well said among =
    let o = well.origin in
    let (index, t, tree, used) = o.uses.each u among in
    let number : u.number < length (labelled_sentences (sentences o.statements)) =
    numbered_within (sentences o.statements) u.number index (sentence_of tree.s)
    tree.at.numbered in
    let count : length remarks ≡ length (labelled_sentences d.sentences) =
    remarks_count d remarks o said in
    let told : u.number < length (labelled_sentences d.sentences) =
    subst (λ (ss : List Sentence). u.number < length (labelled_sentences ss)) (sym o.sentences)
    number in
    omega (arith, count, told)

pub use_remarked : (d : Conclusion) (remarks : List Remark) (u : ProofUses) (n : ℕ) → KeptWell d
    → AreRemarks d.files remarks → Contains d.uses u → Contains u.used n → n < length remarks
use_remarked d remarks u n well said among used =
    let own = proof_remarked d remarks u well said among in
    let less = well.backward.below u n among used in
    omega (arith, own, less)

-- ---- by what was read

-- the statement with a label, by its number
pub named_one : (statements : List PlainStatement) (label : List ℕ) (id m : ℕ) (s : PlainStatement)
    → AllMeant (sentences statements) → IsNamed statements label (λ t. Unit {0}) id
    → IsNamed statements label (λ t. t ≡ s) m → (index : ℕ) × IsAt statements id index s
named_one statements label id m s meant (index, t, at, (labelled, so)) (place, u, there, named) =
    let same : u ≡ t = one_stands statements label index t u meant at.there labelled
    (place, there.there, named.0) in
    (index, subst (λ (v : PlainStatement). IsAt statements id index v) (sym same ∙ named.1) at)

-- all of them: what is newly used may be, and a lemma uses it or it is one
pub heeded_of : (c d : Conclusion) (statements others : List PlainStatement)
    → IsKeptOf statements c → IsKeptOf others d → AllMeant (sentences statements)
    → AllMeant (sentences others) → Reads d.files others None
    → ((u : ProofUses) → Contains d.uses u → IsProofHeeded c d u) → (label used : List ℕ)
    → UsesNamed others label used
    → UsesNamed statements label used
    ⊎ ((¬ (IsThere statements label) ⊎ ¬ (IsThere statements used))
    × MayUseNamed d.files others label used)
heeded_of c d statements others kept kept_too meant meant_too reads all label used
    (id, n, named, named_too, uses) =
    let (u, among, number, holds) = (used_is others d.uses meant_too kept_too.uses id n).1 uses in
    let name = subst (λ (k : ℕ). HasName d.sentences label k) (sym number)
    (name_of others d kept_too label id named) in
    let name_too = name_of others d kept_too used n named_too in
    elim (all u among n holds) [
      | inl was ↦
          inl (uses_of statements c kept meant label used (was label used name name_too))
      | inr (new, may) ↦ inr (
        elim new [
          | inl none ↦
              inl (λ (m, found). none label name (told_of statements c kept label m found))
          | inr none ↦
              inr (λ (m, found). none used name_too (told_of statements c kept used m found))
        ],
        λ i k s a one other.
            let (index, at) = named_one others label id i s meant_too named one in
            let (place, at_too) = named_one others used n k a meant_too named_too other in
            may others index place s a reads
            (subst (λ (k : ℕ). IsAt others k index s) (sym number) at) at_too,
      )
    ]

-- what both mean for a theorem that was there
by_lemmas : (statements : List PlainStatement) (label used : List ℕ) (Q : Type 0)
    → IsThere statements label
    → UsesNamed statements label used
    ⊎ ((¬ (IsThere statements label) ⊎ ¬ (IsThere statements used)) × Q)
    → UsesNamed statements label used ⊎ ¬ (IsThere statements used)
by_lemmas statements label used Q there (inl was) = inl was
by_lemmas statements label used Q there (inr (inl none, may)) = absurd (none there)
by_lemmas statements label used Q there (inr (inr none, may)) = inr none

-- and for each one
may_use : (P Q R : Type 0) → P ⊎ (Q × R) → P ⊎ R
may_use P Q R (inl was) = inl was
may_use P Q R (inr (new, may)) = inr may

-- of checked files
module _ (c d : Conclusion) (statements others : List PlainStatement) (well : KeptWell c)
    (well_too : KeptWell d) (reads : Reads c.files statements None)
    (reads_too : Reads d.files others None)
    (all : (u : ProofUses) → Contains d.uses u → IsProofHeeded c d u)
  where
    uses_heeded : (label used : List ℕ) → UsesNamed others label used
        → UsesNamed statements label used
        ⊎ ((¬ (IsThere statements label) ⊎ ¬ (IsThere statements used))
        × MayUseNamed d.files others label used)
    uses_heeded =
        let of = read_statements c statements well.origin reads in
        let of_too = read_statements d others well_too.origin reads_too in
        heeded_of c d statements others of.kept of_too.kept
        (all_meant c.profile statements of.accepted.obeyed)
        (all_meant d.profile others of_too.accepted.obeyed) reads_too all

    pub lemmas_alone : UseLemmasAlone statements others
    lemmas_alone = λ label used there uses.
        by_lemmas statements label used (MayUseNamed d.files others label used) there
        (uses_heeded label used uses)

    pub uses_allowed : (label used : List ℕ) → UsesNamed others label used
        → UsesNamed statements label used ⊎ MayUseNamed d.files others label used
    uses_allowed = λ label used uses.
        may_use (UsesNamed statements label used)
        (¬ (IsThere statements label) ⊎ ¬ (IsThere statements used))
        (MayUseNamed d.files others label used) (uses_heeded label used uses)
