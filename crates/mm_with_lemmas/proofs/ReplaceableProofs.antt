-- The proofs that are replaced are those of theorems that aren't marked, which are met in their
-- order, and others stand in their place.
use Rattle.std.proofs.Common.{◌≡◌, ℕ, ◌+◌, ◌<◌, List, [], ◌∷◌, ◌++◌, length, take}
use Rattle.std.proofs.Common.{Contains, None, true, refl, sym, ap, subst}
use Rattle.std.proofs.Common.{◌∙◌, append-nil, arith, get_or, take_all}
use Rattle.std.proofs.lemmas.List.Elements.{Contains-append_left, Contains-push, filter-append}
use Rattle.mm_base.specs.Statement.{PlainStatement}
use Rattle.mm_base.proofs.Lists.{all_push, all_weaker}
use Rattle.mm_proof.proofs.ProofNumbers.MoreLabels.{one_more}
use Rattle.mm_text.specs.Files.{PlainFile}
use Rattle.mm_text.specs.Reading.{Reads}
use Rattle.mm_text.specs.Remaining.{IsUnread, Remaining}
use Rattle.mm_rules.specs.Conclusion.{Conclusion}
use Rattle.mm_verdict.proofs.Verdicts.AcceptedStatements.{same_reading}
use Rattle.mm_save.specs.AllSaved.{is_theorem_of, theorems_of}
use Rattle.mm_save.proofs.Saving.FileSpans.{theorem_there, theorems_parted}
use Rattle.mm_with_lemmas.specs.declared.change.Change.{Change}
use Rattle.mm_with_lemmas.specs.declared.change.Change.TheVariants.{Proof, Lemmas}
use Rattle.mm_with_lemmas.specs.Mirror.Editing.{ArePlaced, AreReplaceable, IsReplaceable, IsTheoremAt}
use Rattle.mm_with_lemmas.specs.Mirror.Editing.{place_of, proofs_in}

-- ---- theorems that are met

module _ (files : List PlainFile) (number : ℕ) where
  -- a change that stands, where these statements were met
  abbrev Stands : List PlainStatement → Change → Type 0
  Stands seen proof = IsReplaceable files seen number (place_of proof)

  replaceable_past : (seen more : List PlainStatement) (proof : Change) → Stands seen proof
      → Stands (seen ++ more) proof
  replaceable_past seen more proof (s, among, unmarked, is, other) = (
    s,
    subst (λ (ss : List PlainStatement). Contains ss s)
        (sym (filter-append (is_theorem_of number) seen more))
        (Contains-append_left (theorems_of number seen) (theorems_of number more) s among),
    unmarked,
    is,
    other,
  )

  pub all_past : (seen more : List PlainStatement) (proofs : List Change)
      → AreReplaceable files seen number proofs → AreReplaceable files (seen ++ more) number proofs
  all_past seen more proofs h =
      all_weaker (Stands seen) (Stands (seen ++ more))
      (λ proof is. replaceable_past seen more proof is) proofs h

  replaceable_met : (seen : List PlainStatement) (s : PlainStatement) (proof : Change)
      → IsTheoremAt files number (place_of proof) s → Stands (seen ++ s ∷ []) proof
  replaceable_met seen s proof h =
      let is : is_theorem_of number s ≡ true = theorem_there number s h.complete h.home in (
        s,
        subst (λ (ss : List PlainStatement). Contains ss s)
            (sym (theorems_parted number seen s [] is))
            (Contains-push (theorems_of number seen) s),
        h.unmarked,
        sym h.span,
        h.other,
      )

  -- the next proof is put in place of that of the theorem that is met
  pub met_at : (seen : List PlainStatement) (s : PlainStatement) (proofs : List Change) (k : ℕ)
      (d : Change) → k < length proofs → AreReplaceable files seen number (take k proofs)
      → IsTheoremAt files number (place_of (get_or proofs k d)) s
      → AreReplaceable files (seen ++ s ∷ []) number (take (k + 1) proofs)
  met_at seen s proofs k d less h is =
      let proof : Change = get_or proofs k d in
      subst (AreReplaceable files (seen ++ s ∷ []) number)
      (sym (one_more proofs k d proof less refl))
      (all_push (Stands (seen ++ s ∷ [])) (take k proofs) proof
      (all_past seen (s ∷ []) (take k proofs) h) (replaceable_met seen s proof is))

  -- all of them, at the end
  pub met_all : (all seen left : List PlainStatement) (proofs : List Change) (k : ℕ)
      → all ≡ seen ++ left → left ≡ [] → k ≡ length proofs
      → AreReplaceable files seen number (take k proofs) → AreReplaceable files all number proofs
  met_all all seen left proofs k whole none count h =
      let same : seen ≡ all =
      sym (whole ∙ ap (λ (ss : List PlainStatement). seen ++ ss) none ∙ append-nil seen) in
      subst (λ (ss : List PlainStatement). AreReplaceable files ss number proofs) same
      (subst (AreReplaceable files seen number) (take_all k proofs (omega arith)) h)

-- ---- all of them

pub all_placed : (files : List PlainFile) (statements : List PlainStatement) (number : ℕ)
    (changes : List Change) → AreReplaceable files statements number (proofs_in changes)
    → ArePlaced files statements number changes
all_placed files statements number [] h = tt
all_placed files statements number (Proof span text ∷ changes) h =
    (h.0, all_placed files statements number changes h.1)
all_placed files statements number (Lemmas at text ∷ changes) h =
    (tt, all_placed files statements number changes h)

-- of checked files
pub stand_all : (c : Conclusion) (left : Remaining) (files : List PlainFile) (number : ℕ)
    (changes proofs : List Change) → files ≡ c.files → IsUnread files left
    → proofs ≡ proofs_in changes → AreReplaceable files left.statements number proofs
    → (statements : List PlainStatement) → Reads c.files statements None
    → ArePlaced c.files statements number changes
stand_all c left files number changes proofs same unread are h statements reads =
    let here = subst (λ (fs : List PlainFile). IsUnread fs left) same unread in
    let read = (same_reading c.files left.statements statements left.ending None here.reads reads).0 in
    all_placed c.files statements number changes
    (subst (AreReplaceable c.files statements number) are
    (subst (λ (ss : List PlainStatement). AreReplaceable c.files ss number proofs) read
    (subst (λ (fs : List PlainFile). AreReplaceable fs left.statements number proofs) same h)))
