-- The changes of a file, and the parts of both readings.
use Rattle.std.proofs.Common.{◌≡◌, ℕ, ◌≤◌, List, [], ◌∷◌, map, length, ◌⊎◌, inl, inr, refl, sym, ap}
use Rattle.std.proofs.Common.{subst, ◌∙◌}
use Rattle.std.specs.List.{AllByRecursion, AllZip}
use Rattle.std.proofs.lemmas.List.Elements.{All-from_recursion}
use Rattle.mm_base.specs.Statement.{PlainStatement}
use Rattle.mm_text.specs.Files.{PlainFile}
use Rattle.mm_save.specs.AllSaved.{Replacement, with_replaced}
use Rattle.mm_with_lemmas.specs.WithLemmas.{AreApart, Edit, IsLemmaEdit, IsOtherProof}
use Rattle.mm_with_lemmas.specs.WithLemmas.{IsProofEdit, said}
use Rattle.mm_with_lemmas.specs.declared.change.Change.{Change}
use Rattle.mm_with_lemmas.specs.declared.change.Change.TheVariants.{Proof, Lemmas}
use Rattle.mm_with_lemmas.specs.Mirror.Editing.{ArePlaced, ArePut, IsEditOf, IsPlaced, place_of}
use Rattle.mm_with_lemmas.specs.Mirror.Editing.{places_of}
use Rattle.mm_with_lemmas.specs.Mirror.Walking.{AreParts, HoldsLemmas}

module _ (files : List PlainFile) (statements : List PlainStatement) (number : ℕ) where
  -- an edit that may be made
  abbrev IsEdit : Edit → Type 0
  IsEdit edit = IsProofEdit files statements number edit ⊎ IsLemmaEdit edit

  edit_made : (change : Change) (edit : Edit) → IsPlaced files statements number change
      → IsEditOf change edit → IsEdit edit
  edit_made (Proof span text) edit (s, among, unmarked, is, other) (place, none) =
      let text_is = sym (ap (λ (r : Replacement). r.text) place) in
      inl (
        s,
        among,
        unmarked,
        ap (λ (r : Replacement). r.span) place ∙ is,
        subst (λ (t : List ℕ). IsOtherProof t s) text_is other,
        none,
      )
  edit_made (Lemmas at text) edit placed (place, reads, some) =
      inr (
        ap (λ (r : Replacement). r.span.0) place ∙ sym (ap (λ (r : Replacement). r.span.1) place),
        reads,
        some,
      )

  edits_made : (changes : List Change) (edits : List Edit)
      → ArePlaced files statements number changes → AllZip IsEditOf changes edits
      → AllByRecursion IsEdit edits
  edits_made [] [] placed zip = tt
  edits_made (change ∷ changes) (edit ∷ edits) placed zip = (
    edit_made change edit placed.0 zip.0,
    edits_made changes edits placed.1 zip.1,
  )
  edits_made [] (edit ∷ edits) placed zip = absurd zip
  edits_made (change ∷ changes) [] placed zip = absurd zip

place_made : (change : Change) (edit : Edit) → IsEditOf change edit → edit.place ≡ place_of change
place_made (Proof span text) edit is = is.0
place_made (Lemmas at text) edit is = is.0

places_made : (changes : List Change) (edits : List Edit) → AllZip IsEditOf changes edits
    → map (λ (e : Edit). e.place) edits ≡ places_of changes
places_made [] [] zip = refl
places_made (change ∷ changes) (edit ∷ edits) zip =
    let first = place_made change edit zip.0 in
    let others = places_made changes edits zip.1 in
    λ i. first i ∷ others i
places_made [] (edit ∷ edits) zip = absurd zip
places_made (change ∷ changes) [] zip = absurd zip

-- the file is edited so
pub held_lemmas : (files anew : List PlainFile) (statements others : List PlainStatement)
    (number : ℕ) (old bytes : List ℕ) (changes : List Change) (put : List PlainStatement)
    → ArePlaced files statements number changes → ArePut changes put
    → AreApart (length old) (places_of changes) → bytes ≡ with_replaced old (places_of changes)
    → length bytes ≤ length old → AreParts files anew statements others put
    → HoldsLemmas files anew statements others number old bytes
held_lemmas files anew statements others number old bytes changes put placed (edits, zip, all) apart
    whole shorter parts =
    let places = places_made changes edits zip in
    record {
      parts = parts.parts;
      old = parts.old;
      new = parts.new;
      each = parts.each;
      edited = record {
        edits = edits;
        each = All-from_recursion (IsEdit files statements number) edits
            (edits_made files statements number changes edits placed zip);
        apart = subst (AreApart (length old)) (sym places) apart;
        lemmas = ap (map said) (sym all) ∙ parts.lemmas;
        whole = whole ∙ ap (with_replaced old) (sym places);
      };
      no_longer = shorter;
    }
