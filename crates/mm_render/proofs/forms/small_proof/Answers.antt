-- The names are the listed labels, and the letters spell the codes.
use Rattle.std.proofs.Common.{◌≡◌, ℕ, List, refl, sym, subst}
use Rattle.mm_frame.specs.declared.number.LabelId.{LabelId}
use Rattle.mm_code.specs.declared.code.Code.{Code}
use Rattle.mm_code.specs.Letters.{SpellsCodes, Letters}
use Rattle.mm_code.specs.Layout.{texts}
use Rattle.mm_forms.specs.Spelled.{AreLabelsOf}
use Rattle.mm_render.proofs.ToldProofs.ToldTrees.{steps_make}
use Rattle.mm_render.proofs.forms.small_proof.Goals as goal

pub compress_small-requires-clause-makes : goal.compress_small-requires-clause-makes
compress_small-requires-clause-makes c =
    steps_make c.args.book.now.statements c.args.theorem.now.id.0 c.args.theorem.now.steps
    c.requires.1

pub returns-clause-proof : goal.returns-clause-proof
returns-clause-proof c = λ index s moves number numbered label below made.
    let told = c.in_ok-small.ensures.small index s moves number numbered label below made in
    let listed : List (List ℕ) = told.0 in
    let names : texts c.in_ok-names.names.items ≡ listed =
    c.in_ok-names.ensures listed (subst (λ (ids : List LabelId).
    AreLabelsOf c.args.book.now.statements ids listed) (sym c.deref.ensures.value) told.1) in
    record {
      listed = listed;
      codes = c.in_ok-small.small.packed.codes.items;
      letters = c.in_ok-letters.letters.items;
      small = told.2;
      spelled = subst (λ (codes : List Code). SpellsCodes c.in_ok-letters.letters.items codes)
          c.deref-2.ensures.value c.in_ok-letters.ensures.spelled;
      coded = subst (λ (codes : List Code). Letters c.in_ok-letters.letters.items codes)
          c.deref-2.ensures.value c.in_ok-letters.ensures.letters;
      laid = (names, refl);
    }
