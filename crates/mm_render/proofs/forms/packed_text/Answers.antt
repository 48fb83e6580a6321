-- The names are the listed labels, and the letters spell the codes.
use Rattle.std.proofs.Common.{◌≡◌, ℕ, List, sym, ap, subst, ◌∙◌}
use Rattle.mm_frame.specs.declared.number.LabelId.{LabelId}
use Rattle.mm_code.specs.declared.code.Code.{Code}
use Rattle.mm_code.specs.Letters.{SpellsCodes, Letters}
use Rattle.mm_code.specs.Layout.{texts, CompressedLaidOut}
use Rattle.mm_forms.specs.Spelled.{AreLabelsOf}
use Rattle.mm_render.proofs.ToldProofs.ToldTrees.{steps_make}
use Rattle.mm_render.proofs.forms.packed_text.Goals as goal

pub compress-requires-clause-makes : goal.compress-requires-clause-makes
compress-requires-clause-makes c = steps_make c.args.book.now.statements c.args.theorem.now.id.0 c.args.theorem.now.steps c.requires.1

pub returns-clause-text : goal.returns-clause-text
returns-clause-text c = λ index s moves number numbered label below made.
    let told = c.in_ok-packed.ensures.packed index s moves number numbered label below made in
    let listed : List (List ℕ) = told.0 in
    let names : texts c.in_ok-names.names.items ≡ listed =
    c.in_ok-names.ensures listed (subst (λ (ids : List LabelId). AreLabelsOf c.args.book.now.statements ids listed) (sym c.deref.ensures.value) told.1) in
    record {
      listed = listed;
      codes = c.in_ok-packed.packed.codes.items;
      letters = c.in_ok-letters.letters.items;
      packed = told.2;
      spelled = subst (λ (codes : List Code). SpellsCodes c.in_ok-letters.letters.items codes) c.deref-2.ensures.value c.in_ok-letters.ensures.spelled;
      coded = subst (λ (codes : List Code). Letters c.in_ok-letters.letters.items codes) c.deref-2.ensures.value c.in_ok-letters.ensures.letters;
      laid = subst (λ (letters : List ℕ). CompressedLaidOut listed letters c.in_ok-lay_out_compressed.field-0.items) c.deref-4.ensures.value
          (subst (λ (ls : List (List ℕ)). CompressedLaidOut ls c.deref-4.result.now c.in_ok-lay_out_compressed.field-0.items) (ap texts c.deref-3.ensures.value ∙ names)
          c.in_ok-lay_out_compressed.ensures);
    }
