-- What stands between the two bounds.
use Rattle.std.proofs.Common.{◌≡◌, ◌<◌, ◌+◌, ◌∙◌, ℕ, List, length, get_or, ap, sym, subst, arith}
use Rattle.std.specs.List.{slice_range}
use Rattle.std.proofs.lemmas.Bool.Decides.{Decides-ltb}
use Rattle.mm_axioms.specs.declared.bits.SetWord.{SetWord}
use Rattle.mm_axioms.specs.Mirror.Bits.{IsRow}
use Rattle.mm_axioms.specs.Mirror.Rows.{PlainRows, row_in}
use Rattle.mm_axioms.proofs.ScratchWords.{any_default}
use Rattle.mm_axioms.proofs.rows.Rows.row.Goals as goal

pub returns-in-Some-clause-row : goal.returns-in-Some-clause-row
returns-in-Some-clause-row c =
    let n : ℕ = c.args.number.0 in
    let bounds : List ℕ = c.self.inside.bounds.items in
    let words : List SetWord = c.self.inside.words.items in
    let below : n + 1 < length c.deref.result.now = (Decides-ltb (n + 1) _).0
    (sym c.in-Some.ensures.lookup.0) in
    let less : n + 1 < length bounds = subst (λ (xs : List ℕ). n + 1 < length xs)
    c.deref.ensures.value below in
    let end : c.in-Some.end.now ≡ get_or bounds (n + 1) 0 =
    c.in-Some.ensures.lookup.1
    ∙ ap (λ (xs : List ℕ). get_or xs (n + 1) c.in-Some.end.now) c.deref.ensures.value
    ∙ any_default bounds (n + 1) c.in-Some.end.now 0 less in
    let start : c.index.result.now ≡ get_or bounds n 0 = c.index.ensures
    ∙ any_default bounds n c.index.result.now 0 (omega arith) in
    ap (λ (ws : List SetWord). slice_range ws c.index.result.now c.in-Some.end.now)
    c.deref-in-Some.ensures.value
    ∙ ap (λ (a : ℕ). slice_range words a c.in-Some.end.now) start
    ∙ ap (λ (b : ℕ). slice_range words (get_or bounds n 0) b) end
    ∙ ap (λ (r : PlainRows). row_in r n) c.self.view_is

pub returns-in-Some-clause-words : goal.returns-in-Some-clause-words
returns-in-Some-clause-words c =
    subst IsRow (ap (λ (r : PlainRows). row_in r c.args.number.0) c.self.view_is
    ∙ sym (returns-in-Some-clause-row c)) (c.self.invariant.rows c.args.number.0)
