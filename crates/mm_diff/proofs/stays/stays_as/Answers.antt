-- By the kinds, and what the proofs use.
use Rattle.std.proofs.Common.{◌≡◌, Some, ap, slice_get}
use Rattle.mm_frame.specs.Numbers.{labelled_sentences}
use Rattle.mm_frame.specs.Sentence.{Sentence}
use Rattle.mm_frame.specs.Taken.{kind_behind}
use Rattle.mm_rules.specs.Conclusion.{Conclusion}
use Rattle.mm_diff.proofs.StayingTheorems.{stays_told}
use Rattle.mm_diff.proofs.stays.stays_as.Goals as goal

pub returns-then-is_same_kind : goal.returns-then-is_same_kind
returns-then-is_same_kind c = λ alike.
    let here = ap (λ (v : Conclusion). v.sentences) c.new.view_is in
    let there = ap (λ (v : Conclusion). v.sentences) c.old.view_is in
    let kind : (s : Sentence)
    → slice_get (labelled_sentences c.new.inside.book.statements) c.args.id.0 ≡ Some s
    → s.kind ≡ kind_behind c.kind.result =
    λ s at. c.kind.ensures s at in
    let kind_too : (s : Sentence)
    → slice_get (labelled_sentences c.old.inside.book.statements) c.args.former.0 ≡ Some s
    → s.kind ≡ kind_behind c.kind-2.result =
    λ s at. c.kind-2.ensures s at in
    stays_told c.args.new.now c.args.old.now c.args.twins.now c.args.marks.now c.args.id.0
    c.args.former.0 c.kind.result c.kind-2.result c.used_by.result.now c.used_by-then-is_same_kind.result.now
    c.requires.id c.requires.former (rw here at kind) (rw there at kind_too)
    (c.is_same_kind.ensures.0 c.if-is_same_kind.true)
    (rw (ap (λ (v : Conclusion). v.uses) c.new.view_is) at c.used_by.ensures)
    (rw (ap (λ (v : Conclusion). v.uses) c.old.view_is) at c.used_by-then-is_same_kind.ensures)
    (c.are_used_alike.ensures alike)
