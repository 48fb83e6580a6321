-- No theorem, none alike, or one whose tree is compared.
use Rattle.std.proofs.Common.{List, true, refl, sym, ap, subst, ◌∙◌}
use Rattle.std.proofs.lemmas.Bool.{false≢true}
use Rattle.mm_frame.specs.Sentence.{Sentence}
use Rattle.mm_rules.specs.Conclusion.{Conclusion}
use Rattle.mm_verdict.proofs.Verdicts.AcceptedStatements.{KeptWell}
use Rattle.mm_alike.specs.Mirror.Databases.{IsAlikeNamed, IsTheorem}
use Rattle.mm_alike.proofs.CheckedTheorems.{alike_theorem, alike_told, no_theorem, none_alike}
use Rattle.mm_alike.proofs.CheckedTheorems.{text_told}
use Rattle.mm_alike.proofs.reproved.is_reproved.Goals as goal

pub returns-then-not-is_theorem : goal.returns-then-not-is_theorem
returns-then-not-is_theorem c =
    no_theorem c.args.checked.now c.args.other_checked.now c.args.id.0
    (subst KeptWell c.checked.view_is c.checked.invariant)
    (λ t. false≢true (sym c.if-not-is_theorem.true
    ∙ c.is_theorem.ensures.1 (subst (λ (ss : List Sentence). IsTheorem ss c.args.id.0)
    (sym (ap (λ (v : Conclusion). v.sentences) c.checked.view_is)) t)))

pub spell_one_tree-requires-clause-theorem : goal.spell_one_tree-requires-clause-theorem
spell_one_tree-requires-clause-theorem c =
    subst (λ (ss : List Sentence). IsTheorem ss c.args.id.0)
    (ap (λ (v : Conclusion). v.sentences) c.checked.view_is)
    (c.is_theorem.ensures.0 c.if-not-is_theorem.false)

pub spell_one_tree-requires-clause-other_theorem :
    goal.spell_one_tree-requires-clause-other_theorem
spell_one_tree-requires-clause-other_theorem c =
    let alike : IsAlikeNamed c.checked.inside.book.statements
    c.other_checked.inside.book.statements c.args.id.0 c.in-Some.named.0 =
    c.in-Some.ensures.some in
    subst (λ (ss : List Sentence). IsTheorem ss c.in-Some.named.0)
    (ap (λ (v : Conclusion). v.sentences) c.other_checked.view_is)
    (alike_theorem c.checked.inside.book.statements c.other_checked.inside.book.statements
    c.args.id.0 c.in-Some.named.0 (c.is_theorem.ensures.0 c.if-not-is_theorem.false) alike.3)

pub have_same_text-requires-clause-theorem : goal.have_same_text-requires-clause-theorem
have_same_text-requires-clause-theorem c =
    subst (λ (ss : List Sentence). IsTheorem ss c.args.id.0)
    (ap (λ (v : Conclusion). v.sentences) c.checked.view_is)
    (c.is_theorem.ensures.0 c.if-not-is_theorem.false)

pub have_same_text-requires-clause-other_theorem :
    goal.have_same_text-requires-clause-other_theorem
have_same_text-requires-clause-other_theorem c =
    let alike : IsAlikeNamed c.checked.inside.book.statements
    c.other_checked.inside.book.statements c.args.id.0 c.in-Some.named.0 =
    c.in-Some.ensures.some in
    subst (λ (ss : List Sentence). IsTheorem ss c.in-Some.named.0)
    (ap (λ (v : Conclusion). v.sentences) c.other_checked.view_is)
    (alike_theorem c.checked.inside.book.statements c.other_checked.inside.book.statements
    c.args.id.0 c.in-Some.named.0 (c.is_theorem.ensures.0 c.if-not-is_theorem.false) alike.3)

pub returns-then-have_same_text : goal.returns-then-have_same_text
returns-then-have_same_text c =
    let here = ap (λ (v : Conclusion). v.sentences) c.checked.view_is in
    let there = ap (λ (v : Conclusion). v.sentences) c.other_checked.view_is in
    let well = subst KeptWell c.checked.view_is c.checked.invariant in
    let well_too = subst KeptWell c.other_checked.view_is c.other_checked.invariant in
    let alike : IsAlikeNamed c.checked.inside.book.statements
    c.other_checked.inside.book.statements c.args.id.0 c.in-Some.named.0 =
    c.in-Some.ensures.some in
    let theorem : IsTheorem c.checked.inside.book.statements c.args.id.0 =
    c.is_theorem.ensures.0 c.if-not-is_theorem.false in
    let other : IsTheorem c.other_checked.inside.book.statements c.in-Some.named.0 =
    alike_theorem c.checked.inside.book.statements c.other_checked.inside.book.statements
    c.args.id.0 c.in-Some.named.0 theorem alike.3 in
    let own = rw here at theorem in
    let own_too = rw there at other in
    alike_told c.args.checked.now c.args.other_checked.now c.args.id.0 well well_too
    c.in-Some.named.0 true c.requires.complete.complete c.requires.other_complete.complete own
    own_too (rw (here, there) at alike)
    (λ statements others reads reads_too. (
      (λ t. text_told c.args.checked.now c.args.other_checked.now c.args.id.0 c.in-Some.named.0 well
          well_too c.requires.complete.complete c.requires.other_complete.complete own own_too
          statements others reads reads_too (c.requires.widths c.if-keeps_widths.true)
          (c.have_same_text.ensures c.if-have_same_text.true)),
      (λ h. refl),
    ))

pub returns-in_ok-same-in-Some : goal.returns-in_ok-same-in-Some
returns-in_ok-same-in-Some c =
    let here = ap (λ (v : Conclusion). v.sentences) c.checked.view_is in
    let there = ap (λ (v : Conclusion). v.sentences) c.other_checked.view_is in
    let alike : IsAlikeNamed c.checked.inside.book.statements
    c.other_checked.inside.book.statements c.args.id.0 c.in-Some.named.0 =
    c.in-Some.ensures.some in
    let theorem : IsTheorem c.checked.inside.book.statements c.args.id.0 =
    c.is_theorem.ensures.0 c.if-not-is_theorem.false in
    let other : IsTheorem c.other_checked.inside.book.statements c.in-Some.named.0 =
    alike_theorem c.checked.inside.book.statements c.other_checked.inside.book.statements
    c.args.id.0 c.in-Some.named.0 theorem alike.3 in
    alike_told c.args.checked.now c.args.other_checked.now c.args.id.0
    (subst KeptWell c.checked.view_is c.checked.invariant)
    (subst KeptWell c.other_checked.view_is c.other_checked.invariant) c.in-Some.named.0
    c.in_ok-same-in-Some.same c.requires.complete.complete c.requires.other_complete.complete
    (rw here at theorem) (rw there at other) (rw (here, there) at alike)
    c.in_ok-same-in-Some.ensures

pub returns-in-None : goal.returns-in-None
returns-in-None c =
    let here = ap (λ (v : Conclusion). v.sentences) c.checked.view_is in
    let there = ap (λ (v : Conclusion). v.sentences) c.other_checked.view_is in
    none_alike c.args.checked.now c.args.other_checked.now c.args.id.0
    (subst KeptWell c.checked.view_is c.checked.invariant)
    (subst KeptWell c.other_checked.view_is c.other_checked.invariant)
    (rw (here, there) at (c.alike_named.ensures.none c.in-None.is))
