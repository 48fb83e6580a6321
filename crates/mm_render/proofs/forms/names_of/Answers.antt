-- One more name is the next label.
use Rattle.std.proofs.Common.{◌≡◌, ℕ, ◌≤◌, List, [], ◌∷◌, ◌++◌, length, take, add-one, Bor, sym, ap, ◌∙◌, arith}
use Rattle.std.proofs.lemmas.List.{take_all, map-append}
use Rattle.mm_code.specs.Layout.{texts}
use Rattle.mm_render.proofs.ToldProofs.ToldTrees.{next_name, as_many_names}
use Rattle.mm_render.proofs.forms.names_of.Goals as goal

pub loop-id-preserved : goal.loop-id-preserved
loop-id-preserved c = λ labels are.
    let more = ap (λ (n : ℕ). take n labels) (add-one c.loop-id.id-index)
    ∙ next_name c.args.book.now.statements c.args.ids.now labels c.loop-id.id-index _ c.label.result.now are c.loop-id-test.true c.label.ensures in
    ap texts c.in_ok-push.ensures.items ∙ map-append (λ (t : Bor (List ℕ)). t.now) c.loop-id.names.items _ ∙ ap (λ (ls : List (List ℕ)). ls ++ c.label.result.now ∷ []) (c.loop-id.invariant labels are) ∙ sym more

pub returns : goal.returns
returns c = λ labels are.
    let many : length labels ≡ length c.args.ids.now = as_many_names c.args.book.now.statements c.args.ids.now labels are in
    let all : length c.args.ids.now ≤ c.loop-id.id-index = c.loop-id-test.false in
    c.loop-id.invariant labels are ∙ take_all c.loop-id.id-index labels (omega (arith, many, all))
