-- Those of the byte itself, and then those that are put.
use Rattle.std.proofs.Common.{◌∙◌, ◌++◌, ℕ, List, ap, append_assoc, map}
use Rattle.std.proofs.lemmas.Result.{on_ok_weaker}
use Rattle.mm_mend.specs.Mend.{others, own_changes}
use Rattle.mm_mend.specs.declared.change.Change.{Change}
use Rattle.mm_mend.specs.declared.change.Change.TheVariants.{Put}
use Rattle.mm_mend.proofs.tried.push_changes_of.Goals as goal

pub returns : goal.returns
returns c =
    let old : List Change = c.args.changes.now.items in
    let left : List ℕ = others c.args.own c.args.bytes.now in
    let own : List ℕ → List Change = own_changes c.args.own c.args.next c.args.at in
    let put_all : List ℕ → List Change = map (λ byte. Put c.args.at byte) in
    let first = c.deref.ensures.value ∙ c.in_ok-left.ensures in
    let second = c.deref-2.ensures.value ∙ c.in_ok-left.ensures in
    on_ok_weaker c.push_put.result
    (λ put. put
    ∙ ap (λ (l : List ℕ). c.push_own.new.changes.items ++ put_all l) second
    ∙ ap (λ (l : List Change). l ++ put_all left)
    (c.in_ok-push_own.ensures ∙ ap (λ (l : List ℕ). old ++ own l) first)
    ∙ append_assoc old (own left) (put_all left))
    c.push_put.ensures
