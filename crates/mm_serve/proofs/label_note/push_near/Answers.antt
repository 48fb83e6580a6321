-- The line is made of three parts, where there are near labels.
use Rattle.std.proofs.Common.{◌++◌, ap, codes, length, sym, ◌∙◌}
use Rattle.std.proofs.lemmas.Result.{on_ok_weaker}
use Rattle.mm_code.specs.Layout.{texts}
use Rattle.mm_near.specs.Near.{joined}
use Rattle.mm_facts.proofs.DisjointDetails.{some_in}
use Rattle.mm_serve.proofs.FilesRead.{near_lines, three_parts}
use Rattle.mm_serve.proofs.label_note.push_near.Goals as goal

pub returns : goal.returns
returns c =
    let xs = c.args.near.now in
    on_ok_weaker c.extend_from_slice-2.result
    (λ made. made
    ∙ ap (λ line. c.args.notes.now.items ++ line)
    (ap (λ first. first ++ (joined (texts xs) ++ codes "\n")) c.beginning.ensures
    ∙ near_lines xs (some_in (length xs) (sym c.if-is_empty.false ∙ c.is_empty.ensures))))
    (three_parts c.extend_from_slice-2.result c.args.notes.now.items
    c.extend_from_slice.new.self.items c.push_joined.new.out.items _ _ _ _
    c.in_ok-extend_from_slice.ensures.items c.in_ok-push_joined.ensures
    c.extend_from_slice-2.ensures.items)
