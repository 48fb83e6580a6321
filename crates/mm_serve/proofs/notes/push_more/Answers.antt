-- The line is made of three parts.
use Rattle.std.proofs.Common.{◌∙◌, ap, ◌++◌}
use Rattle.mm_serve.proofs.FilesRead.{three_parts}
use Rattle.mm_serve.proofs.notes.push_more.Goals as goal

pub returns : goal.returns
returns c =
    three_parts c.extend_from_slice-3.result c.args.notes.now.items
    c.extend_from_slice.new.self.items c.extend_from_slice-2.new.self.items _ _ _ _ c.in_ok-extend_from_slice.ensures.items
    (c.in_ok-extend_from_slice-2.ensures.items
    ∙ ap (λ l. c.extend_from_slice.new.self.items ++ l)
    (c.as_bytes.ensures.value ∙ c.format.ensures.text))
    c.extend_from_slice-3.ensures.items
