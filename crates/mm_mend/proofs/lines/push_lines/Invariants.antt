-- The lines so far are those on the changes so far.
use Rattle.std.proofs.Common.{◌≡◌, ◌++◌, map, take}
use Rattle.std.specs.List.{flat_map}
use Rattle.mm_base.specs.Statement.{plain_statement}
use Rattle.mm_text.specs.Files.{plain_file}
use Rattle.mm_mend.specs.Reply.{change_line}
use Rattle.mm_mend.proofs.lines.push_lines.Given as goal

abbrev pub invariant-loop-change : goal.invariant-loop-change
invariant-loop-change l =
    l.out.items ≡ l.fn.out.items
    ++ flat_map (λ change. change_line (map plain_file l.files) (plain_statement l.statement)
    l.text change) (take l.change-index l.changes)
