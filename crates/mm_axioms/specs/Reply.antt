-- The reply to a command: its text and its status, which are this project's own.
use Rattle.std.specs.Prelude.{ℕ, List}
use Rattle.std.specs.List.{flat_map}
use Rattle.mm_axioms.specs.AllAxioms.{ReportLine}
use Rattle.mm_verdict.specs.Reply.{line_with}

-- the text of lines that tell what theorems rest on
abbrev pub lines_text : List ReportLine → List ℕ
lines_text lines = flat_map (λ line. line_with line.word line.others) lines
