-- Nothing was taken yet where the progress begins.
use Rattle.std.proofs.Common.{map}
use Rattle.mm_text.specs.Files.{plain_file}
use Rattle.mm_explain.proofs.SemanticErrors.{read_none}
use Rattle.mm_explain.proofs.semantic_error.find_breaking.Goals as goal

pub breaking_after-index-requires-clause-read : goal.breaking_after-index-requires-clause-read
breaking_after-index-requires-clause-read c =
    read_none (map plain_file c.args.files.now) c.in_ok-progress.progress c.args.statements.now
    c.requires.unread c.requires.readable c.in_ok-progress.ensures.taken
    c.in_ok-progress.ensures.lines
