use Rattle.std.proofs.Common.{arith}
use Rattle.mm_text.proofs.Tokens.WordsAndComments.{tokens_from-step}
use Rattle.mm_text.proofs.comments.after_blank.Goals as goal

pub returns-then-at-legal-clause-same_tokens : goal.returns-then-at-legal-clause-same_tokens
returns-then-at-legal-clause-same_tokens c file =
    let within = c.requires.prefix.within in
    tokens_from-step c.args.bytes.now file c.args.at (omega arith) (c.requires.blank (omega arith))
