-- The words so far, and those that are left.
use Rattle.std.proofs.Common.{◌≡◌, ◌++◌, drop, false}
use Rattle.mm_base.specs.Statement.{plain_statement}
use Rattle.mm_code.specs.Layout.{texts}
use Rattle.mm_code.specs.Words.{tokens_in}
use Rattle.mm_rules.specs.Verdict.{proof_of}
use Rattle.mm_alike.specs.Mirror.Homes.{words_outside}
use Rattle.mm_alike.proofs.words.proof_in.Given as goal

abbrev pub invariant-loop-word : goal.invariant-loop-word
invariant-loop-word l =
    proof_of (plain_statement l.statement)
    ++ words_outside l.is_open (texts (drop l.word-index l.word-items))
    ≡ words_outside false (tokens_in l.bytes)
