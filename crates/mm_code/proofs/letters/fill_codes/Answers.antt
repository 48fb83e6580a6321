-- The reading on lists gives each clause.
use Rattle.std.proofs.Common.{ℕ, List, [], Ok, ap, ◌∙◌, Result, Err, OnOk, IsErrOf}
use Rattle.mm_code.specs.Letters.{joined_tokens, Letters, Fills, LettersBreak}
use Rattle.mm_code.specs.declared.code.Code.{Code}
use Rattle.mm_code.specs.Mirror.Reading.{reading}
use Rattle.mm_code.specs.declared.code.CodeRule.{CodeRule}
use Rattle.mm_code.specs.declared.code.CodeFault.{CodeFault}
use Rattle.mm_code.specs.declared.code.CodeFault.TheVariants.{Rule}
use Rattle.mm_code.proofs.LetterFaults.{breaks_read, read_breaks}
use Rattle.mm_code.proofs.ReadLetters.{is_read_again, is_read}
use Rattle.mm_code.proofs.letters.fill_codes.Goals as goal

ok_found : {X : Type 0} (text : List ℕ) (result : Result X CodeFault) (codes : List Code)
    → Fills result codes (reading 0 text) → OnOk result (Letters text codes)
ok_found text (Ok done) codes given = is_read text [] codes tt given
ok_found text (Err fault) codes given = tt

rule_broken : {X : Type 0} (text : List ℕ) (result : Result X CodeFault) (codes : List Code)
    (rule : CodeRule) → Fills result codes (reading 0 text) → IsErrOf result (Rule rule)
    → LettersBreak rule text
rule_broken text (Err (Rule other)) codes rule given is =
    read_breaks rule text (given ∙ ap Err (cc))
rule_broken text _ codes rule given is = absurd cc

pub returns : goal.returns
returns c =
    let text = joined_tokens c.args.tokens.now in
    let codes = c.read_tokens.new.codes.items in
    let given = c.read_tokens.ensures in
    record {
      read = ok_found text _ codes given;
      whole = λ said letters. rw (is_read_again text said letters) at given;
      rule = λ rule is. rule_broken text _ codes rule given is;
      broken = λ rule broken. rw (breaks_read rule text broken) at given;
    }
