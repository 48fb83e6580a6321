use Rattle.std.proofs.Common.{◌≡◌, ◌+◌, ◌<◌, ◌≤◌, ℕ, length, get_or, true, false, ◌∙◌, sym, arith}
use Rattle.mm_base.specs.Token.{is_space}
use Rattle.mm_text.proofs.Tokens.WordsAndComments.{tokens_from-token, space_after}
use Rattle.mm_text.proofs.Tokens.WordBytes.{lacks_dollar, high_ink, high_word}
use Rattle.mm_text.proofs.scan.short_word_end.Goals as goal

-- the first byte that isn't above `$` is white space, so the word ends there
pub returns-then-is_space : goal.returns-then-is_space
returns-then-is_space c =
    let bytes = c.args.bytes.now in
    let start = c.args.start in
    let end = start + c.passed_run-run.result in
    let within : end < length bytes = omega (arith, c.if-run-lanes.true) in
    let space : is_space (get_or bytes end 0) ≡ true = sym c.is_space.ensures ∙ c.if-is_space.true in
    let some = space_after bytes start end (omega arith) c.requires.begins space in
    let ink : (k : ℕ) → start ≤ k → k < end → is_space (get_or bytes k 0) ≡ false = λ k from below.
    high_ink _ (c.passed_run-run.ensures.passes k from below) in
    record {
      after = some;
      within = within;
      token = λ file. tokens_from-token bytes file start end some (omega arith) ink (λ _. space);
      ink = ink;
      dollar = lacks_dollar bytes start end (omega arith) (omega arith) (λ k from below.
          high_word _ (c.passed_run-run.ensures.passes k from below));
      space = space;
    }
