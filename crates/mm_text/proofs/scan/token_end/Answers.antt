use Rattle.std.proofs.Common.{◌≡◌, ◌<◌, ◌≤◌, ◌==◌, ℕ, List, get_or, true, false, ⊎_elim, ◌∙◌, sym}
use Rattle.std.proofs.Common.{arith}
use Rattle.std.proofs.str.Laws.{order}
use Rattle.mm_base.specs.Token.{is_space}
use Rattle.mm_text.proofs.Tokens.WordsAndComments.{tokens_from-token, space_after}
use Rattle.mm_text.proofs.Tokens.WordBytes.{lacks_dollar, has_dollar, high_ink, high_word, run_on}
use Rattle.mm_text.proofs.scan.token_end.Goals as goal

-- A token goes on over bytes above `$`.

-- the token ends with the file
pub returns-then-at-bytes-clause-token : goal.returns-then-at-bytes-clause-token
returns-then-at-bytes-clause-token c file =
    tokens_from-token c.args.bytes.now file c.args.start _ (omega arith) (omega arith)
    (run_on _ _ c.words.from _ is_space high_ink c.words.invariant.ink
    c.first_sought-at.ensures.passed) (λ past. absurd (omega arith))

pub returns-then-at-bytes-clause-ink : goal.returns-then-at-bytes-clause-ink
returns-then-at-bytes-clause-ink c =
    run_on _ _ _ _ is_space high_ink c.words.invariant.ink c.first_sought-at.ensures.passed

pub returns-then-at-bytes-clause-dollar : goal.returns-then-at-bytes-clause-dollar
returns-then-at-bytes-clause-dollar c =
    sym (lacks_dollar _ _ _ (omega arith) (omega arith) (run_on _ _ c.words.from _ (λ b. b == 36)
    high_word c.words.invariant.words c.first_sought-at.ensures.passed))

-- the token ends before a byte of white space
pub returns-then-is_space-clause-token : goal.returns-then-is_space-clause-token
returns-then-is_space-clause-token c file =
    let at = c.first_sought-at.result in
    let space : is_space (get_or c.args.bytes.now at 0) ≡ true =
    sym c.is_space.ensures ∙ c.if-is_space.true in
    let some = space_after c.args.bytes.now c.args.start at (omega arith) c.requires.begins space in
    tokens_from-token c.args.bytes.now file c.args.start at some (omega arith)
    (run_on _ _ c.words.from _ is_space high_ink c.words.invariant.ink
    c.first_sought-at.ensures.passed) (λ _. space)

pub returns-then-is_space-clause-ink : goal.returns-then-is_space-clause-ink
returns-then-is_space-clause-ink c =
    run_on _ _ _ _ is_space high_ink c.words.invariant.ink c.first_sought-at.ensures.passed

pub returns-then-is_space-clause-dollar : goal.returns-then-is_space-clause-dollar
returns-then-is_space-clause-dollar c =
    sym (lacks_dollar _ _ _ (omega arith) (omega arith) (run_on _ _ c.words.from _ (λ b. b == 36)
    high_word c.words.invariant.words c.first_sought-at.ensures.passed))

-- no byte up to one position is white space, and none up to the next
ink_on : (bytes : List ℕ) (start at end : ℕ)
    → ((k : ℕ) → start ≤ k → k < at → is_space (get_or bytes k 0) ≡ false)
    → ((k : ℕ) → at ≤ k → k < end → is_space (get_or bytes k 0) ≡ false)
    → (k : ℕ) → start ≤ k → k < end → is_space (get_or bytes k 0) ≡ false
ink_on bytes start at end before behind k from below = ⊎_elim
    (λ (less : k < at). before k from less) (λ (more : at ≤ k). behind k more below) (order k at)

-- the token goes on after a `$`
pub returns-then-byte-eq36-clause-token : goal.returns-then-byte-eq36-clause-token
returns-then-byte-eq36-clause-token c file =
    tokens_from-token c.args.bytes.now file c.args.start _ (omega arith) (omega arith)
    (ink_on c.args.bytes.now _ c.first_sought-at.result _
    (run_on _ _ c.words.from _ is_space high_ink
    c.words.invariant.ink c.first_sought-at.ensures.passed) c.ink_end-end.ensures.ink)
    c.ink_end-end.ensures.stops

pub returns-then-byte-eq36-clause-ink : goal.returns-then-byte-eq36-clause-ink
returns-then-byte-eq36-clause-ink c =
    ink_on c.args.bytes.now _ c.first_sought-at.result _
    (run_on _ _ c.words.from _ is_space high_ink
    c.words.invariant.ink c.first_sought-at.ensures.passed) c.ink_end-end.ensures.ink

pub returns-then-byte-eq36-clause-dollar : goal.returns-then-byte-eq36-clause-dollar
returns-then-byte-eq36-clause-dollar c =
    let dollar : get_or c.args.bytes.now c.first_sought-at.result 0 ≡ 36 =
    omega (arith, c.if-byte-eq36.true) in
    sym (has_dollar c.args.bytes.now c.args.start c.first_sought-at.result c.ink_end-end.result
    (omega arith) (omega arith) (omega arith) dollar)
