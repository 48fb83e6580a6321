-- White space is passed over, and a word is taken.
use Rattle.std.proofs.Common.{List, map, length, sym, ap, subst, ◌∙◌, refl, arith}
use Rattle.std.specs.List.{sum_by}
use Rattle.std.proofs.lemmas.List.{map-append}
use Rattle.mm_base.specs.Token.{PlainToken, plain_token}
use Rattle.mm_code.specs.Words.{texts_of}
use Rattle.mm_code.proofs.ReadBack.{texts_in}
use Rattle.mm_rules.proofs.Judgements.JudgedProofs.{texts_of as same_texts}
use Rattle.mm_verdict.specs.Mirror.Comparisons.{ArePrefixTokens}
use Rattle.mm_verdict.proofs.Questions.TextTokens.{prefix_none, prefix_passed, prefix_taken}
use Rattle.mm_verdict.proofs.Questions.TextTokens.{prefix_all}
use Rattle.mm_verdict.proofs.text.placed_tokens.Goals as goal

pub loop-first-init : goal.loop-first-init
loop-first-init c = rw c.new-tokens.ensures.items (prefix_none c.args.text.now)

pub loop-first-preserved-then-is_space : goal.loop-first-preserved-then-is_space
loop-first-preserved-then-is_space c =
    prefix_passed c.args.text.now (map plain_token c.loop-first.tokens.items) c.loop-first.rest.now
    c.in-Some.first.now c.in-Some.others.now c.loop-first.invariant c.in-Some.ensures.cases.0
    (sym c.is_space.ensures ∙ c.if-is_space.true)

pub loop-first-preserved : goal.loop-first-preserved
loop-first-preserved c =
    let before : List PlainToken = map plain_token c.loop-first.tokens.items in
    let taken = ap (map plain_token) c.in_ok-push.ensures.items
    ∙ map-append plain_token c.loop-first.tokens.items _ in
    subst (λ (ts : List PlainToken). ArePrefixTokens c.args.text.now ts c.split_at.result.1.now)
    (sym taken)
    (prefix_taken c.args.text.now before c.loop-first.rest.now c.in-Some.first.now
    c.in-Some.others.now c.word_len.result c.split_at.result.0.now c.split_at.result.1.now _
    c.loop-first.invariant c.in-Some.ensures.cases.0 (sym c.is_space.ensures ∙ c.if-is_space.false)
    c.word_len.ensures.word c.word_len.ensures.stop c.split_at.ensures.front c.split_at.ensures.back
    refl)

pub returns-clause-places : goal.returns-clause-places
returns-clause-places c =
    prefix_all c.args.text.now (map plain_token c.loop-first.tokens.items) c.loop-first.rest.now
    c.loop-first.invariant c.in_default.ensures.cases

pub returns-clause-tokens : goal.returns-clause-tokens
returns-clause-tokens c =
    same_texts c.loop-first.tokens.items
    ∙ ap texts_of (prefix_all c.args.text.now (map plain_token c.loop-first.tokens.items)
    c.loop-first.rest.now c.loop-first.invariant c.in_default.ensures.cases)
    ∙ texts_in 0 0 c.args.text.now

pub returns-clause-room : goal.returns-clause-room
returns-clause-room c =
    omega (
      arith,
      c.loop-first.invariant.room,
      ap (sum_by length) (same_texts c.loop-first.tokens.items),
    )
