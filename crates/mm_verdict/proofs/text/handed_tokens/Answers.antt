-- The tokens are those of the proof, or the text is wrong.
use Rattle.std.proofs.Common.{◌≡◌, ℕ, List, None, ap, map, option_map, length, sym}
use Rattle.std.proofs.Common.{◌∙◌, arith}
use Rattle.std.specs.List.{sum_by}
use Rattle.mm_base.specs.Token.{plain_token}
use Rattle.mm_code.specs.Words.{texts_of}
use Rattle.mm_text.specs.Shown.{broken_at, clear_tokens, first_broken, shown_in}
use Rattle.mm_rules.specs.ProofText.{before_stop, begun_tokens, behind_equals, end_before}
use Rattle.mm_rules.specs.ProofText.{first_dollar, proof_tokens}
use Rattle.mm_rules.proofs.Judgements.JudgedProofs.{texts_of as same_texts}
use Rattle.mm_verdict.proofs.Questions.HandedProofs.{begun_room, dollar_broken, end_told, faultless}
use Rattle.mm_verdict.proofs.Questions.HandedProofs.{shown_broken, stopped_room, tokens_told}
use Rattle.mm_verdict.proofs.text.handed_tokens.Goals as goal

pub returns-in-Some-clause-fault : goal.returns-in-Some-clause-fault
returns-in-Some-clause-fault c = (
  omega (arith, c.if-text-gt-BYTE_LIMIT.false),
  shown_broken c.args.text.now c.in-Some.wrong
      (sym c.in_ok-shown.ensures.fault ∙ ap (option_map broken_at) c.in-Some.is),
)

pub returns-in-Some-first_dollar-clause-fault : goal.returns-in-Some-first_dollar-clause-fault
returns-in-Some-first_dollar-clause-fault c =
    let text : List ℕ = c.args.text.now in
    let none : first_broken (shown_in text) ≡ None =
    sym c.in_ok-shown.ensures.fault ∙ ap (option_map broken_at) c.in_default.is in
    let begun : map plain_token c.behind_equals.result.now ≡ begun_tokens text =
    c.behind_equals.ensures
    ∙ ap behind_equals (ap (map plain_token) c.deref.ensures.value ∙ c.in_ok-shown.ensures.tokens) in
    let tokens : map plain_token c.before_stop-end.result.0.now ≡ proof_tokens text =
    tokens_told text (map plain_token c.before_stop-end.result.0.now)
    (c.before_stop-end.ensures.tokens ∙ ap before_stop begun) in (
      omega (arith, c.if-text-gt-BYTE_LIMIT.false),
      dollar_broken text (plain_token c.in-Some-first_dollar.token) none
          (ap first_dollar (sym tokens) ∙ sym c.first_dollar.ensures
          ∙ ap (option_map plain_token) c.in-Some-first_dollar.is),
    )

pub returns-clause-places : goal.returns-clause-places
returns-clause-places c =
    let text : List ℕ = c.args.text.now in
    let begun : map plain_token c.behind_equals.result.now ≡ begun_tokens text =
    c.behind_equals.ensures
    ∙ ap behind_equals (ap (map plain_token) c.deref.ensures.value ∙ c.in_ok-shown.ensures.tokens) in
    ap (map plain_token) c.in_ok-from_slice.ensures.items
    ∙ tokens_told text (map plain_token c.before_stop-end.result.0.now)
    (c.before_stop-end.ensures.tokens ∙ ap before_stop begun)

pub returns-clause-tokens : goal.returns-clause-tokens
returns-clause-tokens c =
    same_texts c.in_ok-from_slice.field-0.items ∙ ap texts_of (returns-clause-places c)

pub returns-clause-end : goal.returns-clause-end
returns-clause-end c =
    let text : List ℕ = c.args.text.now in
    let begun : map plain_token c.behind_equals.result.now ≡ begun_tokens text =
    c.behind_equals.ensures
    ∙ ap behind_equals (ap (map plain_token) c.deref.ensures.value ∙ c.in_ok-shown.ensures.tokens) in
    end_told text c.before_stop-end.result.1
    (c.before_stop-end.ensures.end ∙ ap (end_before (length text)) begun)

pub returns-clause-room : goal.returns-clause-room
returns-clause-room c =
    let text : List ℕ = c.args.text.now in
    let begun : map plain_token c.behind_equals.result.now ≡ begun_tokens text =
    c.behind_equals.ensures
    ∙ ap behind_equals (ap (map plain_token) c.deref.ensures.value ∙ c.in_ok-shown.ensures.tokens) in
    let told : map plain_token c.in_ok-from_slice.field-0.items ≡ before_stop (begun_tokens text) =
    ap (map plain_token) c.in_ok-from_slice.ensures.items
    ∙ c.before_stop-end.ensures.tokens ∙ ap before_stop begun in
    omega (
      arith,
      c.if-text-gt-BYTE_LIMIT.false,
      ap (sum_by length) (same_texts c.in_ok-from_slice.field-0.items ∙ ap texts_of told),
      stopped_room (begun_tokens text),
      begun_room (clear_tokens (shown_in text)),
      ap (sum_by length)
          (same_texts c.in_ok-shown.shown.tokens.items
          ∙ ap texts_of c.in_ok-shown.ensures.tokens),
      c.in_ok-shown.ensures.room,
    )

pub returns-clause-legal : goal.returns-clause-legal
returns-clause-legal c =
    let text : List ℕ = c.args.text.now in
    let none : first_broken (shown_in text) ≡ None =
    sym c.in_ok-shown.ensures.fault ∙ ap (option_map broken_at) c.in_default.is in
    let begun : map plain_token c.behind_equals.result.now ≡ begun_tokens text =
    c.behind_equals.ensures
    ∙ ap behind_equals (ap (map plain_token) c.deref.ensures.value ∙ c.in_ok-shown.ensures.tokens) in
    let tokens : map plain_token c.before_stop-end.result.0.now ≡ proof_tokens text =
    tokens_told text (map plain_token c.before_stop-end.result.0.now)
    (c.before_stop-end.ensures.tokens ∙ ap before_stop begun) in
    record {
      taken = omega (arith, c.if-text-gt-BYTE_LIMIT.false);
      faultless = faultless text none
          (ap first_dollar (sym tokens) ∙ sym c.first_dollar.ensures
          ∙ ap (option_map plain_token) c.in_default-first_dollar.is);
    }
