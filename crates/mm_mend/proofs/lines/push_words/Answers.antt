-- The words are those from the index on.
use Rattle.std.proofs.Common.{◌∙◌, ℕ, List, ap, sym}
use Rattle.std.proofs.lemmas.List.{drop-map}
use Rattle.mm_base.specs.declared.token.Token.{Token}
use Rattle.mm_step.specs.Plain.{token_texts}
use Rattle.mm_mend.specs.Reply.{token_at}
use Rattle.mm_mend.proofs.lines.push_words.Goals as goal

pub returns-in-Words : goal.returns-in-Words
returns-in-Words c =
    let rest = ap token_texts c.tokens_from-rest.ensures
    ∙ sym (drop-map (λ (t : Token). t.text.now) c.in-Words.at c.args.tokens.now) in
    let one = c.text_at.ensures ∙ ap (λ (ts : List (List ℕ)). token_at ts 0) rest in
    let other = c.text_at-in-Words.ensures ∙ ap (λ (ts : List (List ℕ)). token_at ts 1) rest in
    rw c.in-Words.is (rw (one, other) at c.push_two.ensures)
