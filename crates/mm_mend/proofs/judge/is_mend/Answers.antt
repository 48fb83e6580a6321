-- The tokens, or the text, that are judged are those after the change.
use Rattle.std.proofs.Common.{◌≤◌, ◌∙◌, ℕ, List, ap, length, subst, sum_by, sym, take}
use Rattle.std.proofs.lemmas.Result.{IfOk-weaker}
use Rattle.mm_base.specs.MostBytes.{most_bytes}
use Rattle.mm_step.specs.Plain.{token_texts}
use Rattle.mm_mend.proofs.JudgedChanges.{exchanged_room, words_decided}
use Rattle.mm_mend.proofs.ToldChanges.{exchanged_texts}
use Rattle.mm_mend.proofs.judge.is_mend.Goals as goal

pub is_proof-requires-clause-room : goal.is_proof-requires-clause-room
is_proof-requires-clause-room c =
    let same = ap token_texts (c.deref.ensures.value ∙ c.in_ok-exchanged-in-Words.ensures)
    ∙ exchanged_texts c.in-Words.at c.args.tokens.now in
    subst (λ (ts : List (List ℕ)). sum_by length ts ≤ most_bytes) (sym same)
    (subst (λ (n : ℕ). n ≤ most_bytes)
    (sym (exchanged_room c.in-Words.at (token_texts c.args.tokens.now))) c.requires.room)

pub returns-in_ok-exchanged-in-Words : goal.returns-in_ok-exchanged-in-Words
returns-in_ok-exchanged-in-Words c =
    let same = ap token_texts (c.deref.ensures.value ∙ c.in_ok-exchanged-in-Words.ensures)
    ∙ exchanged_texts c.in-Words.at c.args.tokens.now in
    IfOk-weaker c.is_proof.result _ _
    (λ yes told index s number.
    words_decided (take index c.args.book.now.statements) s (token_texts c.args.tokens.now)
    c.args.text.now yes c.args.change c.in-Words.at c.in-Words.is
    (rw same at (told index s number)))
    c.is_proof.ensures

pub returns-in-Removed : goal.returns-in-Removed
returns-in-Removed c = rw c.in-Removed.is (rw c.in-Removed.is at c.is_byte_mend.ensures)

pub returns-in-Exchanged : goal.returns-in-Exchanged
returns-in-Exchanged c =
    rw c.in-Exchanged.is (rw c.in-Exchanged.is at c.is_byte_mend-in-Exchanged.ensures)

pub returns-in-Replaced : goal.returns-in-Replaced
returns-in-Replaced c =
    rw c.in-Replaced.is (rw c.in-Replaced.is at c.is_byte_mend-in-Replaced.ensures)

pub returns-in-Put : goal.returns-in-Put
returns-in-Put c =
    rw c.in-Put.is (rw c.in-Put.is at c.is_byte_mend-in-Put.ensures)
