-- The parts of the line, one after the other.
use Rattle.std.proofs.Common.{◌∙◌, ℕ, List, ap, codes, map}
use Rattle.mm_base.specs.Statement.{plain_statement, PlainStatement}
use Rattle.mm_base.specs.Token.{plain_token}
use Rattle.mm_text.specs.Files.{PlainFile, plain_file}
use Rattle.mm_rules.specs.Places.{place_of, place_text}
use Rattle.mm_rules.specs.Shown.{symbols_text}
use Rattle.mm_rules.specs.Verdict.{proof_of}
use Rattle.mm_rules.proofs.Judgements.JudgedProofs.{texts_of}
use Rattle.mm_step.specs.Plain.{token_texts}
use Rattle.mm_mend.specs.Reply.{change_name, change_position, change_words}
use Rattle.mm_mend.proofs.ToldChanges.{line_parts}
use Rattle.mm_mend.proofs.lines.push_line.Goals as goal

pub returns : goal.returns
returns c =
    let files : List PlainFile = map plain_file c.args.files.now in
    let s : PlainStatement = plain_statement c.args.statement.now in
    let change = c.args.change in
    let out : List ℕ = c.args.out.now.items in
    let tokens = ap (map plain_token) c.deref.ensures.value in
    let texts = ap token_texts c.deref-2.ensures.value
    ∙ texts_of c.args.statement.now.proof.items in
    line_parts out (change_name change) (codes " ")
    (place_text files (place_of files s.first.file (change_position s.proof s.span.0 change)))
    (symbols_text (change_words (proof_of s) c.args.text.now change)) (codes "\n")
    c.extend_from_slice.new.self.items c.push.new.self.items c.push_place.new.out.items
    c.push_words.new.out.items c.push-2.new.self.items
    (rw c.name_of.ensures at c.in_ok-extend_from_slice.ensures.items)
    c.in_ok-push.ensures.items
    (rw (c.place_of.ensures, c.position_of-at.ensures, tokens) at c.in_ok-push_place.ensures)
    (rw texts at c.in_ok-push_words.ensures)
    c.in_ok-push-2.ensures.items
