-- The bytes are those of the file with the number.
use Rattle.std.proofs.Common.{◌≡◌, length, inr, refl, sym, ◌∙◌}
use Rattle.mm_verdict.proofs.FileBytes.StatementsInFiles.{number_within}
use Rattle.mm_text.proofs.Inclusions.OpenFiles.{file_there}
use Rattle.mm_render.proofs.rewrite.put_in.Goals as goal

pub returns-then-is_over-clause-fault : goal.returns-then-is_over-clause-fault
returns-then-is_over-clause-fault c =
    let less = number_within c.args.files.now c.args.number c.requires.there.0 c.requires.there.1 in
    let long : length c.in_ok-new.new.items ≡ c.len.result = sym (c.len.ensures ∙ c.in_ok-new.new.ok.0) in
    inr (
      refl,
      c.in_ok-new.new.items,
      (_, file_there c.args.files.now c.args.number _ less, c.in_ok-new.ensures),
      (c.is_over.ensures c.in_ok-new.new.items long).0 c.if-is_over.true,
    )

pub returns-clause-put : goal.returns-clause-put
returns-clause-put c =
    let less = number_within c.args.files.now c.args.number c.requires.there.0 c.requires.there.1 in
    (_, file_there c.args.files.now c.args.number _ less, c.in_ok-new.ensures)
