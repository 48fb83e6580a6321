-- `(` begins the lines, the labels and `)` follow it, and then the letters.
use Rattle.std.proofs.Common.{[], ◌∷◌, ◌++◌, refl, ◌∙◌, append_assoc}
use Rattle.mm_code.specs.Layout.{texts}
use Rattle.mm_code.proofs.LaidOutLines.{tokens_laid_out, compressed_laid_out}
use Rattle.mm_code.proofs.layout.lay_out_compressed.Goals as goal

pub returns : goal.returns
returns c =
    let labels = texts c.args.labels.now in
    let begun = c.begin_line.new.text.items in
    let whole_list = c.add_token.new.text.items in
    compressed_laid_out labels c.args.letters.now c.push.new.self.items c.add_letters.new.text.items
    (tokens_laid_out c.in_ok-text.text.items begun whole_list c.push.new.self.items (40 ∷ []) c.in_ok-opened.opened c.in_ok-add_token.field-0 (labels ++ (41 ∷ []) ∷ [])
    c.in_ok-text.ensures.empty c.in_ok-opened.ensures.text c.in_ok-opened.ensures.room
    (λ more. c.in_ok-add_token.ensures more ∙ c.in_ok-listed.ensures ((41 ∷ []) ∷ more)
    ∙ rw append_assoc refl) c.in_ok-push.ensures.items)
    c.in_ok-add_letters.ensures
