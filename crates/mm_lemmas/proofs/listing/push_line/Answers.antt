-- The parts follow one another.
use Rattle.std.proofs.Common.{ap, ◌∙◌, ◌++◌}
use Rattle.mm_code.specs.Layout.{texts}
use Rattle.mm_rules.specs.Shown.{symbols_text}
use Rattle.mm_find.specs.Found.{premises}
use Rattle.mm_find.specs.Plain.{expressions_in}
use Rattle.mm_lemmas.specs.Told.{gain_text, known_text, made_text}
use Rattle.mm_lemmas.specs.Mirror.Listing.{plain_known, plain_name}
use Rattle.mm_lemmas.proofs.LemmaLines.{line_told}
use Rattle.mm_lemmas.proofs.listing.push_line.Goals as goal

pub returns : goal.returns
returns c =
    let told = c.args.told.now in
    line_told c.args.out.now.items c.push_gain.new.out.items c.push_source.new.out.items
    c.push_word.new.out.items c.push_premises.new.out.items c.push_words.new.out.items
    c.push.new.self.items
    (gain_text told.gain.saved told.gain.uses told.gain.proofs)
    (made_text (plain_name told.source.upper) told.source.place (plain_name told.source.lower))
    (known_text (plain_known told.source.known))
    (premises (expressions_in told.hypotheses.items))
    (texts told.expression.items)
    c.in_ok-push_gain.ensures c.in_ok-push_source.ensures c.in_ok-push_word.ensures
    (c.in_ok-push_premises.ensures ∙ ap (λ vs. c.push_word.new.out.items ++ symbols_text
    (premises (expressions_in vs))) c.deref.ensures.value)
    (c.in_ok-push_words.ensures ∙ ap (λ ws. c.push_premises.new.out.items ++ symbols_text
    (texts ws)) c.deref-2.ensures.value)
    c.in_ok-push.ensures.items
