-- The step has the codes up to the next number.
use Rattle.std.proofs.Common.{◌≡◌, ◌+◌, ◌-◌, List, take, drop, ap, refl, ◌∙◌}
use Rattle.std.specs.List.{position_or_len}
use Rattle.std.proofs.lemmas.List.{take_rest}
use Rattle.std.proofs.lemmas.List.Elements.{All-take, All-drop}
use Rattle.mm_code.specs.declared.code.Code.{Code}
use Rattle.mm_code.specs.Letters.{HasSpelling}
use Rattle.mm_places.specs.StepLetters.{is_number}
use Rattle.mm_places.proofs.ProofPlaces.StepLetters.{adds_number}
use Rattle.mm_places.proofs.letters.push_step.Goals as goal

pub write_codes-requires : goal.write_codes-requires
write_codes-requires c =
    let said : List Code = c.args.codes.now in
    All-take HasSpelling _ (drop c.args.index said)
    (All-drop HasSpelling c.args.index said c.requires.spelled)

pub returns-in_ok-push-in-Number : goal.returns-in_ok-push-in-Number
returns-in_ok-push-in-Number c =
    let said : List Code = c.args.codes.now in
    let index = c.args.index in
    let stops : c.tag_count.result ≡ position_or_len is_number (drop (index + 1) said) =
    c.tag_count.ensures.first ∙ ap (position_or_len is_number) (take_rest said (index + 1)) in
    let end = index + 1 + c.tag_count.result in
    adds_number said index _ _ end (take (end - index) (drop index said))
    (record { index = index; letters = c.in_ok-letters-in-Number.letters }) c.args.steps.now.items
    c.push.new.self.items c.requires.within c.in-Number.is
    (ap (λ n. index + 1 + n) stops) refl refl c.in_ok-letters-in-Number.ensures.spelled
    c.in_ok-push-in-Number.ensures.items
