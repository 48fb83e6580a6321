-- The labels are those of the hypotheses and then the listed ones, so few that each has a number.
use Rattle.std.proofs.Common.{[], length, ap, ◌∙◌, arith}
use Rattle.std.proofs.lemmas.List.{length-append, length-map}
use Rattle.mm_step.specs.Plain.{ids_in, label_ids}
use Rattle.mm_forms.specs.Mirror.CodeSharing.{labels_made}
use Rattle.mm_forms.proofs.PackedProofs.PackingLoops.{first_few, label_known, encoded_many, steps_packed}
use Rattle.mm_forms.proofs.packing.pack_repeating.Goals as goal

pub codes_of-requires-clause-numbers : goal.codes_of-requires-clause-numbers
codes_of-requires-clause-numbers c =
    let known = c.put_hypotheses.new.labels in
    let own = first_few [] (label_ids c.args.hypotheses.now) known c.in_ok-put_hypotheses.ensures in
    let many = length-map c.args.hypotheses.now (λ h. h.id.0) in
    let listed = c.in_ok-labels.ensures in
    let others = first_few known (labels_made c.args.steps.now) (ids_in c.in_ok-labels.labels.items) listed.1 in
    let few = c.requires.few in
    let whole = ap length listed.0 ∙ length-append known (ids_in c.in_ok-labels.labels.items) in
    let most = c.requires.hypotheses in
    let steps = c.requires.steps in
    omega (arith, own, many, others, few, whole, most, steps)

pub codes_of-requires-clause-known : goal.codes_of-requires-clause-known
codes_of-requires-clause-known c t has =
    let listed = c.in_ok-labels.ensures in
    label_known c.put_hypotheses.new.labels (ids_in c.in_ok-labels.labels.items) _ c.args.steps.now t listed.0 listed.1 has

pub codes_of-requires-clause-each : goal.codes_of-requires-clause-each
codes_of-requires-clause-each c t has = (c.requires.those t).1 has

pub returns-in-Ok-clause-packed : goal.returns-in-Ok-clause-packed
returns-in-Ok-clause-packed c =
    let listed = c.in_ok-labels.ensures in
    steps_packed _ _ _ _ c.args.repeated.now c.args.steps.now _ c.in_ok-put_hypotheses.ensures
    listed.0 listed.1 c.requires.those (rw c.in-Ok.is at c.codes_of.ensures.said)

pub returns-in-Ok-clause-few : goal.returns-in-Ok-clause-few
returns-in-Ok-clause-few c =
    let said = rw c.in-Ok.is at c.codes_of.ensures.said in
    let many = encoded_many _ _ [] c.args.steps.now _ said.0 said.1 in
    let steps = c.requires.steps in
    omega (arith, many, steps)
