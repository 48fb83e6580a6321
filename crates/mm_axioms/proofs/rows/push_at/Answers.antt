-- Past the end there is none.
use Rattle.std.proofs.Common.{◌≤◌, ◌++◌, ◌∙◌, length, sym, ap, append-nil, Option}
use Rattle.std.specs.Option.{option_to_list}
use Rattle.std.proofs.lemmas.Bool.{ltb-false}
use Rattle.mm_frame.specs.declared.number.LabelId.{LabelId}
use Rattle.mm_axioms.proofs.Resting.RowNumbers.{none_at}
use Rattle.mm_axioms.proofs.rows.push_at.Goals as goal

pub returns-in-None : goal.returns-in-None
returns-in-None c =
    let past : length c.args.numbers.now ≤ c.args.at = ltb-false c.args.at _
    (sym c.in-None.ensures.lookup.0) in
    sym (ap (λ (o : Option LabelId). c.args.out.now.items ++ option_to_list o)
    (none_at c.args.numbers.now c.args.at past) ∙ append-nil c.args.out.now.items)
