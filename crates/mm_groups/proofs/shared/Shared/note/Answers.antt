-- The first proof has all its labels, and another one those that are among its own.
use Rattle.std.proofs.Common.{filter, sym, ap, ◌∙◌}
use Rattle.mm_code.specs.Layout.{texts}
use Rattle.mm_groups.specs.Shared.{Labels, is_in}
use Rattle.mm_groups.proofs.SharedLabels.{first_shared, more_shared, some_more}
use Rattle.mm_groups.proofs.shared.Shared.note.Goals as goal

pub returns-then-not-self : goal.returns-then-not-self
returns-then-not-self c = λ before whole number.
    let labels : Labels = record {
      hypotheses = texts c.in_ok-hypotheses.hypotheses.items;
      names = texts c.in_ok-names.names.items;
    } in (
      labels,
      record {
        hypotheses = c.in_ok-hypotheses.ensures before _ whole number;
        names = c.in_ok-names.ensures;
      },
      λ each has.
          let none = sym c.if-not-self.true ∙ has.begun in
          record {
            begun = sym (some_more each labels);
            hypotheses = first_shared (λ l. l.hypotheses) each labels none;
            names = first_shared (λ l. l.names) each labels none;
          },
    )

pub returns : goal.returns
returns c = λ before whole number.
    let labels : Labels = record {
      hypotheses = texts c.in_ok-hypotheses.hypotheses.items;
      names = texts c.in_ok-names.names.items;
    } in (
      labels,
      record {
        hypotheses = c.in_ok-hypotheses.ensures before _ whole number;
        names = c.in_ok-names.ensures;
      },
      λ each has.
          let some = sym c.if-not-self.false ∙ has.begun in
          record {
            begun = c.if-not-self.false ∙ sym (some_more each labels);
            hypotheses = more_shared (λ l. l.hypotheses) each labels _ _ some has.hypotheses
                (c.in_ok-self.ensures
                ∙ ap (λ ls. filter (is_in (texts c.deref-2.result.now)) (texts ls))
                c.deref.ensures.value
                ∙ ap (λ os. filter (is_in (texts os)) (texts c.args.self.now.hypotheses.items))
                c.deref-2.ensures.value);
            names = more_shared (λ l. l.names) each labels _ _ some has.names
                (c.in_ok-self-2.ensures
                ∙ ap (λ ls. filter (is_in (texts c.deref-4.result.now)) (texts ls))
                c.deref-3.ensures.value
                ∙ ap (λ os. filter (is_in (texts os)) (texts c.args.self.now.names.items))
                c.deref-4.ensures.value);
          },
    )
