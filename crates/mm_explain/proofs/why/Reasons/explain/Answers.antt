-- It is explained, unless enough are.
use Rattle.std.proofs.Common.{◌≡◌, ◌++◌, ◌∷◌, [], ap, arith, length, map, refl, rules, vec_len}
use Rattle.std.proofs.Common.{◌∙◌}
use Rattle.std.proofs.lemmas.List.{map-append}
use Rattle.mm_text.specs.Files.{plain_file}
use Rattle.mm_explain.specs.Mirror.Reasons.{texts_in}
use Rattle.mm_explain.proofs.OutlinedStatements.{kept_again}
use Rattle.mm_explain.proofs.why.Reasons.explain.Goals as goal

pub returns-then-len-ge-MOST_EXPLAINED-clause-explains : goal.returns-then-len-ge-MOST_EXPLAINED-clause-explains
returns-then-len-ge-MOST_EXPLAINED-clause-explains c =
    let old = c.args.self.now in
    let long : vec_len old.refusals ≡ length old.refusals.items = search rules in
    record {
      few = λ less.
          absurd (omega (arith, less, long, c.len.ensures, c.if-len-ge-MOST_EXPLAINED.true));
      many = λ many. refl;
    }

pub push_explanation-requires-clause-refused : goal.push_explanation-requires-clause-refused
push_explanation-requires-clause-refused c =
    rw c.requires.outline.same c.requires.refused

pub push_explanation-requires-clause-outline : goal.push_explanation-requires-clause-outline
push_explanation-requires-clause-outline c =
    kept_again (map plain_file c.args.self.now.files.now) c.args.self.now.outline
    c.requires.outline

pub returns-clause-explains : goal.returns-clause-explains
returns-clause-explains c =
    let old = c.args.self.now in
    let long : vec_len old.refusals ≡ length old.refusals.items = search rules in
    let (text, told, put) = c.in_ok-push_explanation.ensures.told in
    record {
      few = λ less. (
        text,
        rw c.requires.outline.same at told,
        ap texts_in c.in_ok-push.ensures.items
            ∙ map-append (λ t. t.items) _ (c.push_explanation.new.out ∷ [])
            ∙ ap (λ t. texts_in old.explanations.items ++ t ∷ [])
            (put ∙ ap (λ o. o ++ text) c.new-text.ensures.items),
      );
      many = λ many.
          absurd (omega (arith, many, long, c.len.ensures, c.if-len-ge-MOST_EXPLAINED.false));
    }

pub returns-clause-outline : goal.returns-clause-outline
returns-clause-outline c =
    rw c.requires.outline.same at c.in_ok-push_explanation.ensures.kept
