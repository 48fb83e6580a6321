-- Where the rule is P3, it is told where the hypothesis stands; else nothing is.
use Rattle.std.proofs.Common.{[], List, map, take, ap, sym, subst, ◌∙◌, append-nil}
use Rattle.std.proofs.lemmas.Result.{on_ok_weaker}
use Rattle.mm_text.specs.Files.{PlainFile, plain_file}
use Rattle.mm_step.specs.declared.fault.ProofRule.{ProofRule}
use Rattle.mm_explain.specs.HypothesisPlaces.{AreTokenPlaces}
use Rattle.mm_explain.proofs.HypothesisScopes.{other_places}
use Rattle.mm_explain.proofs.OutlinedStatements.{briefs_before}
use Rattle.mm_explain.proofs.hypothesis_places.push_at_token.Goals as goal

pub returns-in_ok-read-in-P3-clause-told : goal.returns-in_ok-read-in-P3-clause-told
returns-in_ok-read-in-P3-clause-told c =
    let files : List PlainFile = map plain_file c.args.outline.now.files.now in
    on_ok_weaker c.push_scope.result
    (λ told site.
    let (details, facts, put) = (rw c.in_ok-read-in-P3.ensures.kept.same at told) site.before
    (briefs_before site c.read.new.self c.first_of.result.now c.in_ok-read-in-P3.ensures.read
    (c.first_of.ensures ∙ ap (take c.args.count) c.deref.ensures.value)) in (
      details,
      subst
          (λ (r : ProofRule). AreTokenPlaces files site.before r c.args.text.now details)
          (sym c.in-P3.is) facts,
      put,
    ))
    c.push_scope.ensures

pub returns-in_default-clause-told : goal.returns-in_default-clause-told
returns-in_default-clause-told c = λ site. (
  [],
  other_places (map plain_file c.args.outline.now.files.now) site.before c.args.rule
      c.args.text.now c.in_default.not-P3,
  sym (append-nil c.args.out.now.items),
)
