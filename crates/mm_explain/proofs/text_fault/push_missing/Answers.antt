-- What is missing is told, if something is.
use Rattle.std.proofs.Common.{◌++◌, Option, List, ℕ, ap, sym, map, append-nil, ◌∙◌}
use Rattle.std.specs.Prelude.{option_map}
use Rattle.std.specs.Option.{option_to_list}
use Rattle.std.proofs.lemmas.Result.{on_ok_weaker}
use Rattle.mm_facts.specs.Explained.{details_text, missing_before}
use Rattle.mm_facts.proofs.HaltDetails.{one_told}
use Rattle.mm_explain.proofs.text_fault.push_missing.Goals as goal

pub returns-in-Some : goal.returns-in-Some
returns-in-Some c =
    let is = sym (ap (option_map (λ what. what.now)) c.in-Some.is) ∙ c.missing.ensures in
    on_ok_weaker c.push_missing_before.result
    (λ h. one_told c.args.out.now.items c.push_missing_before.new.out.items (missing_before
    c.in-Some.what.now) h
    ∙ ap (λ (o : Option (List ℕ)). c.args.out.now.items ++ details_text (map missing_before
    (option_to_list o))) is)
    c.push_missing_before.ensures

pub returns-in-None : goal.returns-in-None
returns-in-None c =
    let is = sym (ap (option_map (λ what. what.now)) c.in-None.is) ∙ c.missing.ensures in
    sym (append-nil c.args.out.now.items)
    ∙ ap (λ (o : Option (List ℕ)). c.args.out.now.items ++ details_text (map missing_before
    (option_to_list o))) is
