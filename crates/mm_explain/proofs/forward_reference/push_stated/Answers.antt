-- The first one, if there is one.
use Rattle.std.proofs.Common.{◌≡◌, ◌++◌, Some, None, map, ap, sym, ◌∙◌, append-nil}
use Rattle.std.specs.Prelude.{option_map}
use Rattle.std.proofs.lemmas.Result.{on_ok_weaker}
use Rattle.mm_base.specs.Token.{plain_token}
use Rattle.mm_text.specs.Files.{plain_file}
use Rattle.mm_facts.specs.Explained.{detail_text, stated_later_at}
use Rattle.mm_explain.specs.Later.{first_stated}
use Rattle.mm_rules.specs.Places.{token_place}
use Rattle.mm_explain.proofs.LaterLabels.{label_of}
use Rattle.mm_explain.proofs.forward_reference.push_stated.Goals as goal

pub returns-in-Some : goal.returns-in-Some
returns-in-Some c =
    let same : first_stated c.args.label.now (map label_of c.args.briefs.now)
    ≡ Some (plain_token c.in-Some.token) =
    sym c.first_stated.ensures ∙ ap (option_map plain_token) c.in-Some.is in
    let told = detail_text (stated_later_at (token_place (map plain_file c.args.files.now)
    (plain_token c.in-Some.token))) in
    rw same (on_ok_weaker c.push_stated_later.result
    (λ put. put ∙ ap (λ t. c.args.out.now.items ++ t) (sym (append-nil told)))
    c.push_stated_later.ensures)

pub returns-in-None : goal.returns-in-None
returns-in-None c =
    let same : first_stated c.args.label.now (map label_of c.args.briefs.now) ≡ None =
    sym c.first_stated.ensures ∙ ap (option_map plain_token) c.in-None.is in
    rw same (sym (append-nil c.args.out.now.items))
