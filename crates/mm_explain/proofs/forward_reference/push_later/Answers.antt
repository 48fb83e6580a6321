-- The statements that it has behind so many are those of the files there.
use Rattle.std.proofs.Common.{List, Option, ℕ, ◌++◌, map, drop, ap, sym, ◌∙◌, append-nil}
use Rattle.std.specs.Prelude.{option_map}
use Rattle.std.specs.Borrow.{Bor}
use Rattle.std.specs.Option.{option_to_list}
use Rattle.std.proofs.lemmas.Result.{on_ok_weaker}
use Rattle.mm_base.specs.Token.{PlainToken}
use Rattle.mm_text.specs.Files.{PlainFile, plain_file}
use Rattle.mm_facts.specs.Explained.{details_text, stated_later_at}
use Rattle.mm_explain.specs.Later.{first_stated, stated_later}
use Rattle.mm_rules.specs.Places.{token_place}
use Rattle.mm_explain.proofs.LaterLabels.{label_of, labels_from}
use Rattle.mm_explain.proofs.forward_reference.push_later.Goals as goal

pub returns-in_ok-read-in-Some-clause-told : goal.returns-in_ok-read-in-Some-clause-told
returns-in_ok-read-in-Some-clause-told c =
    let files : List PlainFile = map plain_file c.args.outline.now.files.now in
    let out : List ℕ = c.args.out.now.items in
    let label : List ℕ = c.in-Some.label.now in
    let told = λ (first : Option PlainToken).
    out ++ details_text (map (λ t. stated_later_at (token_place files t)) (option_to_list first)) in
    let named = ap (option_map (λ (l : Bor (List ℕ)). l.now)) c.in-Some.is in
    on_ok_weaker c.push_stated.result
    (λ put statements ending reads.
    (rw c.in_ok-read-in-Some.ensures.kept.same at put)
    ∙ ap (λ ls. told (first_stated label ls))
    (ap (map label_of) (c.from_index.ensures ∙ ap (drop c.args.count) c.deref.ensures.value)
    ∙ labels_from c.read.new.self.briefs.items c.args.count statements
    (c.in_ok-read-in-Some.ensures.read statements ending reads).briefs)
    ∙ ap (λ o. out ++ details_text (stated_later files o (drop c.args.count statements)))
    (sym named))
    c.push_stated.ensures

pub returns-in-None-clause-told : goal.returns-in-None-clause-told
returns-in-None-clause-told c = λ statements ending reads.
    let files : List PlainFile = map plain_file c.args.outline.now.files.now in
    let named = ap (option_map (λ (l : Bor (List ℕ)). l.now)) c.in-None.is in
    sym (append-nil c.args.out.now.items)
    ∙ ap (λ o. c.args.out.now.items
    ++ details_text (stated_later files o (drop c.args.count statements)))
    (sym named)
