-- The labels are those of the list, if the tokens have one.
use Rattle.std.proofs.Common.{[], sym, ap, ◌∙◌, append-nil}
use Rattle.std.proofs.lemmas.Result.{on_ok_weaker}
use Rattle.mm_code.specs.Layout.{texts}
use Rattle.mm_step.specs.Plain.{token_texts}
use Rattle.mm_explain.proofs.UnusedLabels.{unused_of_list, unused_of_normal}
use Rattle.mm_explain.proofs.unused.push_unused_at_stop.Goals as goal

pub returns-in_ok-unused_among-in-Some : goal.returns-in_ok-unused_among-in-Some
returns-in_ok-unused_among-in-Some c =
    on_ok_weaker c.push_unused_line.result
    (λ put before s moves said numbered prefix. (
      texts c.deref.result.now,
      unused_of_list before s (token_texts c.args.tokens.now)
          (token_texts c.in-Some.listed.now) c.in-Some.ensures.0 moves (texts c.deref.result.now)
          c.in-Some.ensures.1 said
          (sym prefix ∙ sym c.is_prefix.ensures ∙ c.if-is_prefix.false)
          (ap texts c.deref.ensures.value
          ∙ c.in_ok-unused_among-in-Some.ensures moves numbered),
      put,
    ))
    c.push_unused_line.ensures

pub returns-in-None : goal.returns-in-None
returns-in-None c = λ before s moves said numbered prefix.
    let complete = sym prefix ∙ sym c.is_prefix.ensures ∙ c.if-is_prefix.false in (
      [],
      unused_of_normal before s (token_texts c.args.tokens.now) moves c.in-None.ensures said
          complete,
      sym (append-nil c.args.out.now.items),
    )
