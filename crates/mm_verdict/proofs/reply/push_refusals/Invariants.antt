-- A line for each refusal so far.
use Rattle.std.proofs.Common.{◌≡◌, ◌++◌, map, take}
use Rattle.mm_text.specs.Files.{plain_file}
use Rattle.mm_rules.specs.Answer.{plain_refusal}
use Rattle.mm_verdict.specs.Reply.{refusals_text}
use Rattle.mm_verdict.proofs.reply.push_refusals.Given as goal

abbrev pub invariant-loop-refusal : goal.invariant-loop-refusal
invariant-loop-refusal l =
    l.out.items ≡ l.fn.out.items
    ++ refusals_text (map plain_file l.fn.files) (map plain_refusal (take l.refusal-index l.refusals))
