-- What is said of the `$p` with the number is said of the theorem.
use Rattle.std.proofs.Common.{map}
use Rattle.std.proofs.lemmas.Result.{IfOk-weaker}
use Rattle.mm_text.specs.Files.{PlainFile, plain_file}
use Rattle.mm_explain.specs.Reply.{IsTryReply}
use Rattle.mm_rules.specs.Status.{number_of}
use Rattle.mm_explain.proofs.LoneProofs.LoneTheorems.{of_reached}
use Rattle.mm_check.proofs.KnownSteps.{reached_proof}
use Rattle.mm_check.proofs.alone.answer_about.Goals as goal

pub known_reply-requires : goal.known_reply-requires
known_reply-requires c = (c.args.label.now, c.requires)

pub known_normal_reply-requires : goal.known_normal_reply-requires
known_normal_reply-requires c = (map plain_file c.args.files.now, c.requires)

pub try_reply-requires : goal.try_reply-requires
try_reply-requires c =
    reached_proof (map plain_file c.args.files.now) c.args.reached.now
    (c.args.label.now, c.requires)

pub returns-in-Known : goal.returns-in-Known
returns-in-Known c =
    rw c.in-Known.is
    (IfOk-weaker c.known_reply.result _ _ (λ reply told r. told c.args.label.now r)
    c.known_reply.ensures)

pub returns-in-KnownNormal : goal.returns-in-KnownNormal
returns-in-KnownNormal c =
    rw c.in-KnownNormal.is
    (IfOk-weaker c.known_normal_reply.result _ _
    (λ reply told r. told (map plain_file c.args.files.now) r) c.known_normal_reply.ensures)

pub returns-in-Try : goal.returns-in-Try
returns-in-Try c =
    let proof : PlainFile =
    record { name = c.in-Try.name.now; bytes = c.in-Try.text.now } in
    rw c.in-Try.is
    (IfOk-weaker c.try_reply.result _ _
    (λ reply told r.
    of_reached (map plain_file c.args.files.now) c.args.label.now c.args.reached.now r
    (λ before s. IsTryReply proof before s reply.text.items (number_of reply.status)) told)
    c.try_reply.ensures)
