-- The line is that of the rarest label, if there is one.
use Rattle.std.proofs.Common.{Some, None, length, map, refl}
use Rattle.mm_text.specs.Files.{plain_file}
use Rattle.mm_code.specs.Layout.{texts}
use Rattle.mm_groups.proofs.SharedLabels.{line_told, named_told}
use Rattle.mm_groups.proofs.line.told_named.Goals as goal

pub returns-in_ok-push_named-in-Some : goal.returns-in_ok-push_named-in-Some
returns-in_ok-push_named-in-Some c =
    named_told (map plain_file c.args.files.now) c.args.refusals.now (texts c.args.names.now)
    (length c.args.refusals.now) refl (Some c.in-Some.label)
    (λ statements ending reads. rw c.in-Some.is at (c.in_ok-label.ensures statements ending reads))
    c.push_named.new.out.items
    (line_told c.args.refusals.now (length c.args.refusals.now) refl c.in-Some.label
    c.push_named.new.out.items c.is_of_some.result c.is_of_some.ensures
    (rw c.new-line.ensures.items at c.in_ok-push_named-in-Some.ensures))

pub returns-in-None : goal.returns-in-None
returns-in-None c =
    named_told (map plain_file c.args.files.now) c.args.refusals.now (texts c.args.names.now)
    (length c.args.refusals.now) refl None
    (λ statements ending reads. rw c.in-None.is at (c.in_ok-label.ensures statements ending reads))
    c.new-line.result.items c.new-line.ensures.items
