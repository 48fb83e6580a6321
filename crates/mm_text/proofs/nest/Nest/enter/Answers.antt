use Rattle.std.proofs.Common.{◌++◌, None, ap, ◌∙◌, refl, arith, true}
use Rattle.std.specs.Vec.{with_item}
use Rattle.mm_text.specs.Items.{Outside, pieces}
use Rattle.mm_text.specs.Mirror.Position.{shown_at}
use Rattle.mm_text.specs.Mirror.Nest.{put_into, waiting}
use Rattle.mm_text.proofs.Inclusions.OpenFiles.{enters, left_at, file_within, no_file}
use Rattle.mm_text.proofs.nest.Nest.enter.Goals as goal

pub begin-begin-requires : goal.begin-begin-requires
begin-begin-requires c = omega (arith, file_within c.args.self.now.files.now c.args.number no_file c.requires.known, c.requires.nest.small)

pub returns-clause-enters : goal.returns-clause-enters
returns-clause-enters c =
    let n = c.args.self.now in
    let begin = c.begin-begin.result in
    let m = record n { named = with_item n.named c.args.number true; «open» = c.push.new.self; position = begin; naming = None } in
    record {
      left = λ name e.
          left_at m None begin.file c.requires.over refl refl
          ∙ ap (λ l. put_into m (pieces begin.file Outside (shown_at begin) ++ waiting l)) c.in-Ok.ensures.items
          ∙ enters n c.args.position begin name c.args.number no_file c.requires.known c.requires.nest e c.requires.first
          c.begin-begin.ensures.bytes c.begin-begin.ensures.file c.begin-begin.ensures.at;
      naming = refl;
      over = c.requires.over;
    }
