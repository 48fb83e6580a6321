-- A new reader has all statements left, and the progress is that before any.
use Rattle.std.proofs.Common.{List, map, refl}
use Rattle.mm_text.specs.Files.{PlainFile, plain_file}
use Rattle.mm_verdict.proofs.Verdicts.LoopOverStatements.{starts}
use Rattle.mm_verdict.proofs.verdict.last_progress.Goals as goal

pub judge_rest-requires : goal.judge_rest-requires
judge_rest-requires g c κs =
    let files : List PlainFile = map plain_file c.args.files.now in
    let (way, none) =
    starts c.args.profile files c.in_ok-progress.progress c.args.statements.now c.requires.unread
    c.requires.readable c.in_ok-progress.ensures.taken c.in_ok-progress.ensures.known
    c.in_ok-progress.ensures.lines in
    ((refl, tt), record { listed = _; way = way; seen = rw none c.requires.begun })
