-- The files up to the position are read.
use Rattle.std.proofs.Common.{List, map, ap, subst, ◌∙◌}
use Rattle.std.proofs.lemmas.Result.{IfOk-weaker}
use Rattle.mm_text.specs.Files.{PlainFile, plain_file}
use Rattle.mm_text.specs.Reading.{Reads}
use Rattle.mm_explain.specs.TextFacts.{unclosed_in}
use Rattle.mm_explain.proofs.CutFiles.{readable_up_to}
use Rattle.mm_explain.proofs.text_fault.begin_before.Goals as goal

pub of_readable-requires : goal.of_readable-requires
of_readable-requires c =
    rw (c.deref.ensures.value, c.in_ok-cut.ensures)
    (readable_up_to (map plain_file c.args.files.now) c.args.file c.args.at c.requires)

pub returns : goal.returns
returns c =
    let left = c.in_ok-statements.statements in
    let files = ap (map plain_file) c.deref.ensures.value ∙ c.in_ok-cut.ensures in
    IfOk-weaker c.unclosed_in.result _ _
    (λ begin same. record {
      earlier = left.statements;
      ending = left.ending;
      reads = subst (λ (fs : List PlainFile). Reads fs left.statements left.ending) files
          c.in_ok-statements.ensures.reads;
      same = same ∙ ap (unclosed_in c.args.file) c.in_ok-read_out.ensures.ending;
    })
    c.unclosed_in.ensures.begin
