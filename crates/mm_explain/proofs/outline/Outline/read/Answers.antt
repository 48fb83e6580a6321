-- All statements are read, or they were before.
use Rattle.std.proofs.Common.{List, map, refl, sym, inr, ap, ◌∙◌}
use Rattle.std.specs.Borrow.{Bor}
use Rattle.mm_base.specs.declared.file.File.{File}
use Rattle.mm_text.specs.Files.{plain_file}
use Rattle.mm_text.proofs.Reader.WholeReadings.{each_has_one_reading}
use Rattle.mm_explain.proofs.OutlinedStatements.{all_outlined, nothing_outlined}
use Rattle.mm_explain.proofs.outline.Outline.read.Goals as goal

pub pass_all-requires : goal.pass_all-requires
pass_all-requires c = λ k. (
  (refl, tt),
  (
    c.requires.readable,
    record {
      files = refl;
      is = nothing_outlined (map plain_file c.args.self.now.files.now) c.args.self.now c.requires
          (sym c.is_empty.ensures ∙ c.if-is_empty.true);
    },
  ),
)

pub returns-in_ok-pass_all-clause-kept : goal.returns-in_ok-pass_all-clause-kept
returns-in_ok-pass_all-clause-kept c =
    let one = each_has_one_reading (map plain_file c.args.self.now.files.now) in
    record {
      readable = c.requires.readable;
      same = ap (λ (fs : Bor (List File)). map plain_file fs.now)
          (c.in_ok-pass_all.ensures one.statements one.ending one.reads).files;
      read = inr (λ statements ending reads.
          (c.in_ok-pass_all.ensures statements ending reads).is);
    }

pub returns-in_ok-pass_all-clause-read : goal.returns-in_ok-pass_all-clause-read
returns-in_ok-pass_all-clause-read c = λ statements ending reads.
    (c.in_ok-pass_all.ensures statements ending reads).is

pub returns-else-is_empty-clause-read : goal.returns-else-is_empty-clause-read
returns-else-is_empty-clause-read c =
    all_outlined (map plain_file c.args.self.now.files.now) c.args.self.now c.requires
    (sym c.is_empty.ensures ∙ c.if-is_empty.false)
