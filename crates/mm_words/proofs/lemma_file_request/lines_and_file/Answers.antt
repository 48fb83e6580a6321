-- The first words say numbers, and those behind them name a file; or one of these doesn't.
use Rattle.mm_base.proofs.Lists.{error_keeps}
use Rattle.mm_words.specs.RefusedWords.{IsFaultFor, NamesNoLemmaFile}
use Rattle.mm_words.proofs.AskedWords.{texts_in}
use Rattle.mm_words.proofs.LemmaWishes.{name_blamed, number_blamed, parted_at}
use Rattle.mm_words.proofs.lemma_file_request.lines_and_file.Goals as goal

pub returns-in_err-file-clause-fault : goal.returns-in_err-file-clause-fault
returns-in_err-file-clause-fault c =
    error_keeps c.from_residual.result c.in_err-file.field-0.0
    (IsFaultFor (NamesNoLemmaFile (texts_in c.args.words.now))) c.from_residual.ensures.1
    (name_blamed _ _ _ _ (parted_at c.args.words.now _ _ _ c.split_at.ensures.front
    c.split_at.ensures.back c.decimal_count.ensures.decimals c.decimal_count.ensures.others)
    c.in_err-file.ensures.fault)

pub returns-in_err-lines-clause-fault : goal.returns-in_err-lines-clause-fault
returns-in_err-lines-clause-fault c =
    error_keeps c.from_residual-in_err-lines.result c.in_err-lines.field-0.0
    (IsFaultFor (NamesNoLemmaFile (texts_in c.args.words.now)))
    c.from_residual-in_err-lines.ensures.1
    (number_blamed _ _ _ _ (parted_at c.args.words.now _ _ _ c.split_at.ensures.front
    c.split_at.ensures.back c.decimal_count.ensures.decimals c.decimal_count.ensures.others)
    c.in_err-lines.ensures.fault)

pub returns-clause-named : goal.returns-clause-named
returns-clause-named c = (
  _,
  _,
  parted_at c.args.words.now _ _ _ c.split_at.ensures.front c.split_at.ensures.back
      c.decimal_count.ensures.decimals c.decimal_count.ensures.others,
  c.in_ok-lines.ensures.numbers,
  c.in_ok-file.ensures.named,
)
