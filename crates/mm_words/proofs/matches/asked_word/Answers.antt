-- The word that clap gives is that of the row of the argument.
use Rattle.std.proofs.Common.{Some, None}
use Rattle.clap.specs.Words.{found_of}
use Rattle.mm_words.proofs.AskedWords.{value_is}
use Rattle.mm_words.proofs.matches.asked_word.Goals as goal

pub returns-in-Some : goal.returns-in-Some
returns-in-Some c = value_is (found_of c.args.command.now) c.args.argument.now (Some c.in-Some.word.now) c.in-Some.ensures

pub returns-in-None : goal.returns-in-None
returns-in-None c = value_is (found_of c.args.command.now) c.args.argument.now None c.in-None.ensures
