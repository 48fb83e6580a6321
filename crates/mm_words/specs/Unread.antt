-- How the program ends where the words weren't read.
use Rattle.mm_words.specs.declared.arguments.ArgumentFault.{ArgumentFault}
use Rattle.mm_words.specs.declared.arguments.ArgumentFault.TheVariants as argument
use Rattle.mm_words.specs.declared.stop.Stop.{Stop}
use Rattle.mm_words.specs.declared.stop.Stop.TheVariants.{NotText, Memory}

-- the end of the program where the words weren't read
abbrev pub unread_stop : ArgumentFault → Stop
unread_stop argument.NotText = NotText
unread_stop argument.Memory = Memory
