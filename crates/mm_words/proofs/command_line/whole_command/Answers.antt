-- The line is made of those of the commands, one after the other.
use Rattle.mm_words.proofs.command_line.whole_command.Goals as goal

pub returns : goal.returns
returns c =
    let explain_line = c.with_command-command.ensures.shape _ _ c.explain_command.ensures.local
    c.versions_command-command.ensures.shape c.explain_command.ensures.shape in
    let help_line = c.with_command-command-2.ensures.shape _ _ c.help_command.ensures.local
    explain_line c.help_command.ensures.shape in
    c.with_command.ensures.shape _ _ c.version_command.ensures.local
    help_line c.version_command.ensures.shape
