-- The line is made of those of the commands, one after the other.
use Rattle.mm_words.proofs.command_line.check_commands.Goals as goal

pub returns-clause-shape : goal.returns-clause-shape
returns-clause-shape c =
    let check_line = c.with_command-command.ensures.shape _ _ c.check_command.ensures.local
    c.bare_command-command.ensures.shape c.check_command.ensures.shape in
    let faults_line = c.with_command-command-2.ensures.shape _ _ c.faults_command.ensures.local
    check_line c.faults_command.ensures.shape in
    c.with_command.ensures.shape _ _ c.why_command.ensures.local
    faults_line c.why_command.ensures.shape
