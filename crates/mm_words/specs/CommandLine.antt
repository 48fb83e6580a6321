-- Which words the program's command line takes: the grammar that `clap` gets. The first word is the
-- program's name.
use Rattle.std.specs.Prelude.{List, map, Some, true, codes}
use Rattle.std.specs.Prelude.{Option, find, option_and_then, option_map, slice_get}
use Rattle.clap.specs.Lexer.{usize_max}
use Rattle.clap.specs.Simple.{label_of}
use Rattle.clap.specs.Walk.{answers_to}
use Rattle.clap.specs.Words.{App, Rule, Text, new_app}
use Rattle.clap.specs.Words.{new_rule, with_rule}
use Rattle.clap.specs.Words.{with_subcommand}
use Rattle.clap.specs.declared.builder.action.ArgAction.TheVariants.{Append, Set, SetTrue}

-- `FILES..`: at least one
abbrev pub files_rule : Rule
files_rule = record (new_rule (codes "FILES")) {
  required = true;
  range = Some (record { start_inclusive = 1; end_inclusive = usize_max });
  action = Some Append;
}

-- `LABEL`: one
abbrev pub label_rule : Rule
label_rule = record (new_rule (codes "LABEL")) {
  required = true;
  action = Some Set;
}

-- `PATTERN`: one
abbrev pub pattern_rule : Rule
pattern_rule = record (new_rule (codes "PATTERN")) {
  required = true;
  action = Some Set;
}

-- a flag: `--file`, `--all`, `--comment`, `--list`, `--duplicates`, `--known`, `--essential`,
-- `--uses`, `--whole`, `--shape`, `--hypotheses`, `--strict` or `--source`
abbrev pub flag_rule : Text → Rule
flag_rule name = record (new_rule name) {
  long = Some name;
  action = Some SetTrue;
}

-- an option with a word behind it, which may be given once: `--to AXIOM`, `--most N`,
-- `--least BYTES`, `--prefix P`, `--comment TEXT`
abbrev pub option_rule : Text → Rule
option_rule name = record (new_rule name) {
  long = Some name;
  action = Some Set;
}

-- an option with a word behind it, which may be given again: `--and PATTERN`
abbrev pub options_rule : Text → Rule
options_rule name = record (new_rule name) {
  long = Some name;
  action = Some Append;
}

-- `PROOF`: one
abbrev pub proof_rule : Rule
proof_rule = record (new_rule (codes "PROOF")) {
  required = true;
  action = Some Set;
}

-- `[CODE..]`: any number
abbrev pub code_rule : Rule
code_rule = record (new_rule (codes "CODE")) {
  range = Some (record { start_inclusive = 0; end_inclusive = usize_max });
  action = Some Append;
}

-- `[COMMAND]`: at most one
abbrev pub topic_rule : Rule
topic_rule = record (new_rule (codes "COMMAND")) {
  range = Some (record { start_inclusive = 0; end_inclusive = 1 });
  action = Some Append;
}

-- a command under a profile: its name, and then `[--strict] FILES..`
abbrev pub profile_line : Text → App
profile_line name = with_rule (with_rule (new_app name) (flag_rule (codes "strict"))) files_rule

-- `check [--strict] FILES..`
abbrev pub check_line : App
check_line = profile_line (codes "check")

-- `faults [--strict] FILES..`
abbrev pub faults_line : App
faults_line = profile_line (codes "faults")

-- `why [--strict] [--source] FILES..`
abbrev pub why_line : App
why_line = with_rule (profile_line (codes "why")) (flag_rule (codes "source"))

-- a question about the theorem with a label: the command's name, and then `LABEL FILES..`
abbrev pub question_line : Text → App
question_line name = with_rule (with_rule (new_app name) label_rule) files_rule

-- `axioms [--essential | --to AXIOM] LABEL FILES..`, `axioms --all FILES..`: what stands behind the
-- command are words, at least one; with `--all` all of them name files, else the first is the label
abbrev pub axioms_line : App
axioms_line =
    with_rule
    (with_rule
    (with_rule
    (with_rule (new_app (codes "axioms")) (flag_rule (codes "all")))
    (flag_rule (codes "essential")))
    (option_rule (codes "to")))
    files_rule

-- `statement [--comment] LABEL FILES..`, `statement --all FILES..`: as for `axioms`
abbrev pub statement_line : App
statement_line =
    with_rule
    (with_rule
    (with_rule (new_app (codes "statement")) (flag_rule (codes "all")))
    (flag_rule (codes "comment")))
    files_rule

-- `find PATTERN [--and PATTERN].. [--whole] [--shape] [--hypotheses] FILES..`
abbrev pub find_line : App
find_line =
    with_rule
    (with_rule
    (with_rule
    (with_rule
    (with_rule
    (with_rule (new_app (codes "find")) pattern_rule)
    (options_rule (codes "and")))
    (flag_rule (codes "whole")))
    (flag_rule (codes "shape")))
    (flag_rule (codes "hypotheses")))
    files_rule

-- `show [--known] [--letters | --essential | --uses] LABEL FILES..`
abbrev pub show_line : App
show_line =
    with_rule
    (with_rule
    (with_rule
    (with_rule (question_line (codes "show")) (flag_rule (codes "known")))
    (flag_rule (codes "letters")))
    (flag_rule (codes "essential")))
    (flag_rule (codes "uses"))

-- `users [--all] LABEL FILES..`
abbrev pub users_line : App
users_line = with_rule (question_line (codes "users")) (flag_rule (codes "all"))

-- a question for the proof of the theorem with a label in a form, or for all proofs of a file: the
-- command's name, and then `[--file] LABEL FILES..` or `--all NAME FILES..`, where NAME stands in the
-- place of LABEL
abbrev pub form_line : Text → App
form_line name =
    with_rule (with_rule (question_line name) (flag_rule (codes "file"))) (flag_rule (codes "all"))

-- `normal [--file | --known] LABEL FILES..`, `normal --all NAME FILES..`
abbrev pub normal_line : App
normal_line = with_rule (form_line (codes "normal")) (flag_rule (codes "known"))

-- `packed [--file] LABEL FILES..`, `packed --all NAME FILES..`
abbrev pub packed_line : App
packed_line = form_line (codes "packed")

-- `small [--file] LABEL FILES..`, `small --all NAME FILES..`
abbrev pub small_line : App
small_line = form_line (codes "small")

-- `minimize [--file] LABEL FILES..`, `minimize --all [--duplicates] NAME FILES..`,
-- `minimize --list FILES..`: what stands behind the command are words, at least one; with `--list`
-- all of them name files, else the first is the label, or with `--all` the name of one of the files
abbrev pub minimize_line : App
minimize_line =
    with_rule
    (with_rule
    (with_rule
    (with_rule
    (with_rule (new_app (codes "minimize")) (flag_rule (codes "file")))
    (flag_rule (codes "all")))
    (flag_rule (codes "list")))
    (flag_rule (codes "duplicates")))
    files_rule

-- `lemmas --list [--most N] [--least BYTES] FILES..`,
-- `lemmas [NUMBER..] --all [--most N] [--least BYTES] [--prefix P] [--comment TEXT] NAME FILES..`: what
-- stands behind the command are words, at least one; with `--list` all of them name files, else the
-- first that is no number is the name of one of the files behind it
abbrev pub lemmas_line : App
lemmas_line =
    with_rule
    (with_rule
    (with_rule
    (with_rule
    (with_rule
    (with_rule
    (with_rule (new_app (codes "lemmas")) (flag_rule (codes "list")))
    (flag_rule (codes "all")))
    (option_rule (codes "most")))
    (option_rule (codes "least")))
    (option_rule (codes "prefix")))
    (option_rule (codes "comment")))
    files_rule

-- a question about a proof's text and the theorem with a label: the command's name, and then
-- `LABEL PROOF FILES..`
abbrev pub text_line : Text → App
text_line name = with_rule (with_rule (with_rule (new_app name) label_rule) proof_rule) files_rule

-- `same LABEL PROOF FILES..`
abbrev pub same_line : App
same_line = text_line (codes "same")

-- `try LABEL PROOF FILES..`
abbrev pub try_line : App
try_line = text_line (codes "try")

-- `mend LABEL FILES..`
abbrev pub mend_line : App
mend_line = question_line (codes "mend")

-- `diff OLD NEW`, `diff OLD.. -- NEW..`: what stands behind the command are names of files, at least
-- one, among which `clap` leaves out the `--`
abbrev pub diff_line : App
diff_line = with_rule (new_app (codes "diff")) files_rule

-- `explain [CODE..]`
abbrev pub explain_line : App
explain_line = with_rule (new_app (codes "explain")) code_rule

-- `help [COMMAND]`
abbrev pub help_line : App
help_line = with_rule (new_app (codes "help")) topic_rule

-- `version`
abbrev pub version_line : App
version_line = new_app (codes "version")

abbrev pub bare_line : App
bare_line = record (new_app (codes "mm")) {
  top = record (new_app (codes "mm")).top {
    has_version = true;
    disable_help_subcommand = true;
    subcommand_required = true;
    arg_required_else_help = true;
  };
}

-- the commands that check a database
abbrev pub check_lines : App
check_lines =
    with_subcommand (with_subcommand (with_subcommand bare_line check_line.top) faults_line.top)
    why_line.top

-- and those that ask what rests on what
abbrev pub rests_line : App
rests_line = with_subcommand (with_subcommand check_lines axioms_line.top) users_line.top

-- and those that ask what stands there, and how it is proved
abbrev pub database_line : App
database_line =
    with_subcommand
    (with_subcommand (with_subcommand rests_line statement_line.top) find_line.top) show_line.top

-- and those that ask for a proof in another form
abbrev pub forms_line : App
forms_line =
    with_subcommand
    (with_subcommand (with_subcommand database_line normal_line.top) packed_line.top) small_line.top

-- and those that ask for shorter proofs, and for lemmas
abbrev pub shorter_line : App
shorter_line = with_subcommand (with_subcommand forms_line minimize_line.top) lemmas_line.top

-- and those that ask about a proof's text, and what mends a proof
abbrev pub proofs_line : App
proofs_line =
    with_subcommand
    (with_subcommand (with_subcommand shorter_line same_line.top) try_line.top) mend_line.top

-- and the one that compares two versions of a database
abbrev pub versions_line : App
versions_line = with_subcommand proofs_line diff_line.top

-- `mm check [--strict] FILES..`, `mm faults [--strict] FILES..`,
-- `mm why [--strict] [--source] FILES..`,
-- `mm axioms [--essential | --to AXIOM] LABEL FILES..`, `mm axioms --all FILES..`,
-- `mm users [--all] LABEL FILES..`,
-- `mm statement [--comment] LABEL FILES..`, `mm statement --all FILES..`,
-- `mm find PATTERN [--and PATTERN].. [--whole] [--shape] [--hypotheses] FILES..`,
-- `mm show [--known] [--letters | --essential | --uses] LABEL FILES..`,
-- `mm normal [--file | --known] LABEL FILES..`, `mm packed [--file] LABEL FILES..`,
-- `mm small [--file] LABEL FILES..`, all three with `--all NAME FILES..` too,
-- `mm minimize [--file] LABEL FILES..`, `mm minimize --all [--duplicates] NAME FILES..`,
-- `mm minimize --list FILES..`, `mm lemmas --list [--most N] [--least BYTES] FILES..`,
-- `mm lemmas [NUMBER..] --all [--most N] [--least BYTES] [--prefix P] [--comment TEXT] NAME FILES..`,
-- `mm same LABEL PROOF FILES..`, `mm try LABEL PROOF FILES..`, `mm mend LABEL FILES..`,
-- `mm diff OLD NEW`, `mm diff OLD.. -- NEW..`, `mm explain [CODE..]`,
-- `mm help [COMMAND]`, `mm version`, `mm --version`, and everywhere `--help`
abbrev pub command_line : App
command_line =
    with_subcommand
    (with_subcommand (with_subcommand versions_line explain_line.top) help_line.top) version_line.top

-- the names of the commands, in their order
abbrev pub command_names : List Text
command_names = map (λ s. s.name) command_line.subs

-- the command that a word names
abbrev pub command_of : Text → Option Text
command_of word =
    option_map (λ s. s.name) (find (λ s. answers_to word (label_of s)) command_line.subs)

-- the command that the first word after the program's name names
abbrev pub first_command : List Text → Option Text
first_command words = option_and_then command_of (slice_get words 1)
