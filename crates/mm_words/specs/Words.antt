-- What the words ask for, by what `clap` finds in them. The first word is the program's name.
use Rattle.std.specs.Prelude.{◌≡◌, ◌≢◌, ◌↔◌, List, [], map, Some, Bool, true, IsTrue, codes}
use Rattle.std.specs.Prelude.{ℕ, Option, None, option_map, position}
use Rattle.std.specs.Prelude.{unwrap_or, false, ◌⊎◌, ◌∷◌, ◌<◌, ◌≤◌, ◌^◌, length}
use Rattle.std.specs.Prelude.{◌+◌, ◌++◌, ◌||◌, drop, take}
use Rattle.std.specs.Char.{is_ascii_digit}
use Rattle.std.specs.List.{AllByRecursion, AllZip, list_all}
use Rattle.std.specs.Str.{bytes_eq}
use Rattle.std.specs.Str.Parse.{IsNumeral, digits_value, without_leading_plus}
use Rattle.clap.specs.Words.{Row, Text, IsAmong, all_of, fault_of, first_of}
use Rattle.clap.specs.Words.{subcommand_of, subcommand_rows_of}
use Rattle.clap.specs.declared.parser.matches.ArgMatches.{ArgMatches}
use Rattle.clap.specs.declared.error.kind.ErrorKind.TheVariants.{DisplayHelp, DisplayVersion}
use Rattle.mm_base.specs.MostBytes.{most_bytes}
use Rattle.mm_base.specs.Token.{IsLabel, is_printable, is_space}
use Rattle.mm_text.specs.Remarks.{holds}
use Rattle.mm_code.specs.Layout.{texts}
use Rattle.mm_code.specs.Words.{tokens_in}
use Rattle.mm_verdict.specs.declared.question.Command.{Command}
use Rattle.mm_verdict.specs.declared.question.Command.TheVariants.{Whole, About, File, Find, Lone}
use Rattle.mm_verdict.specs.declared.question.Command.TheVariants.{Statement, Lemmas}
use Rattle.mm_verdict.specs.declared.question.Command.TheVariants as commands
use Rattle.mm_verdict.specs.declared.question.Question.{Question}
use Rattle.mm_verdict.specs.declared.question.Question.TheVariants as question
use Rattle.mm_verdict.specs.declared.question.WholeQuestion.{WholeQuestion}
use Rattle.mm_verdict.specs.declared.question.WholeQuestion.TheVariants.{Check, Faults, Why, Axioms}
use Rattle.mm_verdict.specs.declared.question.WholeQuestion.TheVariants.{Shorter}
use Rattle.mm_verdict.specs.declared.question.LoneQuestion.{LoneQuestion}
use Rattle.mm_verdict.specs.declared.question.LoneQuestion.TheVariants as lone
use Rattle.mm_verdict.specs.declared.question.Telling.{Telling}
use Rattle.mm_verdict.specs.declared.question.Telling.TheVariants as telling
use Rattle.mm_verdict.specs.declared.form.Form.{Form}
use Rattle.mm_verdict.specs.declared.form.Form.TheVariants.{Normal, Packed, Small}
use Rattle.mm_step.specs.declared.profile.Profile.{Profile}
use Rattle.mm_step.specs.declared.profile.Profile.TheVariants.{Strict, Lenient}
use Rattle.mm_words.specs.declared.request.AskedLemmas.{AskedLemmas}
use Rattle.mm_words.specs.declared.request.Request.{Request}
use Rattle.mm_words.specs.declared.request.Request.TheVariants.{Help, Version, Explain, Run}
use Rattle.mm_words.specs.declared.request.Request.TheVariants as requests
use Rattle.mm_words.specs.declared.request.TextQuestion.{TextQuestion}
use Rattle.mm_words.specs.declared.request.TextQuestion.TheVariants as of_text
use Rattle.mm_words.specs.CommandLine.{command_line, first_command}

-- The words are accepted.
abbrev pub IsAccepted : List Text → Type 0
IsAccepted words = fault_of command_line words ≡ []

-- They are accepted, and their command has this name and these values.
abbrev pub Commands : List Text → Text → List Row → Type 0
Commands words name rows = IsAccepted words × (subcommand_of command_line words ≡ Some (name, rows))

-- They are accepted, and these are their matches.
abbrev pub AreMatchesOf : List Text → ArgMatches → Type 0
AreMatchesOf words matches =
    IsAccepted words × (subcommand_rows_of matches ≡ subcommand_of command_line words)

-- They ask for help on the command with this name, or without one for the whole help: by `--help`
-- after that command or before any, or by `help` and perhaps a name.
abbrev pub AsksHelp : List Text → (topic : Option Text) → Type 0
AsksHelp words topic =
    (IsAmong DisplayHelp (fault_of command_line words) × (first_command words ≡ topic))
    ⊎ ((rows : List Row) × Commands words (codes "help") rows
    × (first_of (codes "COMMAND") rows ≡ topic))

-- They ask for the version.
abbrev pub AsksVersion : List Text → Type 0
AsksVersion words =
    IsAmong DisplayVersion (fault_of command_line words)
    ⊎ ((rows : List Row) × Commands words (codes "version") rows)

-- They ask to explain the rule that these words name; without any, to list all codes.
abbrev pub AsksExplain : List Text → List Text → Type 0
AsksExplain words asked =
    (rows : List Row) × Commands words (codes "explain") rows
    × (unwrap_or (all_of (codes "CODE") rows) [] ≡ asked)

-- The flag is given, if so it is said: for a flag that is given `clap` finds the word `true`, and
-- else the word `false`.
abbrev pub IsGiven : (flag : Text) → List Row → Bool → Type 0
IsGiven flag rows given =
    IsTrue given ↔ (unwrap_or (first_of flag rows) [] ≡ codes "true")

-- the profile is the strict one
abbrev pub is_strict : Profile → Bool
is_strict Strict = true
is_strict Lenient = false

-- They ask, by the command with this name, about the files with these names under this profile: by
-- `--strict` the strict one, else the lenient one.
abbrev pub AsksUnder : Text → List Text → Profile → List Text → Type 0
AsksUnder name words profile names =
    (rows : List Row) × Commands words name rows
    × IsGiven (codes "strict") rows (is_strict profile)
    × (unwrap_or (all_of (codes "FILES") rows) [] ≡ names)

-- They ask by `why` about the files with these names under this profile, if so it is said with lines
-- of the files.
abbrev pub AsksWhy : List Text → (source : Bool) → Profile → List Text → Type 0
AsksWhy words source profile names =
    (rows : List Row) × Commands words (codes "why") rows
    × IsGiven (codes "strict") rows (is_strict profile) × IsGiven (codes "source") rows source
    × (unwrap_or (all_of (codes "FILES") rows) [] ≡ names)

-- the command that asks for proofs in a form
abbrev pub name_of_form : Form → Text
name_of_form Normal = codes "normal"
name_of_form Packed = codes "packed"
name_of_form Small = codes "small"

-- They aren't asked for as far as they are known: so are normal ones by `--known`.
abbrev pub IsForAll : Form → List Row → Type 0
IsForAll Normal rows = IsGiven (codes "known") rows false
IsForAll Packed rows = Unit {0}
IsForAll Small rows = Unit {0}

-- They ask for the proof of the theorem with this label in a form, in the files with these names, or
-- by `--file` for its whole file.
abbrev pub AsksForm : Form → List Text → (label : Text) → (whole : Bool) → List Text → Type 0
AsksForm form words label whole names =
    (rows : List Row) × Commands words (name_of_form form) rows
    × (unwrap_or (first_of (codes "LABEL") rows) [] ≡ label)
    × IsGiven (codes "file") rows whole × IsGiven (codes "all") rows false × IsForAll form rows
    × (unwrap_or (all_of (codes "FILES") rows) [] ≡ names)

-- the number of the first of the files with these names that has the name
abbrev pub number_among : List Text → (name : Text) → Option ℕ
number_among names name = position (λ other. bytes_eq other name) names

-- They ask, by the command of the form and `--all`, for the file with this number among those with
-- these names, with each proof in that form: the first one whose name is the word in the place of
-- the label.
abbrev pub AsksAll : List Text → Form → (number : ℕ) → List Text → Type 0
AsksAll words form number names =
    (rows : List Row) × Commands words (name_of_form form) rows
    × IsGiven (codes "file") rows false × IsGiven (codes "all") rows true × IsForAll form rows
    × (number_among names (unwrap_or (first_of (codes "LABEL") rows) []) ≡ Some number)
    × (unwrap_or (all_of (codes "FILES") rows) [] ≡ names)

-- They ask by `normal --known` for the normal proof of the theorem with this label, as far as it is
-- known, in the files with these names.
abbrev pub AsksKnownNormal : List Text → (label : Text) → List Text → Type 0
AsksKnownNormal words label names =
    (rows : List Row) × Commands words (codes "normal") rows
    × (unwrap_or (first_of (codes "LABEL") rows) [] ≡ label)
    × IsGiven (codes "known") rows true × IsGiven (codes "file") rows false
    × IsGiven (codes "all") rows false
    × (unwrap_or (all_of (codes "FILES") rows) [] ≡ names)

-- Of the flags of `axioms` these are given, if so it is said, and this word behind `--to`.
abbrev pub AreAxiomsFlags : List Row → (all essential : Bool) → (to : Option Text) → Type 0
AreAxiomsFlags rows all essential to =
    IsGiven (codes "all") rows all × IsGiven (codes "essential") rows essential
    × (first_of (codes "to") rows ≡ to)

-- They ask by `axioms` with these flags, and these are the words behind the command.
abbrev pub AsksAxioms : List Text → (all essential : Bool) → (to : Option Text)
    → (behind : List Text) → Type 0
AsksAxioms words all essential to behind =
    (rows : List Row) × Commands words (codes "axioms") rows
    × AreAxiomsFlags rows all essential to
    × (unwrap_or (all_of (codes "FILES") rows) [] ≡ behind)

-- `--to` is given without the other flags, if it is.
abbrev pub ToStandsAlone : (all essential to : Bool) → Type 0
ToStandsAlone all essential true = (all ≡ false) × (essential ≡ false)
ToStandsAlone all essential false = Unit {0}

-- They ask by `statement`, with the flags or without, and these are the words behind the command: with
-- `--all` they name the files whose assertions are to be listed.
abbrev pub AsksStatement : List Text → (all comment : Bool) → (behind : List Text) → Type 0
AsksStatement words all comment behind =
    (rows : List Row) × Commands words (codes "statement") rows × IsGiven (codes "all") rows all
    × IsGiven (codes "comment") rows comment
    × (unwrap_or (all_of (codes "FILES") rows) [] ≡ behind)

-- They ask by `find` for the assertions that have these patterns: the one behind the command, and
-- each behind `--and`; with these flags, in the files with these names.
abbrev pub AsksFind : List Text → (patterns : List Text) → (whole shape hypotheses : Bool)
    → List Text → Type 0
AsksFind words patterns whole shape hypotheses names =
    (rows : List Row) × Commands words (codes "find") rows
    × (unwrap_or (first_of (codes "PATTERN") rows) [] ∷ unwrap_or (all_of (codes "and") rows) []
    ≡ patterns)
    × IsGiven (codes "whole") rows whole × IsGiven (codes "shape") rows shape
    × IsGiven (codes "hypotheses") rows hypotheses
    × (unwrap_or (all_of (codes "FILES") rows) [] ≡ names)

-- No pattern has more bytes than files may have.
abbrev pub AreShort : (patterns : List Text) → Type 0
AreShort patterns = AllByRecursion (λ pattern. length pattern ≤ most_bytes) patterns

-- No token of the pattern is `$*`.
abbrev pub IsGapless : (pattern : Text) → Type 0
IsGapless pattern = AllByRecursion (λ token. token ≢ codes "$*") (tokens_in pattern)

-- The patterns may be sought so: by their shape where none of them holds `$*`.
abbrev pub AreFit : (shape : Bool) → (patterns : List Text) → Type 0
AreFit true patterns = AllByRecursion IsGapless patterns
AreFit false patterns = Unit {0}

-- Of the flags of `show` these are given, if so it is said.
abbrev pub AreShowFlags : List Row → (known letters essential uses : Bool) → Type 0
AreShowFlags rows known letters essential uses =
    IsGiven (codes "known") rows known × IsGiven (codes "letters") rows letters
    × IsGiven (codes "essential") rows essential × IsGiven (codes "uses") rows uses

-- They ask with these flags for the steps of the proof of the theorem with this label.
abbrev pub AsksShow : List Text → (label : Text) → (known letters essential uses : Bool)
    → List Text → Type 0
AsksShow words label known letters essential uses names =
    (rows : List Row) × Commands words (codes "show") rows
    × (unwrap_or (first_of (codes "LABEL") rows) [] ≡ label)
    × AreShowFlags rows known letters essential uses
    × (unwrap_or (all_of (codes "FILES") rows) [] ≡ names)

-- They ask for the steps of the proof of the theorem with this label, told so; with `--known` for those
-- that pass.
abbrev pub AsksTold : List Text → (label : Text) → (known : Bool) → Telling → List Text → Type 0
AsksTold words label known telling.Steps names =
    AsksShow words label known false false false names
AsksTold words label known telling.Letters names =
    AsksShow words label known true false false names
AsksTold words label known (telling.Uses true) names =
    AsksShow words label known false true false names
AsksTold words label known (telling.Uses false) names =
    AsksShow words label known false false true names

-- They ask about the assertion with this label for the theorems whose proofs use it, or with `--all`
-- for those that rest on it.
abbrev pub AsksUsers : List Text → (label : Text) → (all : Bool) → List Text → Type 0
AsksUsers words label all names =
    (rows : List Row) × Commands words (codes "users") rows
    × (unwrap_or (first_of (codes "LABEL") rows) [] ≡ label)
    × IsGiven (codes "all") rows all
    × (unwrap_or (all_of (codes "FILES") rows) [] ≡ names)

-- Of the flags of `minimize` these are given, if so it is said.
abbrev pub AreMinimizeFlags : List Row → (whole all list duplicates : Bool) → Type 0
AreMinimizeFlags rows whole all list duplicates =
    IsGiven (codes "file") rows whole × IsGiven (codes "all") rows all
    × IsGiven (codes "list") rows list × IsGiven (codes "duplicates") rows duplicates

-- They may stand beside each other: `--file` and `--list` each alone, and `--duplicates` beside
-- `--all`.
abbrev pub DoAgree : (whole all list duplicates : Bool) → Type 0
DoAgree true all list duplicates = (all ≡ false) × (list ≡ false) × (duplicates ≡ false)
DoAgree false all true duplicates = (all ≡ false) × (duplicates ≡ false)
DoAgree false all false duplicates = (all ≡ true) ⊎ (duplicates ≡ false)

-- They ask by `minimize` with these flags, and these are the words behind the command.
abbrev pub AsksMinimize : List Text → (whole all list duplicates : Bool) → (behind : List Text)
    → Type 0
AsksMinimize words whole all list duplicates behind =
    (rows : List Row) × Commands words (codes "minimize") rows
    × AreMinimizeFlags rows whole all list duplicates
    × (unwrap_or (all_of (codes "FILES") rows) [] ≡ behind)

-- The first word names a file, and the others, of which there is one at least, name files: the first
-- of these with that name has the number.
abbrev pub NamesFile : (behind : List Text) → (number : ℕ) → List Text → Type 0
NamesFile behind number names =
    (name : Text) × (behind ≡ name ∷ names) × (number_among names name ≡ Some number)

-- They ask for the file with this number among those with these names, with shorter proofs; with
-- `--duplicates` also where the new proof uses one assertion alone.
abbrev pub AsksShorterFile : List Text → (number : ℕ) → (duplicates : Bool) → List Text → Type 0
AsksShorterFile words number duplicates names =
    (behind : List Text) × AsksMinimize words false true false duplicates behind
    × NamesFile behind number names

-- They ask for a shorter proof of the theorem with this label in the files with these names, or
-- with `--file` for its file with that proof.
abbrev pub AsksMinimized : List Text → (label : Text) → (whole : Bool) → List Text → Type 0
AsksMinimized words label whole names =
    AsksMinimize words whole false false false (label ∷ names) × (names ≢ [])

-- The word says this number, in decimal digits, which may follow a plus: from 1 on, below 2 ^ 32.
abbrev pub SaysNumber : (word : Text) → ℕ → Type 0
SaysNumber word n =
    let digits : Text = without_leading_plus word in
    IsNumeral 10 digits × (n ≡ digits_value 10 digits) × (0 < n) × (n < 2 ^ 32)

-- This number is asked for by the word behind an option, or where that isn't given it is the usual
-- one.
abbrev pub IsNumberBehind : (given : Option Text) → (usual : ℕ) → ℕ → Type 0
IsNumberBehind None usual n = n ≡ usual
IsNumberBehind (Some word) usual n = SaysNumber word n

-- Of the flags of `lemmas` these are given, if so it is said, and these words behind `--prefix` and
-- `--comment`.
abbrev pub AreLemmasFlags : List Row → (list all : Bool) → (prefix comment : Option Text) → Type 0
AreLemmasFlags rows list all prefix comment =
    IsGiven (codes "list") rows list × IsGiven (codes "all") rows all
    × (first_of (codes "prefix") rows ≡ prefix) × (first_of (codes "comment") rows ≡ comment)

-- They stand beside each other: one of `--list` and `--all` is given, and `--prefix` and `--comment`
-- beside `--all` alone.
abbrev pub StandTogether : (list all prefix comment : Bool) → Type 0
StandTogether true all prefix comment = (all ≡ false) × (prefix ≡ false) × (comment ≡ false)
StandTogether false all prefix comment = all ≡ true

-- So many lemmas are asked for at most, 100 where nothing is said, each of which saves so many bytes
-- or more, 1 where nothing is said.
abbrev pub AreLemmasLimits : List Row → (most least : ℕ) → Type 0
AreLemmasLimits rows most least =
    IsNumberBehind (first_of (codes "most") rows) 100 most
    × IsNumberBehind (first_of (codes "least") rows) 1 least

-- They ask by `lemmas --list` for the lemmas that the files with these names lack, so many at most,
-- each of which saves so many bytes or more.
abbrev pub AsksLemmas : List Text → (most least : ℕ) → List Text → Type 0
AsksLemmas words most least names =
    (rows : List Row) × Commands words (codes "lemmas") rows
    × AreLemmasFlags rows true false None None × AreLemmasLimits rows most least
    × (unwrap_or (all_of (codes "FILES") rows) [] ≡ names)

-- the word is made of decimal digits alone, of one at least
abbrev pub is_decimal : (word : Text) → Bool
is_decimal [] = false
is_decimal (b ∷ bytes) = list_all is_ascii_digit (b ∷ bytes)

-- The first of the words isn't, if there is one.
abbrev pub BeginsWithName : List Text → Type 0
BeginsWithName [] = Unit {0}
BeginsWithName (name ∷ names) = is_decimal name ≡ false

-- The words behind the command are these, made of decimal digits alone, up to the first that isn't,
-- and then the others.
abbrev pub AreDecimalsBefore : (behind decimals others : List Text) → Type 0
AreDecimalsBefore behind decimals others =
    (behind ≡ decimals ++ others) × AllByRecursion (λ word. is_decimal word ≡ true) decimals
    × BeginsWithName others

-- They say the numbers of these lines of what `lemmas --list` prints, and then name the file with
-- this number among those with these names.
abbrev pub NamesLemmaFile : (behind : List Text) → (lines : List ℕ) → (number : ℕ) → List Text
    → Type 0
NamesLemmaFile behind lines number names =
    (decimals others : List Text) × AreDecimalsBefore behind decimals others
    × AllZip SaysNumber decimals lines × NamesFile others number names

-- A label may begin with it, before a number: it has bytes that labels may have, 100 at most.
abbrev pub IsPrefix : Text → Type 0
IsPrefix prefix = IsLabel prefix × (length prefix ≤ 100)

-- A comment may say it (the Metamath book, section 4.1.2): it has printable bytes and white space
-- alone, and no comment begins or ends in it.
abbrev pub IsRemark : Text → Type 0
IsRemark text =
    (list_all (λ b. is_printable b || is_space b) text ≡ true)
    × (holds (codes "$(") text ≡ false) × (holds (codes "$)") text ≡ false)

-- The text that comments are to say, if there is one, may be said.
abbrev pub MayBeSaid : Option Text → Type 0
MayBeSaid None = Unit {0}
MayBeSaid (Some text) = IsRemark text

-- By the words behind the command, and by those behind `--prefix` and `--comment`, a file is asked for
-- with the lemmas of these lines, whose labels begin so, with `lem` where nothing is said.
abbrev pub IsLemmaWish : (behind : List Text) → (prefix comment : Option Text) → AskedLemmas → Type 0
IsLemmaWish behind prefix comment asked =
    (unwrap_or prefix (codes "lem") ≡ asked.prefix.now) × IsPrefix asked.prefix.now
    × (comment ≡ option_map (λ c. c.now) asked.comment) × MayBeSaid comment
    × NamesLemmaFile behind asked.chosen.items asked.file (map (λ name. name.now) asked.names.items)

-- They ask by `lemmas --all` for this file with lemmas that the files lack: those of the lines of what
-- `lemmas --list` prints with these limits, or where no line is chosen as many of them as pay.
abbrev pub AsksLemmaFile : List Text → AskedLemmas → Type 0
AsksLemmaFile words asked =
    (rows : List Row) × (prefix comment : Option Text) × Commands words (codes "lemmas") rows
    × AreLemmasFlags rows false true prefix comment × AreLemmasLimits rows asked.most asked.least
    × IsLemmaWish (unwrap_or (all_of (codes "FILES") rows) []) prefix comment asked

-- the command that asks this about a proof's text and a theorem
abbrev pub name_of_text : TextQuestion → Text
name_of_text of_text.Same = codes "same"
name_of_text of_text.Try = codes "try"

-- They ask this about the text in the file with this name and the theorem with this label in the
-- files with these names.
abbrev pub AsksText : TextQuestion → List Text → (label proof : Text) → List Text → Type 0
AsksText asked words label proof names =
    (rows : List Row) × Commands words (name_of_text asked) rows
    × (unwrap_or (first_of (codes "LABEL") rows) [] ≡ label)
    × (unwrap_or (first_of (codes "PROOF") rows) [] ≡ proof)
    × (unwrap_or (all_of (codes "FILES") rows) [] ≡ names)

-- They ask which changes mend the proof of the theorem with this label in the files with these names.
abbrev pub AsksMend : List Text → (label : Text) → List Text → Type 0
AsksMend words label names =
    (rows : List Row) × Commands words (codes "mend") rows
    × (unwrap_or (first_of (codes "LABEL") rows) [] ≡ label)
    × (unwrap_or (all_of (codes "FILES") rows) [] ≡ names)

-- These are the names of files on both sides of the first `--` among the words, at least one on
-- each; where no word is `--`, of two words the first and the second.
abbrev pub AreSides : (words old new : List Text) → Type 0
AreSides words old new =
    (old ≢ []) × (new ≢ [])
    × (((number : ℕ) × (number_among words (codes "--") ≡ Some number)
    × (old ≡ take number words) × (new ≡ drop (number + 1) words))
    ⊎ ((number_among words (codes "--") ≡ None) × (length words ≡ 2)
    × (old ≡ take 1 words) × (new ≡ drop 1 words)))

-- They ask by `diff` what changed from the files with the names `old` to those with the names `new`,
-- which stand behind the program's name and the command.
abbrev pub AsksDiff : List Text → (old new : List Text) → Type 0
AsksDiff words old new =
    (rows : List Row) × Commands words (codes "diff") rows × AreSides (drop 2 words) old new

-- They ask this question about the whole database in the files with these names, under this profile.
-- On which axioms each theorem rests, and which proofs become shorter, is asked under the lenient
-- one, as questions about a theorem are.
abbrev pub AsksWhole : List Text → WholeQuestion → Profile → List Text → Type 0
AsksWhole words Check profile names = AsksUnder (codes "check") words profile names
AsksWhole words Faults profile names = AsksUnder (codes "faults") words profile names
AsksWhole words (Why source) profile names = AsksWhy words source profile names
AsksWhole words (Axioms essential) profile names =
    (profile ≡ Lenient) × AsksAxioms words true essential None names
AsksWhole words Shorter profile names =
    (profile ≡ Lenient) × AsksMinimize words false false true false names

-- They ask this question about the assertion with this label in the files with these names, of which
-- there is one at least: on which axioms a theorem rests by `axioms`, and by a flag which of these
-- have its type code, or why it rests on one; how a theorem is proved by `show` without a flag, and
-- by a flag what the steps of its proof use, or the essential ones. No words alone ask to compare a
-- text: it stands in a further file, which `AsksText` names.
abbrev pub AsksAbout : List Text → (label : Text) → Question → List Text → Type 0
AsksAbout words label (question.Axioms essential) names =
    AsksAxioms words false essential None (label ∷ names) × (names ≢ [])
AsksAbout words label (question.Chain other) names =
    AsksAxioms words false false (Some other.now) (label ∷ names) × (names ≢ [])
AsksAbout words label question.Show names = AsksTold words label false telling.Steps names
AsksAbout words label question.Letters names = AsksTold words label false telling.Letters names
AsksAbout words label (question.Uses essential) names =
    AsksTold words label false (telling.Uses essential) names
AsksAbout words label (question.Form form whole) names =
    AsksForm form words label whole names
AsksAbout words label (question.Same text) names = ⊥
AsksAbout words label (question.Users all) names = AsksUsers words label all names
AsksAbout words label (question.Minimized whole) names = AsksMinimized words label whole names

-- They ask this question about the theorem with this label alone: by `show --known` for the steps that
-- pass, and by `normal --known` for its normal proof so far. No words alone ask to try a text.
abbrev pub AsksLone : List Text → (label : Text) → LoneQuestion → List Text → Type 0
AsksLone words label (lone.Known telling) names = AsksTold words label true telling names
AsksLone words label lone.KnownNormal names = AsksKnownNormal words label names
AsksLone words label (lone.Try name text) names = ⊥

-- They ask to run this command over the files with these names. A line for each assertion is asked for
-- by `statement --all`, which has no pattern.
abbrev pub AsksRun : List Text → Command → List Text → Type 0
AsksRun words (Whole profile asked) names = AsksWhole words asked profile names
AsksRun words (About label asked) names = AsksAbout words label.now asked names
AsksRun words (Lone label asked) names = AsksLone words label.now asked names
AsksRun words (Statement label comment) names =
    AsksStatement words false comment (label.now ∷ names) × (names ≢ [])
AsksRun words (File form number) names = AsksAll words form number names
AsksRun words (commands.Shorter number duplicates) names =
    AsksShorterFile words number duplicates names
AsksRun words (Lemmas most least) names = AsksLemmas words most least names
AsksRun words (Find patterns whole shape hypotheses) names =
    (AsksFind words (texts patterns.now) whole shape hypotheses names
    × AreShort (texts patterns.now) × AreFit shape (texts patterns.now))
    ⊎ ((texts patterns.now ≡ []) × AsksStatement words true false names)

-- They ask for what the request says.
abbrev pub Asks : List Text → Request → Type 0
Asks words (Help topic) = AsksHelp words (option_map (λ name. name.now) topic)
Asks words Version = AsksVersion words
Asks words (Explain asked) = AsksExplain words (map (λ code. code.now) asked.items)
Asks words (Run command names) = AsksRun words command (map (λ name. name.now) names.items)
Asks words (requests.Text asked) =
    AsksText asked.question words asked.label.now asked.proof.now
    (map (λ name. name.now) asked.names.items)
Asks words (requests.Find asked) =
    AsksFind words (map (λ pattern. pattern.now) asked.patterns.items) asked.whole asked.shape
    asked.hypotheses (map (λ name. name.now) asked.names.items)
    × AreShort (map (λ pattern. pattern.now) asked.patterns.items)
    × AreFit asked.shape (map (λ pattern. pattern.now) asked.patterns.items)
Asks words (requests.LemmaFile asked) = AsksLemmaFile words asked
Asks words (requests.Mend asked) =
    AsksMend words asked.label.now (map (λ name. name.now) asked.names.items)
Asks words (requests.Diff asked) =
    AsksDiff words (map (λ name. name.now) asked.old.now) (map (λ name. name.now) asked.new.now)

-- the file about which a command asks is one of those with these names, and no pattern that it seeks
-- is too long
abbrev pub AsksNamed : Command → List Text → Type 0
AsksNamed (File form number) names = number < length names
AsksNamed (commands.Shorter number duplicates) names = number < length names
AsksNamed (Find patterns whole shape hypotheses) names = AreShort (texts patterns.now)
AsksNamed other names = Unit {0}
