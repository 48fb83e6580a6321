-- Which words aren't understood, and why there is no request: what `clap` refuses, and what it
-- takes and no command can do.
use Rattle.std.specs.Prelude.{◌≡◌, ◌≢◌, List, [], Some, Bool, true, IsTrue, codes}
use Rattle.std.specs.Prelude.{ℕ, Option, None, option_map}
use Rattle.std.specs.Prelude.{unwrap_or, false, ◌⊎◌, ◌∷◌, ◌<◌, length, is_some}
use Rattle.std.specs.Prelude.{Any, drop}
use Rattle.clap.specs.Words.{Row, Text, IsAmong, all_of, fault_of, first_of}
use Rattle.clap.specs.declared.error.kind.ErrorKind.{ErrorKind}
use Rattle.clap.specs.declared.error.kind.ErrorKind.TheVariants.{DisplayHelp, DisplayVersion}
use Rattle.clap.specs.declared.error.kind.ErrorKind.TheVariants.{OutOfMemory}
use Rattle.mm_verdict.specs.declared.form.Form.{Form}
use Rattle.mm_words.specs.declared.request.Request.{Request}
use Rattle.mm_words.specs.declared.request.Request.TheVariants.{Help, Version}
use Rattle.mm_words.specs.declared.stop.Stop.{Stop}
use Rattle.mm_words.specs.declared.stop.Stop.TheVariants as stop
use Rattle.mm_words.specs.CommandLine.{command_line}
use Rattle.mm_words.specs.Words.{IsAccepted, Commands, IsGiven, name_of_form, number_among}
use Rattle.mm_words.specs.Words.{AsksAxioms, ToStandsAlone, AsksStatement, AsksFind, AreShort}
use Rattle.mm_words.specs.Words.{AreFit, AreShowFlags, DoAgree, AsksMinimize, SaysNumber}
use Rattle.mm_words.specs.Words.{AreLemmasFlags, StandTogether, AreDecimalsBefore, IsPrefix}
use Rattle.mm_words.specs.Words.{MayBeSaid, AreSides}

-- The words ask with `--all` for proofs in a form, and with `--file` too, or for a file that is none of
-- those with the names.
abbrev pub AsksAllAmiss : List Text → Type 0
AsksAllAmiss words =
    (form : Form) × (rows : List Row) × Commands words (name_of_form form) rows
    × IsGiven (codes "all") rows true
    × (IsGiven (codes "file") rows true
    ⊎ (number_among (unwrap_or (all_of (codes "FILES") rows) [])
    (unwrap_or (first_of (codes "LABEL") rows) []) ≡ None))

-- They ask by `normal --known`, and with `--file` or `--all` too.
abbrev pub AsksKnownAmiss : List Text → Type 0
AsksKnownAmiss words =
    (rows : List Row) × Commands words (codes "normal") rows × IsGiven (codes "known") rows true
    × (IsGiven (codes "file") rows true ⊎ IsGiven (codes "all") rows true)

-- They ask amiss for proofs in a form.
abbrev pub AsksFormAmiss : List Text → Type 0
AsksFormAmiss words = AsksAllAmiss words ⊎ AsksKnownAmiss words

-- They ask by `axioms` amiss: with `--to` and another flag, or with no file behind the label.
abbrev pub AsksAxiomsAmiss : List Text → Type 0
AsksAxiomsAmiss words =
    (all essential : Bool) × (to : Option Text) × (behind : List Text)
    × AsksAxioms words all essential to behind
    × (¬ (ToStandsAlone all essential (is_some to)) ⊎ ((all ≡ false) × (length behind < 2)))

-- They ask by `statement` with both flags, or without `--all` and name no file behind the label.
abbrev pub AsksStatementAmiss : List Text → Type 0
AsksStatementAmiss words =
    (all comment : Bool) × (behind : List Text) × AsksStatement words all comment behind
    × (((all ≡ true) × (comment ≡ true)) ⊎ ((all ≡ false) × (length behind < 2)))

-- They ask by `find` for patterns of which one has more bytes than files may have, or that may not be
-- sought so.
abbrev pub AsksFindAmiss : List Text → Type 0
AsksFindAmiss words =
    (patterns : List Text) × (whole shape hypotheses : Bool) × (names : List Text)
    × AsksFind words patterns whole shape hypotheses names
    × (¬ (AreShort patterns) ⊎ ¬ (AreFit shape patterns))

-- two of `--letters`, `--essential` and `--uses` are given, which exclude each other
abbrev pub AreSeveral : (letters essential uses : Bool) → Type 0
AreSeveral letters essential uses =
    (IsTrue letters × IsTrue essential)
    ⊎ ((IsTrue letters × IsTrue uses) ⊎ (IsTrue essential × IsTrue uses))

-- They ask by `show` with such flags.
abbrev pub AsksShowAmiss : List Text → Type 0
AsksShowAmiss words =
    (rows : List Row) × (known letters essential uses : Bool)
    × Commands words (codes "show") rows × AreShowFlags rows known letters essential uses
    × AreSeveral letters essential uses

-- The words name no file among further ones: there are fewer than two, or the first is none of the names
-- behind it.
abbrev pub NamesNoFile : List Text → Type 0
NamesNoFile behind =
    (length behind < 2)
    ⊎ ((name : Text) × (names : List Text) × (behind ≡ name ∷ names)
    × (number_among names name ≡ None))

-- They ask by `minimize` amiss: with flags that don't agree; with no file behind the label; or for a
-- file that is none of those with the names.
abbrev pub AsksMinimizeAmiss : List Text → Type 0
AsksMinimizeAmiss words =
    (whole all list duplicates : Bool) × (behind : List Text)
    × AsksMinimize words whole all list duplicates behind
    × (¬ (DoAgree whole all list duplicates)
    ⊎ (((list ≡ false) × (length behind < 2)) ⊎ ((all ≡ true) × NamesNoFile behind)))

-- The word says no number.
abbrev pub SaysNoNumber : (word : Text) → Type 0
SaysNoNumber word = (n : ℕ) → ¬ SaysNumber word n

-- The word behind an option, which is given, says no number.
abbrev pub IsNoNumberBehind : (given : Option Text) → Type 0
IsNoNumberBehind None = ⊥
IsNoNumberBehind (Some word) = SaysNoNumber word

-- Of the words behind `lemmas` one of the first says no number of a line, or behind them no file is
-- named.
abbrev pub NamesNoLemmaFile : (behind : List Text) → Type 0
NamesNoLemmaFile behind =
    (decimals others : List Text) × AreDecimalsBefore behind decimals others
    × (Any SaysNoNumber decimals ⊎ NamesNoFile others)

-- No file with lemmas is asked for: no label may begin so, no comment may say that, or no file is named.
abbrev pub IsNoLemmaWish : (behind : List Text) → (prefix comment : Option Text) → Type 0
IsNoLemmaWish behind prefix comment =
    ¬ (IsPrefix (unwrap_or prefix (codes "lem")))
    ⊎ (¬ (MayBeSaid comment) ⊎ NamesNoLemmaFile behind)

-- They ask by `lemmas` amiss: with flags that don't stand beside each other; for a number that none is;
-- or with `--all` for no file with lemmas.
abbrev pub AsksLemmasAmiss : List Text → Type 0
AsksLemmasAmiss words =
    (rows : List Row) × (list all : Bool) × (prefix comment : Option Text)
    × Commands words (codes "lemmas") rows × AreLemmasFlags rows list all prefix comment
    × (¬ (StandTogether list all (is_some prefix) (is_some comment))
    ⊎ (IsNoNumberBehind (first_of (codes "most") rows)
    ⊎ (IsNoNumberBehind (first_of (codes "least") rows)
    ⊎ ((all ≡ true)
    × IsNoLemmaWish (unwrap_or (all_of (codes "FILES") rows) []) prefix comment))))

-- They ask by `diff`, and name no two sides.
abbrev pub AsksDiffAmiss : List Text → Type 0
AsksDiffAmiss words =
    (rows : List Row) × Commands words (codes "diff") rows
    × ((old new : List Text) → ¬ (AreSides (drop 2 words) old new))

-- The words are refused, by a fault that is no wish for help or for the version.
abbrev pub IsFaulty : List Text → Type 0
IsFaulty words =
    (kind : ErrorKind) × IsAmong kind (fault_of command_line words) × (kind ≢ DisplayHelp)
    × (kind ≢ DisplayVersion)

-- They name no command that asks for a proof in another form or for a shorter one, about a proof's
-- text, for lemmas, or for what mends a proof.
abbrev pub NamesNoForm : List Text → Type 0
NamesNoForm words =
    (rows : List Row)
    → ¬ Commands words (codes "normal") rows × ¬ Commands words (codes "packed") rows
    × ¬ Commands words (codes "small") rows × ¬ Commands words (codes "minimize") rows
    × ¬ Commands words (codes "same") rows × ¬ Commands words (codes "try") rows
    × ¬ Commands words (codes "lemmas") rows × ¬ Commands words (codes "mend") rows

-- They name no command that asks for a text of the program itself.
abbrev pub NamesNoText : List Text → Type 0
NamesNoText words =
    (rows : List Row)
    → ¬ Commands words (codes "explain") rows × ¬ Commands words (codes "help") rows
    × ¬ Commands words (codes "version") rows

-- They are accepted, but name no command.
abbrev pub NamesNoCommand : List Text → Type 0
NamesNoCommand words = IsAccepted words × NamesNoForm words × NamesNoText words
    × ((rows : List Row)
    → ¬ Commands words (codes "check") rows × ¬ Commands words (codes "faults") rows
    × ¬ Commands words (codes "why") rows
    × ¬ Commands words (codes "axioms") rows × ¬ Commands words (codes "users") rows
    × ¬ Commands words (codes "statement") rows × ¬ Commands words (codes "find") rows
    × ¬ Commands words (codes "show") rows × ¬ Commands words (codes "diff") rows)

-- The words aren't understood.
abbrev pub AreRefusedWords : List Text → Type 0
AreRefusedWords words =
    IsFaulty words
    ⊎ (NamesNoCommand words
    ⊎ (AsksFormAmiss words
    ⊎ (AsksAxiomsAmiss words
    ⊎ (AsksShowAmiss words
    ⊎ (AsksMinimizeAmiss words
    ⊎ (AsksStatementAmiss words
    ⊎ (AsksFindAmiss words ⊎ (AsksLemmasAmiss words ⊎ AsksDiffAmiss words))))))))

-- why there is no request
abbrev pub IsWordFault : List Text → Stop → Type 0
IsWordFault words (stop.Usage text) = AreRefusedWords words
IsWordFault words stop.Memory = Unit {0}
IsWordFault words other = ⊥

-- why there is no request for all proofs of the file with this name among those with these names:
-- the file of one proof, `whole`, is asked for too, or the name is none of these
abbrev pub IsAllFault : (whole : Bool) → (name : Text) → List Text → Stop → Type 0
IsAllFault whole name names (stop.Usage text) = (whole ≡ true) ⊎ (number_among names name ≡ None)
IsAllFault whole name names stop.Memory = Unit {0}
IsAllFault whole name names other = ⊥

-- why no label stands before files among these words
abbrev pub IsFilesFault : (words : List Text) → Stop → Type 0
IsFilesFault words (stop.Usage text) = length words < 2
IsFilesFault words stop.Memory = Unit {0}
IsFilesFault words other = ⊥

-- why no file is named among these words
abbrev pub IsNamingFault : (words : List Text) → Stop → Type 0
IsNamingFault words (stop.Usage text) = NamesNoFile words
IsNamingFault words stop.Memory = Unit {0}
IsNamingFault words other = ⊥

-- why there is no answer, where the words are to blame for this reason
abbrev pub IsFaultFor : (reason : Type 0) → Stop → Type 0
IsFaultFor reason (stop.Usage text) = reason
IsFaultFor reason stop.Memory = Unit {0}
IsFaultFor reason other = ⊥

-- why the word behind an option is no number
abbrev pub IsNumberFault : (given : Option Text) → Stop → Type 0
IsNumberFault given (stop.Usage text) = IsNoNumberBehind given
IsNumberFault given stop.Memory = Unit {0}
IsNumberFault given other = ⊥

-- a request that stands in place of matches is one for help, on this topic, or for the version,
-- which clap's answer says by its kind
abbrev pub IsOfKind : ErrorKind → (topic : Option Text) → Request → Type 0
IsOfKind kind topic (Help asked) =
    (kind ≡ DisplayHelp) × (topic ≡ option_map (λ name. name.now) asked)
IsOfKind kind topic Version = kind ≡ DisplayVersion
IsOfKind kind topic other = ⊥

-- what clap's answer is where it is no such request
abbrev pub IsFaultOfKind : ErrorKind → Stop → Type 0
IsFaultOfKind kind (stop.Usage text) =
    (kind ≢ OutOfMemory) × (kind ≢ DisplayHelp) × (kind ≢ DisplayVersion)
IsFaultOfKind kind stop.Memory = Unit {0}
IsFaultOfKind kind other = ⊥
