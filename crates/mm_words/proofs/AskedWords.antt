-- From what `clap` ensures of a parse to what the words ask for.
use Rattle.std.proofs.Common.{◌≡◌, ◌≢◌, false, ℕ, suc, zero, ◌+◌, ◌<◌, List, [], ◌∷◌, length, take}
use Rattle.std.proofs.Common.{get_or, arith, Bool, Bor, map, nat_lt, cond, codes, Option}
use Rattle.std.proofs.Common.{Some, None, option_map, Result, Ok, Err, IfOk, IfErr, IsSome, IfSome}
use Rattle.std.proofs.Common.{inl, inr, refl, ap, subst, sym, ◌∙◌, true, unwrap_or}
use Rattle.std.proofs.Common.{is_some, ◌≤◌, ◌⊎◌}
use Rattle.std.proofs.lemmas.List.{take_more, map-append}
use Rattle.std.specs.List.{AllByRecursion, position, position_or_len}
use Rattle.std.specs.Str.{bytes_eq}
use Rattle.mm_base.specs.MostBytes.{most_bytes}
use Rattle.mm_base.proofs.Lists.{all_push}
use Rattle.mm_base.proofs.NoneThere.{none_there as none_is_there}
use Rattle.mm_text.proofs.Inclusions.OpenFiles.{position-names}
use borrow.Author.Tests.{ltb-true}
use Rattle.std.specs.Global.{Vec}
use Rattle.clap.specs.Words.{App, HasKind, HasMatchesOf, IsAmong, Row, Text, all_of, fault_of}
use Rattle.clap.specs.Words.{first_of, first_value, is_simple, is_simple_and_free, kind_of}
use Rattle.clap.specs.Words.{matched_of, raw_values, rows_of, subcommand_name_of, subcommand_of}
use Rattle.clap.specs.Words.{subcommand_rows_of}
use Rattle.clap.specs.declared.error.Error.{Error}
use Rattle.clap.specs.declared.error.kind.ErrorKind.{ErrorKind}
use Rattle.clap.specs.declared.error.kind.ErrorKind.TheVariants.{DisplayHelp, DisplayVersion}
use Rattle.clap.specs.declared.error.kind.ErrorKind.TheVariants.{OutOfMemory}
use Rattle.clap.specs.declared.parser.matches.ArgMatches.{ArgMatches}
use Rattle.clap.specs.declared.parser.matches.ArgMatches.TheViews.{out-ArgMatches}
use Rattle.clap.specs.declared.parser.matches.Found.{Found}
use Rattle.clap.proofs.OnLiterals.{clap_on_literals}
use Rattle.clap.proofs.WalkLemmas.{first_value-rows, raw_values-rows}
use Rattle.mm_verdict.specs.declared.question.Command.{Command}
use Rattle.mm_verdict.specs.declared.question.Command.TheVariants.{File, Find, Shorter}
use Rattle.mm_verdict.specs.declared.form.Form.{Form}
use Rattle.mm_words.specs.CommandLine.{command_line, first_command}
use Rattle.mm_words.specs.Words.{AsksNamed, AsksForm, AsksRun, IsForAll, IsGiven, name_of_form}
use Rattle.mm_words.specs.Words.{number_among, AreMatchesOf, Asks, Commands, IsAccepted}
use Rattle.mm_words.specs.Words.{AreAxiomsFlags, AreMinimizeFlags, AreShort, AsksAxioms}
use Rattle.mm_words.specs.Words.{AsksMinimize, AsksMinimized, AsksShorterFile, AsksStatement}
use Rattle.mm_words.specs.Words.{DoAgree, ToStandsAlone, NamesFile}
use Rattle.mm_words.specs.RefusedWords.{IsAllFault, IsFaultOfKind, IsOfKind, AreRefusedWords}
use Rattle.mm_words.specs.RefusedWords.{IsFaultFor, IsFilesFault, IsNamingFault, IsWordFault}
use Rattle.mm_words.specs.declared.request.Request.{Request}
use Rattle.mm_words.specs.declared.request.Request.TheVariants.{Help, Version, Run}
use Rattle.mm_words.specs.declared.stop.Stop.{Stop}
use Rattle.mm_words.specs.declared.stop.Stop.TheVariants.{Usage, Memory}

-- the bytes of words
abbrev pub texts_in : List (Bor (List ℕ)) → List (List ℕ)
texts_in words = map (λ word. word.now) words

-- ==== from what `clap` ensures of a parse to what the words ask for

is_free_line : is_simple_and_free command_line ≡ true
unfolding clap_on_literals
is_free_line = refl

is_simple_line : is_simple command_line ≡ true
unfolding clap_on_literals
is_simple_line = refl

-- The values of an argument are those of its row.
pub values_are : (f : Found) (id : Text) (values : Option (List Text)) → values ≡ option_map raw_values (matched_of f id)
    → unwrap_or values [] ≡ unwrap_or (all_of id (rows_of f)) []
values_are f id values e =
    ap (λ (o : Option (List Text)). unwrap_or o []) (e ∙ raw_values-rows f id)

-- The first value of an argument is that of its row.
pub value_is : (f : Found) (id : Text) (value : Option Text) → value ≡ first_value f id
    → unwrap_or value [] ≡ unwrap_or (first_of id (rows_of f)) []
value_is f id value e =
    ap (λ (o : Option Text). unwrap_or o []) (e ∙ first_value-rows f id)

-- the kind of an error is out of memory, or one of the faults of the words
kind_among : (app : App) (words : List Text) (e : Error) → app ≡ command_line
    → (is_simple_and_free app ≡ true → HasKind (fault_of app words) e) → HasKind (fault_of command_line words) e
kind_among app words e is kinds =
    let Kind : App → Type 0 = λ a. HasKind (fault_of a words) e in
    subst Kind is (kinds (ap is_simple_and_free is ∙ is_free_line))

-- A fault that isn't lack of memory is one of those of the words.
among_faults : (words : List Text) (e : Error) (kind : ErrorKind) → HasKind (fault_of command_line words) e → kind_of e ≡ kind → kind ≢ OutOfMemory
    → IsAmong kind (fault_of command_line words)
among_faults words e kind (inl memory) is other = absurd (other (sym is ∙ memory))
among_faults words e kind (inr among) is other = rw is at among

-- Help or the version is the request only where the words ask for it.
pub request_asked : (app : App) (words : List Text) (topic : Option Text) (e : Error)
    (r : Result Request Stop) → app ≡ command_line → topic ≡ first_command words
    → (is_simple_and_free app ≡ true → HasKind (fault_of app words) e)
    → IfOk r (IsOfKind (kind_of e) topic) → IfOk r (Asks words)
request_asked app words topic e (Ok (Help asked)) is first kinds h = inl (
  among_faults words e DisplayHelp (kind_among app words e is kinds) h.0 (λ same. absurd (cc)),
  sym first ∙ h.1,
)
request_asked app words topic e (Ok Version) is first kinds h =
    inl (among_faults words e DisplayVersion (kind_among app words e is kinds) h
    (λ same. absurd (cc)))
request_asked app words topic e (Err fault) is first kinds h = h
request_asked app words topic e request is first kinds h = absurd h

-- Else the words are refused, or memory ran out.
pub fault_met : (app : App) (words : List Text) (e : Error) (r : Result Request Stop) → app ≡ command_line
    → (is_simple_and_free app ≡ true → HasKind (fault_of app words) e)
    → IfErr r (IsFaultOfKind (kind_of e)) → IfErr r (IsWordFault words)
fault_met app words e (Ok request) is kinds h = h
fault_met app words e (Err (Usage text)) is kinds h =
    inl (kind_of e, among_faults words e (kind_of e) (kind_among app words e is kinds) refl h.0, h.1, h.2)
fault_met app words e (Err Memory) is kinds h = tt
fault_met app words e (Err other) is kinds h = absurd h

abbrev pair_in : {X : Type 0} → (X → Text) → (X → List Row) → Option X → Option (Text × List Row)
pair_in f g o = option_map {U = Text × List Row} (λ b. (f b, g b)) o

-- A name and rows that are known apart are known together.
pair_known : {X : Type 0} (f : X → Text) (g : X → List Row) (o : Option X) (name : Text) (rows : List Row)
    → option_map f o ≡ Some name → option_map (λ (p : Text × List Row). p.1) (pair_in f g o) ≡ Some rows
    → pair_in f g o ≡ Some (name, rows)
pair_known f g None name rows e h = absurd (cc)
pair_known f g (Some b) name rows e h = cc

-- the name alone
first_only : {X : Type 0} (f : X → Text) (g : X → List Row) (o : Option X) (name : Text) (rows : List Row)
    → pair_in f g o ≡ Some (name, rows) → option_map f o ≡ Some name
first_only f g None name rows e = absurd (cc)
first_only f g (Some b) name rows e = ap (option_map {U = Text} (λ (p : Text × List Row). p.0)) e

-- Words without a fault are accepted.
pub is_accepted : (app : App) (words : List Text) → app ≡ command_line → (is_simple_and_free app ≡ true → fault_of app words ≡ []) → IsAccepted words
is_accepted app words is free =
    rw is at (free (ap is_simple_and_free is ∙ is_free_line))

rows_met : (app : App) (words : List Text) (m : ArgMatches) → app ≡ command_line → HasMatchesOf app words m
    → subcommand_rows_of m ≡ subcommand_of command_line words
rows_met app words m is matched = rw is at ((matched (ap is_simple is ∙ is_simple_line)).1)

-- What the parse met are the matches of the words.
pub matches_met : (app : App) (words : List Text) (m : ArgMatches) → app ≡ command_line
    → (is_simple_and_free app ≡ true → fault_of app words ≡ []) → HasMatchesOf app words m → AreMatchesOf words m
matches_met app words m is free matched = (is_accepted app words is free, rows_met app words m is matched)

-- The command in the matches is that of the words, with its values.
pub commands_met : (words : List Text) (m : ArgMatches) (name : Text) (rows : List Row) → AreMatchesOf words m
    → subcommand_name_of m ≡ Some name → option_map (λ (p : Text × List Row). p.1) (subcommand_rows_of m) ≡ Some rows
    → Commands words name rows
commands_met words m name rows met same values =
    (met.0, sym met.1 ∙ pair_known _ _ (out-ArgMatches m).subcommand name rows same values)

-- A command that isn't in the matches isn't that of the words.
pub not_commanded : (words : List Text) (m : ArgMatches) (name : Text) (rows : List Row) → AreMatchesOf words m
    → (subcommand_name_of m ≡ Some name → ⊥) → Commands words name rows → ⊥
not_commanded words m name rows met other asked =
    other (first_only _ _ (out-ArgMatches m).subcommand name rows (met.1 ∙ asked.1))

-- No matches are there where none were found.
pub none_there : {X : Type 0} (o : Option X) → o ≡ None → IsSome o → ⊥
none_there None is there = absurd (cc)
none_there (Some x) is there = absurd (cc)

-- Where matches were found, there are rows.
pub rows_there : {M X : Type 0} (rows_in : M → X) (o : Option M) (met : Option X) → IsSome o → IfSome o (λ m. met ≡ Some (rows_in m))
    → (rows : X) × (met ≡ Some rows)
rows_there rows_in None met there h = absurd (cc)
rows_there rows_in (Some m) met there h = (rows_in m, h)

-- A choice that found something found it where its test passed.
chosen : (b : Bool) (i number : ℕ) → cond b (Some i) None ≡ Some number
    → (b ≡ true) × (i ≡ number)
chosen true i number e = (refl, cc)
chosen false i number e = absurd (cc)

-- A number that is found among names is that of one of them.
pub number_found : (names : List Text) (name : Text) (number : ℕ)
    → number_among names name ≡ Some number → number < length names
number_found names name number found =
    let index : ℕ = position_or_len (λ other. bytes_eq other name) names in
    let (before, is) = chosen (nat_lt index (length names)) index number found in
    rw is at (ltb-true index (length names) before)

-- The file about which the words ask is one of those that they name.
pub named_by_words : (words : List Text) (command : Command) (names : List Text)
    → AsksRun words command names → AsksNamed command names
named_by_words words (File form number) names (rows, commands, file, all, for_all, found, same) =
    number_found names (unwrap_or (first_of (codes "LABEL") rows) []) number found
named_by_words words (Shorter number duplicates) names (behind, asked, (name, is, found)) =
    number_found names name number found
named_by_words words (Find patterns whole shape hypotheses) names (inl (asked, short, fit)) = short
named_by_words words (Find patterns whole shape hypotheses) names (inr (none, asked)) = rw none tt
named_by_words words command names asked = tt

-- The index of a name among names is that among their texts.
pub number_named : (items given : List (Bor Text)) (name : Text) (found : Option ℕ)
    → given ≡ items → found ≡ position (λ other. bytes_eq other.now name) given
    → number_among (map (λ n. n.now) items) name ≡ found
number_named items given name found same is =
    sym (position-names (λ (n : Bor Text). n.now) (λ other. bytes_eq other name) items)
    ∙ ap (position (λ (n : Bor Text). bytes_eq n.now name)) (sym same) ∙ sym is

module _ (rows : List Row) (form : Form) (whole given : Bool) (name : Text)
    (file : IsGiven (codes "file") rows whole) (all : IsGiven (codes "all") rows given)
    (is_given : given ≡ true) (word : name ≡ unwrap_or (first_of (codes "LABEL") rows) []) where
  -- The words ask for all proofs of a file by the request for them.
  pub all_asked : (names : Vec (Bor Text)) (r : Result Request Stop)
      → map (λ n. n.now) names.items ≡ unwrap_or (all_of (codes "FILES") rows) []
      → IfOk r (λ request. (number : ℕ) × (request ≡ Run (File form number) names) × (whole ≡ false)
      × (number_among (map (λ n. n.now) names.items) name ≡ Some number))
      → IfOk r (λ request. (words : List Text) → Commands words (name_of_form form) rows
      → IsForAll form rows → Asks words request)
  all_asked names (Ok request) files (number, is, alone, found) = λ words commands for_all.
      rw is (
        rows,
        commands,
        rw alone at file,
        rw is_given at all,
        for_all,
        rw word at found,
        sym files,
      )
  all_asked names (Err stop) files h = tt

  -- Where there is no such request, the words are refused.
  pub all_refused : (names : List Text) (r : Result Request Stop)
      → names ≡ unwrap_or (all_of (codes "FILES") rows) [] → IfErr r (IsAllFault whole name names)
      → IfErr r (λ stop. (words : List Text) → Commands words (name_of_form form) rows
      → IsWordFault words stop)
  all_refused names (Ok request) files h = tt
  all_refused names (Err (Usage text)) files (inl both) = λ words commands.
      inr (inr (inl (inl (form, rows, commands, rw is_given at all, inl (rw both at file)))))
  all_refused names (Err (Usage text)) files (inr none) = λ words commands.
      inr (inr (inl (inl (
        form,
        rows,
        commands,
        rw is_given at all,
        inr (rw (word, files) at none),
      ))))
  all_refused names (Err Memory) files h = λ words commands. tt
  all_refused names (Err other) files h = absurd h

-- They ask for the proof of a theorem in a form, or for its file, where `--all` isn't given.
pub form_asked : (words : List Text) (form : Form) (rows : List Row) (whole given : Bool)
    (label : Text) (names : List Text) → Commands words (name_of_form form) rows
    → IsForAll form rows → IsGiven (codes "file") rows whole → IsGiven (codes "all") rows given
    → given ≡ false → label ≡ unwrap_or (first_of (codes "LABEL") rows) []
    → names ≡ unwrap_or (all_of (codes "FILES") rows) [] → AsksForm form words label whole names
form_asked words form rows whole given label names commands for_all file all not_given word files =
    (rows, commands, sym word, file, rw not_given at all, for_all, sym files)

-- `--known` is refused beside `--file` and `--all`.
pub known_refused : (rows : List Row) (beside : Bool) → IsGiven (codes "known") rows true
    → beside ≡ true → IsGiven (codes "file") rows beside ⊎ IsGiven (codes "all") rows beside
    → (words : List Text) → Commands words (codes "normal") rows → AreRefusedWords words
known_refused rows beside known too flag words commands =
    inr (inr (inl (inr (rows, commands, known, rw too at flag))))

-- ---- `axioms`

-- a map keeps whether there is something
pub is_some_map : {X Y : Type 0} (f : X → Y) (o : Option X) → is_some (option_map f o) ≡ is_some o
is_some_map f None = refl
is_some_map f (Some x) = refl

-- They ask why a theorem rests on an assertion, where the label of one stands behind `--to`.
pub chain_asked : (words names : List Text) (label : Text) (essential : Bool)
    (to : Option (Bor Text)) (other : Bor Text) (given : Text) → to ≡ Some other
    → given ≡ other.now → ToStandsAlone false essential (is_some to)
    → AsksAxioms words false essential (option_map (λ o. o.now) to) (label ∷ names) → names ≢ []
    → AsksAxioms words false false (Some given) (label ∷ names) × (names ≢ [])
chain_asked words names label essential None other given is same alone asked some = absurd (cc)
chain_asked words names label essential (Some o) other given is same alone asked some =
    let here : o ≡ other = cc in
    (rw same (rw (alone.1, here) at asked), some)

-- Else they ask what it rests on.
pub report_asked : (words names : List Text) (label : Text) (essential : Bool)
    (to : Option (Bor Text)) → to ≡ None
    → AsksAxioms words false essential (option_map (λ o. o.now) to) (label ∷ names) → names ≢ []
    → AsksAxioms words false essential None (label ∷ names) × (names ≢ [])
report_asked words names label essential None is asked some = (asked, some)
report_asked words names label essential (Some o) is asked some = absurd (cc)

module _ (rows : List Row) (all essential : Bool) (to : Option (Bor Text)) (behind : List Text)
    (flags : AreAxiomsFlags rows all essential (option_map (λ o. o.now) to))
    (files : behind ≡ unwrap_or (all_of (codes "FILES") rows) []) where
  -- The words ask by `axioms`, with these flags.
  by_axioms : (words : List Text) → Commands words (codes "axioms") rows
      → AsksAxioms words all essential (option_map (λ o. o.now) to) behind
  by_axioms words commands = (rows, commands, flags, sym files)

  -- They ask what each theorem rests on, where `--all` is given.
  pub all_axioms_asked : (has : Bool) → has ≡ is_some to → ToStandsAlone all essential has
      → all ≡ true → (words : List Text) → Commands words (codes "axioms") rows
      → AsksAxioms words true essential None behind
  all_axioms_asked true same alone given words commands = absurd (cc)
  all_axioms_asked false same alone given words commands =
      let none : to ≡ None = none_is_there to (sym same) in
      rw (given, none) at by_axioms words commands

  -- Flags that exclude each other are refused.
  pub axioms_refused : (has : Bool) → has ≡ is_some to → ¬ (ToStandsAlone all essential has)
      → (words : List Text) → Commands words (codes "axioms") rows → AreRefusedWords words
  axioms_refused has same several words commands = inr (inr (inr (inl (
    all,
    essential,
    option_map (λ o. o.now) to,
    behind,
    by_axioms words commands,
    inl (rw (is_some_map (λ (o : Bor Text). o.now) to, ← same) several),
  ))))

  -- So are words that name no file behind the label.
  pub label_refused : all ≡ false → (parts : List Text) (stop : Stop) → parts ≡ behind
      → IsFilesFault parts stop → (words : List Text) → Commands words (codes "axioms") rows
      → IsWordFault words stop
  label_refused not_all parts (Usage text) same few words commands = inr (inr (inr (inl (
    all,
    essential,
    option_map (λ o. o.now) to,
    behind,
    by_axioms words commands,
    inr (not_all, rw same at few),
  ))))
  label_refused not_all parts Memory same few words commands = tt
  label_refused not_all parts other same few words commands = absurd few

  -- They ask about the theorem with a label, where `--all` isn't given.
  pub label_asked : all ≡ false → (parts : List Text) (label : Text) (names : List Text)
      → parts ≡ behind → parts ≡ label ∷ names → (words : List Text)
      → Commands words (codes "axioms") rows
      → AsksAxioms words false essential (option_map (λ o. o.now) to) (label ∷ names)
  label_asked not_all parts label names same is words commands =
      rw (not_all, sym same ∙ is) at by_axioms words commands

-- ---- `statement` and `find`

module _ (rows : List Row) (all comment : Bool) (behind : List Text)
    (has_all : IsGiven (codes "all") rows all) (has_comment : IsGiven (codes "comment") rows comment)
    (files : behind ≡ unwrap_or (all_of (codes "FILES") rows) []) where
  -- The words ask by `statement`, with these flags.
  by_statement : (words : List Text) → Commands words (codes "statement") rows
      → AsksStatement words all comment behind
  by_statement words commands = (rows, commands, has_all, has_comment, sym files)

  -- They ask for all assertions, where `--all` is given.
  pub assertions_asked : all ≡ true → (words : List Text)
      → Commands words (codes "statement") rows → AsksStatement words true comment behind
  assertions_asked given words commands = rw given at by_statement words commands

  -- Words that name no file behind the label are refused.
  pub statement_refused : all ≡ false → (parts : List Text) (stop : Stop) → parts ≡ behind
      → IsFilesFault parts stop → (words : List Text) → Commands words (codes "statement") rows
      → IsWordFault words stop
  statement_refused not_all parts (Usage text) same few words commands =
      inr (inr (inr (inr (inr (inr (inl (
        all,
        comment,
        behind,
        by_statement words commands,
        inr (not_all, rw same at few),
      )))))))
  statement_refused not_all parts Memory same few words commands = tt
  statement_refused not_all parts other same few words commands = absurd few

  -- They ask about the statement with a label, where `--all` isn't given.
  pub statement_asked : all ≡ false → (parts : List Text) (label : Text) (names : List Text)
      → parts ≡ behind → (parts ≡ label ∷ names) × (names ≢ []) → (words : List Text)
      → Commands words (codes "statement") rows
      → AsksStatement words false comment (label ∷ names) × (names ≢ [])
  statement_asked not_all parts label names same (is, some) words commands =
      (rw (not_all, sym same ∙ is) at by_statement words commands, some)

-- Both flags are refused.
pub comment_refused : (words names : List Text) (comment : Bool) → comment ≡ true
    → AsksStatement words true comment names → AreRefusedWords words
comment_refused words names comment given asked =
    inr (inr (inr (inr (inr (inr (inl (true, comment, names, asked, inl (refl, given))))))))

-- What is so of each of the words so far, and of the next, is so of one more.
pub each_more : (P : Text → Type 0) (words : List (Bor Text)) (i : ℕ) (d : Bor Text)
    → i < length words → AllByRecursion P (texts_in (take i words)) → P (get_or words i d).now
    → AllByRecursion P (texts_in (take (i + 1) words))
each_more P words i d less each own =
    rw (
      take_more words i d less,
      map-append (λ (word : Bor Text). word.now) (take i words) (get_or words i d ∷ []),
    ) (all_push P (texts_in (take i words)) (get_or words i d).now each own)

-- One pattern more is short.
pub short_more : (patterns : List (Bor Text)) (i : ℕ) (d : Bor Text) → i < length patterns
    → AreShort (map (λ pattern. pattern.now) (take i patterns))
    → length (get_or patterns i d).now ≤ most_bytes
    → AreShort (map (λ pattern. pattern.now) (take (i + 1) patterns))
short_more patterns i d less short own =
    each_more (λ (pattern : Text). length pattern ≤ most_bytes) patterns i d less short own

-- Where all are short, so is each.
pub short_at : (patterns : List (Bor Text)) (i : ℕ) (d : Bor Text) → i < length patterns
    → AreShort (map (λ pattern. pattern.now) patterns)
    → length (get_or patterns i d).now ≤ most_bytes
short_at [] i d less short = absurd (omega arith)
short_at (p ∷ ps) zero d less short = short.0
short_at (p ∷ ps) (suc i) d less short = short_at ps i d (omega arith) short.1

-- ---- faults

-- Where the words are to blame, they are refused.
pub blamed : (reason : Type 0) (stop : Stop) (words : List Text) → IsFaultFor reason stop
    → (reason → AreRefusedWords words) → IsWordFault words stop
blamed reason (Usage text) words fault refused = refused fault
blamed reason Memory words fault refused = tt
blamed reason other words fault refused = absurd fault

-- They are also for a further reason that follows.
pub blamed_for : (reason further : Type 0) (stop : Stop) → IsFaultFor reason stop
    → (reason → further) → IsFaultFor further stop
blamed_for reason further (Usage text) fault follows = follows fault
blamed_for reason further Memory fault follows = tt
blamed_for reason further other fault follows = absurd fault

-- ---- `minimize`

-- With `--list` no other flag stands.
list_alone : (whole all list duplicates : Bool) → DoAgree whole all list duplicates → list ≡ true
    → (whole ≡ false) × (all ≡ false) × (duplicates ≡ false)
list_alone true all list duplicates agree given = absurd cc
list_alone false all true duplicates agree given = (refl, agree.0, agree.1)
list_alone false all false duplicates agree given = absurd cc

-- With `--all` there is no `--file`.
all_alone : (whole all list duplicates : Bool) → DoAgree whole all list duplicates → all ≡ true
    → whole ≡ false
all_alone true all list duplicates agree given = absurd cc
all_alone false all list duplicates agree given = refl

-- Where neither is given, `--duplicates` isn't.
no_duplicates : (whole all list duplicates : Bool) → DoAgree whole all list duplicates
    → list ≡ false → all ≡ false → duplicates ≡ false
no_duplicates true all list duplicates agree not_list not_all = agree.2
no_duplicates false all true duplicates agree not_list not_all = agree.1
no_duplicates false all false duplicates agree not_list not_all = elim agree [
  | inl given ↦ absurd cc
  | inr none ↦ none
]

module _ (rows : List Row) (whole all list duplicates : Bool) (behind : List Text)
    (flags : AreMinimizeFlags rows whole all list duplicates)
    (files : behind ≡ unwrap_or (all_of (codes "FILES") rows) []) where
  -- The words ask by `minimize`, with these flags.
  by_minimize : (words : List Text) → Commands words (codes "minimize") rows
      → AsksMinimize words whole all list duplicates behind
  by_minimize words commands = (rows, commands, flags, sym files)

  -- They ask to list the proofs that become shorter, where `--list` is given.
  pub list_asked : DoAgree whole all list duplicates → list ≡ true → (words : List Text)
      → Commands words (codes "minimize") rows → AsksMinimize words false false true false behind
  list_asked agree given words commands =
      let alone = list_alone whole all list duplicates agree given in
      rw (alone.0, alone.1, given, alone.2) at by_minimize words commands

  -- They ask for a file with shorter proofs, where `--all` is given.
  pub file_asked : DoAgree whole all list duplicates → list ≡ false → all ≡ true
      → (parts : List Text) (number : ℕ) (names : List Text) → parts ≡ behind
      → NamesFile parts number names → (words : List Text)
      → Commands words (codes "minimize") rows → AsksShorterFile words number duplicates names
  file_asked agree not_list given parts number names same named words commands =
      let not_whole = all_alone whole all list duplicates agree given in
      (behind, rw (not_whole, given, not_list) at by_minimize words commands, rw same at named)

  -- They ask for the shorter proof of a theorem, or for its file, where neither is given.
  pub minimized_asked : DoAgree whole all list duplicates → list ≡ false → all ≡ false
      → (parts : List Text) (label : Text) (names : List Text) → parts ≡ behind
      → parts ≡ label ∷ names → names ≢ [] → (words : List Text)
      → Commands words (codes "minimize") rows → AsksMinimized words label whole names
  minimized_asked agree not_list not_all parts label names same split some words commands =
      let none = no_duplicates whole all list duplicates agree not_list not_all in
      (rw (not_all, not_list, none, ← same, split) at by_minimize words commands, some)

  -- Flags that don't agree are refused.
  pub flags_refused : ¬ (DoAgree whole all list duplicates) → (words : List Text)
      → Commands words (codes "minimize") rows → AreRefusedWords words
  flags_refused differ words commands = inr (inr (inr (inr (inr (inl (
    whole,
    all,
    list,
    duplicates,
    behind,
    by_minimize words commands,
    inl differ,
  ))))))

  -- So are words that name no file behind the label.
  pub few_refused : list ≡ false → (parts : List Text) (stop : Stop) → parts ≡ behind
      → IsFilesFault parts stop → (words : List Text)
      → Commands words (codes "minimize") rows → IsWordFault words stop
  few_refused not_list parts (Usage text) same few words commands = inr (inr (inr (inr (inr (inl (
    whole,
    all,
    list,
    duplicates,
    behind,
    by_minimize words commands,
    inr (inl (not_list, rw same at few)),
  ))))))
  few_refused not_list parts Memory same few words commands = tt
  few_refused not_list parts other same few words commands = absurd few

  -- And so is the name of a file that is none of the others.
  pub name_refused : all ≡ true → (parts : List Text) (stop : Stop) → parts ≡ behind
      → IsNamingFault parts stop → (words : List Text)
      → Commands words (codes "minimize") rows → IsWordFault words stop
  name_refused given parts (Usage text) same none words commands = inr (inr (inr (inr (inr (inl (
    whole,
    all,
    list,
    duplicates,
    behind,
    by_minimize words commands,
    inr (inr (given, rw same at none)),
  ))))))
  name_refused given parts Memory same none words commands = tt
  name_refused given parts other same none words commands = absurd none
