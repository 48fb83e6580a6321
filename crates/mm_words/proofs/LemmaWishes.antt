-- What the words of `mm lemmas` ask for: lists of lemmas, and files with them. On this file rest the
-- contracts of `lemmas_request` and `lemma_file`.
use Rattle.std.proofs.Common.{◌≡◌, ◌<◌, ◌≤◌, ◌+◌, ◌++◌, ℕ, List, [], ◌∷◌, Bool, Bor, Option, Some}
use Rattle.std.proofs.Common.{None, codes, drop, false, get_or, inl, inr, length, option_map}
use Rattle.std.proofs.Common.{refl, sym, ap, ◌∙◌, take, true, unwrap_or, is_some}
use Rattle.std.proofs.lemmas.List.{drop_all, drop_more, get_or-map, length-map, map-append}
use Rattle.std.proofs.lemmas.List.{take-append-drop, take_all, take_more}
use Rattle.std.proofs.lemmas.Slice.Zip.{all_zipped_more}
use Rattle.std.specs.List.{AllByRecursion, AllZip, Any}
use Rattle.clap.specs.Words.{Row, Text, all_of, first_of}
use Rattle.mm_words.specs.Words.{AreDecimalsBefore, AreLemmasFlags, AreLemmasLimits, AsksLemmaFile}
use Rattle.mm_words.specs.Words.{AsksLemmas, BeginsWithName, Commands, IsLemmaWish, SaysNumber}
use Rattle.mm_words.specs.Words.{StandTogether, is_decimal}
use Rattle.mm_words.specs.RefusedWords.{AreRefusedWords, IsFaultFor, IsNamingFault, IsNoLemmaWish}
use Rattle.mm_words.specs.RefusedWords.{IsNumberFault, IsWordFault, NamesNoLemmaFile, SaysNoNumber}
use Rattle.mm_words.specs.declared.request.AskedLemmas.{AskedLemmas}
use Rattle.mm_words.specs.declared.stop.Stop.{Stop}
use Rattle.mm_words.specs.declared.stop.Stop.TheVariants.{Usage, Memory}
use Rattle.mm_words.proofs.AskedWords.{blamed, is_some_map, number_found, texts_in}

-- ---- numbers in front of names

-- The words from a name on begin with a name.
pub name_first : (words : List (Bor Text)) (i : ℕ) (d : Bor Text) → i < length words
    → is_decimal (get_or words i d).now ≡ false → BeginsWithName (texts_in (drop i words))
name_first words i d less other = rw (drop_more words i d less) other

-- At their end there is none.
pub none_first : (words : List (Bor Text)) (i : ℕ) → length words ≤ i
    → BeginsWithName (texts_in (drop i words))
none_first words i past = rw (drop_all i words past) tt

-- So many words say so many numbers, and the next says one more.
pub said_more : (words : List (Bor Text)) (numbers : List ℕ) (i : ℕ) (d : Bor Text) (n : ℕ)
    → i < length words → AllZip SaysNumber (texts_in (take i words)) numbers
    → SaysNumber (get_or words i d).now n
    → AllZip SaysNumber (texts_in (take (i + 1) words)) (numbers ++ n ∷ [])
said_more words numbers i d n less so own =
    rw (
      take_more words i d less,
      map-append (λ (word : Bor Text). word.now) (take i words) (get_or words i d ∷ []),
    ) (all_zipped_more SaysNumber (texts_in (take i words)) numbers (get_or words i d).now n so own)

-- At their end all do.
pub said_all : (words : List (Bor Text)) (numbers : List ℕ) (i : ℕ) → length words ≤ i
    → AllZip SaysNumber (texts_in (take i words)) numbers
    → AllZip SaysNumber (texts_in words) numbers
said_all words numbers i past so = rw (take_all i words past) at so

-- One of the words says none.
pub none_said : (words : List (Bor Text)) (i : ℕ) (d : Bor Text) → i < length words
    → SaysNoNumber (get_or words i d).now → Any SaysNoNumber (texts_in words)
none_said words i d less none = (
  i,
  (get_or words i d).now,
  rw (length-map words (λ (w : Bor Text). w.now)) less,
  get_or-map (λ (w : Bor Text). w.now) words i d (get_or words i d).now less,
  none,
)

-- The words are parted where the first name stands.
pub parted_at : (words decimals others : List (Bor Text)) (n : ℕ) → decimals ≡ take n words
    → others ≡ drop n words
    → AllByRecursion (λ (word : Text). is_decimal word ≡ true) (texts_in (take n words))
    → BeginsWithName (texts_in (drop n words))
    → AreDecimalsBefore (texts_in words) (texts_in decimals) (texts_in others)
parted_at words decimals others n before after digits name =
    rw (before, after) (
      sym (ap texts_in (take-append-drop n words))
          ∙ map-append (λ (w : Bor Text). w.now) (take n words) (drop n words),
      digits,
      name,
    )

-- What isn't the name of a file behind the numbers is to blame.
pub name_blamed : (behind decimals others : List Text) (stop : Stop)
    → AreDecimalsBefore behind decimals others → IsNamingFault others stop
    → IsFaultFor (NamesNoLemmaFile behind) stop
name_blamed behind decimals others (Usage text) parted none = (decimals, others, parted, inr none)
name_blamed behind decimals others Memory parted none = tt
name_blamed behind decimals others other parted none = absurd none

-- So is a word that says no number.
pub number_blamed : (behind decimals others : List Text) (stop : Stop)
    → AreDecimalsBefore behind decimals others → IsFaultFor (Any SaysNoNumber decimals) stop
    → IsFaultFor (NamesNoLemmaFile behind) stop
number_blamed behind decimals others (Usage text) parted none = (decimals, others, parted, inl none)
number_blamed behind decimals others Memory parted none = tt
number_blamed behind decimals others other parted none = absurd none

-- ---- what is said behind the options

-- The word behind an option is that of which there are bytes.
pub now_behind : (given : Option (Bor Text)) (usual : Bor Text)
    → unwrap_or (option_map (λ (w : Bor Text). w.now) given) usual.now ≡ (unwrap_or given usual).now
now_behind None usual = refl
now_behind (Some word) usual = refl

-- ---- requests

-- The file about which the words ask is one of those that they name.
pub lemma_file_named : (words : List Text) (asked : AskedLemmas) → AsksLemmaFile words asked
    → asked.file < length (texts_in asked.names.items)
lemma_file_named words asked (
  rows,
  prefix,
  comment,
  commands,
  flags,
  limits,
  (
    same,
    fit,
    told,
    said,
    (decimals, others, parted, lines, (name, is, found)),
  ),
) =
    number_found (texts_in asked.names.items) name asked.file found

-- With `--list` no other flag stands.
listed_alone : (list all : Bool) (prefix comment : Option (Bor Text))
    → StandTogether list all (is_some prefix) (is_some comment) → list ≡ true
    → (all ≡ false) × (prefix ≡ None) × (comment ≡ None)
listed_alone true all None None together given = (together.0, refl, refl)
listed_alone true all None (Some word) together given = absurd cc
listed_alone true all (Some word) comment together given = absurd cc
listed_alone false all prefix comment together given = absurd cc

-- Without it `--all` does.
all_instead : (list all prefix comment : Bool) → StandTogether list all prefix comment
    → list ≡ false → all ≡ true
all_instead true all prefix comment together given = absurd cc
all_instead false all prefix comment together given = together

-- its bytes
abbrev pub now_in : Option (Bor Text) → Option Text
now_in word = option_map (λ w. w.now) word

module _ (rows : List Row) (list all : Bool) (prefix comment : Option (Bor Text))
    (flags : AreLemmasFlags rows list all (now_in prefix) (now_in comment)) where
  -- The words ask for lemmas with these limits, where `--list` is given.
  pub lemmas_asked : StandTogether list all (is_some prefix) (is_some comment) → list ≡ true
      → (most least : ℕ) → AreLemmasLimits rows most least → (names : List Text)
      → names ≡ unwrap_or (all_of (codes "FILES") rows) [] → (words : List Text)
      → Commands words (codes "lemmas") rows → AsksLemmas words most least names
  lemmas_asked together given most least limits names files words commands =
      let (not_all, no_prefix, no_comment) = listed_alone list all prefix comment together given in
      (rows, commands, rw (given, not_all, no_prefix, no_comment) at flags, limits, sym files)

  -- They ask for a file with lemmas, where it isn't.
  pub lemma_file_asked : StandTogether list all (is_some prefix) (is_some comment)
      → list ≡ false → (asked : AskedLemmas) → AreLemmasLimits rows asked.most asked.least
      → (behind : List Text) → behind ≡ unwrap_or (all_of (codes "FILES") rows) []
      → IsLemmaWish behind (now_in prefix) (now_in comment) asked → (words : List Text)
      → Commands words (codes "lemmas") rows → AsksLemmaFile words asked
  lemma_file_asked together not asked limits behind files wish words commands =
      let given = all_instead list all (is_some prefix) (is_some comment) together not in (
        rows,
        now_in prefix,
        now_in comment,
        commands,
        rw (not, given) at flags,
        limits,
        rw files at wish,
      )

  -- Flags that don't stand beside each other are refused.
  pub apart_refused : ¬ (StandTogether list all (is_some prefix) (is_some comment))
      → (words : List Text) → Commands words (codes "lemmas") rows → AreRefusedWords words
  apart_refused apart words commands = inr (inr (inr (inr (inr (inr (inr (inr (inl (
    rows,
    list,
    all,
    now_in prefix,
    now_in comment,
    commands,
    flags,
    inl (rw (
      is_some_map (λ (w : Bor Text). w.now) prefix,
      is_some_map (λ (w : Bor Text). w.now) comment,
    ) apart),
  )))))))))

  -- So are words behind `--most` that say no number.
  pub most_refused : (stop : Stop) → IsNumberFault (first_of (codes "most") rows) stop
      → (words : List Text) → Commands words (codes "lemmas") rows → IsWordFault words stop
  most_refused (Usage text) none words commands = inr (inr (inr (inr (inr (inr (inr (inr (inl (
    rows,
    list,
    all,
    now_in prefix,
    now_in comment,
    commands,
    flags,
    inr (inl none),
  )))))))))
  most_refused Memory none words commands = tt
  most_refused other none words commands = absurd none

  -- And so are those behind `--least`.
  pub least_refused : (stop : Stop) → IsNumberFault (first_of (codes "least") rows) stop
      → (words : List Text) → Commands words (codes "lemmas") rows → IsWordFault words stop
  least_refused (Usage text) none words commands = inr (inr (inr (inr (inr (inr (inr (inr (inl (
    rows,
    list,
    all,
    now_in prefix,
    now_in comment,
    commands,
    flags,
    inr (inr (inl none)),
  )))))))))
  least_refused Memory none words commands = tt
  least_refused other none words commands = absurd none

  -- And words that ask for no file with lemmas, where `--list` isn't given.
  pub wish_refused : StandTogether list all (is_some prefix) (is_some comment) → list ≡ false
      → (behind : List Text) (stop : Stop)
      → behind ≡ unwrap_or (all_of (codes "FILES") rows) []
      → IsFaultFor (IsNoLemmaWish behind (now_in prefix) (now_in comment)) stop
      → (words : List Text) → Commands words (codes "lemmas") rows → IsWordFault words stop
  wish_refused together not behind stop files fault words commands =
      let given = all_instead list all (is_some prefix) (is_some comment) together not in
      blamed _ stop words fault (λ none. inr (inr (inr (inr (inr (inr (inr (inr (inl (
        rows,
        list,
        all,
        now_in prefix,
        now_in comment,
        commands,
        flags,
        inr (inr (inr (given, rw files at none))),
      ))))))))))
