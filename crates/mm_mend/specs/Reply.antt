-- The reply to `mm mend`, and the note beside it, which are this project's own.
use Rattle.std.specs.Prelude.{◌≡◌, ◌⊎◌, ℕ, ◌+◌, List, [], ◌∷◌, ◌++◌, length, take, drop, Bool, true}
use Rattle.std.specs.Prelude.{false, nat_lt, codes, option_map, slice_get, unwrap_or}
use Rattle.std.specs.List.{flat_map}
use Rattle.mm_base.specs.Statement.{PlainStatement}
use Rattle.mm_base.specs.Token.{PlainToken}
use Rattle.mm_text.specs.Files.{PlainFile}
use Rattle.mm_frame.specs.Sentence.{Sentence, sentence_of}
use Rattle.mm_step.specs.declared.fault.ProofRule.{ProofRule}
use Rattle.mm_step.specs.declared.profile.Profile.TheVariants.{Lenient}
use Rattle.mm_proof.specs.Tokens.{is_incomplete}
use Rattle.mm_proof.specs.UnderProfile.{IsFaultUnder, IsProvedUnder}
use Rattle.mm_rules.specs.Places.{place_of, place_text}
use Rattle.mm_rules.specs.Shown.{symbols_text}
use Rattle.mm_rules.specs.Verdict.{HasVerdict, Load, PlainRefusal, Refused, proof_of, sentences}
use Rattle.mm_rules.specs.declared.rule.AskRule.{AskRule}
use Rattle.mm_rules.specs.declared.rule.AskRule.TheVariants.{A3}
use Rattle.mm_rules.specs.declared.rule.Rule.{Rule}
use Rattle.mm_rules.specs.declared.ask.AskFault.TheVariants as ask
use Rattle.mm_verdict.specs.Alone.{IsNoTheorem, IsRefusedBefore, IsTheoremAt}
use Rattle.mm_verdict.specs.Reply.{IsAskReply, line_with, refusal_status, status_of, text_of}
use Rattle.mm_facts.specs.Why.{IsFaultPlace}
use Rattle.mm_mend.specs.Mend.{AreFirst, IsMend, changes_for, most_told, place_count, proof_text}
use Rattle.mm_mend.specs.Mend.{reach_of}
use Rattle.mm_mend.specs.declared.change.Change.{Change}
use Rattle.mm_mend.specs.declared.change.Change.TheVariants.{Words, Removed, Exchanged, Replaced}
use Rattle.mm_mend.specs.declared.change.Change.TheVariants.{Put}

-- ---- a line

-- the word for the change
abbrev pub change_name : Change → List ℕ
change_name (Words at) = codes "exchanged"
change_name (Removed at) = codes "removed"
change_name (Exchanged at) = codes "exchanged"
change_name (Replaced at byte) = codes "replaced"
change_name (Put at byte) = codes "put"

-- the position of the token with an index
abbrev pub token_position : List PlainToken → ℕ → ℕ
token_position tokens index = unwrap_or (option_map (λ t. t.at) (slice_get tokens index)) 0

-- The position in its file of the word or the byte, in a proof of these tokens whose text begins at
-- this one.
abbrev pub change_position : List PlainToken → (begin : ℕ) → Change → ℕ
change_position tokens begin (Words at) = token_position tokens at
change_position tokens begin (Removed at) = begin + at
change_position tokens begin (Exchanged at) = begin + at
change_position tokens begin (Replaced at byte) = begin + at
change_position tokens begin (Put at byte) = begin + at

-- the token with an index; nothing where there is none
abbrev pub token_at : List (List ℕ) → ℕ → List ℕ
token_at tokens index = unwrap_or (slice_get tokens index) []

-- what stands there and is changed, and what is put in place of it
abbrev pub change_words : (tokens : List (List ℕ)) → (text : List ℕ) → Change → List (List ℕ)
change_words tokens text (Words at) =
    token_at (drop at tokens) 0 ∷ token_at (drop at tokens) 1 ∷ []
change_words tokens text (Removed at) = take 1 (drop at text) ∷ []
change_words tokens text (Exchanged at) =
    take 1 (drop at text) ∷ take 1 (drop 1 (drop at text)) ∷ []
change_words tokens text (Replaced at byte) = take 1 (drop at text) ∷ (byte ∷ []) ∷ []
change_words tokens text (Put at byte) = (byte ∷ []) ∷ []

-- the line on a change of the statement's proof, with this text
abbrev pub change_line : List PlainFile → PlainStatement → (text : List ℕ) → Change → List ℕ
change_line files s text change =
    change_name change ++ codes " "
    ++ place_text files (place_of files s.first.file (change_position s.proof s.span.0 change))
    ++ symbols_text (change_words (proof_of s) text change) ++ codes "\n"

-- ---- the note

-- no change mends it
abbrev pub none_note : List Change → List ℕ
none_note [] =
    codes "mm: note: no change of one byte or of two neighbours makes it a proof\n"
none_note (change ∷ found) = []

-- not all places before the fault were tried
abbrev pub long_note : Bool → List ℕ
long_note true =
    codes "mm: note: the proof is long: places far before its fault weren't tried\n"
long_note false = []

-- so many places up to this one, in a text of so many bytes, are more than are tried
abbrev pub leaves_places : (size reach : ℕ) → Bool
leaves_places size reach = nat_lt (place_count size reach) reach

-- ---- the reply

-- 0 where a mend is told, else 1
abbrev pub mend_status : List Change → ℕ
mend_status [] = 1
mend_status (change ∷ found) = 0

-- The first fault of the proof of the `$p` is at a place, and these are the lines on its mends.
pub record TellsMends (files : List PlainFile) (before : List Sentence) (s : PlainStatement)
    (place : ℕ) (text : List ℕ) (status : ℕ) (note : List ℕ) : Type 0 where
  pub found : List Change
  pub first : AreFirst (IsMend before (sentence_of s) (proof_of s) (proof_text files s)) most_told
      (changes_for (length s.proof) (reach_of (proof_text files s) s.span.0 place) (proof_text files s)) found
  pub said : text ≡ flat_map (λ change. change_line files s (proof_text files s) change) found
  pub ends : status ≡ mend_status found
  pub noted : note ≡ none_note found
      ++ long_note (leaves_places (length (proof_text files s)) (reach_of (proof_text files s) s.span.0 place))

-- It has a fault, or none.
abbrev pub IsJudged : List PlainFile → (before : List Sentence) → PlainStatement
    → (text : List ℕ) → (status : ℕ) → (note : List ℕ) → Type 0
IsJudged files before s text status note =
    (IsProvedUnder Lenient before (sentence_of s) (proof_of s)
    × (text ≡ line_with (codes "proof") []) × (status ≡ 0) × (note ≡ []))
    ⊎ ((rule : ProofRule) × (step : ℕ) × (place : ℕ)
    × IsFaultUnder Lenient before (sentence_of s) (proof_of s) rule step
    × IsFaultPlace Lenient before s rule step place
    × TellsMends files before s place text status note)

-- The answer about the theorem with the label: its proof is incomplete, or judged.
abbrev pub IsMendAnswer : List PlainFile → (label : List ℕ) → (before : List Sentence)
    → PlainStatement → (text : List ℕ) → (status : ℕ) → (note : List ℕ) → Type 0
IsMendAnswer files label before s text status note =
    ((is_incomplete (proof_of s) ≡ true) × IsAskReply (ask.Rule A3) label text status
    × (note ≡ []))
    ⊎ ((is_incomplete (proof_of s) ≡ false) × IsJudged files before s text status note)

-- The reply where the files can't be taken, or are refused before it is known what stands at the
-- label.
abbrev pub IsUnread : List PlainFile → (label : List ℕ) → (text : List ℕ) → (status : ℕ) → Type 0
IsUnread files label text status =
    ((rule : Rule) × HasVerdict Lenient files (Load rule) × (text ≡ text_of files (Load rule))
    × (status ≡ status_of (Load rule)))
    ⊎ ((refusal : PlainRefusal) × IsRefusedBefore files label refusal
    × (text ≡ text_of files (Refused refusal)) × (status ≡ refusal_status refusal.rule))

-- The reply where no theorem is found there: what stands there isn't known, or is none.
abbrev pub IsNotFound : List PlainFile → (label : List ℕ) → (text : List ℕ) → (status : ℕ) → Type 0
IsNotFound files label text status =
    IsUnread files label text status
    ⊎ ((rule : AskRule) × IsNoTheorem files label rule
    × IsAskReply (ask.Rule rule) label text status)

-- The reply, and the note beside it.
abbrev pub IsMendReply : List PlainFile → (label : List ℕ) → (text : List ℕ) → (status : ℕ)
    → (note : List ℕ) → Type 0
IsMendReply files label text status note =
    (IsNotFound files label text status × (note ≡ []))
    ⊎ ((before : List PlainStatement) × (s : PlainStatement) × IsTheoremAt files label before s
    × IsMendAnswer files label (sentences before) s text status note)
