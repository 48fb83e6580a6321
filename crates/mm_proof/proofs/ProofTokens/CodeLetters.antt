-- Letters say one list of codes, or break one rule; and no proof says more moves than it has
-- bytes.
use Rattle.std.proofs.Common.{◌≡◌, ℕ, List, [], ◌∷◌, map, Result, Ok, Err, ◌⊎◌, inl, inr, refl, sym}
use Rattle.std.proofs.Common.{subst, ◌∙◌, arith, ⊎_elim, ◌≤◌, ◌++◌, length, take, Contains, ap}
use Rattle.std.specs.List.{AllByRecursion, AllZip, flat_map, sum_by}
use Rattle.mm_code.specs.declared.code.Code.{Code}
use Rattle.mm_code.specs.declared.code.Code.TheVariants.{Number, Tag}
use Rattle.mm_code.specs.declared.code.CodeRule.{CodeRule}
use Rattle.mm_code.specs.declared.code.CodeRule.TheVariants.{P4, P5}
use Rattle.mm_code.specs.Letters.{Letters, SaysCode, LettersBreak as Breaks, HasSpelling, code_for}
use Rattle.mm_code.specs.Mirror.Reading.{reading}
use Rattle.mm_frame.proofs.Rules.DecidedStatements.{dec_as}
use Rattle.mm_code.proofs.ReadLetters.{is_read, is_read_again}
use Rattle.mm_code.proofs.LetterFaults.{breaks_read, read_breaks}
use Rattle.std.proofs.lemmas.Bool.{false≢true}
use Rattle.std.proofs.lemmas.List.{length-map, length-append}
use Rattle.std.proofs.lemmas.List.Concat.{length-flat_map}
use Rattle.std.proofs.lemmas.List.Sums.{sum_by-append}
use Rattle.std.proofs.lemmas.Slice.Zip.{AllZip-long}
use Rattle.mm_base.proofs.Lists.{all_there, contains_from_at}
use Rattle.mm_frame.specs.Sentence.{Sentence}
use Rattle.mm_frame.specs.Form.{AllFormed}
use Rattle.mm_frame.proofs.Rules.ObeyedRules.{allformed_prefix}
use Rattle.mm_frame.proofs.BookLists.ReadLabels.{label_named}
use Rattle.mm_step.specs.declared.fault.ProofRule.TheVariants.{P2}
use Rattle.mm_frame.specs.declared.number.LabelId.{LabelId}
use Rattle.mm_step.specs.Moves.{Move, name}
use Rattle.mm_proof.specs.Tokens.{Says, AreLabels, SayMoves, opening_token, closing_token}
use Rattle.mm_proof.specs.Proof.{IsWhole}
use Rattle.mm_proof.specs.Parsed.{SaySteps}
use Rattle.mm_step.specs.Steps.{IsNumberedMove}
use Rattle.mm_step.specs.Plain.{ids_in}
use Rattle.mm_proof.specs.Mirror.CodeSteps.{code_move, moves_of}
use Rattle.mm_code.specs.Letters as letter

-- ==== the codes of letters: letters say one list of codes, or break one rule

-- letters that say codes break no rule
pub coded_not_broken : (text : List ℕ) (codes : List Code) (rule : CodeRule) → Letters text codes → ¬ (Breaks rule text)
coded_not_broken text codes rule letters broken =
    let e = sym (is_read_again text codes letters) ∙ breaks_read rule text broken in cc

-- letters say codes or break a rule
pub coded_or_broken : (text : List ℕ) → ((codes : List Code) × Letters text codes) ⊎ ((rule : CodeRule) × Breaks rule text)
coded_or_broken text = go (reading 0 text) refl
  where
    go : (answer : Result (List Code) CodeRule) → reading 0 text ≡ answer → ((codes : List Code) × Letters text codes) ⊎ ((rule : CodeRule) × Breaks rule text)
    go (Ok codes) e = inl (codes, is_read text [] codes tt e)
    go (Err rule) e = inr (rule, read_breaks rule text e)

rule_dec : (a b : CodeRule) → Dec (a ≡ b)
rule_dec P4 P4 = yes refl
rule_dec P5 P5 = yes refl
rule_dec a b = no (λ e. absurd cc)

pub breaks_dec : (rule : CodeRule) (text : List ℕ) → Dec (Breaks rule text)
breaks_dec rule text = ⊎_elim (λ c. no (coded_not_broken text c.0 rule c.1))
    (λ b. dec_as (λ e. rw e at b.1) (λ q. cc (breaks_read b.0 text b.1, breaks_read rule text q))
    (rule_dec b.0 rule)) (coded_or_broken text)

-- ---- a number that letters say is at least 1

held_from_one : (code : Code) (piece : List ℕ) → SaysCode piece code → HasSpelling (code_for code)
held_from_one (Number number) piece says = omega (arith, says.value, says.is_last.0)
held_from_one Tag piece says = tt

all_from_one : (pieces : List (List ℕ)) (codes : List Code) → AllZip SaysCode pieces codes → AllByRecursion HasSpelling (map code_for codes)
all_from_one [] [] each = tt
all_from_one (piece ∷ pieces) (code ∷ codes) each = (held_from_one code piece each.0, all_from_one pieces codes each.1)
all_from_one pieces codes each = absurd each

pub from_one : (text : List ℕ) (codes : List Code) → Letters text codes → AllByRecursion HasSpelling codes
from_one text codes letters = subst (AllByRecursion HasSpelling) (sym letters.are_codes) (all_from_one letters.spells.pieces letters.spelled letters.spells.each)

-- ==== tokens that break no rule over the whole proof say as many moves as they have bytes, at
-- most: each label has a byte, and each letter is one

-- a piece of text that says a code has a letter
pub piece_letters : (piece : List ℕ) (code : Code) → letter.SaysCode piece code → 1 ≤ length piece
piece_letters piece (Number number) s =
    omega (arith, ap length s.letters, length-append (map letter.leading_letter s.leading) (letter.last_letter s.last ∷ []))
piece_letters piece Tag s = omega (arith, ap length s)

-- as many codes as letters at most
pieces_letters : (pieces : List (List ℕ)) (codes : List Code) → AllZip letter.SaysCode pieces codes → length codes ≤ sum_by length pieces
pieces_letters [] [] z = omega arith
pieces_letters (piece ∷ pieces) (code ∷ codes) z =
    let others = pieces_letters pieces codes z.1 in
    omega (arith, piece_letters piece code z.0, others, sum_by-append length (piece ∷ []) pieces)
pieces_letters pieces codes z = absurd z

codes_letters : (text : List ℕ) (codes : List Code) → letter.Letters text codes → length codes ≤ length text
codes_letters text codes l =
    let most = pieces_letters l.spells.pieces l.spelled l.spells.each in
    omega (arith, most, ap length l.are_codes, length-map l.spelled letter.code_for, ap length l.spells.joined, length-flat_map (λ (piece : List ℕ). piece) l.spells.pieces)

-- as many tokens as bytes at most, if each has one
tokens_bytes : (tokens : List (List ℕ)) → AllByRecursion (λ t. 1 ≤ length t) tokens
    → length tokens ≤ sum_by length tokens
tokens_bytes [] held = omega arith
tokens_bytes (t ∷ tokens) held =
    omega (arith, held.0, tokens_bytes tokens held.1, sum_by-append length (t ∷ []) tokens)

-- each label is that of an earlier statement, so it has a byte
labels_some : (before : List Sentence) (tokens labels : List (List ℕ)) → AllFormed before
    → IsWhole before tokens → AreLabels tokens labels
    → AllByRecursion (λ t. 1 ≤ length t) labels
labels_some before tokens labels formed whole are = all_there (λ t. 1 ≤ length t) labels
    (λ k label at. some label (contains_from_at labels label (k, at)))
  where
    some : (label : List ℕ) → Contains labels label → 1 ≤ length label
    some [] has =
        absurd (whole P2 (labels, are, [], has, λ f. false≢true (label_named before [] formed f)))
    some (b ∷ label) has = omega arith

pub said_moves : (before : List Sentence) (s : Sentence) (tokens : List (List ℕ))
    (moves : List (Move (List ℕ))) → AllFormed before → IsWhole before tokens
    → SayMoves before s tokens moves → length moves ≤ sum_by length tokens
said_moves before s tokens moves formed whole (inl n) =
    let held = labels_some before tokens tokens formed whole (inl (n.0, refl)) in
    omega (arith, tokens_bytes tokens held, ap length n.1, length-map tokens (λ (l : List ℕ). name l))
said_moves before s tokens moves formed whole (inr c) =
    let most = codes_letters (flat_map (λ piece. piece) c.letters) c.codes c.coded in
    let long = AllZip-long (Says (c.labels ++ c.listed)) c.codes moves c.each in
    let text = length-flat_map (λ (piece : List ℕ). piece) c.letters in
    let head = sum_by-append length (opening_token ∷ c.listed) (closing_token ∷ c.letters) in
    let tail = sum_by-append length (closing_token ∷ []) c.letters in
    omega (arith, most, long, text, ap (sum_by length) c.parts.whole, head, tail)

-- the codes that say the moves of tokens are as many as bytes at most
pub codes_bytes : (st : List Sentence) (index : ℕ) (s : Sentence) (tokens : List (List ℕ))
    (entries : List LabelId) (codes : List Code) → AllFormed st
    → SaySteps st index s tokens (moves_of entries codes) → length codes ≤ sum_by length tokens
codes_bytes st index s tokens entries codes formed says =
    omega (
      arith,
      said_moves (take index st) s tokens says.1 (allformed_prefix st index formed) says.0 says.2,
      AllZip-long (IsNumberedMove st) (moves_of entries codes) says.1 says.3,
      length-map codes (code_move (ids_in entries)),
    )
