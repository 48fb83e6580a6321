-- Files in which other bytes stand between the `$=` and the `$.` of one statement (the Metamath book,
-- sections 4.1.1 and 4.2.6).
use Rattle.std.specs.Prelude.{◌≡◌, ◌≢◌, ℕ, ◌+◌, ◌≤◌, List, [], ◌∷◌, ◌++◌, map, take, drop, length}
use Rattle.std.specs.Prelude.{true, Option, Some, None, slice_get, slice_set}
use Rattle.std.specs.List.{AllByRecursion, AllZip, list_all}
use Rattle.mm_base.specs.declared.statement.Kind.TheVariants.{Provable}
use Rattle.mm_base.specs.Token.{PlainToken, is_space, is_printable, tokens_from, HoldsNoDollar}
use Rattle.mm_base.specs.Statement.{PlainStatement}
use Rattle.mm_text.specs.Files.{PlainFile}
use Rattle.mm_text.specs.Items.{Clear, without_comments}
use Rattle.mm_text.specs.Reading.{PlainFault, Reads}
use Rattle.mm_text.specs.Alike.{statement_on}

-- a token that a proof may have
abbrev pub IsProofToken : PlainToken → Type 0
IsProofToken t = (list_all is_printable t.text ≡ true) × HoldsNoDollar t.text

-- A text that may stand there: it begins and ends with white space, and its tokens are ones that a
-- proof may have.
pub record IsProofText (text : List ℕ) : Type 0 where
  pub first : ℕ
  pub more : List ℕ
  pub begins : text ≡ first ∷ more
  pub first_space : is_space first ≡ true
  pub inner : List ℕ
  pub last : ℕ
  pub ends : text ≡ inner ++ last ∷ []
  pub last_space : is_space last ≡ true
  pub tokens : (file at : ℕ) → AllByRecursion IsProofToken (tokens_from file at text)

-- the bytes with others in place of those of a span
abbrev pub with_span : List ℕ → ℕ × ℕ → List ℕ → List ℕ
with_span bytes span text = take span.0 bytes ++ (text ++ drop span.1 bytes)

-- the files with other bytes in the file with a number
abbrev pub with_bytes : List PlainFile → ℕ → List ℕ → List PlainFile
with_bytes files number bytes =
    elim (slice_get files number) [
      | None ↦ files
      | Some file ↦ slice_set files number (record file { bytes = bytes })
    ]

-- a statement without the positions of its tokens
abbrev pub placeless : PlainStatement → PlainStatement
placeless s = statement_on (λ file at. 0) s

-- How a `$p` is read before and after bytes of the file with a number are replaced: the old ones
-- ended at one position, those in their stead end at another. Of this file, its proof stands as far
-- behind them as it did; of another file, it stands where it did.
pub record IsMoved (number end other_end : ℕ) (s t : PlainStatement) : Type 0 where
  pub home : s.first.file ≡ t.first.file
  pub elsewhere : s.first.file ≢ number → s.span ≡ t.span
  pub start : s.first.file ≡ number → s.span.0 + other_end ≡ t.span.0 + end
  pub stop : s.first.file ≡ number → s.span.1 + other_end ≡ t.span.1 + end

-- The others read as the same statements: those before one as they were, that one with the tokens
-- of the text as its proof, and those after it but for positions. The text ends elsewhere than the
-- old proof did, and the proofs after it have moved by as much.
pub record AreReadBut (others : List PlainFile) (before : List PlainStatement)
    (s : PlainStatement) (after : List PlainStatement) (text : List ℕ) : Type 0 where
  pub later : List PlainStatement
  pub reads : Reads others
      (before
      ++ record s {
        proof = tokens_from s.first.file s.span.0 text;
        span = (s.span.0, s.span.0 + length text);
      }
      ∷ later) None
  pub same : map placeless after ≡ map placeless later
  pub moved : AllZip (λ u v. u.kind ≡ Provable
      → IsMoved s.first.file s.span.1 (s.span.0 + length text) u v) after later

-- The bytes of the statement's proof stand among these, where its span says: the tokens in them,
-- outside comments, are those of its proof, each at its position in the file, and no comment is
-- left open there.
pub record IsProofSpan (s : PlainStatement) (bytes : List ℕ) : Type 0 where
  pub prefix : List ℕ
  pub within : List ℕ
  pub back : List ℕ
  pub whole : bytes ≡ prefix ++ (within ++ back)
  pub start : s.span.0 ≡ length prefix
  pub stop : s.span.1 ≡ length prefix + length within
  pub tokens : without_comments None (tokens_from s.first.file s.span.0 within)
      ≡ map Clear s.proof

-- in the reading of files, also one that a fault ends, the proof of each `$p` stands in the file of
-- its first token, where its span says
abbrev pub ProofsStandInSpans : Type 0
ProofsStandInSpans =
    (files : List PlainFile) (before : List PlainStatement) (s : PlainStatement)
    (after : List PlainStatement) (ending : Option PlainFault) (file : PlainFile)
    → Reads files (before ++ s ∷ after) ending → s.kind ≡ Provable
    → slice_get files s.first.file ≡ Some file → IsProofSpan s file.bytes

-- in the reading of files, also one that a fault ends, the proof of a later `$p` stands behind that
-- of an earlier one of the same file
abbrev pub ProofSpansFollow : Type 0
ProofSpansFollow =
    (files : List PlainFile) (before between after : List PlainStatement) (s t : PlainStatement)
    (ending : Option PlainFault)
    → Reads files (before ++ s ∷ between ++ t ∷ after) ending → s.kind ≡ Provable
    → t.kind ≡ Provable → s.first.file ≡ t.first.file → s.span.1 ≤ t.span.0

-- files without a fault in which the proof of a statement is replaced are read so
abbrev pub ReplacedProofsAreRead : Type 0
ReplacedProofsAreRead =
    (files : List PlainFile) (before : List PlainStatement) (s : PlainStatement)
    (after : List PlainStatement) (file : PlainFile) (text : List ℕ)
    → Reads files (before ++ s ∷ after) None → s.kind ≡ Provable
    → slice_get files s.first.file ≡ Some file → IsProofText text
    → AreReadBut (with_bytes files s.first.file (with_span file.bytes s.span text)) before s after
    text
