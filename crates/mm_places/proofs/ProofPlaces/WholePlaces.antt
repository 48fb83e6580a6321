-- Where a proof breaks a rule over the whole of it: its first label that is so, and the letter at
-- which its letters break a rule. Clauses of `whole_place` rest on it.
use Rattle.std.proofs.Common.{◌≡◌, ◌≢◌, ◌↔◌, ℕ, zero, suc, ◌+◌, ◌-◌, ◌*◌, ◌<◌, ◌≤◌, List, [], ◌∷◌}
use Rattle.std.proofs.Common.{◌++◌, length, map, take, drop, get_or, slice_get, Contains}
use Rattle.std.proofs.Common.{Option, Some, None, unwrap_or, inl, inr, refl, sym, ap}
use Rattle.std.proofs.Common.{subst, ◌∙◌, arith, flat_map, append_assoc, append-nil, Bool, true}
use Rattle.std.proofs.Common.{false, IsTrue, if◌then◌else◌}
use Rattle.std.specs.List.{AllByRecursion, position_or_len, before_first}
use Rattle.std.proofs.Math.Seq.{take-append-add, take-append_seam}
use Rattle.std.proofs.lemmas.Grind.{flat_map-append}
use Rattle.std.proofs.lemmas.List.{length-append, map-append, length-map, length-take}
use Rattle.std.proofs.lemmas.List.{length-take-le, take-append-le, take_rest}
use Rattle.std.proofs.lemmas.Option.{slice_get_within, none-some, same_Some}
use Rattle.mm_base.specs.declared.token.Token.{Token}
use Rattle.mm_base.proofs.Lists.{get_after, get_kept, get_take, get_from_take}
use Rattle.mm_base.proofs.Lists.{contains_from_at, append_cases, all_push, zip_push, split_at}
use Rattle.mm_base.proofs.Lists.{cons_parts, get_parted, get_within}
use Rattle.mm_code.specs.declared.code.Code.{Code}
use Rattle.mm_code.specs.declared.code.Code.TheVariants.{Number, Tag}
use Rattle.mm_code.specs.declared.code.CodeRule.{CodeRule}
use Rattle.mm_code.specs.declared.code.CodeRule.TheVariants as code
use Rattle.mm_code.specs.Letters.{Letters, SaysCode, IsSpelling, code_for, last_letter}
use Rattle.mm_code.specs.Letters.{leading_letter, leading_value, IsLeadingDigit, IsLeadingLetter}
use Rattle.mm_code.specs.Letters.{IsEndOrTag, LettersBreak}
use Rattle.mm_code.proofs.LetterFaults.{breaks_read}
use Rattle.mm_code.proofs.ReadLetters.{is_read_again}
use Rattle.mm_frame.specs.Sentence.{Sentence}
use Rattle.mm_frame.specs.Rules.{AllMeant}
use Rattle.mm_frame.specs.Numbers.{IsNumbered}
use Rattle.mm_frame.proofs.Names.LabelNumbers.{numbered_unique}
use Rattle.mm_step.specs.declared.fault.ProofRule.{ProofRule}
use Rattle.mm_step.specs.declared.fault.ProofRule.TheVariants.{P1, P2, P3, P4, P5, P15}
use Rattle.mm_proof.specs.declared.labels.Use.{Use}
use Rattle.mm_proof.specs.declared.labels.Use.TheVariants as uses
use Rattle.mm_step.specs.declared.profile.Profile.{Profile}
use Rattle.mm_step.specs.Plain.{token_texts}
use Rattle.mm_proof.specs.Tokens.{IsCompressed, AreLabels, opening_token, closing_token}
use Rattle.mm_proof.specs.Tokens.{is_question, is_unknown, BeginsList}
use Rattle.mm_proof.specs.CheckedPrefix.{token_of, known_piece, known_tokens, known_text}
use Rattle.mm_proof.specs.CheckedPrefix.{checked_prefix, begins_list, ends_list}
use Rattle.mm_proof.specs.Parsed.{OfProof}
use Rattle.mm_places.specs.Places.{IsMovePlace}
use Rattle.mm_proof.specs.Proof.{BreaksWhole}
use Rattle.mm_step.specs.Steps.{IsProofNumber}
use Rattle.mm_proof.specs.Strict.{IsTextFault}
use Rattle.mm_places.specs.declared.whole_places.Blame.{Blame}
use Rattle.mm_places.specs.declared.whole_places.Blame.TheVariants as blame
use Rattle.mm_places.specs.WholePlaces.{AreLabelsFrom, IsFirstLabel, IsUnknownLabel, IsIdleLabel}
use Rattle.mm_places.specs.WholePlaces.{IsLetterAt, IsWholePlace}
use Rattle.mm_step.specs.Mirror.CodeSteps.{MayBeUsed}
use Rattle.mm_proof.specs.Mirror.CodeSteps.{IsUseOf}
use Rattle.mm_places.specs.Mirror.CodeWhole.{HasBlamed, IsBlamed, IsBegun, IsCutAt, IsByteOf}
use Rattle.mm_places.specs.Mirror.CodeWhole.{IsFaultIndex, rule_of}
use Rattle.mm_proof.proofs.ProofTokens.SaidMoves.{normal_or_compressed, compressed_once}
use Rattle.mm_proof.proofs.ProofTokens.ProofLabels.{texts_more, prefix_all}
use Rattle.mm_proof.proofs.ProofTokens.ProofLabels.{used_not_idle}

-- ==== labels

-- the labels of the tokens are these
pub same_labels : (tokens : List (List ℕ)) (base : ℕ) (labels others : List (List ℕ))
    → AreLabelsFrom tokens base labels → AreLabels tokens others → labels ≡ others
same_labels tokens base labels others (inl (normal, none, same)) (inl (again, is)) =
    same ∙ sym is
same_labels tokens base labels others (inl (normal, none, same)) (inr (letters, c)) =
    absurd (normal_or_compressed tokens others letters normal c)
same_labels tokens base labels others (inr (letters, parts, one)) (inl (normal, is)) =
    absurd (normal_or_compressed tokens labels letters normal parts)
same_labels tokens base labels others (inr (letters, parts, one)) (inr (more, c)) =
    (compressed_once tokens labels others letters more parts c).0

-- ==== pieces, joined

abbrev pub joined : List (List ℕ) → List ℕ
joined pieces = flat_map (λ l. l) pieces

-- what stands in place of a token that isn't there
abbrev pub no_token : Token
no_token = record { text = record { ref_ptr = (0, 0); now = [] }; file = 0; at = 0 }

-- one piece more
pub joined_more : (pieces : List Token) (k : ℕ) (d : Token) → k < length pieces
    → joined (take (k + 1) (token_texts pieces))
    ≡ joined (take k (token_texts pieces)) ++ (get_or pieces k d).text.now
joined_more pieces k d less =
    rw (texts_more (λ t. t.text.now) pieces k d less) (simp (flat_map-append, append-nil))

-- all of them
pub joined_all : (pieces : List Token) (k : ℕ) → length pieces ≤ k
    → joined (take k (token_texts pieces)) ≡ joined (token_texts pieces)
joined_all pieces k all = ap joined (prefix_all (λ t. t.text.now) pieces k all)

-- or behind it
pub byte_behind : (pieces : List Token) (index left rest k : ℕ) (d : Token) → k < length pieces
    → index ≡ length (joined (take k (token_texts pieces))) + left
    → length (get_or pieces k d).text.now ≤ left
    → rest ≡ left - length (get_or pieces k d).text.now
    → index ≡ length (joined (take (k + 1) (token_texts pieces))) + rest
byte_behind pieces index left rest k d less is long more =
    omega (
      arith,
      ap length (joined_more pieces k d less),
      length-append (joined (take k (token_texts pieces))) (get_or pieces k d).text.now,
    )

-- the byte with an index, behind so many of the letters, stands at its token
pub letter_at : (tokens labels letters : List (List ℕ)) (index piece byte base : ℕ)
    (letter : ℕ) (later : List ℕ) → IsCompressed tokens labels letters → base ≡ length labels + 2
    → IsByteOf letters index piece byte
    → joined letters ≡ take index (joined letters) ++ letter ∷ later
    → IsLetterAt tokens (base + piece) byte (take index (joined letters)) letter later
letter_at tokens labels letters index piece byte base letter later parts is
    (text, there, within, at) whole =
    let front : letters ≡ take piece letters ++ text ∷ drop (suc piece) letters =
    split_at letters piece text there in
    let rest : List ℕ = joined (drop (suc piece) letters) in
    let all : joined letters ≡ joined (take piece letters) ++ (text ++ rest) =
    ap joined front ∙ flat_map-append (λ l. l) (take piece letters)
    (text ∷ drop (suc piece) letters) in
    record {
      labels = labels;
      letters = letters;
      parts = parts;
      piece = piece;
      index = omega arith;
      text = text;
      there = there;
      within = within;
      joined = whole;
      passed = ap (take index) all
          ∙ ap (λ (n : ℕ). take n (joined (take piece letters) ++ (text ++ rest))) at
          ∙ take-append-add (joined (take piece letters)) (text ++ rest) byte
          ∙ ap (λ (l : List ℕ). joined (take piece letters) ++ l)
          (take-append-le byte text rest (omega arith));
    }

-- ==== letters

letters-nil : Letters [] []
letters-nil = record {
  spelled = [];
  spells = record { pieces = []; each = tt; joined = refl };
  are_codes = refl;
}

-- the letters of one more code
letters_more : (text piece : List ℕ) (code : Code) (codes : List Code) → SaysCode piece code
    → Letters text codes → Letters (text ++ piece) (codes ++ code_for code ∷ [])
letters_more text piece code codes says l = record {
  spelled = l.spelled ++ code ∷ [];
  spells = record {
    pieces = l.spells.pieces ++ piece ∷ [];
    each = zip_push SaysCode l.spells.pieces l.spelled piece code l.spells.each says;
    joined = ap (λ (t : List ℕ). t ++ piece) l.spells.joined
        ∙ sym (flat_map-append (λ p. p) l.spells.pieces (piece ∷ []) ∙ ap (λ (t : List ℕ).
        joined l.spells.pieces ++ t) (append-nil piece));
  };
  are_codes = ap (λ (cs : List Code). cs ++ code_for code ∷ []) l.are_codes
      ∙ sym (map-append code_for l.spelled (code ∷ []));
}

-- the digits that leading letters say
digits_again : (letters : List ℕ) → AllByRecursion IsLeadingLetter letters
    → (map leading_letter (map (λ l. l - 84) letters) ≡ letters)
    × AllByRecursion IsLeadingDigit (map (λ l. l - 84) letters)
digits_again [] all = (refl, tt)
digits_again (letter ∷ letters) ((low, high), all) =
    let (same, each) = digits_again letters all in
    let is : leading_letter (letter - 84) ≡ letter = omega arith in
    ((λ i. is i ∷ same i), ((omega arith, omega arith), each))

-- leading letters and a last one spell a number
spelled : (letters : List ℕ) (last : ℕ) → AllByRecursion IsLeadingLetter letters → 65 ≤ last
    → last < 85 → (number : ℕ) × IsSpelling (letters ++ last ∷ []) number
spelled letters last all low high =
    let (same, each) = digits_again letters all in
    let digits : List ℕ = map (λ l. l - 84) letters in
    let is : last ≡ last_letter (last - 64) = omega arith in (
      20 * leading_value digits + (last - 64),
      record {
        leading = digits;
        last = last - 64;
        are_leading = each;
        is_last = (omega arith, omega arith);
        letters = λ i. sym same i ++ is i ∷ [];
        value = refl;
      },
    )

-- a last letter ends the number that is begun, or is one
pub begun_last : (letters : List ℕ) (letter : ℕ) (begun : Option ℕ) → IsBegun letters begun
    → 65 ≤ letter → letter < 85 → IsBegun (letters ++ letter ∷ []) None
begun_last letters letter None (codes, said) low high =
    let (number, spelling) = spelled [] letter tt low high in (
      codes ++ code_for (Number number) ∷ [],
      letters_more letters (letter ∷ []) (Number number) codes spelling said,
    )
begun_last letters letter (Some first) (earlier, digit, digits, whole, at, codes, said, all) low
    high =
    let (number, spelling) = spelled (digit ∷ digits) letter all low high in
    let is : letters ++ letter ∷ [] ≡ earlier ++ ((digit ∷ digits) ++ letter ∷ []) =
    ap (λ (l : List ℕ). l ++ letter ∷ []) whole
    ∙ append_assoc earlier (digit ∷ digits) (letter ∷ []) in (
      codes ++ code_for (Number number) ∷ [],
      subst (λ (l : List ℕ). Letters l (codes ++ code_for (Number number) ∷ [])) (sym is)
          (letters_more earlier ((digit ∷ digits) ++ letter ∷ []) (Number number) codes spelling
          said),
    )

-- a leading one goes on with it, or begins one
pub begun_leading : (letters : List ℕ) (letter index : ℕ) (begun : Option ℕ)
    → index ≡ length letters → IsBegun letters begun → IsLeadingLetter letter
    → IsBegun (letters ++ letter ∷ []) (Some (unwrap_or begun index))
begun_leading letters letter index None at (codes, said) leads =
    (letters, letter, [], refl, at, codes, said, (leads, tt))
begun_leading letters letter index (Some first) at
    (earlier, digit, digits, whole, is, codes, said, all) leads = (
      earlier,
      digit,
      digits ++ letter ∷ [],
      ap (λ (l : List ℕ). l ++ letter ∷ []) whole
          ∙ append_assoc earlier (digit ∷ digits) (letter ∷ []),
      is,
      codes,
      said,
      all_push IsLeadingLetter (digit ∷ digits) letter all leads,
    )

-- a `Z` is a code where none is begun
pub begun_tag : (letters : List ℕ) (letter : ℕ) → IsBegun letters None → letter ≡ 90
    → IsBegun (letters ++ letter ∷ []) None
begun_tag letters letter (codes, said) is = (
  codes ++ Tag ∷ [],
  letters_more letters (letter ∷ []) Tag codes (ap (λ (l : ℕ). l ∷ []) is) said,
)

pub begun_nothing : IsBegun [] None
begun_nothing = ([], letters-nil)

-- the number that is begun isn't ended
pub cut_there : (letters front later : List ℕ) (first : ℕ) → letters ≡ front ++ later
    → IsBegun front (Some first) → IsEndOrTag later → IsCutAt letters first
cut_there letters front later first whole (earlier, digit, digits, is, at, codes, said, all)
    stops = (
      earlier,
      digit,
      digits,
      later,
      whole ∙ ap (λ (l : List ℕ). l ++ later) is ∙ append_assoc earlier (digit ∷ digits) later,
      at,
      codes,
      said,
      all,
      stops,
    )

-- letters that say codes break no rule
pub never_cut : (letters : List ℕ) → IsBegun letters None → LettersBreak code.P5 letters → ⊥
never_cut letters (codes, said) broken =
    cc (is_read_again letters codes said, breaks_read code.P5 letters broken)

-- ==== the letter at which they break one

pub place_of_letter : (before : List Sentence) (s : Sentence)
    (tokens labels letters : List (List ℕ)) (rule : CodeRule) (index piece byte base : ℕ)
    → IsCompressed tokens labels letters → base ≡ length labels + 2
    → IsByteOf letters index piece byte → IsFaultIndex rule (joined letters) index
    → IsWholePlace before s tokens (rule_of rule) (base + piece) byte
place_of_letter before s tokens labels letters code.P4 index piece byte base parts is there
    (letter, at, all, not) =
    let rest = drop (suc index) (joined letters) in (
      take index (joined letters),
      letter,
      rest,
      letter_at tokens labels letters index piece byte base letter rest parts is there
          (split_at (joined letters) index letter at),
      all,
      not,
    )
place_of_letter before s tokens labels letters code.P5 index piece byte base parts is there
    (earlier, digit, digits, later, whole, at, codes, said, all, stops) =
    let front : take index (joined letters) ≡ earlier =
    ap (take index) whole ∙ ap (λ (n : ℕ). take n (earlier ++ digit ∷ (digits ++ later))) at
    ∙ take-append_seam earlier (digit ∷ (digits ++ later)) in (
      earlier,
      digit,
      digits,
      later,
      subst (λ (l : List ℕ). IsLetterAt tokens (base + piece) byte l digit (digits ++ later)) front
          (letter_at tokens labels letters index piece byte base digit (digits ++ later) parts is
          there (whole ∙ ap (λ (l : List ℕ). l ++ digit ∷ (digits ++ later)) (sym front))),
      codes,
      said,
      all,
      stops,
    )

-- the index is that of a byte
pub index_within : (rule : CodeRule) (letters : List ℕ) (index : ℕ)
    → IsFaultIndex rule letters index → index < length letters
index_within code.P4 letters index (letter, at, all, not) =
    slice_get_within letters index letter at
index_within code.P5 letters index
    (earlier, digit, digits, later, whole, at, codes, said, all, stops) =
    omega (arith, ap length whole, length-append earlier (digit ∷ (digits ++ later)))

-- ==== labels that are to blame

-- a label that may be used is that of an earlier statement
used_known : (st : List Sentence) (index : ℕ) (label : List ℕ) (id : ℕ)
    → MayBeUsed st index label id → IsUnknownLabel (take index st) label → ⊥
used_known st index label id used unknown =
    unknown (
      used.at,
      used.s,
      get_take st index used.at used.before ∙ used.numbered.there,
      used.named,
    )

pub unknown_blamed : (st : List Sentence) (index : ℕ) (label : List ℕ) (found : Use)
    → IsUseOf st index label found → (b : Bool) → (IsTrue b ↔ (found ≡ uses.Unknown))
    → (IsTrue b ↔ IsUnknownLabel (take index st) label)
unknown_blamed st index label found stands b told = (
  (λ t. subst (IsUseOf st index label) (told.0 t) stands),
  (λ unknown. told.1 (go found stands unknown)),
)
  where
    go : (f : Use) → IsUseOf st index label f → IsUnknownLabel (take index st) label
        → f ≡ uses.Unknown
    go uses.Unknown stands unknown = refl
    go uses.Idle stands unknown = absurd (unknown (stands.at, stands.s, stands.there, stands.named))
    go (uses.Number id) stands unknown = absurd (used_known st index label id.0 stands unknown)

pub idle_blamed : (st : List Sentence) (index : ℕ) (label : List ℕ) (found : Use) → AllMeant st
    → IsUseOf st index label found → (b : Bool) → (IsTrue b ↔ (found ≡ uses.Idle))
    → (IsTrue b ↔ IsIdleLabel (take index st) label)
idle_blamed st index label found all stands b told = (
  (λ t.
      let idle = subst (IsUseOf st index label) (told.0 t) stands in
      (idle.at, idle.s, idle.there, idle.named, idle.kind, idle.idle)),
  (λ idle. told.1 (go found stands idle)),
)
  where
    go : (f : Use) → IsUseOf st index label f → IsIdleLabel (take index st) label → f ≡ uses.Idle
    go uses.Unknown stands (at, h, there, named, kind, idle) = absurd (stands (at, h, there, named))
    go uses.Idle stands idle = refl
    go (uses.Number id) stands (at, h, there, named, kind, idle) =
        absurd (used_not_idle st index label id.0 all stands at h there named kind idle)

-- where P3 is broken, a label is to blame
pub idle_there : (st : List Sentence) (index : ℕ) (tokens : List (List ℕ))
    → BreaksWhole P3 (take index st) tokens → HasBlamed blame.Idle st index tokens
idle_there st index tokens (labels, are, label, has, at, h, there, named, kind, idle) =
    (labels, are, label, has, (at, h, there, named, kind, idle))

-- it is one of these
pub some_blamed : (why : Blame) (st : List Sentence) (index : ℕ) (tokens : List (List ℕ))
    (base : ℕ) (labels : List (List ℕ)) → AreLabelsFrom tokens base labels
    → HasBlamed why st index tokens
    → ((label : List ℕ) → Contains labels label → ¬ (IsBlamed why st index label)) → ⊥
some_blamed why st index tokens base labels from (others, are, label, has, blamed) none =
    none label
    (subst (λ (l : List (List ℕ)). Contains l label)
    (sym (same_labels tokens base labels others from are)) has) blamed

-- ==== the tokens

-- a rule that is the first fault of all the tokens is broken, but for P15
pub broken_first : (before : List Sentence) (s : Sentence) (tokens : List (List ℕ))
    (rule : ProofRule) → (profile : Profile) × IsTextFault profile before s tokens rule
    → ¬ (rule ≡ P15) → BreaksWhole rule before tokens
broken_first before s tokens rule (profile, inl fault) other = fault.broken
broken_first before s tokens rule (profile, inr (whole, is, not)) other = absurd (other is)

-- so it is broken where it is known to be another one
pub breaks_as : (before : List Sentence) (s : Sentence) (tokens : List (List ℕ))
    (rule known : ProofRule) → rule ≡ known → ¬ (known ≡ P15)
    → (profile : Profile) × IsTextFault profile before s tokens rule
    → BreaksWhole known before tokens
breaks_as before s tokens rule known is other fault =
    subst (λ (r : ProofRule). BreaksWhole r before tokens) is
    (broken_first before s tokens rule fault (λ e. other (sym is ∙ e)))

-- it is no other
pub only_whole : (before : List Sentence) (s : Sentence) (tokens : List (List ℕ))
    (rule : ProofRule) → (profile : Profile) × IsTextFault profile before s tokens rule
    → rule ≢ P1 → rule ≢ P2 → rule ≢ P3 → rule ≢ P4 → rule ≢ P5 → rule ≢ P15 → ⊥
only_whole before s tokens rule fault a b c d e f =
    go rule a b c d e (broken_first before s tokens rule fault f)
  where
    go : (r : ProofRule) → r ≢ P1 → r ≢ P2 → r ≢ P3 → r ≢ P4 → r ≢ P5
        → BreaksWhole r before tokens → ⊥
    go P1 a b c d e broken = a refl
    go P2 a b c d e broken = b refl
    go P3 a b c d e broken = c refl
    go P4 a b c d e broken = d refl
    go P5 a b c d e broken = e refl
    go r a b c d e broken = broken

label_within : (tokens : List (List ℕ)) (from : ℕ) (labels : List (List ℕ)) (index token : ℕ)
    (label : List ℕ) → AreLabelsFrom tokens from labels → token ≡ from + index
    → slice_get labels index ≡ Some label → slice_get tokens token ≡ Some label
label_within tokens from labels index token label (inl (normal, none, same)) is there =
    let at : token ≡ index = omega (arith, is, none) in
    ap (slice_get tokens) at ∙ ap (λ (ts : List (List ℕ)). slice_get ts index) (sym same) ∙ there
label_within tokens from labels index token label (inr (letters, parts, one)) is there =
    let behind : slice_get (opening_token ∷ (labels ++ closing_token ∷ letters)) (suc index)
    ≡ Some label =
    get_kept labels (closing_token ∷ letters) index label there in
    let next : token ≡ suc index = omega (arith, is, one) in
    ap (λ (ts : List (List ℕ)). slice_get ts token) parts.whole
    ∙ ap (slice_get (opening_token ∷ (labels ++ closing_token ∷ letters))) next ∙ behind

-- the first label that is so is one of the tokens
first_within : (Is : List ℕ → Type 0) (tokens : List (List ℕ)) (token byte : ℕ)
    → IsFirstLabel Is tokens token → byte ≡ 0
    → (text : List ℕ) × (slice_get tokens token ≡ Some text) × (byte ≤ length text)
first_within Is tokens token byte first start = (
  first.label,
  label_within tokens first.from first.labels first.index token first.label first.are first.stands
      first.there,
  omega (arith, start),
)

piece_within : (tokens labels letters : List (List ℕ)) (token byte piece : ℕ) (text : List ℕ)
    → IsCompressed tokens labels letters → token ≡ length labels + 2 + piece
    → slice_get letters piece ≡ Some text → byte < length text
    → (text : List ℕ) × (slice_get tokens token ≡ Some text) × (byte ≤ length text)
piece_within tokens labels letters token byte piece text c is there within =
    let behind = get_after (opening_token ∷ labels) (closing_token ∷ letters) (suc piece) text there
    in
    let index : token ≡ length (opening_token ∷ labels) + suc piece = omega (arith, is) in (
      text,
      ap (λ (ts : List (List ℕ)). slice_get ts token) c.whole
          ∙ ap (slice_get (opening_token ∷ (labels ++ closing_token ∷ letters))) index ∙ behind,
      omega (arith, within),
    )

letter_within : (tokens : List (List ℕ)) (token byte : ℕ) (earlier : List ℕ) (letter : ℕ)
    (later : List ℕ) → IsLetterAt tokens token byte earlier letter later
    → (text : List ℕ) × (slice_get tokens token ≡ Some text) × (byte ≤ length text)
letter_within tokens token byte earlier letter later at =
    piece_within tokens at.labels at.letters token byte at.piece at.text at.parts at.index at.there
    at.within

-- a move stands within its token
pub move_within : (tokens : List (List ℕ)) (number token byte : ℕ)
    → IsMovePlace tokens number token byte
    → (text : List ℕ) × (slice_get tokens token ≡ Some text) × (byte ≤ length text)
move_within tokens number token byte (inl (normal, is, start, less)) =
    let (text, there) = get_within tokens number less in
    (text, ap (slice_get tokens) is ∙ there, omega arith)
move_within tokens number token byte (inr (labels, letters, c, piece, is, ends)) =
    piece_within tokens labels letters token byte piece ends.text c is ends.there ends.within

-- the place is in one of the tokens
pub in_tokens : (profile : Profile) (before : List Sentence) (s : Sentence)
    (tokens : List (List ℕ)) (rule : ProofRule) (token byte : ℕ)
    → IsTextFault profile before s tokens rule → IsWholePlace before s tokens rule token byte
    → (text : List ℕ) × (slice_get tokens token ≡ Some text) × (byte ≤ length text)
in_tokens profile before s tokens P1 token byte (inl fault) (first, start) = (
  opening_token,
  ap (slice_get tokens) first ∙ fault.broken.0,
  omega arith,
)
in_tokens profile before s tokens P1 token byte (inr (whole, is, not)) place = absurd cc
in_tokens profile before s tokens P2 token byte fault (first, start) =
    first_within (IsUnknownLabel before) tokens token byte first start
in_tokens profile before s tokens P3 token byte fault (first, start) =
    first_within (IsIdleLabel before) tokens token byte first start
in_tokens profile before s tokens P4 token byte fault
    (earlier, letter, later, at, all, not) =
    letter_within tokens token byte earlier letter later at
in_tokens profile before s tokens P5 token byte fault
    (earlier, digit, digits, later, at, codes, said, leads, stops) =
    letter_within tokens token byte earlier digit (digits ++ later) at
in_tokens profile before s tokens P15 token byte fault
    (inl ((labels, letters, c, index, is, (label, there, spare)), start, first)) = (
      label,
      label_within tokens 1 labels index token label (inr (letters, c, refl))
          (omega (arith, is)) there,
      omega arith,
    )
in_tokens profile before s tokens P15 token byte fault
    (inr (none, moves, said, number, first, at)) = move_within tokens number token byte at
in_tokens profile before s tokens rule token byte fault place = absurd place

-- and each token of the known prefix begins one of the tokens
front_length : (t : List ℕ) → length (before_first is_question t) ≤ length t
front_length t = omega (arith, length-take (position_or_len is_question t) t)

piece_begins : (o : Option (List ℕ)) (k : ℕ) (text : List ℕ)
    → slice_get (known_piece o) k ≡ Some text
    → (k ≡ 0) × (whole : List ℕ) × (o ≡ Some whole) × (length text ≤ length whole)
piece_begins None k text there = absurd (none-some text there)
piece_begins (Some token) k text there = go (before_first is_question token) k refl there
  where
    go : (front : List ℕ) (k : ℕ) → before_first is_question token ≡ front
        → slice_get (token_of front) k ≡ Some text
        → (k ≡ 0) × (whole : List ℕ) × (Some token ≡ Some whole) × (length text ≤ length whole)
    go [] k is at = absurd (none-some text at)
    go (b ∷ front) zero is at = (
      refl,
      token,
      refl,
      omega (
        arith,
        ap length is,
        ap length (same_Some (b ∷ front) text at),
        front_length token,
      ),
    )
    go (b ∷ front) (suc k) is at = absurd (none-some text at)

pub prefix_in_tokens : (tokens : List (List ℕ)) (index : ℕ) (text : List ℕ)
    → slice_get (checked_prefix tokens) index ≡ Some text
    → (whole : List ℕ) × (slice_get tokens index ≡ Some whole) × (length text ≤ length whole)
prefix_in_tokens tokens index text = by (begins_list tokens) (ends_list (known_tokens tokens))
  where
    n : ℕ
    n = position_or_len is_unknown tokens

    front : slice_get (known_tokens tokens) index ≡ Some text
        → (whole : List ℕ) × (slice_get tokens index ≡ Some whole)
        × (length text ≤ length whole)
    front there = (text, (get_from_take tokens n index text there).1, omega arith)

    all : slice_get (known_text tokens) index ≡ Some text
        → (whole : List ℕ) × (slice_get tokens index ≡ Some whole)
        × (length text ≤ length whole)
    all there = elim (append_cases (known_tokens tokens)
        (known_piece (slice_get tokens n)) index text there) [
          | inl before ↦ front before
          | inr (k, is, at) ↦
              let (first, whole, one, short) = piece_begins (slice_get tokens n) k text at in
              let less = slice_get_within tokens n whole one in
              let here : index ≡ n =
              omega (arith, is, first, length-take-le n tokens (omega (arith, less))) in
              (whole, ap (slice_get tokens) here ∙ one, short)
        ]

    by : (begun ended : Bool)
        → slice_get (if begun then (if ended then known_text tokens else []) else
        known_tokens tokens) index ≡ Some text
        → (whole : List ℕ) × (slice_get tokens index ≡ Some whole)
        × (length text ≤ length whole)
    by false ended there = front there
    by true false there = absurd (none-some text there)
    by true true there = all there

-- tokens with labels, or with letters, have a list that is closed
pub never_endless : (tokens rest labels : List (List ℕ)) → tokens ≡ opening_token ∷ rest
    → ¬ (Contains rest closing_token) → AreLabels tokens labels → ⊥
never_endless tokens rest labels begun none (inl (normal, is)) =
    normal (ap (λ (ts : List (List ℕ)). slice_get ts 0) begun)
never_endless tokens rest labels begun none (inr (letters, c)) =
    let same : rest ≡ labels ++ closing_token ∷ letters =
    (cons_parts opening_token opening_token rest (labels ++ closing_token ∷ letters)
    (sym begun ∙ c.whole)).1 in
    none (contains_from_at rest closing_token (
      length labels,
      ap (λ (ts : List (List ℕ)). slice_get ts (length labels)) same
          ∙ get_parted labels letters closing_token,
    ))

-- what follows the first token
pub after_first : (tokens : List Token) → BeginsList (token_texts tokens)
    → token_texts tokens
    ≡ opening_token ∷ token_texts (take (length tokens - 1) (drop 1 tokens))
after_first [] begins = absurd (none-some opening_token begins)
after_first (t ∷ tokens) begins =
    rw (take_rest (t ∷ tokens) 1)
    (ap (λ (l : List ℕ). l ∷ token_texts tokens) (same_Some t.text.now opening_token begins))

-- the token of a letter is one of the tokens
pub few_letters : (tokens : List Token) (labels letters : List (List ℕ))
    (base index piece byte : ℕ) → IsCompressed (token_texts tokens) labels letters
    → base ≡ length labels + 2 → IsByteOf letters index piece byte → base + piece < length tokens
few_letters tokens labels letters base index piece byte parts is (text, there, within, at) =
    omega (
      arith,
      slice_get_within letters piece text there,
      ap length parts.whole,
      length-append labels (closing_token ∷ letters),
      length-map tokens (λ (t : Token). t.text.now),
    )

-- ==== the `$p` with a number

module _ (st : List Sentence) (id own : ℕ) (t : Sentence) (number : IsNumbered st id own t) where
  -- it stands where its frame says
  pub own_proof : (index : ℕ) (s : Sentence) → IsProofNumber st id index s
      → (s : Sentence) × IsProofNumber st id own s
  own_proof index s proof =
      let (place, is) = numbered_unique st id index own s t proof.numbered number in
      (s, subst (λ (n : ℕ). IsProofNumber st id n s) place proof)

  -- so what holds there holds of it
  pub of_own : (P : ℕ → Sentence → Type 0) → ((s : Sentence) → P own s) → OfProof st id P
  of_own P there index s proof =
      let (place, is) = numbered_unique st id index own s t proof.numbered number in
      subst (λ (n : ℕ). P n s) (sym place) (there s)

-- a place in the known prefix is in one of the tokens
pub place_back : (tokens : List (List ℕ)) (token byte : ℕ)
    → (text : List ℕ) × (slice_get (checked_prefix tokens) token ≡ Some text)
    × (byte ≤ length text)
    → (text : List ℕ) × (slice_get tokens token ≡ Some text) × (byte ≤ length text)
place_back tokens token byte (text, there, within) =
    let (whole, at, short) = prefix_in_tokens tokens token text there in
    (whole, at, omega arith)
