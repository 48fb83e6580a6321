-- Where a `?` stands: the tokens of the known prefix, which stand before it, and proofs that hold
-- none.
use Rattle.std.proofs.Common.{◌≡◌, ℕ, zero, suc, ◌+◌, ◌<◌, ◌≤◌, List, [], ◌∷◌, ◌++◌, length, map}
use Rattle.std.proofs.Common.{take, get_or, slice_get, Some, Bool, true, false, if◌then◌else◌, ◌==◌}
use Rattle.std.proofs.Common.{append-nil, refl, sym, ap, ◌∙◌, arith, Contains, inl, inr, subst}
use Rattle.std.proofs.Common.{⊎_elim, sum_by, flat_map}
use Rattle.std.specs.List.{list_any, position_or_len, before_first}
use Rattle.std.proofs.lemmas.Option.{slice_get_past}
use Rattle.std.proofs.lemmas.List.{length-take, length-map, get_or-map, take-map, map-append}
use Rattle.std.proofs.lemmas.List.Folds.{list_any_more, list_all_at, Any-from_list_any}
use Rattle.std.proofs.lemmas.List.Sums.{sum_by-append, sum_by-take-le}
use Rattle.mm_base.specs.declared.token.Token.{Token}
use Rattle.mm_step.specs.Plain.{token_texts}
use Rattle.mm_proof.specs.Tokens.{is_question, is_unknown, opening_token, closing_token}
use Rattle.mm_proof.specs.Tokens.{IsIncomplete, IsCompressed, AreLabels, SayMoves}
use Rattle.mm_proof.specs.CheckedPrefix.{token_of, known_piece, known_tokens, known_text}
use Rattle.mm_proof.specs.CheckedPrefix.{checked_prefix}
use Rattle.mm_proof.specs.CheckedPrefix.{begins_list, ends_list}
use Rattle.mm_proof.proofs.ProofTokens.ProofLabels.{text_at, prefix_all}
use Rattle.mm_base.proofs.Lists.{any_found}
use Rattle.std.proofs.lemmas.List.Elements.{Contains-append_left, Contains-append_right}
use Rattle.std.proofs.lemmas.List.Elements.{Contains-append_cases}
use Rattle.std.proofs.lemmas.Bool.{eqb-true}
use Rattle.mm_base.specs.Token.{is_label_byte}
use Rattle.mm_base.proofs.LabelBytes.{label_bytes}
use Rattle.mm_frame.specs.Sentence.{Sentence}
use Rattle.mm_frame.specs.Form.{AllFormed}
use Rattle.mm_frame.proofs.Rules.ObeyedRules.{allformed_prefix}
use Rattle.mm_frame.proofs.BookLists.ReadLabels.{label_named}
use Rattle.mm_step.specs.declared.fault.ProofRule.TheVariants.{P2, P4}
use Rattle.mm_step.specs.Moves.{Move}
use Rattle.mm_proof.specs.Proof.{IsWhole}
use Rattle.mm_step.specs.Steps.{IsProofNumber}
use Rattle.mm_proof.specs.Parsed.{OfProof}
use Rattle.mm_proof.specs.Verified.{TokensProve}
use Rattle.mm_proof.proofs.Members.{contains_cases}
use Rattle.mm_proof.proofs.Members.{only_one}

-- ==== the tokens of the known prefix: what of the whole's tokens holds of them

-- ---- they have as many bytes at most

token_room : (text : List ℕ) → sum_by length (token_of text) ≤ length text
token_room [] = omega arith
token_room (b ∷ text) = omega (arith, sum_by-append length ((b ∷ text) ∷ []) [])

cut_room : (tokens : List (List ℕ)) (n : ℕ) → sum_by length (take n tokens ++ known_piece (slice_get tokens n)) ≤ sum_by length tokens
cut_room [] zero = omega arith
cut_room [] (suc n) = omega arith
cut_room (t ∷ tokens) zero =
    let most = token_room (before_first is_question t) in
    let taken = length-take (position_or_len is_question t) t in
    omega (arith, most, taken, sum_by-append length (t ∷ []) tokens)
cut_room (t ∷ tokens) (suc n) =
    omega (arith, cut_room tokens n, sum_by-append length (t ∷ []) tokens, sum_by-append length (t ∷ []) (take n tokens ++ known_piece (slice_get tokens n)))

pub prefix_room : (tokens : List (List ℕ)) → sum_by length (checked_prefix tokens) ≤ sum_by length tokens
prefix_room tokens = by (begins_list tokens) (ends_list (known_tokens tokens))
  where
    by : (begun ended : Bool) → sum_by length (if begun then (if ended then known_text tokens else []) else known_tokens tokens) ≤ sum_by length tokens
    by true true = cut_room tokens (position_or_len is_unknown tokens)
    by true false = omega arith
    by false ended = sum_by-take-le length tokens (position_or_len is_unknown tokens)

-- ---- one item more, where none passes a test

pub any_more : {T X : Type 0} (f : T → X) (p : X → Bool) (items : List T) (i : ℕ) (d : T) → i < length items → list_any p (take i (map f items)) ≡ false → p (f (get_or items i d)) ≡ false
    → list_any p (take (i + 1) (map f items)) ≡ false
any_more f p items i d less none not_so =
    list_any_more p (map f items) i (f d) (omega (arith, length-map items f))
    ∙ rw (none, get_or-map f items i d (f d) less, not_so) refl

-- ---- tokens as the code holds them

pub texts_take : (tokens : List Token) (n : ℕ) → token_texts (take n tokens) ≡ take n (token_texts tokens)
texts_take tokens n = sym (take-map (λ t. t.text.now) n tokens)

token_none : (text : List ℕ) → true ≡ (length text == 0) → token_of text ≡ []
token_none [] e = refl
token_none (b ∷ text) e = absurd (grind arith)

token_some : (text : List ℕ) → false ≡ (length text == 0) → token_of text ≡ text ∷ []
token_some [] e = absurd cc
token_some (b ∷ text) e = refl

-- the token at an index, and what stands before its `?`
at_index : (tokens : List Token) (index n : ℕ) (t : Token) → index < length tokens → t ≡ get_or tokens index t → n ≡ position_or_len is_question t.text.now
    → known_piece (slice_get (token_texts tokens) index) ≡ token_of (take n t.text.now)
at_index tokens index n t less is first =
    ap known_piece (text_at (λ u. u.text.now) tokens index t less ∙ ap (λ (u : Token). Some u.text.now) (sym is))
    ∙ ap (λ k. token_of (take k t.text.now)) (sym first)

pub piece_past : (tokens out : List Token) (index : ℕ) → length tokens ≤ index → out ≡ take index tokens
    → token_texts out ≡ take index (token_texts tokens) ++ known_piece (slice_get (token_texts tokens) index)
piece_past tokens out index past is =
    ap token_texts is ∙ texts_take tokens index ∙ sym (append-nil (take index (token_texts tokens)))
    ∙ ap (λ o. take index (token_texts tokens) ++ known_piece o) (sym (slice_get_past _ index
    (omega (arith, length-map tokens (λ t. t.text.now)))))

pub piece_none : (tokens out : List Token) (index n : ℕ) (t : Token) → index < length tokens → t ≡ get_or tokens index t → n ≡ position_or_len is_question t.text.now
    → true ≡ (length (take n t.text.now) == 0) → out ≡ take index tokens
    → token_texts out ≡ take index (token_texts tokens) ++ known_piece (slice_get (token_texts tokens) index)
piece_none tokens out index n t less there first empty is =
    ap token_texts is ∙ texts_take tokens index ∙ sym (append-nil (take index (token_texts tokens)))
    ∙ ap (λ l. take index (token_texts tokens) ++ l) (sym (at_index tokens index n t less there first ∙ token_none (take n t.text.now) empty))

pub piece_some : (tokens held out : List Token) (index n : ℕ) (t put : Token) → out ≡ held ++ put ∷ [] → held ≡ take index tokens → index < length tokens → t ≡ get_or tokens index t
    → n ≡ position_or_len is_question t.text.now → false ≡ (length (take n t.text.now) == 0) → put.text.now ≡ take n t.text.now
    → token_texts out ≡ take index (token_texts tokens) ++ known_piece (slice_get (token_texts tokens) index)
piece_some tokens held out index n t put is prefix less there first filled text =
    rw (
      is,
      map-append (λ t. t.text.now) held (put ∷ []),
      prefix,
      texts_take tokens index,
      text,
      at_index tokens index n t less there first,
      token_some (take n t.text.now) filled,
    )

-- ---- the tokens before the first that is unknown

pub known_cut : (tokens : List Token) (n : ℕ) → n ≡ position_or_len is_unknown (token_texts tokens) → token_texts (take n tokens) ≡ known_tokens (token_texts tokens)
known_cut tokens n first = texts_take tokens n ∙ ap (λ k. take k (token_texts tokens)) first

pub ruleset question_steps = (any_found, any_more, prefix_all)

-- ==== a proof that breaks no rule over the whole of it holds no `?`: no label and no letter has
-- such a byte

-- ---- labels

-- each label is that of an earlier statement
label_known : (before : List Sentence) (tokens labels : List (List ℕ)) (label : List ℕ) → AllFormed before → IsWhole before tokens → AreLabels tokens labels
    → Contains labels label → ¬ (Contains label 63)
label_known before tokens labels label formed whole are has unknown =
    whole P2 (
      labels,
      are,
      label,
      has,
      λ found.
          let byte = list_all_at is_label_byte label unknown.0 63 unknown.1
          (ap is_label_byte unknown.2) in
          absurd (cc (label_bytes label (label_named before label formed found), byte)),
    )

-- ---- letters and parentheses

one_known : (b : ℕ) (token : List ℕ) → b ∷ [] ≡ token → ¬ (b ≡ 63) → ¬ (Contains token 63)
one_known b token same other unknown =
    other (only_one b 63 (subst (λ t. Contains t 63) (sym same) unknown))

-- a byte of a piece is one of what the pieces are joined to
among_joined : (pieces : List (List ℕ)) (piece : List ℕ) (b : ℕ) → Contains pieces piece → Contains piece b → Contains (flat_map (λ p. p) pieces) b
among_joined [] piece b has byte = absurd (let w : has.0 < 0 = has.1 in omega arith)
among_joined (p ∷ pieces) piece b has byte = ⊎_elim
    (λ same. Contains-append_left p (flat_map (λ q. q) pieces) b (rw same byte))
    (λ later. Contains-append_right p (flat_map (λ q. q) pieces) b (among_joined pieces piece b later byte))
    (contains_cases p pieces piece has)

-- ---- the tokens

compressed_known : (before : List Sentence) (tokens labels letters : List (List ℕ)) (token : List ℕ) → AllFormed before → IsWhole before tokens → IsCompressed tokens labels letters
    → Contains tokens token → ¬ (Contains token 63)
compressed_known before tokens labels letters token formed whole parts has =
    elim (contains_cases opening_token (labels ++ closing_token ∷ letters) token (subst (λ ts. Contains ts token) parts.whole has)) [
      | inl same ↦ one_known 40 token same (λ e. cc)
      | inr rest ↦ elim (Contains-append_cases labels (closing_token ∷ letters) token rest) [
        | inl among ↦ label_known before tokens labels token formed whole (inr (letters, parts)) among
        | inr behind ↦ elim (contains_cases closing_token letters token behind) [
          | inl same ↦ one_known 41 token same (λ e. cc)
          | inr among ↦ λ unknown.
              let byte = among_joined letters token 63 among unknown in
              whole P4 (flat_map (λ p. p) letters, (labels, letters, parts, refl), (byte.0, 63, byte.1, byte.2, λ letter. absurd (omega (arith, letter.0))))
        ]
      ]
    ]

-- where a step is unknown, there is a token that holds a `?`
unknown_token : (tokens : List (List ℕ)) → IsIncomplete tokens
    → (token : List ℕ) × Contains tokens token × Contains token 63
unknown_token tokens unknown =
    let token = Any-from_list_any is_unknown tokens unknown in
    let byte = Any-from_list_any is_question token.1 token.4 in
    let is : byte.1 ≡ 63 = eqb-true byte.1 63 byte.4 in
    (token.1, (token.0, token.2, token.3), (byte.0, byte.2, subst (λ b. get_or token.1 byte.0 b ≡ b) is byte.3))

-- tokens that break no rule over the whole proof, and say moves, hold no `?`
pub said_known : (before : List Sentence) (s : Sentence) (tokens : List (List ℕ)) (moves : List (Move (List ℕ))) → AllFormed before → IsWhole before tokens
    → SayMoves before s tokens moves → ¬ (IsIncomplete tokens)
said_known before s tokens moves formed whole said unknown = by_form said (unknown_token tokens unknown)
  where
    by_form : SayMoves before s tokens moves → ¬ ((token : List ℕ) × Contains tokens token × Contains token 63)
    by_form (inl normal) (token, among, byte) = label_known before tokens tokens token formed whole (inl (normal.0, refl)) among byte
    by_form (inr compressed) (token, among, byte) =
        compressed_known before tokens compressed.listed compressed.letters token formed whole compressed.parts among byte

-- what is proved has no unknown step
pub proved_known : (limit : ℕ) (st : List Sentence) (id : ℕ) (tokens : List (List ℕ)) (used : List ℕ) → AllFormed st → (index : ℕ) × (s : Sentence) × IsProofNumber st id index s
    → OfProof st id (λ index s. TokensProve limit (take index st) s tokens used) → ¬ (IsIncomplete tokens)
proved_known limit st id tokens used formed number proved =
    let p = (proved number.0 number.1 number.2).proof in
    said_known (take number.0 st) number.1 tokens p.moves (allformed_prefix st number.0 formed) p.whole p.said
