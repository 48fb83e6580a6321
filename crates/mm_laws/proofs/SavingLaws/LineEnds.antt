-- A text with a carriage return before each line feed: it has the same tokens, and begins and ends
-- with white space if it did.
use Rattle.std.proofs.Common.{◌≡◌, ℕ, zero, suc, ◌==◌, List, [], ◌∷◌, ◌++◌, Bool, true, false, cond}
use Rattle.std.proofs.Common.{replicate, flat_map, inl, inr, refl, sym, ap, ◌∙◌, append_assoc}
use Rattle.std.specs.List.{onto_first}
use Rattle.std.proofs.lemmas.Bool.{cases_Bool}
use Rattle.std.proofs.lemmas.Grind.{flat_map-append}
use borrow.Author.Tests.{eqb-true}
use Rattle.mm_base.specs.Token.{is_space}
use Rattle.mm_code.specs.Words.{tokens_in}
use Rattle.mm_code.proofs.ReadBack.{tokens_in-space, tokens_in-end, tokens_in-on}
use Rattle.mm_code.proofs.SmallEnds.{EndsWhite}
use Rattle.mm_render.specs.Saved.{spaces, long_end, has_long_ends, with_ends_of}

-- ==== byte by byte

abbrev pub lengthened : List ℕ → List ℕ
lengthened text = flat_map long_end text

-- a line feed
at_feed : (b : ℕ) (text : List ℕ) → (b == 10) ≡ true
    → lengthened (b ∷ text) ≡ 13 ∷ b ∷ lengthened text
at_feed b text feed = ap (λ (c : Bool). cond c (13 ∷ b ∷ []) (b ∷ []) ++ lengthened text) feed

feed_is_white : (b : ℕ) → (b == 10) ≡ true → is_space b ≡ true
feed_is_white b feed = ap is_space (eqb-true b 10 feed)

-- another byte
at_other : (b : ℕ) (text : List ℕ) → (b == 10) ≡ false → lengthened (b ∷ text) ≡ b ∷ lengthened text
at_other b text other = ap (λ (c : Bool). cond c (13 ∷ b ∷ []) (b ∷ []) ++ lengthened text) other

-- ==== its tokens

behind_byte : (b : ℕ) (text : List ℕ) → tokens_in (lengthened text) ≡ tokens_in text
    → tokens_in (b ∷ lengthened text) ≡ tokens_in (b ∷ text)
behind_byte b [] same = refl
behind_byte b (next ∷ text) same = elim (cases_Bool (is_space b)) [
  | inl white ↦
      tokens_in-space b (lengthened (next ∷ text)) white ∙ same
      ∙ sym (tokens_in-space b (next ∷ text) white)
  | inr dark ↦ elim (cases_Bool (next == 10)) [
    | inl feed ↦
        let is = at_feed next text feed in
        ap (λ (l : List ℕ). tokens_in (b ∷ l)) is
        ∙ tokens_in-end b 13 (next ∷ lengthened text) dark refl
        ∙ ap (λ (ts : List (List ℕ)). (b ∷ []) ∷ ts) (ap tokens_in (sym is) ∙ same)
        ∙ sym (tokens_in-end b next text dark (feed_is_white next feed))
    | inr other ↦
        let is = at_other next text other in
        elim (cases_Bool (is_space next)) [
          | inl stop ↦
              ap (λ (l : List ℕ). tokens_in (b ∷ l)) is
              ∙ tokens_in-end b next (lengthened text) dark stop
              ∙ ap (λ (ts : List (List ℕ)). (b ∷ []) ∷ ts) (ap tokens_in (sym is) ∙ same)
              ∙ sym (tokens_in-end b next text dark stop)
          | inr ink ↦
              ap (λ (l : List ℕ). tokens_in (b ∷ l)) is
              ∙ tokens_in-on b next (lengthened text) dark ink
              ∙ ap (onto_first b) (ap tokens_in (sym is) ∙ same)
              ∙ sym (tokens_in-on b next text dark ink)
        ]
  ]
]

pub lengthened_tokens : (text : List ℕ) → tokens_in (lengthened text) ≡ tokens_in text
lengthened_tokens [] = refl
lengthened_tokens (b ∷ text) = elim (cases_Bool (b == 10)) [
  | inl feed ↦
      let white = feed_is_white b feed in
      ap tokens_in (at_feed b text feed) ∙ tokens_in-space 13 (b ∷ lengthened text) refl
      ∙ tokens_in-space b (lengthened text) white ∙ lengthened_tokens text
      ∙ sym (tokens_in-space b text white)
  | inr other ↦
      ap tokens_in (at_other b text other) ∙ behind_byte b text (lengthened_tokens text)
]

-- ==== where it begins and ends

-- bytes that begin with white space
pub record BeginsWhite (text : List ℕ) : Type 0 where
  pub first : ℕ
  pub more : List ℕ
  pub is : text ≡ first ∷ more
  pub white : is_space first ≡ true

pub lengthened_begins : (text : List ℕ) → BeginsWhite text → BeginsWhite (lengthened text)
lengthened_begins text b = elim (cases_Bool (b.first == 10)) [
  | inl feed ↦ record {
    first = 13;
    more = b.first ∷ lengthened b.more;
    is = ap lengthened b.is ∙ at_feed b.first b.more feed;
    white = refl;
  }
  | inr other ↦ record {
    first = b.first;
    more = lengthened b.more;
    is = ap lengthened b.is ∙ at_other b.first b.more other;
    white = b.white;
  }
]

pub lengthened_ends : (text : List ℕ) → EndsWhite text → EndsWhite (lengthened text)
lengthened_ends text e =
    let split : lengthened text ≡ lengthened e.inner ++ lengthened (e.last ∷ []) =
    ap lengthened e.is ∙ flat_map-append long_end e.inner (e.last ∷ []) in
    elim (cases_Bool (e.last == 10)) [
      | inl feed ↦ record {
        inner = lengthened e.inner ++ 13 ∷ [];
        last = e.last;
        is = split ∙ ap (λ (l : List ℕ). lengthened e.inner ++ l) (at_feed e.last [] feed)
            ∙ sym (append_assoc (lengthened e.inner) (13 ∷ []) (e.last ∷ []));
        white = e.white;
      }
      | inr other ↦ record {
        inner = lengthened e.inner;
        last = e.last;
        is = split ∙ ap (λ (l : List ℕ). lengthened e.inner ++ l) (at_other e.last [] other);
        white = e.white;
      }
    ]

-- ==== the line ends of old bytes

-- a text behind a line feed has them
pub same_ends : (old text : List ℕ)
    → has_long_ends (with_ends_of old (10 ∷ text)) ≡ has_long_ends old
same_ends old text =
    let So : Bool → Bool = λ c. has_long_ends (cond c (lengthened (10 ∷ text)) (10 ∷ text)) in
    elim (cases_Bool (has_long_ends old)) [
      | inl long ↦ ap So long ∙ sym long
      | inr short ↦ ap So short ∙ sym short
    ]

-- the spaces of an indent stay
pub lengthened_spaces : (count : ℕ) (more : List ℕ)
    → spaces (lengthened (replicate count 32 ++ 40 ∷ more)) ≡ count
lengthened_spaces zero more = refl
lengthened_spaces (suc count) more = ap suc (lengthened_spaces count more)
