-- The pieces of a file, one token at a time, and the files that are put in. Items that follow
-- each other stand in one file where no end of a file and no inclusion lies between them.
use Rattle.std.proofs.Common.{◌≡◌, ℕ, zero, suc, List, [], ◌∷◌, ◌++◌, Bool, true, false, cond, refl}
use Rattle.std.proofs.Common.{sym, ap, ◌∙◌, Some, None, append_assoc, append-nil, Option, inl, inr}
use Rattle.std.proofs.Common.{length, map, replicate, subst, codes, slice_index_or, slice_set}
use Rattle.std.proofs.Common.{slice_get}
use Rattle.std.proofs.lemmas.Bool.{cases_Bool}
use Rattle.std.proofs.lemmas.List.{map-append}
use Rattle.mm_text.specs.declared.fault.TextRule.{TextRule}
use Rattle.mm_text.specs.declared.fault.TextRule.TheVariants.{X5, X7}
use Rattle.mm_text.specs.declared.class.Keyword.{Keyword}
use Rattle.mm_text.specs.declared.class.Keyword.TheVariants.{Constants}
use Rattle.mm_text.specs.declared.class.Class.{Class}
use Rattle.mm_text.specs.declared.comments.Position.{Position}
use Rattle.mm_base.specs.Token.{PlainToken, tokens_from}
use Rattle.mm_text.specs.Mirror.Class.{keyword_bytes, ClassIs}
use Rattle.mm_text.specs.Files.{PlainFile}
use Rattle.mm_text.specs.Items.{Item, Plain, Wrong, Inclusion, End, Shown, Clear, Broken, Piece}
use Rattle.mm_text.specs.Items.{Met, Named, Spot, Outside, Naming, Closing, pieces, broken_outside}
use Rattle.mm_text.specs.Items.{holds_dollar, file_number, with_inclusions, put_before}
use Rattle.mm_base.specs.Spelling.{spells}
use Rattle.mm_text.specs.Items.{put_in, without_comments, pieces_of, items}
use Rattle.mm_text.specs.Mirror.Position.{shown_at}
use Rattle.mm_text.specs.Mirror.Next.{IsOfClass}
use Rattle.mm_text.specs.Mirror.Nest.{pieces_with, waiting}
use Rattle.mm_text.proofs.Tokens.WordsAndComments.{no_dollar-spells}
use Rattle.mm_text.proofs.Tokens.StepByStep.{put_before_by, put_in_by}
use Rattle.mm_text.specs.declared.class.Class.TheVariants as class

-- ==== the pieces of a file, one token at a time, and the files that are put in

-- ---- outside inclusions

pub pieces-end : (file : ℕ) → pieces file Outside [] ≡ Met (End file) ∷ []
unfolding pieces
pieces-end file = refl

pub pieces-broken : (file : ℕ) (spot : Spot) (rule : TextRule) (t : PlainToken) (rest : List Shown) → pieces file spot (Broken rule t ∷ rest) ≡ Met (Wrong rule t) ∷ []
unfolding pieces
pieces-broken file Outside rule t rest = refl
pieces-broken file _ rule t rest = refl

pub pieces-inclusion : (file : ℕ) (t : PlainToken) (rest : List Shown) → spells t.text (codes "$[") ≡ true → pieces file Outside (Clear t ∷ rest) ≡ Met (Inclusion t) ∷ pieces file (Naming t) rest
unfolding pieces
pieces-inclusion file t rest e = simp e

pieces-wrong : (file : ℕ) (t : PlainToken) (rest : List Shown) (rule : TextRule) → spells t.text (codes "$[") ≡ false → broken_outside t.text ≡ Some rule → pieces file Outside (Clear t ∷ rest) ≡ Met (Wrong rule t) ∷ []
unfolding pieces
pieces-wrong file t rest rule e b =
    ap (λ c. cond c (Met (Inclusion t) ∷ pieces file (Naming t) rest) (elim (broken_outside t.text) [ Some r ↦ Met (Wrong r t) ∷ [] | None ↦ Met (Plain t) ∷ pieces file Outside rest ])) e
    ∙ ap (λ o. elim o [ Some r ↦ Met (Wrong r t) ∷ [] | None ↦ Met (Plain t) ∷ pieces file Outside rest ]) b

pub pieces-plain : (file : ℕ) (t : PlainToken) (rest : List Shown) → spells t.text (codes "$[") ≡ false → broken_outside t.text ≡ None → pieces file Outside (Clear t ∷ rest) ≡ Met (Plain t) ∷ pieces file Outside rest
unfolding pieces
pieces-plain file t rest e b =
    ap (λ c. cond c (Met (Inclusion t) ∷ pieces file (Naming t) rest) (elim (broken_outside t.text) [ Some r ↦ Met (Wrong r t) ∷ [] | None ↦ Met (Plain t) ∷ pieces file Outside rest ])) e
    ∙ ap (λ o. elim o [ Some r ↦ Met (Wrong r t) ∷ [] | None ↦ Met (Plain t) ∷ pieces file Outside rest ]) b

-- a keyword of statements breaks no rule by itself
keyword_stands : (keyword : Keyword) → broken_outside (keyword_bytes keyword) ≡ None
keyword_stands Constants = refl
keyword_stands _ = refl

-- the first token of a file outside inclusions, by its class
pub pieces-class : (file : ℕ) (t : PlainToken) (rest : List Shown) (kind : Class) → spells t.text (codes "$[") ≡ false → ClassIs t.text kind
    → pieces file Outside (Clear t ∷ rest) ≡ pieces_with t kind (pieces file Outside rest)
pieces-class file t rest (class.Wrong rule) e h = pieces-wrong file t rest rule e h
pieces-class file t rest (class.Keyword keyword) e h = pieces-plain file t rest e (ap broken_outside h ∙ keyword_stands keyword)
pieces-class file t rest class.Word e h = pieces-plain file t rest e (rw (no_dollar-spells t.text 93 h, h) refl)

-- ---- in an inclusion

pub naming-end : (file : ℕ) (begin : PlainToken) → pieces file (Naming begin) [] ≡ Met (Wrong X5 begin) ∷ []
unfolding pieces
naming-end file begin = refl

pub naming-dollar : (file : ℕ) (begin t : PlainToken) (rest : List Shown) → holds_dollar t.text ≡ true → pieces file (Naming begin) (Clear t ∷ rest) ≡ Met (Wrong X5 t) ∷ []
unfolding pieces
naming-dollar file begin t rest e = simp e

pub naming-name : (file : ℕ) (begin t : PlainToken) (rest : List Shown) → holds_dollar t.text ≡ false → pieces file (Naming begin) (Clear t ∷ rest) ≡ pieces file (Closing begin t) rest
unfolding pieces
naming-name file begin t rest e = simp e

pub closing-end : (file : ℕ) (begin name : PlainToken) → pieces file (Closing begin name) [] ≡ Met (Wrong X5 begin) ∷ []
unfolding pieces
closing-end file begin name = refl

pub closing-other : (file : ℕ) (begin name t : PlainToken) (rest : List Shown) → spells t.text (codes "$]") ≡ false → pieces file (Closing begin name) (Clear t ∷ rest) ≡ Met (Wrong X5 t) ∷ []
unfolding pieces
closing-other file begin name t rest e = simp e

pub closing-close : (file : ℕ) (begin name t : PlainToken) (rest : List Shown) → spells t.text (codes "$]") ≡ true → pieces file (Closing begin name) (Clear t ∷ rest) ≡ Named name ∷ pieces file Outside rest
unfolding pieces
closing-close file begin name t rest e = simp e

-- ---- all files

-- an item is a fault
abbrev pub is_wrong : Item → Bool
is_wrong (Wrong rule t) = true
is_wrong _ = false

module _ (files : List PlainFile) (named : List Bool) (next : ℕ → List Piece → List Item) where
  -- nothing is left
  pub spliced_nil : with_inclusions files named next [] ≡ []
  unfolding with_inclusions
  spliced_nil = refl

  -- an item, after which nothing follows if it is a fault
  pub spliced_met : (a : Item) (rest : List Piece)
      → with_inclusions files named next (Met a ∷ rest)
      ≡ cond (is_wrong a) (a ∷ []) (a ∷ with_inclusions files named next rest)
  unfolding with_inclusions
  spliced_met (Plain t) rest = refl
  spliced_met _ rest = refl

  -- the name of a file
  pub spliced_name : (name : PlainToken) (rest : List Piece)
      → with_inclusions files named next (Named name ∷ rest)
      ≡ elim (file_number files name.text) [
        | None ↦ Wrong X7 name ∷ []
        | Some n ↦ cond (slice_index_or named n true)
            (with_inclusions files named next rest) (next n rest)
      ]
  unfolding with_inclusions
  spliced_name name rest = refl

-- at the name of a file, which is put in if it wasn't named yet, lists that are related stay so
pub named_related : (R : List Item → List Item → Type 0) (named : List Bool) (t u : PlainToken)
    (its others : List Item) (next on : ℕ → List Item) → R (Wrong X7 t ∷ []) (Wrong X7 u ∷ [])
    → R its others → ((n : ℕ) → slice_index_or named n true ≡ false → R (next n) (on n))
    → (o p : Option ℕ) → o ≡ p
    → R (elim o [
      | None ↦ Wrong X7 t ∷ []
      | Some n ↦ cond (slice_index_or named n true) its (next n)
    ])
    (elim p [
      | None ↦ Wrong X7 u ∷ []
      | Some n ↦ cond (slice_index_or named n true) others (on n)
    ])
named_related R named t u its others next on wrong inner goes None None i = wrong
named_related R named t u its others next on wrong inner goes (Some n) (Some m) i =
    let same : n ≡ m = cc in
    rw (← same) (elim (cases_Bool (slice_index_or named n true)) [
      | inl e ↦ rw e inner
      | inr e ↦ rw e (goes n e)
    ])
named_related R named t u its others next on wrong inner goes _ _ i = absurd cc

-- an item, after which nothing follows if it is a fault
pub put_in-met : (files : List PlainFile) (left : ℕ) (named : List Bool) (item : Item)
    (rest : List Piece) → put_in files left named (Met item ∷ rest)
    ≡ cond (is_wrong item) (item ∷ []) (item ∷ put_in files left named rest)
unfolding put_in
put_in-met files zero named item rest = spliced_met files named _ item rest
put_in-met files (suc left) named item rest = spliced_met files named _ item rest

pub put_in-plain : (files : List PlainFile) (left : ℕ) (named : List Bool) (t : PlainToken) (rest : List Piece) → put_in files left named (Met (Plain t) ∷ rest) ≡ Plain t ∷ put_in files left named rest
put_in-plain files left named t rest = put_in-met files left named (Plain t) rest

pub put_in-wrong : (files : List PlainFile) (left : ℕ) (named : List Bool) (rule : TextRule) (t : PlainToken) (rest : List Piece) → put_in files left named (Met (Wrong rule t) ∷ rest) ≡ Wrong rule t ∷ []
put_in-wrong files left named rule t rest = put_in-met files left named (Wrong rule t) rest

pub put_in-inclusion : (files : List PlainFile) (left : ℕ) (named : List Bool) (t : PlainToken) (rest : List Piece) → put_in files left named (Met (Inclusion t) ∷ rest) ≡ Inclusion t ∷ put_in files left named rest
put_in-inclusion files left named t rest = put_in-met files left named (Inclusion t) rest

pub put_in-end : (files : List PlainFile) (left : ℕ) (named : List Bool) (file : ℕ) (rest : List Piece) → put_in files left named (Met (End file) ∷ rest) ≡ End file ∷ put_in files left named rest
put_in-end files left named file rest = put_in-met files left named (End file) rest

pub put_in-nil : (files : List PlainFile) (left : ℕ) (named : List Bool) → put_in files left named [] ≡ []
unfolding put_in with_inclusions
put_in-nil files zero named = refl
put_in-nil files (suc left) named = refl

pub put_in-unknown : (files : List PlainFile) (left : ℕ) (named : List Bool) (name : PlainToken) (rest : List Piece) → file_number files name.text ≡ None → put_in files left named (Named name ∷ rest) ≡ Wrong X7 name ∷ []
unfolding put_in with_inclusions
put_in-unknown files zero named name rest e = rw (e, with_inclusions) refl
put_in-unknown files (suc left) named name rest e = rw (e, with_inclusions) refl

pub put_in-again : (files : List PlainFile) (left : ℕ) (named : List Bool) (name : PlainToken) (rest : List Piece) (n : ℕ) → file_number files name.text ≡ Some n → slice_index_or named n true ≡ true
    → put_in files left named (Named name ∷ rest) ≡ put_in files left named rest
unfolding put_in with_inclusions
put_in-again files zero named name rest n e f = rw (e, f, with_inclusions) refl
put_in-again files (suc left) named name rest n e f = rw (e, f, with_inclusions) refl

pub put_in-first : (files : List PlainFile) (left : ℕ) (named : List Bool) (name : PlainToken) (rest : List Piece) (n : ℕ) → file_number files name.text ≡ Some n → slice_index_or named n true ≡ false
    → put_in files (suc left) named (Named name ∷ rest) ≡ put_in files left (slice_set named n true) (put_before files n rest)
unfolding put_in with_inclusions
put_in-first files left named name rest n e f = rw (e, f, with_inclusions) refl

-- a file that begins to wait goes on first of those that wait
pub waiting-push : (positions : List Position) (p : Position) → waiting (positions ++ p ∷ []) ≡ pieces p.file Outside (shown_at p) ++ waiting positions
waiting-push [] p = sym (append-nil (pieces p.file Outside (shown_at p)))
waiting-push (q ∷ positions) p = rw (waiting-push positions p) (append_assoc _ (waiting positions) _)

pub class_tells : (t : PlainToken) (kind : Class) → ClassIs t.text kind → IsOfClass t kind
class_tells t (class.Wrong rule) h = tt
class_tells t _ h = h

-- ==== items that follow each other with no end of a file and no inclusion between them stand in
-- one file, and follow each other there

-- what stands in front of a spot gives the same pieces whatever comes after it
pub record Reaches (file : ℕ) (passed : List Shown) (spot : Spot) : Type 0 where
  pub tokens : List PlainToken
  pub clear : passed ≡ map Clear tokens
  pub prefix : List Piece
  pub before : (more : List Shown) → pieces file Outside (passed ++ more) ≡ prefix ++ pieces file spot more

-- so much of the file with a number is passed, and so much is left, outside of inclusions
pub record IsPosition (files : List PlainFile) (number : ℕ) (passed rest : List Shown) : Type 0 where
  pub file : PlainFile
  pub there : slice_get files number ≡ Some file
  pub whole : without_comments None (tokens_from number 0 file.bytes) ≡ passed ++ rest
  pub reached : Reaches number passed Outside

-- a token that is an item of its own
abbrev pub IsPlainIn : ℕ → PlainToken → Type 0
IsPlainIn number t = (more : List Shown) → pieces number Outside (Clear t ∷ more) ≡ Met (Plain t) ∷ pieces number Outside more

-- where the last token stood, if none but tokens came since
abbrev pub Last : Type 0
Last = Option (ℕ × (List Shown × List Shown))

abbrev pub GoesOn : List PlainFile → Last → PlainToken → (Last → Type 0) → Type 0
GoesOn files None t P =
    (number : ℕ) × (passed : List Shown) × (rest : List Shown) × IsPosition files number passed (Clear t ∷ rest)
    × IsPlainIn number t × P (Some (number, (passed ++ Clear t ∷ [], rest)))
GoesOn files (Some at) t P =
    (rest : List Shown) × (at.1.1 ≡ Clear t ∷ rest) × IsPlainIn at.0 t × P (Some (at.0, (at.1.0 ++ Clear t ∷ [], rest)))

-- each token among the items follows the one before it in their file, unless an inclusion or an end is between
abbrev pub Follow : List PlainFile → Last → List Item → Type 0
Follow files last [] = Unit {0}
Follow files last (Plain t ∷ its) = GoesOn files last t (λ next. Follow files next its)
Follow files last (_ ∷ its) = Follow files None its

-- the same of pieces; before the name of a file an inclusion came
abbrev pub FollowIn : List PlainFile → Last → List Piece → Type 0
FollowIn files last [] = Unit {0}
FollowIn files last (Met (Plain t) ∷ rest) = GoesOn files last t (λ next. FollowIn files next rest)
FollowIn files last (Met _ ∷ rest) = FollowIn files None rest
FollowIn files None (Named name ∷ rest) = FollowIn files None rest
FollowIn files (Some at) (Named name ∷ rest) = ⊥

-- ---- one more of what a file shows

reaches_on : (file : ℕ) (passed : List Shown) (spot next : Spot) (t : PlainToken) (more : List Piece) → Reaches file passed spot → ((rest : List Shown) → pieces file spot (Clear t ∷ rest) ≡ more ++ pieces file next rest) → Reaches file (passed ++ Clear t ∷ []) next
reaches_on file passed spot next t more r step = record {
  tokens = r.tokens ++ t ∷ [];
  clear = ap (λ (l : List Shown). l ++ Clear t ∷ []) r.clear ∙ sym (map-append Clear r.tokens (t ∷ []));
  prefix = r.prefix ++ more;
  before = λ rest. simp append_assoc
      (r.before (Clear t ∷ rest) ∙ ap (λ (l : List Piece). r.prefix ++ l) (step rest));
}

-- where the last token may stand at a spot
abbrev Stands : ℕ → List Shown → List Shown → Spot → Last → Type 0
Stands number passed rest Outside (Some at) = at ≡ (number, (passed, rest))
Stands number passed rest spot None = Unit {0}
Stands number passed rest spot (Some at) = ⊥

module _ (files : List PlainFile) (number : ℕ) (file : PlainFile) (there : slice_get files number ≡ Some file) (tail : List Piece) (after : FollowIn files None tail) where
  -- a token goes on from the one before it, or begins a run
  plain_goes : (passed rest : List Shown) (t : PlainToken) (last : Last) (P : Last → Type 0) → Stands number passed (Clear t ∷ rest) Outside last
      → without_comments None (tokens_from number 0 file.bytes) ≡ passed ++ Clear t ∷ rest → Reaches number passed Outside → IsPlainIn number t
      → P (Some (number, (passed ++ Clear t ∷ [], rest))) → GoesOn files last t P
  plain_goes passed rest t None P s whole r plain p = (number, passed, rest, record { file = file; there = there; whole = whole; reached = r }, plain, p)
  plain_goes passed rest t (Some at) P s whole r plain p = rw s (rest, refl, plain, p)

  pieces_follow : (spot : Spot) (passed rest : List Shown) (last : Last) → without_comments None (tokens_from number 0 file.bytes) ≡ passed ++ rest
      → Reaches number passed spot → Stands number passed rest spot last → FollowIn files last (pieces number spot rest ++ tail)
  pieces_follow Outside passed [] last whole r s = rw (pieces-end number) after
  pieces_follow (Naming t) passed [] last whole r s = rw (naming-end number t) after
  pieces_follow (Closing t name) passed [] last whole r s = rw (closing-end number t name) after
  pieces_follow spot passed (Broken rule t ∷ rest) last whole r s =
      rw (pieces-broken number spot rule t rest) after
  pieces_follow Outside passed (Clear t ∷ rest) last whole r s =
      let seen : List Shown = passed ++ Clear t ∷ [] in
      let further = whole ∙ sym (append_assoc passed (Clear t ∷ []) rest) in
      elim (cases_Bool (spells t.text (codes "$["))) [
        | inl e ↦
            let step = λ (more : List Shown). pieces-inclusion number t more e in
            let on = reaches_on number passed Outside _ t (Met (Inclusion t) ∷ []) r step in
            rw (step rest) (pieces_follow (Naming t) seen rest None further on tt)
        | inr e ↦
            go e (λ plain. pieces_follow Outside seen rest (Some (number, (seen, rest))) further
            (reaches_on number passed Outside Outside t (Met (Plain t) ∷ []) r plain) refl)
            (broken_outside t.text) refl
      ]
    where
      go : spells t.text (codes "$[") ≡ false
          → (IsPlainIn number t → FollowIn files (Some (number, (passed ++ Clear t ∷ [], rest)))
          (pieces number Outside rest ++ tail)) → (o : Option TextRule) → broken_outside t.text ≡ o
          → FollowIn files last (pieces number Outside (Clear t ∷ rest) ++ tail)
      go e later (Some rule) f = rw (pieces-wrong number t rest rule e f) after
      go e later None f =
          let plain : IsPlainIn number t = λ more. pieces-plain number t more e f in
          let Follows : Last → Type 0 =
          λ next. FollowIn files next (pieces number Outside rest ++ tail) in
          rw (plain rest) (plain_goes passed rest t last Follows s whole r plain (later plain))
  pieces_follow (Naming begin) passed (Clear t ∷ rest) None whole r s =
      let further = whole ∙ sym (append_assoc passed (Clear t ∷ []) rest) in
      elim (cases_Bool (holds_dollar t.text)) [
        | inl e ↦ rw (naming-dollar number begin t rest e) after
        | inr e ↦
            let step = λ (more : List Shown). naming-name number begin t more e in
            let on = reaches_on number passed (Naming begin) (Closing begin t) t [] r step in
            rw (step rest) (pieces_follow (Closing begin t) _ rest None further on tt)
      ]
  pieces_follow (Closing begin name) passed (Clear t ∷ rest) None whole r s =
      let further = whole ∙ sym (append_assoc passed (Clear t ∷ []) rest) in
      elim (cases_Bool (spells t.text (codes "$]"))) [
        | inl e ↦
            let step = λ (more : List Shown). closing-close number begin name t more e in
            let on = reaches_on number passed _ Outside t (Named name ∷ []) r step in
            rw (step rest) (pieces_follow Outside _ rest None further on tt)
        | inr e ↦ rw (closing-other number begin name t rest e) after
      ]
  pieces_follow spot passed rest (Some at) whole r s = absurd s

-- the pieces of a file from its beginning, and others after them
file_follows : (files : List PlainFile) (number : ℕ) (file : PlainFile) (tail : List Piece) → slice_get files number ≡ Some file → FollowIn files None tail → FollowIn files None (pieces_of number file ++ tail)
file_follows files number file tail there after =
    pieces_follow files number file there tail after Outside [] (without_comments None (tokens_from number 0 file.bytes)) None refl (record { tokens = []; clear = refl; prefix = []; before = λ more. refl }) tt

-- ---- the items

put_in_follows : (files : List PlainFile) (left : ℕ) (named : List Bool) (ps : List Piece) → FollowIn files None ps → Follow files None (put_in files left named ps)
put_in_follows files left named ps h =
    put_in_by files (λ _ _ ps its. (last : Last) → FollowIn files last ps → Follow files last its)
    (λ left named last h. tt) (λ left named p ps rule t last h. tt)
    (λ left named t ps its inner last h.
    on_from last t (λ l. FollowIn files l ps) (λ l. Follow files l its) inner h)
    (λ left named t ps its inner last h. inner None h)
    (λ left named n ps its inner last h. inner None h)
    (λ left named name ps its inner last h. behind last name ps its (inner None) h)
    (λ named name n ps e last h. tt)
    (λ left named name n ps its e inner last h. behind last name ps its
    (λ k. inner None (put_before_by (FollowIn files None) files n ps k
    (λ file there. file_follows files n file ps there k))) h) left named ps None h
  where
    on_from : (last : Last) (t : PlainToken) (P Q : Last → Type 0) → ((l : Last) → P l → Q l) → GoesOn files last t P → GoesOn files last t Q
    on_from None t P Q step (number, passed, rest, position, plain, p) = (number, passed, rest, position, plain, step _ p)
    on_from (Some at) t P Q step (rest, e, plain, p) = (rest, e, plain, step _ p)

    behind : (last : Last) (name : PlainToken) (ps : List Piece) (its : List Item)
        → (FollowIn files None ps → Follow files None its) → FollowIn files last (Named name ∷ ps)
        → Follow files last its
    behind None name ps its inner h = inner h
    behind (Some at) name ps its inner h = absurd h

-- the items of files follow each other so
items_follow : (files : List PlainFile) → Follow files None (items files)
items_follow [] = tt
items_follow (top ∷ others) =
    put_in_follows (top ∷ others) (length others) (true ∷ replicate (length others) false) (pieces_of 0 top)
    (subst (FollowIn (top ∷ others) None) (append-nil (pieces_of 0 top)) (file_follows (top ∷ others) 0 top [] refl tt))

-- ---- a run of tokens among the items

-- what is known of the last token
abbrev IsLast : List PlainFile → Last → Type 0
IsLast files None = Unit {0}
IsLast files (Some at) = IsPosition files at.0 at.1.0 at.1.1

-- where the last token stood, one token goes on from there
from_last : (files : List PlainFile) (last : Last) (t : PlainToken) (P : Last → Type 0)
    → IsLast files last → GoesOn files last t P → GoesOn files None t P
from_last files None t P l h = h
from_last files (Some at) t P l (rest, e, plain, p) =
    (at.0, at.1.0, rest, subst (IsPosition files at.0 at.1.0) e l, plain, p)

follow_to : (files : List PlainFile) (its more : List Item) (last : Last) → IsLast files last → Follow files last (its ++ more) → (next : Last) × IsLast files next × Follow files next more
follow_to files [] more last l h = (last, l, h)
follow_to files (Plain t ∷ its) more last l h =
    let (number, passed, rest, p, plain, later) = from_last files last t
    (λ next. Follow files next (its ++ more)) l h in
    follow_to files its more (Some (number, (passed ++ Clear t ∷ [], rest))) (record {
      file = p.file;
      there = p.there;
      whole = p.whole ∙ sym (append_assoc passed (Clear t ∷ []) rest);
      reached = reaches_on number passed Outside Outside t (Met (Plain t) ∷ []) p.reached plain;
    }) later
follow_to files (_ ∷ its) more last l h = follow_to files its more None tt h

-- all of these are items of their own
abbrev pub AllPlainIn : ℕ → List PlainToken → Type 0
AllPlainIn number [] = Unit {0}
AllPlainIn number (t ∷ tokens) = IsPlainIn number t × AllPlainIn number tokens

run_on_from : (files : List PlainFile) (number : ℕ) (passed rest : List Shown) (tokens : List PlainToken) (more : List Item) → Follow files (Some (number, (passed, rest))) (map Plain tokens ++ more)
    → (after : List Shown) × (rest ≡ map Clear tokens ++ after) × AllPlainIn number tokens
run_on_from files number passed rest [] more h = (rest, refl, tt)
run_on_from files number passed rest (t ∷ tokens) more (others, e, plain, later) =
    let (after, same, all) = run_on_from files number (passed ++ Clear t ∷ []) others tokens more later in
    (after, e ∙ ap (λ (l : List Shown). Clear t ∷ l) same, (plain, all))

-- a run of tokens among the items stands in one file, and there too nothing is between
pub record StandsInFile (files : List PlainFile) (t : PlainToken) (tokens : List PlainToken) : Type 0 where
  pub number : ℕ
  pub passed : List Shown
  pub rest : List Shown
  pub position : IsPosition files number passed (Clear t ∷ (map Clear tokens ++ rest))
  pub plain : AllPlainIn number (t ∷ tokens)

pub run_stands : (files : List PlainFile) (before after : List Item) (t : PlainToken) (tokens : List PlainToken) → items files ≡ before ++ (map Plain (t ∷ tokens) ++ after) → StandsInFile files t tokens
run_stands files before after t tokens e =
    let (last, known, follow) = follow_to files before (map Plain (t ∷ tokens) ++ after) None tt (subst (Follow files None) e (items_follow files)) in
    let (number, passed, rest, position, plain, later) = from_last files last t
    (λ next. Follow files next (map Plain tokens ++ after)) known follow in
    let (others, same, all) = run_on_from files number (passed ++ Clear t ∷ []) rest tokens after later in
    record { number = number; passed = passed; rest = others; position = subst (λ (l : List Shown). IsPosition files number passed (Clear t ∷ l)) same position; plain = (plain, all) }
