-- The rule whose code words ask for. Begin with `looked_up`.
use Rattle.std.proofs.Common.{◌≡◌, ◌≢◌, false, ℕ, suc, zero, ◌+◌, ◌<◌, List, [], ◌∷◌, length, take}
use Rattle.std.proofs.Common.{get_or, Contains, arith, Bool, Bor, map, codes, Option}
use Rattle.std.proofs.Common.{Some, None}
use Rattle.std.proofs.Common.{refl, ap, subst, sym, ◌∙◌, true, unwrap_or, ◌-◌, ◌==◌, ◌||◌}
use Rattle.std.proofs.Common.{slice_get, ◌++◌}
use Rattle.std.proofs.lemmas.Slice.Eq.{bytes_eq-Decides}
use Rattle.std.proofs.lemmas.Bool.Decides.{not_from_Decides}
use Rattle.std.proofs.lemmas.Grind.{flat_map-append}
use Rattle.std.proofs.lemmas.List.{take_more, append-nil, length-map}
use Rattle.std.proofs.lemmas.List.Elements.{Contains-append_left, Contains-append_right}
use Rattle.std.specs.List.{AllByRecursion, flat_map, join_by}
use Rattle.std.specs.List.{slice_split}
use Rattle.std.specs.Str.{bytes_eq}
use Rattle.mm_base.proofs.Lists.{all_append, all_push, all_weaker}
use Rattle.std.proofs.lemmas.Bool.{cond-true}
use Rattle.std.proofs.lemmas.List.Folds.{flat_map-map}
use Rattle.std.proofs.lemmas.Option.{slice_get-map, slice_get_past, slice_get_read}
use Rattle.std.specs.Char.{to_ascii_uppercase}
use Rattle.std.specs.Option.{option_copied}
use Rattle.std.specs.Slice.{IsGetResult}
use Rattle.mm_words.proofs.AskedWords.{texts_in}
use Rattle.mm_help.specs.Explained.{advice_on, asked_code, code_in_reply, line_of, rules_in}
use Rattle.mm_help.specs.Explained.{IsAskedFor}
use Rattle.mm_help.specs.Explained.{IsExplanation, IsUnknownCode}
use Rattle.mm_help.specs.declared.rule_text.RuleText.{RuleText}
use Rattle.mm_help.specs.declared.texts.Texts.{Texts}

-- ==== what is found in a list, or in several

-- ---- each of a list

-- One more is so.
pub all_more : {X : Type 0} (P : X → Type 0) (xs : List X) (i : ℕ) (d : X) → i < length xs
    → AllByRecursion P (take i xs) → P (get_or xs i d) → AllByRecursion P (take (i + 1) xs)
all_more P xs i d less h p =
    rw (take_more xs i d less) (all_push P (take i xs) (get_or xs i d) h p)

-- Each of what one more is made of is so.
pub all_made_more : {X Y : Type 0} (P : Y → Type 0) (f : X → List Y) (xs : List X) (i : ℕ) (d : X)
    → i < length xs → AllByRecursion P (flat_map f (take i xs))
    → AllByRecursion P (f (get_or xs i d))
    → AllByRecursion P (flat_map f (take (i + 1) xs))
all_made_more P f xs i d less h p =
    rw (take_more xs i d less, flat_map-append, append-nil)
    (all_append P (flat_map f (take i xs)) (f (get_or xs i d)) h p)

-- ---- one of a list

-- What one of several is made of, all are made of.
pub contains_made : {X Y : Type 0} (f : X → List Y) (xs : List X) (i : ℕ) (d : X) (y : Y)
    → i < length xs → Contains (f (get_or xs i d)) y → Contains (flat_map f xs) y
contains_made f [] i d y less h = absurd (omega arith)
contains_made f (x ∷ xs) zero d y less h = Contains-append_left (f x) (flat_map f xs) y h
contains_made f (x ∷ xs) (suc i) d y less h =
    Contains-append_right (f x) (flat_map f xs) y (contains_made f xs i d y (omega arith) h)

-- Texts that differ in a byte are two.
pub different : (a b : List ℕ) → bytes_eq a b ≡ false → a ≢ b
different a b h = not_from_Decides (bytes_eq a b) (bytes_eq-Decides a b) h

-- ==== the code that words ask for, and the rule that has it

-- ---- the code in a reply

-- what `get` gives is what stands there
pub looked_up : {X : Type 0} (xs : List X) (i : ℕ) (r : Option (Bor X)) → IsGetResult xs i i r
    → option_copied r ≡ slice_get xs i
looked_up xs i None h = sym (slice_get_past xs i h.3)
looked_up xs i (Some x) h = sym (slice_get_read xs (length xs) i x.now refl h.3.0 h.1)

-- the first word is `no` or `limit`, `load`, `ask` or `text`
abbrev pub tells_last : List ℕ → Bool
tells_last first = bytes_eq first (codes "no") || bytes_eq first (codes "limit")

abbrev pub tells_second : List ℕ → Bool
tells_second first =
    bytes_eq first (codes "load") || bytes_eq first (codes "ask") || bytes_eq first (codes "text")

pub last_told : (words : List (Bor (List ℕ))) (first : Bor (List ℕ))
    → slice_get words 0 ≡ Some first → tells_last first.now ≡ true
    → option_copied (slice_get words (length words - 2)) ≡ code_in_reply (texts_in words)
last_told [] first at tells = absurd (cc)
last_told (w ∷ ws) first at tells =
    let same : w ≡ first = cc in
    let here : tells_last w.now ≡ true = subst (λ x. tells_last x.now ≡ true) (sym same) tells in
    let index : length (w ∷ ws) - 2 ≡ length (texts_in ws) - 1 =
    omega (arith, length-map ws (λ (x : Bor (List ℕ)). x.now)) in
    sym (slice_get-map (λ (x : Bor (List ℕ)). x.now) (w ∷ ws) (length (w ∷ ws) - 2))
    ∙ ap (slice_get (texts_in (w ∷ ws))) index
    ∙ sym (cond-true (tells_last w.now) _ _ here)

-- the first word is `incomplete`
abbrev pub tells_incomplete : List ℕ → Bool
tells_incomplete first = bytes_eq first (codes "incomplete")

pub incomplete_told : (words : List (Bor (List ℕ))) (first : Bor (List ℕ))
    → slice_get words 0 ≡ Some first → tells_last first.now ≡ false → tells_second first.now ≡ false
    → tells_incomplete first.now ≡ true → code_in_reply (texts_in words) ≡ Some (codes "A3")
incomplete_told [] first at other more tells = absurd (cc)
incomplete_told (w ∷ ws) first at other more tells =
    let same : w ≡ first = cc in
    rw (same, other, more, tells) refl

pub none_told : (words : List (Bor (List ℕ))) (first : Bor (List ℕ))
    → slice_get words 0 ≡ Some first → tells_last first.now ≡ false → tells_second first.now ≡ false
    → tells_incomplete first.now ≡ false → code_in_reply (texts_in words) ≡ None
none_told [] first at other more most = absurd (cc)
none_told (w ∷ ws) first at other more most =
    let same : w ≡ first = cc in
    rw (same, other, more, most) refl

-- ---- the code that a line asks for

copied_or : (r : Option (Bor (List ℕ))) (line : Bor (List ℕ))
    → (unwrap_or r line).now ≡ unwrap_or (option_copied r) line.now
copied_or None line = refl
copied_or (Some code) line = refl

pub line_asks : (words : List (Bor (List ℕ))) (line : Bor (List ℕ)) (r : Option (Bor (List ℕ)))
    → texts_in words ≡ slice_split (λ b. b == 32) line.now
    → option_copied r ≡ code_in_reply (texts_in words)
    → (unwrap_or r line).now ≡ asked_code line.now
line_asks words line r cut named =
    copied_or r line ∙ ap (λ o. unwrap_or o line.now) (named ∙ ap code_in_reply cut)

-- ---- the rule

-- words that are joined are on one line
joined : (words : List (Bor (List ℕ)))
    → join_by (λ (word : Bor (List ℕ)). word.now) (codes " ") words ≡ line_of (texts_in words)
joined [] = refl
joined (w ∷ ws) =
    ap (λ l. w.now ++ l)
    (sym (flat_map-map (λ y. codes " " ++ y) (λ (x : Bor (List ℕ)). x.now) ws))

-- The capitals are of the code that the line of the words asks for.
pub capitals_asked : (words : List (Bor (List ℕ))) (line code capitals : List ℕ)
    → line ≡ join_by (λ (word : Bor (List ℕ)). word.now) (codes " ") words → code ≡ asked_code line
    → capitals ≡ map to_ascii_uppercase code
    → capitals ≡ map to_ascii_uppercase (asked_code (line_of (texts_in words)))
capitals_asked words line code capitals is_line is_code are =
    are ∙ ap (map to_ascii_uppercase) (is_code ∙ ap asked_code (is_line ∙ joined words))

-- The text of the rule with these capitals, and what is said after it, is the explanation.
pub explains : (texts : Texts) (words : List (Bor (List ℕ))) (line capitals text : List ℕ)
    (rule : RuleText) → (length words == 0) ≡ false
    → line ≡ join_by (λ (word : Bor (List ℕ)). word.now) (codes " ") words
    → capitals ≡ map to_ascii_uppercase (asked_code (line_of (texts_in words)))
    → Contains (rules_in texts.chapters.now) rule → rule.code.now ≡ capitals
    → text ≡ rule.text.now ++ advice_on line
    → IsExplanation texts (texts_in words) text
explains texts [] line capitals text rule some is_line are there same is = absurd (cc)
explains texts (w ∷ ws) line capitals text rule some is_line are there same is = (
  rule,
  there,
  same ∙ are,
  is ∙ ap (λ l. rule.text.now ++ advice_on l) (is_line ∙ joined (w ∷ ws)),
)

-- No rule has these capitals, and so none is asked for.
pub explains_none : (texts : Texts) (words : List (Bor (List ℕ))) (capitals : List ℕ)
    → (length words == 0) ≡ false
    → capitals ≡ map to_ascii_uppercase (asked_code (line_of (texts_in words)))
    → AllByRecursion (λ rule. rule.code.now ≢ capitals) (rules_in texts.chapters.now)
    → IsUnknownCode texts (texts_in words)
explains_none texts [] capitals some are none = absurd (cc)
explains_none texts (w ∷ ws) capitals some are none =
    all_weaker (λ (rule : RuleText). rule.code.now ≢ capitals)
    (λ (rule : RuleText). ¬ IsAskedFor (texts_in (w ∷ ws)) rule)
    (λ rule other same. other (same ∙ sym are))
    (rules_in texts.chapters.now) none
