-- The plain reader, one token at a time: keywords and labels, what each makes of an unfinished
-- statement, and what a part of the reader answers at the next item.
use Rattle.std.proofs.Common.{◌≡◌, ◌≢◌, ℕ, ◌≤◌, ◌==◌, length, List, [], ◌∷◌, Bool, true, false}
use Rattle.std.proofs.Common.{refl, sym, ap, ◌∙◌, arith, ◌⊎◌, inl, inr, ◌+◌, ◌++◌, cond}
use Rattle.std.proofs.Common.{if◌then◌else◌, Option, Some, None, codes, subst, Result, Ok, Err}
use Rattle.std.proofs.Common.{IsErrAnd, map, eqb-true, option_map}
use Rattle.std.specs.List.{list_any, list_all}
use Rattle.std.specs.Cmp.Lexicographic.{bytes_decides}
use Rattle.std.proofs.lemmas.Bool.{or_parts, and_parts, false≢true, both_ways, false_from_ne_true}
use Rattle.std.proofs.lemmas.Bool.{cond_both, cond-true, cond-false}
use Rattle.std.proofs.lemmas.List.{get_or_default, map_push}
use Rattle.std.proofs.lemmas.List.Folds.{Any-from_list_any, list_any_at}
use Rattle.mm_base.specs.Spelling.{spells}
use Rattle.mm_text.specs.Items.{Item, Plain, Wrong, Inclusion, End}
use Rattle.mm_base.specs.Token.{PlainToken, IsLabel, is_label_byte, HoldsNoDollar, is_label}
use Rattle.mm_base.specs.Token.{plain_token}
use Rattle.mm_base.specs.Statement.{keywords, IsKeyword, PlainStatement, HasBody, is_provable}
use Rattle.mm_text.specs.Mirror.Reader.{is_keyword, Part, Between, Labelled, InBody}
use Rattle.mm_base.specs.Begun.{bare_statement}
use Rattle.mm_text.specs.Mirror.Reader.{InProof, Step, More, Whole, Opened, Closed, Faulty}
use Rattle.mm_text.specs.Mirror.Reader.{has_count, is_full, step, PlainScope, scope_after_statement}
use Rattle.mm_text.specs.Mirror.Reader.{scope_after_opening, scope_after_closing, has_none}
use Rattle.mm_text.specs.Mirror.Reader.{fault_in, unfinished_fault, end_fault, inclusion_fault}
use Rattle.mm_text.specs.Mirror.Reader.{unless, PlainReading, only_ending, with_statement}
use Rattle.mm_text.specs.Mirror.Reader.{reading_of, part_label, part_first}
use Rattle.mm_text.specs.declared.fault.TextRule.{TextRule}
use Rattle.mm_text.specs.declared.fault.TextRule.TheVariants.{S1, S2, S3, S4, S5, S6, X6, X8}
use Rattle.mm_base.specs.declared.statement.Kind.{Kind}
use Rattle.mm_base.specs.declared.statement.Kind.TheVariants.{Opening, Closing}
use Rattle.mm_text.specs.declared.class.Keyword.{Keyword}
use Rattle.mm_text.specs.Mirror.Class.{keyword_bytes}
use Rattle.mm_text.specs.Mirror.Steps.{is_block_sign, bare_kind, labelled_kind, ends_symbols}
use Rattle.mm_text.specs.Mirror.Steps.{fault_of, AnswersFault, GivesPart, GivesFirst, TellsFault}
use Rattle.mm_text.specs.Mirror.Steps.{Opens, Closes, StepsTo, ReadsOn}
use Rattle.mm_text.specs.Reading.{PlainFault, TellsMore}
use Rattle.mm_base.specs.declared.token.Token.{Token}
use Rattle.mm_text.specs.declared.fault.TextFault.{TextFault}
use Rattle.mm_text.specs.declared.fault.TextFault.TheVariants.{Load, Fault, Memory}
use Rattle.mm_base.specs.declared.file.File.{File}
use Rattle.mm_text.specs.declared.fault.LoadRule.{LoadRule}
use Rattle.mm_text.specs.declared.fault.LoadRule.TheVariants.{F1, F2, F3}
use Rattle.mm_base.specs.MostBytes.{most_bytes}
use Rattle.mm_text.specs.Files.{PlainFile, plain_file, total_bytes, HasTwins}
use Rattle.mm_text.specs.Files.{BreaksLoad}
use Rattle.mm_text.specs.declared.class.Keyword.TheVariants as keyword

-- ==== texts of tokens: keywords, labels, and texts that hold no `$`

pub same_text-true : (a b : List ℕ) → spells a b ≡ true → a ≡ b
same_text-true a b e = (bytes_decides a b).0 e

same_text_from : (a b : List ℕ) → a ≡ b → spells a b ≡ true
same_text_from a b e = (bytes_decides a b).1 e

pub same_text-ne : (a b : List ℕ) → a ≢ b → spells a b ≡ false
same_text-ne a b ne = false_from_ne_true _ (λ e. ne (same_text-true a b e))

pub same_text-false : (a b : List ℕ) → spells a b ≡ false → a ≢ b
same_text-false a b e same = both_ways _ e (same_text_from a b same)

-- ---- keywords

pub is_keyword-true : (text : List ℕ) → is_keyword text ≡ true → IsKeyword text
is_keyword-true text e =
    let (k, d, lt, same, there) = Any-from_list_any (spells text) keywords e in
    (k, lt, get_or_default keywords k text d lt ∙ same ∙ sym (same_text-true text _ there))

pub is_keyword_from : (text : List ℕ) → IsKeyword text → is_keyword text ≡ true
is_keyword_from text (k, lt, e) =
    list_any_at (spells text) keywords k text lt (same_text_from text _ (sym e))

pub is_keyword-false : (text : List ℕ) → is_keyword text ≡ false → ¬ (IsKeyword text)
is_keyword-false text e h = both_ways _ e (is_keyword_from text h)

-- ---- the first byte

abbrev begins_dollar : List ℕ → Bool
begins_dollar [] = false
begins_dollar (b ∷ bytes) = b == 36

any_of_dollars : (text : List ℕ) (xs : List (List ℕ)) → list_all begins_dollar xs ≡ true → begins_dollar text ≡ false → list_any (spells text) xs ≡ false
any_of_dollars text [] all none = refl
any_of_dollars text (x ∷ xs) all none =
    let parts = and_parts (begins_dollar x) (list_all begins_dollar xs) all in
    let here : spells text x ≡ false = same_text-ne text x (λ e. both_ways _ none (ap begins_dollar e ∙ parts.0)) in
    rw here (any_of_dollars text xs parts.1 none)

no_keyword : (text : List ℕ) → begins_dollar text ≡ false → is_keyword text ≡ false
no_keyword text none = any_of_dollars text keywords refl none

no_dollar-begins : (text : List ℕ) → HoldsNoDollar text → begins_dollar text ≡ false
no_dollar-begins [] h = refl
no_dollar-begins (b ∷ bytes) h = (or_parts (b == 36) (list_any (λ x. x == 36) bytes) h).0

-- a label has a byte
pub label_held : (text : List ℕ) → IsLabel text → 1 ≤ length text
label_held [] h = absurd (false≢true h)
label_held (b ∷ bytes) h = omega arith

label-begins : (text : List ℕ) → IsLabel text → begins_dollar text ≡ false
label-begins [] h = refl
label-begins (b ∷ bytes) h =
    let byte = (and_parts (is_label_byte b) (list_all is_label_byte bytes) h).0 in
    false_from_ne_true _ (λ e. false≢true (ap is_label_byte (sym (eqb-true b 36 e)) ∙ byte))

-- a text that holds no `$` is no keyword
pub symbol-is_keyword : (text : List ℕ) → HoldsNoDollar text → is_keyword text ≡ false
symbol-is_keyword text h = no_keyword text (no_dollar-begins text h)

-- and what is no keyword is none of them
other_sign : (text key : List ℕ) → is_keyword text ≡ false → is_keyword key ≡ true
    → spells text key ≡ false
other_sign text key none k = same_text-ne text key (λ e. both_ways _ none (ap is_keyword e ∙ k))

-- a token is a keyword or holds no `$`
abbrev pub IsSigned : PlainToken → Type 0
IsSigned t = IsKeyword t.text ⊎ HoldsNoDollar t.text

pub signed_word : (t : PlainToken) → IsSigned t → is_keyword t.text ≡ false → HoldsNoDollar t.text
signed_word t (inl k) none = absurd (both_ways _ none (is_keyword_from t.text k))
signed_word t (inr h) none = h

-- ==== the plain reader, one token at a time

-- ---- the reading of items, by the first

pub read_nothing : (scope : PlainScope) (part : Part) → reading_of scope part [] ≡ only_ending (unfinished_fault scope part)
unfolding reading_of
read_nothing scope part = refl

pub read_end : (scope : PlainScope) (part : Part) (file : ℕ) (items : List Item) → reading_of scope part (End file ∷ items) ≡ unless (end_fault scope part file) (reading_of scope part items)
unfolding reading_of
read_end scope part file items = refl

pub read_inclusion : (scope : PlainScope) (part : Part) (t : PlainToken) (items : List Item) → reading_of scope part (Inclusion t ∷ items) ≡ unless (inclusion_fault scope part t) (reading_of scope part items)
unfolding reading_of
read_inclusion scope part t items = refl

pub read_wrong : (scope : PlainScope) (part : Part) (rule : TextRule) (t : PlainToken) (items : List Item) → reading_of scope part (Wrong rule t ∷ items) ≡ only_ending (Some (fault_in scope part rule t))
unfolding reading_of
read_wrong scope part rule t items = refl

-- what follows a `$}`
abbrev pub read_closed : PlainScope → Part → PlainToken → List Item → PlainReading
read_closed scope part t items =
    if has_none scope.blocks then only_ending (Some (fault_in scope part S6 t)) else with_statement (bare_statement Closing t None) (reading_of (scope_after_closing scope) Between items)

pub read_more : (scope : PlainScope) (part : Part) (t : PlainToken) (items : List Item) (next : Part) → step part t ≡ More next → reading_of scope part (Plain t ∷ items) ≡ reading_of scope next items
unfolding reading_of
read_more scope part t items next e = rw (e, reading_of) refl

pub read_whole : (scope : PlainScope) (part : Part) (t : PlainToken) (items : List Item) (s : PlainStatement) → step part t ≡ Whole s → reading_of scope part (Plain t ∷ items) ≡ with_statement s (reading_of (scope_after_statement scope) Between items)
unfolding reading_of
read_whole scope part t items s e = rw (e, reading_of) refl

pub read_opened : (scope : PlainScope) (part : Part) (t : PlainToken) (items : List Item) → step part t ≡ Opened → reading_of scope part (Plain t ∷ items) ≡ with_statement (bare_statement Opening t None) (reading_of (scope_after_opening scope t) Between items)
unfolding reading_of
read_opened scope part t items e = rw (e, reading_of) refl

pub read_closing : (scope : PlainScope) (part : Part) (t : PlainToken) (items : List Item) → step part t ≡ Closed → reading_of scope part (Plain t ∷ items) ≡ read_closed scope part t items
unfolding reading_of
read_closing scope part t items e = rw (e, reading_of) refl

pub read_faulty : (scope : PlainScope) (part : Part) (t : PlainToken) (items : List Item) (rule : TextRule) → step part t ≡ Faulty rule → reading_of scope part (Plain t ∷ items) ≡ only_ending (Some (fault_in scope part rule t))
unfolding reading_of
read_faulty scope part t items rule e = rw (e, reading_of) refl

-- ---- words and keywords

keyword_is_one : (k : Keyword) → is_keyword (keyword_bytes k) ≡ true
keyword_is_one keyword.Constants = refl
keyword_is_one _ = refl

-- ---- the first token of a statement

abbrev pub start_by : PlainToken → Option Kind → Step
start_by t None = Faulty S1
start_by t (Some kind) = More (InBody (bare_statement kind t None))

pub step_opens : (t : PlainToken) → t.text ≡ codes "${" → step Between t ≡ Opened
unfolding step
step_opens t e = rw e refl

pub step_closes : (t : PlainToken) → t.text ≡ codes "$}" → step Between t ≡ Closed
unfolding step
step_closes t e = rw e refl

pub start_keyword : (t : PlainToken) (k : Keyword) → t.text ≡ keyword_bytes k
    → is_block_sign k ≡ false → step Between t ≡ start_by t (bare_kind k)
unfolding step
start_keyword t keyword.Opening e b = absurd (false≢true (sym b))
start_keyword t keyword.Closing e b = absurd (false≢true (sym b))
start_keyword t _ e b = rw e refl

start_other : (t : PlainToken) → is_keyword t.text ≡ false
    → step Between t ≡ cond (is_label t.text) (More (Labelled t)) (Faulty S2)
unfolding step
start_other t none =
    let ne = other_sign t.text in
    rw none (simp (ne (codes "$c") none refl, ne (codes "$v") none refl, ne (codes "$d") none refl)
    (simp (ne (codes "${") none refl, ne (codes "$}") none refl)))

pub step_label : (t : PlainToken) → IsLabel t.text → step Between t ≡ More (Labelled t)
step_label t named =
    start_other t (no_keyword t.text (label-begins t.text named)) ∙ rw named refl

pub step_no_label : (t : PlainToken) → is_keyword t.text ≡ false → is_label t.text ≡ false
    → step Between t ≡ Faulty S2
step_no_label t none named = start_other t none ∙ rw named refl

-- ---- the token after a label

abbrev pub labelled_by : PlainToken → Option Kind → Step
labelled_by label None = Faulty S3
labelled_by label (Some kind) = More (InBody (bare_statement kind label (Some label)))

pub label_keyword : (label t : PlainToken) (k : Keyword) → t.text ≡ keyword_bytes k
    → step (Labelled label) t ≡ labelled_by label (labelled_kind k)
unfolding step
label_keyword label t keyword.Constants e = rw e refl
label_keyword label t _ e = rw e refl

pub step_label_word : (label t : PlainToken) → HoldsNoDollar t.text → step (Labelled label) t ≡ Faulty S3
unfolding step
step_label_word label t word =
    let none = symbol-is_keyword t.text word in
    let ne = other_sign t.text in
    simp (ne (codes "$f") none refl, ne (codes "$e") none refl)
    (simp (ne (codes "$a") none refl, ne (codes "$p") none refl))

-- ---- the token after symbols

body_keyword : (s : PlainStatement) (t : PlainToken) (k : Keyword) → t.text ≡ keyword_bytes k → step (InBody s) t ≡
    (if ends_symbols s.kind k
    then (if has_count s.kind (length s.symbols)
    then (if is_provable s.kind then More (InProof (record s { span = (t.at + 2, 0) })) else Whole s)
    else Faulty S5)
    else Faulty S4)
unfolding step
body_keyword s t k e = let one = keyword_is_one k in simp (e, one)

pub step_not_ended : (s : PlainStatement) (t : PlainToken) (k : Keyword) → t.text ≡ keyword_bytes k → ends_symbols s.kind k ≡ false → step (InBody s) t ≡ Faulty S4
step_not_ended s t k e ends = body_keyword s t k e ∙ simp ends

pub step_too_few : (s : PlainStatement) (t : PlainToken) (k : Keyword) → t.text ≡ keyword_bytes k → ends_symbols s.kind k ≡ true → has_count s.kind (length s.symbols) ≡ false → step (InBody s) t ≡ Faulty S5
step_too_few s t k e ends count = body_keyword s t k e ∙ simp (ends, count)

pub step_whole : (s : PlainStatement) (t : PlainToken) (k : Keyword) → t.text ≡ keyword_bytes k → ends_symbols s.kind k ≡ true → has_count s.kind (length s.symbols) ≡ true → is_provable s.kind ≡ false → step (InBody s) t ≡ Whole s
step_whole s t k e ends count plain = body_keyword s t k e ∙ rw ends (simp (count, plain))

pub step_to_proof : (s : PlainStatement) (t : PlainToken) (k : Keyword) → t.text ≡ keyword_bytes k → ends_symbols s.kind k ≡ true → has_count s.kind (length s.symbols) ≡ true → is_provable s.kind ≡ true → step (InBody s) t ≡ More (InProof (record s { span = (t.at + 2, 0) }))
step_to_proof s t k e ends count proved = body_keyword s t k e ∙ rw ends (simp (count, proved))

pub step_symbol : (s : PlainStatement) (t : PlainToken) → HoldsNoDollar t.text → is_full s.kind (length s.symbols) ≡ false → step (InBody s) t ≡ More (InBody (record s { symbols = s.symbols ++ t ∷ [] }))
unfolding step
step_symbol s t word room = let none = symbol-is_keyword t.text word in simp (none, room)

pub step_too_many : (s : PlainStatement) (t : PlainToken) → HoldsNoDollar t.text → is_full s.kind (length s.symbols) ≡ true → step (InBody s) t ≡ Faulty S5
unfolding step
step_too_many s t word full = let none = symbol-is_keyword t.text word in simp (none, full)

-- ---- the token after steps of a proof

proof_keyword : (s : PlainStatement) (t : PlainToken) (k : Keyword) → t.text ≡ keyword_bytes k → step (InProof s) t ≡
    (if spells (keyword_bytes k) (codes "$.") then Whole (record s { span = (s.span.0, t.at) }) else Faulty S4)
unfolding step
proof_keyword s t k e = let one = keyword_is_one k in simp (e, one)

pub step_ends_proof : (s : PlainStatement) (t : PlainToken) (k : Keyword) → t.text ≡ keyword_bytes k → spells (keyword_bytes k) (codes "$.") ≡ true → step (InProof s) t ≡ Whole (record s { span = (s.span.0, t.at) })
step_ends_proof s t k e stop = proof_keyword s t k e ∙ simp stop

pub step_in_proof : (s : PlainStatement) (t : PlainToken) (k : Keyword) → t.text ≡ keyword_bytes k → spells (keyword_bytes k) (codes "$.") ≡ false → step (InProof s) t ≡ Faulty S4
step_in_proof s t k e stop = proof_keyword s t k e ∙ simp stop

pub step_proof_token : (s : PlainStatement) (t : PlainToken) → HoldsNoDollar t.text → step (InProof s) t ≡ More (InProof (record s { proof = s.proof ++ t ∷ [] }))
unfolding step
step_proof_token s t word = let none = symbol-is_keyword t.text word in simp none

-- ---- what a token leaves

abbrev pub IsUnfinished : Part → Type 0
IsUnfinished Between = ⊥
IsUnfinished part = Unit {0}

-- a part of a statement that may have symbols, or of none
abbrev pub IsLongPart : Part → Type 0
IsLongPart (InBody s) = HasBody s.kind
IsLongPart (InProof s) = HasBody s.kind
IsLongPart part = Unit {0}

-- a statement is left unfinished, or ends, and may have symbols still
abbrev pub Leads : Part → Step → Type 0
Leads part (More next) = IsUnfinished next × (IsLongPart part → IsLongPart next)
Leads part (Whole s) = IsLongPart part → HasBody s.kind
Leads part other = Unit {0}

pub step_leads : (part : Part) (t : PlainToken) → Leads part (step part t)
unfolding step
step_leads Between t =
    let So : Step → Type 0 = Leads Between in
    cond_both (spells t.text (codes "$c")) _ _ So (λ _. (tt, λ _. tt))
    (λ _. cond_both (spells t.text (codes "$v")) _ _ So (λ _. (tt, λ _. tt))
    (λ _. cond_both (spells t.text (codes "$d")) _ _ So (λ _. (tt, λ _. tt))
    (λ _. cond_both (spells t.text (codes "${")) _ _ So (λ _. tt)
    (λ _. cond_both (spells t.text (codes "$}")) _ _ So (λ _. tt)
    (λ _. cond_both (is_keyword t.text) _ _ So (λ _. tt)
    (λ _. cond_both (is_label t.text) _ _ So (λ _. (tt, λ _. tt)) (λ _. tt)))))))
step_leads (Labelled label) t =
    let So : Step → Type 0 = Leads (Labelled label) in
    cond_both (spells t.text (codes "$f")) _ _ So (λ _. (tt, λ _. tt))
    (λ _. cond_both (spells t.text (codes "$e")) _ _ So (λ _. (tt, λ _. tt))
    (λ _. cond_both (spells t.text (codes "$a")) _ _ So (λ _. (tt, λ _. tt))
    (λ _. cond_both (spells t.text (codes "$p")) _ _ So (λ _. (tt, λ _. tt)) (λ _. tt))))
step_leads (InBody s) t =
    let So : Step → Type 0 = Leads (InBody s) in
    cond_both (is_keyword t.text) _ _ So
    (λ _. cond_both (spells t.text (cond (is_provable s.kind) (codes "$=") (codes "$."))) _ _ So
    (λ _. cond_both (has_count s.kind (length s.symbols)) _ _ So
    (λ _. cond_both (is_provable s.kind) _ _ So (λ _. (tt, λ h. h)) (λ _ h. h)) (λ _. tt))
    (λ _. tt))
    (λ _. cond_both (is_full s.kind (length s.symbols)) _ _ So (λ _. tt) (λ _. (tt, λ h. h)))
step_leads (InProof s) t =
    let So : Step → Type 0 = Leads (InProof s) in
    cond_both (is_keyword t.text) _ _ So
    (λ _. cond_both (spells t.text (codes "$.")) _ _ So (λ _ h. h) (λ _. tt)) (λ _. (tt, λ h. h))

-- ==== while a statement is unfinished, something is left to tell

abbrev pub HasMore : PlainReading → Type 0
HasMore reading = TellsMore reading.statements reading.ending

fault_more : (fault : PlainFault) → HasMore (only_ending (Some fault))
fault_more fault = inr (λ e. cc)

statement_more : (s : PlainStatement) (reading : PlainReading) → HasMore (with_statement s reading)
statement_more s reading = inl (λ e. cc)

unless_more : (fault : Option PlainFault) (reading : PlainReading) → HasMore reading → HasMore (unless fault reading)
unless_more None reading h = h
unless_more (Some fault) reading h = fault_more fault

-- ---- unfinished statements

nothing_more : (scope : PlainScope) (part : Part) → IsUnfinished part → HasMore (only_ending (unfinished_fault scope part))
nothing_more scope Between h = absurd h
nothing_more scope (Labelled label) h = fault_more _
nothing_more scope _ h = fault_more _

-- whatever follows, an unfinished statement is given or comes to a fault
more_left : (scope : PlainScope) (part : Part) (items : List Item) → IsUnfinished part → HasMore (reading_of scope part items)
unfolding reading_of
more_left scope part [] h = nothing_more scope part h
more_left scope part (End file ∷ items) h = unless_more (end_fault scope part file) (reading_of scope part items) (more_left scope part items h)
more_left scope part (Wrong rule t ∷ items) h = fault_more _
more_left scope part (Inclusion t ∷ items) h = unless_more (inclusion_fault scope part t) (reading_of scope part items) (more_left scope part items h)
more_left scope part (Plain t ∷ items) h =
    go (λ next. more_left scope next items) (step part t) refl (step_leads part t)
  where
    go : ((next : Part) → IsUnfinished next → HasMore (reading_of scope next items)) → (s : Step)
        → step part t ≡ s → Leads part s → HasMore (reading_of scope part (Plain t ∷ items))
    go on (More next) e k = subst HasMore (sym (read_more scope part t items next e)) (on next k.0)
    go on (Whole s) e k = rw (read_whole scope part t items s e) (statement_more s _)
    go on Opened e k = subst HasMore (sym (read_opened scope part t items e)) (statement_more _ _)
    go on Closed e k = subst HasMore (sym (read_closing scope part t items e))
        (cond_both (has_none scope.blocks) _ _ HasMore (λ _. fault_more _) (λ _. statement_more _ _))
    go on (Faulty rule) e k = rw (read_faulty scope part t items rule e) (fault_more _)

-- ==== what a part of the reader answers at the next item

-- ---- faults

-- the fault of a part of which the label is known
fault_with : (scope : PlainScope) (part : Part) (t : PlainToken) (rule : TextRule) (label : Option Token) → part_label part ≡ option_map plain_token label → fault_in scope part rule t ≡ fault_of rule t.file t.at (scope.count + 1) label
fault_with scope part t rule label e = λ i. record { rule = rule; file = t.file; at = t.at; statement = scope.count + 1; label = e i }

-- a fault of a token is answered where the reading ends so
answers_at : (scope : PlainScope) (part : Part) (t : PlainToken) (rule : TextRule) (label : Option Token) (reading : PlainReading) (fault : TextFault) → part_label part ≡ option_map plain_token label
    → fault ≡ Fault rule t.file t.at (scope.count + 1) label → reading ≡ only_ending (Some (fault_in scope part rule t)) → AnswersFault reading fault
answers_at scope part t rule label reading fault named e h =
    subst (AnswersFault reading) (sym e) (h ∙ ap (λ (f : PlainFault). only_ending (Some f)) (fault_with scope part t rule label named))

-- the next token breaks a rule by itself
pub answers_wrong : (scope : PlainScope) (part : Part) (items : List Item) (t : PlainToken) (rule : TextRule) (label : Option Token) (fault : TextFault) → items ≡ Wrong rule t ∷ [] → part_label part ≡ option_map plain_token label
    → fault ≡ Fault rule t.file t.at (scope.count + 1) label → AnswersFault (reading_of scope part items) fault
answers_wrong scope part items t rule label fault first named e =
    answers_at scope part t rule label _ fault named e (ap (reading_of scope part) first ∙ read_wrong scope part rule t [])

-- the next token can't stand there
pub gives_faulty : (scope : PlainScope) (part : Part) (reading : PlainReading)
    (items rest : List Item) (t : PlainToken) (rule : TextRule) (label : Option Token)
    (fault : TextFault) (into : PlainStatement) (new : List Item)
    → reading ≡ reading_of scope part items → items ≡ Plain t ∷ rest → step part t ≡ Faulty rule
    → part_label part ≡ option_map plain_token label
    → fault ≡ Fault rule t.file t.at (scope.count + 1) label
    → GivesPart scope reading (Err fault) into new
gives_faulty scope part reading items rest t rule label fault into new same first faulty named e =
    record {
      answer = answers_at scope part t rule label reading fault named e
          (same ∙ ap (reading_of scope part) first ∙ read_faulty scope part t rest rule faulty);
    }

-- a file is included in a statement
pub answers_inclusion : (scope : PlainScope) (part : Part) (items rest : List Item) (t first : PlainToken) (label : Option Token) (fault : TextFault) → items ≡ Inclusion t ∷ rest → part_first part ≡ Some first → part_label part ≡ option_map plain_token label
    → fault ≡ Fault X6 t.file t.at (scope.count + 1) label → AnswersFault (reading_of scope part items) fault
answers_inclusion scope part items rest t first label fault next bare_statement named e =
    answers_at scope part t X6 label _ fault named e
    (ap (reading_of scope part) next ∙ read_inclusion scope part t rest ∙ rw bare_statement refl)

-- a file ends in a statement
pub answers_end : (scope : PlainScope) (part : Part) (items rest : List Item) (file : ℕ) (first : PlainToken) (label : Option Token) (fault : TextFault) → items ≡ End file ∷ rest → part_first part ≡ Some first → part_label part ≡ option_map plain_token label
    → fault ≡ Fault X8 first.file first.at (scope.count + 1) label → AnswersFault (reading_of scope part items) fault
answers_end scope part items rest file first label fault next bare_statement named e =
    answers_at scope part first X8 label _ fault named e
    (ap (reading_of scope part) next ∙ read_end scope part file rest ∙ rw (end_fault, bare_statement) refl)

-- nothing is left in a statement
pub answers_nothing : (scope : PlainScope) (part : Part) (items : List Item) (first : PlainToken) (label : Option Token) (fault : TextFault) → items ≡ [] → part_first part ≡ Some first → part_label part ≡ option_map plain_token label
    → fault ≡ Fault X8 first.file first.at (scope.count + 1) label → AnswersFault (reading_of scope part items) fault
answers_nothing scope part items first label fault next bare_statement named e =
    answers_at scope part first X8 label _ fault named e
    (ap (reading_of scope part) next ∙ read_nothing scope part ∙ rw bare_statement refl)

-- a token that was not taken in ends the reading, or there was no memory for it
pub answers_refused : (scope : PlainScope) (part next : Part) (items rest : List Item) (t : PlainToken) (fault : TextFault) → IsUnfinished part → items ≡ Plain t ∷ rest → StepsTo scope part t (Err fault) next
    → AnswersFault (reading_of scope part items) fault
answers_refused scope part next items rest t (Fault rule file at statement label) some first h =
    ap (reading_of scope part) first ∙ read_faulty scope part t rest rule h.0 ∙ ap (λ (f : PlainFault). only_ending (Some f)) h.1
answers_refused scope part next items rest t Memory some first h = more_left scope part items some
answers_refused scope part next items rest t (Load rule) some first h = absurd h

-- ---- answers

-- a fault is answered of a reading that is the same
pub answers_same : (reading other : PlainReading) (fault : TextFault) → reading ≡ other → AnswersFault other fault → AnswersFault reading fault
answers_same reading other fault e h = subst (λ x. AnswersFault x fault) (sym e) h

-- what is answered of a reading is answered of one that is the same
pub gives_same : (scope : PlainScope) (reading other : PlainReading) (r : Result Unit TextFault) (into : PlainStatement) (new : List Item) → reading ≡ other → GivesPart scope other r into new → GivesPart scope reading r into new
gives_same scope reading other r into new e h = subst (λ x. GivesPart scope x r into new) (sym e) h

-- a fault that is passed on, where what was read is told apart from what is left
pub reads_err : (reading other later : PlainReading) (r : Result Unit TextFault) (fault : TextFault)
    → IsErrAnd r (λ e. e ≡ fault) → reading ≡ other → AnswersFault other fault
    → ReadsOn reading r later
reads_err reading other later (Ok done) fault is same h = absurd is
reads_err reading other later (Err passed_on) fault is same h =
    answers_same reading other passed_on same (subst (AnswersFault other) (sym is) h)

-- and where it isn't
pub gives_err : (scope : PlainScope) (reading other : PlainReading) (r : Result Unit TextFault)
    (fault : TextFault) (into : PlainStatement) (new : List Item) → IsErrAnd r (λ e. e ≡ fault)
    → reading ≡ other → AnswersFault other fault → GivesPart scope reading r into new
gives_err scope reading other (Ok done) fault into new is same h = absurd is
gives_err scope reading other (Err passed_on) fault into new is same h =
    record { answer = reads_err reading other other (Err passed_on) fault is same h }

-- a token that doesn't end the part
pub same_more : (scope : PlainScope) (part next : Part) (items rest : List Item) (t : PlainToken) → items ≡ Plain t ∷ rest → step part t ≡ More next → reading_of scope part items ≡ reading_of scope next rest
same_more scope part next items rest t first more = ap (reading_of scope part) first ∙ read_more scope part t rest next more

-- a token that ends the statement
pub gives_whole : (scope : PlainScope) (part : Part) (items rest : List Item) (t : PlainToken) (s : PlainStatement) → items ≡ Plain t ∷ rest → step part t ≡ Whole s → GivesPart scope (reading_of scope part items) (Ok tt) s rest
gives_whole scope part items rest t s first whole = record { answer = ap (reading_of scope part) first ∙ read_whole scope part t rest s whole }

-- ---- between statements

-- a file is included in a block
pub answers_in_block : (scope : PlainScope) (items rest : List Item) (t : PlainToken) (fault : TextFault) → items ≡ Inclusion t ∷ rest → has_none scope.blocks ≡ false
    → fault ≡ Fault X6 t.file t.at (scope.count + 1) None → AnswersFault (reading_of scope Between items) fault
answers_in_block scope items rest t fault next some e =
    answers_at scope Between t X6 None _ fault refl e (ap (reading_of scope Between) next ∙ read_inclusion scope Between t rest ∙ rw some refl)

-- the top file ends in a block
pub answers_open : (scope : PlainScope) (items rest : List Item) (file : ℕ) (fault : TextFault) → items ≡ End file ∷ rest → TellsFault (end_fault scope Between file) (Some fault) → AnswersFault (reading_of scope Between items) fault
answers_open scope items rest file (Fault rule home at statement label) next told =
    ap (reading_of scope Between) next ∙ read_end scope Between file rest ∙ ap (λ (f : Option PlainFault). unless f (reading_of scope Between rest)) told
answers_open scope items rest file _ next told = absurd told

-- ---- whole statements

-- a `${`
pub gives_opening : (scope later : PlainScope) (items rest : List Item) (t : PlainToken) (into : PlainStatement) (r : Result Unit TextFault) → items ≡ Plain t ∷ rest → t.text ≡ codes "${" → into ≡ bare_statement Opening t None → Opens scope t r later
    → GivesFirst scope items r into later rest
gives_opening scope later items rest t into (Ok unit) first sign is h =
    (ap (reading_of scope Between) first ∙ read_opened scope Between t rest (step_opens t sign) ∙ (λ i. with_statement (sym is i) (reading_of (sym h i) Between rest)), ap (λ (x : PlainScope). x.count) h)
gives_opening scope later items rest t into (Err fault) first sign is h =
    subst (AnswersFault (reading_of scope Between items)) (sym h)
    (subst HasMore (sym (ap (reading_of scope Between) first ∙ read_opened scope Between t rest (step_opens t sign))) (statement_more (bare_statement Opening t None) (reading_of (scope_after_opening scope t) Between rest)))

-- a `$}`
pub closes_block : (scope later : PlainScope) (items rest : List Item) (t : PlainToken) (into : PlainStatement) → items ≡ Plain t ∷ rest → t.text ≡ codes "$}" → into ≡ bare_statement Closing t None → Closes scope true later
    → GivesFirst scope items (Ok tt) into later rest
closes_block scope later items rest t into first sign is h = (
  ap (reading_of scope Between) first ∙ read_closing scope Between t rest (step_closes t sign) ∙ cond-false (has_none scope.blocks) _ _ h.0
      ∙ (λ i. with_statement (sym is i) (reading_of (sym h.1 i) Between rest)),
  ap (λ (x : PlainScope). x.count) h.1,
)

-- with no block open
pub answers_closing : (scope later : PlainScope) (items rest : List Item) (t : PlainToken) (fault : TextFault) → items ≡ Plain t ∷ rest → t.text ≡ codes "$}" → Closes scope false later
    → fault ≡ Fault S6 t.file t.at (later.count + 1) None → AnswersFault (reading_of scope Between items) fault
answers_closing scope later items rest t fault first sign h e =
    answers_at scope Between t S6 None _ fault refl (e ∙ ap (λ (x : PlainScope). Fault S6 t.file t.at (x.count + 1) None) h.1)
    (ap (reading_of scope Between) first ∙ read_closing scope Between t rest (step_closes t sign) ∙ cond-true (has_none scope.blocks) _ _ h.0)

-- `grind` takes these by their names.
pub ruleset part_steps = (
  step_proof_token,
  step_ends_proof,
  step_in_proof,
  read_nothing,
  read_end,
  read_inclusion,
  answers_refused,
  answers_wrong,
  answers_closing,
  answers_same,
  answers_in_block,
  answers_open,
  gives_same,
  gives_err,
  gives_faulty,
  gives_whole,
  gives_opening,
  closes_block,
  same_more,
  reads_err,
  map_push,
)

-- ==== the rules that the handed files break as a whole

-- some file was handed in
pub some_handed : (files : List File) → (length files == 0) ≡ false → map plain_file files ≢ []
some_handed [] h e = false≢true (sym h)
some_handed (f ∷ files) h e = cc

-- no rule is broken where each of the three is kept
pub none_broken : (files : List PlainFile) → (files ≢ []) → ¬ (HasTwins files)
    → (total_bytes files ≤ most_bytes) → (rule : LoadRule) → ¬ (BreaksLoad files rule)
none_broken files some apart within F1 h = some h
none_broken files some apart within F2 h = apart h.1
none_broken files some apart within F3 h = absurd (omega arith)

-- `grind` takes these by their names.
pub ruleset handed_steps = (some_handed, none_broken)
