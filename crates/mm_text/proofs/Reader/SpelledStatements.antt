-- Tokens that spell statements, or begin one, lead the reader to those statements; and each
-- beginning of a statement can be finished.
use Rattle.std.proofs.Common.{◌≡◌, List, [], ◌∷◌, ◌++◌, refl, sym, ap, ◌∙◌, None, ℕ, ◌+◌, ◌<◌, ◌≤◌}
use Rattle.std.proofs.Common.{length, true, false, cond, subst, codes, Option, Some, arith}
use Rattle.std.proofs.Common.{append_assoc, ◌⊎◌, inl, inr, ◌≢◌, append-nil, length-append, ne_eqb}
use Rattle.std.proofs.Common.{zero, suc}
use Rattle.std.proofs.lemmas.List.{nil_from_length}
use Rattle.std.proofs.lemmas.Bool.{cond-true, cond-false, false_from_ne_true, cases_Bool, cases_lt}
use Rattle.mm_base.specs.declared.statement.Kind.TheVariants.{Opening, Closing, Constants}
use Rattle.mm_base.specs.declared.statement.Kind.TheVariants.{Variables, Distinct, Floating}
use Rattle.mm_base.specs.declared.statement.Kind.TheVariants.{Essential, Axiom, Provable}
use Rattle.mm_base.specs.Token.{PlainToken, is_label, HoldsNoDollar}
use Rattle.mm_base.specs.Statement.{PlainStatement, IsHead, HasBody, IsBareHead, IsLabelledHead}
use Rattle.mm_base.specs.Statement.{AreSymbols, FitsCount, label_in, keyword_of, Spells, SpellsAll}
use Rattle.mm_base.specs.Statement.{IsTail, EndsAtOnce, EndsInProof, is_provable}
use Rattle.mm_text.specs.Mirror.Reader.{Part, Between, Step, More, Whole, Opened, Closed, Faulty}
use Rattle.mm_text.specs.Mirror.Reader.{step, Labelled, InBody, InProof, is_full}
use Rattle.mm_base.specs.Begun.{bare_statement}
use Rattle.mm_text.specs.Mirror.Reader.{is_keyword}
use Rattle.mm_base.specs.Spelling.{spells}
use Rattle.mm_text.specs.declared.fault.TextRule.TheVariants.{S5}
use Rattle.mm_base.specs.declared.statement.Kind.{Kind}
use Rattle.mm_text.specs.declared.class.Keyword.{Keyword}
use Rattle.mm_text.specs.Mirror.Class.{keyword_bytes}
use Rattle.mm_text.specs.Mirror.Steps.{is_block_sign, bare_kind, labelled_kind, ends_symbols}
use Rattle.mm_text.specs.Reading.{closes_symbols, IsBeginning, IsBody}
use Rattle.mm_text.specs.Laws.{BeginsStatement, BeginningsBeginStatements}
use Rattle.mm_text.proofs.Reader.Unfinished.{IsPartBody, IsPartProof, Describes, has_count_from}
use Rattle.mm_text.proofs.Reader.Unfinished.{has_count-true, StepsTo, step_right, part_of_beginning}
use Rattle.mm_base.proofs.Lists.{cons_parts, all_prefix}
use Rattle.mm_text.proofs.Reader.OneToken.{step_opens, step_closes, start_by, start_keyword}
use Rattle.mm_text.proofs.Reader.OneToken.{step_label, labelled_by, label_keyword, step_too_few}
use Rattle.mm_text.proofs.Reader.OneToken.{step_whole, step_to_proof, step_symbol, step_proof_token}
use Rattle.mm_text.proofs.Reader.OneToken.{step_ends_proof, is_keyword-true}
use Rattle.mm_text.specs.declared.class.Keyword.TheVariants as keyword

-- ==== what the reader makes of tokens alone: statements and a part of one, or a fault

pub data Run : Type 0 where
  Fails : Run
  Runs : (statements : List PlainStatement) (part : Part) → Run

abbrev pub with_first : PlainStatement → Run → Run
with_first s Fails = Fails
with_first s (Runs statements part) = Runs (s ∷ statements) part

-- statements before what follows
abbrev pub with_all : List PlainStatement → Run → Run
with_all [] r = r
with_all (s ∷ statements) r = with_first s (with_all statements r)

-- what the first token makes of the rest
abbrev pub run_by : PlainToken → (Part → Run) → Step → Run
run_by t on (More next) = on next
run_by t on (Whole s) = with_first s (on Between)
run_by t on Opened = with_first (bare_statement Opening t None) (on Between)
run_by t on Closed = with_first (bare_statement Closing t None) (on Between)
run_by t on (Faulty rule) = Fails

unfoldable pub run : Part → List PlainToken → Run
run part [] = Runs [] part
run part (t ∷ tokens) = run_by t (λ next. run next tokens) (step part t)

pub run-nil : (part : Part) → run part [] ≡ Runs [] part
unfolding run
run-nil part = refl

pub run_step : (part : Part) (t : PlainToken) (tokens : List PlainToken) (s : Step) → step part t ≡ s
    → run part (t ∷ tokens) ≡ run_by t (λ next. run next tokens) s
unfolding run
run_step part t tokens s e = ap (run_by t (λ next. run next tokens)) e

pub with_all-runs : (statements more : List PlainStatement) (part : Part) → with_all statements (Runs more part) ≡ Runs (statements ++ more) part
with_all-runs [] more part = refl
with_all-runs (s ∷ statements) more part = ap (with_first s) (with_all-runs statements more part)

with_all-fails : (statements : List PlainStatement) → with_all statements Fails ≡ Fails
with_all-fails [] = refl
with_all-fails (s ∷ statements) = ap (with_first s) (with_all-fails statements)

-- ---- tokens after tokens

-- what more tokens make of a run
abbrev then_run : Run → List PlainToken → Run
then_run Fails tokens = Fails
then_run (Runs statements part) tokens = with_all statements (run part tokens)

then_first : (s : PlainStatement) (r : Run) (tokens : List PlainToken) → with_first s (then_run r tokens) ≡ then_run (with_first s r) tokens
then_first s Fails tokens = refl
then_first s (Runs statements part) tokens = refl

then_by : (t : PlainToken) (f g : Part → Run) (b : List PlainToken)
    → ((next : Part) → f next ≡ then_run (g next) b)
    → (s : Step) → run_by t f s ≡ then_run (run_by t g s) b
then_by t f g b on (More next) = on next
then_by t f g b on (Whole s) = ap (with_first s) (on Between) ∙ then_first s (g Between) b
then_by t f g b on Opened = ap (with_first (bare_statement Opening t None)) (on Between) ∙ then_first (bare_statement Opening t None) (g Between) b
then_by t f g b on Closed = ap (with_first (bare_statement Closing t None)) (on Between) ∙ then_first (bare_statement Closing t None) (g Between) b
then_by t f g b on (Faulty rule) = refl

append_run : (part : Part) (a b : List PlainToken) → run part (a ++ b) ≡ then_run (run part a) b
unfolding run
append_run part [] b = refl
append_run part (t ∷ a) b =
    then_by t _ (λ next. run next a) b (λ next. append_run next a b) (step part t)

-- after tokens that make statements and a part, more tokens go on from there
pub run_on : (a b : List PlainToken) (statements : List PlainStatement) (part : Part) → run Between a ≡ Runs statements part → run Between (a ++ b) ≡ with_all statements (run part b)
run_on a b statements part e = append_run Between a b ∙ ap (λ (r : Run). then_run r b) e

pub runs_parts : (a b : List PlainStatement) (p q : Part) → Runs a p ≡ Runs b q → (a ≡ b) × (p ≡ q)
runs_parts a b p q e = (cc, cc)

-- what a whole run has, its prefix has
pub prefix_of_run : (statements : List PlainStatement) (r : Run) (all : List PlainStatement) (part : Part) → with_all statements r ≡ Runs all part
    → (others : List PlainStatement) × (all ≡ statements ++ others) × (r ≡ Runs others part)
prefix_of_run statements Fails all part e = absurd (cc (with_all-fails statements, e))
prefix_of_run statements (Runs others q) all part e =
    let parts = runs_parts (statements ++ others) all q part (sym (with_all-runs statements others q) ∙ e) in
    (others, sym parts.0, ap (Runs others) parts.1)

-- ==== tokens that spell statements, or begin one, lead the reader to those statements

-- ---- the keyword that closes symbols

abbrev closer : Kind → Keyword
closer Provable = keyword.Equals
closer kind = keyword.Stop

closer_is : (kind : Kind) → (closes_symbols kind ≡ keyword_bytes (closer kind))
    × (ends_symbols kind (closer kind) ≡ true)
closer_is Provable = (refl, refl)
closer_is _ = (refl, refl)

pub closing_short : (s : PlainStatement) (t : PlainToken) → t.text ≡ closes_symbols s.kind → ¬ (FitsCount s.kind (length s.symbols)) → step (InBody s) t ≡ Faulty S5
closing_short s t sign c =
    let is = closer_is s.kind in
    step_too_few s t (closer s.kind) (sign ∙ is.0) is.1 (false_from_ne_true _ (λ e. c (has_count-true s.kind (length s.symbols) e)))

-- ---- symbols and proofs

not_full : (kind : Kind) (n : ℕ) → (kind ≡ Floating → n < 2) → is_full kind n ≡ false
not_full Floating n h = let lt = h refl in ne_eqb n 2 (λ e. omega arith)
not_full _ n h = refl

symbols_run : (s : PlainStatement) (symbols : List PlainToken) (rest : List PlainToken) → AreSymbols symbols → (s.kind ≡ Floating → length s.symbols + length symbols ≤ 2)
    → run (InBody s) (symbols ++ rest) ≡ run (InBody (record s { symbols = s.symbols ++ symbols })) rest
symbols_run s [] rest h room = ap (λ (x : List PlainToken). run (InBody (record s { symbols = x })) rest) (sym (append-nil s.symbols))
symbols_run s (t ∷ symbols) rest h room =
    let more : PlainStatement = record s { symbols = s.symbols ++ t ∷ [] } in
    run_step (InBody s) t (symbols ++ rest) (More (InBody more))
    (step_symbol s t h.0 (not_full s.kind (length s.symbols) (λ k. let le = room k in omega arith)))
    ∙ symbols_run more symbols rest h.1 (λ k. let le = room k in omega (arith, length-append s.symbols (t ∷ [])))
    ∙ ap (λ (x : List PlainToken). run (InBody (record s { symbols = x })) rest) (append_assoc s.symbols (t ∷ []) symbols)

proof_run : (s : PlainStatement) (proof : List PlainToken) (rest : List PlainToken) → AreSymbols proof
    → run (InProof s) (proof ++ rest) ≡ run (InProof (record s { proof = s.proof ++ proof })) rest
proof_run s [] rest h = ap (λ (x : List PlainToken). run (InProof (record s { proof = x })) rest) (sym (append-nil s.proof))
proof_run s (t ∷ proof) rest h =
    let more : PlainStatement = record s { proof = s.proof ++ t ∷ [] } in
    run_step (InProof s) t (proof ++ rest) (More (InProof more)) (step_proof_token s t h.0)
    ∙ proof_run more proof rest h.1
    ∙ ap (λ (x : List PlainToken). run (InProof (record s { proof = x })) rest) (append_assoc s.proof (t ∷ []) proof)

-- ---- heads

-- a statement with no symbols yet
abbrev fresh : Kind → PlainToken → Option PlainToken → Part
fresh kind first label = InBody (bare_statement kind first label)

bare_run : (kind : Kind) (k : Keyword) → keyword_of kind ≡ keyword_bytes k → is_block_sign k ≡ false
    → bare_kind k ≡ Some kind → is_label (keyword_of kind) ≡ false → (head : List PlainToken)
    (first : PlainToken) (others : List PlainToken) (label : Option PlainToken)
    (rest : List PlainToken) → IsBareHead kind head → head ≡ first ∷ others → label ≡ label_in head
    → run Between (head ++ rest) ≡ run (fresh kind first label) rest
bare_run kind k same block begins no_label head first others label rest h f l =
    let parts = cons_parts h.keyword first [] others (sym h.tokens ∙ f) in
    let none : None ≡ label = sym (l ∙ ap label_in h.tokens ∙ cond-false (is_label h.keyword.text) _ _ (ap is_label h.sign ∙ no_label)) in
    ap (λ (x : List PlainToken). run Between (x ++ rest)) h.tokens
    ∙ run_step Between h.keyword rest _ (start_keyword h.keyword k (h.sign ∙ same) block
    ∙ ap (start_by h.keyword) begins)
    ∙ (λ i. run (fresh kind (parts.0 i) (none i)) rest)

labelled_run : (kind : Kind) (k : Keyword) → keyword_of kind ≡ keyword_bytes k
    → labelled_kind k ≡ Some kind → (head : List PlainToken) (first : PlainToken)
    (others : List PlainToken) (label : Option PlainToken) (rest : List PlainToken)
    → IsLabelledHead kind head → head ≡ first ∷ others → label ≡ label_in head
    → run Between (head ++ rest) ≡ run (fresh kind first label) rest
labelled_run kind k same begins head first others label rest h f l =
    let parts = cons_parts h.label first (h.keyword ∷ []) others (sym h.tokens ∙ f) in
    let some : Some h.label ≡ label = sym (l ∙ ap label_in h.tokens ∙ cond-true (is_label h.label.text) _ _ h.named) in
    ap (λ (x : List PlainToken). run Between (x ++ rest)) h.tokens
    ∙ run_step Between h.label (h.keyword ∷ rest) _ (step_label h.label h.named)
    ∙ run_step (Labelled h.label) h.keyword rest _
    (label_keyword h.label h.keyword k (h.sign ∙ same) ∙ ap (labelled_by h.label) begins)
    ∙ (λ i. run (fresh kind (parts.0 i) (some i)) rest)

head_run : (kind : Kind) → HasBody kind → (head : List PlainToken) (first : PlainToken)
    (others : List PlainToken) (label : Option PlainToken) (rest : List PlainToken)
    → IsHead kind head → head ≡ first ∷ others → label ≡ label_in head
    → run Between (head ++ rest) ≡ run (fresh kind first label) rest
head_run Constants _ = bare_run Constants keyword.Constants refl refl refl refl
head_run Variables _ = bare_run Variables keyword.Variables refl refl refl refl
head_run Distinct _ = bare_run Distinct keyword.Distinct refl refl refl refl
head_run Floating _ = labelled_run Floating keyword.Floating refl refl
head_run Essential _ = labelled_run Essential keyword.Essential refl refl
head_run Axiom _ = labelled_run Axiom keyword.Axiom refl refl
head_run Provable _ = labelled_run Provable keyword.Provable refl refl
head_run _ long = absurd long

-- ---- unfinished statements

body_run : (s : PlainStatement) (tokens : List PlainToken) (rest : List PlainToken) → IsPartBody s tokens → run Between (tokens ++ rest) ≡ run (InBody s) rest
body_run s tokens rest d =
    ap (λ (x : List PlainToken). run Between (x ++ rest)) d.whole
    ∙ ap (run Between) (append_assoc d.head s.symbols rest)
    ∙ head_run s.kind d.long d.head s.first d.others s.label (s.symbols ++ rest) d.begins d.first d.label
    ∙ symbols_run (bare_statement s.kind s.first s.label) s.symbols rest d.spelled (λ k. let le = d.room k in omega arith)
    ∙ (λ i. run (InBody (record s { proof = sym d.proof i; span = sym d.span i })) rest)

-- the body of a `$p`, as it was before its `$=`
before_equals : (s : PlainStatement) (tokens : List PlainToken) (d : IsPartProof s tokens) → IsPartBody (record s { proof = []; span = (0, 0) }) (d.head ++ s.symbols)
before_equals s tokens d = record {
  head = d.head;
  others = d.others;
  whole = refl;
  begins = subst (λ (k : Kind). IsHead k d.head) (sym d.kind) d.begins;
  long = subst HasBody (sym d.kind) tt;
  first = d.first;
  label = d.label;
  spelled = d.spelled;
  room = λ k. absurd (cc (d.kind, k));
  proof = refl;
  span = refl;
}

proving_run : (s : PlainStatement) (tokens : List PlainToken) (rest : List PlainToken) → IsPartProof s tokens → run Between (tokens ++ rest) ≡ run (InProof s) rest
proving_run s tokens rest d =
    let stated : PlainStatement = record s { proof = []; span = (0, 0) } in
    let proving : PlainStatement = record s { proof = []; span = (d.equals.at + 2, 0) } in
    ap (λ (x : List PlainToken). run Between (x ++ rest)) d.whole
    ∙ ap (run Between) (append_assoc (d.head ++ s.symbols) (d.equals ∷ s.proof) rest)
    ∙ body_run stated (d.head ++ s.symbols) (d.equals ∷ s.proof ++ rest) (before_equals s tokens d)
    ∙ run_step (InBody stated) d.equals (s.proof ++ rest) (More (InProof proving))
    (step_to_proof stated d.equals keyword.Equals d.sign
    (ap (λ (k : Kind). ends_symbols k keyword.Equals) d.kind)
    (has_count_from s.kind (length s.symbols) (subst (λ (k : Kind). FitsCount k (length s.symbols)) (sym d.kind) d.some)) (ap is_provable d.kind))
    ∙ proof_run proving _ _ d.steps ∙ (λ i. run (InProof (record s { span = sym d.span i })) rest)

-- the reader has what the tokens are
part_run : (part : Part) (tokens : List PlainToken) (rest : List PlainToken) → Describes part tokens → run Between (tokens ++ rest) ≡ run part rest
part_run Between tokens rest d = ap (λ (x : List PlainToken). run Between (x ++ rest)) d
part_run (Labelled label) tokens rest d = ap (λ (x : List PlainToken). run Between (x ++ rest)) d.0 ∙ run_step Between label rest _ (step_label label d.1)
part_run (InBody s) tokens rest d = body_run s tokens rest d
part_run (InProof s) tokens rest d = proving_run s tokens rest d

-- ---- whole statements

tail_cases : (s : PlainStatement) (kind : Kind) (tail : List PlainToken) → HasBody kind → IsTail s kind tail → ((is_provable kind ≡ false) × (closes_symbols kind ≡ codes "$.") × EndsAtOnce s tail) ⊎ ((kind ≡ Provable) × EndsInProof s tail)
tail_cases s Provable tail h k = inr (refl, k)
tail_cases s Opening tail h k = absurd h
tail_cases s Closing tail h k = absurd h
tail_cases s _ tail h k = inl (refl, refl, k)

-- a statement has symbols, or is a `${` or a `$}`
kind_cases : (kind : Kind) → HasBody kind ⊎ (kind ≡ Opening) ⊎ (kind ≡ Closing)
kind_cases Opening = inr (inl refl)
kind_cases Closing = inr (inr refl)
kind_cases _ = inl tt

room_of : (kind : Kind) (n : ℕ) → FitsCount kind n → kind ≡ Floating → n ≤ 2
room_of Floating n c k = omega arith
room_of _ n c k = absurd cc

at_once_run : (tokens : List PlainToken) (s : PlainStatement) (rest : List PlainToken) (h : Spells tokens s) → HasBody s.kind → is_provable s.kind ≡ false → EndsAtOnce s h.tail
    → run Between (tokens ++ rest) ≡ with_first s (run Between rest)
at_once_run tokens s rest h long np k =
    let body : IsPartBody s (h.head ++ s.symbols) = record { head = h.head; others = h.first.0; whole = refl; begins = h.begins; long = long; first = h.first.1; label = h.label; spelled = h.symbols; room = room_of s.kind (length s.symbols) h.count; proof = k.proof; span = k.span } in
    ap (λ (x : List PlainToken). run Between (x ++ rest)) (h.whole ∙ ap (λ (x : List PlainToken). (h.head ++ s.symbols) ++ x) k.tokens)
    ∙ ap (run Between) (append_assoc (h.head ++ s.symbols) (k.stop ∷ []) rest)
    ∙ body_run s (h.head ++ s.symbols) (k.stop ∷ rest) body
    ∙ run_step (InBody s) k.stop rest (Whole s) (step_whole s k.stop keyword.Stop k.end
    (ap (λ b. spells (codes "$.") (cond b (codes "$=") (codes "$."))) np)
    (has_count_from s.kind (length s.symbols) h.count) np)

-- the tokens of a `$p` up to a part of its proof
pub begun : (own : List PlainToken) (s : PlainStatement) (h : Spells own s)
    (k : EndsInProof s h.tail) (part : List PlainToken) → s.kind ≡ Provable → AreSymbols part
    → IsPartProof (record s { proof = part; span = (k.equals.at + 2, 0) }) ((h.head ++ s.symbols) ++ k.equals ∷ part)
begun own s h k part p steps = record {
  kind = p;
  head = h.head;
  others = h.first.0;
  equals = k.equals;
  whole = refl;
  begins = subst (λ (x : Kind). IsHead x h.head) p h.begins;
  first = h.first.1;
  label = h.label;
  spelled = h.symbols;
  some = subst (λ (x : Kind). FitsCount x (length s.symbols)) p h.count;
  sign = k.sign;
  steps = steps;
  span = refl;
}

in_proof_run : (tokens : List PlainToken) (s : PlainStatement) (rest : List PlainToken) (h : Spells tokens s) → s.kind ≡ Provable → EndsInProof s h.tail
    → run Between (tokens ++ rest) ≡ with_first s (run Between rest)
in_proof_run tokens s rest h p k =
    let begun_proof : PlainStatement = record s { span = (k.equals.at + 2, 0) } in
    let prefix : List PlainToken = (h.head ++ s.symbols) ++ k.equals ∷ s.proof in
    ap (λ (x : List PlainToken). run Between (x ++ rest)) (h.whole ∙ ap (λ (x : List PlainToken). (h.head ++ s.symbols) ++ x) k.tokens ∙ sym (append_assoc (h.head ++ s.symbols) (k.equals ∷ s.proof) (k.stop ∷ [])))
    ∙ ap (run Between) (append_assoc prefix (k.stop ∷ []) rest)
    ∙ proving_run begun_proof prefix (k.stop ∷ rest) (begun tokens s h k s.proof p k.proof)
    ∙ run_step (InProof begun_proof) k.stop rest _ (step_ends_proof begun_proof k.stop keyword.Stop k.end refl)
    ∙ (λ i. with_first (record s { span = sym k.span i }) (run Between rest))

-- the parts of a `${` or a `$}`
pub record IsBlockSign (tokens : List PlainToken) (s : PlainStatement) (kind : Kind) : Type 0 where
  pub sign : PlainToken
  pub alone : tokens ≡ sign ∷ []
  pub text : sign.text ≡ keyword_of kind
  pub same : s ≡ bare_statement kind sign None

-- of a kind whose head is a keyword and which has no symbols
block_sign : (tokens : List PlainToken) (s : PlainStatement) (kind : Kind) → (h : Spells tokens s)
    → s.kind ≡ kind → is_label (keyword_of kind) ≡ false
    → (IsHead kind h.head → IsBareHead kind h.head)
    → (FitsCount kind (length s.symbols) → length s.symbols ≡ 0)
    → (IsTail s kind h.tail → (h.tail ≡ []) × (s.proof ≡ []) × (s.span ≡ (0, 0)))
    → IsBlockSign tokens s kind
block_sign tokens s kind h k no_label bare none ended =
    let b = bare (subst (λ (x : Kind). IsHead x h.head) k h.begins) in
    let (tail, proof, span) = ended (subst (λ (x : Kind). IsTail s x h.tail) k h.ends) in
    let count = subst (λ (x : Kind). FitsCount x (length s.symbols)) k h.count in
    let symbols = nil_from_length s.symbols (none count) in
    let first = (cons_parts b.keyword s.first [] h.first.0 (sym b.tokens ∙ h.first.1)).0 in
    let label : s.label ≡ None = h.label ∙ ap label_in b.tokens ∙ cond-false (is_label b.keyword.text) _ _ (ap is_label b.sign ∙ no_label) in
    record {
      sign = b.keyword;
      alone = h.whole ∙ (λ i. (b.tokens i ++ symbols i) ++ tail i);
      text = b.sign;
      same = λ i. record { kind = k i; first = sym first i; label = label i; symbols = symbols i; proof = proof i; span = span i };
    }

opening_sign : (tokens : List PlainToken) (s : PlainStatement) (h : Spells tokens s) → s.kind ≡ Opening → IsBlockSign tokens s Opening
opening_sign tokens s h k = block_sign tokens s Opening h k refl (λ b. b) (λ n. n) (λ e. e)

closing_sign_of : (tokens : List PlainToken) (s : PlainStatement) (h : Spells tokens s) → s.kind ≡ Closing → IsBlockSign tokens s Closing
closing_sign_of tokens s h k = block_sign tokens s Closing h k refl (λ b. b) (λ n. n) (λ e. e)

statement_run : (tokens : List PlainToken) (s : PlainStatement) (rest : List PlainToken) → Spells tokens s → run Between (tokens ++ rest) ≡ with_first s (run Between rest)
statement_run tokens s rest h =
    elim (kind_cases s.kind) [
      | inl long ↦ elim (tail_cases s s.kind h.tail long h.ends) [
        | inl k ↦ at_once_run tokens s rest h long k.0 k.2
        | inr k ↦ in_proof_run tokens s rest h k.0 k.1
      ]
      | inr (inl k) ↦
          let b = opening_sign tokens s h k in
          ap (λ (x : List PlainToken). run Between (x ++ rest)) b.alone ∙ run_step Between b.sign rest _ (step_opens b.sign b.text) ∙ ap (λ (x : PlainStatement). with_first x (run Between rest)) (sym b.same)
      | inr (inr k) ↦
          let b = closing_sign_of tokens s h k in
          ap (λ (x : List PlainToken). run Between (x ++ rest)) b.alone ∙ run_step Between b.sign rest _ (step_closes b.sign b.text) ∙ ap (λ (x : PlainStatement). with_first x (run Between rest)) (sym b.same)
    ]

statements_run : (tokens : List PlainToken) (statements : List PlainStatement) (rest : List PlainToken) → SpellsAll tokens statements → run Between (tokens ++ rest) ≡ with_all statements (run Between rest)
statements_run tokens [] rest h = ap (λ (x : List PlainToken). run Between (x ++ rest)) h
statements_run tokens (s ∷ statements) rest h =
    ap (λ (x : List PlainToken). run Between (x ++ rest)) h.2
    ∙ ap (run Between) (append_assoc h.0 h.1 rest)
    ∙ statement_run h.0 s _ h.3 ∙ ap (with_first s) (statements_run h.1 statements rest h.4)

-- ---- whole statements and a part

-- tokens that spell statements, and the tokens of a part
pub spelled_run : (tokens finished unfinished : List PlainToken) (statements : List PlainStatement) (part : Part) → tokens ≡ finished ++ unfinished → SpellsAll finished statements → Describes part unfinished → run Between tokens ≡ Runs statements part
spelled_run tokens finished unfinished statements part e h d =
    ap (run Between) e ∙ statements_run finished statements unfinished h
    ∙ ap (with_all statements) (ap (run Between) (sym (append-nil unfinished)) ∙ part_run part unfinished [] d ∙ run-nil part)
    ∙ with_all-runs statements [] part ∙ ap (λ (x : List PlainStatement). Runs x part) (append-nil statements)

-- tokens that spell statements
pub whole_run : (tokens : List PlainToken) (statements : List PlainStatement) → SpellsAll tokens statements → run Between tokens ≡ Runs statements Between
whole_run tokens statements h = spelled_run tokens tokens [] statements Between (sym (append-nil tokens)) h refl

-- a `${` or a `$}` alone
pub spells_sign : (kind : Kind) (tokens : List PlainToken) (t : PlainToken) → tokens ≡ [] → t.text ≡ keyword_of kind → is_label (keyword_of kind) ≡ false
    → IsHead kind (t ∷ []) → FitsCount kind 0 → IsTail (bare_statement kind t None) kind [] → Spells (tokens ++ t ∷ []) (bare_statement kind t None)
spells_sign kind tokens t none sign no_label begins count ends = record {
  head = t ∷ [];
  tail = [];
  whole = ap (λ (x : List PlainToken). x ++ t ∷ []) none;
  begins = begins;
  first = ([], refl);
  label = sym (cond-false (is_label t.text) _ _ (ap is_label sign ∙ no_label));
  symbols = tt;
  count = count;
  ends = ends;
}

-- ==== the beginnings of statements are the prefixes of whole statements

-- ---- a beginning is finished by more tokens

-- tokens that finish a statement
abbrev token_of : List ℕ → PlainToken
token_of text = record { text = text; file = 0; at = 0 }

-- tokens begin a statement where they do with one more
begins_before : (tokens : List PlainToken) (t : PlainToken) → BeginsStatement (tokens ++ t ∷ [])
    → BeginsStatement tokens
begins_before tokens t b = record {
  more = t ∷ b.more;
  some = λ e. cc;
  statement = b.statement;
  spelled = rw (append_assoc tokens (t ∷ []) b.more) at b.spelled;
}

-- what a keyword makes of them
by_keyword : (part : Part) (tokens : List PlainToken) (text : List ℕ) (s : Step)
    → is_keyword text ≡ true → Describes part tokens → step part (token_of text) ≡ s
    → StepsTo tokens (token_of text) s
by_keyword part tokens text s key d e =
    subst (StepsTo tokens (token_of text)) e
    (step_right part tokens (token_of text) (inl (is_keyword-true text key)) d)

proof_begins : (s : PlainStatement) (tokens : List PlainToken) → IsPartProof s tokens
    → BeginsStatement tokens
proof_begins s tokens d =
    let stop = token_of (codes "$.") in
    let (spelled, _) = by_keyword (InProof s) tokens stop.text (Whole _) refl d
    (step_ends_proof s stop keyword.Stop refl refl) in
    record { more = stop ∷ []; some = λ e. cc; statement = _; spelled = spelled }

-- two symbols are enough
enough : (kind : Kind) (n : ℕ) → HasBody kind → 2 ≤ n → (kind ≡ Floating → n ≤ 2) → FitsCount kind n
enough Floating n h le room = let most = room refl in omega arith
enough Opening n h le room = absurd h
enough Closing n h le room = absurd h
enough _ n h le room = omega arith

full_begins : (s : PlainStatement) (tokens : List PlainToken) → IsPartBody s tokens
    → 2 ≤ length s.symbols → BeginsStatement tokens
full_begins s tokens d le =
    let stop = token_of (codes "$.") in
    let equals = token_of (codes "$=") in
    let count = has_count_from s.kind (length s.symbols)
    (enough s.kind (length s.symbols) d.long le d.room) in
    elim (cases_Bool (is_provable s.kind)) [
      | inl p ↦
          begins_before tokens equals (proof_begins _ _
          (by_keyword (InBody s) tokens equals.text (More (InProof _)) refl d
          (step_to_proof s equals keyword.Equals refl (rw p refl) count p)))
      | inr np ↦
          let (spelled, _) = by_keyword (InBody s) tokens stop.text (Whole s) refl d
          (step_whole s stop keyword.Stop refl (rw np refl) count np) in
          record { more = stop ∷ []; some = λ e. cc; statement = s; spelled = spelled }
    ]

-- with so many symbols more at most
body_begins : (more : ℕ) (s : PlainStatement) (tokens : List PlainToken) → IsPartBody s tokens
    → 2 ≤ length s.symbols + more → BeginsStatement tokens
body_begins zero s tokens d le = full_begins s tokens d (omega arith)
body_begins (suc more) s tokens d le = elim (cases_lt (length s.symbols) 2) [
  | inr enough ↦ full_begins s tokens d enough
  | inl few ↦
      let t = token_of (codes "x") in
      let room = not_full s.kind (length s.symbols) (λ _. few) in
      let longer = length-append s.symbols (t ∷ []) in
      begins_before tokens t (body_begins more (record s { symbols = s.symbols ++ t ∷ [] }) _
      (subst (StepsTo tokens t) (step_symbol s t refl room)
      (step_right (InBody s) tokens t (inr refl) d)) (omega arith))
]

part_begins : (part : Part) (tokens : List PlainToken) → Describes part tokens
    → BeginsStatement tokens
-- `$c x x $.`
part_begins Between tokens d =
    let t = token_of (codes "$c") in
    begins_before tokens t (body_begins 2 _ _ (by_keyword Between tokens t.text (More (InBody _))
    refl d (start_keyword t keyword.Constants refl refl)) (omega arith))
-- a label, and `$a x x $.`
part_begins (Labelled label) tokens d =
    let t = token_of (codes "$a") in
    begins_before tokens t (body_begins 2 _ _ (by_keyword (Labelled label) tokens t.text
    (More (InBody _)) refl d (label_keyword label t keyword.Axiom refl)) (omega arith))
part_begins (InBody s) tokens d = body_begins 2 s tokens d (omega arith)
part_begins (InProof s) tokens d = proof_begins s tokens d

-- ---- a prefix of a statement is a beginning

-- a list ends inside the first of two
record Inside (xs ys us vs : List PlainToken) : Type 0 where
  mid : List PlainToken
  longer : us ≡ xs ++ mid
  rest : ys ≡ mid ++ vs

-- or past it
record Past (xs ys us vs : List PlainToken) : Type 0 where
  next : PlainToken
  mid : List PlainToken
  longer : xs ≡ us ++ next ∷ mid
  rest : vs ≡ (next ∷ mid) ++ ys

cut : (xs ys us vs : List PlainToken) → xs ++ ys ≡ us ++ vs → Inside xs ys us vs ⊎ Past xs ys us vs
cut [] ys us vs e = inl (record { mid = us; longer = refl; rest = e })
cut (x ∷ xs) ys [] vs e = inr (record { next = x; mid = xs; longer = refl; rest = sym e })
cut (x ∷ xs) ys (a ∷ us) vs e = elim (cut xs ys us vs cc) [
  | inl h ↦ inl (record { mid = h.mid; longer = cc; rest = h.rest })
  | inr h ↦ inr (record { next = h.next; mid = h.mid; longer = cc; rest = h.rest })
]

nil_parts : (a b : List PlainToken) → a ++ b ≡ [] → (a ≡ []) × (b ≡ [])
nil_parts [] b e = (refl, e)
nil_parts (t ∷ a) b e = absurd cc

-- the head of a statement, with no symbols yet, is an unfinished statement
head_body : (kind : Kind) (head tokens : List PlainToken) → HasBody kind → IsHead kind head
    → tokens ≡ head → IsBody tokens kind []
head_body kind head tokens long h e = record {
  head = head;
  whole = e ∙ sym (append-nil head);
  begins = h;
  long = long;
  spelled = tt;
  room = λ _. omega arith;
}

-- up to a part of the head
labelled_prefix : (kind : Kind) (head tokens mid : List PlainToken) → HasBody kind → IsHead kind head → IsLabelledHead kind head → head ≡ tokens ++ mid → IsBeginning tokens
labelled_prefix kind head [] mid long h b e = inl refl
labelled_prefix kind head (t ∷ []) mid long h b e =
    inr (inl (record { label = b.label; whole = ap (λ (x : PlainToken). x ∷ []) (cons_parts t b.label mid (b.keyword ∷ []) (sym e ∙ b.tokens)).0; named = b.named }))
labelled_prefix kind head (t ∷ u ∷ tokens) mid long h b e =
    let none = nil_parts tokens mid cc in
    inr (inr (inl (kind, [], head_body kind head (t ∷ u ∷ tokens) long h cc)))

head_prefix : (kind : Kind) (head tokens mid : List PlainToken) → HasBody kind → IsHead kind head → head ≡ tokens ++ mid → IsBeginning tokens
head_prefix kind head [] mid long h e = inl refl
head_prefix Floating head tokens mid long h e = labelled_prefix Floating head tokens mid long h h e
head_prefix Essential head tokens mid long h e = labelled_prefix Essential head tokens mid long h h e
head_prefix Axiom head tokens mid long h e = labelled_prefix Axiom head tokens mid long h h e
head_prefix Provable head tokens mid long h e = labelled_prefix Provable head tokens mid long h h e
head_prefix Opening head tokens mid long h e = absurd long
head_prefix Closing head tokens mid long h e = absurd long
head_prefix kind head (t ∷ tokens) mid long h e =
    let parts = cons_parts t h.keyword (tokens ++ mid) [] (sym e ∙ h.tokens) in
    inr (inr (inl (kind, [], head_body kind head (t ∷ tokens) long h ((λ i. parts.0 i ∷ (nil_parts tokens mid parts.1).0 i) ∙ sym h.tokens))))

-- up to some of the symbols
symbols_prefix : (tokens more : List PlainToken) (s : PlainStatement) (h : Spells (tokens ++ more) s) → HasBody s.kind → Inside tokens more (h.head ++ s.symbols) h.tail → IsBeginning tokens
symbols_prefix tokens more s h long c =
    elim (cut tokens c.mid h.head s.symbols (sym c.longer)) [
      | inl d ↦ head_prefix s.kind h.head tokens d.mid long h.begins d.longer
      | inr d ↦ inr (inr (inl (
        s.kind,
        d.next ∷ d.mid,
        record {
          head = h.head;
          whole = d.longer;
          begins = h.begins;
          long = long;
          spelled = all_prefix (λ t. HoldsNoDollar t.text) (d.next ∷ d.mid) c.mid (subst AreSymbols d.rest h.symbols);
          room = λ k. let le = room_of s.kind (length s.symbols) h.count k in omega (arith, ap (length {A = PlainToken}) d.rest, length-append (d.next ∷ d.mid) c.mid);
        },
      )))
    ]

-- up to a part of the proof
tail_prefix : (tokens more : List PlainToken) (s : PlainStatement) (h : Spells (tokens ++ more) s) → HasBody s.kind → more ≢ [] → Past tokens more (h.head ++ s.symbols) h.tail → IsBeginning tokens
tail_prefix tokens more s h long some c =
    elim (tail_cases s s.kind h.tail long h.ends) [
      | inl k ↦ absurd (some (nil_parts c.mid more (cons_parts c.next k.2.stop (c.mid ++ more) [] (sym c.rest ∙ k.2.tokens)).1).1)
      | inr k ↦
          let parts = cons_parts c.next k.1.equals (c.mid ++ more) (s.proof ++ k.1.stop ∷ []) (sym c.rest ∙ k.1.tokens) in
          elim (cut c.mid more s.proof (k.1.stop ∷ []) parts.1) [
            | inl d ↦ inr (inr (inr (record {
              body = h.head ++ s.symbols;
              symbols = s.symbols;
              equals = c.next;
              proof = c.mid;
              whole = c.longer;
              stated = record { head = h.head; whole = refl; begins = subst (λ (x : Kind). IsHead x h.head) k.0 h.begins; long = tt; spelled = h.symbols; room = λ e. absurd cc };
              some = subst (λ (x : Kind). FitsCount x (length s.symbols)) k.0 h.count;
              sign = ap (λ (t : PlainToken). t.text) parts.0 ∙ k.1.sign;
              steps = all_prefix (λ t. HoldsNoDollar t.text) c.mid d.mid (subst AreSymbols d.longer k.1.proof);
            })))
            | inr d ↦ absurd (some (nil_parts d.mid more (cons_parts d.next k.1.stop (d.mid ++ more) [] (sym d.rest)).1).1)
          ]
    ]

-- a prefix of a `${` or of a `$}` that isn't all of it is nothing
sign_prefix : (tokens more : List PlainToken) (s : PlainStatement) (kind : Kind) → IsBlockSign (tokens ++ more) s kind → more ≢ [] → IsBeginning tokens
sign_prefix [] more s kind b some = inl refl
sign_prefix (t ∷ tokens) more s kind b some = absurd (some (nil_parts tokens more (cons_parts t b.sign (tokens ++ more) [] b.alone).1).1)

is_beginning : (tokens : List PlainToken) → BeginsStatement tokens → IsBeginning tokens
is_beginning tokens b =
    elim (kind_cases b.statement.kind) [
      | inl long ↦ elim (cut tokens b.more (b.spelled.head ++ b.statement.symbols) b.spelled.tail b.spelled.whole) [
        | inl c ↦ symbols_prefix tokens b.more b.statement b.spelled long c
        | inr c ↦ tail_prefix tokens b.more b.statement b.spelled long b.some c
      ]
      | inr (inl k) ↦ sign_prefix tokens b.more b.statement Opening (opening_sign (tokens ++ b.more) b.statement b.spelled k) b.some
      | inr (inr k) ↦ sign_prefix tokens b.more b.statement Closing (closing_sign_of (tokens ++ b.more) b.statement b.spelled k) b.some
    ]

pub beginnings_begin_statements : BeginningsBeginStatements
beginnings_begin_statements tokens = (
  λ b. let (part, d) = part_of_beginning tokens b in part_begins part tokens d,
  is_beginning tokens,
)
