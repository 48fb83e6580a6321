-- Unfinished statements: their tokens, and that what the reader makes of one more token is what the
-- grammar says.
use Rattle.std.proofs.Common.{◌≡◌, ◌+◌, ◌≤◌, length, List, [], ◌∷◌, ◌++◌, refl, sym, ap, subst, ◌∙◌}
use Rattle.std.proofs.Common.{codes, append_assoc, Some, ◌⊎◌, inl, inr, ◌≢◌, ℕ, Bool, true, false}
use Rattle.std.proofs.Common.{cond, Option, None, arith, append-nil, length-append, eqb-true}
use Rattle.std.proofs.Common.{leb-true, le-leb, eq-eqb}
use Rattle.std.proofs.lemmas.Bool.{both_ways, cond_both, eqb-false}
use Rattle.mm_base.specs.declared.statement.Kind.{Kind}
use Rattle.mm_base.specs.declared.statement.Kind.TheVariants.{Floating, Essential, Axiom, Provable}
use Rattle.mm_base.specs.declared.statement.Kind.TheVariants.{Constants, Variables, Distinct}
use Rattle.mm_base.specs.declared.statement.Kind.TheVariants.{Opening, Closing}
use Rattle.mm_base.specs.Token.{PlainToken, IsLabel, is_label, HoldsNoDollar}
use Rattle.mm_base.specs.Statement.{PlainStatement, IsHead, HasBody, AreSymbols, label_in}
use Rattle.mm_base.specs.Statement.{FitsCount, keyword_of, Spells, IsTail, EndsAtOnce, is_provable}
use Rattle.mm_text.specs.Reading.{IsBeginning, IsBody, IsInProof, closes_symbols, Meets}
use Rattle.mm_text.specs.Mirror.Reader.{Part, Between, Labelled, InBody, InProof, part_label}
use Rattle.mm_text.specs.Mirror.Reader.{part_first, Step, More, Whole, Opened, Closed, Faulty, step}
use Rattle.mm_text.specs.Mirror.Reader.{is_keyword, has_count, is_full}
use Rattle.mm_base.specs.Begun.{bare_statement}
use Rattle.mm_base.specs.Spelling.{spells}
use Rattle.mm_text.proofs.Reader.OneToken.{same_text-true, same_text-false, is_keyword-true}
use Rattle.mm_text.proofs.Reader.OneToken.{is_keyword-false, IsSigned, signed_word}
use Rattle.mm_base.proofs.Lists.{all_append}

-- ==== what a reader has of an unfinished statement, against its tokens

-- the tokens of a statement of which only symbols were read after its head
pub record IsPartBody (s : PlainStatement) (tokens : List PlainToken) : Type 0 where
  pub head : List PlainToken
  pub others : List PlainToken
  pub whole : tokens ≡ head ++ s.symbols
  pub begins : IsHead s.kind head
  pub long : HasBody s.kind
  pub first : head ≡ s.first ∷ others
  pub label : s.label ≡ label_in head
  pub spelled : AreSymbols s.symbols
  pub room : s.kind ≡ Floating → length s.symbols ≤ 2
  pub proof : s.proof ≡ []
  pub span : s.span ≡ (0, 0)

-- the tokens of a `$p` of which a part of the proof was read
pub record IsPartProof (s : PlainStatement) (tokens : List PlainToken) : Type 0 where
  pub kind : s.kind ≡ Provable
  pub head : List PlainToken
  pub others : List PlainToken
  pub equals : PlainToken
  pub whole : tokens ≡ (head ++ s.symbols) ++ equals ∷ s.proof
  pub begins : IsHead Provable head
  pub first : head ≡ s.first ∷ others
  pub label : s.label ≡ label_in head
  pub spelled : AreSymbols s.symbols
  pub some : 1 ≤ length s.symbols
  pub sign : equals.text ≡ codes "$="
  pub steps : AreSymbols s.proof
  pub span : s.span ≡ (equals.at + 2, 0)

-- these tokens are what the reader has
abbrev pub Describes : Part → List PlainToken → Type 0
Describes Between tokens = tokens ≡ []
Describes (Labelled label) tokens = (tokens ≡ label ∷ []) × IsLabel label.text
Describes (InBody s) tokens = IsPartBody s tokens
Describes (InProof s) tokens = IsPartProof s tokens

-- the label of the head is the label of all tokens
label_in-prefix : (head : List PlainToken) (first : PlainToken) (others more : List PlainToken) → head ≡ first ∷ others → label_in (head ++ more) ≡ label_in head
label_in-prefix head first others more e = subst (λ (h : List PlainToken). label_in (h ++ more) ≡ label_in h) (sym e) refl

pub Describes-label : (part : Part) (tokens : List PlainToken) → Describes part tokens → label_in tokens ≡ part_label part
Describes-label Between tokens d = ap label_in d
Describes-label (Labelled label) tokens d = ap label_in d.0 ∙ rw d.1 refl
Describes-label (InBody s) tokens d = ap label_in d.whole ∙ label_in-prefix d.head s.first d.others s.symbols d.first ∙ sym d.label
Describes-label (InProof s) tokens d =
    ap label_in (d.whole ∙ append_assoc d.head s.symbols (d.equals ∷ s.proof)) ∙ label_in-prefix d.head s.first d.others (s.symbols ++ d.equals ∷ s.proof) d.first ∙ sym d.label

-- ---- a head by itself

pub record IsStarted (kind : Kind) (head : List PlainToken) : Type 0 where
  pub first : PlainToken
  pub others : List PlainToken
  pub is : head ≡ first ∷ others

pub started : (kind : Kind) (head : List PlainToken) → IsHead kind head → IsStarted kind head
started Floating head h = record { first = h.label; others = h.keyword ∷ []; is = h.tokens }
started Essential head h = record { first = h.label; others = h.keyword ∷ []; is = h.tokens }
started Axiom head h = record { first = h.label; others = h.keyword ∷ []; is = h.tokens }
started Provable head h = record { first = h.label; others = h.keyword ∷ []; is = h.tokens }
started _ head h = record { first = h.keyword; others = []; is = h.tokens }

-- a body is what the reader has in one
pub part_of_body : (tokens : List PlainToken) (kind : Kind) (symbols : List PlainToken) → IsBody tokens kind symbols
    → (s : PlainStatement) × (s.kind ≡ kind) × (s.symbols ≡ symbols) × IsPartBody s tokens
part_of_body tokens kind symbols b =
    let st = started kind b.head b.begins in
    let s : PlainStatement = record { kind = kind; first = st.first; label = label_in b.head; symbols = symbols; proof = []; span = (0, 0) } in
    (s, refl, refl, record { head = b.head; others = st.others; whole = b.whole; begins = b.begins; long = b.long; first = st.is; label = refl; spelled = b.spelled; room = b.room; proof = refl; span = refl })

pub part_of_proof : (tokens : List PlainToken) → IsInProof tokens → (s : PlainStatement) × IsPartProof s tokens
part_of_proof tokens p =
    let b = p.stated in
    let st = started Provable b.head b.begins in
    let s : PlainStatement = record { kind = Provable; first = st.first; label = label_in b.head; symbols = p.symbols; proof = p.proof; span = (p.equals.at + 2, 0) } in
    (s, record { kind = refl; head = b.head; others = st.others; equals = p.equals; whole = p.whole ∙ ap (λ (x : List PlainToken). x ++ p.equals ∷ p.proof) b.whole; begins = b.begins; first = st.is; label = refl; spelled = b.spelled; some = p.some; sign = p.sign; steps = p.steps; span = refl })

pub part_of_beginning : (tokens : List PlainToken) → IsBeginning tokens → (part : Part) × Describes part tokens
part_of_beginning tokens (inl none) = (Between, none)
part_of_beginning tokens (inr (inl lone)) = (Labelled lone.label, (lone.whole, lone.named))
part_of_beginning tokens (inr (inr (inl b))) = let found = part_of_body tokens b.0 b.1 b.2 in (InBody found.0, found.3)
part_of_beginning tokens (inr (inr (inr p))) = let found = part_of_proof tokens p in (InProof found.0, found.1)

-- and the other way round
body_of_part : (s : PlainStatement) (tokens : List PlainToken) → IsPartBody s tokens → IsBody tokens s.kind s.symbols
body_of_part s tokens d = record { head = d.head; whole = d.whole; begins = d.begins; long = d.long; spelled = d.spelled; room = d.room }

proof_of_part : (s : PlainStatement) (tokens : List PlainToken) → IsPartProof s tokens → IsInProof tokens
proof_of_part s tokens d = record {
  body = d.head ++ s.symbols;
  symbols = s.symbols;
  equals = d.equals;
  proof = s.proof;
  whole = d.whole;
  stated = record { head = d.head; whole = refl; begins = d.begins; long = tt; spelled = d.spelled; room = λ e. absurd cc };
  some = d.some;
  sign = d.sign;
  steps = d.steps;
}

pub beginning_of_part : (part : Part) (tokens : List PlainToken) → Describes part tokens → IsBeginning tokens
beginning_of_part Between tokens d = inl d
beginning_of_part (Labelled label) tokens d = inr (inl (record { label = label; whole = d.0; named = d.1 }))
beginning_of_part (InBody s) tokens d = inr (inr (inl (s.kind, s.symbols, body_of_part s tokens d)))
beginning_of_part (InProof s) tokens d = inr (inr (inr (proof_of_part s tokens d)))

-- a part has no token, or a first one
pub first_of_part : (part : Part) (tokens : List PlainToken) → Describes part tokens
    → ((part ≡ Between) × (tokens ≡ [])) ⊎ ((first : PlainToken) × (others : List PlainToken) × (part_first part ≡ Some first) × (tokens ≡ first ∷ others))
first_of_part Between tokens d = inl (refl, d)
first_of_part (Labelled label) tokens d = inr (label, [], refl, d.0)
first_of_part (InBody s) tokens d = inr (s.first, _, refl, rw d.first at d.whole)
first_of_part (InProof s) tokens d = inr (s.first, _, refl, rw d.first at d.whole)

-- ==== what a token makes of an unfinished statement is what the grammar says

-- ---- kinds

pub has_count-true : (kind : Kind) (n : ℕ) → has_count kind n ≡ true → FitsCount kind n
has_count-true Distinct n e = leb-true 2 n e
has_count-true Floating n e = eqb-true n 2 e
has_count-true Opening n e = eqb-true n 0 e
has_count-true Closing n e = eqb-true n 0 e
has_count-true _ n e = leb-true 1 n e

pub has_count_from : (kind : Kind) (n : ℕ) → FitsCount kind n → has_count kind n ≡ true
has_count_from Distinct n h = le-leb 2 n h
has_count_from Floating n h = eq-eqb n 2 h
has_count_from Opening n h = eq-eqb n 0 h
has_count_from Closing n h = eq-eqb n 0 h
has_count_from _ n h = le-leb 1 n h

pub is_provable-true : (kind : Kind) → is_provable kind ≡ true → kind ≡ Provable
is_provable-true Provable e = refl
is_provable-true _ e = absurd cc

pub closing_sign : (kind : Kind) → cond (is_provable kind) (codes "$=") (codes "$.") ≡ closes_symbols kind
closing_sign Provable = refl
closing_sign _ = refl

is_full-true : (kind : Kind) (n : ℕ) → is_full kind n ≡ true → (kind ≡ Floating) × (n ≡ 2)
is_full-true Floating n e = (refl, eqb-true n 2 e)
is_full-true _ n e = absurd cc

is_full-false : (kind : Kind) (n : ℕ) → is_full kind n ≡ false → kind ≡ Floating → n ≢ 2
is_full-false Floating n e f = eqb-false n 2 e
is_full-false _ n e f = absurd cc

-- what ends the symbols of a statement with no proof ends the statement
tail_at_once : (s : PlainStatement) (kind : Kind) (tail : List PlainToken) → is_provable kind ≡ false → HasBody kind → EndsAtOnce s tail → IsTail s kind tail
tail_at_once s Provable tail e h k = absurd cc
tail_at_once s Opening tail e h k = absurd h
tail_at_once s Closing tail e h k = absurd h
tail_at_once s _ tail e h k = k

-- ---- one token

-- what a token makes of a statement of which these tokens were read
abbrev pub StepsTo : List PlainToken → PlainToken → Step → Type 0
StepsTo tokens t (More next) = Describes next (tokens ++ t ∷ [])
StepsTo tokens t (Whole s) = Spells (tokens ++ t ∷ []) s × HasBody s.kind
StepsTo tokens t Opened = (tokens ≡ []) × (t.text ≡ codes "${")
StepsTo tokens t Closed = (tokens ≡ []) × (t.text ≡ codes "$}")
StepsTo tokens t (Faulty rule) = (statements : List PlainStatement) → Meets statements tokens t rule

-- a whole head
begun : (kind : Kind) (first : PlainToken) (others all : List PlainToken)
    (label : Option PlainToken) → all ≡ first ∷ others → IsHead kind (first ∷ others) → HasBody kind
    → label ≡ label_in (first ∷ others) → IsPartBody (bare_statement kind first label) all
begun kind first others all label d h long e = record {
  head = first ∷ others;
  others = others;
  whole = d ∙ sym (append-nil (first ∷ others));
  begins = h;
  long = long;
  first = refl;
  label = e;
  spelled = tt;
  room = λ _. omega arith;
  proof = refl;
  span = refl;
}

-- `$c`, `$v` and `$d`
bare_right : (kind : Kind) (tokens : List PlainToken) (t : PlainToken) → tokens ≡ [] → t.text ≡ keyword_of kind → HasBody kind → IsHead kind (t ∷ []) → is_label (keyword_of kind) ≡ false → StepsTo tokens t (More (InBody (bare_statement kind t None)))
bare_right kind tokens t d e long h none =
    begun kind t [] _ None (ap (λ (x : List PlainToken). x ++ t ∷ []) d) h long (rw (e, none) refl)

labelled_right : (kind : Kind) (label : PlainToken) (tokens : List PlainToken) (t : PlainToken) → tokens ≡ label ∷ [] → IsLabel label.text → HasBody kind → IsHead kind (label ∷ t ∷ []) → StepsTo tokens t (More (InBody (bare_statement kind label (Some label))))
labelled_right kind label tokens t d l long h =
    let whole = ap (λ (x : List PlainToken). x ++ t ∷ []) d in
    begun kind label (t ∷ []) _ (Some label) whole h long (rw l refl)

-- the `$=`
body_equals : (s : PlainStatement) (tokens : List PlainToken) (t : PlainToken) → IsPartBody s tokens → s.kind ≡ Provable → t.text ≡ codes "$=" → FitsCount s.kind (length s.symbols)
    → IsPartProof (record s { span = (t.at + 2, 0) }) (tokens ++ t ∷ [])
body_equals s tokens t d p e c = record {
  kind = p;
  head = d.head;
  others = d.others;
  equals = t;
  whole = ap (λ (x : List PlainToken). x ++ t ∷ []) d.whole ∙ ap (λ (x : List PlainToken). (d.head ++ s.symbols) ++ t ∷ x) (sym d.proof);
  begins = subst (λ (k : Kind). IsHead k d.head) p d.begins;
  first = d.first;
  label = d.label;
  spelled = d.spelled;
  some = subst (λ (k : Kind). FitsCount k (length s.symbols)) p c;
  sign = e;
  steps = subst AreSymbols (sym d.proof) tt;
  span = refl;
}

-- the `$.` of a statement with no proof
body_ends : (s : PlainStatement) (tokens : List PlainToken) (t : PlainToken) → IsPartBody s tokens → is_provable s.kind ≡ false → t.text ≡ codes "$." → FitsCount s.kind (length s.symbols)
    → Spells (tokens ++ t ∷ []) s
body_ends s tokens t d p e c = record {
  head = d.head;
  tail = t ∷ [];
  whole = ap (λ (x : List PlainToken). x ++ t ∷ []) d.whole;
  begins = d.begins;
  first = (d.others, d.first);
  label = d.label;
  symbols = d.spelled;
  count = c;
  ends = tail_at_once s s.kind (t ∷ []) p d.long (record { stop = t; tokens = refl; end = e; proof = d.proof; span = d.span });
}

body_symbol : (s : PlainStatement) (tokens : List PlainToken) (t : PlainToken) → IsPartBody s tokens → HoldsNoDollar t.text → is_full s.kind (length s.symbols) ≡ false
    → IsPartBody (record s { symbols = s.symbols ++ t ∷ [] }) (tokens ++ t ∷ [])
body_symbol s tokens t d h f = record {
  head = d.head;
  others = d.others;
  whole = ap (λ x. x ++ t ∷ []) d.whole ∙ append_assoc d.head s.symbols (t ∷ []);
  begins = d.begins;
  long = d.long;
  first = d.first;
  label = d.label;
  spelled = all_append (λ t. HoldsNoDollar t.text) s.symbols (t ∷ []) d.spelled (h, tt);
  room = λ k. let ne = is_full-false s.kind (length s.symbols) f k in let le = d.room k in omega (arith, length-append s.symbols (t ∷ []));
  proof = d.proof;
  span = d.span;
}

-- the `$.` after a proof
proof_ends : (s : PlainStatement) (tokens : List PlainToken) (t : PlainToken) → IsPartProof s tokens → t.text ≡ codes "$." → Spells (tokens ++ t ∷ []) (record s { span = (s.span.0, t.at) })
proof_ends s tokens t d e =
    record {
      head = d.head;
      tail = d.equals ∷ s.proof ++ t ∷ [];
      whole = ap (λ (x : List PlainToken). x ++ t ∷ []) d.whole ∙ append_assoc (d.head ++ s.symbols) (d.equals ∷ s.proof) (t ∷ []);
      begins = subst (λ (k : Kind). IsHead k d.head) (sym d.kind) d.begins;
      first = (d.others, d.first);
      label = d.label;
      symbols = d.spelled;
      count = subst (λ (k : Kind). FitsCount k (length s.symbols)) (sym d.kind) d.some;
      ends = subst (λ (k : Kind). IsTail (record s { span = (s.span.0, t.at) }) k (d.equals ∷ s.proof ++ t ∷ [])) (sym d.kind) (record { equals = d.equals; stop = t; tokens = refl; sign = d.sign; end = e; proof = d.steps; span = ap (λ (x : ℕ × ℕ). (x.0, t.at)) d.span });
    }

proof_token : (s : PlainStatement) (tokens : List PlainToken) (t : PlainToken) → IsPartProof s tokens → HoldsNoDollar t.text → IsPartProof (record s { proof = s.proof ++ t ∷ [] }) (tokens ++ t ∷ [])
proof_token s tokens t d h = record {
  kind = d.kind;
  head = d.head;
  others = d.others;
  equals = d.equals;
  whole = ap (λ (x : List PlainToken). x ++ t ∷ []) d.whole ∙ append_assoc (d.head ++ s.symbols) (d.equals ∷ s.proof) (t ∷ []);
  begins = d.begins;
  first = d.first;
  label = d.label;
  spelled = d.spelled;
  some = d.some;
  sign = d.sign;
  steps = all_append (λ t. HoldsNoDollar t.text) s.proof (t ∷ []) d.steps (h, tt);
  span = d.span;
}

-- the reader's step is the grammar's
pub step_right : (part : Part) (tokens : List PlainToken) (t : PlainToken) → IsSigned t → Describes part tokens → StepsTo tokens t (step part t)
unfolding step
step_right Between tokens t ok d =
    cond_both (spells t.text (codes "$c")) _ _ (StepsTo tokens t)
    (λ c. let e = same_text-true t.text (codes "$c") c in bare_right Constants tokens t d e tt (record { keyword = t; tokens = refl; sign = e }) refl)
    (λ nc. cond_both (spells t.text (codes "$v")) _ _ (StepsTo tokens t)
    (λ v. let e = same_text-true t.text (codes "$v") v in bare_right Variables tokens t d e tt (record { keyword = t; tokens = refl; sign = e }) refl)
    (λ nv. cond_both (spells t.text (codes "$d")) _ _ (StepsTo tokens t)
    (λ x. let e = same_text-true t.text (codes "$d") x in bare_right Distinct tokens t d e tt (record { keyword = t; tokens = refl; sign = e }) refl)
    (λ nd. cond_both (spells t.text (codes "${")) _ _ (StepsTo tokens t)
    (λ o. (d, same_text-true t.text (codes "${") o))
    (λ no. cond_both (spells t.text (codes "$}")) _ _ (StepsTo tokens t)
    (λ l. (d, same_text-true t.text (codes "$}") l))
    (λ nl. cond_both (is_keyword t.text) _ _ (StepsTo tokens t)
    (λ k statements. (d, is_keyword-true t.text k, same_text-false t.text (codes "$c") nc, same_text-false t.text (codes "$v") nv, same_text-false t.text (codes "$d") nd, same_text-false t.text (codes "${") no, same_text-false t.text (codes "$}") nl))
    (λ nk. cond_both (is_label t.text) _ _ (StepsTo tokens t)
    (λ l. (ap (λ (x : List PlainToken). x ++ t ∷ []) d, l))
    (λ none statements. (d, is_keyword-false t.text nk, λ l. both_ways _ none l))))))))
step_right (Labelled label) tokens t ok (d, l) =
    cond_both (spells t.text (codes "$f")) _ _ (StepsTo tokens t)
    (λ f. labelled_right Floating label tokens t d l tt (record { label = label; keyword = t; tokens = refl; named = l; sign = same_text-true t.text (codes "$f") f }))
    (λ nf. cond_both (spells t.text (codes "$e")) _ _ (StepsTo tokens t)
    (λ e. labelled_right Essential label tokens t d l tt (record { label = label; keyword = t; tokens = refl; named = l; sign = same_text-true t.text (codes "$e") e }))
    (λ ne. cond_both (spells t.text (codes "$a")) _ _ (StepsTo tokens t)
    (λ a. labelled_right Axiom label tokens t d l tt (record { label = label; keyword = t; tokens = refl; named = l; sign = same_text-true t.text (codes "$a") a }))
    (λ na. cond_both (spells t.text (codes "$p")) _ _ (StepsTo tokens t)
    (λ p. labelled_right Provable label tokens t d l tt (record { label = label; keyword = t; tokens = refl; named = l; sign = same_text-true t.text (codes "$p") p }))
    (λ np statements. (record { label = label; whole = d; named = l }, same_text-false t.text (codes "$f") nf, same_text-false t.text (codes "$e") ne, same_text-false t.text (codes "$a") na, same_text-false t.text (codes "$p") np)))))
step_right (InBody s) tokens t ok d =
    cond_both (is_keyword t.text) _ _ (StepsTo tokens t)
    (λ k. cond_both (spells t.text (cond (is_provable s.kind) (codes "$=") (codes "$."))) _ _ (StepsTo tokens t)
    (λ same. let sign = same_text-true t.text (cond (is_provable s.kind) (codes "$=") (codes "$.")) same in
    cond_both (has_count s.kind (length s.symbols)) _ _ (StepsTo tokens t)
    (λ c. let count = has_count-true s.kind (length s.symbols) c in
    cond_both (is_provable s.kind) _ _ (StepsTo tokens t)
    (λ p. body_equals s tokens t d (is_provable-true s.kind p) (sign ∙ ap (λ (b : Bool). cond b (codes "$=") (codes "$.")) p) count)
    (λ np. (body_ends s tokens t d np (sign ∙ ap (λ (b : Bool). cond b (codes "$=") (codes "$.")) np) count, d.long)))
    (λ nc statements. (s.kind, s.symbols, body_of_part s tokens d, inl (sign ∙ closing_sign s.kind, λ f. both_ways _ nc (has_count_from s.kind (length s.symbols) f)))))
    (λ other statements. (is_keyword-true t.text k, inl (s.kind, s.symbols, body_of_part s tokens d, λ e. same_text-false t.text (cond (is_provable s.kind) (codes "$=") (codes "$.")) other (e ∙ sym (closing_sign s.kind))))))
    (λ nk. cond_both (is_full s.kind (length s.symbols)) _ _ (StepsTo tokens t)
    (λ f statements. let full = is_full-true s.kind (length s.symbols) f in (s.kind, s.symbols, body_of_part s tokens d, inr (signed_word t ok nk, full.0, full.1)))
    (λ nf. body_symbol s tokens t d (signed_word t ok nk) nf))
step_right (InProof s) tokens t ok d =
    cond_both (is_keyword t.text) _ _ (StepsTo tokens t)
    (λ k. cond_both (spells t.text (codes "$.")) _ _ (StepsTo tokens t)
    (λ same. (proof_ends s tokens t d (same_text-true t.text (codes "$.") same), subst HasBody (sym d.kind) tt))
    (λ other statements. (is_keyword-true t.text k, inr (proof_of_part s tokens d, same_text-false t.text (codes "$.") other))))
    (λ nk. proof_token s tokens t d (signed_word t ok nk))
