-- The reader and the grammar: what the reader computes of items is a reading of them, and a reading
-- of items is what it computes, so there is one. The prefix after which a fault comes is the
-- longest viable one.
use Rattle.std.proofs.Common.{◌≡◌, List, [], ◌∷◌, ◌++◌, refl, ap, ◌≢◌, ℕ, ◌+◌, ◌==◌, sym, subst}
use Rattle.std.proofs.Common.{◌∙◌, Option, Some, None, append_assoc, arith, ◌⊎◌, inl, inr}
use Rattle.std.proofs.Common.{append-nil, eqb-true, length, true, false, codes, ◌≤◌, eq-eqb}
use Rattle.std.specs.List.{AllByRecursion}
use Rattle.std.proofs.Math.Path.{transport}
use Rattle.std.proofs.lemmas.Bool.{cases_Bool, cond-true, cond-false, eqb-false, cond_both}
use Rattle.std.proofs.lemmas.Bool.{false_from_ne_true, false≢true}
use Rattle.std.proofs.lemmas.Option.{same_Some}
use Rattle.mm_text.specs.declared.fault.TextRule.{TextRule}
use Rattle.mm_base.specs.Token.{PlainToken, HoldsNoDollar}
use Rattle.mm_text.specs.Items.{Item, Plain, Wrong, plain_tokens, HoldNoFault, Inclusion, End}
use Rattle.mm_text.specs.declared.scope.OpenBlock.{OpenBlock}
use Rattle.mm_text.specs.declared.fault.TextRule.TheVariants.{X6, X8, S6, S7, S1, S2, S3, S4, S5}
use Rattle.mm_text.specs.declared.fault.TextRule.TheVariants.{X1}
use Rattle.mm_base.specs.declared.statement.Kind.TheVariants.{Opening, Closing, Floating}
use Rattle.mm_base.specs.Statement.{PlainStatement, Spells, SpellsAll, IsKeyword, FitsCount}
use Rattle.mm_base.specs.Blocks.{AreBalanced, AreClosed, IsInnermost}
use Rattle.mm_text.specs.Reading.{PlainFault, IsBeginning, AreOutside, Viable, fault_at, EndsAt}
use Rattle.mm_text.specs.Reading.{ReadsAs, closes_symbols, IsBody, IsInProof, Meets, MeetsS1}
use Rattle.mm_text.specs.Reading.{MeetsS2, MeetsS3, MeetsS6, EndsInX8, EndsInS7}
use Rattle.mm_text.specs.Mirror.Reader.{Part, Between, Step, More, Whole, Opened, Closed, Faulty}
use Rattle.mm_text.specs.Mirror.Reader.{step, part_first, PlainScope, outermost}
use Rattle.mm_base.specs.Begun.{bare_statement}
use Rattle.mm_text.specs.Mirror.Reader.{scope_after_statement, scope_after_opening}
use Rattle.mm_text.specs.Mirror.Reader.{scope_after_closing, has_none, fault_in, block_fault}
use Rattle.mm_text.specs.Mirror.Reader.{unfinished_fault, end_fault, inclusion_fault, unless}
use Rattle.mm_text.specs.Mirror.Reader.{PlainReading, only_ending, with_statement, reading_of}
use Rattle.mm_text.specs.Mirror.Reader.{Labelled, InBody, InProof}
use Rattle.mm_text.proofs.Reader.OneToken.{IsSigned, read_nothing, read_end, read_inclusion}
use Rattle.mm_text.proofs.Reader.OneToken.{read_wrong, read_more, read_whole, read_opened}
use Rattle.mm_text.proofs.Reader.OneToken.{read_closing, read_faulty, same_text-ne, is_keyword-true}
use Rattle.mm_text.proofs.Reader.OneToken.{is_keyword_from, step_closes, step_no_label}
use Rattle.mm_text.proofs.Reader.OneToken.{step_too_many, IsLongPart, Leads, step_leads}
use Rattle.mm_text.proofs.Reader.Unfinished.{Describes, Describes-label, beginning_of_part}
use Rattle.mm_text.proofs.Reader.Unfinished.{first_of_part, StepsTo, step_right, part_of_body}
use Rattle.mm_text.proofs.Reader.Unfinished.{part_of_proof, part_of_beginning, closing_sign}
use Rattle.mm_text.proofs.Reader.SpelledStatements.{spells_sign, Runs, run, run-nil, run_step}
use Rattle.mm_text.proofs.Reader.SpelledStatements.{with_first, with_all, with_all-runs, run_on}
use Rattle.mm_text.proofs.Reader.SpelledStatements.{runs_parts, prefix_of_run, closing_short}
use Rattle.mm_text.proofs.Reader.SpelledStatements.{spelled_run, whole_run}
use Rattle.mm_text.proofs.Reader.OpenBlocks.{AreOpen, scope_after, scope_of, balanced_nothing}
use Rattle.mm_text.proofs.Reader.OpenBlocks.{scope_body, scope_more, scope_count, scope_open}
use Rattle.mm_text.proofs.Reader.OpenBlocks.{scope_closed, scope_unclosed, balanced_more}
use Rattle.mm_text.proofs.Reader.OpenBlocks.{body_count, closing_count, opening_count, closed_scope}
use Rattle.mm_text.proofs.Reader.OpenBlocks.{unclosed_scope, one_innermost, innermost_unclosed}
use Rattle.mm_text.proofs.Reader.OpenBlocks.{balanced_prefix, closing_unbalanced}
use Rattle.mm_base.proofs.Lists.{last_cut, nil_append}
use Rattle.mm_base.specs.declared.statement.Kind.{Kind}
use Rattle.mm_text.specs.Laws.{FaultsEndLongestPrefixes}

-- ==== prefixes of lists of items, and the tokens in them

pub plain_tokens-append : (a b : List Item) → plain_tokens (a ++ b) ≡ plain_tokens a ++ plain_tokens b
plain_tokens-append [] b = refl
plain_tokens-append (Plain t ∷ a) b = ap (λ (x : List PlainToken). t ∷ x) (plain_tokens-append a b)
plain_tokens-append (_ ∷ a) b = plain_tokens-append a b

clean_append : (a b : List Item) → HoldNoFault a → HoldNoFault b → HoldNoFault (a ++ b)
clean_append [] b h k = k
clean_append (Wrong rule t ∷ a) b h k = absurd h
clean_append (_ ∷ a) b h k = clean_append a b h k

-- a fault inside is one
pub clean_behind : (prefix : List Item) (rule : TextRule) (t : PlainToken) (rest : List Item) → HoldNoFault (prefix ++ Wrong rule t ∷ rest) → ⊥
clean_behind [] rule t rest h = h
clean_behind (Wrong other u ∷ prefix) rule t rest h = h
clean_behind (_ ∷ prefix) rule t rest h = clean_behind prefix rule t rest h

-- ==== what the reader computes of items is a reading of them

-- ---- items that end well

-- a fault or the end of a file comes
abbrev pub ComesToStop : List Item → Type 0
ComesToStop [] = ⊥
ComesToStop (Plain t ∷ rest) = ComesToStop rest
ComesToStop (Inclusion t ∷ rest) = ComesToStop rest
ComesToStop (Wrong rule t ∷ rest) = Unit {0}
ComesToStop (End file ∷ rest) = Unit {0}

-- after each token a fault or the end of a file comes
abbrev pub AreSettled : List Item → Type 0
AreSettled [] = Unit {0}
AreSettled (Plain t ∷ rest) = ComesToStop rest × AreSettled rest
AreSettled (_ ∷ rest) = AreSettled rest

-- ---- a viable prefix with one item more

-- tokens that spell statements, and then others
pub spells_append : (a b : List PlainToken) (xs ys : List PlainStatement) → SpellsAll a xs
    → SpellsAll b ys → SpellsAll (a ++ b) (xs ++ ys)
spells_append a b [] ys h k = rw h k
spells_append a b (x ∷ xs) ys h k =
    (h.0, h.1 ++ b, rw h.2 (append_assoc h.0 h.1 b), h.3, spells_append h.1 b xs ys h.4 k)

-- what is to be shown of an item that comes next
record Follows (pre : List Item) (item : Item) : Type 0 where
  clean : HoldNoFault (item ∷ [])
  included : (token : PlainToken) → item ≡ Inclusion token → AreOutside (plain_tokens pre)
  ended : (file : ℕ) → item ≡ End file → (earlier : List PlainStatement) × SpellsAll (plain_tokens pre) earlier
  top_ended : item ≡ End 0 → AreOutside (plain_tokens pre)

extended : (pre : List Item) (item : Item) (statements more : List PlainStatement) (unfinished left finished : List PlainToken) → Viable pre statements unfinished → Follows pre item
    → plain_tokens pre ++ plain_tokens (item ∷ []) ≡ finished ++ left → SpellsAll finished more → IsBeginning left → AreBalanced more → Viable (pre ++ item ∷ []) more left
extended pre item statements more unfinished left finished v f whole spelled bare_statement balanced = record {
  clean = clean_append pre (item ∷ []) v.clean f.clean;
  finished = finished;
  whole = plain_tokens-append pre (item ∷ []) ∙ whole;
  spelled = spelled;
  begun = bare_statement;
  balanced = balanced;
  included = λ before after token cut. elim (last_cut pre item before (Inclusion token) after cut) [
    | inl h ↦ v.included before h.0 token h.1
    | inr h ↦ rw h.0 (f.included token h.1)
  ];
  ended = λ before after file cut. elim (last_cut pre item before (End file) after cut) [
    | inl h ↦ v.ended before h.0 file h.1
    | inr h ↦ rw h.0 (f.ended file h.1)
  ];
  top_ended = λ before after cut. elim (last_cut pre item before (End 0) after cut) [
    | inl h ↦ v.top_ended before h.0 h.1
    | inr h ↦ rw h.0 (f.top_ended h.1)
  ];
}

plain_follows : (pre : List Item) (t : PlainToken) → Follows pre (Plain t)
plain_follows pre t = record { clean = tt; included = λ token e. absurd cc; ended = λ file e. absurd cc; top_ended = λ e. absurd cc }

-- nothing is unfinished
nothing_left : (pre : List Item) (statements : List PlainStatement) (unfinished : List PlainToken) → (v : Viable pre statements unfinished) → unfinished ≡ [] → plain_tokens pre ≡ v.finished
nothing_left pre statements unfinished v e = v.whole ∙ ap (λ (x : List PlainToken). v.finished ++ x) e ∙ append-nil v.finished

outside : (pre : List Item) (statements : List PlainStatement) (unfinished : List PlainToken) → Viable pre statements unfinished → unfinished ≡ [] → AreClosed statements → AreOutside (plain_tokens pre)
outside pre statements unfinished v e closed = record { statements = statements; spelled = subst (λ (x : List PlainToken). SpellsAll x statements) (sym (nothing_left pre statements unfinished v e)) v.spelled; closed = closed }

-- an inclusion, or the end of a file, where nothing is unfinished
between : (pre : List Item) (item : Item) (statements : List PlainStatement) (unfinished : List PlainToken) → Viable pre statements unfinished → unfinished ≡ [] → plain_tokens (item ∷ []) ≡ [] → Follows pre item → Viable (pre ++ item ∷ []) statements []
between pre item statements unfinished v e none f =
    extended pre item statements statements unfinished [] v.finished v f (ap (λ (x : List PlainToken). plain_tokens pre ++ x) none ∙ append-nil (plain_tokens pre) ∙ nothing_left pre statements unfinished v e ∙ sym (append-nil v.finished)) v.spelled (inl refl) v.balanced

-- ---- a reading after a viable prefix

abbrev pub ReadsOn : List Item → List PlainStatement → PlainReading → Type 0
ReadsOn whole statements reading = ReadsAs whole (statements ++ reading.statements) reading.ending

-- a fault at the very next item
fault_here : (pre : List Item) (item : Item) (rest : List Item) (statements : List PlainStatement) (unfinished : List PlainToken) (fault : PlainFault) → Viable pre statements unfinished → EndsAt statements unfinished item fault
    → ReadsOn (pre ++ item ∷ rest) statements (only_ending (Some fault))
fault_here pre item rest statements unfinished fault v e =
    subst (λ (x : List PlainStatement). ReadsAs (pre ++ item ∷ rest) x (Some fault)) (sym (append-nil statements)) (pre, item, rest, unfinished, refl, v, e)

-- one item before
item_before : (pre : List Item) (item : Item) (rest : List Item) (statements : List PlainStatement) (reading : PlainReading) → ReadsOn ((pre ++ item ∷ []) ++ rest) statements reading → ReadsOn (pre ++ item ∷ rest) statements reading
item_before pre item rest statements reading h = subst (λ (x : List Item). ReadsOn x statements reading) (append_assoc pre (item ∷ []) rest) h

-- the reading is the same
same_reading : (whole : List Item) (statements : List PlainStatement) (reading other : PlainReading) → reading ≡ other → ReadsOn whole statements other → ReadsOn whole statements reading
same_reading whole statements reading other e h = subst (ReadsOn whole statements) (sym e) h

-- the fault that the reader answers is the one of the grammar
pub fault_is : (rule : TextRule) (t : PlainToken) (part : Part) (statements : List PlainStatement) (unfinished : List PlainToken) → Describes part unfinished → fault_in (scope_of statements) part rule t ≡ fault_at rule t statements unfinished
fault_is rule t part statements unfinished d = λ i. record { rule = rule; file = t.file; at = t.at; statement = scope_count statements i + 1; label = sym (Describes-label part unfinished d) i }

-- the prefix with the items that are left, as far as it was read
pub record Course (pre : List Item) (statements : List PlainStatement) (unfinished : List PlainToken) (part : Part) : Type 0 where
  pub viable : Viable pre statements unfinished
  pub described : Describes part unfinished

-- the reader goes on
abbrev pub GoesOn : List Item → Type 0
GoesOn rest =
    (pre : List Item) (statements : List PlainStatement) (unfinished : List PlainToken) (part : Part) → Course pre statements unfinished part → (part_first part ≡ None) ⊎ ComesToStop rest
    → ReadsOn (pre ++ rest) statements (reading_of (scope_of statements) part rest)

-- ---- tokens

-- a token that ends a statement, with what the scope is after it
token_ends : (pre rest : List Item) (statements : List PlainStatement) (unfinished : List PlainToken) (part : Part) (t : PlainToken) (s : PlainStatement) (scope : PlainScope) → GoesOn rest → Course pre statements unfinished part
    → reading_of (scope_of statements) part (Plain t ∷ rest) ≡ with_statement s (reading_of scope Between rest) → scope_of (statements ++ s ∷ []) ≡ scope → Spells (unfinished ++ t ∷ []) s → AreBalanced (statements ++ s ∷ [])
    → ReadsOn (pre ++ Plain t ∷ rest) statements (reading_of (scope_of statements) part (Plain t ∷ rest))
token_ends pre rest statements unfinished part t s scope inner c e is h b =
    let reading = reading_of (scope_of (statements ++ s ∷ [])) Between rest in
    let v = c.viable in
    let viable = extended pre (Plain t) statements (statements ++ s ∷ []) unfinished [] (v.finished ++ (unfinished ++ t ∷ [])) v (plain_follows pre t)
    (ap (λ (x : List PlainToken). x ++ t ∷ []) v.whole ∙ append_assoc v.finished unfinished (t ∷ []) ∙ sym (append-nil (v.finished ++ (unfinished ++ t ∷ [])))) (spells_append v.finished (unfinished ++ t ∷ []) statements (s ∷ []) v.spelled (unfinished ++ t ∷ [], [], sym (append-nil (unfinished ++ t ∷ [])), h, refl)) (inl refl) b in
    same_reading _ statements _ _ (e ∙ ap (λ (x : PlainScope). with_statement s (reading_of x Between rest)) (sym is))
    (subst (λ (x : List PlainStatement). ReadsAs (pre ++ Plain t ∷ rest) x reading.ending) (append_assoc statements (s ∷ []) reading.statements)
    (item_before pre (Plain t) rest (statements ++ s ∷ []) reading
    (inner (pre ++ Plain t ∷ []) (statements ++ s ∷ []) [] Between (record { viable = viable; described = refl }) (inl refl))))

-- what each step of the reader comes to
token_next : (pre rest : List Item) (statements : List PlainStatement) (unfinished : List PlainToken) (part : Part) (t : PlainToken) → GoesOn rest → ComesToStop rest → Course pre statements unfinished part
    → (st : Step) → step part t ≡ st → StepsTo unfinished t st → ReadsOn (pre ++ Plain t ∷ rest) statements (reading_of (scope_of statements) part (Plain t ∷ rest))
token_next pre rest statements unfinished part t inner stops c (More next) e so =
    let v = c.viable in
    let viable = extended pre (Plain t) statements statements unfinished (unfinished ++ t ∷ []) v.finished v (plain_follows pre t)
    (ap (λ (x : List PlainToken). x ++ t ∷ []) v.whole ∙ append_assoc v.finished unfinished (t ∷ [])) v.spelled (beginning_of_part next (unfinished ++ t ∷ []) so) v.balanced in
    same_reading _ statements _ _ (read_more (scope_of statements) part t rest next e)
    (item_before pre (Plain t) rest statements (reading_of (scope_of statements) next rest)
    (inner (pre ++ Plain t ∷ []) statements (unfinished ++ t ∷ []) next (record { viable = viable; described = so }) (inr stops)))
token_next pre rest statements unfinished part t inner stops c (Whole s) e so =
    token_ends pre rest statements unfinished part t s (scope_after_statement (scope_of statements)) inner c (read_whole (scope_of statements) part t rest s e) (scope_body statements s so.1) so.0 (balanced_more statements s c.viable.balanced (λ le. let d = body_count s so.1 in omega (arith, le, d.0, d.1)))
token_next pre rest statements unfinished part t inner stops c Opened e so =
    let s : PlainStatement = bare_statement Opening t None in
    token_ends pre rest statements unfinished part t s (scope_after_opening (scope_of statements) t) inner c (read_opened (scope_of statements) part t rest e) (scope_more statements s)
    (spells_sign Opening unfinished t so.0 so.1 refl (record { keyword = t; tokens = refl; sign = so.1 }) refl (refl, refl, refl)) (balanced_more statements s c.viable.balanced (λ le. let d = opening_count s refl in omega (arith, le, d.0, d.1)))
token_next pre rest statements unfinished part t inner stops c Closed e so =
    let s : PlainStatement = bare_statement Closing t None in
    let b = c.viable.balanced in
    elim (cases_Bool (has_none (scope_of statements).blocks)) [
      | inl none ↦
          same_reading _ statements _ _ (read_closing (scope_of statements) part t rest e ∙ cond-true _ _ _ none ∙ ap (λ (f : PlainFault). only_ending (Some f)) (fault_is S6 t part statements unfinished c.described))
          (fault_here pre (Plain t) rest statements unfinished (fault_at S6 t statements unfinished) c.viable (S6, (so.0, so.1, scope_closed statements b none), refl))
      | inr some ↦
          token_ends pre rest statements unfinished part t s (scope_after_closing (scope_of statements)) inner c (read_closing (scope_of statements) part t rest e ∙ cond-false _ _ _ some) (scope_more statements s)
          (spells_sign Closing unfinished t so.0 so.1 refl (record { keyword = t; tokens = refl; sign = so.1 }) refl (refl, refl, refl)) (balanced_more statements s b (λ le. let d = closing_count s refl in omega (arith, le, d.0, d.1, scope_unclosed statements b some)))
    ]
token_next pre rest statements unfinished part t inner stops c (Faulty rule) e so =
    same_reading _ statements _ _ (read_faulty (scope_of statements) part t rest rule e ∙ ap (λ (f : PlainFault). only_ending (Some f)) (fault_is rule t part statements unfinished c.described))
    (fault_here pre (Plain t) rest statements unfinished (fault_at rule t statements unfinished) c.viable (rule, so statements, refl))

-- ---- inclusions

-- a file is included in a statement or in a block
inclusion_faulty : (pre rest : List Item) (statements : List PlainStatement) (unfinished : List PlainToken) (part : Part) (t : PlainToken) → Course pre statements unfinished part
    → inclusion_fault (scope_of statements) part t ≡ Some (fault_in (scope_of statements) part X6 t) → (unfinished ≢ []) ⊎ ¬ (AreClosed statements)
    → ReadsOn (pre ++ Inclusion t ∷ rest) statements (reading_of (scope_of statements) part (Inclusion t ∷ rest))
inclusion_faulty pre rest statements unfinished part t c e why =
    same_reading _ statements _ _
    (read_inclusion (scope_of statements) part t rest ∙ ap (λ (f : Option PlainFault). unless f (reading_of (scope_of statements) part rest)) e ∙ ap (λ (f : PlainFault). only_ending (Some f)) (fault_is X6 t part statements unfinished c.described))
    (fault_here pre (Inclusion t) rest statements unfinished (fault_at X6 t statements unfinished) c.viable (why, refl))

-- ---- ends of files

end_passed : (pre rest : List Item) (statements : List PlainStatement) (unfinished : List PlainToken) (part : Part) (file : ℕ) → GoesOn rest → Course pre statements unfinished part → part ≡ Between → unfinished ≡ []
    → end_fault (scope_of statements) Between file ≡ None → (file ≡ 0 → AreClosed statements) → ReadsOn (pre ++ End file ∷ rest) statements (reading_of (scope_of statements) part (End file ∷ rest))
end_passed pre rest statements unfinished part file inner c between_now none e scope_after_closing =
    let follows : Follows pre (End file) = record {
      clean = tt;
      included = λ token is. absurd cc;
      ended = λ other is. (statements, subst (λ (x : List PlainToken). SpellsAll x statements) (sym (nothing_left pre statements unfinished c.viable none)) c.viable.spelled);
      top_ended = λ is. outside pre statements unfinished c.viable none (scope_after_closing (cc));
    } in
    same_reading _ statements _ _
    (read_end (scope_of statements) part file rest ∙ ap (λ (f : Option PlainFault). unless f (reading_of (scope_of statements) part rest)) (ap (λ (x : Part). end_fault (scope_of statements) x file) between_now ∙ e))
    (item_before pre (End file) rest statements (reading_of (scope_of statements) part rest)
    (inner (pre ++ End file ∷ []) statements [] part (record { viable = between pre (End file) statements unfinished c.viable none refl follows; described = subst (λ (x : Part). Describes x []) (sym between_now) refl }) (inl (ap part_first between_now))))

end_next : (pre rest : List Item) (statements : List PlainStatement) (unfinished : List PlainToken) (part : Part) (file : ℕ) → GoesOn rest → Course pre statements unfinished part
    → ReadsOn (pre ++ End file ∷ rest) statements (reading_of (scope_of statements) part (End file ∷ rest))
end_next pre rest statements unfinished part file inner c =
    elim (first_of_part part unfinished c.described) [
      | inl (is, none) ↦ elim (cases_Bool (file == 0)) [
        | inl first ↦ top is none (eqb-true file 0 first) (scope_of statements).blocks refl
        | inr other ↦
            end_passed pre rest statements unfinished part file inner c is none
            (cond-false (file == 0) _ _ other) (λ e. absurd (eqb-false file 0 other e))
      ]
      | inr (first, others, begun_by, is) ↦
          let e : end_fault (scope_of statements) part file ≡ Some (fault_in (scope_of statements) part X8 first) = rw (end_fault, begun_by) refl in
          same_reading _ statements _ _
          (read_end (scope_of statements) part file rest ∙ ap (λ (f : Option PlainFault). unless f (reading_of (scope_of statements) part rest)) e ∙ ap (λ (f : PlainFault). only_ending (Some f)) (fault_is X8 first part statements unfinished c.described))
          (fault_here pre (End file) rest statements unfinished (fault_at X8 first statements unfinished) c.viable (inl (first, others, is, refl)))
    ]
  where
    top : part ≡ Between → unfinished ≡ [] → file ≡ 0 → (blocks : List OpenBlock) → (scope_of statements).blocks ≡ blocks → ReadsOn (pre ++ End file ∷ rest) statements (reading_of (scope_of statements) part (End file ∷ rest))
    top between_now none first [] is =
        end_passed pre rest statements unfinished part file inner c between_now none (ap (end_fault (scope_of statements) Between) first ∙ ap block_fault is) (λ _. scope_closed statements c.viable.balanced (ap has_none is))
    -- the top file ends in a block
    top between_now none first (block ∷ blocks) is =
        let opens : AreOpen statements (block ∷ blocks) = subst (AreOpen statements) is (scope_open statements c.viable.balanced) in
        let e : end_fault (scope_of statements) part file ≡ block_fault (block ∷ blocks) =
        (λ i. end_fault (scope_of statements) (between_now i) (first i)) ∙ ap block_fault is in
        let fault : block_fault (block ∷ blocks) ≡ Some (fault_at S7 opens.1.first opens.0 []) = λ i. block_fault (opens.3 i ∷ blocks) in
        same_reading _ statements _ _
        (read_end (scope_of statements) part file rest ∙ ap (λ (f : Option PlainFault). unless f (reading_of (scope_of statements) part rest)) (e ∙ fault))
        (fault_here pre (End file) rest statements unfinished (fault_at S7 opens.1.first opens.0 []) c.viable (inr (none, first, opens.0, opens.1, opens.2, refl)))

-- ---- all items

-- what the reader computes of items after a viable prefix is a reading of all
pub reads_on : (rest : List Item) → AllByRecursion IsSigned (plain_tokens rest) → AreSettled rest → GoesOn rest
reads_on [] signed settled pre statements unfinished part c (inl none) =
    elim (first_of_part part unfinished c.described) [
      | inl is ↦
          same_reading _ statements _ _ (read_nothing (scope_of statements) part ∙ ap (λ (x : Part). only_ending (unfinished_fault (scope_of statements) x)) is.0)
          (transport (λ i. Viable (sym (append-nil pre) i) (sym (append-nil statements) i) (is.1 i)) c.viable)
      | inr (first, others, some, is) ↦ absurd cc
    ]
reads_on [] signed settled pre statements unfinished part c (inr stops) = absurd stops
reads_on (Plain t ∷ rest) signed settled pre statements unfinished part c stops =
    token_next pre rest statements unfinished part t (reads_on rest signed.1 settled.1) settled.0 c (step part t) refl (step_right part unfinished t signed.0 c.described)
reads_on (Wrong rule t ∷ rest) signed settled pre statements unfinished part c stops =
    same_reading _ statements _ _ (read_wrong (scope_of statements) part rule t rest ∙ ap (λ (f : PlainFault). only_ending (Some f)) (fault_is rule t part statements unfinished c.described))
    (fault_here pre (Wrong rule t) rest statements unfinished (fault_at rule t statements unfinished) c.viable refl)
reads_on (Inclusion t ∷ rest) signed settled pre statements unfinished part c stops =
    elim (first_of_part part unfinished c.described) [
      | inl (is, none) ↦ elim (cases_Bool (has_none (scope_of statements).blocks)) [
        | inl closed ↦
            let e : inclusion_fault (scope_of statements) part t ≡ None =
            rw (is, inclusion_fault, closed) refl in
            let follows : Follows pre (Inclusion t) = record { clean = tt; included = λ _ _. outside pre statements unfinished c.viable none (scope_closed statements c.viable.balanced closed); ended = λ file same. absurd cc; top_ended = λ same. absurd cc } in
            same_reading _ statements _ _
            (read_inclusion (scope_of statements) part t rest ∙ ap (λ (f : Option PlainFault). unless f (reading_of (scope_of statements) part rest)) e)
            (item_before pre (Inclusion t) rest statements (reading_of (scope_of statements) part rest)
            (reads_on rest signed settled (pre ++ Inclusion t ∷ []) statements [] part (record { viable = between pre (Inclusion t) statements unfinished c.viable none refl follows; described = subst (λ (x : Part). Describes x []) (sym is) refl }) (inl (ap part_first is))))
        | inr some ↦
            inclusion_faulty pre rest statements unfinished part t c
            (rw (is, inclusion_fault, some) refl)
            (inr (scope_unclosed statements c.viable.balanced some))
      ]
      | inr (first, others, some, is) ↦
          inclusion_faulty pre rest statements unfinished part t c
          (rw (inclusion_fault, some) refl) (inl (λ none. cc))
    ]
reads_on (End file ∷ rest) signed settled pre statements unfinished part c stops = end_next pre rest statements unfinished part file (reads_on rest signed settled) c

-- the reading of items from the start
abbrev pub whole_reading : List Item → PlainReading
whole_reading its = reading_of outermost Between its

pub items_read : (its : List Item) → AllByRecursion IsSigned (plain_tokens its) → AreSettled its → ReadsAs its (whole_reading its).statements (whole_reading its).ending
unfolding scope_after
items_read its signed settled =
    reads_on its signed settled [] [] [] Between (record {
      viable = record {
        clean = tt;
        finished = [];
        whole = refl;
        spelled = refl;
        begun = inl refl;
        balanced = balanced_nothing;
        included = λ before after token cut. absurd (nil_append before (Inclusion token) after cut);
        ended = λ before after file cut. absurd (nil_append before (End file) after cut);
        top_ended = λ before after cut. absurd (nil_append before (End 0) after cut);
      };
      described = refl;
    }) (inl refl)

-- ==== a reading of items is what the reader computes, so there is one reading

-- ---- faulty tokens

-- a token that breaks a rule after these tokens does so in the reader
pub record Breaks (tokens : List PlainToken) (t : PlainToken) (rule : TextRule) : Type 0 where
  pub part : Part
  pub described : Describes part tokens
  pub faulty : step part t ≡ Faulty rule

breaks_S1 : (tokens : List PlainToken) (t : PlainToken) → MeetsS1 tokens t → Breaks tokens t S1
unfolding step
breaks_S1 tokens t m = record {
  part = Between;
  described = m.0;
  faulty = let ne = same_text-ne t.text in
      rw (is_keyword_from t.text m.1) (simp (ne _ m.2, ne _ m.3, ne _ m.4, ne _ m.5, ne _ m.6));
}

breaks_S2 : (tokens : List PlainToken) (t : PlainToken) → MeetsS2 tokens t → Breaks tokens t S2
breaks_S2 tokens t m =
    let none = false_from_ne_true _ (λ e. m.1 (is_keyword-true t.text e)) in
    let faulty = step_no_label t none (false_from_ne_true _ m.2) in
    record { part = Between; described = m.0; faulty = faulty }

breaks_S3 : (tokens : List PlainToken) (t : PlainToken) → MeetsS3 tokens t → Breaks tokens t S3
unfolding step
breaks_S3 tokens t m = record {
  part = Labelled m.0.label;
  described = (m.0.whole, m.0.named);
  faulty = let ne = same_text-ne t.text in simp (ne _ m.1, ne _ m.2, ne _ m.3, ne _ m.4);
}

body_other : (s : PlainStatement) (t : PlainToken) → IsKeyword t.text → t.text ≢ closes_symbols s.kind → step (InBody s) t ≡ Faulty S4
unfolding step
body_other s t k ne =
    rw (is_keyword_from t.text k) (simp (same_text-ne t.text _ (λ e. ne (e ∙ closing_sign s.kind))))

breaks_S4 : (tokens : List PlainToken) (t : PlainToken) → IsKeyword t.text
    → ((kind : Kind) × (symbols : List PlainToken) × IsBody tokens kind symbols × (t.text ≢ closes_symbols kind)) ⊎ (IsInProof tokens × (t.text ≢ codes "$.")) → Breaks tokens t S4
unfolding step
breaks_S4 tokens t k (inl m) =
    let found = part_of_body tokens m.0 m.1 m.2 in
    record { part = InBody found.0; described = found.3; faulty = body_other found.0 t k (λ e. m.3 (e ∙ ap closes_symbols found.1)) }
breaks_S4 tokens t k (inr m) =
    let found = part_of_proof tokens m.0 in
    let stop = same_text-ne t.text (codes "$.") m.1 in
    let faulty : step (InProof found.0) t ≡ Faulty S4 = rw (is_keyword_from t.text k) (simp stop) in
    record { part = InProof found.0; described = found.1; faulty = faulty }

breaks_S5 : (tokens : List PlainToken) (t : PlainToken) (kind : Kind) (symbols : List PlainToken) → IsBody tokens kind symbols
    → ((t.text ≡ closes_symbols kind) × ¬ (FitsCount kind (length symbols))) ⊎ (HoldsNoDollar t.text × (kind ≡ Floating) × (length symbols ≡ 2)) → Breaks tokens t S5
breaks_S5 tokens t kind symbols b (inl m) =
    let (s, is, same, body) = part_of_body tokens kind symbols b in
    let short : ¬ (FitsCount s.kind (length s.symbols)) = λ c. m.1 (rw (is, same) at c) in
    let faulty = closing_short s t (m.0 ∙ ap closes_symbols (sym is)) short in
    record { part = InBody s; described = body; faulty = faulty }
breaks_S5 tokens t kind symbols b (inr m) =
    let (s, is, same, body) = part_of_body tokens kind symbols b in
    let faulty = step_too_many s t m.0 (rw (is, same, m.1) (eq-eqb (length symbols) 2 m.2)) in
    record { part = InBody s; described = body; faulty = faulty }

-- ---- the fault after a prefix

-- after these tokens the reader ends with this fault at this item
pub record EndsThere (statements : List PlainStatement) (tokens : List PlainToken) (item : Item) (rest : List Item) (fault : PlainFault) : Type 0 where
  pub part : Part
  pub described : Describes part tokens
  pub last : reading_of (scope_of statements) part (item ∷ rest) ≡ only_ending (Some fault)

breaks_ends : (statements : List PlainStatement) (tokens : List PlainToken) (t : PlainToken) (rule : TextRule) (rest : List Item) (fault : PlainFault) → fault ≡ fault_at rule t statements tokens → Breaks tokens t rule → EndsThere statements tokens (Plain t) rest fault
breaks_ends statements tokens t rule rest fault e b = record {
  part = b.part;
  described = b.described;
  last = read_faulty (scope_of statements) b.part t rest rule b.faulty ∙ ap (λ (f : PlainFault). only_ending (Some f)) (fault_is rule t b.part statements tokens b.described ∙ sym e);
}

meets_S6 : (statements : List PlainStatement) (tokens : List PlainToken) (t : PlainToken) (rest : List Item) (fault : PlainFault) → fault ≡ fault_at S6 t statements tokens → AreBalanced statements → MeetsS6 statements tokens t → EndsThere statements tokens (Plain t) rest fault
meets_S6 statements tokens t rest fault e b m = record {
  part = Between;
  described = m.0;
  last = read_closing (scope_of statements) Between t rest (step_closes t m.1)
      ∙ rw (closed_scope statements b m.2) refl
      ∙ ap (λ (f : PlainFault). only_ending (Some f)) (fault_is S6 t Between statements tokens m.0 ∙ sym e);
}

meets_ends : (statements : List PlainStatement) (tokens : List PlainToken) (t : PlainToken) (rule : TextRule) (rest : List Item) (fault : PlainFault) → fault ≡ fault_at rule t statements tokens → AreBalanced statements → Meets statements tokens t rule
    → EndsThere statements tokens (Plain t) rest fault
meets_ends statements tokens t S1 rest fault e b m = breaks_ends statements tokens t S1 rest fault e (breaks_S1 tokens t m)
meets_ends statements tokens t S2 rest fault e b m = breaks_ends statements tokens t S2 rest fault e (breaks_S2 tokens t m)
meets_ends statements tokens t S3 rest fault e b m = breaks_ends statements tokens t S3 rest fault e (breaks_S3 tokens t m)
meets_ends statements tokens t S4 rest fault e b m = breaks_ends statements tokens t S4 rest fault e (breaks_S4 tokens t m.0 m.1)
meets_ends statements tokens t S5 rest fault e b m = breaks_ends statements tokens t S5 rest fault e (breaks_S5 tokens t m.0 m.1 m.2 m.3)
meets_ends statements tokens t S6 rest fault e b m = meets_S6 statements tokens t rest fault e b m
meets_ends statements tokens t _ rest fault e b m = absurd m

wrong_ends : (statements : List PlainStatement) (tokens : List PlainToken) (rule : TextRule) (t : PlainToken) (rest : List Item) (fault : PlainFault) → IsBeginning tokens → fault ≡ fault_at rule t statements tokens → EndsThere statements tokens (Wrong rule t) rest fault
wrong_ends statements tokens rule t rest fault b e =
    let found = part_of_beginning tokens b in
    record { part = found.0; described = found.1; last = read_wrong (scope_of statements) found.0 rule t rest ∙ ap (λ (f : PlainFault). only_ending (Some f)) (fault_is rule t found.0 statements tokens found.1 ∙ sym e) }

-- an inclusion in a statement or in a block is a fault
inclusion_is_fault : (statements : List PlainStatement) (tokens : List PlainToken) (part : Part) (t : PlainToken) → AreBalanced statements → Describes part tokens → (tokens ≢ []) ⊎ ¬ (AreClosed statements)
    → inclusion_fault (scope_of statements) part t ≡ Some (fault_in (scope_of statements) part X6 t)
inclusion_is_fault statements tokens part t b d why =
    elim (first_of_part part tokens d) [
      | inr some ↦ rw (inclusion_fault, some.2) refl
      | inl none ↦ elim why [
        | inl not_empty ↦ absurd (not_empty none.1)
        | inr some_open ↦
            rw (none.0, inclusion_fault, unclosed_scope statements b some_open) refl
      ]
    ]

inclusion_ends : (statements : List PlainStatement) (tokens : List PlainToken) (t : PlainToken) (rest : List Item) (fault : PlainFault) → IsBeginning tokens → AreBalanced statements → (tokens ≢ []) ⊎ ¬ (AreClosed statements) → fault ≡ fault_at X6 t statements tokens
    → EndsThere statements tokens (Inclusion t) rest fault
inclusion_ends statements tokens t rest fault begins b why e =
    let found = part_of_beginning tokens begins in
    record {
      part = found.0;
      described = found.1;
      last = read_inclusion (scope_of statements) found.0 t rest ∙ ap (λ (f : Option PlainFault). unless f (reading_of (scope_of statements) found.0 rest)) (inclusion_is_fault statements tokens found.0 t b found.1 why)
          ∙ ap (λ (f : PlainFault). only_ending (Some f)) (fault_is X6 t found.0 statements tokens found.1 ∙ sym e);
    }

end_X8 : (statements : List PlainStatement) (tokens : List PlainToken) (file : ℕ) (rest : List Item) (fault : PlainFault) → IsBeginning tokens → EndsInX8 statements tokens fault → EndsThere statements tokens (End file) rest fault
end_X8 statements tokens file rest fault begins e =
    let found = part_of_beginning tokens begins in
    elim (first_of_part found.0 tokens found.1) [
      | inl none ↦ absurd (cc (none.1, e.2))
      | inr some ↦
          let unfinished : end_fault (scope_of statements) found.0 file ≡ Some (fault_in (scope_of statements) found.0 X8 some.0) = rw (end_fault, some.2) refl in
          let same : some.0 ≡ e.0 = cc (some.3, e.2) in
          record {
            part = found.0;
            described = found.1;
            last = read_end (scope_of statements) found.0 file rest ∙ ap (λ (f : Option PlainFault). unless f (reading_of (scope_of statements) found.0 rest)) unfinished
                ∙ ap (λ (f : PlainFault). only_ending (Some f)) (fault_is X8 some.0 found.0 statements tokens found.1 ∙ ap (λ (x : PlainToken). fault_at X8 x statements tokens) same ∙ sym e.3);
          }
    ]

-- the fault at the innermost block
block_is : (statements before : List PlainStatement) (opening : PlainStatement) (blocks : List OpenBlock) → AreBalanced statements → IsInnermost statements before opening → AreOpen statements blocks
    → block_fault blocks ≡ Some (fault_at S7 opening.first before [])
block_is statements before opening [] b inner h = absurd (innermost_unclosed statements before opening b inner h.1)
block_is statements before opening (block ∷ blocks) b inner h =
    let same = one_innermost statements h.0 before h.1 opening h.2 inner in
    ap (λ (x : OpenBlock). block_fault (x ∷ blocks)) h.3 ∙ (λ i. Some (fault_at S7 (same.1 i).first (same.0 i) []))

end_S7 : (statements : List PlainStatement) (tokens : List PlainToken) (file : ℕ) (rest : List Item) (fault : PlainFault) → AreBalanced statements → EndsInS7 statements tokens file fault → EndsThere statements tokens (End file) rest fault
end_S7 statements tokens file rest fault b e = record {
  part = Between;
  described = e.0;
  last = read_end (scope_of statements) Between file rest
      ∙ ap (λ (f : Option PlainFault). unless f (reading_of (scope_of statements) Between rest)) (ap (end_fault (scope_of statements) Between) e.1 ∙ block_is statements e.2 e.3 (scope_of statements).blocks b e.4 (scope_open statements b))
      ∙ ap (λ (f : PlainFault). only_ending (Some f)) (sym e.5);
}

-- a fault ends what the reader computes
ends_there : (statements : List PlainStatement) (tokens : List PlainToken) (item : Item) (rest : List Item) (fault : PlainFault) → IsBeginning tokens → AreBalanced statements → EndsAt statements tokens item fault → EndsThere statements tokens item rest fault
ends_there statements tokens (Plain t) rest fault begins b e = meets_ends statements tokens t e.0 rest fault e.2 b e.1
ends_there statements tokens (Wrong rule t) rest fault begins b e = wrong_ends statements tokens rule t rest fault begins e
ends_there statements tokens (Inclusion t) rest fault begins b e = inclusion_ends statements tokens t rest fault begins b e.0 e.1
ends_there statements tokens (End file) rest fault begins b (inl e) = end_X8 statements tokens file rest fault begins e
ends_there statements tokens (End file) rest fault begins b (inr e) = end_S7 statements tokens file rest fault b e

-- ---- along a viable prefix

-- statements before a reading
abbrev pub with_statements : List PlainStatement → PlainReading → PlainReading
with_statements [] reading = reading
with_statements (s ∷ statements) reading = with_statement s (with_statements statements reading)

with_more : (statements : List PlainStatement) (s : PlainStatement) (reading : PlainReading) → with_statements (statements ++ s ∷ []) reading ≡ with_statements statements (with_statement s reading)
with_more [] s reading = refl
with_more (first ∷ statements) s reading = ap (with_statement first) (with_more statements s reading)

-- The reader read a prefix of a viable prefix: these statements, and a part of one.
record IsUnderWay (whole : List Item) (all : List PlainStatement) (last : Part) (pre : List Item) (statements : List PlainStatement) (part : Part) (prefix : List Item) : Type 0 where
  cut : whole ≡ pre ++ prefix
  done : run Between (plain_tokens pre) ≡ Runs statements part
  ends : run Between (plain_tokens whole) ≡ Runs all last
  long : IsLongPart part

-- what is read of the prefix of a viable prefix
so_far : (whole pre prefix : List Item) (all statements : List PlainStatement) (last part : Part)
    → IsUnderWay whole all last pre statements part prefix
    → (others : List PlainStatement) × (all ≡ statements ++ others)
    × (run part (plain_tokens prefix) ≡ Runs others last)
so_far whole pre prefix all statements last part w =
    prefix_of_run statements (run part (plain_tokens prefix)) all last
    (sym (run_on (plain_tokens pre) (plain_tokens prefix) statements part w.done)
    ∙ ap (run Between) (sym (ap plain_tokens w.cut ∙ plain_tokens-append pre prefix)) ∙ w.ends)

-- one item on
moved : (whole pre prefix : List Item) (item : Item) (all statements more after : List PlainStatement) (last part next : Part) → IsUnderWay whole all last pre statements part (item ∷ prefix)
    → run part (plain_tokens (item ∷ [])) ≡ Runs more next → statements ++ more ≡ after → IsLongPart next → IsUnderWay whole all last (pre ++ item ∷ []) after next prefix
moved whole pre prefix item all statements more after last part next w r is long = record {
  cut = w.cut ∙ sym (append_assoc pre (item ∷ []) prefix);
  done = ap (run Between) (plain_tokens-append pre (item ∷ [])) ∙ run_on (plain_tokens pre) (plain_tokens (item ∷ [])) statements part w.done ∙ ap (with_all statements) r ∙ with_all-runs statements more next
      ∙ ap (λ (x : List PlainStatement). Runs x next) is;
  ends = w.ends;
  long = long;
}

-- nothing is unfinished where tokens spell statements
spelled_between : (pre : List Item) (statements earlier : List PlainStatement) (part : Part) → run Between (plain_tokens pre) ≡ Runs statements part → SpellsAll (plain_tokens pre) earlier → (earlier ≡ statements) × (part ≡ Between)
spelled_between pre statements earlier part done h =
    let run = whole_run (plain_tokens pre) earlier h in (cc (run, done), cc (run, done))

-- how the items of a viable prefix may stand, whatever they spell
record AllowsAll (whole : List Item) (all : List PlainStatement) : Type 0 where
  clean : HoldNoFault whole
  balanced : AreBalanced all
  included : (before after : List Item) (token : PlainToken) → whole ≡ before ++ Inclusion token ∷ after → AreOutside (plain_tokens before)
  ended : (before after : List Item) (file : ℕ) → whole ≡ before ++ End file ∷ after → (earlier : List PlainStatement) × SpellsAll (plain_tokens before) earlier
  top_ended : (before after : List Item) → whole ≡ before ++ End 0 ∷ after → AreOutside (plain_tokens before)

-- the reader goes along the rest of a prefix
abbrev GoesAlong : List Item → List PlainStatement → Part → List Item → List Item → Type 0
GoesAlong whole all last prefix rest =
    (pre : List Item) (statements : List PlainStatement) (part : Part) → IsUnderWay whole all last pre statements part prefix
    → with_statements statements (reading_of (scope_of statements) part (prefix ++ rest)) ≡ with_statements all (reading_of (scope_of all) last rest)

so_far_balanced : (whole pre prefix : List Item) (all statements : List PlainStatement) (last part : Part) → AllowsAll whole all → IsUnderWay whole all last pre statements part prefix → AreBalanced statements
so_far_balanced whole pre prefix all statements last part v w =
    let far = so_far whole pre prefix all statements last part w in
    balanced_prefix statements far.0 (subst AreBalanced far.1 v.balanced)

-- a token that ends a statement
along_statement : (whole pre prefix rest : List Item) (all statements : List PlainStatement) (last part : Part) (t : PlainToken) (s : PlainStatement) (scope : PlainScope) → GoesAlong whole all last prefix rest
    → IsUnderWay whole all last (pre ++ Plain t ∷ []) (statements ++ s ∷ []) Between prefix → scope_of (statements ++ s ∷ []) ≡ scope
    → reading_of (scope_of statements) part (Plain t ∷ prefix ++ rest) ≡ with_statement s (reading_of scope Between (prefix ++ rest))
    → with_statements statements (reading_of (scope_of statements) part (Plain t ∷ prefix ++ rest)) ≡ with_statements all (reading_of (scope_of all) last rest)
along_statement whole pre prefix rest all statements last part t s scope inner w is e =
    ap (with_statements statements) (e ∙ ap (λ (x : PlainScope). with_statement s (reading_of x Between (prefix ++ rest))) (sym is))
    ∙ sym (with_more statements s (reading_of (scope_of (statements ++ s ∷ [])) Between (prefix ++ rest)))
    ∙ inner (pre ++ Plain t ∷ []) (statements ++ s ∷ []) Between w

along_closing : (whole pre prefix rest : List Item) (all statements : List PlainStatement) (last part : Part) (t : PlainToken) → AllowsAll whole all → GoesAlong whole all last prefix rest → IsUnderWay whole all last pre statements part (Plain t ∷ prefix)
    → step part t ≡ Closed → with_statements statements (reading_of (scope_of statements) part (Plain t ∷ prefix ++ rest)) ≡ with_statements all (reading_of (scope_of all) last rest)
along_closing whole pre prefix rest all statements last part t v inner w e =
    along_statement whole pre prefix rest all statements last part t s (scope_after_closing (scope_of statements)) inner after (scope_more statements s)
    (read_closing (scope_of statements) part t (prefix ++ rest) e ∙ cond-false (has_none (scope_of statements).blocks) _ _ some_open)
  where
    s : PlainStatement
    s = bare_statement Closing t None

    after : IsUnderWay whole all last (pre ++ Plain t ∷ []) (statements ++ s ∷ []) Between prefix
    after = moved whole pre prefix (Plain t) all statements (s ∷ []) (statements ++ s ∷ []) last part Between w (run_step part t [] _ e ∙ ap (with_first s) (run-nil Between)) refl tt

    some_open : has_none (scope_of statements).blocks ≡ false
    some_open =
        unclosed_scope statements (so_far_balanced whole pre (Plain t ∷ prefix) all statements last part v w)
        (λ c. closing_unbalanced statements s c refl (so_far_balanced whole (pre ++ Plain t ∷ []) prefix all (statements ++ s ∷ []) last Between v after))

along_token : (whole pre prefix rest : List Item) (all statements : List PlainStatement) (last part : Part) (t : PlainToken) → AllowsAll whole all → GoesAlong whole all last prefix rest → IsUnderWay whole all last pre statements part (Plain t ∷ prefix)
    → (st : Step) → step part t ≡ st → Leads part st → with_statements statements (reading_of (scope_of statements) part (Plain t ∷ prefix ++ rest)) ≡ with_statements all (reading_of (scope_of all) last rest)
along_token whole pre prefix rest all statements last part t v inner w (More next) e long =
    ap (with_statements statements) (read_more (scope_of statements) part t (prefix ++ rest) next e)
    ∙ inner (pre ++ Plain t ∷ []) statements next (moved whole pre prefix (Plain t) all statements []
    statements last part next w (run_step part t [] _ e ∙ run-nil next) (append-nil statements)
    (long.1 w.long))
along_token whole pre prefix rest all statements last part t v inner w (Whole s) e long =
    along_statement whole pre prefix rest all statements last part t s (scope_after_statement (scope_of statements)) inner
    (moved whole pre prefix (Plain t) all statements (s ∷ []) (statements ++ s ∷ []) last part Between w (run_step part t [] _ e ∙ ap (with_first s) (run-nil Between)) refl tt)
    (scope_body statements s (long w.long)) (read_whole (scope_of statements) part t (prefix ++ rest) s e)
along_token whole pre prefix rest all statements last part t v inner w Opened e long =
    let s : PlainStatement = bare_statement Opening t None in
    along_statement whole pre prefix rest all statements last part t s (scope_after_opening (scope_of statements) t) inner
    (moved whole pre prefix (Plain t) all statements (s ∷ []) (statements ++ s ∷ []) last part Between w (run_step part t [] _ e ∙ ap (with_first s) (run-nil Between)) refl tt)
    (scope_more statements s) (read_opened (scope_of statements) part t (prefix ++ rest) e)
along_token whole pre prefix rest all statements last part t v inner w Closed e long = along_closing whole pre prefix rest all statements last part t v inner w e
along_token whole pre prefix rest all statements last part t v inner w (Faulty rule) e long =
    let far = so_far whole pre (Plain t ∷ prefix) all statements last part w in
    absurd (cc (run_step part t (plain_tokens prefix) _ e, far.2))

-- an item between statements at which there is no fault
along_between : (whole pre prefix rest : List Item) (item : Item) (all statements : List PlainStatement) (last part : Part) → GoesAlong whole all last prefix rest → IsUnderWay whole all last pre statements part (item ∷ prefix) → plain_tokens (item ∷ []) ≡ []
    → reading_of (scope_of statements) part (item ∷ prefix ++ rest) ≡ reading_of (scope_of statements) part (prefix ++ rest)
    → with_statements statements (reading_of (scope_of statements) part (item ∷ prefix ++ rest)) ≡ with_statements all (reading_of (scope_of all) last rest)
along_between whole pre prefix rest item all statements last part inner w none e =
    ap (with_statements statements) e
    ∙ inner (pre ++ item ∷ []) statements part (moved whole pre prefix item all statements [] statements last part part w (ap (run part) none ∙ run-nil part) (append-nil statements) w.long)

along_inclusion : (whole pre prefix rest : List Item) (all statements : List PlainStatement) (last part : Part) (t : PlainToken) → AllowsAll whole all → GoesAlong whole all last prefix rest → IsUnderWay whole all last pre statements part (Inclusion t ∷ prefix)
    → with_statements statements (reading_of (scope_of statements) part (Inclusion t ∷ prefix ++ rest)) ≡ with_statements all (reading_of (scope_of all) last rest)
along_inclusion whole pre prefix rest all statements last part t v inner w =
    let out = v.included pre prefix t w.cut in
    let here = spelled_between pre statements out.statements part w.done out.spelled in
    let none_open = closed_scope statements (so_far_balanced whole pre (Inclusion t ∷ prefix) all statements last part v w) (subst AreClosed here.0 out.closed) in
    let none : inclusion_fault (scope_of statements) part t ≡ None = ap (λ (x : Part). inclusion_fault (scope_of statements) x t) here.1 ∙ cond-true (has_none (scope_of statements).blocks) _ _ none_open in
    along_between whole pre prefix rest (Inclusion t) all statements last part inner w refl
    (read_inclusion (scope_of statements) part t (prefix ++ rest) ∙ ap (λ (f : Option PlainFault). unless f (reading_of (scope_of statements) part (prefix ++ rest))) none)

no_block : (blocks : List OpenBlock) → has_none blocks ≡ true → block_fault blocks ≡ None
no_block [] e = refl
no_block (block ∷ blocks) e = absurd (false≢true e)

along_end : (whole pre prefix rest : List Item) (all statements : List PlainStatement) (last part : Part) (file : ℕ) → AllowsAll whole all → GoesAlong whole all last prefix rest → IsUnderWay whole all last pre statements part (End file ∷ prefix)
    → with_statements statements (reading_of (scope_of statements) part (End file ∷ prefix ++ rest)) ≡ with_statements all (reading_of (scope_of all) last rest)
along_end whole pre prefix rest all statements last part file v inner w =
    let out = v.ended pre prefix file w.cut in
    let here = spelled_between pre statements out.0 part w.done out.1 in
    let top : file ≡ 0 → block_fault (scope_of statements).blocks ≡ None = λ first.
    let outside = v.top_ended pre prefix (w.cut ∙ ap (λ (x : ℕ). pre ++ End x ∷ prefix) first) in
    let same = spelled_between pre statements outside.statements part w.done outside.spelled in
    no_block (scope_of statements).blocks (closed_scope statements (so_far_balanced whole pre (End file ∷ prefix) all statements last part v w) (subst AreClosed same.0 outside.closed)) in
    let none : end_fault (scope_of statements) part file ≡ None =
    ap (λ (x : Part). end_fault (scope_of statements) x file) here.1
    ∙ cond_both (file == 0) _ _ (λ (f : Option PlainFault). f ≡ None) (λ first. top (eqb-true file 0 first)) (λ _. refl) in
    along_between whole pre prefix rest (End file) all statements last part inner w refl
    (read_end (scope_of statements) part file (prefix ++ rest) ∙ ap (λ (f : Option PlainFault). unless f (reading_of (scope_of statements) part (prefix ++ rest))) none)

goes_along : (whole : List Item) (all : List PlainStatement) (last : Part) (prefix rest : List Item) → AllowsAll whole all → GoesAlong whole all last prefix rest
goes_along whole all last [] rest v pre statements part w =
    let same = runs_parts statements all part last (sym w.done ∙ ap (λ (x : List Item). run Between (plain_tokens x)) (sym (w.cut ∙ append-nil pre)) ∙ w.ends) in
    λ i. with_statements (same.0 i) (reading_of (scope_of (same.0 i)) (same.1 i) rest)
goes_along whole all last (Plain t ∷ prefix) rest v pre statements part w =
    along_token whole pre prefix rest all statements last part t v (goes_along whole all last prefix rest v) w (step part t) refl (step_leads part t)
goes_along whole all last (Wrong rule t ∷ prefix) rest v pre statements part w = absurd (clean_behind pre rule t prefix (subst HoldNoFault w.cut v.clean))
goes_along whole all last (Inclusion t ∷ prefix) rest v pre statements part w = along_inclusion whole pre prefix rest all statements last part t v (goes_along whole all last prefix rest v) w
goes_along whole all last (End file ∷ prefix) rest v pre statements part w = along_end whole pre prefix rest all statements last part file v (goes_along whole all last prefix rest v) w

-- what the reader computes of a viable prefix and what follows it
pub prefix_reading : (prefix rest : List Item) (statements : List PlainStatement) (unfinished : List PlainToken) (part : Part) → Viable prefix statements unfinished → Describes part unfinished
    → reading_of outermost Between (prefix ++ rest) ≡ with_statements statements (reading_of (scope_of statements) part rest)
unfolding scope_after
prefix_reading prefix rest statements unfinished part v d =
    goes_along prefix statements part prefix rest (record { clean = v.clean; balanced = v.balanced; included = v.included; ended = v.ended; top_ended = v.top_ended }) [] [] Between
    (record { cut = refl; done = run-nil Between; ends = spelled_run (plain_tokens prefix) v.finished unfinished statements part v.whole v.spelled d; long = tt })

-- ---- one reading

with_ended : (statements : List PlainStatement) (ending : Option PlainFault) → with_statements statements (only_ending ending) ≡ record { statements = statements; ending = ending }
with_ended [] ending = refl
with_ended (s ∷ statements) ending = ap (with_statement s) (with_ended statements ending)

-- a reading of items is what the reader computes
pub reads_reading : (its : List Item) (statements : List PlainStatement) (ending : Option PlainFault) → ReadsAs its statements ending → reading_of outermost Between its ≡ record { statements = statements; ending = ending }
reads_reading its statements None v =
    ap (reading_of outermost Between) (sym (append-nil its)) ∙ prefix_reading its [] statements [] Between v refl
    ∙ ap (with_statements statements) (read_nothing (scope_of statements) Between) ∙ with_ended statements None
reads_reading its statements (Some fault) r =
    let there = ends_there statements r.3 r.1 r.2 fault r.5.begun r.5.balanced r.6 in
    ap (reading_of outermost Between) r.4 ∙ prefix_reading r.0 (r.1 ∷ r.2) statements r.3 there.part r.5 there.described
    ∙ ap (with_statements statements) there.last ∙ with_ended statements (Some fault)

-- ==== the prefix of the items after which a fault comes is the longest viable one

-- a longer prefix goes on after the shorter one
longer_prefix : (longer after prefix : List Item) (item : Item) (rest : List Item) → longer ++ after ≡ prefix ++ item ∷ rest
    → (length longer ≤ length prefix) ⊎ ((mid : List Item) × (longer ≡ prefix ++ item ∷ mid))
longer_prefix [] after prefix item rest e = inl (omega arith)
longer_prefix (x ∷ longer) after [] item rest e = inr (longer, cc)
longer_prefix (x ∷ longer) after (y ∷ prefix) item rest e =
    elim (longer_prefix longer after prefix item rest cc) [
      | inl le ↦ inl (omega arith)
      | inr more ↦ inr (more.0, cc)
    ]

ending_of : (statements : List PlainStatement) (reading : PlainReading) → (with_statements statements reading).ending ≡ reading.ending
ending_of [] reading = refl
ending_of (s ∷ statements) reading = ending_of statements reading

-- a fault comes only after the longest viable prefix
pub faults_end_longest_prefixes : FaultsEndLongestPrefixes
faults_end_longest_prefixes files prefix item rest statements unfinished fault cut v e longer after more left other l =
    elim (longer_prefix longer after prefix item rest (sym other ∙ cut)) [
      | inl le ↦ le
      | inr (mid, goes_on) ↦
          -- what goes on after a fault isn't viable: a token that is wrong, right after it, would be
          -- the fault that ends the reading
          let viable = rw goes_on at l in
          let wrong : PlainToken = record { text = []; file = 0; at = fault.at + 1 } in
          let last : List Item = Wrong X1 wrong ∷ [] in
          let there = ends_there statements unfinished item (mid ++ last) fault v.begun v.balanced e in
          let found = part_of_beginning left viable.begun in
          let one : (reading_of outermost Between (prefix ++ (item ∷ mid ++ last))).ending ≡ Some fault =
          ap (λ (r : PlainReading). r.ending) (prefix_reading prefix (item ∷ mid ++ last) statements unfinished there.part v there.described)
          ∙ ending_of statements (reading_of (scope_of statements) there.part (item ∷ mid ++ last)) ∙ ap (λ (r : PlainReading). r.ending) there.last in
          let two : (reading_of outermost Between ((prefix ++ item ∷ mid) ++ last)).ending ≡ Some (fault_in (scope_of more) found.0 X1 wrong) =
          ap (λ (r : PlainReading). r.ending) (prefix_reading (prefix ++ item ∷ mid) last more left found.0 viable found.1)
          ∙ ending_of more (reading_of (scope_of more) found.0 last) ∙ ap (λ (r : PlainReading). r.ending) (read_wrong (scope_of more) found.0 X1 wrong []) in
          let same = same_Some fault (fault_in (scope_of more) found.0 X1 wrong) (sym one ∙ ap (λ (x : List Item). (reading_of outermost Between x).ending) (sym (append_assoc prefix (item ∷ mid) last)) ∙ two) in
          let position : fault.at ≡ fault.at + 1 = ap (λ (f : PlainFault). f.at) same in
          absurd (omega arith)
    ]
