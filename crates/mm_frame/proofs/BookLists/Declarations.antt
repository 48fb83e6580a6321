-- A book's lists once a `$c` or `$v` was taken in, and what uses symbols.
use Rattle.std.proofs.Common.{◌≡◌, ℕ, ◌+◌, ◌≤◌, inl, inr, length, List, map, Option, Some, None}
use Rattle.std.proofs.Common.{Result, refl, sym, ap, subst, arith, ◌∷◌, [], option_map, IfOk, suc}
use Rattle.std.proofs.Common.{◌<◌, take, ◌++◌, ◌∙◌, append-nil, slice_get, unwrap_or, append_assoc}
use Rattle.std.proofs.Common.{◌⊎◌, Contains, slice_range}
use Rattle.std.specs.List.{AllByRecursion, sum_by}
use Rattle.std.proofs.lemmas.Result.{IfOk-weaker}
use Rattle.std.proofs.lemmas.List.{length-map, map-append}
use Rattle.mm_base.specs.declared.token.Token.{Token}
use Rattle.mm_base.specs.declared.statement.Kind.{Kind}
use Rattle.mm_base.specs.declared.statement.Kind.TheVariants.{Distinct, Floating, Essential, Axiom}
use Rattle.mm_base.specs.declared.statement.Kind.TheVariants.{Provable, Variables, Constants}
use Rattle.mm_base.specs.declared.statement.Kind.TheVariants.{Closing}
use Rattle.mm_base.specs.declared.statement.Statement.{Statement}
use Rattle.mm_base.specs.Token.{PlainToken, plain_token}
use Rattle.mm_base.specs.Statement.{PlainStatement, plain_statement, FitsCount, HasLabel, HasForm}
use Rattle.mm_base.specs.Statement.{bytes_in}
use Rattle.mm_frame.specs.declared.answer.Taken.{Taken}
use Rattle.mm_frame.specs.declared.answer.Taken.TheVariants.{Declared}
use Rattle.mm_frame.specs.declared.number.Sym.{Sym}
use Rattle.mm_frame.specs.declared.tables.Tables.{Tables}
use Rattle.mm_frame.specs.Sentence.{Sentence, sentence_of, sentence_in, IsUse}
use Rattle.mm_frame.specs.Rules.{IsMeant}
use Rattle.mm_frame.specs.Form.{HasItsLabel, IsFormedSentence}
use Rattle.mm_frame.specs.Numbers.{symbols_of, AreNumbers}
use Rattle.mm_frame.specs.Mirror.Layout.{statements_of, AreTables, AreInfos, names_by}
use Rattle.mm_frame.specs.Taken.{TakenAs}
use Rattle.mm_frame.specs.Mirror.Grows.{Grows, IsSame, SameLists, Entered, entry_of}
use Rattle.std.proofs.lemmas.List.Sums.{sum_by-cons}
use Rattle.mm_base.proofs.Lists.{same_length, get_pushed, get_within, pushed_cases, take_next}
use Rattle.mm_base.proofs.Lists.{at_from_contains}
use Rattle.std.proofs.lemmas.Option.{slice_get_within}
use Rattle.mm_frame.specs.declared.tables.SymbolInfo.{SymbolInfo}
use Rattle.mm_frame.specs.Mirror.Declaring.{IsDeclaration, latest_by, AreNoted, IsNoted, IsAdded}
use Rattle.mm_frame.specs.Mirror.Declaring.{ChangesSymbols, TakesSymbol, TakesSymbols}
use Rattle.mm_frame.proofs.Names.NameNumbers.{get_unmapped, declared_from_number}
use Rattle.mm_frame.proofs.Names.NameNumbers.{symbols_unique}
use Rattle.mm_frame.proofs.Blocks.NumberedBlocks.{length_pushed}
use Rattle.mm_frame.proofs.BookLists.UnlabelledStatements.{unlabelled_grows}
use Rattle.mm_frame.proofs.BookLists.GrownLists.{all_statements, names_same, same_tables}
use Rattle.mm_frame.proofs.BookLists.GrownLists.{same_sentence}
use Rattle.mm_frame.proofs.BookLists.GrownLists.{entry_at, get_sliced}
use Rattle.mm_frame.proofs.BookLists.SymbolsAndLabels.{of_kind, infos_known, infos_known_constant}
use Rattle.mm_frame.proofs.BookLists.SymbolsAndLabels.{infos_other, declaring_all, infos_fresh}
use Rattle.mm_frame.proofs.BookLists.SymbolsAndLabels.{latest_declared}
use Rattle.mm_frame.proofs.BookLists.SymbolsAndLabels.{essentials_other}
use Rattle.std.proofs.lemmas.Bool.{cases_lt}
use Rattle.indexmap.proofs.IndexTableLemmas.Probe.{pigeonhole}
use Rattle.mm_base.specs.MostBytes.{most_bytes}
use Rattle.mm_frame.specs.Active.{IsConstant, IsVariable}
use Rattle.mm_frame.specs.Mirror.ScopesOf.{HaveScopes}
use Rattle.mm_frame.proofs.Frames.FrameLaws.{stated_other}

-- ==== statements that used symbols, and what they say by numbers

-- each symbol has a byte
symbols_small : (tokens : List PlainToken) → AllByRecursion (λ t. 1 ≤ length t.text) tokens → length tokens ≤ sum_by (λ (t : PlainToken). length t.text) tokens
symbols_small [] all = omega arith
symbols_small (t ∷ tokens) (one, all) =
    let rest = symbols_small tokens all in
    let sum = sum_by-cons (λ (t : PlainToken). length t.text) t tokens in
    omega arith

pub bytes_enough : (p : PlainStatement) → HasForm p → 1 + length p.symbols ≤ bytes_in p
bytes_enough p form = let small = symbols_small p.symbols form.symbols in let first = form.first in omega arith

-- the bytes are more than the numbers
pub numbers_enough : (st : List Sentence) (s : Statement) (numbers : List Sym) (bytes : ℕ) → AreNumbers st (map (λ n. n.0) numbers) (sentence_in s).symbols → HasForm (plain_statement s)
    → bytes ≡ bytes_in (plain_statement s) → 1 + length numbers ≤ bytes
numbers_enough st s numbers bytes are form counted =
    let enough = bytes_enough (plain_statement s) form in
    let size = same_length (slice_get (symbols_of st)) Some _ (sentence_in s).symbols are in
    let all = length-map numbers (λ (n : Sym). n.0) in
    let texts = length-map (map plain_token s.symbols.items) (λ (t : PlainToken). t.text) in
    omega arith

named_said : (kind : Kind) (label : Option PlainToken) → HasLabel kind label → HasItsLabel kind (option_map (λ t. t.text) label)
named_said Floating label (l, is, good) = (l.text, ap (option_map (λ (t : PlainToken). t.text)) is, good)
named_said Essential label (l, is, good) = (l.text, ap (option_map (λ (t : PlainToken). t.text)) is, good)
named_said Axiom label (l, is, good) = (l.text, ap (option_map (λ (t : PlainToken). t.text)) is, good)
named_said Provable label (l, is, good) = (l.text, ap (option_map (λ (t : PlainToken). t.text)) is, good)
named_said kind label none = ap (option_map (λ (t : PlainToken). t.text)) none

-- what a statement of good form says is formed
pub formed_said : (p : PlainStatement) → HasForm p → IsFormedSentence (sentence_of p)
formed_said p form = record {
  count = subst (FitsCount p.kind) (sym (length-map p.symbols (λ (t : PlainToken). t.text))) form.count;
  label = named_said p.kind p.label form.label;
}

-- among the statements that used symbols, a `$d` alone has no label
unlabelled_use : (kind : Kind) (label : Option PlainToken) → HasLabel kind label → IsUse kind → label ≡ None → kind ≡ Distinct
unlabelled_use Distinct label has used none = refl
unlabelled_use Floating label (l, is, good) used none = absurd (cc)
unlabelled_use Essential label (l, is, good) used none = absurd (cc)
unlabelled_use Axiom label (l, is, good) used none = absurd (cc)
unlabelled_use Provable label (l, is, good) used none = absurd (cc)
unlabelled_use kind label has used none = absurd (elim used [ inl a ↦ (cc) | inr b ↦ elim b [ inl c ↦ (cc) | inr d ↦ elim d [ inl e ↦ (cc) | inr f ↦ elim f [ inl g ↦ (cc) | inr h ↦ (cc) ] ] ] ])

-- the label that a statement says
label_said : (s : Statement) (label : Token) → s.label ≡ Some label → (sentence_in s).label ≡ Some label.text.now
label_said s label is = ap (λ o. option_map (λ (t : PlainToken). t.text) (option_map plain_token o)) is

-- what growth by a statement given by numbers says of it
abbrev pub GrowsBy : Tables → Tables → Kind → Option (List ℕ) → List Sym → ℕ → Type 0
GrowsBy t v kind label numbers bytes =
    (s : Sentence) → s.kind ≡ kind → s.label ≡ label → AreNumbers (statements_of t) (map (λ n. n.0) numbers) s.symbols
    → IsMeant (statements_of t) s → IsFormedSentence s → Grows t v s bytes

module _ {E : Type 0} (r : Result Taken E) (t v : Tables) (s : Statement) (numbers : List Sym)
    (bytes : ℕ)
    (are : AreNumbers (statements_of t) (map (λ n. n.0) numbers) (sentence_in s).symbols)
    (meant : IsMeant (statements_of t) (sentence_in s)) (form : HasForm (plain_statement s)) where
  pub labelled_use : (label : Token) → s.label ≡ Some label
      → IfOk r (λ taken. TakenAs (statements_of t) s.kind taken × GrowsBy t v s.kind (Some label.text.now) numbers bytes)
      → IfOk r (λ taken. Grows t v (sentence_in s) bytes × TakenAs (statements_of t) s.kind taken)
  labelled_use label is ok = IfOk-weaker r _ _
      (λ taken (said_as, grows). (grows (sentence_in s) refl (label_said s label is) are meant (formed_said (plain_statement s) form), said_as)) ok

  pub unlabelled_uses : s.label ≡ None → IsUse s.kind
      → IfOk r (λ taken. (taken ≡ Declared) × GrowsBy t v Distinct None numbers bytes)
      → IfOk r (λ taken. Grows t v (sentence_in s) bytes × TakenAs (statements_of t) s.kind taken)
  unlabelled_uses none used ok =
      let bare : (plain_statement s).label ≡ None = ap (option_map plain_token) none in
      let is : s.kind ≡ Distinct = unlabelled_use s.kind (plain_statement s).label form.label used bare in
      IfOk-weaker r _ _
      (λ taken (said_as, grows). (
        grows (sentence_in s) is (ap (option_map (λ (t : PlainToken). t.text)) bare) are meant (formed_said (plain_statement s) form),
        subst (λ k. TakenAs (statements_of t) k taken) (sym is) said_as,
      )) ok

-- ==== taking the symbols of a `$c` or `$v` in, one after the other

-- what is known of all symbols, once one more is taken in that has a number already
infos_noted : (st : List Sentence) (kind : Kind) (symbols xs : List (List ℕ)) (infos new : List SymbolInfo) (x : List ℕ) (n : ℕ) → IsDeclaration kind → slice_get symbols n ≡ Some x
    → AreInfos (st ++ of_kind kind xs ∷ []) symbols infos → AreNoted infos new n (latest_by kind (length st)) → AreInfos (st ++ of_kind kind (xs ++ x ∷ []) ∷ []) symbols new
infos_noted st kind symbols xs infos new x n which there = elim which [
  | inl c ↦ subst Step (sym c) (λ are same. rw same (infos_known_constant st _ xs _ x n are there))
  | inr v ↦ subst Step (sym v) (λ are noted.
      let lt = slice_get_within symbols n x there in
      let (info, at) = get_within infos n (omega arith) in
      rw (noted info at) (infos_known st symbols xs infos x n info are there at))
]
  where
    Step : Kind → Type 0
    Step k = AreInfos (st ++ of_kind k xs ∷ []) symbols infos → AreNoted infos new n (latest_by k (length st)) → AreInfos (st ++ of_kind k (xs ++ x ∷ []) ∷ []) symbols new

-- the names of numbers, with one more
names_pushed : (names : List (List ℕ)) (numbers : List Sym) (n : Sym) (x : List ℕ) → slice_get names n.0 ≡ Some x → names_by names (numbers ++ n ∷ []) ≡ names_by names numbers ++ x ∷ []
names_pushed names numbers n x there =
    map-append (λ (m : Sym). unwrap_or (slice_get names m.0) []) numbers (n ∷ []) ∙ ap (λ o. names_by names numbers ++ unwrap_or o [] ∷ []) there

-- before its symbols are taken in
pub taken_none : (old : Tables) (kind : Kind) → AreTables old → IsDeclaration kind → TakesSymbols old old kind []
taken_none old kind tables which = record {
  added = [];
  numbers = [];
  names = sym (append-nil old.symbols.names);
  flat = sym (append-nil old.flat.items);
  named = refl;
  within = λ i n there. absurd (cc);
  infos = infos_other _ _ _ (of_kind kind []) tables.infos (declaring_all kind [] which)
      (λ floats. elim which [ inl c ↦ absurd (cc) | inr w ↦ absurd (cc) ]);
  others = refl;
}

changed_twice : (old now new : Tables) → ChangesSymbols old now → ChangesSymbols now new → ChangesSymbols old new
changed_twice old now new one other =
    other ∙ ap (λ (t : Tables). let u : Tables = record t { symbols = new.symbols; infos = new.infos; flat = new.flat } in u) one

-- the index of a `$v`, and of no other
pub latest_variable : (kind : Kind) (index : ℕ) → kind ≡ Variables → Some index ≡ latest_by kind index
latest_variable kind index is = ap (λ k. latest_by k index) (sym is)

pub latest_none : (kind : Kind) (index : ℕ) → IsDeclaration kind → ¬ (kind ≡ Variables) → None ≡ latest_by kind index
latest_none kind index which other = elim which [ inl c ↦ ap (λ k. latest_by k index) (sym c) | inr v ↦ absurd (other v) ]

module _ {old now new : Tables} {kind : Kind} {x : List ℕ} {variable : Option ℕ}
    (tables : AreTables old) (which : IsDeclaration kind)
    (is : variable ≡ latest_by kind (length old.log.items))
    (one : TakesSymbol now new x variable) where
  -- one symbol more
  pub taken_more : (xs : List (List ℕ)) → TakesSymbols old now kind xs
      → TakesSymbols old new kind (xs ++ x ∷ [])
  taken_more xs taken = elim one.known [ inl noted ↦ again noted | inr added ↦ first added ]
    where
      st : List Sentence
      st = statements_of old

      latest : variable ≡ latest_by kind (length st)
      latest = is ∙ ap (latest_by kind) (sym (all_statements old))

      flat : new.flat.items ≡ old.flat.items ++ (taken.numbers ++ one.number ∷ [])
      flat = one.flat ∙ ap (λ (f : List Sym). f ++ one.number ∷ []) taken.flat ∙ append_assoc old.flat.items taken.numbers (one.number ∷ [])

      within : (names : List (List ℕ)) → length now.symbols.names ≤ length names → one.number.0 < length names
          → (i : ℕ) (n : Sym) → slice_get (taken.numbers ++ one.number ∷ []) i ≡ Some n → n.0 < length names
      within names more lt i n there = elim (pushed_cases taken.numbers one.number i n there) [
        | inl before ↦ let less = taken.within i n before in omega arith
        | inr (last, same) ↦ rw same at lt
      ]

      again : IsNoted now new x one.number.0 variable → TakesSymbols old new kind (xs ++ x ∷ [])
      again noted =
          let lt = slice_get_within now.symbols.names one.number.0 x noted.there in
          let infos = infos_noted st kind _ xs _ new.infos.items x one.number.0 which noted.there taken.infos (rw latest at noted.infos) in
          record {
            added = taken.added;
            numbers = taken.numbers ++ one.number ∷ [];
            names = noted.names ∙ taken.names;
            flat = flat;
            named = ap (λ names. names_by names (taken.numbers ++ one.number ∷ [])) noted.names ∙ names_pushed now.symbols.names taken.numbers one.number x noted.there ∙ ap (λ ys. ys ++ x ∷ []) taken.named;
            within = rw noted.names (within now.symbols.names (omega arith) lt);
            infos = rw noted.names infos;
            others = changed_twice old now new taken.others one.others;
          }

      first : IsAdded now new x one.number.0 variable → TakesSymbols old new kind (xs ++ x ∷ [])
      first added =
          let size = length_pushed now.symbols.names x in
          let next = added.next in
          let there : slice_get (now.symbols.names ++ x ∷ []) one.number.0 ≡ Some x = rw next (get_pushed now.symbols.names x) in
          let infos = infos_fresh st kind _ xs _ x _ tables.sound.0 which
          taken.infos added.fresh (latest_declared st kind _ xs _ x which taken.infos added.fresh) in
          let news : now.infos.items ++ record { variable = latest_by kind (length st); floating = None } ∷ [] ≡ new.infos.items =
          sym (added.infos ∙ ap (λ v. now.infos.items ++ record { variable = v; floating = None } ∷ []) latest) in
          record {
            added = taken.added ++ x ∷ [];
            numbers = taken.numbers ++ one.number ∷ [];
            names = added.names ∙ ap (λ names. names ++ x ∷ []) taken.names ∙ append_assoc old.symbols.names taken.added (x ∷ []);
            flat = flat;
            named = ap (λ names. names_by names (taken.numbers ++ one.number ∷ [])) added.names ∙ names_pushed (now.symbols.names ++ x ∷ []) taken.numbers one.number x there
                ∙ ap (λ ys. ys ++ x ∷ []) (names_same now.symbols.names (x ∷ []) taken.numbers taken.within ∙ taken.named);
            within = rw added.names (within (now.symbols.names ++ x ∷ []) (omega arith) (omega arith));
            infos = rw (← news) (rw added.names infos);
            others = changed_twice old now new taken.others one.others;
          }

  -- the symbols that were taken in, with one more
  pub taken_next : (xs : List (List ℕ)) (i : ℕ) → slice_get xs i ≡ Some x
      → TakesSymbols old now kind (take i xs) → TakesSymbols old new kind (take (i + 1) xs)
  taken_next xs i there taken =
      let more : suc i ≡ i + 1 = omega arith in
      let next : take i xs ++ x ∷ [] ≡ take (i + 1) xs = sym (take_next xs i x there) ∙ ap (λ (k : ℕ). take k xs) more in
      subst (λ (ys : List (List ℕ)). TakesSymbols old new kind ys) next (taken_more (take i xs)
      taken)

-- ==== a book's lists once a `$c` or `$v` was taken in

-- such a kind is no other
not_kind : (kind other : Kind) → IsDeclaration kind → ¬ (other ≡ Constants) → ¬ (other ≡ Variables) → ¬ (kind ≡ other)
not_kind kind other which no_constants no_variables is = elim which [ inl c ↦ no_constants (sym is ∙ c) | inr v ↦ no_variables (sym is ∙ v) ]

-- the lists hold one statement more
declared : (t d v : Tables) (s : Sentence) (bytes : ℕ) → AreTables t → IsMeant (statements_of t) s
    → IsFormedSentence s → IsDeclaration s.kind → s.label ≡ None
    → TakesSymbols t d s.kind s.symbols → Entered d v s.kind None (length t.flat.items) bytes
    → 1 + length s.symbols ≤ bytes → t.bytes + bytes ≤ most_bytes → Grows t v s bytes
declared t d v s bytes tables meant formed which none taken e enough room =
    let st = statements_of t in
    let size : length taken.numbers ≡ length s.symbols =
    sym (length-map taken.numbers _) ∙ ap length taken.named in
    let no_closing = not_kind s.kind Closing which (λ h. absurd (cc)) (λ h. absurd (cc)) in
    let no_essential = not_kind s.kind Essential which (λ h. absurd (cc)) (λ h. absurd (cc)) in
    let no_distinct = not_kind s.kind Distinct which (λ h. absurd (cc)) (λ h. absurd (cc)) in
    let infos : AreInfos (st ++ s ∷ []) d.symbols.names d.infos.items =
    subst (λ (u : Sentence). AreInfos (st ++ u ∷ []) d.symbols.names d.infos.items)
    (same_sentence s s.kind None s.symbols refl (sym none) refl) taken.infos in
    let all : t.symbols.names ++ taken.added ≡ _ = sym taken.names ∙ infos.all in
    let scopes : HaveScopes st d.scopes =
    subst (λ (u : Tables). HaveScopes st u.scopes) (sym taken.others) tables.scopes in
    unlabelled_grows t v s taken.added taken.numbers bytes tables (record {
      label = none;
      meant = meant;
      formed = formed;
      symbols = e.symbols ∙ taken.names;
      said = rw (← taken.names) taken.named;
      within = rw (← taken.names) taken.within;
      infos = rw (e.symbols, e.infos) infos;
      labels = e.labels ∙ ap (λ (u : Tables). u.labels.names) taken.others;
      named = e.named ∙ ap (λ (u : Tables). u.named.items) taken.others;
      log = rw (← taken.flat) (e.log ∙ ap (λ (u : Tables). u.log.items
          ++ entry_of s.kind None (length t.flat.items) (length d.flat.items) ∷ []) taken.others);
      flat = e.flat ∙ taken.flat;
      scopes = e.scopes st s scopes refl (λ is. absurd (no_closing is));
      essentials = rw (e.essentials ∙ ap (λ (u : Tables). u.essentials.items) taken.others)
          (essentials_other st _ s tables.essentials no_essential no_closing);
      hypotheses = e.hypotheses ∙ ap (λ (u : Tables). u.hypotheses.items) taken.others;
      pairs = e.pairs ∙ ap (λ (u : Tables). u.pairs.items) taken.others;
      pieces = e.pieces ∙ ap (λ (u : Tables). u.pieces.items) taken.others;
      stated = rw (
        e.symbols ∙ taken.names,
        e.stated ∙ ap (λ (u : Tables). u.distinct.stated) taken.others,
      )
          (stated_other st s _ taken.added _ tables.sound.0 tables.infos.all all tables.stated
          no_distinct);
      counted = e.counted ∙ ap (λ (u : Tables). u.bytes + bytes) taken.others;
    }) (omega arith) room

-- the same, where the lists before had less room
grows_from : (t u v : Tables) (s : Sentence) (bytes : ℕ) → IsSame t u → Grows u v s bytes → Grows t v s bytes
grows_from t u v s bytes same grows =
    record {
      tables = grows.tables;
      statements = grows.statements ∙ ap (λ (xs : List Sentence). xs ++ s ∷ []) same.statements;
      counted = grows.counted ∙ ap (λ n. n + bytes) same.bytes;
    }

-- a symbol stands where its number stands
standing : (t : Tables) → AreTables t → (n : ℕ) → n < length t.symbols.names → (j : ℕ) × (m : Sym) × (slice_get t.flat.items j ≡ Some m) × (m.0 ≡ n)
standing t tables n lt =
    let st = statements_of t in
    let names = t.symbols.names in
    let all = tables.infos.all in
    let (x, at) = get_within names n lt in
    let at_symbols : slice_get (symbols_of st) n ≡ Some x = subst (λ (ys : List (List ℕ)). slice_get ys n ≡ Some x) all at in
    let (p, s, there, in_it) = some_declaring st x (declared_from_number st x n at_symbols) in
    let (e, logged, says) = entry_at names t.labels.names t.flat.items t.log.items p s there in
    let (k, at_k) = at_from_contains s.symbols x in_it in
    let part = slice_range t.flat.items e.symbols.start e.symbols.end in
    let at_part : slice_get (names_by names part) k ≡ Some x = subst (λ (u : Sentence). slice_get u.symbols k ≡ Some x) (sym says) at_k in
    let (m, at_m, is) = get_unmapped (λ (i : Sym). unwrap_or (slice_get names i.0) []) part k x at_part in
    let (j, in_flat) = get_sliced t.flat.items e.symbols.start e.symbols.end k m at_m in
    let (y, at_y) = get_within names m.0 (tables.entries.numbered j m in_flat) in
    let same : y ≡ x = ap (λ o. unwrap_or o []) (sym at_y) ∙ is in
    let at_x : slice_get (symbols_of st) m.0 ≡ Some x = subst (λ (ys : List (List ℕ)). slice_get ys m.0 ≡ Some x) all (at_y ∙ ap (λ z. Some z) same) in
    (j, m, in_flat, symbols_unique st m.0 n x at_x at_symbols)
  where
    some_declaring : (st : List Sentence) (x : List ℕ) → IsConstant st x ⊎ IsVariable st x → (p : ℕ) × (s : Sentence) × (slice_get st p ≡ Some s) × Contains s.symbols x
    some_declaring st x (inl (p, s, there, (kind, in_it))) = (p, s, there, in_it)
    some_declaring st x (inr (p, s, there, (kind, in_it))) = (p, s, there, in_it)

-- each declared symbol stands somewhere, so that there are no more of them than symbols of all statements
names_few : (t : Tables) → AreTables t → length t.symbols.names ≤ length t.flat.items
names_few t tables = pigeonhole (length t.symbols.names) (length t.flat.items) (λ n. (index n).0)
    (λ n lt. let (m, at, is) = (index n).1 lt in slice_get_within t.flat.items (index n).0 m at)
    (λ i j i_lt j_lt same.
    let (m, at_m, is_i) = (index i).1 i_lt in
    let (n, at_n, is_j) = (index j).1 j_lt in
    let both : m ≡ n = let here = subst (λ (k : ℕ). slice_get t.flat.items k ≡ Some m) same at_m in cc in
    sym is_i ∙ ap (λ (k : Sym). k.0) both ∙ is_j)
  where
    index : (n : ℕ) → (j : ℕ) × (n < length t.symbols.names → (m : Sym) × (slice_get t.flat.items j ≡ Some m) × (m.0 ≡ n))
    index n = elim (cases_lt n (length t.symbols.names)) [
      | inl lt ↦ let (j, m, at, is) = standing t tables n lt in (j, λ _. (m, at, is))
      | inr ge ↦ (0, λ lt. absurd (omega arith))
    ]

-- a `$c` or `$v` has no label
declares_unlabelled : (p : PlainStatement) → HasForm p → IsDeclaration p.kind → (sentence_of p).label ≡ None
declares_unlabelled p form which = ap (option_map (λ (t : PlainToken). t.text)) none
  where
    none : p.label ≡ None
    none = elim which [ inl c ↦ subst (λ (k : Kind). HasLabel k p.label) c form.label | inr v ↦ subst (λ (k : Kind). HasLabel k p.label) v form.label ]

-- all symbols of the statement will have numbers, and there are fewer than numbers for their
-- indices
pub symbols_fit : (t : Tables) (p : PlainStatement) (bytes : ℕ) → AreTables t → HasForm p
    → bytes ≡ bytes_in p → t.bytes + bytes ≤ most_bytes
    → (length t.symbols.names + length p.symbols < 4294967296)
    × (length t.log.items + length t.flat.items + length p.symbols < 4294967296)
symbols_fit t p bytes tables form is room =
    let few = names_few t tables in
    let enough = bytes_enough p form in
    (omega arith, omega arith)

-- room is made, the symbols are taken in, and the entry is written
pub declares : (t m d v : Tables) (p : PlainStatement) (start bytes : ℕ) → AreTables t → SameLists t m → IsMeant (statements_of t) (sentence_of p) → HasForm p → IsDeclaration p.kind
    → bytes ≡ bytes_in p → t.bytes + bytes ≤ most_bytes → TakesSymbols m d p.kind (sentence_of p).symbols → start ≡ length m.flat.items → Entered d v p.kind None start bytes → Grows t v (sentence_of p) bytes
declares t m d v p start bytes tables lists meant form which is room taken begins entered =
    let same = same_tables t m tables lists in
    let st : statements_of t ≡ statements_of m = sym same.statements in
    let size = length-map p.symbols (λ (t : PlainToken). t.text) in
    let enough = bytes_enough p form in
    grows_from t m v (sentence_of p) bytes same
    (declared m d v (sentence_of p) bytes same.tables (subst (λ (xs : List Sentence). IsMeant xs (sentence_of p)) st meant) (formed_said p form) which (declares_unlabelled p form which) taken
    (subst (λ (n : ℕ). Entered d v p.kind None n bytes) begins entered) (omega arith) (omega arith))
