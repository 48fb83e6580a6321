-- A book's lists say the same statements as more is appended, and one more.
use Rattle.std.proofs.Common.{◌≡◌, ℕ, ◌-◌, length, take, List, [], ◌∷◌, ◌++◌, map, unwrap_or}
use Rattle.std.proofs.Common.{Option, Some, refl, ap, ◌∙◌, length-append, arith, slice_get}
use Rattle.std.proofs.Common.{slice_range, suc, ◌+◌, ◌<◌, ◌≤◌, inl, inr, drop, None, subst, sym}
use Rattle.std.proofs.Common.{option_map, Result, Ok, Err, OnErr, rules}
use Rattle.std.proofs.Math.Seq.{drop-append_seam, take-length}
use Rattle.mm_base.specs.declared.statement.Kind.{Kind}
use Rattle.mm_frame.specs.declared.number.Sym.{Sym}
use Rattle.mm_frame.specs.Sentence.{Sentence}
use Rattle.mm_frame.specs.Mirror.Layout.{names_by, label_by, sentence_by, sentences_by}
use Rattle.mm_frame.specs.Mirror.Layout.{IsPartWithin, AreEntries, AreTables, statements_of}
use Rattle.mm_frame.specs.Mirror.Layout.{AreInfos, AreLabelInfos, AreEssentials, AreFrames}
use Rattle.mm_frame.specs.Mirror.Layout.{AreStated}
use Rattle.std.proofs.lemmas.Option.{slice_get_within, slice_get-map}
use Rattle.std.proofs.lemmas.List.{drop-append-le, take-append-le, length-drop, map-append}
use Rattle.std.proofs.lemmas.List.{length-map}
use Rattle.mm_frame.specs.declared.number.LabelId.{LabelId}
use Rattle.mm_frame.specs.declared.tables.Entry.{Entry}
use Rattle.mm_base.proofs.Lists.{pushed_cases, get_from_front, get_within, get_dropped}
use Rattle.mm_base.proofs.Lists.{append_cases, get_kept}
use Rattle.mm_frame.specs.declared.tables.Tables.{Tables}
use Rattle.mm_frame.specs.declared.scopes.TheConstants.{NEVER}
use Rattle.mm_frame.specs.Mirror.Grows.{SameLists, IsSame, Grows}
use Rattle.mm_frame.specs.Mirror.Stated.{PairTable}
use Rattle.mm_base.specs.MostBytes.{most_bytes}
use Rattle.mm_frame.specs.Rules.{IsMeant}
use Rattle.mm_frame.specs.Form.{IsFormedSentence}
use Rattle.mm_frame.specs.Mirror.ScopesOf.{HaveScopes}
use Rattle.mm_frame.specs.FrameIndex.{HaveTypings}
use Rattle.mm_frame.proofs.Rules.ObeyedRules.{allmeant_push, meant_from_indices}
use Rattle.mm_frame.proofs.Names.NameNumbers.{each_pushed}
use Rattle.mm_frame.proofs.BookLists.SymbolsAndLabels.{infos_none}

-- ==== what was written at the end of a book's lists, and what it says

-- the part that was added to the end of a list
pub added_part : {X : Type 0} (xs more : List X) → slice_range (xs ++ more) (length xs) (length (xs ++ more)) ≡ more
added_part xs more =
    let size = length-append xs more in
    let n : length (xs ++ more) - length xs ≡ length more = omega arith in
    ap (take (length (xs ++ more) - length xs)) (drop-append_seam xs more) ∙ ap (λ k. take k more) n ∙ take-length more

-- the names of the numbers of symbols are the symbols
pub names_numbered : (names : List (List ℕ)) (numbers : List Sym) (xs : List (List ℕ)) → map (slice_get names) (map (λ n. n.0) numbers) ≡ map Some xs → names_by names numbers ≡ xs
names_numbered names [] [] are = refl
names_numbered names (n ∷ numbers) (x ∷ xs) are =
    let here : slice_get names n.0 ≡ Some x = cc in
    let rest : map (slice_get names) (map (λ n. n.0) numbers) ≡ map Some xs = cc in
    cc (ap (λ o. unwrap_or o []) here, names_numbered names numbers xs rest)
names_numbered names numbers xs are = absurd cc

-- a sentence of the same kind, label and symbols is the same
pub same_sentence : (s : Sentence) (kind : Kind) (l : Option (List ℕ)) (xs : List (List ℕ)) → kind ≡ s.kind → l ≡ s.label → xs ≡ s.symbols → ◌≡◌ {A = Sentence} (record { kind = kind; label = l; symbols = xs }) s
same_sentence s kind l xs e f g =
    ap (λ (k : Kind). let t : Sentence = record { kind = k; label = l; symbols = xs } in t) e
    ∙ ap (λ (o : Option (List ℕ)). let t : Sentence = record { kind = s.kind; label = o; symbols = xs } in t) f
    ∙ ap (λ (ys : List (List ℕ)). let t : Sentence = record { kind = s.kind; label = s.label; symbols = ys } in t) g

-- ==== a book's lists say the same statements as more is appended to them

-- what is read before the end stays
pub get_left : {X : Type 0} (xs ys : List X) (i : ℕ) → i < length xs → slice_get (xs ++ ys) i ≡ slice_get xs i
get_left xs ys i lt = let (x, at) = get_within xs i lt in get_kept xs ys i x at ∙ sym at

pub slice_left : {X : Type 0} (xs ys : List X) (i j : ℕ) → i ≤ j → j ≤ length xs → slice_range (xs ++ ys) i j ≡ slice_range xs i j
slice_left xs ys i j ordered within =
    let rest = length-drop i xs in
    ap (take (j - i)) (drop-append-le i xs ys (omega arith)) ∙ take-append-le (j - i) (drop i xs) ys (omega arith)

-- what a part of a list has, the list has
pub get_sliced : {X : Type 0} (xs : List X) (a b i : ℕ) (x : X) → slice_get (slice_range xs a b) i ≡ Some x → (j : ℕ) × (slice_get xs j ≡ Some x)
get_sliced xs a b i x there = (a + i, get_dropped a xs i x (get_from_front (drop a xs) (b - a) i x there))

-- functions that agree at each element
pub map_agree : {X Y : Type 0} (f g : X → Y) (xs : List X) → ((i : ℕ) (x : X) → slice_get xs i ≡ Some x → f x ≡ g x) → map f xs ≡ map g xs
map_agree f g [] agree = refl
map_agree f g (x ∷ xs) agree =
    let here = agree 0 x refl in
    let rest = map_agree f g xs (λ i y there. agree (suc i) y there) in
    cc

-- names by number stay as more names are appended
pub names_same : (symbols more : List (List ℕ)) (numbers : List Sym) → ((i : ℕ) (n : Sym) → slice_get numbers i ≡ Some n → n.0 < length symbols) → names_by (symbols ++ more) numbers ≡ names_by symbols numbers
names_same symbols more numbers within =
    map_agree (λ (n : Sym). unwrap_or (slice_get (symbols ++ more) n.0) []) (λ (n : Sym). unwrap_or (slice_get symbols n.0) []) numbers
    (λ i n there. ap (λ o. unwrap_or o []) (get_left symbols more n.0 (within i n there)))

label_same : (labels more : List (List ℕ)) (label : Option LabelId) → ((id : LabelId) → label ≡ Some id → id.0 < length labels) → label_by (labels ++ more) label ≡ label_by labels label
label_same labels more None within = refl
label_same labels more (Some id) within = get_left labels more id.0 (within id refl)

module _ {symbols labels : List (List ℕ)} {flat : List Sym} {log : List Entry}
    (a b : List (List ℕ)) (c : List Sym) (entries : AreEntries symbols labels flat log) where
  -- what an entry says stays
  pub sentence_same : (index : ℕ) (e : Entry) → slice_get log index ≡ Some e
      → sentence_by (symbols ++ a) (labels ++ b) (flat ++ c) e ≡ sentence_by symbols labels flat e
  sentence_same index e there =
      let within = entries.within index e there in
      let part = slice_left flat c e.symbols.start e.symbols.end within.ordered within.within in
      same_sentence (sentence_by symbols labels flat e) e.kind _ _ refl
      (label_same labels b e.label (λ id is. entries.named index e id there is))
      (ap (names_by (symbols ++ a)) part
      ∙ names_same symbols a (slice_range flat e.symbols.start e.symbols.end)
      (λ i n at. let (j, in_flat) = get_sliced flat e.symbols.start e.symbols.end i n at in entries.numbered j n in_flat))

  -- one entry more is one statement more
  pub sentences_push : (new : Entry)
      → sentences_by (symbols ++ a) (labels ++ b) (flat ++ c) (log ++ new ∷ [])
      ≡ sentences_by symbols labels flat log
      ++ sentence_by (symbols ++ a) (labels ++ b) (flat ++ c) new ∷ []
  unfolding sentences_by
  sentences_push new =
      map-append (sentence_by (symbols ++ a) (labels ++ b) (flat ++ c)) log (new ∷ [])
      ∙ ap (λ ys. ys ++ sentence_by (symbols ++ a) (labels ++ b) (flat ++ c) new ∷ [])
      (map_agree (sentence_by (symbols ++ a) (labels ++ b) (flat ++ c)) (sentence_by symbols labels flat) log (λ i e there. sentence_same
      i e there))

pub length-sentences : (symbols labels : List (List ℕ)) (flat : List Sym) (log : List Entry) → length (sentences_by symbols labels flat log) ≡ length log
unfolding sentences_by
length-sentences symbols labels flat log = length-map log (sentence_by symbols labels flat)

-- a book holds as many statements as entries, and fewer than the index that is none
pub all_statements : (t : Tables) → length (statements_of t) ≡ length t.log.items
all_statements t = length-sentences t.symbols.names t.labels.names t.flat.items t.log.items

pub few_statements : (t : Tables) → AreTables t → length (statements_of t) ≤ NEVER
few_statements t tables = omega (arith, tables.counted, tables.small, all_statements t)

-- the statement at an index is what its entry says
pub sentence_at : (symbols labels : List (List ℕ)) (flat : List Sym) (log : List Entry) (index : ℕ) (e : Entry) → slice_get log index ≡ Some e
    → slice_get (sentences_by symbols labels flat log) index ≡ Some (sentence_by symbols labels flat e)
unfolding sentences_by
sentence_at symbols labels flat log index e there = slice_get-map (sentence_by symbols labels flat) log index ∙ ap (option_map (sentence_by symbols labels flat)) there

-- each statement is what some entry says
pub entry_at : (symbols labels : List (List ℕ)) (flat : List Sym) (log : List Entry) (index : ℕ) (s : Sentence) → slice_get (sentences_by symbols labels flat log) index ≡ Some s
    → (e : Entry) × (slice_get log index ≡ Some e) × (sentence_by symbols labels flat e ≡ s)
entry_at symbols labels flat log index s there =
    let size = length-sentences symbols labels flat log in
    let lt = slice_get_within (sentences_by symbols labels flat log) index s there in
    let (e, at) = get_within log index (omega arith) in
    let says = sentence_at symbols labels flat log index e at in
    (e, at, cc)

pub longer : {X : Type 0} (xs ys : List X) → length xs ≤ length (xs ++ ys)
longer xs ys = let e = length-append xs ys in omega arith

pub entries_push : (symbols labels : List (List ℕ)) (flat : List Sym) (log : List Entry) (a b : List (List ℕ)) (c : List Sym) (new : Entry) → AreEntries symbols labels flat log
    → IsPartWithin new.symbols (length (flat ++ c)) → ((i : ℕ) (n : Sym) → slice_get c i ≡ Some n → n.0 < length (symbols ++ a)) → ((id : LabelId) → new.label ≡ Some id → id.0 < length (labels ++ b))
    → AreEntries (symbols ++ a) (labels ++ b) (flat ++ c) (log ++ new ∷ [])
entries_push symbols labels flat log a b c new entries within numbers label =
    let flats = longer flat c in
    let names = longer symbols a in
    let tags = longer labels b in
    record {
      within = λ index e there. elim (pushed_cases log new index e there) [
        | inl before ↦ let old = entries.within index e before in let inside = old.within in record { ordered = old.ordered; within = omega arith }
        | inr (last, same) ↦ subst (λ (d : Entry). IsPartWithin d.symbols (length (flat ++ c))) same within
      ];
      numbered = λ i n there. elim (append_cases flat c i n there) [
        | inl before ↦ let lt = entries.numbered i n before in omega arith
        | inr (j, is, after) ↦ numbers j n after
      ];
      named = λ index e id there is. elim (pushed_cases log new index e there) [
        | inl before ↦ let lt = entries.named index e id before is in omega arith
        | inr (last, same) ↦ label id (ap (λ (d : Entry). d.label) same ∙ is)
      ];
    }

-- ==== lists that stay the same hold the same statements

pub same_tables : (t u : Tables) → AreTables t → SameLists t u → IsSame t u
same_tables t u a s =
    let st : statements_of u ≡ statements_of t = rw (s.symbols, s.labels, s.flat, s.log) refl in
    record {
      tables = record {
        sound = rw st a.sound;
        counted = rw (s.log, s.flat, s.bytes) a.counted;
        small = rw s.bytes a.small;
        infos = rw (st, s.symbols, s.infos) a.infos;
        labels = rw (st, s.labels, s.named, s.log) a.labels;
        entries = rw (s.symbols, s.labels, s.flat, s.log) a.entries;
        scopes = rw (st, s.scopes.blocks, s.scopes.ends, s.scopes.open_blocks) a.scopes;
        essentials = rw (st, s.essentials) a.essentials;
        frames = rw (st, s.hypotheses, s.pairs, s.pieces, s.named) a.frames;
        typed = rw (st, s.hypotheses) a.typed;
        stated = rw (st, s.symbols, s.stated) a.stated;
      };
      statements = st;
      bytes = s.bytes;
    }

-- the same lists, where what is stated was touched and is the same still
pub same_but : (t u : Tables) (d : PairTable) → SameLists t u → d.stated ≡ u.distinct.stated
    → SameLists t (record u { distinct = d })
same_but t u d same stated = search (stated ∙ same.stated)

-- what holds either way
pub on_err : {T E P : Type 0} (r : Result T E) → P → OnErr r P
on_err (Ok x) holds = tt
on_err (Err e) holds = holds

-- ==== a book's lists after one statement more, from what holds of each of them

-- the lists that are looked up by statement, once they hold one statement more
pub record AreGrown (t v : Tables) (s : Sentence) : Type 0 where
  pub infos : AreInfos (statements_of t ++ s ∷ []) v.symbols.names v.infos.items
  pub labels : AreLabelInfos (statements_of t ++ s ∷ []) v.labels.names v.named.items v.log.items
  pub scopes : HaveScopes (statements_of t ++ s ∷ []) v.scopes
  pub essentials : AreEssentials (statements_of t ++ s ∷ []) v.essentials.items
  pub frames : AreFrames (statements_of t ++ s ∷ []) v.hypotheses.items v.pairs.items v.pieces.items v.named.items
  pub typed : HaveTypings (statements_of t ++ s ∷ []) v.hypotheses.items
  pub stated : AreStated (statements_of t ++ s ∷ []) v.symbols.names v.distinct.stated

-- what was appended to the lists that say the statements
pub record AreAppended (t v : Tables) (a b : List (List ℕ)) (c : List Sym) (new : Entry) (s : Sentence) : Type 0 where
  pub symbols : v.symbols.names ≡ t.symbols.names ++ a
  pub labels : v.labels.names ≡ t.labels.names ++ b
  pub flat : v.flat.items ≡ t.flat.items ++ c
  pub log : v.log.items ≡ t.log.items ++ new ∷ []
  pub said : sentence_by (t.symbols.names ++ a) (t.labels.names ++ b) (t.flat.items ++ c) new ≡ s
  pub within : IsPartWithin new.symbols (length (t.flat.items ++ c))
  pub numbers : (i : ℕ) (n : Sym) → slice_get c i ≡ Some n → n.0 < length (t.symbols.names ++ a)
  pub label : (id : LabelId) → new.label ≡ Some id → id.0 < length (t.labels.names ++ b)

pub assembled : (t v : Tables) (s : Sentence) (new : Entry) (a b : List (List ℕ)) (c : List Sym) (bytes : ℕ) → AreTables t → IsMeant (statements_of t) s → IsFormedSentence s
    → AreAppended t v a b c new s → AreGrown t v s → v.bytes ≡ t.bytes + bytes → 1 + length c ≤ bytes → t.bytes + bytes ≤ most_bytes → Grows t v s bytes
assembled t v s new a b c bytes tables meant formed app grown counted enough room =
    let pushed = sentences_push a b c tables.entries new in
    let st : statements_of v ≡ statements_of t ++ s ∷ [] =
    rw (app.symbols, app.labels, app.flat, app.log) (pushed ∙ ap (λ (x : Sentence). statements_of t ++ x ∷ []) app.said) in
    let logs = length-append t.log.items (new ∷ []) in
    record {
      tables = record {
        sound = rw st (
          allmeant_push (statements_of t) s tables.sound.0 meant,
          each_pushed IsFormedSentence (statements_of t) _ tables.sound.1 formed,
        );
        counted = rw (app.log, app.flat, counted, logs, length-append t.flat.items c) (omega arith);
        small = rw counted room;
        infos = rw st grown.infos;
        labels = rw st grown.labels;
        entries = rw (app.symbols, app.labels, app.flat, app.log) (entries_push _ _ _ _ a b c new
            tables.entries app.within app.numbers app.label);
        scopes = rw st grown.scopes;
        essentials = rw st grown.essentials;
        frames = rw st grown.frames;
        typed = rw st grown.typed;
        stated = rw st grown.stated;
      };
      statements = st;
      counted = counted;
    }

-- ==== the lists of no statements

-- new lists hold no statements
pub empty_tables : (t : Tables) → t.symbols.names ≡ [] → t.infos.items ≡ [] → t.labels.names ≡ [] → t.named.items ≡ [] → t.log.items ≡ [] → t.flat.items ≡ []
    → HaveScopes [] t.scopes → t.essentials.items ≡ [] → t.hypotheses.items ≡ []
    → t.distinct.stated ≡ record { pairs = []; wide = [] } → t.bytes ≡ 0 → AreTables t
    × (statements_of t ≡ []) × (t.bytes ≡ 0)
empty_tables t e1 e2 e3 e4 e5 e6 scopes e7 hs e8 e9 =
    let none : statements_of t ≡ [] = rw (e1, e3, e6, e5) (unfold sentences_by in refl) in (
      record {
        sound = rw none (meant_from_indices [] (λ p s there. absurd (cc)), λ p s there. absurd (cc));
        counted = rw (e5, e6) (omega arith);
        small = omega (arith, e9);
        infos = rw (none, e1, e2) infos_none;
        labels = rw (none, e3, e4, e5) (search rules);
        entries = rw (e1, e3, e5, e6) (search rules);
        scopes = rw none scopes;
        essentials = rw (none, e7) (search rules);
        frames = λ id info x there at kind. absurd (let bad = rw e4 at there in cc);
        typed = rw hs (λ i h there. absurd (cc));
        stated = rw (none, e8) (search rules);
      },
      none,
      e9,
    )
