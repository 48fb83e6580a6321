-- A book's lists once a label and its statement are written.
use Rattle.std.proofs.Common.{◌≡◌, ℕ, ◌+◌, ◌<◌, ◌≤◌, inl, inr, length, set, List, [], ◌∷◌, ◌++◌}
use Rattle.std.proofs.Common.{map, Some, refl, sym, ap, ◌∙◌, subst, length-append, arith, slice_get}
use Rattle.std.proofs.Common.{fold, append-nil}
use Rattle.mm_base.specs.declared.statement.Kind.{Kind}
use Rattle.mm_base.specs.declared.statement.Kind.TheVariants.{Floating, Essential, Distinct}
use Rattle.mm_base.specs.declared.statement.Kind.TheVariants.{Closing}
use Rattle.mm_base.specs.MostBytes.{most_bytes}
use Rattle.mm_frame.specs.declared.distinct.DistinctPair.{DistinctPair}
use Rattle.mm_frame.specs.declared.hypothesis.Hypothesis.{Hypothesis}
use Rattle.mm_frame.specs.declared.number.LabelId.{LabelId}
use Rattle.mm_frame.specs.declared.number.Sym.{Sym}
use Rattle.mm_frame.specs.declared.piece.Piece.{Piece}
use Rattle.mm_frame.specs.declared.tables.Entry.{Entry}
use Rattle.mm_frame.specs.declared.tables.LabelInfo.{LabelInfo}
use Rattle.mm_frame.specs.declared.part.Part.{Part}
use Rattle.mm_frame.specs.declared.tables.SymbolInfo.{SymbolInfo}
use Rattle.mm_frame.specs.declared.tables.Tables.{Tables}
use Rattle.mm_frame.specs.Sentence.{Sentence, IsAssertion, IsHypothesis}
use Rattle.mm_frame.specs.Rules.{IsMeant}
use Rattle.mm_frame.specs.declared.rule.MeaningRule.TheVariants.{M5}
use Rattle.mm_frame.specs.Form.{IsFormedSentence}
use Rattle.mm_frame.specs.Numbers.{AreNumbers, symbols_of, with_name, declared_by, declared_in}
use Rattle.mm_frame.specs.Mirror.ScopesOf.{HaveScopes, HaveSameLists}
use Rattle.mm_frame.specs.Taken.{next_id, TakenAs}
use Rattle.mm_frame.specs.declared.answer.Taken.TheVariants.{Assertion}
use Rattle.mm_frame.specs.Mirror.Layout.{AreTables, AreInfos, AreLabelInfos, AreEssentials}
use Rattle.mm_frame.specs.Mirror.Layout.{AreFrames, IsFrameInfo, names_by, statements_of}
use Rattle.mm_frame.specs.Mirror.Grows.{Grows, SameLists, entry_of}
use Rattle.mm_frame.specs.Mirror.Naming.{Named, FrameParts, label_info, part_after}
use Rattle.mm_frame.specs.FrameIndex.{AreHypotheses, HaveTypings, ArePairs}
use Rattle.mm_frame.specs.Mirror.Gathered.{AreIndices, AreThoseAt}
use Rattle.mm_frame.specs.Pieces.{variables_of, HaveIndices}
use Rattle.mm_frame.specs.Mirror.Patterned.{ArePatterned}
use Rattle.mm_frame.proofs.Frames.MandatoryHypotheses.{hypotheses_from_indices}
use Rattle.mm_base.proofs.Lists.{get_pushed, contains_from_at, get_within}
use Rattle.mm_frame.proofs.Rules.SymbolLookups.{label_number}
use Rattle.mm_frame.proofs.Names.NameNumbers.{with_name_cases, symbols_push, numbers_within}
use Rattle.mm_frame.proofs.Names.LabelNumbers.{labelled_few}
use Rattle.mm_frame.proofs.BookLists.SymbolsAndLabels.{labels_counted, labels_some}
use Rattle.mm_frame.proofs.BookLists.SymbolsAndLabels.{essentials_essential, essentials_other}
use Rattle.mm_frame.proofs.BookLists.SymbolsAndLabels.{infos_other, infos_floating}
use Rattle.mm_frame.proofs.BookLists.GrownLists.{all_statements, longer, added_part}
use Rattle.mm_frame.proofs.BookLists.GrownLists.{names_numbered, same_sentence, AreAppended}
use Rattle.mm_frame.proofs.BookLists.GrownLists.{assembled}
use Rattle.mm_frame.proofs.Frames.FrameLaws.{at_index, stated_other, indexed, frames_hypothesis}
use Rattle.mm_frame.proofs.Frames.FrameLaws.{frames_assertion}
use Rattle.mm_frame.proofs.Frames.FrameTypings.{typings_grow, typings_join}
use Rattle.mm_frame.proofs.Frames.VariableIndices.{its_pieces_grow, pattern_grow}
use Rattle.mm_frame.proofs.Frames.FramePatterns.{ids_same}
use Rattle.std.proofs.lemmas.Option.{slice_get_within}

-- there are fewer labels than numbers for them
pub few_labels : (t : Tables) (bytes : ℕ) → AreTables t → t.bytes + bytes ≤ most_bytes → length t.labels.names + 1 < 4294967296
few_labels t bytes are room =
    let counted = labels_counted (statements_of t) t.labels.names t.named.items t.log.items are.labels in
    let few = labelled_few (statements_of t) in
    let size = all_statements t in
    omega arith

-- the number of the next label
pub next_number : (t : Tables) (id : LabelId) → AreTables t → id.0 ≡ length t.labels.names → id ≡ next_id (statements_of t)
next_number t id are is =
    let counted = labels_counted (statements_of t) t.labels.names t.named.items t.log.items are.labels in
    ap (λ (n : ℕ). let i : LabelId = record { 0 = n } in i) (is ∙ sym counted)

-- a label that breaks no rule is new
pub label_new : (st : List Sentence) (labels : List (List ℕ)) (named : List LabelInfo) (log : List Entry) (s : Sentence) (l : List ℕ) → AreLabelInfos st labels named log → IsMeant st s → s.label ≡ Some l
    → with_name labels l ≡ labels ++ l ∷ []
label_new st labels named log s l are meant has = elim (with_name_cases labels l) [
  | inl (at, same) ↦ absurd (meant M5 (l, has, (label_number st labels l are.all).1 (contains_from_at labels l at)))
  | inr (new, longer) ↦ longer
]

-- the lists before a label is written: those of a book, but for what is known of symbols and for the active `$e`, and with more of frames
pub record Before (t u : Tables) (a : List Hypothesis) (b : List DistinctPair) (c : List Piece) : Type 0 where
  pub symbols : u.symbols.names ≡ t.symbols.names
  pub labels : u.labels.names ≡ t.labels.names
  pub named : u.named.items ≡ t.named.items
  pub log : u.log.items ≡ t.log.items
  pub flat : u.flat.items ≡ t.flat.items
  pub scopes : HaveSameLists t.scopes u.scopes
  pub hypotheses : u.hypotheses.items ≡ t.hypotheses.items ++ a
  pub pairs : u.pairs.items ≡ t.pairs.items ++ b
  pub pieces : u.pieces.items ≡ t.pieces.items ++ c
  pub stated : u.distinct.stated ≡ t.distinct.stated
  pub bytes : u.bytes ≡ t.bytes

-- lists that are the same are so
pub before_same : (t u : Tables) → SameLists t u → Before t u [] [] []
before_same t u same = search (
  same.hypotheses ∙ sym (append-nil t.hypotheses.items),
  same.pairs ∙ sym (append-nil t.pairs.items),
  same.pieces ∙ sym (append-nil t.pieces.items),
)

-- what the new statement is, as the lists say it
pub record IsWritten (t : Tables) (s : Sentence) (kind : Kind) (l : List ℕ) (numbers : List Sym) : Type 0 where
  pub kinds : s.kind ≡ kind
  pub label : s.label ≡ Some l
  pub numbered : AreNumbers (statements_of t) (map (λ n. n.0) numbers) s.symbols
  pub meant : IsMeant (statements_of t) s
  pub formed : IsFormedSentence s

-- a statement that declares nothing leaves the symbols as they are
same_symbols : (t : Tables) (s : Sentence) → AreTables t → declared_by s ≡ []
    → t.symbols.names ++ [] ≡ symbols_of (statements_of t ++ s ∷ [])
same_symbols t s are none = append-nil t.symbols.names ∙ are.infos.all
    ∙ sym (symbols_push (statements_of t) s ∙ ap (fold with_name (symbols_of (statements_of t))) none)

-- the entry of the statement
abbrev entry_at_end : Tables → Kind → LabelId → List Sym → Entry
entry_at_end t kind id numbers =
    entry_of kind (Some id) (length t.flat.items) (length (t.flat.items ++ numbers))

module _ {t u v : Tables} {s : Sentence} {kind : Kind} {l : List ℕ} {numbers : List Sym}
    {frame : FrameParts} {id : LabelId} {a : List Hypothesis} {b : List DistinctPair}
    {c : List Piece} {bytes : ℕ} (are : AreTables t) (before : Before t u a b c)
    (named : Named u v kind l numbers frame id bytes) (number : id.0 ≡ length u.labels.names)
    (is : IsWritten t s kind l numbers) where
  appended : AreAppended t v [] (l ∷ []) numbers (entry_at_end t kind id numbers) s
  appended =
      let names = rw (← are.infos.all) at is.numbered in
      let more : t.symbols.names ++ [] ≡ t.symbols.names = append-nil t.symbols.names in
      let number' : id.0 ≡ length t.labels.names = number ∙ ap length before.labels in
      let new = label_new (statements_of t) t.labels.names t.named.items t.log.items s l are.labels
      is.meant is.label in
      let size = length-append t.labels.names (l ∷ []) in
      record {
        symbols = named.symbols ∙ before.symbols ∙ sym more;
        labels = named.labels ∙ ap (λ ys. with_name ys l) before.labels ∙ new;
        flat = named.flat ∙ ap (λ ys. ys ++ numbers) before.flat;
        log = rw (← before.flat, ← before.log) named.log;
        said = same_sentence s kind _ _ (sym is.kinds)
            (ap (slice_get (t.labels.names ++ l ∷ [])) number' ∙ get_pushed t.labels.names l
            ∙ sym is.label)
            (ap (names_by (t.symbols.names ++ [])) (added_part t.flat.items numbers)
            ∙ ap (λ ys. names_by ys numbers) more ∙ names_numbered t.symbols.names numbers _ names);
        within = record { ordered = longer t.flat.items numbers; within = omega arith };
        numbers = λ i n there.
            rw more (numbers_within t.symbols.names numbers s.symbols names i n there);
        label = λ other same. let f : id.0 ≡ other.0 = cc in omega arith;
      }

  -- the lists hold one statement more, where those of infos, essentials and frames do
  pub named_grows : declared_by s ≡ [] → ¬ (kind ≡ Closing) → ¬ (kind ≡ Distinct)
      → AreInfos (statements_of t ++ s ∷ []) t.symbols.names u.infos.items
      → AreEssentials (statements_of t ++ s ∷ []) u.essentials.items
      → AreFrames (statements_of t ++ s ∷ []) (t.hypotheses.items ++ a) (t.pairs.items ++ b)
      (t.pieces.items ++ c)
      (t.named.items ++ label_info (length t.log.items) (entry_at_end t kind id numbers) frame ∷ [])
      → HaveTypings (statements_of t) a → 1 + length numbers ≤ bytes
      → t.bytes + bytes ≤ most_bytes → Grows t v s bytes
  named_grows none unclosed together infos essentials frames typings enough room =
      let st = statements_of t in
      let new = entry_at_end t kind id numbers in
      let size = all_statements t in
      let labels = labels_some _ _ _ _ s new l id (label_info (length t.log.items) new frame)
      are.labels is.label refl (number ∙ ap length before.labels) (sym size) refl refl (sym size) in
      let held : HaveScopes st u.scopes =
      rw (before.scopes.blocks, before.scopes.ends, before.scopes.open_blocks) are.scopes in
      let names : v.named.items ≡ t.named.items ++ label_info (length t.log.items) new frame ∷ [] =
      rw (← before.flat, ← before.log, ← before.named) named.named in
      let kept = stated_other _ s _ [] _ are.sound.0 are.infos.all (same_symbols _ s are none)
      are.stated (λ distinct. together (sym is.kinds ∙ distinct)) in
      let app = appended in
      assembled t v s new [] (l ∷ []) numbers bytes are is.meant is.formed app
      (record {
        infos = rw (named.symbols ∙ before.symbols, named.infos) infos;
        labels = rw (app.labels, names, app.log) labels;
        scopes = named.scopes st s held is.kinds (λ closes. absurd (unclosed closes));
        essentials = rw named.essentials essentials;
        frames = rw (
          named.hypotheses ∙ before.hypotheses,
          named.pairs ∙ before.pairs,
          named.pieces ∙ before.pieces,
          names,
        ) frames;
        typed = rw (named.hypotheses ∙ before.hypotheses)
            (typings_grow st (s ∷ []) (t.hypotheses.items ++ a)
            (typings_join st t.hypotheses.items a are.typed typings));
        stated = rw (app.symbols, named.stated, before.stated) kept;
      })
      (named.counted ∙ ap (λ n. n + bytes) before.bytes) enough room

no_assertion : (s : Sentence) → IsHypothesis s.kind → ¬ (IsAssertion s.kind)
no_assertion s (inl is) asserts = elim asserts [ inl e ↦ absurd cc | inr e ↦ absurd cc ]
no_assertion s (inr is) asserts = elim asserts [ inl e ↦ absurd cc | inr e ↦ absurd cc ]

-- a hypothesis has no frame
hypothesis_frames : (t : Tables) (s : Sentence) (e : Entry) (frame : FrameParts) → AreTables t → ¬ (IsAssertion s.kind)
    → AreFrames (statements_of t ++ s ∷ []) (t.hypotheses.items ++ []) (t.pairs.items ++ []) (t.pieces.items ++ []) (t.named.items ++ label_info (length t.log.items) e frame ∷ [])
hypothesis_frames t s e frame are other =
    frames_hypothesis _ s t.hypotheses.items [] t.pairs.items [] t.pieces.items [] t.named.items
    (indexed _ _ _ _ are.labels) are.frames _ (sym (all_statements t)) other

module _ {t u v : Tables} {s : Sentence} {kind : Kind} {l : List ℕ} {numbers : List Sym}
    {frame : FrameParts} {id : LabelId} {bytes : ℕ} (are : AreTables t)
    (before : Before t u [] [] []) (named : Named u v kind l numbers frame id bytes)
    (number : id.0 ≡ length u.labels.names) (is : IsWritten t s kind l numbers)
    (enough : 1 + length numbers ≤ bytes) (room : t.bytes + bytes ≤ most_bytes) where
  -- a `$e` or a `$f`
  hypothesis_grows : IsHypothesis kind
      → AreInfos (statements_of t ++ s ∷ []) t.symbols.names u.infos.items
      → AreEssentials (statements_of t ++ s ∷ []) u.essentials.items → Grows t v s bytes
  hypothesis_grows which infos essentials =
      let own = is.kinds in
      named_grows are before named number is
      (elim which [ inl e ↦ rw (own ∙ e) refl | inr e ↦ rw (own ∙ e) refl ])
      (λ closes. elim which [ inl e ↦ absurd (cc) | inr e ↦ absurd (cc) ])
      (λ closes. elim which [ inl e ↦ absurd (cc) | inr e ↦ absurd (cc) ])
      infos essentials
      (hypothesis_frames _ s (entry_at_end t kind id numbers) frame are
      (no_assertion s (rw own which))) (λ i h at. absurd (cc)) enough room

  -- a `$e`
  pub supposed : kind ≡ Essential → u.infos.items ≡ t.infos.items
      → u.essentials.items ≡ t.essentials.items ++ length t.log.items ∷ [] → Grows t v s bytes
  supposed kind infos essentials =
      let own = is.kinds ∙ kind in
      hypothesis_grows (inr kind)
      (rw infos (infos_other _ _ _ s are.infos (rw own refl) (λ floats. absurd (cc))))
      (rw essentials (rw (all_statements t) at (essentials_essential _ _ s are.essentials own)))

  -- a `$f`
  pub typed : (code x : List ℕ) (n : Sym) (info : SymbolInfo) → kind ≡ Floating
      → s.symbols ≡ code ∷ x ∷ [] → slice_get t.symbols.names n.0 ≡ Some x
      → slice_get t.infos.items n.0 ≡ Some info
      → u.infos.items ≡ set t.infos.items n.0 (record info { floating = Some (length t.log.items) })
      → u.essentials.items ≡ t.essentials.items → Grows t v s bytes
  typed code x n info kind says at there infos essentials =
      let own = is.kinds ∙ kind in
      hypothesis_grows (inl kind)
      (rw infos (rw (all_statements t) at
      (infos_floating _ _ _ s code x n.0 info are.infos own says at there)))
      (rw essentials (essentials_other _ _ s are.essentials (λ e. absurd (cc)) (λ e. absurd (cc))))

-- a `$a` or `$p`
pub asserted : (t u v : Tables) (s : Sentence) (kind : Kind) (l : List ℕ) (numbers : List Sym) (frame : FrameParts) (id : LabelId) (a : List Hypothesis) (b : List DistinctPair) (c : List Piece) (bytes : ℕ)
    → AreTables t → IsAssertion kind → Before t u a b c → u.infos.items ≡ t.infos.items → u.essentials.items ≡ t.essentials.items
    → Named u v kind l numbers frame id bytes → id.0 ≡ length u.labels.names → IsWritten t s kind l numbers
    → IsFrameInfo (statements_of t ++ s ∷ []) (t.hypotheses.items ++ a) (t.pairs.items ++ b) (t.pieces.items ++ c) (label_info (length t.log.items) (entry_at_end t kind id numbers) frame)
    → HaveTypings (statements_of t) a → 1 + length numbers ≤ bytes → t.bytes + bytes ≤ most_bytes → Grows t v s bytes
asserted t u v s kind l numbers frame id a b c bytes are which before infos essentials named number is framed typings enough room =
    let st = statements_of t in
    let none : declared_by s ≡ [] = ap (λ k. declared_in k s.symbols) is.kinds
    ∙ elim which [ inl e ↦ ap (λ k. declared_in k s.symbols) e | inr e ↦ ap (λ k. declared_in k s.symbols) e ] in
    let unclosed : ¬ (kind ≡ Closing) = λ e. elim which [ inl f ↦ absurd (cc) | inr f ↦ absurd (cc) ] in
    let apart : ¬ (kind ≡ Distinct) = λ e. elim which [ inl f ↦ absurd (cc) | inr f ↦ absurd (cc) ] in
    let typeless : ¬ (s.kind ≡ Floating) = λ e. let k = is.kinds in elim which [ inl f ↦ absurd (cc) | inr f ↦ absurd (cc) ] in
    let unsupposed : ¬ (s.kind ≡ Essential) = λ e. let k = is.kinds in elim which [ inl f ↦ absurd (cc) | inr f ↦ absurd (cc) ] in
    let active = essentials_other _ _ s are.essentials unsupposed (λ e. unclosed (sym is.kinds ∙ e)) in
    named_grows are before named number is none unclosed apart
    (rw infos (infos_other _ _ _ s are.infos none typeless)) (rw essentials active)
    (frames_assertion st s t.hypotheses.items a t.pairs.items b t.pieces.items c t.named.items
    (indexed _ _ _ _ are.labels) are.frames _ framed) typings enough room

-- what is known of a symbol that has a number
pub known_info : (t : Tables) (n : Sym) (x : List ℕ) → AreTables t → slice_get t.symbols.names n.0 ≡ Some x → (info : SymbolInfo) × (slice_get t.infos.items n.0 ≡ Some info)
known_info t n x are at =
    let lt = slice_get_within t.symbols.names n.0 x at in
    get_within t.infos.items n.0 (omega arith)

-- what is noted of a symbol, by lists, numbers and indices that are the same
pub noted : (old told new : List SymbolInfo) (m n : Sym) (info : SymbolInfo) (p q : ℕ) → old ≡ told → m ≡ n → p ≡ q → slice_get told n.0 ≡ Some info
    → ((i : SymbolInfo) → slice_get old m.0 ≡ Some i → new ≡ set old m.0 (record i { floating = Some p })) → new ≡ set told n.0 (record info { floating = Some q })
noted old told new m n info p q same is index there tells =
    tells info (rw (same, is) there)
    ∙ ap (λ xs. set xs m.0 (record info { floating = Some p })) same
    ∙ ap (λ (k : Sym). set told k.0 (record info { floating = Some p })) is
    ∙ ap (λ r. set told n.0 (record info { floating = Some r })) index

-- the frame of a new assertion, at the ends of the lists of hypotheses, of pairs and of pieces
pub framed : (t : Tables) (s : Sentence) (e : Entry) (indices numbers : List ℕ) (old a : List Hypothesis) (b : List DistinctPair) (c : List Piece) (conclusion : Part) → AreTables t → AreIndices (statements_of t) s indices
    → AreThoseAt (statements_of t) indices old → ArePairs (at_index (statements_of t ++ s ∷ []) (length (statements_of t))) (map (λ pair. (pair.variables.0.0, pair.variables.1.0)) b) → HaveIndices (variables_of a) b
    → AreNumbers (statements_of t) numbers s.symbols → ArePatterned (statements_of t) numbers old a (t.pieces.items ++ c) conclusion
    → IsFrameInfo (statements_of t ++ s ∷ []) (t.hypotheses.items ++ a) (t.pairs.items ++ b) (t.pieces.items ++ c) (label_info (length t.log.items) e (part_after t.hypotheses.items a, part_after t.pairs.items b, conclusion))
framed t s e indices numbers old a b c conclusion are at those pairs indexed numbered patterned =
    let st = statements_of t in
    let size = all_statements t in
    let hs : AreHypotheses (at_index (st ++ s ∷ []) (length st)) (map (λ h. h.id.0) a) =
    rw (ids_same old a patterned.same, those.numbers) (hypotheses_from_indices st indices s [] are.sound.1 at) in
    let all_h = added_part t.hypotheses.items a in
    let all_p = added_part t.pairs.items b in
    let concluded = patterned.concluded in
    record {
      hypotheses_in = record { ordered = longer t.hypotheses.items a; within = omega arith };
      pairs_in = record { ordered = longer t.pairs.items b; within = omega arith };
      conclusion_in = record { ordered = concluded.ordered; within = concluded.within };
      are_hypotheses = rw (← size, all_h) hs;
      are_pairs = rw (← size, all_p) pairs;
      indexed = rw (all_h, all_p) indexed;
      concluded = (
        s,
        rw (← size) (get_pushed st s),
        rw all_h (its_pieces_grow st (s ∷ []) _ s _ (numbers, numbered, concluded.says)),
      );
      patterned = rw all_h (λ i h at. pattern_grow st (s ∷ []) _ _ h (patterned.patterned i h at));
    }

-- what an assertion is taken as
pub assertion_taken : (t : Tables) (kind : Kind) (id : LabelId) → AreTables t → IsAssertion kind → id.0 ≡ length t.labels.names → TakenAs (statements_of t) kind (Assertion id)
assertion_taken t kind id are which is = elim which [
  | inl one ↦ subst (λ k. TakenAs (statements_of t) k (Assertion id)) (sym one) (ap Assertion (next_number t id are is))
  | inr other ↦ subst (λ k. TakenAs (statements_of t) k (Assertion id)) (sym other) (ap Assertion (next_number t id are is))
]
