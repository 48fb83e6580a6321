-- A book's lists once a statement with no label is written: `${`, `$}` or `$d`.
use Rattle.std.proofs.Common.{◌≡◌, ℕ, suc, ◌+◌, ◌<◌, ◌≤◌, length, List, [], ◌∷◌, ◌++◌}
use Rattle.std.proofs.Common.{Some, None, refl, sym, ap, ◌∙◌, append-nil, arith, slice_get}
use Rattle.std.proofs.Common.{map}
use Rattle.mm_base.specs.declared.statement.Kind.{Kind}
use Rattle.mm_base.specs.declared.statement.Kind.TheVariants.{Opening, Closing, Floating, Distinct}
use Rattle.mm_base.specs.MostBytes.{most_bytes}
use Rattle.mm_frame.specs.declared.number.Sym.{Sym}
use Rattle.mm_frame.specs.declared.tables.Tables.{Tables}
use Rattle.mm_frame.specs.Sentence.{Sentence}
use Rattle.mm_frame.specs.Active.{open_marks, close_marks}
use Rattle.mm_frame.specs.Rules.{IsMeant}
use Rattle.mm_frame.specs.Form.{IsFormedSentence}
use Rattle.mm_frame.specs.Numbers.{declared_by, AreNumbers}
use Rattle.mm_frame.specs.Mirror.ScopesOf.{HaveScopes}
use Rattle.mm_frame.specs.Mirror.Layout.{AreTables, AreEssentials, AreInfos, names_by}
use Rattle.mm_frame.specs.Mirror.Layout.{statements_of, AreStated}
use Rattle.mm_frame.specs.Mirror.Forgotten.{AreForgotten}
use Rattle.mm_frame.specs.Mirror.Grows.{Grows, SameLists, Entered, entry_of, HaveRoom}
use Rattle.std.proofs.lemmas.Option.{slice_get_within}
use Rattle.mm_frame.proofs.BookLists.GrownLists.{assembled, added_part}
use Rattle.mm_frame.proofs.BookLists.GrownLists.{names_numbered, same_sentence}
use Rattle.mm_frame.proofs.BookLists.GrownLists.{longer, all_statements}
use Rattle.mm_frame.proofs.Blocks.NumberedBlocks.{length_pushed}
use Rattle.mm_frame.proofs.BookLists.SymbolsAndLabels.{infos_other, labels_none, essentials_other}
use Rattle.mm_frame.proofs.BookLists.SymbolsAndLabels.{essentials_closing}
use Rattle.mm_frame.proofs.Frames.FrameLaws.{indexed, frames_other, stated_other}
use Rattle.mm_frame.proofs.Frames.FrameTypings.{typings_grow}
use Rattle.mm_frame.specs.Mirror.Stated.{PairTable}
use Rattle.mm_frame.specs.Mirror.Separated.{EntersMembers}
use Rattle.mm_frame.proofs.Names.NameNumbers.{numbers_within}

-- ---- what is written

-- a statement with no label was written, and its symbols by number; but what is stated and the
-- active `$e` are another matter
pub record AddsUnlabelled (t v : Tables) (kind : Kind) (members : List Sym) (bytes : ℕ) : Type 0 where
  pub symbols : v.symbols.names ≡ t.symbols.names
  pub infos : v.infos.items ≡ t.infos.items
  pub labels : v.labels.names ≡ t.labels.names
  pub named : v.named.items ≡ t.named.items
  pub log : v.log.items ≡ t.log.items
      ++ entry_of kind None (length t.flat.items) (length (t.flat.items ++ members)) ∷ []
  pub flat : v.flat.items ≡ t.flat.items ++ members
  pub scopes : (statements : List Sentence) (s : Sentence) → HaveScopes statements t.scopes
      → s.kind ≡ kind → (kind ≡ Closing → close_marks statements < open_marks statements)
      → HaveScopes (statements ++ s ∷ []) v.scopes
  pub hypotheses : v.hypotheses.items ≡ t.hypotheses.items
  pub pairs : v.pairs.items ≡ t.pairs.items
  pub pieces : v.pieces.items ≡ t.pieces.items
  pub counted : v.bytes ≡ t.bytes + bytes

-- the scopes of the same lists
pub same_scopes : (t u : Tables) (st : List Sentence) → SameLists t u → HaveScopes st t.scopes
    → HaveScopes st u.scopes
same_scopes t u st same have =
    rw (same.scopes.blocks, same.scopes.ends, same.scopes.open_blocks) have

-- room is made, and the entry of a `${` or a `$}` is written
pub adds_block : (t u w : Tables) (kind : Kind) (start bytes : ℕ) → SameLists t u
    → Entered u w kind None start bytes → start ≡ length u.flat.items
    → AddsUnlabelled t w kind [] bytes
adds_block t u w kind start bytes same e begins = record {
  symbols = e.symbols ∙ same.symbols;
  infos = e.infos ∙ same.infos;
  labels = e.labels ∙ same.labels;
  named = e.named ∙ same.named;
  log = rw (append-nil t.flat.items, ← same.flat, ← same.log) (rw begins at e.log);
  flat = e.flat ∙ same.flat ∙ sym (append-nil t.flat.items);
  scopes = λ st s have is more. e.scopes st s (same_scopes t u st same have) is more;
  hypotheses = e.hypotheses ∙ same.hypotheses;
  pairs = e.pairs ∙ same.pairs;
  pieces = e.pieces ∙ same.pieces;
  counted = e.counted ∙ ap (λ n. n + bytes) same.bytes;
}

-- room is made, something is stated, and the members of a `$d` are written
pub adds_distinct : (t u v : Tables) (d : PairTable) (members : List Sym) (bytes : ℕ)
    → SameLists t u → EntersMembers (record u { distinct = d }) v members bytes
    → AddsUnlabelled t v Distinct members bytes
adds_distinct t u v d members bytes same e = record {
  symbols = e.symbols ∙ same.symbols;
  infos = e.infos ∙ same.infos;
  labels = e.labels ∙ same.labels;
  named = e.named ∙ same.named;
  log = rw (← same.flat, ← same.log) e.log;
  flat = e.flat ∙ ap (λ xs. xs ++ members) same.flat;
  scopes = λ st s have is more. e.scopes st s (same_scopes t u st same have) is;
  hypotheses = e.hypotheses ∙ same.hypotheses;
  pairs = e.pairs ∙ same.pairs;
  pieces = e.pieces ∙ same.pieces;
  counted = e.counted ∙ ap (λ n. n + bytes) same.bytes;
}

-- there is room whatever is stated
pub has_room : (u : Tables) (d : PairTable) (n : ℕ) → HaveRoom u n
    → HaveRoom (record u { distinct = d }) n
has_room u d n room = search room

-- ---- what the lists hold then

-- a statement with no label, and the lists with it; it may declare symbols
pub record WritesUnlabelled (t v : Tables) (s : Sentence) (added : List (List ℕ))
    (numbers : List Sym) (bytes : ℕ) : Type 0 where
  pub label : s.label ≡ None
  pub meant : IsMeant (statements_of t) s
  pub formed : IsFormedSentence s
  pub symbols : v.symbols.names ≡ t.symbols.names ++ added
  pub said : names_by (t.symbols.names ++ added) numbers ≡ s.symbols
  pub within : (i : ℕ) (n : Sym) → slice_get numbers i ≡ Some n
      → n.0 < length (t.symbols.names ++ added)
  pub infos : AreInfos (statements_of t ++ s ∷ []) v.symbols.names v.infos.items
  pub labels : v.labels.names ≡ t.labels.names
  pub named : v.named.items ≡ t.named.items
  pub log : v.log.items ≡ t.log.items
      ++ entry_of s.kind None (length t.flat.items) (length (t.flat.items ++ numbers)) ∷ []
  pub flat : v.flat.items ≡ t.flat.items ++ numbers
  pub scopes : HaveScopes (statements_of t ++ s ∷ []) v.scopes
  pub essentials : AreEssentials (statements_of t ++ s ∷ []) v.essentials.items
  pub hypotheses : v.hypotheses.items ≡ t.hypotheses.items
  pub pairs : v.pairs.items ≡ t.pairs.items
  pub pieces : v.pieces.items ≡ t.pieces.items
  pub stated : AreStated (statements_of t ++ s ∷ []) v.symbols.names v.distinct.stated
  pub counted : v.bytes ≡ t.bytes + bytes

pub unlabelled_grows : (t v : Tables) (s : Sentence) (added : List (List ℕ)) (numbers : List Sym)
    (bytes : ℕ) → AreTables t → WritesUnlabelled t v s added numbers bytes
    → 1 + length numbers ≤ bytes → t.bytes + bytes ≤ most_bytes → Grows t v s bytes
unlabelled_grows t v s added numbers bytes tables w enough room =
    let new = entry_of s.kind None (length t.flat.items) (length (t.flat.items ++ numbers)) in
    assembled t v s new added [] numbers bytes tables w.meant w.formed
    (record {
      symbols = w.symbols;
      labels = w.labels ∙ sym (append-nil t.labels.names);
      flat = w.flat;
      log = w.log;
      said = same_sentence s s.kind None _ refl (sym w.label)
          (ap (names_by (t.symbols.names ++ added)) (added_part t.flat.items numbers) ∙ w.said);
      within = record { ordered = longer t.flat.items numbers; within = omega arith };
      numbers = w.within;
      label = λ id is. absurd (cc);
    })
    (record {
      infos = w.infos;
      labels = rw (w.labels, w.named, w.log)
          (labels_none _ _ _ _ s new tables.labels w.label refl (sym (all_statements t)));
      scopes = w.scopes;
      essentials = w.essentials;
      frames = rw (
        w.hypotheses ∙ sym (append-nil t.hypotheses.items),
        w.pairs ∙ sym (append-nil t.pairs.items),
        w.pieces ∙ sym (append-nil t.pieces.items),
        w.named,
      )
          (frames_other _ s t.hypotheses.items [] t.pairs.items [] t.pieces.items [] t.named.items
          (indexed _ _ _ _ tables.labels) tables.frames);
      typed = rw w.hypotheses (typings_grow _ (s ∷ []) t.hypotheses.items tables.typed);
      stated = w.stated;
    })
    w.counted enough room

-- what a `${`, a `$}` or a `$d` says
pub record IsNewUnlabelled (t : Tables) (s : Sentence) (of : Kind) (members : List Sym) : Type 0 where
  pub kind : s.kind ≡ of
  pub label : s.label ≡ None
  pub numbered : AreNumbers (statements_of t) (map (λ n. n.0) members) s.symbols
  pub meant : IsMeant (statements_of t) s
  pub formed : IsFormedSentence s

module _ {t v : Tables} {s : Sentence} {kind : Kind} {members : List Sym} {bytes : ℕ}
    (tables : AreTables t) (a : AddsUnlabelled t v kind members bytes)
    (new : IsNewUnlabelled t s kind members) (enough : 1 + length members ≤ bytes)
    (room : t.bytes + bytes ≤ most_bytes) where
  -- one that declares nothing
  added_grows : declared_by s ≡ [] → ¬ (s.kind ≡ Floating)
      → (kind ≡ Closing → close_marks (statements_of t) < open_marks (statements_of t))
      → AreEssentials (statements_of t ++ s ∷ []) v.essentials.items
      → AreStated (statements_of t ++ s ∷ []) t.symbols.names v.distinct.stated → Grows t v s bytes
  added_grows none no_float more essentials stated =
      let names = t.symbols.names in
      let numbers : map (slice_get names) (map (λ n. n.0) members) ≡ map Some s.symbols =
      rw tables.infos.all new.numbered in
      unlabelled_grows t v s [] members bytes tables (record {
        label = new.label;
        meant = new.meant;
        formed = new.formed;
        symbols = a.symbols ∙ sym (append-nil names);
        said = rw (append-nil names) (names_numbered names members s.symbols numbers);
        within = λ i n there.
            rw (append-nil names) (numbers_within names members s.symbols numbers i n there);
        infos = rw (a.symbols, a.infos) (infos_other _ _ _ s tables.infos none no_float);
        labels = a.labels;
        named = a.named;
        log = rw new.kind a.log;
        flat = a.flat;
        scopes = a.scopes _ s tables.scopes new.kind more;
        essentials = essentials;
        hypotheses = a.hypotheses;
        pairs = a.pairs;
        pieces = a.pieces;
        stated = rw a.symbols stated;
        counted = a.counted;
      }) enough room

  -- a `${` or a `$}`
  block_grows : v.distinct.stated ≡ t.distinct.stated → declared_by s ≡ []
      → ¬ (s.kind ≡ Floating) → ¬ (s.kind ≡ Distinct)
      → (kind ≡ Closing → close_marks (statements_of t) < open_marks (statements_of t))
      → AreEssentials (statements_of t ++ s ∷ []) v.essentials.items → Grows t v s bytes
  block_grows same none no_float no_distinct more essentials =
      let all = append-nil t.symbols.names ∙ (infos_other _ _ _ s tables.infos none no_float).all in
      let stated = stated_other _ s _ [] _ tables.sound.0 tables.infos.all all tables.stated
      no_distinct in
      added_grows none no_float more essentials
      (rw same (rw (append-nil t.symbols.names) at stated))

  pub open_grows : kind ≡ Opening → v.distinct.stated ≡ t.distinct.stated
      → v.essentials.items ≡ t.essentials.items → Grows t v s bytes
  open_grows is stated same =
      let own = new.kind ∙ is in
      block_grows stated (rw own refl) (λ k. absurd (cc)) (λ k. absurd (cc)) (λ k. absurd (cc))
      (rw same (essentials_other _ _ s tables.essentials (λ k. absurd (cc)) (λ k. absurd (cc))))

  pub close_grows : kind ≡ Closing → v.distinct.stated ≡ t.distinct.stated
      → AreForgotten (statements_of t ++ s ∷ []) t.essentials.items v.essentials.items
      → close_marks (statements_of t) < open_marks (statements_of t) → Grows t v s bytes
  close_grows is stated left more =
      let own = new.kind ∙ is in
      block_grows stated (rw own refl) (λ k. absurd (cc)) (λ k. absurd (cc)) (λ k. more)
      (essentials_closing _ v.essentials.items left.gone s (rw left.parted at tables.essentials) own
      left.inactive left.last_active)

  -- a `$d`
  pub distinct_grows : kind ≡ Distinct → v.essentials.items ≡ t.essentials.items
      → AreStated (statements_of t ++ s ∷ []) t.symbols.names v.distinct.stated → Grows t v s bytes
  distinct_grows is same stated =
      let own = new.kind ∙ is in
      added_grows (rw own refl) (λ k. absurd (cc)) (λ k. absurd (cc))
      (rw same (essentials_other _ _ s tables.essentials (λ k. absurd (cc)) (λ k. absurd (cc))))
      stated

-- the indices of the `$e` that were active lie before the index after a `$}`
pub closing_ready : (t u w : Tables) (start bytes at : ℕ) → AreTables t → SameLists t u
    → Entered u w Closing None start bytes
    → close_marks (statements_of t) < open_marks (statements_of t) → at ≡ length w.log.items
    → (at ≡ length w.scopes.blocks.items)
    × ((i p : ℕ) → slice_get w.essentials.items i ≡ Some p → p < at)
closing_ready t u w start bytes at tables same e more ends =
    let st = statements_of t in
    let s : Sentence = record { kind = Closing; label = None; symbols = [] } in
    let size = all_statements t in
    let longer = length_pushed st s in
    let log : length w.log.items ≡ suc (length t.log.items) =
    ap length e.log ∙ length_pushed u.log.items _ ∙ ap (λ ys. suc (length ys)) same.log in
    let scopes = e.scopes st s (same_scopes t u st same tables.scopes) refl (λ k. more) in
    let kept = e.essentials ∙ same.essentials in (
      omega (arith, scopes.held),
      λ i p there.
          let (d, index, kind, active) = tables.essentials.only i p (rw kept at there) in
          let lt = slice_get_within st p d index in
          omega arith,
    )
