use Rattle.std.proofs.Common.{◌≡◌, refl, sym, ap, ◌∙◌, subst, inr, Some, length, map, [], ◌∷◌, ◌++◌}
use Rattle.mm_frame.specs.declared.distinct.DistinctPair.{DistinctPair}
use Rattle.mm_frame.specs.declared.number.Sym.{Sym}
use Rattle.mm_frame.specs.declared.tables.Tables.{Tables}
use Rattle.mm_frame.specs.Sentence.{Sentence, IsStated, IsAssertion}
use Rattle.mm_frame.specs.Numbers.{AreNumbers}
use Rattle.mm_frame.specs.Rules.{IsMeant}
use Rattle.mm_frame.specs.Mirror.Layout.{IsFrameInfo, statements_of}
use Rattle.mm_frame.specs.Mirror.Gathered.{AreIndices}
use Rattle.mm_frame.specs.Pieces.{variables_of, HaveIndices}
use Rattle.mm_frame.specs.FrameIndex.{ArePairs}
use Rattle.mm_frame.specs.Mirror.Patterned.{AreMandatoryOf}
use Rattle.mm_frame.specs.Mirror.Grows.{entry_of}
use Rattle.mm_frame.specs.Mirror.Naming.{label_info}
use Rattle.mm_frame.proofs.BookLists.GrownLists.{on_err, same_tables}
use Rattle.mm_frame.proofs.BookLists.LabelledStatements.{few_labels, assertion_taken, asserted}
use Rattle.mm_frame.proofs.BookLists.LabelledStatements.{framed}
use Rattle.mm_frame.proofs.Frames.FrameLaws.{at_index}
use Rattle.mm_frame.proofs.Frames.FramePatterns.{typings_same, variables_same, few_hypotheses}
use Rattle.mm_frame.proofs.Frames.MandatoryPairs.{pairs_among, pairs_named}
use Rattle.mm_frame.proofs.tables.Tables.assert.Goals as goal
use Rattle.mm_frame.proofs.tables.Tables.assert.Goals.{After-note, After-deref-8}

pub returns-in_err-reserve-clause-err : goal.returns-in_err-reserve-clause-err
returns-in_err-reserve-clause-err c = on_err c.from_residual-in_err-reserve.result (same_tables _ _ c.requires.tables c.reserve.ensures.same)

pub returns-in_err-reserve_numbered-clause-err : goal.returns-in_err-reserve_numbered-clause-err
returns-in_err-reserve_numbered-clause-err c =
    on_err c.from_residual-in_err-reserve_numbered.result (same_tables _ _ c.requires.tables
    (search (c.reserve_numbered.ensures.items ∙ c.reserve.ensures.same.hypotheses)))

pub returns-in_err-reserve_numbered-2-clause-err : goal.returns-in_err-reserve_numbered-2-clause-err
returns-in_err-reserve_numbered-2-clause-err c =
    let same = c.reserve.ensures.same in
    on_err c.from_residual-in_err-reserve_numbered-2.result (same_tables _ _ c.requires.tables
    (search (
      c.reserve_numbered.ensures.items ∙ same.hypotheses,
      c.reserve_numbered-2.ensures.items ∙ same.pairs,
    )))

pub returns-in_err-conclusion-clause-err : goal.returns-in_err-conclusion-clause-err
returns-in_err-conclusion-clause-err c =
    let same = c.reserve.ensures.same in
    on_err c.from_residual-in_err-conclusion.result (same_tables _ _ c.requires.tables
    (search (
      c.reserve_numbered.ensures.items ∙ same.hypotheses,
      c.reserve_numbered-2.ensures.items ∙ same.pairs,
      c.in_err-conclusion.ensures.err ∙ same.pieces,
    )))

pub name-id-requires-clause-labels : goal.name-id-requires-clause-labels
name-id-requires-clause-labels c = rw c.reserve.ensures.same.labels (few_labels c.args.self.now c.args.bytes c.requires.tables c.requires.room)

-- the mandatory hypotheses that are found, of an assertion with the numbers
abbrev found : (c : After-note) (s : Sentence) → s.kind ≡ c.args.kind
    → AreNumbers (statements_of c.args.self.now) (map (λ n. n.0) c.args.numbers.now) s.symbols
    → IsMeant (statements_of c.args.self.now) s
    → AreMandatoryOf c.args.self.now c.args.self.now.log.items c.args.self.now.flat.items
    c.find_mandatory.new.indices.items c.find_hypotheses.new.hypotheses.items
found c s kind numbered meant =
    let st = statements_of c.args.self.now in
    let stated : IsStated s.kind = inr (subst IsAssertion (sym kind) c.requires.kind) in
    let indices = c.in_ok-find_mandatory.ensures s meant stated numbered in
    let first : AreIndices st s c.deref.result.now = rw c.deref.ensures.value indices in
    record {
      tables = c.requires.tables;
      log_is = refl;
      flat_is = refl;
      assertion = s;
      are_indices = indices;
      those = rw c.deref.ensures.value at (c.in_ok-find_hypotheses.ensures s first);
    }

-- they are read from the lists as room was made in them
read : (c : After-deref-8) → AreMandatoryOf c.args.self.now c.args.self.now.log.items
    c.args.self.now.flat.items c.find_mandatory.new.indices.items
    c.find_hypotheses.new.hypotheses.items
    → AreMandatoryOf c.args.self.now c.deref-7.result.now c.deref-8.result.now
    c.deref-6.result.now c.find_hypotheses.new.hypotheses.items
read c of = record {
  tables = c.requires.tables;
  log_is = sym c.reserve.ensures.same.log ∙ sym c.deref-7.ensures.value;
  flat_is = sym c.reserve.ensures.same.flat ∙ sym c.deref-8.ensures.value;
  assertion = of.assertion;
  are_indices = rw c.deref-6.ensures.value of.are_indices;
  those = rw c.deref-6.ensures.value of.those;
}

pub find_indices-requires-clause-few : goal.find_indices-requires-clause-few
find_indices-requires-clause-few c =
    let (s, kind, numbered, meant) = c.requires.meant in
    let here = goal.at.find_indices-requires-clause-few c in
    rw c.deref-4.ensures.value
    (few_hypotheses (found here.After-note s kind numbered meant))

pub find_indices-requires-clause-among : goal.find_indices-requires-clause-among
find_indices-requires-clause-among c =
    let (s, kind, numbered, meant) = c.requires.meant in
    let stated : IsStated s.kind = inr (subst IsAssertion (sym kind) c.requires.kind) in
    let of = found (goal.at.find_indices-requires-clause-among c).After-note s kind numbered meant in
    rw (c.deref-4.ensures.value, c.deref-5.ensures.value)
    (pairs_among _ _ _ _ _ c.requires.tables.sound meant stated of.are_indices of.those
    (c.in_ok-find_pairs.ensures s [] meant stated (rw c.deref-3.ensures.value of.are_indices)))

pub add_patterns-requires-clause-mandatory : goal.add_patterns-requires-clause-mandatory
add_patterns-requires-clause-mandatory c =
    let (s, kind, numbered, meant) = c.requires.meant in
    let here = goal.at.add_patterns-requires-clause-mandatory c in
    (c.args.self.now, read c (found here.After-note s kind numbered meant))

pub add_patterns-requires-clause-noted : goal.add_patterns-requires-clause-noted
add_patterns-requires-clause-noted c = rw c.deref-2.ensures.value at c.in_ok-note.ensures

pub returns-clause-ok : goal.returns-clause-ok
returns-clause-ok c =
    let t = c.args.self.now in
    let st = statements_of t in
    let same = c.reserve.ensures.same in
    let bare = c.find_hypotheses.new.hypotheses.items in
    let hs = c.add_patterns.new.hypotheses.items in
    let pairs = c.find_indices.new.indexed.items in
    let numbers = map (λ (n : Sym). n.0) c.args.numbers.now in
    let (more, longer) = c.add_patterns.ensures.longer in
    let conclusion = c.in_ok-conclusion.conclusion in
    let old_hypotheses : c.reserve_numbered.new.list.items ≡ t.hypotheses.items = c.reserve_numbered.ensures.items ∙ same.hypotheses in
    let old_pairs : c.reserve_numbered-2.new.list.items ≡ t.pairs.items = c.reserve_numbered-2.ensures.items ∙ same.pairs in
    let new_hypotheses : c.add_part-hypotheses.new.list.items ≡ t.hypotheses.items ++ hs = rw (c.add_part-hypotheses.ensures.items, old_hypotheses, c.deref-9.ensures.value) refl in
    let new_pairs : c.add_part-pairs.new.list.items ≡ t.pairs.items ++ pairs = rw (c.add_part-pairs.ensures.items, old_pairs, c.deref-10.ensures.value) refl in
    let new_pieces : c.add_patterns.new.pieces.items ≡ t.pieces.items ++ more = longer ∙ ap (λ ps. ps ++ more) same.pieces in (
      assertion_taken _ c.args.kind c.name-id.result c.requires.tables c.requires.kind (c.name-id.ensures.id ∙ ap length same.labels),
      λ s kind label numbered meant formed.
          let stated : IsStated s.kind = inr (subst IsAssertion (sym kind) c.requires.kind) in
          let here = goal.at.returns-clause-ok c in
          let of = found here.After-note s kind numbered meant in
          let second : AreIndices st s c.deref-3.result.now =
          rw c.deref-3.ensures.value of.are_indices in
          let patterned = c.in_ok-conclusion.ensures.patterned t (read here.After-deref-8 of) in
          let patterns = rw new_pieces at patterned in
          let of_pairs = c.in_ok-find_pairs.ensures s [] meant stated second in
          let variables : map (λ (pair : DistinctPair). pair.variables) pairs ≡ c.find_pairs.new.pairs.items = c.in_ok-find_indices.ensures.variables ∙ c.deref-5.ensures.value in
          let are_pairs : ArePairs (at_index (st ++ s ∷ []) (length st)) (map (λ pair. (pair.variables.0.0, pair.variables.1.0)) pairs) =
          pairs_named _ c.find_pairs.new.pairs.items pairs variables of_pairs in
          let placed_first = rw c.deref-4.ensures.value at c.in_ok-find_indices.ensures.indices in
          let indexed : HaveIndices (variables_of hs) pairs = rw (variables_same bare hs patterns.same) placed_first in
          let new = entry_of c.args.kind (Some c.name-id.result) (length t.flat.items) (length (t.flat.items ++ c.args.numbers.now)) in
          let framed_at : IsFrameInfo (st ++ s ∷ []) (t.hypotheses.items ++ hs) (t.pairs.items ++ pairs) (t.pieces.items ++ more)
          (label_info (length t.log.items) new (c.add_part-hypotheses.result, c.add_part-pairs.result, conclusion)) =
          rw (c.add_part-hypotheses.ensures.part, c.add_part-pairs.ensures.part, old_hypotheses, old_pairs, c.deref-9.ensures.value, c.deref-10.ensures.value)
          (framed _ _ new _ _ _ _ pairs more _ c.requires.tables of.are_indices of.those are_pairs indexed numbered patterns) in
          let before : Tables = record c.reserve.new.self {
            hypotheses = c.add_part-hypotheses.new.list;
            pairs = c.add_part-pairs.new.list;
            pieces = c.add_patterns.new.pieces;
          } in
          asserted _ before _ s _ _ _ _ _ hs pairs more _ c.requires.tables c.requires.kind
          (search (new_hypotheses, new_pairs, new_pieces))
          same.infos same.essentials
          c.name-id.ensures.named c.name-id.ensures.id
          (record { kinds = kind; label = label; numbered = numbered; meant = meant; formed = formed })
          framed_at
          (typings_same st bare hs patterns.same of.those.typed)
          c.requires.enough c.requires.room,
    )
