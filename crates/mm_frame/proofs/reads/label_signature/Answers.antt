use Rattle.mm_frame.proofs.BookLists.ReadLabels.{frame_hypotheses, frame_typings, frame_pairs}
use Rattle.mm_frame.proofs.BookLists.ReadLabels.{no_info, frame_indices, frame_concluded}
use Rattle.mm_frame.proofs.BookLists.ReadLabels.{frame_patterns}
use Rattle.mm_frame.proofs.reads.label_signature.Goals as goal

pub returns : goal.returns
returns c index s numbered asserts =
    let t = c.args.tables.now in
    let id = c.args.id.0 in
    let info = c.in-Some.info in
    let tables = c.requires.tables in
    let told = rw c.in-Some.is at c.label_info.ensures in
    let hs = c.part_of.result.now in
    let hypotheses = rw c.deref.ensures.value at c.part_of.ensures in
    let pairs = rw c.deref-in-Some.ensures.value at c.part_of-in-Some.ensures in
    record {
      ids = frame_hypotheses t id index s info tables numbered asserts told hs hypotheses;
      typed = frame_typings t id index s info tables numbered asserts told hs hypotheses;
      pairs = frame_pairs t id index s info tables numbered asserts told _ pairs;
      indices = frame_indices t id index s info tables numbered asserts told hs _ hypotheses pairs;
      conclusion = frame_concluded t id index s info tables numbered asserts told hs _ hypotheses
          rw c.deref-in-Some-2.ensures.value at c.part_of-in-Some-2.ensures;
      patterns = rw c.deref-in-Some-3.ensures.value
          (frame_patterns t id index s info tables numbered asserts told hs hypotheses);
    }

pub unreachable-requires : goal.unreachable-requires
unreachable-requires c = no_info _ _ _ _ c.requires.tables c.requires.assertion.2
    (rw c.in-None.is at c.label_info.ensures)
