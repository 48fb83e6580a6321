use Rattle.std.proofs.Common.{◌≡◌, ◌++◌, [], ◌∷◌, ℕ, length, None, ap, ◌∙◌, if◌then◌else◌}
use Rattle.mm_base.specs.declared.statement.Kind.TheVariants.{Distinct}
use Rattle.mm_frame.specs.Mirror.Grows.{entry_of}
use Rattle.mm_frame.proofs.tables.Tables.enter_members.Goals as goal

pub returns-clause-entered : goal.returns-clause-entered
returns-clause-entered c =
    let t = c.args.self.now in
    let e = c.enter.ensures in
    let longer = c.extend_from_slice.new.self.items in
    let flat = c.extend_from_slice.ensures.items
    ∙ ap (λ b. if b then (t.flat.items ++ c.args.members.now) else t.flat.items)
    (c.extend_from_slice.ensures.succeeds c.requires.room.flat) in
    let start : c.len-start.result ≡ length t.flat.items = c.len-start.ensures ∙ t.flat.ok.0 in
    record {
      symbols = e.symbols;
      infos = e.infos;
      labels = e.labels;
      named = e.named;
      log = e.log
          ∙ ap (λ (n : ℕ). t.log.items ++ entry_of Distinct None n (length longer) ∷ []) start
          ∙ ap (λ xs. t.log.items ++ entry_of Distinct None (length t.flat.items) (length xs) ∷ [])
          flat;
      flat = e.flat ∙ flat;
      scopes = λ st s held is. e.scopes st s held is (λ closes. absurd cc);
      essentials = e.essentials;
      hypotheses = e.hypotheses;
      pairs = e.pairs;
      pieces = e.pieces;
      stated = e.stated;
      counted = e.counted;
    }
