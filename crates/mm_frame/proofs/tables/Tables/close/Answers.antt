use Rattle.std.proofs.Common.{refl, ◌∙◌, [], ◌∷◌, ◌++◌, None, arith, ◌≤◌, length}
use Rattle.mm_base.specs.declared.statement.Kind.TheVariants.{Closing}
use Rattle.mm_frame.specs.Sentence.{Sentence}
use Rattle.mm_frame.specs.Mirror.Layout.{statements_of}
use Rattle.mm_frame.proofs.BookLists.UnlabelledStatements.{adds_block, close_grows, closing_ready}
use Rattle.mm_frame.proofs.BookLists.UnlabelledStatements.{same_scopes}
use Rattle.mm_frame.proofs.tables.Tables.close.Goals as goal
use Rattle.mm_frame.proofs.BookLists.GrownLists.{on_err, same_tables, all_statements}
use Rattle.mm_frame.proofs.Blocks.NumberedBlocks.{length_pushed}
use Rattle.mm_frame.specs.declared.scopes.TheConstants.{NEVER}

pub returns-in_err-reserve-clause-err : goal.returns-in_err-reserve-clause-err
returns-in_err-reserve-clause-err c = on_err _ (same_tables _ _ c.requires.tables c.reserve.ensures.same)

pub forget_inactive-requires-clause-scopes : goal.forget_inactive-requires-clause-scopes
forget_inactive-requires-clause-scopes c =
    let st = statements_of c.args.self.now in
    let s : Sentence = record { kind = Closing; label = None; symbols = [] } in
    let held = same_scopes _ _ st c.reserve.ensures.same c.requires.tables.scopes in
    (st ++ s ∷ [], c.enter.ensures.scopes st s held refl (λ is. c.requires.closes))

pub forget_inactive-requires-clause-all : goal.forget_inactive-requires-clause-all
forget_inactive-requires-clause-all c =
    (closing_ready _ _ _ _ _ c.len.result c.requires.tables c.reserve.ensures.same
    c.enter.ensures c.requires.closes (omega arith)).0

pub forget_inactive-requires-clause-within : goal.forget_inactive-requires-clause-within
forget_inactive-requires-clause-within c =
    (closing_ready _ _ _ _ _ c.len.result c.requires.tables c.reserve.ensures.same
    c.enter.ensures c.requires.closes (omega arith)).1

pub returns-clause-ok : goal.returns-clause-ok
returns-clause-ok c = (
  refl,
  λ s is unlabelled bare meant formed.
      let adds = adds_block _ _ _ _ _ _ c.reserve.ensures.same c.enter.ensures (omega arith) in
      let st = statements_of c.args.self.now in
      let size = all_statements c.args.self.now in
      let longer = length_pushed st s in
      let small : length (st ++ s ∷ []) ≤ NEVER = omega (arith, c.requires.tables.small) in
      let left = rw (c.enter.ensures.essentials ∙ c.reserve.ensures.same.essentials) at
      (c.forget_inactive.ensures (st ++ s ∷ [])
      (adds.scopes st s c.requires.tables.scopes is (λ k. c.requires.closes)) small) in
      close_grows {members = []} c.requires.tables (search adds)
      (record { kind = is; label = unlabelled; numbered = rw bare refl; meant = meant; formed = formed })
      c.requires.some c.requires.room refl (c.enter.ensures.stated ∙ c.reserve.ensures.same.stated)
      left c.requires.closes,
)
