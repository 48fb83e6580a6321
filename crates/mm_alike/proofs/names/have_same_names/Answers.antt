-- Two names that aren't one tell the lists apart.
use Rattle.std.proofs.Common.{◌<◌, length, sym, ◌∙◌, arith}
use Rattle.std.proofs.lemmas.Bool.{false≢true}
use Rattle.mm_frame.specs.declared.number.Sym.{Sym}
use Rattle.mm_alike.specs.Mirror.Names.{name_at}
use Rattle.mm_alike.proofs.AlikeLists.{unalike_at}
use Rattle.mm_alike.proofs.names.have_same_names.Goals as goal

pub returns-then-not-have_one_name : goal.returns-then-not-have_one_name
returns-then-not-have_one_name c =
    let within : c.loop-at.at < length c.args.other.now = omega arith in (
      (λ t. absurd (false≢true t)),
      (λ same. absurd (unalike_at (λ (s : Sym). name_at c.args.old.now.statements s.0)
          (λ (s : Sym). name_at c.args.new.now.statements s.0) c.args.one.now c.args.other.now
          c.loop-at.at _ _ c.loop-at-test.true within
          (λ one. false≢true (sym c.if-not-have_one_name.true ∙ c.have_one_name.ensures.1 one))
          same)),
    )
