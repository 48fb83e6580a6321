-- The hypotheses are those of the frame, and stand among the statements before the `$p`.
use Rattle.std.proofs.Common.{◌≡◌, ◌++◌, ◌∷◌, ℕ, List, [], length, map, sym, ap, ◌∙◌}
use Rattle.std.proofs.lemmas.List.{length-map}
use Rattle.std.proofs.lemmas.Result.{on_ok_weaker}
use Rattle.mm_base.specs.Statement.{PlainStatement}
use Rattle.mm_base.specs.Token.{plain_token}
use Rattle.mm_frame.specs.declared.hypothesis.Hypothesis.{Hypothesis}
use Rattle.mm_facts.proofs.DisjointDetails.{none_in, some_in}
use Rattle.mm_explain.specs.Mirror.Outlined.{firsts_of}
use Rattle.mm_explain.proofs.InnermostBlocks.{empty_list}
use Rattle.mm_explain.proofs.OwnHypotheses.{firsts_append, own_frame, no_hypotheses}
use Rattle.mm_explain.proofs.OwnHypotheses.{some_hypotheses}
use Rattle.mm_explain.proofs.own_hypotheses.push_own_hypotheses.Goals as goal

pub returns-then-is_empty-clause-told : goal.returns-then-is_empty-clause-told
returns-then-is_empty-clause-told c = λ count p.
    let xs : List Hypothesis = c.hypotheses-hypotheses.result.now in
    let numbers : List ℕ = map (λ (h : Hypothesis). h.id.0) xs in
    let own = own_frame p c.frame.result numbers c.frame.ensures.book c.frame.ensures.index
    c.hypotheses-hypotheses.ensures.ids in
    let none : xs ≡ [] =
    empty_list xs (none_in (length xs) (sym c.if-is_empty.true ∙ c.is_empty.ensures)) in
    no_hypotheses p numbers own c.args.out.now.items
    (ap (map (λ (h : Hypothesis). h.id.0)) none)

pub push_each-requires : goal.push_each-requires
push_each-requires c =
    let (count, p) = c.requires.placed in
    let xs : List Hypothesis = c.hypotheses-hypotheses.result.now in
    let numbers : List ℕ = map (λ (h : Hypothesis). h.id.0) xs in
    let own = own_frame p c.frame.result numbers c.frame.ensures.book c.frame.ensures.index
    c.hypotheses-hypotheses.ensures.ids in
    let later : List PlainStatement = p.site.s ∷ p.site.after in (
      p.site.before,
      own.hypotheses,
      firsts_of later,
      own.earlier,
      ap (map plain_token) c.deref.ensures.value
          ∙ (c.in_ok-read.ensures.read (p.site.before ++ later) p.site.ending p.site.reads).firsts
          ∙ firsts_append p.site.before later,
    )

pub returns-clause-told : goal.returns-clause-told
returns-clause-told c =
    let xs : List Hypothesis = c.hypotheses-hypotheses.result.now in
    let numbers : List ℕ = map (λ (h : Hypothesis). h.id.0) xs in
    on_ok_weaker c.push_each.result
    (λ told count p.
    let own = own_frame p c.frame.result numbers c.frame.ensures.book c.frame.ensures.index
    c.hypotheses-hypotheses.ensures.ids in
    let later : List PlainStatement = p.site.s ∷ p.site.after in
    some_hypotheses p numbers own c.args.out.now.items c.extend_from_slice.new.self.items
    c.push_each.new.out.items
    (λ none. some_in (length xs) (sym c.if-is_empty.false ∙ c.is_empty.ensures)
    (sym (length-map xs (λ (h : Hypothesis). h.id.0)) ∙ ap length none))
    c.in_ok-extend_from_slice.ensures.items
    ((rw c.in_ok-read.ensures.kept.same at told) p.site.before own.hypotheses (firsts_of later)
    own.earlier
    (ap (map plain_token) c.deref.ensures.value
    ∙ (c.in_ok-read.ensures.read (p.site.before ++ later) p.site.ending p.site.reads).firsts
    ∙ firsts_append p.site.before later)))
    c.push_each.ensures
