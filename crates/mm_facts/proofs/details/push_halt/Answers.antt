-- What stands where the moves stop tells which of them are left.
use Rattle.std.proofs.Common.{[], ◌∷◌, ◌++◌, ◌+◌, ◌≡◌, refl, sym, subst, ◌∙◌, ap, List, ℕ, append-nil, arith, take, length, ◌-◌}
use Rattle.std.proofs.lemmas.Result.{on_ok_weaker}
use Rattle.mm_step.specs.Moves.{Move}
use Rattle.mm_step.specs.Profiles.{limit_of}
use Rattle.mm_facts.specs.Explained.{AreHaltDetails, mark_asked, detail_text}
use Rattle.mm_facts.specs.Mirror.Explaining.{told_steps}
use Rattle.mm_facts.proofs.HaltDetails.{none_left, tag_left, mark_left, kept_count, one_told}
use Rattle.mm_facts.proofs.details.push_halt.Goals as goal

pub overflow_sub-stop : goal.overflow_sub-stop
overflow_sub-stop c =
    let halt = c.requires.halt in
    let count = kept_count (limit_of c.args.profile) c.args.book.now.statements (take halt.index c.args.book.now.statements) halt.s halt.prefix halt.moves c.args.stop.now.halt halt.halts in
    omega (arith, count)

pub returns-in-End : goal.returns-in-End
returns-in-End c =
    on_ok_weaker c.push_at_end.result
    (λ told index s prefix moves number h.
    let left = none_left c.args.book.now.statements h.there.left c.args.stop.now.halt.at c.in-End.is h.place in
    let facts = told (limit_of c.args.profile) index s prefix moves number h in (
      facts.0,
      subst (λ (l : List (Move (List ℕ))). AreHaltDetails (limit_of c.args.profile) (take index c.args.book.now.statements) s h.there.stack h.there.kept
          (told_steps c.args.stop.now) l c.args.rule facts.0) (sym left) facts.1,
      facts.2,
    ))
    c.push_at_end.ensures

pub returns-in-Label : goal.returns-in-Label
returns-in-Label c =
    on_ok_weaker c.push_at_label.result
    (λ told index s prefix moves number h.
    let facts = told index s prefix moves number h in (
      facts.0,
      subst (λ (l : List (Move (List ℕ))). AreHaltDetails (limit_of c.args.profile) (take index c.args.book.now.statements) s h.there.stack h.there.kept
          (told_steps c.args.stop.now) l c.args.rule facts.0) (sym facts.1.2) facts.1.3,
      facts.2,
    ))
    c.push_at_label.ensures

pub returns-in-Tag : goal.returns-in-Tag
returns-in-Tag c =
    on_ok_weaker c.push_marks.result
    (λ told index s prefix moves number h.
    let tag = c.in-Tag.tag in
    let left = tag_left c.args.book.now.statements h.there.left c.args.stop.now.halt.at tag c.in-Tag.is h.place in
    let count = kept_count (limit_of c.args.profile) c.args.book.now.statements (take index c.args.book.now.statements) s prefix moves c.args.stop.now.halt h in
    let kept : c.args.stop.now.halt.passed - c.args.stop.now.halt.steps ≡ length h.there.kept = omega (arith, count) in (
      mark_asked (tag + 1) (length h.there.kept) ∷ [],
      subst (λ (l : List (Move (List ℕ))). AreHaltDetails (limit_of c.args.profile) (take index c.args.book.now.statements) s h.there.stack h.there.kept
          (told_steps c.args.stop.now) l c.args.rule (mark_asked (tag + 1) (length h.there.kept) ∷ [])) (sym left.1) refl,
      one_told c.args.out.now.items c.push_marks.new.out.items (mark_asked (tag + 1) (length h.there.kept))
          (told ∙ ap (λ (n : ℕ). c.args.out.now.items ++ detail_text (mark_asked (tag + 1) n)) kept),
    ))
    c.push_marks.ensures

pub returns-in-Mark : goal.returns-in-Mark
returns-in-Mark c = λ index s prefix moves number h.
    let left = mark_left c.args.book.now.statements h.there.left c.args.stop.now.halt.at c.in-Mark.is h.place in (
      [],
      subst (λ (l : List (Move (List ℕ))). AreHaltDetails (limit_of c.args.profile) (take index c.args.book.now.statements) s h.there.stack h.there.kept
          (told_steps c.args.stop.now) l c.args.rule []) (sym left.1) refl,
      sym (append-nil c.args.out.now.items),
    )
