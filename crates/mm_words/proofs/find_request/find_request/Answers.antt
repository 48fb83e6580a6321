-- The words ask for the assertions that have the patterns; or one of these is too long, or holds a
-- `$*` where it may not.
use Rattle.std.proofs.Common.{◌≡◌, ◌∙◌, IsTrue, false, inl, inr, rules, sym}
use Rattle.std.proofs.lemmas.Bool.{false≢true}
use Rattle.clap.specs.Words.{found_of, rows_of}
use Rattle.mm_words.proofs.find_request.find_request.Goals as goal

pub are_fit-requires : goal.are_fit-requires
are_fit-requires c =
    let short : IsTrue c.are_short.result = search rules in
    rw (c.deref-2.ensures.value, sym c.deref.ensures.value) (c.are_short.ensures.short short)

pub returns-then-not-are_short-clause-fault : goal.returns-then-not-are_short-clause-fault
returns-then-not-are_short-clause-fault c = λ words commands.
    let long : c.are_short.result ≡ false = search rules in
    inr (inr (inr (inr (inr (inr (inr (inl (
      _,
      _,
      _,
      _,
      _,
      (
        rows_of (found_of c.args.matches.now),
        commands,
        sym c.in_ok-patterns.ensures,
        c.is_given-whole.ensures,
        c.is_given-shape.ensures,
        c.is_given-hypotheses.ensures,
        sym c.in_ok-names.ensures,
      ),
      inl (rw c.deref.ensures.value at c.are_short.ensures.long long),
    ))))))))

pub returns-then-not-fit-clause-fault : goal.returns-then-not-fit-clause-fault
returns-then-not-fit-clause-fault c = λ words commands.
    inr (inr (inr (inr (inr (inr (inr (inl (
      _,
      _,
      _,
      _,
      _,
      (
        rows_of (found_of c.args.matches.now),
        commands,
        sym c.in_ok-patterns.ensures,
        c.is_given-whole.ensures,
        c.is_given-shape.ensures,
        c.is_given-hypotheses.ensures,
        sym c.in_ok-names.ensures,
      ),
      inr (λ fit. false≢true (sym c.if-not-fit.true
          ∙ c.in_ok-fit.ensures.1 (rw c.deref-2.ensures.value fit))),
    ))))))))

pub returns-clause-request : goal.returns-clause-request
returns-clause-request c = λ words commands.
    let short : IsTrue c.are_short.result = search rules in (
      (
        rows_of (found_of c.args.matches.now),
        commands,
        sym c.in_ok-patterns.ensures,
        c.is_given-whole.ensures,
        c.is_given-shape.ensures,
        c.is_given-hypotheses.ensures,
        sym c.in_ok-names.ensures,
      ),
      rw c.deref.ensures.value at c.are_short.ensures.short short,
      rw c.deref-2.ensures.value at (c.in_ok-fit.ensures.0 c.if-not-fit.false),
    )
