-- The names on both sides of the first `--` are the two sides; else two words are, or there are none.
use Rattle.std.proofs.Common.{◌+◌, refl}
use Rattle.std.proofs.lemmas.List.{take_rest}
use Rattle.mm_words.proofs.NamedSides.{no_sides_given, no_sides_in, sides_given}
use Rattle.mm_words.proofs.diff_request.sides_of.Goals as goal

pub returns-in-Some-clause-some : goal.returns-in-Some-clause-some
returns-in-Some-clause-some c =
    sides_given c.args.words.now _ _ c.in-Some.number c.versions_in.result c.in-Some.ensures refl
    (take_rest c.args.words.now (c.in-Some.number + 1)) c.versions_in.ensures.some

pub returns-in-Some-clause-none : goal.returns-in-Some-clause-none
returns-in-Some-clause-none c =
    no_sides_given c.args.words.now _ _ c.in-Some.number c.versions_in.result c.in-Some.ensures refl
    (take_rest c.args.words.now (c.in-Some.number + 1)) c.versions_in.ensures.none

pub returns-in-None-2-clause-none : goal.returns-in-None-2-clause-none
returns-in-None-2-clause-none c =
    no_sides_in c.args.words.now c.in-None-2.ensures c.if-words-eq2.false
