use Rattle.std.proofs.Common.{refl}
use Rattle.mm_frame.specs.Sentence.{sentence_in}
use Rattle.mm_frame.proofs.Rules.SymbolLookups.{numbers_used}
use Rattle.mm_frame.proofs.BookLists.Declarations.{numbers_enough, labelled_use, unlabelled_uses}
use Rattle.mm_frame.proofs.tables.Tables.take_use.Goals as goal

pub take_labelled-requires-clause-enough : goal.take_labelled-requires-clause-enough
take_labelled-requires-clause-enough c =
    let are = numbers_used _ _ _ c.requires.numbers c.requires.meant c.requires.kind in
    numbers_enough _ c.args.statement.now c.args.numbers.now _ are c.requires.formed
    c.requires.counted

pub returns-in-Some-clause-ok : goal.returns-in-Some-clause-ok
returns-in-Some-clause-ok c =
    let are = numbers_used _ _ _ c.requires.numbers c.requires.meant c.requires.kind in
    labelled_use c.take_labelled.result c.args.self.now _ c.args.statement.now c.args.numbers.now _
    are c.requires.meant c.requires.formed c.in-Some.label c.in-Some.is c.take_labelled.ensures.ok

pub separate_all-requires-clause-enough : goal.separate_all-requires-clause-enough
separate_all-requires-clause-enough c =
    let are = numbers_used _ _ _ c.requires.numbers c.requires.meant c.requires.kind in
    numbers_enough _ c.args.statement.now c.args.numbers.now _ are c.requires.formed
    c.requires.counted

pub returns-in-None-clause-ok : goal.returns-in-None-clause-ok
returns-in-None-clause-ok c =
    let are = numbers_used _ _ _ c.requires.numbers c.requires.meant c.requires.kind in
    unlabelled_uses c.separate_all.result c.args.self.now _ c.args.statement.now c.args.numbers.now
    _ are c.requires.meant c.requires.formed c.in-None.is c.requires.kind c.separate_all.ensures.ok

pub take_labelled-requires-clause-meant : goal.take_labelled-requires-clause-meant
take_labelled-requires-clause-meant c =
    let are = numbers_used _ _ _ c.requires.numbers c.requires.meant c.requires.kind in
    (sentence_in c.args.statement.now, refl, are, c.requires.meant)
