-- The file is there, and the position in it is passed now.
use Rattle.mm_base.specs.Statement.{plain_statement}
use Rattle.mm_minimize.proofs.ShorterTheorems.StatementRemarks.{passed_at, passed_now, passed_there}
use Rattle.mm_minimize.proofs.ShorterTheorems.StatementRemarks.{remark_said, within_file}
use Rattle.mm_verdict.proofs.FileBytes.StatementsInFiles.{number_within}
use Rattle.mm_minimize.proofs.remarks.remark_of.Goals as goal

pub bounds-files-file : goal.bounds-files-file
bounds-files-file c =
    number_within c.args.files.now c.args.statement.now.first.file c.requires.there.0
    c.requires.there.1

pub bounds-passed-file : goal.bounds-passed-file
bounds-passed-file c =
    passed_there c.args.files.now c.args.passed.now c.args.statement.now.first.file
    c.requires.there.0 c.requires.there.1 c.requires.passed

pub mathbox_from-mathbox-requires-clause-passed : goal.mathbox_from-mathbox-requires-clause-passed
mathbox_from-mathbox-requires-clause-passed c =
    passed_at c.args.files.now c.args.passed.now c.args.statement.now.first.file _ _
    c.requires.there.0 c.requires.there.1 c.requires.passed

pub mathbox_from-mathbox-requires-clause-within : goal.mathbox_from-mathbox-requires-clause-within
mathbox_from-mathbox-requires-clause-within c =
    within_file c.args.files.now c.args.statement.now.first.file c.args.statement.now.first.at _
    c.requires.there.0 c.requires.there.1 c.requires.there.2

pub says_before-is_discouraged-requires : goal.says_before-is_discouraged-requires
says_before-is_discouraged-requires c =
    within_file c.args.files.now c.args.statement.now.first.file c.args.statement.now.first.at _
    c.requires.there.0 c.requires.there.1 c.requires.there.2

pub says_before-is_settled-requires : goal.says_before-is_settled-requires
says_before-is_settled-requires c =
    within_file c.args.files.now c.args.statement.now.first.file c.args.statement.now.first.at _
    c.requires.there.0 c.requires.there.1 c.requires.there.2

pub returns-clause-passed : goal.returns-clause-passed
returns-clause-passed c =
    passed_now c.args.files.now c.args.passed.now c.args.statement.now.first.file
    c.args.statement.now.first.at c.mathbox_from-mathbox.result _ c.requires.there.0
    c.requires.there.1 c.requires.there.2 c.mathbox_from-mathbox.ensures c.requires.passed

pub returns-clause-remark : goal.returns-clause-remark
returns-clause-remark c =
    remark_said c.args.files.now (plain_statement c.args.statement.now) _ c.requires.there.0
    c.mathbox_from-mathbox.result c.says_before-is_discouraged.result c.says_before-is_settled.result
    c.requires.there.1 c.mathbox_from-mathbox.ensures c.says_before-is_discouraged.ensures
    c.says_before-is_settled.ensures
