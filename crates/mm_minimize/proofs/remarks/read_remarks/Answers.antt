-- One more statement was read.
use Rattle.std.proofs.Common.{Bool, true, false, map, sym, subst, ◌∙◌}
use Rattle.mm_text.specs.Files.{plain_file}
use Rattle.mm_base.specs.Statement.{PlainStatement, plain_statement}
use Rattle.mm_text.specs.Remaining.{ReadsOn}
use Rattle.mm_minimize.proofs.ShorterTheorems.StatementRemarks.{label_kept, next_begins, read_none, read_more}
use Rattle.mm_minimize.proofs.ShorterTheorems.StatementRemarks.{read_over, read_all}
use Rattle.mm_minimize.proofs.remarks.read_remarks.Goals as goal

pub loop-remarks-init : goal.loop-remarks-init
loop-remarks-init c =
    read_none (map plain_file c.args.files.now) c.args.statements.now c.args.passed.now _
    c.requires.faultless c.requires.passed c.requires.begin

pub remark_of-requires-clause-there : goal.remark_of-requires-clause-there
remark_of-requires-clause-there c =
    let s : PlainStatement = plain_statement c.more.new.into in
    let taken : ReadsOn c.loop-remarks.statements true s c.more.new.self =
    subst (λ (b : Bool). ReadsOn c.loop-remarks.statements b s c.more.new.self) c.if-branch.true c.in_ok-more.ensures.on in
    next_begins (map plain_file c.args.files.now) c.args.statements.now.statements
    c.loop-remarks.statements c.more.new.self c.loop-remarks.passed
    c.loop-remarks.remarks.items s c.requires.reads c.loop-remarks.invariant taken

pub loop-remarks-preserved-in-Continue-branch-2 : goal.loop-remarks-preserved-in-Continue-branch-2
loop-remarks-preserved-in-Continue-branch-2 c =
    let s : PlainStatement = plain_statement c.more.new.into in
    let taken : ReadsOn c.loop-remarks.statements true s c.more.new.self =
    subst (λ (b : Bool). ReadsOn c.loop-remarks.statements b s c.more.new.self) c.if-branch.true c.in_ok-more.ensures.on in
    read_more (map plain_file c.args.files.now) c.args.statements.now.statements
    c.loop-remarks.statements c.more.new.self c.loop-remarks.passed _
    c.loop-remarks.remarks.items _ s c.remark_of.result c.loop-remarks.invariant taken
    (label_kept c.more.new.into.label ∙ sym c.is_some.ensures ∙ c.if-is_some.true)
    c.remark_of.ensures.remark c.remark_of.ensures.passed c.in_ok-push.ensures.items

pub loop-remarks-preserved : goal.loop-remarks-preserved
loop-remarks-preserved c =
    let s : PlainStatement = plain_statement c.more.new.into in
    let taken : ReadsOn c.loop-remarks.statements true s c.more.new.self =
    subst (λ (b : Bool). ReadsOn c.loop-remarks.statements b s c.more.new.self) c.if-branch.true c.in_ok-more.ensures.on in
    read_over (map plain_file c.args.files.now) c.args.statements.now.statements
    c.loop-remarks.statements c.more.new.self c.loop-remarks.passed
    c.loop-remarks.remarks.items s c.loop-remarks.invariant taken
    (label_kept c.more.new.into.label ∙ sym c.is_some.ensures ∙ c.if-is_some.false)

pub returns : goal.returns
returns c =
    let s : PlainStatement = plain_statement c.more.new.into in
    let taken : ReadsOn c.loop-remarks.statements false s c.more.new.self =
    subst (λ (b : Bool). ReadsOn c.loop-remarks.statements b s c.more.new.self) c.if-branch.false c.in_ok-more.ensures.on in
    read_all (map plain_file c.args.files.now) c.args.statements.now.statements
    c.loop-remarks.statements c.more.new.self c.loop-remarks.passed
    c.loop-remarks.remarks.items s c.loop-remarks.invariant taken
