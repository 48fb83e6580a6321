-- What is read next is the statement at the site, and the book has those before it.
use Rattle.std.proofs.Common.{◌≡◌, Option, ℕ, map, ap, arith}
use Rattle.std.proofs.lemmas.List.{length-map}
use Rattle.std.proofs.lemmas.Result.{IfOk-weaker}
use Rattle.mm_text.specs.Files.{plain_file}
use Rattle.mm_base.specs.Statement.{plain_statement}
use Rattle.mm_base.specs.Token.{plain_token}
use Rattle.mm_frame.specs.Breaking.{BreaksAt}
use Rattle.mm_frame.specs.Sentence.{sentence_of}
use Rattle.mm_frame.proofs.BookLists.Declarations.{bytes_enough}
use Rattle.mm_explain.specs.Mirror.SemanticErrors.{Site}
use Rattle.mm_rules.specs.Verdict.{sentences}
use Rattle.mm_explain.proofs.SemanticErrors.{past_counted, site_left, site_read}
use Rattle.mm_verdict.proofs.Verdicts.AcceptedStatements.{has_room}
use Rattle.mm_explain.proofs.semantic_error.breaking_after.Goals as goal

pub read_next-requires : goal.read_next-requires
read_next-requires c =
    site_left c.requires.broken.site c.take_before.new.statements
    (past_counted (map plain_file c.args.files.now) c.args.count c.take_before.new.progress
    c.take_before.new.statements c.in_ok-take_before.ensures.read c.in_ok-take_before.ensures.count)

pub breaking_symbol-requires-clause-few : goal.breaking_symbol-requires-clause-few
breaking_symbol-requires-clause-few c =
    let s = plain_statement c.read_next.new.into in
    let enough = bytes_enough s c.in_ok-read_next.ensures.formed in
    let room = has_room _ _ _ _ s c.in_ok-take_before.ensures.read c.in_ok-read_next.ensures.taken in
    let size = length-map c.read_next.new.into.symbols.items plain_token in
    omega arith

pub breaking_symbol-requires-clause-broken : goal.breaking_symbol-requires-clause-broken
breaking_symbol-requires-clause-broken c =
    let here = site_read (map plain_file c.args.files.now) c.args.count c.requires.broken.site
    c.take_before.new.progress c.take_before.new.statements c.read_next.new.statements
    (plain_statement c.read_next.new.into) c.in_ok-take_before.ensures.read
    c.in_ok-take_before.ensures.count c.in_ok-read_next.ensures.taken in
    rw (c.book.ensures, here.0, ap sentence_of here.1) c.requires.broken.broken

pub returns : goal.returns
returns c =
    let Q : Option ℕ → Type 0 = λ index.
    (site : Site (map plain_file c.args.files.now) c.args.count)
    → (plain_statement c.read_next.new.into ≡ site.s)
    × BreaksAt c.args.rule (sentences site.before) (sentence_of site.s) index in
    IfOk-weaker _ _ Q (λ index h site.
    let here = site_read (map plain_file c.args.files.now) c.args.count site
    c.take_before.new.progress c.take_before.new.statements c.read_next.new.statements
    (plain_statement c.read_next.new.into) c.in_ok-take_before.ensures.read
    c.in_ok-take_before.ensures.count c.in_ok-read_next.ensures.taken in
    (here.1, rw (c.book.ensures, here.0, ap sentence_of here.1) at h)) c.breaking_symbol.ensures
