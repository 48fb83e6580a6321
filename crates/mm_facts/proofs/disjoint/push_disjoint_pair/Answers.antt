-- What replaces the members follows the first symbols of their entries.
use Rattle.std.proofs.Common.{[], sym, subst, append-nil, take, drop}
use Rattle.std.proofs.lemmas.Result.{on_ok_weaker}
use Rattle.mm_step.specs.declared.fault.ProofRule.{ProofRule}
use Rattle.mm_step.specs.Mirror.CodeVerify.{name_at}
use Rattle.mm_step.specs.Stores.{numbers_in}
use Rattle.mm_facts.specs.Explained.{AreDisjointDetails}
use Rattle.mm_facts.proofs.DisjointDetails.{tail_of, pair_details, apart_other}
use Rattle.mm_facts.proofs.disjoint.push_disjoint_pair.Goals as goal

pub push_sharing-requires-clause-first : goal.push_sharing-requires-clause-first
push_sharing-requires-clause-first c =
    let st = c.args.book.now.statements in
    let r = c.requires.entries in
    let e = tail_of st (take r.0 st) c.args.entries.now r.3 c.args.pair.indices.0 _ (numbers_in c.behind_first-e.result.now) c.requires.pair.first r.4 r.5 c.behind_first-e.ensures in
    (r.0, r.1, r.2, drop 1 e.0, e.2, e.3)

pub push_sharing-requires-clause-second : goal.push_sharing-requires-clause-second
push_sharing-requires-clause-second c =
    let st = c.args.book.now.statements in
    let r = c.requires.entries in
    let e = tail_of st (take r.0 st) c.args.entries.now r.3 c.args.pair.indices.1 _ (numbers_in c.behind_first-f.result.now) c.requires.pair.second r.4 r.5 c.behind_first-f.ensures in
    (r.0, r.1, r.2, drop 1 e.0, e.2, e.3)

pub push_lacking-requires-clause-first : goal.push_lacking-requires-clause-first
push_lacking-requires-clause-first c =
    let st = c.args.book.now.statements in
    let r = c.requires.entries in
    let e = tail_of st (take r.0 st) c.args.entries.now r.3 c.args.pair.indices.0 _ (numbers_in c.behind_first-e.result.now) c.requires.pair.first r.4 r.5 c.behind_first-e.ensures in
    (r.0, r.1, r.2, drop 1 e.0, e.2, e.3)

pub push_lacking-requires-clause-second : goal.push_lacking-requires-clause-second
push_lacking-requires-clause-second c =
    let st = c.args.book.now.statements in
    let r = c.requires.entries in
    let e = tail_of st (take r.0 st) c.args.entries.now r.3 c.args.pair.indices.1 _ (numbers_in c.behind_first-f.result.now) c.requires.pair.second r.4 r.5 c.behind_first-f.ensures in
    (r.0, r.1, r.2, drop 1 e.0, e.2, e.3)

pub returns-in-P11 : goal.returns-in-P11
returns-in-P11 c =
    let st = c.args.book.now.statements in
    on_ok_weaker c.push_sharing.result
    (λ added index s proof given zip declared σ first second.
    let e = tail_of st (take index st) c.args.entries.now given c.args.pair.indices.0 _ (numbers_in c.behind_first-e.result.now) c.requires.pair.first zip declared c.behind_first-e.ensures in
    let f = tail_of st (take index st) c.args.entries.now given c.args.pair.indices.1 _ (numbers_in c.behind_first-f.result.now) c.requires.pair.second zip declared c.behind_first-f.ensures in
    let own = added index s proof (drop 1 e.0) (drop 1 f.0) e.2 f.2 e.3 f.3 in (
      own.0,
      pair_details st (take index st) c.args.rule σ given c.args.pair.variables.0.0 c.args.pair.variables.1.0 c.args.pair.indices.0 c.args.pair.indices.1
          e.0 f.0 own.0 e.1 f.1 first second
          (subst (λ (r : ProofRule). AreDisjointDetails (take index st) r (name_at st c.args.pair.variables.0.0) (name_at st c.args.pair.variables.1.0)
          (drop 1 e.0) (drop 1 f.0) own.0) (sym c.in-P11.is) own.1),
      own.2,
    ))
    c.push_sharing.ensures

pub returns-in-P12 : goal.returns-in-P12
returns-in-P12 c =
    let st = c.args.book.now.statements in
    on_ok_weaker c.push_lacking.result
    (λ added index s proof given zip declared σ first second.
    let e = tail_of st (take index st) c.args.entries.now given c.args.pair.indices.0 _ (numbers_in c.behind_first-e.result.now) c.requires.pair.first zip declared c.behind_first-e.ensures in
    let f = tail_of st (take index st) c.args.entries.now given c.args.pair.indices.1 _ (numbers_in c.behind_first-f.result.now) c.requires.pair.second zip declared c.behind_first-f.ensures in
    let own = added index s proof (drop 1 e.0) (drop 1 f.0) e.2 f.2 e.3 f.3 in (
      own.0,
      pair_details st (take index st) c.args.rule σ given c.args.pair.variables.0.0 c.args.pair.variables.1.0 c.args.pair.indices.0 c.args.pair.indices.1
          e.0 f.0 own.0 e.1 f.1 first second
          (subst (λ (r : ProofRule). AreDisjointDetails (take index st) r (name_at st c.args.pair.variables.0.0) (name_at st c.args.pair.variables.1.0)
          (drop 1 e.0) (drop 1 f.0) own.0) (sym c.in-P12.is) own.1),
      own.2,
    ))
    c.push_lacking.ensures

pub returns-in_default : goal.returns-in_default
returns-in_default c = λ index s proof given zip declared σ first second.
    let st = c.args.book.now.statements in
    let e = tail_of st (take index st) c.args.entries.now given c.args.pair.indices.0 _ (numbers_in c.behind_first-e.result.now) c.requires.pair.first zip declared c.behind_first-e.ensures in
    let f = tail_of st (take index st) c.args.entries.now given c.args.pair.indices.1 _ (numbers_in c.behind_first-f.result.now) c.requires.pair.second zip declared c.behind_first-f.ensures in (
      [],
      pair_details st (take index st) c.args.rule σ given c.args.pair.variables.0.0 c.args.pair.variables.1.0 c.args.pair.indices.0 c.args.pair.indices.1
          e.0 f.0 [] e.1 f.1 first second
          (apart_other (take index st) c.args.rule (name_at st c.args.pair.variables.0.0) (name_at st c.args.pair.variables.1.0)
          (drop 1 e.0) (drop 1 f.0) c.in_default.not-P11 c.in_default.not-P12),
      sym (append-nil c.args.out.now.items),
    )
