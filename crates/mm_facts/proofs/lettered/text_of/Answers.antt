-- Each step has its letters and its place, and one more line is that of the next.
use Rattle.std.proofs.Common.{◌+◌, ◌<◌, ◌∙◌, ℕ, List, length, map, sym, subst}
use Rattle.std.proofs.Common.{refl, arith}
use Rattle.std.proofs.lemmas.Option.{slice_get_read}
use Rattle.mm_base.proofs.Lists.{zip_left}
use Rattle.mm_base.specs.Token.{PlainToken, plain_token}
use Rattle.mm_text.specs.Files.{PlainFile, plain_file}
use Rattle.mm_code.specs.Words.{texts_of}
use Rattle.mm_frame.specs.Sentence.{Sentence}
use Rattle.mm_listing.specs.declared.lines.Line.{Line}
use Rattle.mm_listing.specs.Listing.{TellsStep}
use Rattle.mm_places.specs.declared.letters.StepLetters.{StepLetters}
use Rattle.mm_places.specs.StepLetters.{HasLetters}
use Rattle.mm_rules.proofs.Judgements.JudgedProofs.{texts_of as placed_texts}
use Rattle.mm_facts.specs.Explained.{judged_tokens}
use Rattle.mm_facts.specs.Mirror.Lettered.{TellFirst}
use Rattle.mm_facts.proofs.LetteredLines.{none_told, next_told, all_told}
use Rattle.mm_facts.proofs.lettered.text_of.Goals as goal

pub bounds-steps-at : goal.bounds-steps-at
bounds-steps-at c =
    let less = c.loop-at-test.true in
    omega (arith, less, c.requires.many)

pub position_of_move-position-requires-clause-within : goal.position_of_move-position-requires-clause-within
position_of_move-position-requires-clause-within c =
    let steps : List StepLetters = c.args.steps.now in
    let less : c.loop-at.at < length steps =
    (let e = c.loop-at-test.true in omega (arith, e, c.requires.many)) in
    (c.requires.steps c.loop-at.at c.index-steps-at.result
    (slice_get_read steps _ c.loop-at.at c.index-steps-at.result refl less c.index-steps-at.is)).1

pub push_lettered-requires : goal.push_lettered-requires
push_lettered-requires c =
    let lines : List Line = c.args.lines.now in
    let st : List Sentence = c.args.book.now.statements in
    let there = slice_get_read lines _ c.loop-at.at c.index-lines-at.result refl
    c.loop-at-test.true c.index-lines-at.is in
    let told = zip_left (TellsStep st) lines c.requires.lines.0 c.loop-at.at
    c.index-lines-at.result c.requires.lines.1 there in
    (told.0, told.2)

pub loop-at-init : goal.loop-at-init
loop-at-init c = record {
  same = c.new-counted.ensures;
  told = λ told zip. subst
      (λ (text : List ℕ). TellFirst (map plain_file c.args.files.now)
      (map plain_token c.args.tokens.now) told 0 text)
      (sym c.new-out.ensures.items)
      (none_told (map plain_file c.args.files.now) (map plain_token c.args.tokens.now) told);
}

pub loop-at-preserved : goal.loop-at-preserved
loop-at-preserved c = record {
  same = c.push_lettered.ensures.files ∙ c.loop-at.invariant.same;
  told = λ told zip.
      let files : List PlainFile = map plain_file c.args.files.now in
      let placed : List PlainToken = map plain_token c.args.tokens.now in
      let st : List Sentence = c.args.book.now.statements in
      let lines : List Line = c.args.lines.now in
      let steps : List StepLetters = c.args.steps.now in
      let at : ℕ = c.loop-at.at in
      let own : StepLetters = c.index-steps-at.result in
      let few : at < length steps =
      (let e = c.loop-at-test.true in omega (arith, e, c.requires.many)) in
      let here = slice_get_read steps _ at own refl few c.index-steps-at.is in
      let there = slice_get_read lines _ at c.index-lines-at.result refl c.loop-at-test.true
      c.index-lines-at.is in
      let spelled : HasLetters (judged_tokens (texts_of placed)) (at + 1) own.index
      own.letters.items =
      subst (λ (ts : List (List ℕ)).
      HasLetters (judged_tokens ts) (at + 1) own.index own.letters.items)
      (placed_texts c.args.tokens.now) (c.requires.steps at own here).0 in
      next_told files placed st lines told at c.index-lines-at.result c.loop-at.out.items
      c.push_lettered.new.out.items own c.position_of_move-position.result zip there spelled
      c.position_of_move-position.ensures
      (λ step tells. c.in_ok-push_lettered.ensures.text step tells
      ∙ rw (c.loop-at.invariant.same, c.deref.ensures.value) refl)
      (c.loop-at.invariant.told told zip);
}

pub returns : goal.returns
returns c = λ told zip.
    let lines : List Line = c.args.lines.now in
    let end = c.loop-at-test.false in
    let past = c.loop-at.auto.at-end in
    all_told (map plain_file c.args.files.now) (map plain_token c.args.tokens.now)
    c.args.book.now.statements lines told c.loop-at.at c.loop-at.out.items zip
    (omega (arith, end, past)) (c.loop-at.invariant.told told zip)
