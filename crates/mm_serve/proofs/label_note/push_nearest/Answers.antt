-- The reply says that no statement has the asked label, or another thing.
use Rattle.std.proofs.Common.{◌≡◌, [], Bor, List, ℕ, ap, map, option_map, subst, sym, ◌∙◌, true, not}
use Rattle.std.proofs.Common.{append-nil}
use Rattle.std.specs.Str.{bytes_eq}
use Rattle.std.proofs.lemmas.Bool.{not-false}
use Rattle.std.proofs.lemmas.Slice.Eq.{bytes_eq-Decides}
use Rattle.mm_code.specs.Layout.{texts}
use Rattle.mm_text.specs.Files.{plain_file}
use Rattle.mm_rules.specs.Status.{number_of}
use Rattle.mm_rules.specs.declared.ask.AskFault.TheVariants.{Rule}
use Rattle.mm_rules.specs.declared.rule.AskRule.TheVariants.{A1}
use Rattle.mm_verdict.specs.Reply.{IsAskReply}
use Rattle.mm_explain.specs.Near.{AreNearestIn}
use Rattle.mm_serve.proofs.FilesRead.{near_none, near_told}
use Rattle.mm_serve.proofs.label_note.push_nearest.Goals as goal

pub returns : goal.returns
returns c =
    let label : List ℕ = c.in-Some.label.now in
    let status : ℕ = number_of c.in_ok-unknown.unknown.status in
    let same : c.args.reply.now ≡ c.in_ok-unknown.unknown.text.items =
    (bytes_eq-Decides _ _).0 (not-false _ (sym c.ne.ensures ∙ c.if-ne.false))
    ∙ c.as_slice.ensures.value in
    near_told c.push_near.result (map plain_file c.args.files.now) _ label
    c.args.reply.now (texts c.deref.result.now) c.args.notes.now.items
    c.push_near.new.notes.items status
    (ap (option_map (λ (l : Bor (List ℕ)). l.now)) c.in-Some.is)
    (subst (λ (text : List ℕ). IsAskReply (Rule A1) label text status) (sym same)
    c.in_ok-unknown.ensures)
    (subst
    (λ (ls : List (Bor (List ℕ))). AreNearestIn (map plain_file c.args.files.now) label (texts ls))
    (sym c.deref.ensures.value) c.in_ok-near.ensures)
    c.push_near.ensures

pub returns-then-ne : goal.returns-then-ne
returns-then-ne c =
    let label : List ℕ = c.in-Some.label.now in
    let unknown : List ℕ = c.in_ok-unknown.unknown.text.items in (
      [],
      near_none (map plain_file c.args.files.now) _ label c.args.reply.now unknown
          (number_of c.in_ok-unknown.unknown.status)
          (ap (option_map (λ (l : Bor (List ℕ)). l.now)) c.in-Some.is) c.in_ok-unknown.ensures
          (λ same.
          let one : bytes_eq c.args.reply.now c.as_slice.result.now ≡ true =
          (bytes_eq-Decides _ _).1 (same ∙ sym c.as_slice.ensures.value) in
          let other : not (bytes_eq c.args.reply.now c.as_slice.result.now) ≡ true =
          sym c.ne.ensures ∙ c.if-ne.true in cc),
      sym (append-nil c.args.notes.now.items),
    )
