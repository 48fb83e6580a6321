-- How the program ends: texts are written one after the other, a command over files ends as its parts
-- do, and so the words are answered.
use Rattle.std.proofs.Common.{ℕ, ◌+◌, ◌≤◌, List, ◌++◌, length, length-append, take, Option, Result}
use Rattle.std.proofs.Common.{Ok, Err, OnOk, OnErr, inl, inr, ap, ◌∙◌, arith, ◌≡◌, codes, IfErr}
use Rattle.std.proofs.Common.{IsErrAnd, refl, sym, map, ◌<◌, IfOk, subst, Bor, Some}
use Rattle.std.proofs.Common.{option_map}
use Rattle.std.proofs.lemmas.List.{take-append-le, length-map}
use Rattle.std.proofs.Math.Seq.{take-append-add}
use Rattle.std.proofs.KnownBytes.{Appends-trans}
use Rattle.mm_text.specs.declared.counted.Counted.{Counted}
use Rattle.mm_serve.specs.Ending.{BreaksOff, TakesWhole, TellsLine, StopsRun}
use Rattle.mm_words.specs.Words.{AsksNamed, Asks, AsksExplain, AsksHelp, AsksRun, AsksText}
use Rattle.mm_words.specs.Words.{AsksDiff}
use Rattle.mm_words.specs.RefusedWords.{IsWordFault}
use Rattle.mm_serve.specs.Ending.{IsProofRead, IsTextReplyOver, IsTextCommand, StopsText, Ends}
use Rattle.mm_serve.specs.Ending.{EndsWithoutWords, AnswersWords, IsReplyOver, Stops, TellsNotes}
use Rattle.mm_serve.specs.Ending.{error_line, stop_status, AddsLabel}
use Rattle.mm_words.specs.Unread.{unread_stop}
use Rattle.mm_help.specs.Help.{IsHelp}
use Rattle.mm_serve.specs.Ending.{StopsDiff, StopsNoted, label_of}
use Rattle.mm_help.specs.Help.{IsHelpFault}
use Rattle.std.specs.List.{AllZip}
use Rattle.mm_base.proofs.Lists.{zip_length}
use Rattle.mm_check.specs.Reply.{AsksHanded}
use Rattle.mm_verdict.specs.declared.question.Command.TheVariants.{File, Find, Shorter}
use Rattle.mm_serve.specs.ReadFiles.{IsReadAs}
use Rattle.mm_serve.specs.declared.files.Comments.{Comments}
use Rattle.mm_text.specs.Files.{PlainFile}
use Rattle.mm_verdict.specs.declared.question.Command.{Command}
use Rattle.mm_rules.specs.declared.status.Status.{Status}
use Rattle.mm_serve.specs.Folder.{KnownFile, MayHold}
use Rattle.mm_serve.specs.Answer.{Outcome, quiet, outcome_of}
use Rattle.mm_words.specs.declared.stop.Stop.{Stop}
use Rattle.mm_words.specs.declared.stop.Stop.TheVariants.{CannotWrite, Memory, Usage, CannotRead}
use Rattle.std.specs.Global.{Vec}
use Rattle.mm_rules.specs.Status.{number_of}
use Rattle.mm_help.specs.Explained.{IsExplanation, IsExplanationFault}
use Rattle.mm_words.specs.declared.request.Request.{Request}
use Rattle.mm_words.specs.declared.request.TextQuestion.{TextQuestion}
use Rattle.mm_words.specs.declared.request.Request.TheVariants.{Help, Explain, Run}
use Rattle.mm_serve.specs.declared.answer.Answer.{Answer}
use Rattle.mm_words.specs.declared.arguments.ArgumentFault.{ArgumentFault}
use Rattle.mm_help.specs.declared.texts.Texts.{Texts}
use Rattle.mm_words.specs.declared.arguments.ArgumentFault.TheVariants as argument

-- ==== texts that are written one after the other

-- Where the second text was written after the first, both were.
pub takes_both : {E : Type 0} (contents : E → Option (List ℕ)) (first second : List ℕ)
    (a b d : Counted E) → TakesWhole contents first a b → TakesWhole contents second b d
    → TakesWhole contents (first ++ second) a d
takes_both contents first second a b d one other =
    (Appends-trans _ _ _ first second one.0 other.0, other.1 ∙ one.1)

-- Where the second broke off after the first, both broke off.
pub breaks_both : {E : Type 0} (contents : E → Option (List ℕ)) (first second : List ℕ)
    (a b d : Counted E) → TakesWhole contents first a b → BreaksOff contents second b d
    → BreaksOff contents (first ++ second) a d
breaks_both contents first second a b d one ((k, less, put), counted) = (
  (
    length first + k,
    omega (arith, length-append first second),
    rw (take-append-add first second k) (Appends-trans _ _ _ first (take k second) one.0 put),
  ),
  counted ∙ ap (λ n. n + 1) one.1,
)

-- Where a text broke off, so did each that goes on behind it.
pub breaks_before : {E : Type 0} (contents : E → Option (List ℕ)) (first second : List ℕ)
    (a b : Counted E) → BreaksOff contents first a b → BreaksOff contents (first ++ second) a b
breaks_before contents first second a b ((k, less, put), counted) =
    let few : k ≤ length first = omega arith in
    let enough = length-append first second in
    ((k, omega (arith, enough), rw (take-append-le k first second few) put), counted)

-- The second text was written after the first, or broke off there.
pub all_both : {E T F : Type 0} (contents : E → Option (List ℕ)) (first second : List ℕ)
    (r : Result T F) (a b d : Counted E) → TakesWhole contents first a b
    → OnOk r (TakesWhole contents second b d) → OnOk r (TakesWhole contents (first ++ second) a d)
all_both contents first second (Ok v) a b d one other = takes_both contents first second a b d one other
all_both contents first second (Err e) a b d one other = tt

pub beginning_both : {E T F : Type 0} (contents : E → Option (List ℕ)) (first second : List ℕ)
    (r : Result T F) (a b d : Counted E) → TakesWhole contents first a b
    → OnErr r (BreaksOff contents second b d) → OnErr r (BreaksOff contents (first ++ second) a d)
beginning_both contents first second (Ok v) a b d one other = tt
beginning_both contents first second (Err e) a b d one other =
    breaks_both contents first second a b d one other

-- What holds, holds where a call failed.
pub on_failure : {T F : Type 0} (r : Result T F) {P : Type 0} → P → OnErr r P
on_failure (Ok v) h = tt
on_failure (Err e) h = h

-- A text that was written, or broke off, was told.
pub told_line : {E T F : Type 0} (contents : E → Option (List ℕ)) (text : List ℕ) (r : Result T F)
    (a b : Counted E) → OnOk r (TakesWhole contents text a b) → OnErr r (BreaksOff contents text a b)
    → TellsLine contents text a b
told_line contents text (Ok v) a b whole broke = inl whole
told_line contents text (Err e) a b whole broke = inr broke

-- ==== how a reply of which something is so is written

module _ {O : Type 0} (contents : O → Option (List ℕ)) (IsSo : List ℕ → Outcome → Type 0) where
  -- It was written.
  pub written : {E : Type 0} (r : Result Answer E) (text : List ℕ) (outcome : Outcome)
      (old new : Counted O) → IfOk r (λ answer. outcome_of answer ≡ outcome)
      → OnOk r (TakesWhole contents text old new) → IsSo text outcome
      → IfOk r (λ answer. (told : List ℕ) × IsSo told (outcome_of answer)
      × TakesWhole contents told old new)
  written (Ok answer) text outcome old new is whole so =
      (text, subst (IsSo text) (sym is) so, whole)
  written (Err e) text outcome old new is whole so = tt

  -- It broke off.
  pub broken_off : {T : Type 0} (Ended : Stop → Type 0) (r : Result T Stop) (text : List ℕ)
      (outcome : Outcome) (old new : Counted O)
      → (((t : List ℕ) × (o : Outcome) × IsSo t o × BreaksOff contents t old new)
      → Ended CannotWrite)
      → IfErr r (λ stop. stop ≡ CannotWrite) → OnErr r (BreaksOff contents text old new)
      → IsSo text outcome → IfErr r Ended
  broken_off Ended (Ok v) text outcome old new ends stop broke so = tt
  broken_off Ended (Err s) text outcome old new ends stop broke so =
      subst Ended (sym stop) (ends (text, outcome, so, broke))

-- The file about which a command asks is one of those that were read, of which there are as many as
-- names.
pub asks_handed : (command : Command) (names : List (List ℕ)) (files : List PlainFile)
    → length files ≡ length names → AsksNamed command names → AsksHanded files command
asks_handed (File form number) names files same named = rw same named
asks_handed (Shorter number duplicates) names files same named = rw same named
asks_handed (Find patterns whole shape hypotheses) names files same named = named
asks_handed command names files same named = tt

-- Of the files that were read there are as many as names.
pub as_many : (comments : Comments) (names : List (List ℕ)) (wholes files : List PlainFile)
    → map (λ f. f.name) wholes ≡ names → AllZip (IsReadAs comments) wholes files
    → length files ≡ length names
as_many comments names wholes files named reads =
    sym (zip_length (IsReadAs comments) wholes files reads)
    ∙ sym (length-map wholes (λ (f : PlainFile). f.name)) ∙ ap length named

-- ==== how the words are answered, from how the parts of the program answer

-- An answer was written.
pub answers_text : {O E : Type 0} (contents : O → Option (List ℕ)) (holds : List ℕ → KnownFile)
    (texts : Texts) (max : ℕ) (words : List (List ℕ)) (r : Result Answer E) (text : List ℕ)
    (outcome : Outcome) (old new : Counted O) → IfOk r (λ answer. outcome_of answer ≡ outcome)
    → OnOk r (TakesWhole contents text old new) → AnswersWords holds texts max words text outcome
    → IfOk r (λ answer. (t : List ℕ) × AnswersWords holds texts max words t (outcome_of answer)
    × TakesWhole contents t old new)
answers_text contents holds texts max words (Ok answer) text outcome old new same written answers =
    (text, subst (AnswersWords holds texts max words text) (sym same) answers, written)
answers_text contents holds texts max words (Err e) text outcome old new same written answers = tt

-- The page for a request for help answers the words.
pub helped : (holds : List ℕ → KnownFile) (texts : Texts) (max : ℕ) (words : List (List ℕ))
    (request : Request) (topic : Option (Bor (List ℕ))) (page text : List ℕ) → Asks words request
    → request ≡ Help topic → IsHelp texts (option_map (λ name. name.now) topic) page → text ≡ page
    → AnswersWords holds texts max words text (quiet 0)
helped holds texts max words request topic page text asked is helps same =
    inl (_, rw is at asked, rw same helps, refl)

-- The words ask for the explanation of their request.
pub asks_explained : (words : List (List ℕ)) (request : Request) (asked : Vec (Bor (List ℕ)))
    (given : List (Bor (List ℕ))) → Asks words request → request ≡ Explain asked
    → given ≡ asked.items → AsksExplain words (map (λ code. code.now) given)
asks_explained words request asked given asks is same = rw same (rw is at asks)

-- And so does the text for a request for an explanation.
pub explained : (holds : List ℕ → KnownFile) (texts : Texts) (max : ℕ) (words : List (List ℕ))
    (request : Request) (asked : Vec (Bor (List ℕ))) (given : List (Bor (List ℕ)))
    (said text : List ℕ) → Asks words request → request ≡ Explain asked → given ≡ asked.items
    → IsExplanation texts (map (λ code. code.now) given) said → text ≡ said
    → AnswersWords holds texts max words text (quiet 0)
explained holds texts max words request asked given said text asks is same explains written =
    let named = asks_explained words request asked given asks is same in
    inr (inr (inl (_, named, rw written explains, refl)))

-- The words ask for the command of their request over the files that it names.
pub asks_run : (words : List (List ℕ)) (request : Request) (command : Command)
    (names : Vec (Bor (List ℕ))) (given : List (Bor (List ℕ))) → Asks words request
    → request ≡ Run command names → given ≡ names.items
    → AsksRun words command (map (λ name. name.now) given)
asks_run words request command names given asked is same = rw same (rw is at asked)

module _ {O : Type 0} (contents : O → Option (List ℕ)) (holds : List ℕ → KnownFile)
    (may_fail : List ℕ → Type 0) (texts : Texts) (max : ℕ) (words : List (List ℕ)) where
  -- An answer broke off.
  pub stops_answer : {T : Type 0} (r : Result T Stop) (text : List ℕ) (outcome : Outcome)
      (old new : Counted O) → IfErr r (λ stop. stop ≡ CannotWrite)
      → OnErr r (BreaksOff contents text old new) → AnswersWords holds texts max words text outcome
      → IfErr r (λ stop. Stops contents holds may_fail texts max words stop old new)
  stops_answer (Ok v) text outcome old new stop broke answers = tt
  stops_answer (Err s) text outcome old new stop broke answers =
      rw stop (text, outcome, answers, broke)

  -- No command has the name on which the words ask for help, or memory ran out.
  pub stops_help : {T : Type 0} (topic : Option (List ℕ)) (r : Result T Stop) (stop : Stop)
      (out : Counted O) → AsksHelp words topic → IsHelpFault texts topic stop
      → IsErrAnd r (λ s. s ≡ stop)
      → IfErr r (λ s. Stops contents holds may_fail texts max words s out out)
  stops_help topic (Ok v) stop out asked fault is = tt
  stops_help topic (Err s) (Usage text) out asked fault is =
      rw is (inr (inr (topic, asked, fault)), (refl, refl))
  stops_help topic (Err s) Memory out asked fault is = rw is (refl, refl)
  stops_help topic (Err s) stop out asked fault is = absurd fault

  -- The words are refused, or memory ran out.
  pub stops_refused : {T : Type 0} (r : Result T Stop) (stop : Stop) (out : Counted O)
      → IsWordFault words stop → IsErrAnd r (λ s. s ≡ stop)
      → IfErr r (λ s. Stops contents holds may_fail texts max words s out out)
  stops_refused (Ok v) stop out fault is = tt
  stops_refused (Err s) (Usage text) out fault is = rw is (inl fault, (refl, refl))
  stops_refused (Err s) Memory out fault is = rw is (refl, refl)
  stops_refused (Err s) stop out fault is = absurd fault

  -- No rule has the code for which the words ask, or memory ran out.
  pub stops_unexplained : {T : Type 0} (asked : List (List ℕ)) (r : Result T Stop) (stop : Stop)
      (out : Counted O) → AsksExplain words asked → IsExplanationFault texts asked stop
      → IsErrAnd r (λ s. s ≡ stop)
      → IfErr r (λ s. Stops contents holds may_fail texts max words s out out)
  stops_unexplained asked (Ok v) stop out named fault is = tt
  stops_unexplained asked (Err s) (Usage text) out named fault is =
      rw is (inr (inl (asked, named, fault)), (refl, refl))
  stops_unexplained asked (Err s) Memory out named fault is = rw is (refl, refl)
  stops_unexplained asked (Err s) stop out named fault is = absurd fault

  -- Where the command that the words ask for ended without a reply, the words have no answer.
  pub stops_command : (command : Command) (names : List (List ℕ))
      (label : Option (Bor (List ℕ))) (ended told : Stop) (old new : Counted O)
      → AsksRun words command names → option_map (λ l. l.now) label ≡ label_of command
      → AddsLabel label ended told
      → StopsRun contents holds may_fail command names max ended old new
      → Stops contents holds may_fail texts max words told old new
  stops_command command names label (CannotRead name before) told old new asked given adds h =
      rw adds (inl (command, names, asked, h.0, given), h.1)
  stops_command command names label CannotWrite told old new asked given adds
      (text, outcome, reply, broke) =
      rw adds (text, outcome, inr (inr (inr (inl (command, names, asked, reply)))), broke)
  stops_command command names label Memory told old new asked given adds h = rw adds h
  stops_command command names label ended told old new asked given adds h = absurd h

  -- Where the question about a text that they ask ended without a reply, the words have no answer.
  pub stops_text : (question : TextQuestion) (asked_label proof : List ℕ) (names : List (List ℕ))
      (label : Option (Bor (List ℕ))) (ended told : Stop) (old new : Counted O)
      → AsksText question words asked_label proof names → option_map (λ l. l.now) label ≡ Some asked_label
      → AddsLabel label ended told
      → StopsText question contents holds may_fail asked_label proof names max ended old new
      → Stops contents holds may_fail texts max words told old new
  stops_text question word proof names label (CannotRead name before) told old new asked given adds h =
      rw adds (inr (inl (question, word, proof, names, asked, h.0, given)), h.1)
  stops_text question word proof names label CannotWrite told old new asked given adds
      (text, outcome, reply, broke) =
      rw adds
      (text, outcome, inr (inr (inr (inr (inl (question, word, proof, names, asked, reply))))), broke)
  stops_text question word proof names label Memory told old new asked given adds h = rw adds h
  stops_text question word proof names label ended told old new asked given adds h = absurd h

  -- Where the question about two versions that they ask ended without a reply, the words have no
  -- answer.
  pub stops_versions : (before after : List (List ℕ)) (stop : Stop) (old new : Counted O)
      → AsksDiff words before after → StopsDiff contents holds may_fail before after max stop old new
      → Stops contents holds may_fail texts max words stop old new
  stops_versions before after (CannotRead name told) old new asked (unread, none, same) =
      (inr (inr (inl (before, after, asked, unread, none))), same)
  stops_versions before after CannotWrite old new asked (text, outcome, reply, broke) =
      (text, outcome, inr (inr (inr (inr (inr (inl (before, after, asked, reply)))))), broke)
  stops_versions before after Memory old new asked h = h
  stops_versions before after stop old new asked h = absurd h

  -- Where what is told with a note ended without a reply, the words have no answer.
  pub stops_noted : (request : Request) (stop : Stop) (old new : Counted O) → Asks words request
      → StopsNoted contents holds may_fail request max stop old new
      → Stops contents holds may_fail texts max words stop old new
  stops_noted request (CannotRead name told) old new asked (unread, is, same) =
      (inr (inr (inr (request, asked, unread, is))), same)
  stops_noted request CannotWrite old new asked (text, outcome, reply, broke) =
      (text, outcome, inr (inr (inr (inr (inr (inr (request, asked, reply)))))), broke)
  stops_noted request Memory old new asked h = h
  stops_noted request stop old new asked h = absurd h

-- A question about a text ends as the command over the files does, once the proof is read.
pub text_replies : {O E : Type 0} (question : TextQuestion) (contents : O → Option (List ℕ)) (holds : List ℕ → KnownFile) (max : ℕ) (label proof : List ℕ) (names : List (List ℕ)) (command : Command)
    (given : PlainFile) (r : Result Answer E) (old new : Counted O) → IsProofRead holds proof max given → IsTextCommand question label given command
    → IfOk r (λ answer. (text : List ℕ) × IsReplyOver holds command names max text (outcome_of answer) × TakesWhole contents text old new)
    → IfOk r (λ answer. (text : List ℕ) × IsTextReplyOver question holds label proof names max text (outcome_of answer) × TakesWhole contents text old new)
text_replies question contents holds max label proof names command given (Ok answer) old new read asks (text, reply, taken) =
    (text, inr (given, read, command, asks, reply), taken)
text_replies question contents holds max label proof names command given (Err e) old new read asks h = tt

pub text_stops : {O T : Type 0} (question : TextQuestion) (contents : O → Option (List ℕ)) (holds : List ℕ → KnownFile) (may_fail : List ℕ → Type 0) (max : ℕ) (label proof : List ℕ) (names : List (List ℕ))
    (command : Command) (given : PlainFile) (r : Result T Stop) (old new : Counted O) → IsProofRead holds proof max given
    → IsTextCommand question label given command
    → IfErr r (λ stop. StopsRun contents holds may_fail command names max stop old new)
    → IfErr r (λ stop. StopsText question contents holds may_fail label proof names max stop old new)
text_stops question contents holds may_fail max label proof names command given (Ok v) old new read asks h = tt
text_stops question contents holds may_fail max label proof names command given (Err (CannotRead name told)) old new read asks h = (inr (given, read, h.0), h.1)
text_stops question contents holds may_fail max label proof names command given (Err CannotWrite) old new read asks (text, outcome, reply, broke) =
    (text, outcome, inr (given, read, command, asks, reply), broke)
text_stops question contents holds may_fail max label proof names command given (Err Memory) old new read asks h = h
text_stops question contents holds may_fail max label proof names command given (Err s) old new read asks h =
    absurd h

-- The line that the proof holds too many bytes broke off.
pub text_too_long : {O T : Type 0} (question : TextQuestion) (contents : O → Option (List ℕ)) (holds : List ℕ → KnownFile) (may_fail : List ℕ → Type 0)
    (label proof : List ℕ) (names : List (List ℕ)) (max : ℕ) (r : Result T Stop) (old new : Counted O)
    → IfErr r (λ stop. stop ≡ CannotWrite) → OnErr r (BreaksOff contents (codes "text F3 0\n") old new) → MayHold (holds proof) (λ all. max < length all)
    → IfErr r (λ stop. StopsText question contents holds may_fail label proof names max stop old new)
text_too_long question contents holds may_fail label proof names max (Ok v) old new stop broke long = tt
text_too_long question contents holds may_fail label proof names max (Err s) old new stop broke long =
    rw stop (codes "text F3 0\n", quiet 4, inl (long, refl, refl), broke)

-- The words were answered, and standard error was told the notes.
pub ends_answered : {O E : Type 0} (contents : O → Option (List ℕ)) (said : E → Option (List ℕ))
    (holds : List ℕ → KnownFile) (may_fail : List ℕ → Type 0) (texts : Texts) (max : ℕ)
    (words : List (List ℕ)) (outcome : Outcome) (number : ℕ) (notes : List ℕ)
    (old new : Counted O) (err err' : Counted E)
    → number ≡ outcome.status → notes ≡ outcome.notes → TellsNotes said notes err err'
    → ((text : List ℕ) × AnswersWords holds texts max words text outcome
    × TakesWhole contents text old new)
    → Ends contents said holds may_fail texts max words number old new err err'
ends_answered contents said holds may_fail texts max words outcome number notes old new err err'
    same noted told (text, answers, taken) =
    inl (record {
      text = text;
      notes = outcome.notes;
      answers = rw same answers;
      written = taken;
      noted = rw noted at told;
    })

-- The words were not read, and standard error was told why.
pub ends_unread : {O E : Type 0} (said : E → Option (List ℕ)) (may_fail : Type 0) (status : Status) (number : ℕ) (stop : Stop) (fault : ArgumentFault)
    (out : Counted O) (err err' : Counted E)
    → number ≡ number_of status → status ≡ stop_status stop → stop ≡ unread_stop fault → (fault ≡ argument.NotText → may_fail)
    → TellsLine said (error_line stop) err err'
    → EndsWithoutWords said may_fail number out out err err'
ends_unread said may_fail status number stop fault out err err' same is reason cause told = record {
  stop = stop;
  fault = fault;
  cause = cause;
  reason = reason;
  silent = (refl, refl);
  ends = sym (same ∙ ap number_of is);
  told = told;
}
