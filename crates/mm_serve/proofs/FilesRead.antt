-- Files as they are read, one after the other, and the notes on those that weren't included.
use Rattle.std.proofs.Common.{◌≡◌, ℕ, suc, ◌+◌, ◌<◌, List, ◌∷◌, ◌++◌, length, map, take, drop}
use Rattle.std.proofs.Common.{get_or, Result, Err, IsErrOf, refl, sym, ap, ◌∙◌, arith, Bor}
use Rattle.std.proofs.Common.{take-append-drop, ◌≤◌, [], ap₂, subst, Option, Some, IfSome, zero}
use Rattle.std.proofs.Common.{filter, Bool, true, false, cond, append_assoc, Ok, OnOk, is_ok}
use Rattle.std.proofs.Common.{if◌then◌else◌, inl, inr, codes}
use Rattle.std.proofs.Math.Seq.{drop-cons}
use Rattle.std.proofs.lemmas.List.{map-append, take_more, length-map}
use Rattle.std.specs.List.{AllByRecursion, AllZip, range_with_len}
use Rattle.mm_text.specs.Files.{PlainFile, total_bytes, plain_file, BreaksLoad}
use Rattle.mm_base.specs.MostBytes.{most_bytes}
use Rattle.mm_words.proofs.AskedWords.{texts_in}
use Rattle.mm_serve.specs.Folder.{ComesNext, IsFileFault, IsHeld, KnownFile, MayHold, Unknown}
use Rattle.mm_serve.specs.Folder.{Absent, Holds}
use Rattle.mm_serve.specs.declared.files.FileFault.{FileFault}
use Rattle.mm_serve.specs.declared.files.FileFault.TheVariants.{CannotRead, TooLong, Memory}
use Rattle.mm_serve.specs.declared.files.ReadFile.{ReadFile}
use Rattle.std.proofs.lemmas.List.Sums.{sum_by-append, sum_by_push}
use Rattle.mm_text.specs.Alike.{AreAlike}
use Rattle.mm_check.specs.Alike.{AlikeFilesHaveOneReply}
use Rattle.mm_check.specs.Reply.{IsReplyTo}
use Rattle.mm_rules.specs.Places.{name_of}
use Rattle.mm_verdict.specs.declared.question.Command.{Command}
use Rattle.mm_verdict.specs.declared.question.Command.TheVariants.{Whole}
use Rattle.mm_verdict.specs.declared.question.WholeQuestion.TheVariants.{Check}
use Rattle.mm_step.specs.declared.profile.Profile.{Profile}
use Rattle.mm_serve.specs.declared.files.Comments.{Comments}
use Rattle.mm_serve.specs.declared.files.Comments.TheVariants.{Kept, LeftOut}
use Rattle.mm_serve.specs.ReadFiles.{IsReadAs}
use Rattle.std.proofs.lemmas.Option.{slice_get-get_or}
use Rattle.mm_text.specs.declared.fault.LoadRule.{LoadRule}
use Rattle.mm_base.specs.declared.file.File.{File}
use Rattle.mm_text.specs.Included.{AlikeFilesLeaveOutTheSame, is_left_out, left_out}
use Rattle.mm_base.proofs.Lists.{all_at, all_weaker}
use Rattle.mm_verdict.proofs.AlikeVerdicts.{alike_back, breaks_alike, name_alike}
use Rattle.mm_serve.specs.Ending.{AreAllNotes, IsRefusedNote, label_of}
use Rattle.mm_minimize.specs.declared.search_watch.Searched.{Searched}
use Rattle.mm_explain.specs.Near.{AreNearestIn}
use Rattle.mm_code.specs.Layout.{texts}
use Rattle.mm_near.specs.Near.{joined}
use Rattle.mm_serve.specs.Notes.{AreLeftOut, AreNotesBeside, AreNotesOn, IsNearLine, near_line}
use Rattle.mm_serve.specs.Notes.{near_beginning}
use Rattle.mm_rules.specs.declared.ask.AskFault.TheVariants.{Rule}
use Rattle.mm_rules.specs.declared.rule.AskRule.TheVariants.{A1}
use Rattle.mm_verdict.specs.Reply.{IsAskReply}

-- ==== from the reading of one file to that of all

-- the names are those before an index, the one there, and those after it
pub texts_at : (names : List (Bor (List ℕ))) (i : ℕ) (d : Bor (List ℕ)) → i < length names
    → texts_in names ≡ texts_in (take i names) ++ (get_or names i d).now ∷ texts_in (drop (suc i) names)
texts_at names i d h =
    ap texts_in (sym (take-append-drop i names) ∙ ap (λ l. take i names ++ l) (drop-cons names i d h))
    ∙ map-append (λ (n : Bor (List ℕ)). n.now) (take i names) (get_or names i d ∷ drop (suc i) names)

abbrev pub comes_next : (holds : List ℕ → KnownFile) (names : List (Bor (List ℕ))) (max i : ℕ) (d : Bor (List ℕ)) (before : List PlainFile) (left : ℕ)
    → i < length names → map (λ f. f.name) before ≡ texts_in (take i names) → AllByRecursion (IsHeld holds) before → total_bytes before + left ≡ max
    → ComesNext holds (texts_in names) max (get_or names i d).now
comes_next holds names max i d before left h named held whole = record {
  before = before;
  after = texts_in (drop (suc i) names);
  whole = texts_at names i d h ∙ ap (λ l. l ++ (get_or names i d).now ∷ texts_in (drop (suc i) names)) (sym named);
  are_held = held;
  within = omega arith;
}

abbrev read_error : FileFault → Result ReadFile FileFault
read_error f = Err f

-- Where one file wasn't read, not all were.
pub file_fault_at : (holds : List ℕ → KnownFile) (may_fail : List ℕ → Type 0) (names : List (Bor (List ℕ))) (max : ℕ) (name : Bor (List ℕ)) (left : ℕ)
    (next : ComesNext holds (texts_in names) max name.now) → total_bytes next.before + left ≡ max → (f : FileFault)
    → ((word : Bor (List ℕ)) → read_error f ≡ read_error (CannotRead word) → word ≡ name)
    → ((word : Bor (List ℕ)) → read_error f ≡ read_error (CannotRead word) → may_fail name.now)
    → (IsErrOf (read_error f) TooLong → MayHold (holds name.now) (λ all. left < length all))
    → IsFileFault holds may_fail (texts_in names) max f
file_fault_at holds may_fail names max name left next whole (CannotRead word) named fails over =
    rw (named word refl) (next, fails word refl)
file_fault_at holds may_fail names max name left next whole TooLong named fails over =
    (name.now, next, more (holds name.now) (over refl))
  where
    more : (known : KnownFile) → MayHold known (λ all. left < length all)
        → MayHold known (λ all. max < total_bytes next.before + length all)
    more Unknown h = tt
    more Absent h = absurd h
    more (Holds all) h = omega arith
file_fault_at holds may_fail names max name left next whole Memory named fails over = tt

-- ==== files that were read, beside what they are read of

-- ## One file more

byte_count : (file : PlainFile) (files : List PlainFile) → total_bytes (file ∷ files) ≡ length file.bytes + total_bytes files
byte_count file files =
    let parts = sum_by-append (λ (f : PlainFile). length f.bytes) (file ∷ []) files in
    omega (arith, parts)

pub more_bytes : (files : List PlainFile) (file : PlainFile) → total_bytes (files ++ file ∷ []) ≡ total_bytes files + length file.bytes
more_bytes files file = sum_by_push (λ (f : PlainFile). length f.bytes) files file

pub more_names : (files : List PlainFile) (file : PlainFile) (names : List (Bor (List ℕ))) (i : ℕ) (d : Bor (List ℕ)) → i < length names → map (λ f. f.name) files ≡ map (λ n. n.now) (take i names) → file.name ≡ (get_or names i d).now
    → map (λ f. f.name) (files ++ file ∷ []) ≡ map (λ n. n.now) (take (i + 1) names)
more_names files file names i d within named name =
    rw (map-append, take_more names i d within, map-append, named, name) refl

-- ## The reply over what was read is that over the whole files

-- nothing was left out
pub same_files : (wholes reads : List PlainFile) → AllZip (IsReadAs Kept) wholes reads → reads ≡ wholes
same_files [] [] all = refl
same_files (whole ∷ wholes) (read ∷ reads) all =
    let name = all.0.0 in
    let bytes = all.0.1 in
    let rest = same_files wholes reads all.1 in
    let first : read ≡ whole = ap₂ (λ (n b : List ℕ). let f : PlainFile = record { name = n; bytes = b } in f) (sym name) bytes in
    ap (λ f. f ∷ reads) first ∙ ap (λ l. whole ∷ l) rest
same_files wholes reads all = absurd all

-- what comments say was left out
pub alike_files : (wholes reads : List PlainFile) → AllZip (IsReadAs LeftOut) wholes reads → AllZip AreAlike reads wholes
alike_files [] [] all = tt
alike_files (whole ∷ wholes) (read ∷ reads) all = ((sym all.0.0, λ file. sym (all.0.1.0 file)), alike_files wholes reads all.1)
alike_files wholes reads all = absurd all

pub fewer_bytes : (wholes reads : List PlainFile) → AllZip (IsReadAs LeftOut) wholes reads → total_bytes reads ≤ total_bytes wholes
fewer_bytes [] [] all = omega arith
fewer_bytes (whole ∷ wholes) (read ∷ reads) all =
    let rest = fewer_bytes wholes reads all.1 in
    let first = all.0.1.1 in
    let one = byte_count whole wholes in
    let other = byte_count read reads in
    omega (arith, rest, first, one, other)
fewer_bytes wholes reads all = absurd all

pub reply_over : AlikeFilesHaveOneReply → (comments : Comments) (command : Command) (max : ℕ) → (comments ≡ LeftOut → ((profile : Profile) × (command ≡ Whole profile Check)) × (max ≤ most_bytes)) → (wholes reads : List PlainFile) → AllZip (IsReadAs comments) wholes reads → total_bytes wholes ≤ max
    → (text : List ℕ) (status : ℕ) → IsReplyTo reads command text status → IsReplyTo wholes command text status
reply_over law Kept command max only wholes reads all within text status reply =
    subst (λ l. IsReplyTo l command text status) (same_files wholes reads all) reply
reply_over law LeftOut command max only wholes reads all within text status reply =
    let (named, few) = only refl in
    let fewer = fewer_bytes wholes reads all in
    subst (λ k. IsReplyTo wholes k text status) (sym named.1)
    (law named.0 reads wholes (alike_files wholes reads all) (omega (arith, fewer, within, few)) (omega (arith, within, few)) text status
    (subst (λ k. IsReplyTo reads k text status) named.1 reply))

-- ## One file

-- what is so of the bytes that a source holds is so of what its file holds
pub held_by : (P : List ℕ → Type 0) (known : KnownFile) (left : Option (List ℕ))
    → MayHold known (λ bytes. left ≡ Some bytes) → IfSome left P → MayHold known P
held_by P Unknown left one other = tt
held_by P Absent left one other = absurd one
held_by P (Holds bytes) left one other = rw one at other

-- ==== the names of files that weren't included, by their numbers, and the notes on these files

-- ---- numbers

-- What is left of a range of numbers lies in it.
each_below : (p : ℕ → Bool) (low count : ℕ)
    → AllByRecursion (λ n. n < low + count) (filter p (range_with_len low count))
each_below p low zero = tt
each_below p low (suc count) =
    let rest = filter p (range_with_len (low + 1) count) in
    let high : AllByRecursion (λ n. n < low + suc count) rest =
    all_weaker (λ n. n < low + 1 + count) (λ n. n < low + suc count) (λ n h. omega arith) _
    (each_below p (low + 1) count) in
    elim (p low) as (λ b. AllByRecursion (λ n. n < low + suc count) (cond b (low ∷ rest) rest))
    [ true ↦ (omega arith, high) | false ↦ high ]

-- Each of the numbers of the files that weren't included is the number of a file.
pub number_within : (files : List File) (numbers given : List ℕ) → given ≡ numbers
    → (((rule : LoadRule) → BreaksLoad (map plain_file files) rule → ⊥)
    → numbers ≡ left_out (map plain_file files))
    → ((rule : LoadRule) → BreaksLoad (map plain_file files) rule → numbers ≡ [])
    → (i d : ℕ) → i < length given → get_or given i d < length files
number_within files numbers given same whole broken i d less =
    let count = length-map files plain_file in
    let none : (rule : LoadRule) → BreaksLoad (map plain_file files) rule → ⊥ =
    λ rule breaks. let empty = ap length (same ∙ broken rule breaks) in absurd (omega arith) in
    let all : AllByRecursion (λ n. n < length files) given =
    subst (AllByRecursion (λ n. n < length files)) (sym (same ∙ whole none))
    (all_weaker (λ n. n < 0 + length (map plain_file files)) (λ n. n < length files)
    (λ n h. omega arith) _
    (each_below (is_left_out (map plain_file files)) 0 (length (map plain_file files)))) in
    all_at (λ n. n < length files) given i (get_or given i d) all (slice_get-get_or given i d less)

-- ---- names

-- The name of the file with a number.
pub name_at : (files : List File) (n : ℕ) (d : File) → n < length files
    → (get_or files n d).name.now ≡ name_of (map plain_file files) n
name_at [] n d less = absurd (omega arith)
name_at (f ∷ fs) zero d less = refl
name_at (f ∷ fs) (suc n) d less = name_at fs n d (omega arith)

-- The name of one file more.
pub name_more : (files : List PlainFile) (names : List (List ℕ)) (numbers : List ℕ) (i d : ℕ)
    (name : List ℕ) → i < length numbers → names ≡ map (name_of files) (take i numbers)
    → name ≡ name_of files (get_or numbers i d)
    → names ++ name ∷ [] ≡ map (name_of files) (take (i + 1) numbers)
name_more files names numbers i d name less so_far this =
    rw (so_far, this, take_more numbers i d less, map-append)

-- The names by these numbers are those of the files that weren't included.
pub names_told : (files : List PlainFile) (numbers given : List ℕ) (names : List (List ℕ))
    → given ≡ numbers → (((rule : LoadRule) → BreaksLoad files rule → ⊥) → numbers ≡ left_out files)
    → ((rule : LoadRule) → BreaksLoad files rule → numbers ≡ [])
    → names ≡ map (name_of files) given → AreLeftOut files names
names_told files numbers given names same whole broken by = record {
  whole = λ none. by ∙ ap (map (name_of files)) (same ∙ whole none);
  broken = λ rule breaks. by ∙ ap (map (name_of files)) (same ∙ broken rule breaks);
}

-- ---- lines

-- What was put at the end in three parts.
pub three_parts : {T E : Type 0} (r : Result T E) (old first second new a b d : List ℕ)
    → first ≡ old ++ a → second ≡ first ++ b → new ≡ (if is_ok r then second ++ d else second)
    → OnOk r (new ≡ old ++ (a ++ (b ++ d)))
three_parts (Ok v) old first second new a b d one two three =
    rw (three, two, one) (simp append_assoc)
three_parts (Err e) old first second new a b d one two three = tt

-- What was put at the end in four parts.
pub four_parts : {T E : Type 0} (r : Result T E) (old first second third new a b d e : List ℕ)
    → first ≡ old ++ a → second ≡ first ++ b → third ≡ second ++ d → OnOk r (new ≡ third ++ e)
    → OnOk r (new ≡ old ++ (a ++ (b ++ (d ++ e))))
four_parts (Ok v) old first second third new a b d e one two three four =
    rw (four, three, two, one) (simp append_assoc)
four_parts (Err err) old first second third new a b d e one two three four = tt

-- the line on some labels is made of three parts
pub near_lines : (xs : List (Bor (List ℕ))) → (length xs ≡ 0 → ⊥)
    → near_beginning (texts xs) ++ (joined (texts xs) ++ codes "\n") ≡ near_line (texts xs)
near_lines [] some = absurd (some refl)
near_lines (x ∷ xs) some = refl

-- The line on near labels was put at the end, where the reply says that no statement has the asked
-- one.
pub near_told : {T E : Type 0} (r : Result T E) (files : List PlainFile) (asked : Option (List ℕ))
    (label reply : List ℕ) (near : List (List ℕ)) (old new : List ℕ) (status : ℕ)
    → asked ≡ Some label → IsAskReply (Rule A1) label reply status
    → AreNearestIn files label near → OnOk r (new ≡ old ++ near_line near)
    → OnOk r ((line : List ℕ) × IsNearLine files asked reply line × (new ≡ old ++ line))
near_told (Ok v) files asked label reply near old new status is unknown among put =
    (near_line near, rw is (inr (status, unknown, near, among, refl)), put)
near_told (Err e) files asked label reply near old new status is unknown among put = tt

-- Nothing was, where it says another thing.
pub near_none : (files : List PlainFile) (asked : Option (List ℕ)) (label reply unknown : List ℕ)
    (status : ℕ) → asked ≡ Some label → IsAskReply (Rule A1) label unknown status
    → ¬ (reply ≡ unknown) → IsNearLine files asked reply []
near_none files asked label reply unknown status is told other =
    rw is (inl ((λ s ask. other (ask.0 ∙ sym told.0)), refl))

-- ---- files that were read

-- the names by numbers are the same
names_alike : (files others : List PlainFile) → AllZip AreAlike files others → (numbers : List ℕ)
    → map (name_of files) numbers ≡ map (name_of others) numbers
names_alike files others alike [] = refl
names_alike files others alike (n ∷ ns) =
    ap₂ (λ (x : List ℕ) (xs : List (List ℕ)). x ∷ xs) (name_alike files others alike n)
    (names_alike files others alike ns)

-- Of files that show the same, the same are left out.
names_left_out_alike : AlikeFilesLeaveOutTheSame → (files others : List PlainFile)
    → AllZip AreAlike files others → total_bytes files ≤ most_bytes
    → total_bytes others ≤ most_bytes
    → (names : List (List ℕ)) → AreLeftOut files names → AreLeftOut others names
names_left_out_alike law files others alike small short names are = record {
  whole = λ none.
      are.whole (λ rule broken. none rule (breaks_alike files others alike small rule broken))
      ∙ ap (map (name_of files)) (law files others alike)
      ∙ names_alike files others alike (left_out others);
  broken = λ rule broken.
      are.broken rule
      (breaks_alike others files (alike_back files others alike) short rule broken);
}

-- The notes on files as they were read are those on the whole files.
pub files_noted_over : AlikeFilesLeaveOutTheSame → (wholes reads : List PlainFile)
    → AllZip (IsReadAs LeftOut) wholes reads → total_bytes wholes ≤ most_bytes → (notes : List ℕ)
    → AreNotesOn reads notes → AreNotesOn wholes notes
files_noted_over law wholes reads all few notes (names, are, made) =
    let fewer = fewer_bytes wholes reads all in
    let alike = alike_files wholes reads all in (
      names,
      names_left_out_alike law reads wholes alike (omega arith) few names are,
      made,
    )

-- So are those beside a reply.
pub notes_over : AlikeFilesLeaveOutTheSame → (comments : Comments) (command : Command) (max : ℕ)
    → (comments ≡ LeftOut → ((profile : Profile) × (command ≡ Whole profile Check)) × (max ≤ most_bytes))
    → (wholes reads : List PlainFile) → AllZip (IsReadAs comments) wholes reads
    → total_bytes wholes ≤ max → (reply notes : List ℕ)
    → AreNotesBeside reads (label_of command) reply notes
    → AreNotesBeside wholes (label_of command) reply notes
notes_over law Kept command max only wholes reads all within reply notes beside =
    subst (λ files. AreNotesBeside files (label_of command) reply notes)
    (same_files wholes reads all) beside
notes_over law LeftOut command max only wholes reads all within reply notes beside =
    let ((profile, check), most) = only refl in
    let none : beside.near ≡ [] = rw check at beside.label_noted in
    record {
      on_files = beside.on_files;
      near = beside.near;
      files_noted = files_noted_over law wholes reads all (omega arith) beside.on_files
          beside.files_noted;
      label_noted = rw check none;
      whole = beside.whole;
    }

-- So is the line on why the database is refused.
refused_over : (comments : Comments) (command : Command) (max : ℕ)
    → (comments ≡ LeftOut → ((profile : Profile) × (command ≡ Whole profile Check)) × (max ≤ most_bytes))
    → (wholes reads : List PlainFile) → AllZip (IsReadAs comments) wholes reads
    → (searched : Option Searched) (line : List ℕ) → IsRefusedNote reads command searched line
    → IsRefusedNote wholes command searched line
refused_over Kept command max only wholes reads all searched line is =
    subst (λ files. IsRefusedNote files command searched line) (same_files wholes reads all) is
refused_over LeftOut command max only wholes reads all searched line is =
    let ((profile, check), most) = only refl in
    let none : line ≡ [] = rw check at is in rw check none

-- So are all notes.
pub all_notes_over : AlikeFilesLeaveOutTheSame → (comments : Comments) (command : Command)
    (max : ℕ)
    → (comments ≡ LeftOut → ((profile : Profile) × (command ≡ Whole profile Check)) × (max ≤ most_bytes))
    → (wholes reads : List PlainFile) → AllZip (IsReadAs comments) wholes reads
    → total_bytes wholes ≤ max → (reply notes : List ℕ)
    → AreAllNotes reads command reply notes → AreAllNotes wholes command reply notes
all_notes_over law comments command max only wholes reads all within reply notes are = record {
  beside = are.beside;
  searched = are.searched;
  are_beside = notes_over law comments command max only wholes reads all within reply are.beside
      are.are_beside;
  refused = are.refused;
  is_refused = refused_over comments command max only wholes reads all are.searched are.refused
      are.is_refused;
  whole = are.whole;
}
