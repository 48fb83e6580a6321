use Rattle.std.proofs.Common.{◌≡◌, map, take}
use Rattle.mm_code.specs.Layout.{texts}
use Rattle.mm_serve.proofs.serve.bytes_of.Given as goal

-- The bytes so far are those of the words so far.
abbrev pub invariant-loop-word : goal.invariant-loop-word
invariant-loop-word l = texts l.bytes.items ≡ map (λ word. word.now) (take l.word-index l.words)
