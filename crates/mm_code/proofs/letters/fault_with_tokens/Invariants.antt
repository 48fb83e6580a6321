use Rattle.std.proofs.Common.{List, Result, drop}
use Rattle.std.specs.List.{flat_map}
use Rattle.mm_code.specs.declared.code.Code.{Code}
use Rattle.mm_code.specs.declared.code.CodeRule.{CodeRule}
use Rattle.mm_code.specs.Mirror.Reading.{FaultOf}
use Rattle.mm_code.proofs.letters.fault_with_tokens.Given as goal

-- the fault so far stands before the tokens that are left
abbrev pub invariant-loop-token : goal.invariant-loop-token
invariant-loop-token l = (read : Result (List Code) CodeRule) → FaultOf l.fn.fault (flat_map (λ token. token.now) l.tokens) read → FaultOf l.known (flat_map (λ token. token.now) (drop l.token-index l.tokens)) read
