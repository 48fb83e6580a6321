-- The printed codes of the rules of proofs.
use Rattle.std.specs.Prelude.{ℕ, List, codes}
use Rattle.mm_step.specs.declared.fault.ProofRule.{ProofRule}
use Rattle.mm_step.specs.declared.fault.ProofRule.TheVariants.{P1, P2, P3, P4, P5, P6, P7, P8, P9}
use Rattle.mm_step.specs.declared.fault.ProofRule.TheVariants.{P10, P11, P12, P13, P14, P15, L1}

abbrev pub proof_code : ProofRule → List ℕ
proof_code P1 = codes "P1"
proof_code P2 = codes "P2"
proof_code P3 = codes "P3"
proof_code P4 = codes "P4"
proof_code P5 = codes "P5"
proof_code P6 = codes "P6"
proof_code P7 = codes "P7"
proof_code P8 = codes "P8"
proof_code P9 = codes "P9"
proof_code P10 = codes "P10"
proof_code P11 = codes "P11"
proof_code P12 = codes "P12"
proof_code P13 = codes "P13"
proof_code P14 = codes "P14"
proof_code P15 = codes "P15"
proof_code L1 = codes "L1"
