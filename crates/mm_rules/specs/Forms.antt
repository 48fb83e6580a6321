-- The forms in which a theorem's proof is written anew: the normal proof, which is the spelling of
-- its tree, the packed one, which is the fully shared proof of its tree, and the small one, whose
-- labels are listed by use (the Metamath book, sections 4.3 and 4.4.3, appendix B).
use Rattle.mm_step.specs.declared.fault.ExpandFault.{ExpandFault}
use Rattle.mm_step.specs.declared.fault.ExpandFault.TheVariants as expand
use Rattle.mm_rules.specs.declared.ask.AskFault.{AskFault}
use Rattle.mm_rules.specs.declared.ask.AskFault.TheVariants.{Rule, Memory}
use Rattle.mm_rules.specs.declared.rule.AskRule.TheVariants.{L2}

-- the fault that a fault of expanding is answered with
abbrev pub expand_fault : ExpandFault → AskFault
expand_fault expand.L2 = Rule L2
expand_fault expand.Memory = Memory
