use Rattle.std.proofs.Common.{[], take, All}
use Rattle.mm_code.specs.Letters.{HasSpelling, IsExact}
use Rattle.mm_forms.specs.Mirror.CodeSharing.{AreEncoded}
use Rattle.mm_forms.proofs.PackedProofs.PackingLoops.{AreTaggedSo, AreTagged}
use Rattle.mm_forms.proofs.packing.codes_of.Given as goal

abbrev pub invariant-loop-one : goal.invariant-loop-one
invariant-loop-one l = record {
  said : AreEncoded l.labels l.repeated [] (take l.one-index l.steps) l.codes.items l.kept;
  among : AreTagged l.repeated l.kept;
  tagged : AreTaggedSo l.repeated l.kept (take l.one-index l.steps);
  spelled : All HasSpelling l.codes.items;
  exact : All IsExact l.codes.items;
}
