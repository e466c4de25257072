use Rattle.std.proofs.Common.{◌≡◌, take}
use Rattle.gt_space.specs.Range.{KeepsAddresses}
use Rattle.gt_collect.proofs.Zeros.{zeroed}
use Rattle.gt_collect.proofs.clearing.clear_roots.Given as goal

abbrev pub invariant-loop-word : goal.invariant-loop-word
invariant-loop-word l = record {
  addresses : KeepsAddresses l.initial.objects.space l.objects.space;
  rest : l.objects ≡ record l.initial.objects { space = l.objects.space };
  zeros : l.objects.space ≡ zeroed l.initial.objects.space (take l.word-index l.word-items);
}
