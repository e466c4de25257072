use Rattle.std.proofs.Common.{sym, subst, inl, inr}
use Rattle.gt_tree.specs.Blocks.{element_type}
use Rattle.gt_value.specs.Bytes.{Takes}
use Rattle.gt_value.specs.Names.{kind_of}
use Rattle.gt_objects.proofs.Widths.{chars_take, pointers_take, raw_takes, strings_take}
use Rattle.gt_objects.proofs.sizes.element_size.Goals as goal

pub returns-in-Pointers : goal.returns-in-Pointers
returns-in-Pointers c = elim c.in-Pointers.is as (λ _. Takes c.args.program.now c.args.layouts.now c.args.capacity (element_type c.args.program.now (kind_of c.args.kind)) 8) [
  | inl (node, is) ↦
      subst (λ k. Takes c.args.program.now c.args.layouts.now c.args.capacity (element_type c.args.program.now (kind_of k)) 8) (sym is) (pointers_take c.args.program.now c.args.layouts.now c.args.capacity node)
  | inr is ↦ subst (λ k. Takes c.args.program.now c.args.layouts.now c.args.capacity (element_type c.args.program.now (kind_of k)) 8) (sym is) (strings_take c.args.program.now c.args.layouts.now c.args.capacity)
]

pub returns-in-Chars : goal.returns-in-Chars
returns-in-Chars c = elim c.in-Chars.is as (λ _. Takes c.args.program.now c.args.layouts.now c.args.capacity (element_type c.args.program.now (kind_of c.args.kind)) 1) [
  | inl is ↦ subst (λ k. Takes c.args.program.now c.args.layouts.now c.args.capacity (element_type c.args.program.now (kind_of k)) 1) (sym is) (chars_take c.args.program.now c.args.layouts.now c.args.capacity)
  | inr is ↦ subst (λ k. Takes c.args.program.now c.args.layouts.now c.args.capacity (element_type c.args.program.now (kind_of k)) 1) (sym is) (raw_takes c.args.program.now c.args.layouts.now c.args.capacity)
]
