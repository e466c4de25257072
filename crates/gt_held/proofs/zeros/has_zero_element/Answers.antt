use Rattle.std.proofs.Common.{Err, refl, sym, ap, subst}
use Rattle.std.specs.Prelude.{IfOk}
use Rattle.std.specs.Bool.{Decides}
use Rattle.gt_types.specs.declared.types.Ty.{Ty}
use Rattle.gt_tree.specs.Trees.{Trees}
use Rattle.gt_tree.specs.Blocks.{Blocks, element_type}
use Rattle.gt_tree.specs.Fits.{IsZeroOf}
use Rattle.gt_value.specs.Names.{kind_of}
use Rattle.gt_value.specs.Values.{tree_of}
use Rattle.gt_held.specs.Zeros.{HasZeroElement}
use Rattle.gt_held.proofs.zeros.has_zero_element.Goals.{in-Ok, in-Err-Shape, in-Err-Memory}
use Rattle.gt_held.proofs.zeros.has_zero_element.Goals as goal

pub returns : goal.returns
returns c =
    let program = c.args.program.now in
    let type = c.get.ensures.found program c.requires.types c.requires.kind in
    record {
      zero = elim c.match-zero.branch [
        | in-Ok w ↦
            subst (λ r. IfOk r (λ has. (blocks : Blocks) (statics : Trees) → Decides has (HasZeroElement program blocks statics c.args.capacity (element_type program (kind_of c.args.kind)))))
            (sym w.result-is)
            (λ blocks statics. (
              λ _. (tree_of w.in-Ok.field-0, subst (λ (t : Ty). IsZeroOf program blocks statics c.args.capacity t (tree_of w.in-Ok.field-0)) type (w.in-Ok.ensures.zero blocks statics)),
              λ _. refl,
            ))
        | in-Err-Shape w ↦
            subst (λ r. IfOk r (λ has. (blocks : Blocks) (statics : Trees) → Decides has (HasZeroElement program blocks statics c.args.capacity (element_type program (kind_of c.args.kind)))))
            (sym w.result-is)
            (λ blocks statics. (
              λ never. absurd (cc),
              λ has. absurd (w.in-Err-Shape.ensures.shape (ap Err w.in-Err-Shape.field-0-is) blocks statics has.0 (subst (λ (t : Ty). IsZeroOf program blocks statics c.args.capacity t has.0) (sym type) has.1)),
            ))
        | in-Err-Memory w ↦
            subst (λ r. IfOk r (λ has. (blocks : Blocks) (statics : Trees) → Decides has (HasZeroElement program blocks statics c.args.capacity (element_type program (kind_of c.args.kind)))))
            (sym w.result-is) tt
      ];
    }
