-- No promise: what is found out about a leaf before the value around it is looked at.
use Rattle.gt_types.specs.declared.program.Program.{Program}
use Rattle.gt_tree.specs.Blocks.{Blocks}
use Rattle.gt_tree.specs.Scopes.{eval_in}
use Rattle.gt_value.specs.declared.places.LeafContent.{LeafContent}
use Rattle.gt_value.specs.Places.{Part}
use Rattle.gt_leaf.specs.Unread.{Around}
use Rattle.gt_leaf.specs.Writing.{IsAlone, LeafFits}

-- a leaf can be looked at alone, and fits
pub record IsFit (program : Program) (blocks : Blocks) (around : Around) (p : Part) (leaf : LeafContent) : Type 0 where
  pub alone : IsAlone program around p leaf
  pub fits : LeafFits blocks (eval_in program p.scope) p.type leaf

-- a leaf can be looked at alone, and does not fit
pub record IsMisfit (program : Program) (blocks : Blocks) (around : Around) (p : Part) (leaf : LeafContent) : Type 0 where
  pub alone : IsAlone program around p leaf
  pub misfit : ¬ LeafFits blocks (eval_in program p.scope) p.type leaf
