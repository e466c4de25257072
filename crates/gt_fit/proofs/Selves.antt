-- A value that fits is what it becomes.
use Rattle.std.proofs.Common.{ℕ, List, refl, subst, None}
use Rattle.gt_types.specs.declared.types.Ty.{Ty}
use Rattle.gt_types.specs.declared.types.Ty.TheVariants as ty
use Rattle.gt_types.specs.declared.program.Program.{Program}
use Rattle.gt_tree.specs.Trees.{Tree, Alt, Trees}
use Rattle.gt_tree.specs.Blocks.{Blocks}
use Rattle.gt_tree.specs.Scopes.{Scope}
use Rattle.gt_tree.specs.Fits.{Fits, AllFit, EachFits}
use Rattle.gt_tree.specs.Reshapes.{Reshapes, AllReshape, EachReshapes}
use Rattle.gt_fit.specs.InPlace.{IsInPlace, AreInPlace}

module _ {program : Program} where
  mutual
    self : {blocks : Blocks} {capacity : ℕ} {scope : Scope} {type : Ty} {tree : Tree} → Fits program blocks capacity scope type tree → Reshapes program type tree tree
    self (Fits.number room) = Reshapes.leaf refl
    self (Fits.bits room) = Reshapes.leaf refl
    self (Fits.opaque long small) = Reshapes.leaf refl
    self (Fits.null p) = Reshapes.leaf refl
    self (Fits.to m) = Reshapes.leaf refl
    self (Fits.struct has struct all) = Reshapes.struct has struct (selves all)
    self (Fits.member has union active got fits) = Reshapes.same has union got (self fits)
    self (Fits.common {node} {desc} {tree} has union active is plain fits) = subst (λ t. Reshapes program (ty.Node node desc) (Alt None tree) (Alt None t)) plain Reshapes.same_none
    self (Fits.nothing has union active none) = Reshapes.same_none
    self (Fits.array e many each) = Reshapes.array e (each_self each)
    self (Fits.tail e value le many each) = Reshapes.tail e (each_self each)

    selves : {blocks : Blocks} {capacity : ℕ} {scope : Scope} {types : List Ty} {trees : Trees} → AllFit program blocks capacity scope types trees → AllReshape program types trees trees
    selves AllFit.none = AllReshape.none
    selves (AllFit.more fits all) = AllReshape.more (self fits) (selves all)

    each_self : {blocks : Blocks} {capacity : ℕ} {scope : Scope} {type : Ty} {trees : Trees} → EachFits program blocks capacity scope type trees → EachReshapes program type trees trees
    each_self EachFits.no_more = EachReshapes.lost
    each_self (EachFits.one_more fits each) = EachReshapes.one_more (self fits) (each_self each)

pub in-place : (program : Program) → IsInPlace program
in-place program blocks statics capacity type old path leaf there so fits = record { there = there; is_leaf = so; fits = fits; reshapes = self fits }

pub all-in-place : (program : Program) → AreInPlace program
all-in-place program blocks old new path leaf there so e fit = record { there = there; is_leaf = so; written = new; with_leaf = e; fits = fit; reshapes = selves fit }
