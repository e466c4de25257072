-- Structures by their numbers, and one inside another.
use Rattle.std.proofs.Common.{◌≡◌, ℕ, suc, Some, Option, ap, sym, ◌∙◌}
use Rattle.gt_types.specs.declared.expressions.Expr.{Expr}
use Rattle.gt_types.specs.declared.types.TypeId.{TypeId}
use Rattle.gt_types.specs.declared.types.Ty.{Ty, Arr', Tail'}
use Rattle.gt_types.specs.declared.types.Ty.TheFolds.{fold-roll-Ty}
use Rattle.gt_types.specs.declared.types.Ty.TheOpen as part
use Rattle.gt_types.specs.declared.types.Ty.TheVariants.{rolls-Node}
use Rattle.gt_types.specs.declared.types.Ty.TheVariants as ty
use Rattle.gt_types.specs.declared.program.Structure.{Structure}
use Rattle.gt_types.specs.declared.program.Program.{Program}
use Rattle.gt_types.specs.Shapes.{innermost, innermost_step}
use Rattle.gt_types.specs.Contains.{HasStructure, ContainsStructure, Nests, once, deeper, ContainsAtDepth, held_by, itself}

pub some_is : {X : Type 0} (s t : X) → Some s ≡ Some t → s ≡ t
some_is s t e = cc

-- a number is that of one structure
pub same_structure : (program : Program) (node : TypeId) (s t : Structure) → HasStructure program node s → HasStructure program node t → s ≡ t
same_structure program node s t a b = some_is s t (sym a ∙ b)

other_node : (id node : TypeId) (desc : Option Expr) → Some id ≡ Some node → (own : Option Expr) × (ty.Node id desc ≡ ty.Node node own)
other_node id node desc e = (desc, ap (λ n. ty.Node n desc) (some_is id node e))

-- a type that is this structure
pub itself-node : (type : Ty) (node : TypeId) → itself type ≡ Some node → (desc : Option Expr) × (type ≡ ty.Node node desc)
itself-node (ty.Node id desc) node e = other_node id node desc e
itself-node (ty.Num scalar) node e = cc
itself-node (ty.Bits unit count) node e = cc
itself-node (ty.Opaque size align) node e = cc
itself-node (ty.Str count) node e = cc
itself-node (ty.Ptr target kind reorder) node e = cc
itself-node (Arr' n shape elem) node e = cc
itself-node (Tail' count shape elem) node e = cc

pub held-node : (type : Ty) (node : TypeId) (desc : Option Expr) → type ≡ ty.Node node desc → held_by type ≡ Some node
held-node type node desc same =
    ap held_by same ∙ ap itself (ap innermost (sym (rolls-Node node desc)) ∙ fold-roll-Ty Ty innermost_step (part.Node node desc))

-- ---- one inside another

-- one more of them, at the inner end
pub nests_more : (program : Program) {n : ℕ} {outer inner : TypeId} (next : TypeId) → Nests program n outer inner → ContainsStructure program inner next → Nests program (suc n) outer next
nests_more program next (once c) more = deeper c (once more)
nests_more program next (deeper c rest) more = deeper c (nests_more program next rest more)

pub nests_nests : (program : Program) {n m : ℕ} {outer middle inner : TypeId} → Nests program n outer middle → Nests program m middle inner → ContainsAtDepth program outer inner
nests_nests program {m = m} (once contains) inside = (suc m, deeper contains inside)
nests_nests program (deeper contains rest) inside =
    let found = nests_nests program rest inside in
    (suc found.0, deeper contains found.1)

pub nests_some : (program : Program) {n : ℕ} {outer inner : TypeId} → Nests program n outer inner → ¬ (n ≡ 0)
nests_some program (once c) e = cc
nests_some program (deeper c rest) e = cc
