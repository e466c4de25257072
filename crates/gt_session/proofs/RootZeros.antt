-- There is a zero value of the static record.
use Rattle.std.proofs.Common.{◌≡◌, ℕ, zero, suc, ◌+◌, ◌≤◌, List, [], ◌∷◌, IsTrue, map, refl, ap, sym, subst, ◌∙◌, arith}
use Rattle.std.specs.Prelude.{All}
use Rattle.std.proofs.lemmas.List.Elements.{All-head, All-tail, All-weaker}
use Rattle.gt_types.specs.declared.types.Ty.{Ty, out-Ty}
use Rattle.gt_types.specs.declared.types.Ty.TheOpen as part
use Rattle.gt_types.specs.declared.types.Ty.TheVariants as ty
use Rattle.gt_types.specs.declared.types.Ty.TheVariants.{outs-Arr', outs-Tail'}
use Rattle.gt_types.specs.declared.program.Root.{Root}
use Rattle.gt_types.specs.declared.program.Program.{Program}
use Rattle.gt_types.specs.Shapes.{dimensions}
use Rattle.gt_types.specs.Settled.{IsRoot, Settled}
use Rattle.gt_layout.specs.Progress.{HoldsWithinDepth}
use Rattle.gt_tree.specs.Trees.{Tree, Row, Trees, End, And}
use Rattle.gt_tree.specs.Blocks.{Blocks}
use Rattle.gt_tree.specs.Fits.{IsZeroRecord}
use Rattle.gt_tree.proofs.Types.{Plain, Plain-elem, Plain-root, held-array, held-node, plain_at}
use Rattle.gt_value.specs.Noughts.{AreElements, AreNoughts, IsNought}
use Rattle.gt_value.proofs.Dimensions.{array-dimensions}
use Rattle.gt_value.proofs.NoughtFits.{noughts-fit, noughts-zero}
use Rattle.gt_value.proofs.ZeroSteps.{root-flat}
use Rattle.gt_value.proofs.ZeroValues.{root-held}
use Rattle.gt_held.proofs.Commons.{decide-common, get-there}
use Rattle.gt_held.proofs.NoughtsThere.{nought-there}

module _ (program : Program) (settled : Settled program) where
  -- there is a zero value of a type
  abbrev HasNought : Ty → Type 0
  HasNought type = (tree : Tree) × IsNought program 0 type tree

  elements-nought : (n : ℕ) (type : Ty) (tree : Tree) → IsNought program 0 type tree → (trees : Trees) × AreElements program 0 n type trees
  elements-nought zero type tree h = (End, AreElements.no_more)
  elements-nought (suc n) type tree h = let rest = elements-nought n type tree h in (And tree rest.0, AreElements.one_more h rest.1)

  -- a type, of which arrays have zero values
  shape-nought : (type : Ty) → Plain program type → HoldsWithinDepth program type 33 → ((elem : Ty) (n : ℕ) → out-Ty type ≡ part.Arr n elem → HasNought type) → HasNought type
  shape-nought (ty.Num scalar) plain shallow array = (_, IsNought.number)
  shape-nought (ty.Bits unit width) plain shallow array = (_, IsNought.bits)
  shape-nought (ty.Opaque size align) plain shallow array = (_, IsNought.opaque refl)
  shape-nought (ty.Str count) plain shallow array = (_, IsNought.null refl)
  shape-nought (ty.Ptr target kind reorder) plain shallow array = (_, IsNought.null refl)
  shape-nought (ty.Node node desc) plain shallow array =
      let held = held-node node desc in
      let found = get-there program.structures node.0 (shallow node held).0 in
      nought-there program settled (λ n s has. decide-common program settled n s has) 32 node desc (found.0, found.1, λ n inner nests. settled.depth n node inner nests, plain.whole node held)
  shape-nought (ty.Arr' n shape elem) plain shallow array = array _ n (outs-Arr' n shape elem)
  shape-nought (ty.Tail' count shape elem) plain shallow array = let o = ap plain_at (outs-Tail' count shape elem) in let s = plain.shape in absurd (cc)

  type-nought : (most : ℕ) (type : Ty) → Plain program type → HoldsWithinDepth program type 33 → dimensions type ≤ most → HasNought type
  type-nought zero type plain shallow flat =
      shape-nought type plain shallow (λ elem n e. let layer = array-dimensions type elem n e in absurd (let no : 1 ≤ 0 = omega (arith, layer, flat) in omega (arith, no)))
  type-nought (suc most) type plain shallow flat =
      shape-nought type plain shallow (λ elem n e.
      let layer = array-dimensions type elem n e in
      let one = type-nought most elem (Plain-elem program type elem n e plain) (λ node held. shallow node (held-array type elem n e ∙ held)) (omega (arith, layer, flat)) in
      let all = elements-nought n elem one.0 one.1 in
      (Row all.0, IsNought.array e all.1))

  root-nought : (r : Root) → IsRoot program r → HasNought r.ty
  root-nought r is = type-nought 4 r.ty (Plain-root program r.ty is.shape (λ node held. (is.whole node held).1)) (root-held program settled r is) (root-flat r.ty is.shape)

  roots-nought : (roots : List Root) → All (λ r. HasNought r.ty) roots → (trees : Trees) × AreNoughts program 0 (map (λ r. r.ty) roots) trees
  roots-nought [] all = (End, AreNoughts.none)
  roots-nought (r ∷ roots) all =
      let first = All-head (λ r. HasNought r.ty) r roots all in
      let rest = roots-nought roots (All-tail (λ r. HasNought r.ty) r roots all) in
      (And first.0 rest.0, AreNoughts.more first.1 rest.1)

  -- the zero values of the roots
  pub zero-record : (values : Trees) × ((blocks : Blocks) → IsZeroRecord program blocks values)
  zero-record =
      let all = roots-nought program.roots (All-weaker (IsRoot program) (λ r. HasNought r.ty) root-nought program.roots settled.roots) in
      (all.0, λ blocks. record { fits = noughts-fit program settled all.0 all.1 blocks; zero = noughts-zero all.1 })
