-- Zero of an element of a block, and of the static record.
use Rattle.std.proofs.Common.{◌≡◌, ℕ, ◌<◌, ◌≤◌, List, length, get_or, take, map, ap, sym, subst, ◌∙◌, arith, Option, Some, None, Ok, Err}
use Rattle.std.specs.Prelude.{All, false, slice_get, IfOk}
use Rattle.std.proofs.lemmas.Option.{slice_get_within}
use Rattle.std.proofs.lemmas.List.{take_all}
use Rattle.std.proofs.lemmas.List.Elements.{All-get_or}
use Rattle.gt_types.specs.declared.expressions.Expr.{Expr}
use Rattle.gt_types.specs.declared.types.TypeId.{TypeId}
use Rattle.gt_types.specs.declared.types.Scalar.TheVariants as scalar
use Rattle.gt_types.specs.declared.types.Width.TheVariants.{W1}
use Rattle.gt_types.specs.declared.types.Target.TheVariants as target
use Rattle.gt_types.specs.declared.types.PtrKind.TheVariants as pointer
use Rattle.gt_types.specs.declared.types.Ty.{Ty}
use Rattle.gt_types.specs.declared.types.Ty.TheVariants as ty
use Rattle.gt_types.specs.declared.types.Ty.TheVariants.{outs-Num, outs-Str, outs-Ptr}
use Rattle.gt_types.specs.declared.program.Root.{Root}
use Rattle.gt_types.specs.declared.program.Program.{Program}
use Rattle.gt_types.specs.Shapes.{innermost, dimensions}
use Rattle.gt_types.specs.Contains.{itself}
use Rattle.gt_types.specs.Settled.{Settled, IsRoot, IsDescOfRoot, NamesDescribed}
use Rattle.gt_layout.specs.Progress.{IsWithinDepth, HoldsWithinDepth}
use Rattle.gt_tree.specs.Trees.{Tree, Trees}
use Rattle.gt_tree.specs.Blocks.{Kind, Nodes, Pointers, Strings, Chars, Raw, Blocks, desc_of, element_type}
use Rattle.gt_tree.specs.Scopes.{outside}
use Rattle.gt_tree.specs.Fits.{IsZeroOf, IsZeroRecord, root_types}
use Rattle.gt_tree.specs.FixedLaws.{MayHold}
use Rattle.gt_tree.proofs.Types.{held-node}
use Rattle.gt_tree.proofs.PathParts.{get-map}
use Rattle.gt_tree.proofs.FixedScopes.{innermost-layer}
use Rattle.gt_value.specs.Bytes.{IsElement}
use Rattle.gt_value.specs.Noughts.{IsNought, AreNoughts}
use Rattle.gt_value.proofs.Standing.{Stands}
use Rattle.gt_value.proofs.NoughtReads.{nought-at}
use Rattle.gt_value.proofs.NoughtFits.{nought-zero, noughts-zero, nought-fits, fits-nought, noughts-fit, fit-noughts}
use Rattle.gt_value.proofs.ZeroSteps.{root-flat}

-- ---- what an element of a block holds

deep : (program : Program) → Settled program → (node : TypeId) → IsWithinDepth program node.0 32
deep program settled node n inner nests = settled.depth n node inner nests

kind-held : (program : Program) → Settled program → (kind : Kind) → MayHold program kind → HoldsWithinDepth program (element_type program kind) 33
kind-held program settled (Nodes node) may inner e =
    let same = held-node node (desc_of (slice_get program.structures node.0)) in
    let equal : node ≡ inner = cc in
    (subst (λ n. n.0 < length program.structures) equal (slice_get_within program.structures node.0 may.0 may.1), omega arith, deep program settled inner)
kind-held program settled (Pointers node) may inner e = let none = ap itself (innermost-layer (element_type program (Pointers node)) _ (outs-Ptr (Some (target.Node node)) pointer.Plain false)) in absurd (cc)
kind-held program settled Strings may inner e = let none = ap itself (innermost-layer (ty.Str None) _ (outs-Str None)) in absurd (cc)
kind-held program settled Chars may inner e = let none = ap itself (innermost-layer (ty.Num (scalar.Int W1 false)) _ (outs-Num (scalar.Int W1 false))) in absurd (cc)
kind-held program settled Raw may inner e = let none = ap itself (innermost-layer (ty.Num (scalar.Int W1 false)) _ (outs-Num (scalar.Int W1 false))) in absurd (cc)

pub element-held : (program : Program) → Settled program → (type : Ty) → IsElement program type → HoldsWithinDepth program type 33
element-held program settled type e = subst (λ t. HoldsWithinDepth program t 33) (sym e.2) (kind-held program settled e.0 e.1)

element-stands : (program : Program) (statics : Trees) (type : Ty) → IsElement program type → Stands program statics (outside statics) type
element-stands program statics type e = subst (Stands program statics (outside statics)) (sym e.2) (Stands.at_block e.0 e.1)

pub element-zero : (program : Program) → Settled program → (capacity : ℕ) (type : Ty) (tree : Tree) → IsElement program type → IsNought program capacity type tree → (blocks : Blocks) (statics : Trees) → IsZeroOf program blocks statics capacity type tree
element-zero program settled capacity type tree e h blocks statics =
    record { fits = nought-fits program capacity settled statics blocks h (outside statics) (element-stands program statics type e); zero = nought-zero h }

pub element-nought : (program : Program) → Settled program → (capacity : ℕ) (type : Ty) (tree : Tree) → IsElement program type → (blocks : Blocks) (statics : Trees) → IsZeroOf program blocks statics capacity type tree → IsNought program capacity type tree
element-nought program settled capacity type tree e blocks statics z = fits-nought program capacity settled statics blocks z.fits z.zero (element-stands program statics type e)

pub weaker : {X E : Type 0} (P Q : X → Type 0) (r : _) → ((x : X) → P x → Q x) → IfOk {E = E} r P → IfOk {E = E} r Q
weaker P Q (Ok x) f h = f x h
weaker P Q (Err e) f h = tt

-- ---- roots

itself-node : (type : Ty) (node : TypeId) → itself type ≡ Some node → (desc : Option Expr) × (type ≡ ty.Node node desc)
itself-node (ty.Node other desc) node e = let same : other ≡ node = cc in (desc, ap (λ n. ty.Node n desc) same)
itself-node type node e = absurd (cc)

pub root-held : (program : Program) → Settled program → (r : Root) → IsRoot program r → HoldsWithinDepth program r.ty 33
root-held program settled r is node e =
    let found = itself-node (innermost r.ty) node e in
    let named = subst (NamesDescribed program (IsDescOfRoot program)) found.1 is.names.described in
    (slice_get_within program.structures node.0 named.0 named.1, omega arith, deep program settled node)

pub root-fits : (program : Program) → Settled program → (roots : List Root) (i : ℕ) (r : Root) → roots ≡ program.roots → i < length roots → r ≡ get_or roots i r → HoldsWithinDepth program r.ty 33 × (dimensions r.ty ≤ 4)
root-fits program settled roots i r items lt is =
    let good : IsRoot program r = subst (IsRoot program) (sym is) (All-get_or (IsRoot program) roots i r lt (subst (All (IsRoot program)) (sym items) settled.roots)) in
    (root-held program settled r good, root-flat r.ty good.shape)

pub record-zero : (program : Program) → Settled program → (roots : List Root) (i : ℕ) (values : Trees) → roots ≡ program.roots → length roots ≤ i → AreNoughts program 0 (map (λ (r : Root). r.ty) (take i roots)) values
    → (blocks : Blocks) → IsZeroRecord program blocks values
record-zero program settled roots i values items le h blocks =
    let whole : take i roots ≡ program.roots = take_all i roots le ∙ items in
    let all : AreNoughts program 0 (root_types program) values = subst (λ rs. AreNoughts program 0 (map (λ (r : Root). r.ty) rs) values) whole h in
    record { fits = noughts-fit program settled values all blocks; zero = noughts-zero all }

pub record-part : (program : Program) → Settled program → (roots : List Root) (i : ℕ) (r : Root) → roots ≡ program.roots → slice_get roots i ≡ Some r → (blocks : Blocks) (values : Trees) → IsZeroRecord program blocks values
    → (tree : Tree) × IsNought program 0 r.ty tree
record-part program settled roots i r items got blocks values z =
    let all = fit-noughts program settled blocks values z.fits z.zero in
    let there : slice_get program.roots i ≡ Some r = subst (λ rs. slice_get rs i ≡ Some r) items got in
    let found = nought-at all i r.ty (get-map (λ (x : Root). x.ty) program.roots i r there) in
    (found.0, found.2)
