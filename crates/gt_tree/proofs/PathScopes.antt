-- What an expression is worth in two scopes whose leaves hold the same numbers.
use Rattle.std.proofs.Common.{◌≡◌, ℕ, ◌+◌, IsTrue, List, refl, ap, sym, subst, ◌∙◌, Option, Some, None}
use Rattle.std.specs.Prelude.{Contains}
use Rattle.std.proofs.lemmas.List.Elements.{All-weaker}
use Rattle.gt_types.specs.declared.expressions.Base.TheVariants.{Here, Outer, Outermost}
use Rattle.gt_types.specs.declared.types.TypeId.{TypeId}
use Rattle.gt_types.specs.declared.types.Ty.TheVariants as ty
use Rattle.gt_types.specs.declared.program.Program.{Program}
use Rattle.gt_types.specs.Paths.{Way, paths_of, LeadsToNumber}
use Rattle.gt_types.specs.Values.{within_i64}
use Rattle.gt_types.specs.Settled.{Settled}
use Rattle.gt_layout.specs.declared.planes.Plane.{Plane}
use Rattle.gt_layout.specs.declared.planes.Layouts.{Layouts}
use Rattle.gt_layout.specs.Planes.{AreLaidOut, IsLaidOut}
use Rattle.gt_tree.specs.Trees.{Tree, tree_at}
use Rattle.gt_tree.specs.Scopes.{Held, Scope, ◌then◌, number_at, read_path, leaf_in, root_in}
use Rattle.gt_tree.specs.Leaves.{Leaf, leaf, Number}
use Rattle.gt_tree.specs.PathLaws.{number_width, has_room_in, ReadsLeaf, AgreeInNumbers, FitsWith, HoldAlike, neither, both, ScopesAlike, LeadsInScope, ReadingIsSame}
use Rattle.gt_tree.proofs.PathBits.{path-one}
use Rattle.gt_tree.proofs.PathReads.{reads-leaf}
use Rattle.gt_tree.proofs.PathNumbers.{same-typed, path-field}
use Rattle.gt_tree.proofs.PathExprs.{worth-same}

module _ (program : Program) (planes : List Plane) (settled : Settled program) where
  -- two readings of one path at one bit
  same-read : (node : TypeId) (steps : List (List ℕ)) (value other : Tree) (at : ℕ) (leaves others : List Leaf) → AgreeInNumbers leaves others → ReadsLeaf program planes node steps value at leaves
      → ReadsLeaf program planes node steps other at others → read_path program steps (ty.Node node None) value ≡ read_path program steps (ty.Node node None) other
  same-read node steps value other at leaves others agree a b =
      let one = path-one program planes settled a.path b.path in
      let there = subst (λ bit. Contains others (leaf (at + bit) (number_width b.type) (Number b.n))) (sym one.0) b.there in
      let like = subst (λ t. Contains others (leaf (at + a.bit) (number_width t) (Number b.n))) (sym one.1) there in
      let bits = agree (at + a.bit) (number_width a.type) a.n b.n a.there like in
      let same = same-typed a.type a.n b.n (path-field program planes settled a.path) a.room (subst (λ t. IsTrue (has_room_in t b.n)) (sym one.1) b.room) bits in
      a.read ∙ ap within_i64 same ∙ sym b.read

  module _ (laid : AreLaidOut program planes) where
    held-same : (held other : Held) (steps : List (List ℕ)) (at : ℕ) (leaves others : List Leaf) → held.node ≡ other.node → FitsWith program planes held.node held.value at leaves
        → FitsWith program planes other.node other.value at others → AgreeInNumbers leaves others → LeadsToNumber program held.node steps
        → read_path program steps (ty.Node held.node None) held.value ≡ read_path program steps (ty.Node other.node None) other.value
    held-same held other steps at leaves others e w v agree leads =
        let u = subst (λ n. FitsWith program planes n other.value at others) (sym e) v in
        same-read held.node steps held.value other.value at leaves others agree (reads-leaf program planes settled laid held.node steps held.value at leaves leads w)
        (reads-leaf program planes settled laid held.node steps other.value at others leads u)
        ∙ ap (λ n. read_path program steps (ty.Node n None) other.value) e

    base-same : {a b : Option Held} → HoldAlike program planes a b → (steps : List (List ℕ)) → ((held : Held) → a ≡ Some held → LeadsToNumber program held.node steps)
        → (a then λ held. read_path program steps (ty.Node held.node None) held.value) ≡ (b then λ held. read_path program steps (ty.Node held.node None) held.value)
    base-same neither steps leads = refl
    base-same (both {held} {other} {at} {leaves} {others} e w v agree) steps leads = held-same held other steps at leaves others e w v agree (leads held refl)

    leaf-same : (scope other : Scope) → ScopesAlike program planes scope other → (path : Way) → LeadsInScope program scope path → leaf_in program scope path.0 path.1 ≡ leaf_in program other path.0 path.1
    leaf-same scope other alike (Here, steps) leads = base-same alike.here steps leads
    leaf-same scope other alike (Outer, steps) leads = base-same alike.outer steps leads
    leaf-same scope other alike (Outermost, steps) leads = base-same alike.outermost steps leads

pub reading-same : (program : Program) (layouts : Layouts) → Settled program → IsLaidOut program layouts → ReadingIsSame program layouts
reading-same program layouts settled laid scope other e alike leads =
    worth-same (leaf_in program scope) (leaf_in program other) (root_in scope) (root_in other) (λ i. ap (λ trees. tree_at trees i then number_at) alike.statics) e
    (All-weaker (LeadsInScope program scope) (λ path. leaf_in program scope path.0 path.1 ≡ leaf_in program other path.0 path.1)
    (λ path. leaf-same program layouts.structures settled laid.structures scope other alike path) (paths_of e) leads)
