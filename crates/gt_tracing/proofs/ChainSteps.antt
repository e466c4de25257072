-- The steps of a chain's path in a value, and that the pointer to which it leads is an edge of the value.
use Rattle.std.proofs.Common.{◌≡◌, ◌∙◌, ℕ, zero, suc, Bool, true, false, cond, List, [], ◌∷◌, ◌++◌, Option, Some, None, refl, sym, ap, subst}
use Rattle.std.specs.Prelude.{Contains, slice_get}
use Rattle.std.proofs.lemmas.Option.{none-some}
use Rattle.std.proofs.lemmas.List.Elements.{Contains-append_left, Contains-append_right}
use Rattle.gt_types.specs.declared.expressions.Expr.{Expr}
use Rattle.gt_types.specs.declared.types.TypeId.{TypeId}
use Rattle.gt_types.specs.declared.types.Ty.{Ty}
use Rattle.gt_types.specs.declared.types.Ty.TheVariants as ty
use Rattle.gt_types.specs.declared.program.Field.{Field}
use Rattle.gt_types.specs.declared.program.Structure.{Structure}
use Rattle.gt_types.specs.declared.program.Program.{Program}
use Rattle.gt_types.specs.Contains.{HasStructure}
use Rattle.gt_tree.specs.Trees.{Tree, Num, Null, To, Raw, Rec, Alt, Row, Trees, End, And, tree_at, edges, all_edges, without_pointers, all_without_pointers}
use Rattle.gt_tree.specs.Scopes.{Typed, typed, ◌then◌, beginning, beginning_of, field_of, first_type_of, is_of_node, member_of, type_there}
use Rattle.gt_graph.specs.Rounds.{chain_part, step_at, step_by}
use Rattle.gt_objects.proofs.Items.{first_there}
use Rattle.gt_tracing.proofs.Elements.{some_same}

pub then_some : {X Y : Type 0} (o : Option X) (f : X → Option Y) (y : Y) → (o then f) ≡ Some y → (x : X) × (o ≡ Some x) × (f x ≡ Some y)
then_some None f y e = absurd (none-some y e)
then_some (Some x) f y e = (x, refl, e)

-- ---- one step

-- a step in a struct leads to a field, and in a union to the structure with which its member begins
pub data Steps (program : Program) (place : ℕ) : Ty → Tree → Typed → Type 0 where
  in_struct : {node : TypeId} {desc : Option Expr} {s : Structure} {f : Field} {trees : Trees} {tree : Tree} → HasStructure program node s → s.is_union ≡ false → slice_get s.fields place ≡ Some f
      → tree_at trees place ≡ Some tree → Steps program place (ty.Node node desc) (Rec trees) (typed f.ty tree)
  in_union : {node common : TypeId} {desc own : Option Expr} {s : Structure} {f : Field} {member : Option ℕ} {tree part : Tree} → HasStructure program node s → s.is_union ≡ true → slice_get s.fields place ≡ Some f
      → f.ty ≡ ty.Node common own → beginning program common (type_there s common member) tree ≡ Some part → Steps program place (ty.Node node desc) (Alt member tree) (typed (ty.Node common own) part)

module _ (program : Program) (place : ℕ) where
  module _ (node : TypeId) (desc : Option Expr) (s : Structure) (has : HasStructure program node s) (f : Field) (at : slice_get s.fields place ≡ Some f) where
    field_step : s.is_union ≡ false → (tree : Tree) (next : Typed) → field_of f tree place ≡ Some next → Steps program place (ty.Node node desc) tree next
    field_step struct (Rec trees) next e =
        let found = then_some (tree_at trees place) (λ t. Some (typed f.ty t)) next e in
        subst (Steps program place (ty.Node node desc) (Rec trees)) (some_same (typed f.ty found.0) next found.2) (Steps.in_struct has struct at found.1)
    field_step struct tree next e = absurd (none-some next e)

    member_step : s.is_union ≡ true → (type : Ty) → f.ty ≡ type → (tree : Tree) (next : Typed) → member_of program s type tree ≡ Some next → Steps program place (ty.Node node desc) tree next
    member_step union (ty.Node common own) is (Alt member tree) next e =
        let found = then_some (beginning program common (type_there s common member) tree) (λ part. Some (typed (ty.Node common own) part)) next e in
        subst (Steps program place (ty.Node node desc) (Alt member tree)) (some_same (typed (ty.Node common own) found.0) next found.2) (Steps.in_union has union at is found.1)
    member_step union type is tree next e = absurd (none-some next e)

    union_step : (b : Bool) → s.is_union ≡ b → (tree : Tree) (next : Typed) → cond b (member_of program s f.ty tree) (field_of f tree place) ≡ Some next → Steps program place (ty.Node node desc) tree next
    union_step true union tree next e = member_step union f.ty refl tree next e
    union_step false struct tree next e = field_step struct tree next e

  pub step_is : (type : Ty) (tree : Tree) (next : Typed) → step_by program type place tree ≡ Some next → Steps program place type tree next
  step_is (ty.Node node desc) tree next e =
      let found = then_some (slice_get program.structures node.0) (λ s. step_at program s place tree) next e in
      let field = then_some (slice_get found.0.fields place) (λ f. cond found.0.is_union (member_of program found.0 f.ty tree) (field_of f tree place)) next found.2 in
      union_step node desc found.0 found.1 field.0 field.1 found.0.is_union refl tree next field.2
  step_is type tree next e = absurd (none-some next e)

-- the first step of a path, and the rest
pub first_step : (program : Program) (place : ℕ) (places : List ℕ) (type : Ty) (tree part : Tree) → chain_part program (place ∷ places) type tree ≡ Some part
    → (next : Typed) × Steps program place type tree next × (chain_part program places next.type next.value ≡ Some part)
first_step program place places type tree part e =
    let found = then_some (step_by program type place tree) (λ (next : Typed). chain_part program places next.type next.value) part e in
    (found.0, step_is program place type tree found.0 found.1, found.2)

-- ---- edges

-- an edge of a value at a place is one of all
edge_at : (trees : Trees) (i : ℕ) (tree : Tree) (id : ℕ) → tree_at trees i ≡ Some tree → Contains (edges tree) id → Contains (all_edges trees) id
edge_at End i tree id there has = absurd (cc)
edge_at (And first trees) zero tree id there has = Contains-append_left (edges first) (all_edges trees) id (subst (λ t. Contains (edges t) id) (sym (some_same first tree there)) has)
edge_at (And first trees) (suc i) tree id there has = Contains-append_right (edges first) (all_edges trees) id (edge_at trees i tree id there has)

-- what begins with a structure is it, or goes on with its first field
pub beginning_cases : (program : Program) (node : TypeId) (type : Option Ty) (trees : Trees) (part : Tree) → beginning program node type (Rec trees) ≡ Some part
    → (b : Bool) → is_of_node node type ≡ b → cond b (Some (Rec trees)) (beginning_of program node (first_type_of program type) trees) ≡ Some part
beginning_cases program node type trees part e b is = sym (ap (λ c. cond c (Some (Rec trees)) (beginning_of program node (first_type_of program type) trees)) is) ∙ e

pub leaf_begins : (b : Bool) (tree part : Tree) → cond b (Some tree) None ≡ Some part → (b ≡ true) × (tree ≡ part)
leaf_begins true tree part e = (refl, some_same tree part e)
leaf_begins false tree part e = absurd (none-some part e)

mutual
  pub begin_edges : (program : Program) (node : TypeId) (type : Option Ty) (tree part : Tree) (id : ℕ) → beginning program node type tree ≡ Some part → Contains (edges part) id → Contains (edges tree) id
  begin_edges program node type (Rec trees) part id e has = rec_edges program node type trees part id (is_of_node node type) (beginning_cases program node type trees part e (is_of_node node type) refl) has
  begin_edges program node type tree part id e has = subst (λ t. Contains (edges t) id) (sym (leaf_begins (is_of_node node type) tree part e).1) has

  rec_edges : (program : Program) (node : TypeId) (type : Option Ty) (trees : Trees) (part : Tree) (id : ℕ) (b : Bool) → cond b (Some (Rec trees)) (beginning_of program node (first_type_of program type) trees) ≡ Some part
      → Contains (edges part) id → Contains (all_edges trees) id
  rec_edges program node type trees part id true e has = subst (λ t. Contains (edges t) id) (sym (some_same (Rec trees) part e)) has
  rec_edges program node type End part id false e has = absurd (none-some part e)
  rec_edges program node type (And tree trees) part id false e has = Contains-append_left (edges tree) (all_edges trees) id (begin_edges program node (first_type_of program type) tree part id e has)

step_edge : {program : Program} {place : ℕ} {type : Ty} {tree : Tree} {next : Typed} (id : ℕ) → Steps program place type tree next → Contains (edges next.value) id → Contains (edges tree) id
step_edge {place} id (Steps.in_struct {trees} {tree = t} has struct at there) inner = edge_at trees place t id there inner
step_edge {program} id (Steps.in_union {common} {s} {member} {tree = t} {part} has union at is begins) inner = begin_edges program common (type_there s common member) t part id begins inner

-- the pointer to which a path leads is an edge
pub chain_edge : (program : Program) (path : List ℕ) (type : Ty) (tree : Tree) (id : ℕ) → chain_part program path type tree ≡ Some (To id) → Contains (edges tree) id
chain_edge program [] type tree id e = subst (λ t. Contains (edges t) id) (sym (some_same tree (To id) e)) (first_there id [])
chain_edge program (place ∷ places) type tree id e =
    let found = first_step program place places type tree (To id) e in
    step_edge id found.1 (chain_edge program places found.0.type found.0.value id found.2)

-- ---- values without pointers

mutual
  pub bare_edges : (tree : Tree) → edges (without_pointers tree) ≡ []
  bare_edges (Num n) = refl
  bare_edges Null = refl
  bare_edges (To id) = refl
  bare_edges (Raw bytes) = refl
  bare_edges (Rec trees) = bare_all trees
  bare_edges (Alt member tree) = bare_edges tree
  bare_edges (Row trees) = bare_all trees

  bare_all : (trees : Trees) → all_edges (all_without_pointers trees) ≡ []
  bare_all End = refl
  bare_all (And tree trees) = ap (λ es. es ++ all_edges (all_without_pointers trees)) (bare_edges tree) ∙ bare_all trees
