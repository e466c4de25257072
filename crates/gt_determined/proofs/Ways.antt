-- The way from a value to the structure with which it begins.
use Rattle.std.proofs.Common.{◌≡◌, ℕ, Bool, true, false, cond, List, [], ◌∷◌, refl, ap, sym, subst, ◌∙◌, Option, Some, None}
use Rattle.std.specs.Prelude.{◌==◌, slice_get, option_map}
use Rattle.gt_types.specs.declared.expressions.Expr.{Expr}
use Rattle.gt_types.specs.declared.types.TypeId.{TypeId}
use Rattle.gt_types.specs.declared.types.Ty.{Ty}
use Rattle.gt_types.specs.declared.types.Ty.TheVariants as ty
use Rattle.gt_types.specs.declared.program.Field.{Field}
use Rattle.gt_types.specs.declared.program.Structure.{Structure}
use Rattle.gt_types.specs.declared.program.Program.{Program}
use Rattle.gt_types.specs.Contains.{HasStructure}
use Rattle.gt_types.specs.Unions.{BeginsWith, is_it, by_first}
use Rattle.gt_tree.specs.Trees.{Tree, Num, Null, To, Raw, Rec, Alt, Row, Trees, And}
use Rattle.gt_tree.specs.Scopes.{Scope, inside, Typed, typed, ◌then◌, is_of_node, first_type, first_field_type, type_of_field}
use Rattle.gt_tree.specs.Fits.{Fits, AllFit, types_of}
use Rattle.gt_tree.proofs.FixedParts.{is-struct, is-more}
use Rattle.gt_tree.proofs.PathBegins.{same-number}
use Rattle.gt_graph.specs.Objects.{Graph, blocks_of}
use Rattle.gt_next.specs.Spots.{typed_part, type_of_part}
use Rattle.gt_next.specs.Paths.{way_to, way_on}
use Rattle.gt_determined.proofs.Parts.{FitsIn, part-one}

-- a way leads from a value to a part, which fits
pub record HasWay (program : Program) (g : Graph) (node : TypeId) (type : Ty) (tree : Tree) : Type 0 where
  pub way : List ℕ
  pub next : Typed
  pub found : way_to program node (Some type) tree ≡ Some way
  pub leads : typed_part program type tree way ≡ Some next
  pub fits : FitsIn program g next

way-self : (program : Program) (node : TypeId) (type : Ty) (tree : Tree) → is_of_node node (Some type) ≡ true → way_to program node (Some type) tree ≡ Some []
way-self program node type (Num n) e = ap (λ b. cond b (Some []) None) e
way-self program node type Null e = ap (λ b. cond b (Some []) None) e
way-self program node type (To id) e = ap (λ b. cond b (Some []) None) e
way-self program node type (Raw bytes) e = ap (λ b. cond b (Some []) None) e
way-self program node type (Rec trees) e = ap (λ b. cond b (Some []) (way_on program node (first_type program type) trees)) e
way-self program node type (Alt member tree) e = ap (λ b. cond b (Some []) None) e
way-self program node type (Row trees) e = ap (λ b. cond b (Some []) None) e

-- the type of the first field
first-field : (program : Program) (outer : TypeId) (desc : Option Expr) (s : Structure) (f : Field) (fs : List Field) → HasStructure program outer s → s.fields ≡ f ∷ fs → first_type program (ty.Node outer desc) ≡ Some f.ty
first-field program outer desc s f fs has e = ap first_field_type has ∙ ap (λ xs. type_of_field (slice_get xs 0)) e

field-type : (program : Program) (outer : TypeId) (desc : Option Expr) (s : Structure) (f : Field) (fs : List Field) → HasStructure program outer s → s.fields ≡ f ∷ fs → type_of_part program (ty.Node outer desc) 0 ≡ Some f.ty
field-type program outer desc s f fs has e = ap (λ o. o then (λ x. slice_get x.fields 0 then (λ y. Some y.ty))) has ∙ ap (λ xs. slice_get xs 0 then (λ y. Some y.ty)) e

module _ (program : Program) (g : Graph) (outer node : TypeId) (desc : Option Expr) (s : Structure) (f : Field) (fs : List Field) (has : HasStructure program outer s) (e : s.fields ≡ f ∷ fs) where
  longer : (first : Tree) (rest : Trees) → FitsIn program g (typed (ty.Node outer desc) (Rec (And first rest))) → HasWay program g node f.ty first → HasWay program g node (ty.Node outer desc) (Rec (And first rest))
  longer first rest whole inner = go (node.0 == outer.0) refl
    where
      go : (b : Bool) → (node.0 == outer.0) ≡ b → HasWay program g node (ty.Node outer desc) (Rec (And first rest))
      go true same = record { way = []; next = typed (ty.Node outer desc) (Rec (And first rest)); found = way-self program node (ty.Node outer desc) (Rec (And first rest)) same; leads = refl; fits = whole }
      go false other = record {
        way = 0 ∷ inner.way;
        next = inner.next;
        found = ap (λ b. cond b (Some []) (way_on program node (first_type program (ty.Node outer desc)) (And first rest))) other
            ∙ ap (λ t. option_map (λ way. 0 ∷ way) (way_to program node t first)) (first-field program outer desc s f fs has e)
            ∙ ap (option_map (λ way. 0 ∷ way)) inner.found;
        leads = part-one program (ty.Node outer desc) f.ty (Rec (And first rest)) first 0 inner.way (field-type program outer desc s f fs has e) refl ∙ inner.leads;
        fits = inner.fits;
      }

pub has-way : {program : Program} {type : Ty} {node : TypeId} → BeginsWith program type node → (g : Graph) (capacity : ℕ) (scope : Scope) (tree : Tree) → Fits program (blocks_of g.objects) capacity scope type tree
    → HasWay program g node type tree
has-way {program} (is_it {node} {desc}) g capacity scope tree fits =
    record { way = []; next = typed (ty.Node node desc) tree; found = way-self program node (ty.Node node desc) tree (same-number node.0); leads = refl; fits = record { capacity = capacity; scope = scope; fits = fits } }
has-way {program} (by_first {outer} {node} {desc} {s} {f} {fs} has struct e rest) g capacity scope tree fits =
    let p = is-struct outer desc s tree has struct fits in
    let all : AllFit program (blocks_of g.objects) capacity (inside scope outer (Rec p.0)) (f.ty ∷ types_of fs) p.0 = subst (λ xs. AllFit program (blocks_of g.objects) capacity (inside scope outer (Rec p.0)) (types_of xs) p.0) e p.2 in
    let q = is-more f.ty (types_of fs) p.0 all in
    let row : tree ≡ Rec (And q.0 q.1) = p.1 ∙ ap Rec q.2 in
    subst (λ t. HasWay program g node (ty.Node outer desc) t) (sym row)
    (longer program g outer node desc s f fs has e q.0 q.1
    (record { capacity = capacity; scope = scope; fits = subst (λ t. Fits program (blocks_of g.objects) capacity scope (ty.Node outer desc) t) row fits })
    (has-way rest g capacity (inside scope outer (Rec p.0)) q.0 q.3))
