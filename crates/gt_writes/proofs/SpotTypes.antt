-- The type of a leaf, by the walk that leads to its spot, where each union around it has an active member.
use Rattle.std.proofs.Common.{◌≡◌, ℕ, Bool, true, cond, List, refl, ap, sym, subst, ◌∙◌, Option, Some, None}
use Rattle.std.specs.Prelude.{[], ◌∷◌, slice_get}
use Rattle.std.proofs.lemmas.Bool.{false≢true}
use Rattle.gt_types.specs.declared.expressions.Expr.{Expr}
use Rattle.gt_types.specs.declared.types.TypeId.{TypeId}
use Rattle.gt_types.specs.declared.types.Ty.{Ty, out-Ty}
use Rattle.gt_types.specs.declared.types.Ty.TheVariants as ty
use Rattle.gt_types.specs.declared.types.Ty.TheVariants.{outs-Node}
use Rattle.gt_types.specs.declared.program.Field.{Field}
use Rattle.gt_types.specs.declared.program.Structure.{Structure}
use Rattle.gt_types.specs.declared.program.Program.{Program}
use Rattle.gt_types.specs.Contains.{HasStructure}
use Rattle.gt_layout.specs.declared.planes.Plane.{Plane}
use Rattle.gt_tree.specs.Trees.{Tree, Rec, Alt, Row, part_at, with_part, with_part_of}
use Rattle.gt_tree.specs.Blocks.{Blocks}
use Rattle.gt_tree.specs.Scopes.{Scope, Typed, typed, inside, ◌then◌}
use Rattle.gt_tree.specs.Fits.{Fits}
use Rattle.gt_tree.proofs.Fitting.{fits-struct, fits-member, fits-array, fits-tail}
use Rattle.gt_tree.proofs.PathBegins.{same-number}
use Rattle.gt_tree.proofs.PathParts.{get-map}
use Rattle.gt_value.specs.declared.places.Holder.{Holder}
use Rattle.gt_value.specs.Places.{Part, PartLies}
use Rattle.gt_value.proofs.FindingSteps.{part-there}
use Rattle.gt_store.proofs.LeafParts.{all-fit-at, each-fit-at}
use Rattle.gt_leaf.proofs.PlainParts.{inactive}
use Rattle.gt_leaf.proofs.Swaps.{with-member}
use Rattle.gt_next.specs.Spots.{element_at, type_of_part, typed_part}
use Rattle.gt_writes.specs.Typing.{type_along}

-- ---- a walk by types and values

down : (a : Option Ty) (b : Option Tree) (x : Ty) (y : Tree) (f : Ty → Tree → Option Typed) (t : Typed) → a ≡ Some x → b ≡ Some y → (a then λ inner. b then λ part. f inner part) ≡ Some t → f x y ≡ Some t
down a b x y f t e g h = sym (ap (λ o. o then λ inner. b then λ part. f inner part) e ∙ ap (λ o. o then λ part. f x part) g) ∙ h

field-type : (program : Program) (node : TypeId) (desc : Option Expr) (s : Structure) (i : ℕ) (f : Field) → HasStructure program node s → slice_get s.fields i ≡ Some f → type_of_part program (ty.Node node desc) i ≡ Some f.ty
field-type program node desc s i f has got = ap (λ o. o then λ x. slice_get x.fields i then λ g. Some g.ty) has ∙ ap (λ o. o then λ g. Some g.ty) got

row-type : (program : Program) (type elem : Ty) (i : ℕ) → element_at (out-Ty type) ≡ Some elem → type_of_part program type i ≡ Some elem
row-type program (ty.Node node desc) elem i e = let o = ap element_at (outs-Node node desc) in absurd (cc)
row-type program type elem i e = e

-- the type to which a walk leads is that along its places
pub along-typed : (program : Program) (type : Ty) (tree : Tree) (path : List ℕ) (t : Typed) → typed_part program type tree path ≡ Some t → type_along program (Some type) path ≡ Some t.type
along-typed program type tree [] t e = let same : typed type tree ≡ t = cc in ap (λ x. Some x.type) same
along-typed program type tree (place ∷ path) t e = through (type_of_part program type place) (part_at tree (place ∷ [])) (λ inner part h. along-typed program inner part path t h) e
  where
    through : (a : Option Ty) (b : Option Tree) → ((inner : Ty) (part : Tree) → typed_part program inner part path ≡ Some t → type_along program (Some inner) path ≡ Some t.type)
        → (a then λ inner. b then λ part. typed_part program inner part path) ≡ Some t → type_along program a path ≡ Some t.type
    through None b on h = absurd (cc)
    through (Some inner) None on h = absurd (cc)
    through (Some inner) (Some part) on h = on inner part h

-- ---- the leaf in a value that fits

-- a leaf fits the type to which a walk leads
pub record FitsAs (program : Program) (blocks : Blocks) (capacity : ℕ) (type : Ty) (leaf : Tree) : Type 0 where
  pub scope : Scope
  pub fits : Fits program blocks capacity scope type leaf

module _ {program : Program} {planes : List Plane} {blocks : Blocks} {capacity : ℕ} where
  pub leaf-fits : {around : Scope} {h : Holder} {active : Bool} {bit : ℕ} {type : Ty} {tree : Tree} {path : List ℕ} {p : Part} → PartLies program planes around h active bit type tree path p → p.active ≡ true
      → (s : Scope) (leaf : Tree) → Fits program blocks capacity s type (with_part tree path leaf) → (t : Typed) → typed_part program type tree path ≡ Some t → FitsAs program blocks capacity t.type leaf
  leaf-fits {type} {tree} PartLies.whole on s leaf fits t e =
      let same : typed type tree ≡ t = cc in
      record { scope = s; fits = subst (λ (x : Typed). Fits program blocks capacity s x.type leaf) same fits }
  leaf-fits (PartLies.field {i} {node} {desc} {s = x} {f} {trees} {tree} {path} has struct laid got spot there lies) on s leaf fits t e =
      let all = fits-struct node desc x (with_part_of trees i path leaf) has fits in
      leaf-fits lies on (inside s node (Rec (with_part_of trees i path leaf))) leaf (all-fit-at _ trees i path leaf f.ty tree (get-map (λ (g : Field). g.ty) x.fields i f got) there all) t
      (down (type_of_part program (ty.Node node desc) i) (part_at (Rec trees) (i ∷ [])) f.ty tree (λ inner part. typed_part program inner part path) t (field-type program node desc x i f has got) (part-there trees i [] tree there) e)
  leaf-fits (PartLies.member {i} {node} {desc} {s = x} {f} {tree} {path} has union got lies) on s leaf fits t e =
      let new = subst (λ v. Fits program blocks capacity s (ty.Node node desc) v) (sym (with-member i tree path leaf)) fits in
      leaf-fits lies on (inside s node (Alt (Some i) (with_part tree path leaf))) leaf (fits-member node desc x i f (with_part tree path leaf) has got new) t
      (down (type_of_part program (ty.Node node desc) i) (part_at (Alt (Some i) tree) (i ∷ [])) f.ty tree (λ inner part. typed_part program inner part path) t (field-type program node desc x i f has got) (ap (λ b. cond b (Some tree) None) (same-number i)) e)
  leaf-fits (PartLies.common has common lies) on s leaf fits t e = absurd (false≢true (sym (inactive lies refl) ∙ on))
  leaf-fits (PartLies.array {i} {n} {type} {elem} {trees} {tree} {path} out there lies) on s leaf fits t e =
      leaf-fits lies on s leaf (each-fit-at trees i path leaf elem tree there (fits-array type elem n (with_part_of trees i path leaf) out fits).1) t
      (down (type_of_part program type i) (part_at (Row trees) (i ∷ [])) elem tree (λ inner part. typed_part program inner part path) t (row-type program type elem i (ap element_at out)) (part-there trees i [] tree there) e)
  leaf-fits (PartLies.tail {i} {length} {type} {elem} {trees} {tree} {path} out there lies) on s leaf fits t e =
      leaf-fits lies on s leaf (each-fit-at trees i path leaf elem tree there (fits-tail type elem length (with_part_of trees i path leaf) out fits).1) t
      (down (type_of_part program type i) (part_at (Row trees) (i ∷ [])) elem tree (λ inner part. typed_part program inner part path) t (row-type program type elem i (ap element_at out)) (part-there trees i [] tree there) e)
