-- A part of a value by its places is the part to which a walk by types and values leads.
use Rattle.std.proofs.Common.{◌≡◌, ℕ, List, [], ◌∷◌, ◌++◌, Bool, cond, refl, ap, sym, ◌∙◌, Option, Some, None}
use Rattle.std.specs.Prelude.{slice_get}
use Rattle.gt_types.specs.declared.expressions.Expr.{Expr}
use Rattle.gt_types.specs.declared.types.TypeId.{TypeId}
use Rattle.gt_types.specs.declared.types.Ty.{Ty, out-Ty}
use Rattle.gt_types.specs.declared.types.Ty.TheVariants as ty
use Rattle.gt_types.specs.declared.types.Ty.TheVariants.{outs-Node}
use Rattle.gt_types.specs.declared.program.Field.{Field}
use Rattle.gt_types.specs.declared.program.Structure.{Structure}
use Rattle.gt_types.specs.declared.program.Program.{Program}
use Rattle.gt_types.specs.Contains.{HasStructure}
use Rattle.gt_layout.specs.declared.planes.Plane.{Plane}
use Rattle.gt_tree.specs.Trees.{Tree, Rec, Alt, Row, part_at}
use Rattle.gt_tree.specs.Scopes.{Scope, Typed, typed, ◌then◌}
use Rattle.gt_tree.proofs.PathBegins.{same-number}
use Rattle.gt_value.specs.declared.places.Holder.{Holder}
use Rattle.gt_value.specs.Places.{Part, PartLies}
use Rattle.gt_value.proofs.FindingSteps.{part-there}
use Rattle.gt_next.specs.Spots.{element_at, type_of_part, typed_part}

through : (a : Option Ty) (b : Option Tree) (f g : Ty → Tree → Option Typed) (t : Typed) (r : Option Typed) → ((inner : Ty) (part : Tree) → f inner part ≡ Some t → g inner part ≡ r)
    → (a then λ inner. b then λ part. f inner part) ≡ Some t → (a then λ inner. b then λ part. g inner part) ≡ r
through None b f g t r h e = absurd (cc)
through (Some inner) None f g t r h e = absurd (cc)
through (Some inner) (Some part) f g t r h e = h inner part e

-- a walk along two paths, one after the other
pub typed-after : (program : Program) (type : Ty) (tree : Tree) (path rest : List ℕ) (t : Typed) → typed_part program type tree path ≡ Some t → typed_part program type tree (path ++ rest) ≡ typed_part program t.type t.value rest
typed-after program type tree [] rest t e = let same : typed type tree ≡ t = cc in ap (λ x. typed_part program x.type x.value rest) same
typed-after program type tree (place ∷ path) rest t e =
    through (type_of_part program type place) (part_at tree (place ∷ [])) (λ inner part. typed_part program inner part path) (λ inner part. typed_part program inner part (path ++ rest)) t
    (typed_part program t.type t.value rest) (λ inner part h. typed-after program inner part path rest t h) e

both : (a : Option Ty) (b : Option Tree) (x : Ty) (y : Tree) → a ≡ Some x → b ≡ Some y → (a then λ inner. b then λ part. Some (typed inner part)) ≡ Some (typed x y)
both a b x y e f = ap (λ o. o then λ inner. b then λ part. Some (typed inner part)) e ∙ ap (λ o. o then λ part. Some (typed x part)) f

pub field-type : (program : Program) (node : TypeId) (desc : Option Expr) (s : Structure) (i : ℕ) (f : Field) → HasStructure program node s → slice_get s.fields i ≡ Some f → type_of_part program (ty.Node node desc) i ≡ Some f.ty
field-type program node desc s i f has got = ap (λ o. o then λ x. slice_get x.fields i then λ g. Some g.ty) has ∙ ap (λ o. o then λ g. Some g.ty) got

row-type : (program : Program) (type elem : Ty) (i : ℕ) → element_at (out-Ty type) ≡ Some elem → type_of_part program type i ≡ Some elem
row-type program (ty.Node node desc) elem i e = let o = ap element_at (outs-Node node desc) in absurd (cc)
row-type program type elem i e = e

-- what a walk of one place has found
pub typed-one : (a : Option Ty) (b : Option Tree) (x : Ty) (t : Typed) → a ≡ Some x → (a then λ inner. b then λ part. Some (typed inner part)) ≡ Some t → (t.type ≡ x) × (b ≡ Some t.value)
typed-one None b x t e h = absurd (cc)
typed-one (Some inner) None x t e h = absurd (cc)
typed-one (Some inner) (Some part) x t e h =
    let whole : typed inner part ≡ t = cc in
    let same : inner ≡ x = cc in
    (sym (ap (λ y. y.type) whole) ∙ same, ap (λ y. Some y.value) whole)

-- a member of a union without an active one has the type of its common structure
abbrev pub IsNamedIn : Program → Ty → Tree → ℕ → Ty → Type 0
IsNamedIn program (ty.Node node desc) (Alt None tree) i type = type_of_part program (ty.Node node desc) i ≡ Some type
IsNamedIn program type tree i kind = Unit {0}

as-typed : {type : Ty} {tree : Tree} (p : Part) (r : Option Typed) → (type ≡ p.type) × (tree ≡ p.tree) → r ≡ Some (typed type tree) → r ≡ Some (typed p.type p.tree)
as-typed {type} {tree} p r e h = h ∙ ap (λ t. Some (typed t tree)) e.0 ∙ ap (λ v. Some (typed p.type v)) e.1

module _ {program : Program} {planes : List Plane} where
  pub whole-is : {scope : Scope} {holder : Holder} {active : Bool} {at : ℕ} {type : Ty} {tree : Tree} {p : Part} → PartLies program planes scope holder active at type tree [] p → (type ≡ p.type) × (tree ≡ p.tree)
  whole-is PartLies.whole = (refl, refl)

  pub whole-active : {scope : Scope} {holder : Holder} {active : Bool} {at : ℕ} {type : Ty} {tree : Tree} {p : Part} → PartLies program planes scope holder active at type tree [] p → p.active ≡ active
  whole-active PartLies.whole = refl

  -- the part at one place is that of its type
  pub one-typed : {scope : Scope} {holder : Holder} {active : Bool} {at : ℕ} {type : Ty} {tree : Tree} {place : ℕ} {p : Part} → PartLies program planes scope holder active at type tree (place ∷ []) p
      → IsNamedIn program type tree place p.type → typed_part program type tree (place ∷ []) ≡ Some (typed p.type p.tree)
  one-typed {p} (PartLies.field {i} {node} {desc} {s} {f} {trees} {tree} has struct laid got spot there lies) named =
      as-typed p _ (whole-is lies) (both (type_of_part program (ty.Node node desc) i) (part_at (Rec trees) (i ∷ [])) f.ty tree (field-type program node desc s i f has got) (part-there trees i [] tree there))
  one-typed {p} (PartLies.member {i} {node} {desc} {s} {f} {tree} has union got lies) named =
      as-typed p _ (whole-is lies) (both (type_of_part program (ty.Node node desc) i) (part_at (Alt (Some i) tree) (i ∷ [])) f.ty tree (field-type program node desc s i f has got) (ap (λ b. cond b (Some tree) None) (same-number i)))
  one-typed {p} (PartLies.common {i} {node} {common} {desc} {tree} has c lies) named =
      let whole = whole-is lies in
      both (type_of_part program (ty.Node node desc) i) (part_at (Alt None tree) (i ∷ [])) p.type p.tree named (ap Some whole.1)
  one-typed {p} (PartLies.array {i} {type} {elem} {trees} {tree} out there lies) named =
      as-typed p _ (whole-is lies) (both (type_of_part program type i) (part_at (Row trees) (i ∷ [])) elem tree (row-type program type elem i (ap element_at out)) (part-there trees i [] tree there))
  one-typed {p} (PartLies.tail {i} {type} {elem} {trees} {tree} out there lies) named =
      as-typed p _ (whole-is lies) (both (type_of_part program type i) (part_at (Row trees) (i ∷ [])) elem tree (row-type program type elem i (ap element_at out)) (part-there trees i [] tree there))
