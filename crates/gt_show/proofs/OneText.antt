-- A value has at most one text.
use Rattle.std.proofs.Common.{◌≡◌, ℕ, List, [], ◌∷◌, ◌++◌, refl, sym, ap, ap₂, subst, ◌∙◌, Option, Some, None, ℤ}
use Rattle.std.specs.Prelude.{slice_get, codes}
use Rattle.std.specs.List.{flat_map}
use Rattle.gt_types.specs.declared.expressions.Expr.{Expr}
use Rattle.gt_types.specs.declared.types.TypeId.{TypeId}
use Rattle.gt_types.specs.declared.types.Ty.{Ty}
use Rattle.gt_types.specs.declared.types.Ty.TheVariants as ty
use Rattle.gt_types.specs.declared.program.Field.{Field}
use Rattle.gt_types.specs.declared.program.Structure.{Structure}
use Rattle.gt_types.specs.declared.program.Program.{Program}
use Rattle.gt_types.specs.Contains.{HasStructure}
use Rattle.gt_types.specs.Unions.{IsCommon}
use Rattle.gt_types.specs.Settled.{Settled}
use Rattle.gt_tree.specs.Trees.{Num, Null, To, Raw, Rec, Alt, Row, Tree, Trees, End, And}
use Rattle.gt_tree.specs.Blocks.{Block, Blocks}
use Rattle.gt_tree.proofs.Commons.{one-common}
use Rattle.gt_show.specs.Shown.{number_text, byte_text, target_text, joined, named, Shows, ShowFields, ShowEach}
use Rattle.gt_show.specs.Parts.{element_at, element_in}

module _ {program : Program} {blocks : Blocks} where
  inv-number : (type : Ty) (n : ℤ) (other : List ℕ) → Shows program blocks type (Num n) other → other ≡ number_text n
  inv-number type n other (Shows.number k) = refl

  inv-opaque : (type : Ty) (bytes other : List ℕ) → Shows program blocks type (Raw bytes) other → other ≡ codes "raw:" ++ flat_map byte_text bytes
  inv-opaque type bytes other Shows.opaque = refl

  inv-null : (type : Ty) (other : List ℕ) → Shows program blocks type Null other → other ≡ codes "null"
  inv-null type other (Shows.null p) = refl

  inv-to : (type : Ty) (id : ℕ) (b : Block) (other : List ℕ) → blocks id ≡ Some b → Shows program blocks type (To id) other → other ≡ target_text program type b
  inv-to type id b other e (Shows.to {b = c} p h) = let same : c ≡ b = cc in ap (target_text program type) same

  inv-struct : (node : TypeId) (desc : Option Expr) (s : Structure) (trees : Trees) (other : List ℕ) → HasStructure program node s → Shows program blocks (ty.Node node desc) (Rec trees) other
      → (texts : List (List ℕ)) × ShowFields program blocks s.fields trees texts × (other ≡ codes "{" ++ joined texts ++ codes "}")
  inv-struct node desc s trees other has (Shows.struct {s = t} {texts = texts} h u fields) =
      let same : t ≡ s = cc in
      (texts, subst (λ x. ShowFields program blocks x.fields trees texts) same fields, refl)

  inv-member : (node : TypeId) (desc : Option Expr) (s : Structure) (place : ℕ) (f : Field) (tree : Tree) (other : List ℕ) → HasStructure program node s → slice_get s.fields place ≡ Some f
      → Shows program blocks (ty.Node node desc) (Alt (Some place) tree) other → (text : List ℕ) × Shows program blocks f.ty tree text × (other ≡ named f.name (codes ":") text)
  inv-member node desc s place f tree other has get (Shows.member {s = t} {f = g} {text = text} h u got part) =
      let same : t ≡ s = cc in
      let there : slice_get s.fields place ≡ Some g = subst (λ x. slice_get x.fields place ≡ Some g) same got in
      let equal : g ≡ f = cc in
      (text, subst (λ x. Shows program blocks x.ty tree text) equal part, ap (λ x. named x.name (codes ":") text) equal)

  inv-common : (node common : TypeId) (desc : Option Expr) (s : Structure) (tree : Tree) (other : List ℕ) → Settled program → HasStructure program node s → IsCommon program s common
      → Shows program blocks (ty.Node node desc) (Alt None tree) other → (text : List ℕ) × Shows program blocks (ty.Node common None) tree text × (other ≡ codes "none:" ++ text)
  inv-common node common desc s tree other settled has c (Shows.common {common = common'} {s = t} {text = text} h u o part) =
      let same : t ≡ s = cc in
      let there : IsCommon program s common' = subst (λ x. IsCommon program x common') same o in
      (text, subst (λ n. Shows program blocks (ty.Node n None) tree text) (one-common program node s common' common settled has there c) part, refl)
  inv-common node common desc s tree other settled has c (Shows.nothing {s = t} h u none) =
      let same : s ≡ t = cc in
      absurd (none common (subst (λ x. IsCommon program x common) same c))

  inv-nothing : (node : TypeId) (desc : Option Expr) (s : Structure) (tree : Tree) (other : List ℕ) → HasStructure program node s → ((common : TypeId) → ¬ IsCommon program s common)
      → Shows program blocks (ty.Node node desc) (Alt None tree) other → other ≡ codes "none"
  inv-nothing node desc s tree other has none (Shows.common {common} {s = t} h u o part) =
      let same : t ≡ s = cc in
      absurd (none common (subst (λ x. IsCommon program x common) same o))
  inv-nothing node desc s tree other has none (Shows.nothing h u n) = refl

  inv-row : (type elem : Ty) (trees : Trees) (other : List ℕ) → element_in type ≡ Some elem → Shows program blocks type (Row trees) other
      → (texts : List (List ℕ)) × ShowEach program blocks elem trees texts × (other ≡ codes "[" ++ joined texts ++ codes "]")
  inv-row type elem trees other e (Shows.array {elem = elem'} {texts = texts} o each) =
      let is = ap element_at o in
      let same : elem' ≡ elem = cc in
      (texts, subst (λ t. ShowEach program blocks t trees texts) same each, refl)
  inv-row type elem trees other e (Shows.tail {elem = elem'} {texts = texts} o each) =
      let is = ap element_at o in
      let same : elem' ≡ elem = cc in
      (texts, subst (λ t. ShowEach program blocks t trees texts) same each, refl)

  inv-next : (f : Field) (fs : List Field) (tree : Tree) (trees : Trees) (other : List (List ℕ)) → ShowFields program blocks (f ∷ fs) (And tree trees) other
      → (text : List ℕ) × (texts : List (List ℕ)) × Shows program blocks f.ty tree text × ShowFields program blocks fs trees texts × (other ≡ named f.name (codes "=") text ∷ texts)
  inv-next f fs tree trees other (ShowFields.next_field {text = text} {texts = texts} part rest) = (text, texts, part, rest, refl)

  inv-none : (other : List (List ℕ)) → ShowFields program blocks [] End other → other ≡ []
  inv-none other ShowFields.no_field = refl

  inv-one : (type : Ty) (tree : Tree) (trees : Trees) (other : List (List ℕ)) → ShowEach program blocks type (And tree trees) other
      → (text : List ℕ) × (texts : List (List ℕ)) × Shows program blocks type tree text × ShowEach program blocks type trees texts × (other ≡ text ∷ texts)
  inv-one type tree trees other (ShowEach.one_more {text = text} {texts = texts} part rest) = (text, texts, part, rest, refl)

  inv-end : (type : Ty) (other : List (List ℕ)) → ShowEach program blocks type End other → other ≡ []
  inv-end type other ShowEach.no_more = refl

module _ (program : Program) (blocks : Blocks) (settled : Settled program) where
  mutual
    pub one-text : {type : Ty} {tree : Tree} {text : List ℕ} (other : List ℕ) → Shows program blocks type tree text → Shows program blocks type tree other → text ≡ other
    one-text other (Shows.number {type} {n} k) d = sym (inv-number type n other d)
    one-text other (Shows.opaque {size} {align} {bytes}) d = sym (inv-opaque (ty.Opaque size align) bytes other d)
    one-text other (Shows.null {type} p) d = sym (inv-null type other d)
    one-text other (Shows.to {type} {id} {b} p e) d = sym (inv-to type id b other e d)
    one-text other (Shows.struct {node} {desc} {s} {trees} {texts} has u fields) d =
        let found = inv-struct node desc s trees other has d in
        ap (λ (xs : List (List ℕ)). codes "{" ++ joined xs ++ codes "}") (one-fields found.0 fields found.1) ∙ sym found.2
    one-text other (Shows.member {node} {desc} {s} {place} {f} {tree} {text} has u get part) d =
        let found = inv-member node desc s place f tree other has get d in
        ap (named f.name (codes ":")) (one-text found.0 part found.1) ∙ sym found.2
    one-text other (Shows.common {node} {common} {desc} {s} {tree} {text} has u c part) d =
        let found = inv-common node common desc s tree other settled has c d in
        ap (λ (xs : List ℕ). codes "none:" ++ xs) (one-text found.0 part found.1) ∙ sym found.2
    one-text other (Shows.nothing {node} {desc} {s} has u none) d = sym (inv-nothing node desc s (Rec End) other has none d)
    one-text other (Shows.array {type} {elem} {n} {trees} {texts} o each) d =
        let found = inv-row type elem trees other (ap element_at o) d in
        ap (λ (xs : List (List ℕ)). codes "[" ++ joined xs ++ codes "]") (one-each found.0 each found.1) ∙ sym found.2
    one-text other (Shows.tail {type} {elem} {length} {trees} {texts} o each) d =
        let found = inv-row type elem trees other (ap element_at o) d in
        ap (λ (xs : List (List ℕ)). codes "[" ++ joined xs ++ codes "]") (one-each found.0 each found.1) ∙ sym found.2

    pub one-fields : {fields : List Field} {trees : Trees} {texts : List (List ℕ)} (other : List (List ℕ)) → ShowFields program blocks fields trees texts → ShowFields program blocks fields trees other → texts ≡ other
    one-fields other ShowFields.no_field d = sym (inv-none other d)
    one-fields other (ShowFields.next_field {f} {fs} {tree} {trees} {text} {texts} part rest) d =
        let found = inv-next f fs tree trees other d in
        ap₂ (λ (x : List ℕ) (xs : List (List ℕ)). named f.name (codes "=") x ∷ xs) (one-text found.0 part found.2) (one-fields found.1 rest found.3) ∙ sym found.4

    pub one-each : {type : Ty} {trees : Trees} {texts : List (List ℕ)} (other : List (List ℕ)) → ShowEach program blocks type trees texts → ShowEach program blocks type trees other → texts ≡ other
    one-each other (ShowEach.no_more {type}) d = sym (inv-end type other d)
    one-each other (ShowEach.one_more {type} {tree} {trees} {text} {texts} part rest) d =
        let found = inv-one type tree trees other d in
        ap₂ (λ (x : List ℕ) (xs : List (List ℕ)). x ∷ xs) (one-text found.0 part found.2) (one-each found.1 rest found.3) ∙ sym found.4
