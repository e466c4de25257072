-- What a value that fits says of its type and of its parts.
use Rattle.std.proofs.Common.{◌≡◌, ℕ, zero, suc, inl, inr, IsTrue, true, false, List, [], ◌∷◌, Option, Some, None, length, refl, ap, sym, subst, ◌∙◌, ℤ}
use Rattle.std.specs.Prelude.{slice_get}
use Rattle.gt_types.specs.declared.expressions.Expr.{Expr}
use Rattle.gt_types.specs.declared.types.TypeId.{TypeId}
use Rattle.gt_types.specs.declared.types.Target.TheVariants as target
use Rattle.gt_types.specs.declared.types.PtrKind.TheVariants as kind
use Rattle.gt_types.specs.declared.types.Ty.{Ty}
use Rattle.gt_types.specs.declared.types.Ty.TheVariants as ty
use Rattle.gt_types.specs.declared.program.Field.{Field}
use Rattle.gt_types.specs.declared.program.Structure.{Structure}
use Rattle.gt_types.specs.declared.program.Program.{Program}
use Rattle.gt_types.specs.Shapes.{is_number, is_pointer}
use Rattle.gt_types.specs.Contains.{HasStructure}
use Rattle.gt_types.specs.Unions.{IsPlainStruct}
use Rattle.gt_tree.specs.Trees.{Tree, Num, Null, To, Raw, Rec, Alt, Row, Trees}
use Rattle.gt_tree.specs.Blocks.{Chars, Block, Blocks, MayName}
use Rattle.gt_tree.specs.Scopes.{Scope, inside, eval_in}
use Rattle.gt_tree.specs.Fits.{Fits, AllFit, EachFits, types_of}
use Rattle.gt_value.specs.Values.{trees}
use Rattle.gt_show.specs.Parts.{structure_in, element_at, element_in, FitsSomewhere, AllFitSomewhere, EachFitsSomewhere, MemberFits, CommonFits, MayPoint}

-- ---- blocks

-- a block is there that a pointer may name, and the type is that of a pointer
pub named-block : (blocks : Blocks) (value : Expr → Option ℤ) (type : Ty) (id : ℕ) → MayName blocks value type id → IsTrue (is_pointer type) × ((b : Block) × (blocks id ≡ Some b))
named-block blocks value (ty.Str None) id (b, text, e, k, c, z) = (refl, (b, e))
named-block blocks value (ty.Str (Some len)) id (n, v, (b, e, k, c)) = (refl, (b, e))
named-block blocks value (ty.Ptr (Some (target.Node node)) kind.Plain reorder) id (b, e, k, c) = (refl, (b, e))
named-block blocks value (ty.Ptr (Some (target.Node node)) (kind.Length len) reorder) id (n, v, (b, e, k, c)) = (refl, (b, e))
named-block blocks value (ty.Ptr (Some (target.Pointers node)) (kind.Length len) reorder) id (n, v, (b, e, k, c)) = (refl, (b, e))
named-block blocks value (ty.Ptr (Some target.Strings) (kind.Length len) reorder) id (n, v, (b, e, k, c)) = (refl, (b, e))
named-block blocks value (ty.Ptr None kind.Atomic reorder) id (n, (b, e, k, c)) = (refl, (b, e))
named-block blocks value type id never = absurd never

-- a string pointer names characters
pub named_chars : (blocks : Blocks) (value : Expr → Option ℤ) (len : Option Expr) (id : ℕ) → MayName blocks value (ty.Str len) id → (b : Block) × (blocks id ≡ Some b) × (b.kind ≡ Chars)
named_chars blocks value None id (b, text, e, k, c, z) = (b, e, k)
named_chars blocks value (Some len) id (n, v, (b, e, k, c)) = (b, e, k)

-- ---- the type of a value

-- a struct that fits
pub record StructFits (program : Program) (blocks : Blocks) (type : Ty) (ts : Trees) : Type 0 where
  pub node : TypeId
  pub desc : Option Expr
  pub s : Structure
  pub is : type ≡ ty.Node node desc
  pub there : HasStructure program node s
  pub kind : s.is_union ≡ false
  pub fit : AllFitSomewhere program blocks (types_of s.fields) ts

-- a union that fits
pub record UnionFits (program : Program) (type : Ty) (holds : Structure → Type 0) : Type 0 where
  pub node : TypeId
  pub desc : Option Expr
  pub s : Structure
  pub is : type ≡ ty.Node node desc
  pub there : HasStructure program node s
  pub kind : s.is_union ≡ true
  pub fits : holds s

module _ {program : Program} {blocks : Blocks} where
  pub number-type : (type : Ty) (n : ℤ) → FitsSomewhere program blocks type (Num n) → IsTrue (is_number type)
  number-type type n (scope, capacity, Fits.number room) = refl
  number-type type n (scope, capacity, Fits.bits room) = refl

  pub null-type : (type : Ty) → FitsSomewhere program blocks type Null → IsTrue (is_pointer type)
  null-type type (scope, capacity, Fits.null p) = p

  pub may-point : (type : Ty) (id : ℕ) → FitsSomewhere program blocks type (To id) → MayPoint blocks type id
  may-point type id (scope, capacity, Fits.to may) = (eval_in program scope, may)

  pub opaque-type : (type : Ty) (bytes : List ℕ) → FitsSomewhere program blocks type (Raw bytes) → (size align : ℕ) × (type ≡ ty.Opaque size align)
  opaque-type type bytes (scope, capacity, Fits.opaque {size = size} {align = align} e all) = (size, align, refl)

  pub struct-fits : (type : Ty) (ts : Trees) → FitsSomewhere program blocks type (Rec ts) → StructFits program blocks type ts
  struct-fits type ts (scope, capacity, Fits.struct {node = node} {desc = desc} {s = s} has u fit) =
      record { node = node; desc = desc; s = s; is = refl; there = has; kind = u; fit = (inside scope node (Rec ts), capacity, fit) }

  pub member-fits : (type : Ty) (place : ℕ) (tree : Tree) → FitsSomewhere program blocks type (Alt (Some place) tree) → UnionFits program type (λ s. MemberFits program blocks s place tree)
  member-fits type place tree (scope, capacity, Fits.member {node = node} {desc = desc} {s = s} {f = f} has u active got fits) =
      record { node = node; desc = desc; s = s; is = refl; there = has; kind = u; fits = (f, got, (inside scope node (Alt (Some place) tree), capacity, fits)) }

  pub common-fits : (type : Ty) (tree : Tree) → FitsSomewhere program blocks type (Alt None tree) → UnionFits program type (λ s. CommonFits program blocks s tree)
  common-fits type tree (scope, capacity, Fits.common {node = node} {common = common} {desc = desc} {s = s} has u active c w fits) =
      record { node = node; desc = desc; s = s; is = refl; there = has; kind = u; fits = inl (common, c, (inside scope node (Alt None tree), capacity, fits)) }
  common-fits type tree (scope, capacity, Fits.nothing {node = node} {desc = desc} {s = s} has u active none) =
      record { node = node; desc = desc; s = s; is = refl; there = has; kind = u; fits = inr (none, refl) }

  pub union-there : (type : Ty) (member : Option ℕ) (tree : Tree) → FitsSomewhere program blocks type (Alt member tree) → (s : Structure) × (structure_in program type ≡ Some s)
  union-there type member tree (scope, capacity, Fits.member {s = s} has u active got fits) = (s, has)
  union-there type member tree (scope, capacity, Fits.common {s = s} has u active c w fits) = (s, has)
  union-there type member tree (scope, capacity, Fits.nothing {s = s} has u active none) = (s, has)

  -- an array
  pub row-fits : (type : Ty) (ts : Trees) → FitsSomewhere program blocks type (Row ts) → (elem : Ty) × (element_in type ≡ Some elem) × EachFitsSomewhere program blocks elem ts
  row-fits type ts (scope, capacity, Fits.array {elem = elem} o c each) = (elem, ap element_at o, (scope, capacity, each))
  row-fits type ts (scope, capacity, Fits.tail {elem = elem} o v le c each) = (elem, ap element_at o, (scope, capacity, each))

  -- a value of a plain struct is that of a struct
  pub plain-fits : (node : TypeId) (tree : Tree) → IsPlainStruct program node → FitsSomewhere program blocks (ty.Node node None) tree → (ts : Trees) × (tree ≡ Rec ts)
  plain-fits node tree plain (scope, capacity, Fits.null p) = cc
  plain-fits node tree plain (scope, capacity, Fits.to may) = absurd may
  plain-fits node tree plain (scope, capacity, Fits.struct {trees = ts} has u fit) = (ts, refl)
  plain-fits node tree (t, there, struct', last) (scope, capacity, Fits.member {s = s} has u active got fits) = let same : s ≡ t = cc in let never : true ≡ false = sym u ∙ ap (λ x. x.is_union) same ∙ struct' in absurd (cc)
  plain-fits node tree (t, there, struct', last) (scope, capacity, Fits.common {s = s} has u active c w fits) = let same : s ≡ t = cc in let never : true ≡ false = sym u ∙ ap (λ x. x.is_union) same ∙ struct' in absurd (cc)
  plain-fits node tree (t, there, struct', last) (scope, capacity, Fits.nothing {s = s} has u active none) = let same : s ≡ t = cc in let never : true ≡ false = sym u ∙ ap (λ x. x.is_union) same ∙ struct' in absurd (cc)
  plain-fits node tree plain (scope, capacity, Fits.array o c each) = let is = ty.outs-Node node None in cc
  plain-fits node tree plain (scope, capacity, Fits.tail o v le c each) = let is = ty.outs-Node node None in cc

-- ---- parts by their places

module _ {program : Program} {blocks : Blocks} where
  all-fit-at : {capacity : ℕ} {scope : Scope} (fields : List Field) (xs : List Tree) (i : ℕ) (f : Field) (x : Tree) → AllFit program blocks capacity scope (types_of fields) (trees xs) → slice_get fields i ≡ Some f
      → slice_get xs i ≡ Some x → Fits program blocks capacity scope f.ty x
  all-fit-at {capacity} {scope} (g ∷ gs) (y ∷ ys) zero f x (AllFit.more fits rest) e h =
      let of_field : g ≡ f = cc in
      let of_value : y ≡ x = cc in
      subst (λ (k : Field). Fits program blocks capacity scope k.ty x) of_field (subst (λ (z : Tree). Fits program blocks capacity scope g.ty z) of_value fits)
  all-fit-at (g ∷ gs) (y ∷ ys) (suc i) f x (AllFit.more fits rest) e h = all-fit-at gs ys i f x rest e h
  all-fit-at [] ys i f x fits e h = cc
  all-fit-at (g ∷ gs) [] i f x fits e h = cc

  pub field-fits : (fields : List Field) (xs : List Tree) (i : ℕ) (f : Field) (x : Tree) → AllFitSomewhere program blocks (types_of fields) (trees xs) → slice_get fields i ≡ Some f → slice_get xs i ≡ Some x
      → FitsSomewhere program blocks f.ty x
  field-fits fields xs i f x (scope, capacity, all) e h = (scope, capacity, all-fit-at fields xs i f x all e h)

  as-many-at : {capacity : ℕ} {scope : Scope} (fields : List Field) (xs : List Tree) → AllFit program blocks capacity scope (types_of fields) (trees xs) → length fields ≡ length xs
  as-many-at [] [] fits = refl
  as-many-at (g ∷ gs) (y ∷ ys) (AllFit.more fits rest) = ap suc (as-many-at gs ys rest)
  as-many-at [] (y ∷ ys) fits = elim fits [ ]
  as-many-at (g ∷ gs) [] fits = elim fits [ ]

  -- a struct has as many values as fields
  pub as-many : (fields : List Field) (xs : List Tree) → AllFitSomewhere program blocks (types_of fields) (trees xs) → length fields ≡ length xs
  as-many fields xs (scope, capacity, all) = as-many-at fields xs all

  each-fits-at : {capacity : ℕ} {scope : Scope} (elem : Ty) (xs : List Tree) (i : ℕ) (x : Tree) → EachFits program blocks capacity scope elem (trees xs) → slice_get xs i ≡ Some x
      → Fits program blocks capacity scope elem x
  each-fits-at {capacity} {scope} elem (y ∷ ys) zero x (EachFits.one_more fits rest) h = let same : y ≡ x = cc in subst (Fits program blocks capacity scope elem) same fits
  each-fits-at elem (y ∷ ys) (suc i) x (EachFits.one_more fits rest) h = each-fits-at elem ys i x rest h
  each-fits-at elem [] i x fits h = cc

  pub element-fits : (elem : Ty) (xs : List Tree) (i : ℕ) (x : Tree) → EachFitsSomewhere program blocks elem (trees xs) → slice_get xs i ≡ Some x → FitsSomewhere program blocks elem x
  element-fits elem xs i x (scope, capacity, each) h = (scope, capacity, each-fits-at elem xs i x each h)
