-- Two values of one type for which the same bits stand.
use Rattle.std.proofs.Common.{◌≡◌, ℕ, suc, ◌<◌, true, false, IsTrue, List, [], ◌∷◌, length, refl, ap, sym, subst, ◌∙◌, arith, Option, Some, None, ◌⊎◌, inl, inr}
use Rattle.std.specs.Prelude.{All, ℤ, pos}
use Rattle.gt_types.specs.declared.expressions.Expr.{Expr}
use Rattle.gt_types.specs.declared.types.TypeId.{TypeId}
use Rattle.gt_types.specs.declared.types.Scalar.{Scalar}
use Rattle.gt_types.specs.declared.types.Target.TheVariants as target
use Rattle.gt_types.specs.declared.types.PtrKind.TheVariants as kind
use Rattle.gt_types.specs.declared.types.Ty.{Ty, out-Ty}
use Rattle.gt_types.specs.declared.types.Ty.TheOpen as part
use Rattle.gt_types.specs.declared.types.Ty.TheVariants as ty
use Rattle.gt_types.specs.declared.types.Ty.TheVariants.{outs-Num, outs-Bits, outs-Opaque, outs-Str, outs-Ptr, outs-Node}
use Rattle.gt_types.specs.declared.program.Structure.{Structure}
use Rattle.gt_types.specs.declared.program.Program.{Program}
use Rattle.gt_types.specs.Shapes.{bits_of, is_pointer}
use Rattle.gt_types.specs.Contains.{HasStructure}
use Rattle.gt_types.specs.Unions.{IsCommon}
use Rattle.gt_tree.specs.Trees.{Tree, Num, Null, To, Raw, Rec, Alt, Row, Trees, End, And, count, without_pointers}
use Rattle.gt_tree.specs.Numbers.{is_signed, has_room}
use Rattle.gt_tree.specs.Blocks.{Block, Blocks, MayName}
use Rattle.gt_tree.specs.Scopes.{Scope, inside, eval_in}
use Rattle.gt_tree.specs.Fits.{Fits, AllFit, EachFits, IsActive, types_of}

-- ---- names

-- what a pointer may name is a block, and a pointer it is
pub named : (blocks : Blocks) (value : Expr → Option ℤ) (type : Ty) (id : ℕ) → MayName blocks value type id → (b : Block) × (blocks id ≡ Some b)
named blocks value (ty.Str None) id (b, text, e, k, c, all) = (b, e)
named blocks value (ty.Str (Some long)) id (n, v, (b, e, k, c)) = (b, e)
named blocks value (ty.Ptr (Some (target.Node node)) kind.Plain reorder) id (b, e, k, c) = (b, e)
named blocks value (ty.Ptr (Some (target.Node node)) (kind.Length long) reorder) id (n, v, (b, e, k, c)) = (b, e)
named blocks value (ty.Ptr (Some (target.Pointers node)) (kind.Length long) reorder) id (n, v, (b, e, k, c)) = (b, e)
named blocks value (ty.Ptr (Some target.Strings) (kind.Length long) reorder) id (n, v, (b, e, k, c)) = (b, e)
named blocks value (ty.Ptr None kind.Atomic reorder) id (n, (b, e, k, c)) = (b, e)
named blocks value type id h = absurd h

pub may-pointer : (blocks : Blocks) (value : Expr → Option ℤ) (type : Ty) (id : ℕ) → MayName blocks value type id → IsTrue (is_pointer type)
may-pointer blocks value (ty.Str count) id h = refl
may-pointer blocks value (ty.Ptr target kind reorder) id h = refl
may-pointer blocks value type id h = absurd h

-- ---- what a value of each sort of type is

no_array : (type elem : Ty) (n : ℕ) → IsTrue (is_pointer type) → ¬ (out-Ty type ≡ part.Arr n elem)
no_array (ty.Str count) elem n h e = let o = outs-Str count in cc
no_array (ty.Ptr target kind reorder) elem n h e = let o = outs-Ptr target kind reorder in cc
no_array type elem n h e = cc

no_tail : (type elem : Ty) (length : Expr) → IsTrue (is_pointer type) → ¬ (out-Ty type ≡ part.Tail length elem)
no_tail (ty.Str count) elem length h e = let o = outs-Str count in cc
no_tail (ty.Ptr target kind reorder) elem length h e = let o = outs-Ptr target kind reorder in cc
no_tail type elem length h e = cc

module _ {program : Program} {blocks : Blocks} {capacity : ℕ} {scope : Scope} where
  pub is-number : (scalar : Scalar) (tree : Tree) → Fits program blocks capacity scope (ty.Num scalar) tree → (n : ℤ) × (tree ≡ Num n) × IsTrue (has_room (is_signed scalar) (bits_of scalar) n)
  is-number scalar tree (Fits.number {n} h) = (n, refl, h)
  is-number scalar tree (Fits.null p) = absurd (cc)
  is-number scalar tree (Fits.to m) = absurd m
  is-number scalar tree (Fits.array e c each) = let o = outs-Num scalar in absurd (cc)
  is-number scalar tree (Fits.tail e v le c each) = let o = outs-Num scalar in absurd (cc)

  pub is-bits : (unit : Scalar) (width : ℕ) (tree : Tree) → Fits program blocks capacity scope (ty.Bits unit width) tree → (n : ℤ) × (tree ≡ Num n) × IsTrue (has_room (is_signed unit) width n)
  is-bits unit width tree (Fits.bits {n} h) = (n, refl, h)
  is-bits unit width tree (Fits.null p) = absurd (cc)
  is-bits unit width tree (Fits.to m) = absurd m
  is-bits unit width tree (Fits.array e c each) = let o = outs-Bits unit width in absurd (cc)
  is-bits unit width tree (Fits.tail e v le c each) = let o = outs-Bits unit width in absurd (cc)

  pub is-opaque : (size align : ℕ) (tree : Tree) → Fits program blocks capacity scope (ty.Opaque size align) tree
      → (bytes : List ℕ) × (tree ≡ Raw bytes) × (length bytes ≡ size) × All (λ byte. byte < 256) bytes
  is-opaque size align tree (Fits.opaque {bytes} long small) = (bytes, refl, long, small)
  is-opaque size align tree (Fits.null p) = absurd (cc)
  is-opaque size align tree (Fits.to m) = absurd m
  is-opaque size align tree (Fits.array e c each) = let o = outs-Opaque size align in absurd (cc)
  is-opaque size align tree (Fits.tail e v le c each) = let o = outs-Opaque size align in absurd (cc)

  pub is-pointer : (type : Ty) (tree : Tree) → IsTrue (is_pointer type) → Fits program blocks capacity scope type tree → (tree ≡ Null) ⊎ ((id : ℕ) × (tree ≡ To id) × (b : Block) × (blocks id ≡ Some b))
  is-pointer type tree p (Fits.number h) = absurd (cc)
  is-pointer type tree p (Fits.bits h) = absurd (cc)
  is-pointer type tree p (Fits.opaque h k) = absurd (cc)
  is-pointer type tree p (Fits.null h) = inl refl
  is-pointer type tree p (Fits.to {id} m) = let found = named blocks (eval_in program scope) type id m in inr (id, refl, found.0, found.1)
  is-pointer type tree p (Fits.struct h u all) = absurd (cc)
  is-pointer type tree p (Fits.member h u a g fits) = absurd (cc)
  is-pointer type tree p (Fits.common h u a c w fits) = absurd (cc)
  is-pointer type tree p (Fits.nothing h u a n) = absurd (cc)
  is-pointer type tree p (Fits.array {elem} {n} e c each) = absurd (no_array type elem n p e)
  is-pointer type tree p (Fits.tail {elem} {length} e v le c each) = absurd (no_tail type elem length p e)

  pub is-struct : (node : TypeId) (desc : Option Expr) (s : Structure) (tree : Tree) → HasStructure program node s → s.is_union ≡ false → Fits program blocks capacity scope (ty.Node node desc) tree
      → (trees : Trees) × (tree ≡ Rec trees) × AllFit program blocks capacity (inside scope node (Rec trees)) (types_of s.fields) trees
  is-struct node desc s tree has struct (Fits.null p) = absurd (cc)
  is-struct node desc s tree has struct (Fits.to m) = absurd m
  is-struct node desc s tree has struct (Fits.struct {s = other} {trees} h u all) =
      let same : other ≡ s = cc in
      (trees, refl, subst (λ x. AllFit program blocks capacity (inside scope node (Rec trees)) (types_of x.fields) trees) same all)
  is-struct node desc s tree has struct (Fits.member {s = other} h u a g fits) = let same : other ≡ s = cc in absurd (cc)
  is-struct node desc s tree has struct (Fits.common {s = other} h u a c w fits) = let same : other ≡ s = cc in absurd (cc)
  is-struct node desc s tree has struct (Fits.nothing {s = other} h u a n) = let same : other ≡ s = cc in absurd (cc)
  is-struct node desc s tree has struct (Fits.array e c each) = let o = outs-Node node desc in absurd (cc)
  is-struct node desc s tree has struct (Fits.tail e v le c each) = let o = outs-Node node desc in absurd (cc)

  pub is-union : (node : TypeId) (desc : Option Expr) (s : Structure) (tree : Tree) → HasStructure program node s → s.is_union ≡ true → Fits program blocks capacity scope (ty.Node node desc) tree
      → (member : Option ℕ) × (part : Tree) × (tree ≡ Alt member part) × IsActive program scope node desc s tree member
  is-union node desc s tree has union (Fits.null p) = absurd (cc)
  is-union node desc s tree has union (Fits.to m) = absurd m
  is-union node desc s tree has union (Fits.struct {s = other} h u all) = let same : other ≡ s = cc in absurd (cc)
  is-union node desc s tree has union (Fits.member {s = other} {place} {tree = part} h u a g fits) =
      let same : other ≡ s = cc in
      (Some place, part, refl, subst (λ x. IsActive program scope node desc x (Alt (Some place) part) (Some place)) same a)
  is-union node desc s tree has union (Fits.common {s = other} {tree = part} h u a c w fits) =
      let same : other ≡ s = cc in
      (None, part, refl, subst (λ x. IsActive program scope node desc x (Alt None part) None) same a)
  is-union node desc s tree has union (Fits.nothing {s = other} h u a n) =
      let same : other ≡ s = cc in
      (None, Rec End, refl, subst (λ x. IsActive program scope node desc x (Alt None (Rec End)) None) same a)
  is-union node desc s tree has union (Fits.array e c each) = let o = outs-Node node desc in absurd (cc)
  is-union node desc s tree has union (Fits.tail e v le c each) = let o = outs-Node node desc in absurd (cc)

  pub is-nothing : (node : TypeId) (desc : Option Expr) (s : Structure) (tree : Tree) → HasStructure program node s → ((common : TypeId) → ¬ IsCommon program s common)
      → Fits program blocks capacity scope (ty.Node node desc) (Alt None tree) → tree ≡ Rec End
  is-nothing node desc s tree has none (Fits.common {common} {s = other} h u a c w fits) =
      let same : other ≡ s = cc in
      absurd (none common (subst (λ x. IsCommon program x common) same c))
  is-nothing node desc s tree has none (Fits.nothing h u a n) = refl

  pub is-plain : (node : TypeId) (desc : Option Expr) (tree : Tree) → Fits program blocks capacity scope (ty.Node node desc) (Alt None tree) → without_pointers tree ≡ tree
  is-plain node desc tree (Fits.common h u a c w fits) = w
  is-plain node desc tree (Fits.nothing h u a n) = refl

  pub is-array : (type elem : Ty) (n : ℕ) (tree : Tree) → out-Ty type ≡ part.Arr n elem → Fits program blocks capacity scope type tree
      → (trees : Trees) × (tree ≡ Row trees) × (count trees ≡ n) × EachFits program blocks capacity scope elem trees
  is-array type elem n tree e (Fits.number {scalar} h) = let o = outs-Num scalar in absurd (cc)
  is-array type elem n tree e (Fits.bits {unit} {width} h) = let o = outs-Bits unit width in absurd (cc)
  is-array type elem n tree e (Fits.opaque {size} {align} h k) = let o = outs-Opaque size align in absurd (cc)
  is-array type elem n tree e (Fits.null p) = absurd (no_array type elem n p e)
  is-array type elem n tree e (Fits.to {id} m) = absurd (no_array type elem n (may-pointer blocks (eval_in program scope) type id m) e)
  is-array type elem n tree e (Fits.struct {node} {desc} h u all) = let o = outs-Node node desc in absurd (cc)
  is-array type elem n tree e (Fits.member {node} {desc} h u a g fits) = let o = outs-Node node desc in absurd (cc)
  is-array type elem n tree e (Fits.common {node} {desc} h u a c w fits) = let o = outs-Node node desc in absurd (cc)
  is-array type elem n tree e (Fits.nothing {node} {desc} h u a none) = let o = outs-Node node desc in absurd (cc)
  is-array type elem n tree e (Fits.array {elem = other} {n = m} {trees} o c each) =
      let same : other ≡ elem = cc in
      let as_many : count trees ≡ n = cc in
      (trees, refl, as_many, subst (λ t. EachFits program blocks capacity scope t trees) same each)
  is-array type elem n tree e (Fits.tail o v le c each) = absurd (cc)

  pub is-tail : (type elem : Ty) (long : Expr) (tree : Tree) → out-Ty type ≡ part.Tail long elem → Fits program blocks capacity scope type tree
      → (trees : Trees) × (tree ≡ Row trees) × (eval_in program scope long ≡ Some (pos (count trees))) × EachFits program blocks capacity scope elem trees
  is-tail type elem long tree e (Fits.number {scalar} h) = let o = outs-Num scalar in absurd (cc)
  is-tail type elem long tree e (Fits.bits {unit} {width} h) = let o = outs-Bits unit width in absurd (cc)
  is-tail type elem long tree e (Fits.opaque {size} {align} h k) = let o = outs-Opaque size align in absurd (cc)
  is-tail type elem long tree e (Fits.null p) = absurd (no_tail type elem long p e)
  is-tail type elem long tree e (Fits.to {id} m) = absurd (no_tail type elem long (may-pointer blocks (eval_in program scope) type id m) e)
  is-tail type elem long tree e (Fits.struct {node} {desc} h u all) = let o = outs-Node node desc in absurd (cc)
  is-tail type elem long tree e (Fits.member {node} {desc} h u a g fits) = let o = outs-Node node desc in absurd (cc)
  is-tail type elem long tree e (Fits.common {node} {desc} h u a c w fits) = let o = outs-Node node desc in absurd (cc)
  is-tail type elem long tree e (Fits.nothing {node} {desc} h u a none) = let o = outs-Node node desc in absurd (cc)
  is-tail type elem long tree e (Fits.array o c each) = absurd (cc)
  is-tail type elem long tree e (Fits.tail {elem = other} {length = other_long} {n} {trees} o v le c each) =
      let same : other ≡ elem = cc in
      let alike : other_long ≡ long = cc in
      let many : Some (pos n) ≡ Some (pos (count trees)) = ap (λ k. Some (pos k)) (sym c) in
      (trees, refl, ap (eval_in program scope) (sym alike) ∙ v ∙ many, subst (λ t. EachFits program blocks capacity scope t trees) same each)

  pub is-more : (type : Ty) (types : List Ty) (trees : Trees) → AllFit program blocks capacity scope (type ∷ types) trees
      → (first : Tree) × (rest : Trees) × (trees ≡ And first rest) × Fits program blocks capacity scope type first × AllFit program blocks capacity scope types rest
  is-more type types trees (AllFit.more {tree} {trees = rest} fits all) = (tree, rest, refl, fits, all)

  pub is-none : (trees : Trees) → AllFit program blocks capacity scope [] trees → trees ≡ End
  is-none trees AllFit.none = refl

  pub is-one : (type : Ty) (n : ℕ) (trees : Trees) → count trees ≡ suc n → EachFits program blocks capacity scope type trees
      → (first : Tree) × (rest : Trees) × (trees ≡ And first rest) × Fits program blocks capacity scope type first × EachFits program blocks capacity scope type rest
  is-one type n trees e EachFits.no_more = absurd (omega arith)
  is-one type n trees e (EachFits.one_more {tree} {trees = rest} fits each) = (tree, rest, refl, fits, each)

pub is-no_more : (trees : Trees) → count trees ≡ 0 → trees ≡ End
is-no_more End e = refl
is-no_more (And tree trees) e = absurd (omega arith)
