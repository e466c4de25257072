-- What a leaf that fits a type is as a tree, and what it may be in bits.
use Rattle.std.proofs.Common.{◌≡◌, ℕ, ◌+◌, ◌*◌, ◌^◌, ◌<◌, Bool, true, false, cond, nat_le, ◌&&◌, IsTrue, refl, ap, sym, subst, ◌∙◌, arith, Option, Some, None}
use Rattle.std.specs.Prelude.{◌==◌, ℤ, pos, negsuc}
use Rattle.std.proofs.lemmas.Bool.{eqb-true, ltb-true, lt-ltb}
use Rattle.gt_types.specs.declared.expressions.Expr.{Expr}
use Rattle.gt_types.specs.declared.types.Scalar.{Scalar}
use Rattle.gt_types.specs.declared.types.Scalar.TheVariants as scalar
use Rattle.gt_types.specs.declared.types.Width.TheVariants.{W1, W2, W4, W8}
use Rattle.gt_types.specs.declared.types.Target.TheVariants as target
use Rattle.gt_types.specs.declared.types.PtrKind.TheVariants as pointer
use Rattle.gt_types.specs.declared.types.Ty.{Ty}
use Rattle.gt_types.specs.declared.types.Ty.TheVariants as ty
use Rattle.gt_types.specs.declared.program.Program.{Program}
use Rattle.gt_types.specs.Shapes.{bits_of, is_pointer}
use Rattle.gt_layout.specs.Storages.{bytes_of}
use Rattle.gt_tree.specs.Numbers.{is_signed, has_room, two's_complement}
use Rattle.gt_tree.specs.Trees.{Tree, Num, Null, To, Raw, is_leaf, is_word, without_pointers}
use Rattle.gt_tree.specs.Blocks.{Block, Blocks, MayName}
use Rattle.gt_tree.specs.Scopes.{Scope, eval_in}
use Rattle.gt_tree.specs.Fits.{Fits}
use Rattle.gt_tree.specs.Leaves.{bit_of}
use Rattle.gt_tree.specs.FixedLaws.{AreAddresses}
use Rattle.gt_tree.proofs.FixedParts.{may-pointer}
use Rattle.gt_value.specs.declared.places.LeafContent.{LeafContent}
use Rattle.gt_value.specs.declared.places.LeafContent.TheVariants as content
use Rattle.gt_value.specs.declared.places.LeafKind.{LeafKind}
use Rattle.gt_value.specs.declared.places.LeafKind.TheVariants.{Number, Pointer}
use Rattle.gt_value.specs.Bytes.{itself}
use Rattle.gt_value.specs.Reading.{byte_numbers, shape}
use Rattle.gt_value.specs.Places.{IsContentOf, leaf_kind, kind_of_shape}
use Rattle.gt_store.specs.Leaf.{MayBe}
use Rattle.gt_leaf.specs.Writing.{LeafFits, is_number_leaf}
use Rattle.gt_leaf.proofs.WordBytes.{bytes-long, bytes-small, bytes-bit}

-- ---- trees

-- a leaf as a tree that fits a type
pub record LeafTree (program : Program) (blocks : Blocks) (capacity : ℕ) (scope : Scope) (type : Ty) (leaf : LeafContent) : Type 0 where
  pub tree : Tree
  pub means : IsContentOf leaf tree
  pub fits : Fits program blocks capacity scope type tree
  pub is_leaf : IsTrue (is_leaf tree)
  pub bare : is_number_leaf leaf ≡ true → without_pointers tree ≡ tree

both-of : (a b : Bool) → IsTrue (a && b) → (a ≡ true) × IsTrue b
both-of true b h = (refl, h)
both-of false b h = absurd (cc)

module _ {program : Program} {blocks : Blocks} {capacity : ℕ} {scope : Scope} where
  opaque-tree : (size align : ℕ) (n : ℤ) → size ≡ 8 → IsTrue (has_room true 64 n) → LeafTree program blocks capacity scope (ty.Opaque size align) (content.Num n)
  opaque-tree size align n is room =
      let bits : ℕ → Bool = bit_of (two's_complement 64 n) in
      let long = bytes-long bits 0 8 in
      record {
        tree = Raw (byte_numbers bits 0 8);
        means = (long, room, λ i lt. let same : i ≡ 0 + i = omega arith in ap bits same ∙ bytes-bit bits 0 8 i (omega (arith, lt)));
        fits = Fits.opaque (long ∙ sym is) (bytes-small bits 0 8);
        is_leaf = refl;
        bare = λ e. refl;
      }

  number-tree : (type : Ty) (n : ℤ) → LeafFits blocks (eval_in program scope) type (content.Num n) → LeafTree program blocks capacity scope type (content.Num n)
  number-tree (ty.Num number) n h = record { tree = Num n; means = refl; fits = Fits.number h; is_leaf = refl; bare = λ e. refl }
  number-tree (ty.Bits unit width) n h = record { tree = Num n; means = refl; fits = Fits.bits h; is_leaf = refl; bare = λ e. refl }
  number-tree (ty.Opaque size align) n h = let both = both-of (size == 8) (has_room true 64 n) h in opaque-tree size align n (eqb-true size 8 both.0) both.1
  number-tree type n h = absurd (cc)

  pub leaf-tree : (type : Ty) (leaf : LeafContent) → LeafFits blocks (eval_in program scope) type leaf → LeafTree program blocks capacity scope type leaf
  leaf-tree type (content.Num n) h = number-tree type n h
  leaf-tree type content.Null h = record { tree = Null; means = tt; fits = Fits.null h; is_leaf = refl; bare = λ e. refl }
  leaf-tree type (content.To address) h = record { tree = To address; means = refl; fits = Fits.to h; is_leaf = refl; bare = λ e. absurd (cc) }

-- what a leaf holds is one word
pub content-word : (leaf : LeafContent) (tree : Tree) → IsContentOf leaf tree → IsTrue (is_word tree)
content-word leaf (Num n) h = refl
content-word leaf Null h = refl
content-word leaf (To id) h = refl
content-word (content.Num n) (Raw bytes) h = ap (λ (k : ℕ). k == 8) h.0
content-word content.Null tree h = absurd h
content-word leaf tree h = absurd h

-- so it is a leaf
pub content-leaf : (leaf : LeafContent) (tree : Tree) → IsContentOf leaf tree → IsTrue (is_leaf tree)
content-leaf leaf (Num n) h = refl
content-leaf leaf Null h = refl
content-leaf leaf (To id) h = refl
content-leaf leaf (Raw bytes) h = refl
content-leaf (content.Num n) tree h = absurd h
content-leaf content.Null tree h = absurd h
content-leaf (content.To address) tree h = absurd h

-- ---- bits

-- a number that has room in the bits of its type has room in its bytes
wider : (number : Scalar) (n : ℤ) → IsTrue (has_room (is_signed number) (bits_of number) n) → IsTrue (has_room (is_signed number) (8 * bytes_of number) n)
wider scalar.Bool (pos n) h =
    let low : n < 2 ^ 1 = ltb-true n (2 ^ 1) h in
    lt-ltb n (2 ^ 8) (omega (arith, low))
wider scalar.Bool (negsuc n) h = h
wider (scalar.Int W1 signed) n h = h
wider (scalar.Int W2 signed) n h = h
wider (scalar.Int W4 signed) n h = h
wider (scalar.Int W8 signed) n h = h

-- the block that a pointer may name is there
named-there : (blocks : Blocks) (value : Expr → Option ℤ) (type : Ty) (id : ℕ) → MayName blocks value type id → (b : Block) × (blocks id ≡ Some b)
named-there blocks value (ty.Str None) id h = (h.0, h.2)
named-there blocks value (ty.Str (Some count)) id h = (h.2.0, h.2.1)
named-there blocks value (ty.Ptr (Some (target.Node node)) pointer.Plain reorder) id h = (h.0, h.1)
named-there blocks value (ty.Ptr (Some (target.Node node)) (pointer.Length len) reorder) id h = (h.2.0, h.2.1)
named-there blocks value (ty.Ptr (Some (target.Pointers node)) (pointer.Length len) reorder) id h = (h.2.0, h.2.1)
named-there blocks value (ty.Ptr (Some target.Strings) (pointer.Length len) reorder) id h = (h.2.0, h.2.1)
named-there blocks value (ty.Ptr None pointer.Atomic reorder) id h = (h.1.0, h.1.1)
named-there blocks value type id h = absurd h

bits-kind : (b s : Bool) (w : ℕ) (kind : LeafKind) → kind_of_shape (cond b (Some (shape s w)) None) ≡ Some kind → Number s w ≡ kind
bits-kind true s w kind e = cc
bits-kind false s w kind e = absurd (cc)

opaque-kind : (size : ℕ) (kind : LeafKind) → size ≡ 8 → cond (size == 8) (Some (Number true 64)) None ≡ Some kind → Number true 64 ≡ kind
opaque-kind size kind is e = let same : Some (Number true 64) ≡ Some kind = ap (λ n. cond (n == 8) (Some (Number true 64)) None) (sym is) ∙ e in cc

number-may : (type : Ty) (kind : LeafKind) (n : ℤ) (blocks : Blocks) (value : Expr → Option ℤ) → leaf_kind type ≡ Some kind → LeafFits blocks value type (content.Num n) → MayBe kind (content.Num n)
number-may (ty.Num number) kind n blocks value e h =
    let same : Number (is_signed number) (8 * bytes_of number) ≡ kind = cc in
    subst (λ k. MayBe k (content.Num n)) same (wider number n h)
number-may (ty.Bits unit width) kind n blocks value e h =
    subst (λ k. MayBe k (content.Num n)) (bits-kind (nat_le 1 width && nat_le width 64) (is_signed unit) width kind e) h
number-may (ty.Opaque size align) kind n blocks value e h =
    let both = both-of (size == 8) (has_room true 64 n) h in
    subst (λ k. MayBe k (content.Num n)) (opaque-kind size kind (eqb-true size 8 both.0) e) both.1
number-may type kind n blocks value e h = absurd (cc)

pointer-kind : (type : Ty) (kind : LeafKind) → IsTrue (is_pointer type) → leaf_kind type ≡ Some kind → Pointer ≡ kind
pointer-kind (ty.Str count) kind p e = cc
pointer-kind (ty.Ptr target sort reorder) kind p e = cc
pointer-kind type kind p e = absurd (cc)

pub may-be : (type : Ty) (kind : LeafKind) (leaf : LeafContent) (blocks : Blocks) (value : Expr → Option ℤ) → AreAddresses blocks itself → leaf_kind type ≡ Some kind → LeafFits blocks value type leaf → MayBe kind leaf
may-be type kind (content.Num n) blocks value addresses e h = number-may type kind n blocks value e h
may-be type kind content.Null blocks value addresses e h = subst (λ k. MayBe k content.Null) (pointer-kind type kind h e) tt
may-be type kind (content.To address) blocks value addresses e h =
    let b = named-there blocks value type address h in
    let above = addresses.not_null address b.0 b.1 in
    subst (λ k. MayBe k (content.To address)) (pointer-kind type kind (may-pointer blocks value type address h) e) (λ z. omega (arith, above, z))
