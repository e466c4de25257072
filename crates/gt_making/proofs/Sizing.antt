-- Which blocks are too large.
use Rattle.std.proofs.Common.{◌≡◌, refl, false, IsTrue, ◌<◌, ◌≤◌, ◌↔◌, ℕ, suc, ◌+◌, ◌*◌, ap, sym, ◌∙◌, arith, Some, None}
use Rattle.gt_types.specs.declared.types.TypeId.{TypeId}
use Rattle.gt_types.specs.declared.types.Ty.{Ty}
use Rattle.gt_types.specs.declared.types.Ty.TheVariants as ty
use Rattle.gt_types.specs.declared.types.Ty.TheVariants.{outs-Num, outs-Ptr, outs-Str}
use Rattle.gt_types.specs.declared.types.Target.TheVariants as target
use Rattle.gt_types.specs.declared.types.PtrKind.TheVariants as pointer
use Rattle.gt_types.specs.Shapes.{is_pointer}
use Rattle.gt_held.proofs.SomeBytes.{size-some}
use Rattle.gt_graph.specs.Good.{IsOfTails}
use Rattle.gt_types.specs.declared.types.Scalar.TheVariants as scalar
use Rattle.gt_types.specs.declared.types.Width.TheVariants.{W1}
use Rattle.gt_types.specs.Tails.{elements_at, elements_of}
use Rattle.gt_tree.specs.LeafLaws.{bytes_with}
use Rattle.gt_tree.proofs.Types.{extent-number, extent-pointer}
use Rattle.gt_types.specs.declared.program.Program.{Program}
use Rattle.gt_types.specs.Settled.{Settled}
use Rattle.gt_layout.specs.declared.planes.Layouts.{Layouts}
use Rattle.gt_layout.specs.Planes.{IsLaidOut}
use Rattle.gt_layout.specs.Capacity.{SizeAt}
use Rattle.gt_tree.specs.Blocks.{Kind, Nodes, Pointers, Strings, Chars, Raw, element_type}
use Rattle.gt_tree.specs.FixedLaws.{MayHold}
use Rattle.gt_tree.proofs.Sizes.{sizes-one}
use Rattle.gt_value.specs.Bytes.{Takes}
use Rattle.gt_value.specs.Names.{kind_of}
use Rattle.gt_pages.specs.Ledger.{rounded}
use Rattle.gt_graph.specs.Places.{Needs}
use Rattle.gt_objects.specs.declared.objects.Known.{Known}
use Rattle.gt_objects.specs.Making as objects
use Rattle.gt_objects.proofs.Widths.{chars_take}
use Rattle.gt_next.specs.Making.{IsTooLarge, wanted}
use Rattle.gt_making.specs.Binding.{wanted_of}

-- what the law of gt_objects says
abbrev pub HasGreatest : Type 0
HasGreatest = (bytes : ℕ) → (rounded bytes ≡ None) ↔ (1048576 < bytes)

-- no block has room for it: it needs more bytes than a block may have
pub too-large : (program : Program) (layouts : Layouts) (known : Known) → HasGreatest → objects.IsTooLarge program layouts known → IsTooLarge program layouts (wanted_of known)
too-large program layouts known law (bytes, needs, none) = (bytes, needs, (law bytes).0 none)

pub large-times : (count size : ℕ) → 1 ≤ size → 1048576 < count → 1048576 < count * size
large-times count size some large = grind (arith, some, large)

-- so many elements of one byte at least are too many
pub many-too-large : (program : Program) (layouts : Layouts) (kind : Kind) (count size : ℕ) → 1048576 < count → 1 ≤ size → Takes program layouts 0 (element_type program kind) size
    → IsTooLarge program layouts (wanted kind count 0)
many-too-large program layouts kind count size large some takes = (count * size, (size, takes, refl), large-times count size some large)

-- a byte takes one
pub raw-some : (program : Program) (layouts : Layouts) (size : ℕ) → Takes program layouts 0 (element_type program Raw) size → 1 ≤ size
raw-some program layouts size takes =
    let type : Ty = ty.Num (scalar.Int W1 false) in
    let width : 8 * size ≡ 8 * 1 =
    takes ∙ ap (λ o. 8 * bytes_with layouts.structures 0 type o) (ap elements_at (outs-Num (scalar.Int W1 false))) ∙ ap (λ n. 8 * n) (extent-number layouts.structures (scalar.Int W1 false)) in
    omega (arith, width)

eight-bytes : (program : Program) (layouts : Layouts) (type : Ty) (size : ℕ) → IsTrue (is_pointer type) → elements_of type ≡ None → 8 * size ≡ 8 * bytes_with layouts.structures 0 type (elements_of type) → 1 ≤ size
eight-bytes program layouts type size is none takes =
    let width : 8 * size ≡ 8 * 8 = takes ∙ ap (λ o. 8 * bytes_with layouts.structures 0 type o) none ∙ ap (λ n. 8 * n) (extent-pointer layouts.structures type is) in
    omega (arith, width)

-- elements of no tail type take one byte at least
pub plain-some : (program : Program) (layouts : Layouts) → Settled program → IsLaidOut program layouts → (kind : Kind) → MayHold program kind → ¬ IsOfTails program kind → (size : ℕ)
    → Takes program layouts 0 (element_type program kind) size → 1 ≤ size
plain-some program layouts settled laid (Nodes node) may whole size takes =
    let some = size-some program settled layouts.structures laid.structures 32 node (may.0, may.1, λ n inner nests. settled.depth n node inner nests, λ of. whole (node, refl, of)) takes.0 takes.1 in
    let same = takes.2 in
    omega (arith, some, same)
plain-some program layouts settled laid (Pointers node) may whole size takes =
    eight-bytes program layouts (ty.Ptr (Some (target.Node node)) pointer.Plain false) size refl (ap elements_at (outs-Ptr (Some (target.Node node)) pointer.Plain false)) takes
plain-some program layouts settled laid Strings may whole size takes = eight-bytes program layouts (ty.Str None) size refl (ap elements_at (outs-Str None)) takes
plain-some program layouts settled laid Chars may whole size takes = raw-some program layouts size takes
plain-some program layouts settled laid Raw may whole size takes = raw-some program layouts size takes

eight : (x y k : ℕ) → 8 * x ≡ k → 8 * y ≡ k → x ≡ y
eight x y k a b = omega (arith, a, b)

-- the characters of a text are too large exactly where they are more than a block may have, as many bytes as the text has and one
module _ (program : Program) (layouts : Layouts) (n : ℕ) where
  pub text-large : 1048576 < n + 1 → IsTooLarge program layouts (wanted Chars (suc n) 0)
  text-large large = (suc n * 1, (1, chars_take program layouts 0, refl), omega (arith, large))

  pub text-small : n + 1 ≤ 1048576 → ¬ IsTooLarge program layouts (wanted Chars (suc n) 0)
  text-small small (bytes, (size, takes, is), large) =
      let one : size ≡ 1 = eight size 1 _ takes (chars_take program layouts 0) in
      let all : bytes ≡ suc n * 1 = is ∙ ap (λ k. suc n * k) one in
      let no : 1 ≤ 0 = omega (arith, small, all, large) in omega (arith, no)

module _ (program : Program) (layouts : Layouts) (settled : Settled program) (laid : IsLaidOut program layouts) where
  size-at-one : (node : TypeId) (capacity x y : ℕ) → MayHold program (Nodes node) → SizeAt program layouts.structures capacity node x → SizeAt program layouts.structures capacity node y → x ≡ y
  size-at-one node capacity x y may a b = let one = sizes-one program layouts settled laid capacity node may.0 may.1 in one.2 x a ∙ sym (one.2 y b)

  takes-one : (kind : Kind) (capacity x y : ℕ) → MayHold program kind → Takes program layouts capacity (element_type program kind) x → Takes program layouts capacity (element_type program kind) y → x ≡ y
  takes-one (Nodes node) capacity x y may a b = let same = size-at-one node capacity a.0 b.0 may a.1 b.1 in omega (arith, same, a.2, b.2)
  takes-one (Pointers node) capacity x y may a b = eight x y _ a b
  takes-one Strings capacity x y may a b = eight x y _ a b
  takes-one Chars capacity x y may a b = eight x y _ a b
  takes-one Raw capacity x y may a b = eight x y _ a b

  needs-one : (kind : Kind) (count capacity x y : ℕ) → MayHold program kind → Needs program layouts kind count capacity x → Needs program layouts kind count capacity y → x ≡ y
  needs-one kind count capacity x y may (size, takes, e) (other, takes_too, f) = e ∙ ap (λ n. count * n) (takes-one kind capacity size other may takes takes_too) ∙ sym f

  -- a block has room for it: it needs no more bytes than a block may have
  pub not-too-large : (known : Known) (size : ℕ) → MayHold program (kind_of known.kind) → HasGreatest → objects.HasSize program layouts known size → ¬ IsTooLarge program layouts (wanted_of known)
  not-too-large known size may law (bytes, needs, fits) (other, needs_too, large) =
      let same = needs-one (kind_of known.kind) known.count known.capacity other bytes may needs_too needs in
      let none = ap rounded (sym same) ∙ (law other).1 large in
      let both : Some size ≡ None = sym fits ∙ none in cc
