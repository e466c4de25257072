-- A block needs one number of bytes, and has one size.
use Rattle.std.proofs.Common.{◌≡◌, ℕ, ◌*◌, ap, sym, subst, ◌∙◌, arith, Some}
use Rattle.gt_types.specs.declared.types.TypeId.{TypeId}
use Rattle.gt_types.specs.declared.program.Program.{Program}
use Rattle.gt_types.specs.Settled.{Settled}
use Rattle.gt_layout.specs.declared.planes.Layouts.{Layouts}
use Rattle.gt_layout.specs.Planes.{IsLaidOut}
use Rattle.gt_layout.specs.Capacity.{SizeAt}
use Rattle.gt_tree.specs.Blocks.{Kind, Nodes, Pointers, Strings, Chars, Raw, element_type}
use Rattle.gt_tree.specs.FixedLaws.{MayHold}
use Rattle.gt_tree.proofs.PathBits.{some-same}
use Rattle.gt_tree.proofs.Sizes.{sizes-one}
use Rattle.gt_value.specs.Bytes.{Takes}
use Rattle.gt_pages.specs.Ledger.{rounded}
use Rattle.gt_graph.specs.Objects.{Object}
use Rattle.gt_graph.specs.Places.{Needs, IsSizeFor}

eight : (x y k : ℕ) → 8 * x ≡ k → 8 * y ≡ k → x ≡ y
eight x y k a b = omega (arith, a, b)

module _ (program : Program) (layouts : Layouts) (settled : Settled program) (laid : IsLaidOut program layouts) where
  size-at-one : (node : TypeId) (capacity x y : ℕ) → MayHold program (Nodes node) → SizeAt program layouts.structures capacity node x → SizeAt program layouts.structures capacity node y → x ≡ y
  size-at-one node capacity x y may a b = let one = sizes-one program layouts settled laid capacity node may.0 may.1 in one.2 x a ∙ sym (one.2 y b)

  takes-one : (kind : Kind) (capacity x y : ℕ) → MayHold program kind → Takes program layouts capacity (element_type program kind) x → Takes program layouts capacity (element_type program kind) y → x ≡ y
  takes-one (Nodes node) capacity x y may a b = let same = size-at-one node capacity a.0 b.0 may a.1 b.1 in omega (arith, same, a.2, b.2)
  takes-one (Pointers node) capacity x y may a b = eight x y _ a b
  takes-one Strings capacity x y may a b = eight x y _ a b
  takes-one Chars capacity x y may a b = eight x y _ a b
  takes-one Raw capacity x y may a b = eight x y _ a b

  pub needs-one : (kind : Kind) (count capacity x y : ℕ) → MayHold program kind → Needs program layouts kind count capacity x → Needs program layouts kind count capacity y → x ≡ y
  needs-one kind count capacity x y may (size, takes, e) (other, takes_too, f) = e ∙ ap (λ n. count * n) (takes-one kind capacity size other may takes takes_too) ∙ sym f

  -- an object of a kind needs as much as this kind does
  pub size-one : (o : Object) (kind : Kind) (count capacity size bytes need : ℕ) → MayHold program kind → o.kind ≡ kind → o.count ≡ count → o.capacity ≡ capacity → IsSizeFor program layouts o size
      → Needs program layouts kind count capacity bytes → rounded bytes ≡ Some need → size ≡ need
  size-one o kind count capacity size bytes need may k n c (b, needs, r) takes round =
      let there : Needs program layouts kind count capacity b =
      subst (λ x. Needs program layouts kind count x b) c (subst (λ x. Needs program layouts kind x o.capacity b) n (subst (λ x. Needs program layouts x o.count o.capacity b) k needs)) in
      let same : b ≡ bytes = needs-one kind count capacity b bytes may there takes in
      some-same (rounded bytes) size need (subst (λ x. rounded x ≡ Some size) same r) round
