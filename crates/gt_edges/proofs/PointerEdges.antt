-- The row of a pointer gives the edge of the pointer.
use Rattle.std.proofs.Common.{◌≡◌, ℕ, zero, suc, ◌+◌, ◌/◌, ◌≤◌, Bool, true, cond, ◌&&◌, nat_le, List, [], ◌∷◌, length, ap, sym, subst, ◌∙◌, arith, Some, None, length-drop}
use Rattle.std.proofs.lemmas.Bool.{le-leb}
use Rattle.gt_types.specs.declared.types.Ty.{Ty}
use Rattle.gt_types.specs.Shapes.{is_pointer}
use Rattle.gt_space.specs.Range.{IsSpace}
use Rattle.gt_space.specs.Numbers.{u64_at}
use Rattle.gt_tree.specs.Trees.{Tree, Null, To}
use Rattle.gt_tree.specs.Blocks.{Block, Blocks}
use Rattle.gt_tree.specs.Leaves.{Leaf, HasLeaves}
use Rattle.gt_value.specs.declared.sources.Around.{Around}
use Rattle.gt_value.specs.declared.sources.Source.{Source}
use Rattle.gt_value.specs.Reading.{Stands, bits_number, bits_from, end_from}
use Rattle.gt_value.proofs.BitNumbers.{u64-number}
use Rattle.gt_value.proofs.LeafReads.{PointerAt, pointer-here}
use Rattle.gt_walk.specs.declared.rows.Count.{Count}
use Rattle.gt_walk.specs.Rows.{edge, Frame, word_at, pointer_edges, count_of}
use Rattle.gt_edges.specs.Numbers.{walk_of, walked}
use Rattle.gt_edges.proofs.LeafEdges.{null-edges, to-edges}
use Rattle.gt_edges.proofs.RowLaws.{base, IsAddress, edges_in}

-- the block of a name, with the walk and the count that a row gives for it
pub record Named (source : Source) (blocks : Blocks) (f : Frame) (walk : ℕ) (count : Count) (id : ℕ) : Type 0 where
  pub block : Block
  pub there : blocks id ≡ Some block
  pub walk_is : walk ≡ walk_of source.program.now block.kind
  pub count_is : count_of source.space.now f count ≡ walked block.kind block.count

same-edge : (place other target walk count walk' count' : ℕ) → place ≡ other → walk ≡ walk' → count ≡ count' → edge place target walk count ≡ edge other target walk' count'
same-edge place other target walk count walk' count' e f g = cc

both : (a b : Bool) → a ≡ true → b ≡ true → (a && b) ≡ true
both a b e f = grind (arith, e, f)

module _ (source : Source) (blocks : Blocks) (space : IsSpace source.space.now) where
  -- the bytes of a pointer lie in the space
  word-there : (place at : ℕ) → IsAddress source place at → at + 64 ≤ end_from source.space.now source.from → word_at source.space.now place ≡ Some (u64_at source.space.now place)
  word-there place at is inside =
      let range = source.space.now in
      let l = length-drop source.from range.bytes in
      let low : range.start ≤ place = omega (arith, is) in
      let high : place + 8 ≤ range.start + length range.bytes = omega (arith, is, inside, l) in
      ap (λ b. cond b (Some (u64_at range place)) None) (both (nat_le range.start place) (nat_le (place + 8) (range.start + length range.bytes)) (le-leb range.start place low) (le-leb (place + 8) (range.start + length range.bytes) high))

  word-is : (place at : ℕ) → IsAddress source place at → u64_at source.space.now place ≡ bits_number (bits_from source.space.now source.from) at 64
  word-is place at is = u64-number source.space.now source.from at place (omega (arith, is)) (omega (arith, is)) space.bytes

  module _ (type : Ty) (at : ℕ) (value : Tree) (leaves : List Leaf) (has : HasLeaves source.program.now source.layouts.now.structures at type value leaves) (f : Frame) (place walk : ℕ) (count : Count)
      (is : IsAddress source place at) (named : (id : ℕ) → value ≡ To id → Named source blocks f walk count id) where
    has-as : (v : Tree) → v ≡ value → HasLeaves source.program.now source.layouts.now.structures at type v leaves
    has-as v e = subst (λ x. HasLeaves source.program.now source.layouts.now.structures at type x leaves) (sym e) has

    null-given : Null ≡ value → [] ≡ edges_in source blocks leaves
    null-given e = sym (null-edges source.program.now blocks (base source) source.layouts.now.structures at type leaves (has-as Null e))

    to-given : (m : ℕ) → To (suc m) ≡ value → pointer_edges source.space.now f place walk count (Some (suc m)) ≡ edges_in source blocks leaves
    to-given m e =
        let n = named (suc m) (sym e) in
        let here : place ≡ base source + at / 8 = omega (arith, is) in
        ap (λ x. x ∷ []) (same-edge place (base source + at / 8) (suc m) walk (count_of source.space.now f count) (walk_of source.program.now n.block.kind) (walked n.block.kind n.block.count) here n.walk_is n.count_is)
        ∙ sym (to-edges source.program.now blocks (base source) source.layouts.now.structures at type (suc m) n.block leaves (has-as (To (suc m)) e) n.there)

    word-given : (w : ℕ) → bits_number (bits_from source.space.now source.from) at 64 ≡ w → PointerAt source at value → pointer_edges source.space.now f place walk count (Some w) ≡ edges_in source blocks leaves
    word-given zero e p = null-given (p.null e)
    word-given (suc m) e p = to-given m (ap To (sym e) ∙ p.to (λ h. absurd (omega (arith, e, h))))

    -- a pointer that stands at an address is the edge of its leaf
    pub pointer-given : (around : Around) → Stands source around type at value → is_pointer type ≡ true → around.whole ≡ true
        → pointer_edges source.space.now f place walk count (word_at source.space.now place) ≡ edges_in source blocks leaves
    pointer-given around s pointer whole =
        let p = pointer-here source around type at value s pointer whole in
        ap (pointer_edges source.space.now f place walk count) (word-there place at is p.inside)
        ∙ word-given (u64_at source.space.now place) (sym (word-is place at is)) p
