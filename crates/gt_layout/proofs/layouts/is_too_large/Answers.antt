use Rattle.std.proofs.Common.{◌≡◌, ◌≤◌, ◌<◌, ℕ, true, ltb, Some, List, sym, ap, subst, ◌∙◌, inl, inr, arith}
use Rattle.std.proofs.lemmas.Bool.{ltb-true, lt-ltb}
use Rattle.std.proofs.lemmas.Option.{same_Some}
use Rattle.gt_types.specs.declared.types.Ty.{Ty}
use Rattle.gt_types.specs.declared.program.Structure.{Structure}
use Rattle.gt_types.specs.Tails.{tail_of}
use Rattle.gt_layout.specs.declared.planes.TheConstants.{MAX_SIZE}
use Rattle.gt_layout.specs.declared.planes.Extent.{Extent}
use Rattle.gt_layout.specs.declared.planes.Plane.{Plane}
use Rattle.gt_layout.specs.Storages.{extent_of, held_extent}
use Rattle.gt_layout.specs.Progress.{IsLarge}
use Rattle.gt_layout.proofs.layouts.is_too_large.Goals as goal

large_element : (known : List Plane) (s : Structure) (plane : Plane) (elem : Ty) (size : ℕ) → Some elem ≡ tail_of s.fields → plane.size ≤ MAX_SIZE → size ≡ (held_extent (extent_of known elem)).size
    → IsLarge known s plane → ltb MAX_SIZE size ≡ true
large_element known s plane elem size tail small is (inl large) = absurd (omega (arith, small, large))
large_element known s plane elem size tail small is (inr (other, there, large)) =
    let same : other ≡ elem = same_Some other elem (sym there ∙ sym tail) in
    let more : MAX_SIZE < (extent_of known elem).size = subst (λ (t : Ty). MAX_SIZE < (extent_of known t).size) same large in
    lt-ltb MAX_SIZE size (omega (arith, is, more))

pub returns-in-Some : goal.returns-in-Some
returns-in-Some c =
    let tail : Some c.in-Some.elem.now ≡ tail_of c.args.structure.now.fields = c.in-Some.ensures ∙ ap tail_of c.as_slice.ensures.items in
    let size : c.extent.result.size ≡ (held_extent (extent_of c.args.known.now c.in-Some.elem.now)).size = ap (λ (e : Extent). e.size) c.extent.ensures in (
      λ e. let large = ltb-true MAX_SIZE c.extent.result.size e in inr (c.in-Some.elem.now, sym tail, omega (arith, size, large)),
      large_element c.args.known.now c.args.structure.now c.args.plane.now c.in-Some.elem.now c.extent.result.size tail c.if-plane-gt-MAX_SIZE.false size,
    )
