-- How many bytes an element takes that is no structure.
use Rattle.std.proofs.Common.{◌≡◌, ℕ, ◌*◌, false, List, Some, None, refl, sym, ap, ◌∙◌}
use Rattle.gt_types.specs.declared.types.Ty.{Ty}
use Rattle.gt_types.specs.declared.types.Ty.TheVariants as ty
use Rattle.gt_types.specs.declared.types.Ty.TheVariants.{outs-Num, outs-Ptr, outs-Str}
use Rattle.gt_types.specs.declared.types.PtrKind.TheVariants as kind
use Rattle.gt_types.specs.declared.types.Scalar.TheVariants as scalar
use Rattle.gt_types.specs.declared.types.Target.TheVariants as target
use Rattle.gt_types.specs.declared.types.TypeId.{TypeId}
use Rattle.gt_types.specs.declared.types.Width.TheVariants.{W1}
use Rattle.gt_types.specs.declared.program.Program.{Program}
use Rattle.gt_types.specs.Tails.{elements_at, elements_of}
use Rattle.gt_layout.specs.declared.planes.Plane.{Plane}
use Rattle.gt_layout.specs.declared.planes.Layouts.{Layouts}
use Rattle.gt_layout.specs.Storages.{extent_of}
use Rattle.gt_tree.specs.Blocks.{Pointers, Strings, Chars, Raw, element_type}
use Rattle.gt_tree.specs.LeafLaws.{bytes_with}
use Rattle.gt_tree.proofs.Types.{extent-number, extent-pointer}
use Rattle.gt_value.specs.Bytes.{Takes}

plain_width : (planes : List Plane) (capacity : ℕ) (type : Ty) (size : ℕ) → elements_of type ≡ None → (extent_of planes type).size ≡ size → 8 * size ≡ 8 * bytes_with planes capacity type (elements_of type)
plain_width planes capacity type size none long = ap (λ n. 8 * n) (sym long) ∙ ap (λ o. 8 * bytes_with planes capacity type o) (sym none)

module _ (program : Program) (layouts : Layouts) (capacity : ℕ) where
  pub pointers_take : (node : TypeId) → Takes program layouts capacity (element_type program (Pointers node)) 8
  pointers_take node =
      let type : Ty = ty.Ptr (Some (target.Node node)) kind.Plain false in
      plain_width layouts.structures capacity type 8 (ap elements_at (outs-Ptr (Some (target.Node node)) kind.Plain false)) (extent-pointer layouts.structures type refl)

  pub strings_take : Takes program layouts capacity (element_type program Strings) 8
  strings_take =
      let type : Ty = ty.Str None in
      plain_width layouts.structures capacity type 8 (ap elements_at (outs-Str None)) (extent-pointer layouts.structures type refl)

  byte_takes : 8 * 1 ≡ 8 * bytes_with layouts.structures capacity (ty.Num (scalar.Int W1 false)) (elements_of (ty.Num (scalar.Int W1 false)))
  byte_takes =
      plain_width layouts.structures capacity (ty.Num (scalar.Int W1 false)) 1 (ap elements_at (outs-Num (scalar.Int W1 false))) (extent-number layouts.structures (scalar.Int W1 false))

  pub chars_take : Takes program layouts capacity (element_type program Chars) 1
  chars_take = byte_takes

  pub raw_takes : Takes program layouts capacity (element_type program Raw) 1
  raw_takes = byte_takes
