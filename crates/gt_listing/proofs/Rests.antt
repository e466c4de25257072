-- Lines of lists from a place on.
use Rattle.std.proofs.Common.{◌≡◌, ◌++◌, ℕ, zero, suc, ◌+◌, List, [], ◌∷◌, Some, slice_get, drop, sym, ap, ◌∙◌, arith}
use Rattle.std.proofs.lemmas.List.{append_assoc}
use Rattle.gt_types.specs.declared.program.Field.{Field}
use Rattle.gt_types.specs.declared.program.Program.{Program}
use Rattle.gt_layout.specs.declared.planes.FieldSpot.{FieldSpot}
use Rattle.gt_listing.specs.Listing.{field_line, field_lines}

module _ (program : Program) where
  field-next : (fields : List Field) (spots : List FieldSpot) (i : ℕ) (f : Field) (s : FieldSpot) → slice_get fields i ≡ Some f → slice_get spots i ≡ Some s
      → field_lines program (drop i fields) (drop i spots) ≡ field_line program f s ++ field_lines program (drop (suc i) fields) (drop (suc i) spots)
  field-next [] spots i f s there at = absurd (cc)
  field-next (g ∷ fields) [] i f s there at = absurd (cc)
  field-next (g ∷ fields) (t ∷ spots) zero f s there at =
      let same : g ≡ f = cc in let here : t ≡ s = cc in ap (λ x. field_line program x t ++ field_lines program fields spots) same ∙ ap (λ x. field_line program f x ++ field_lines program fields spots) here
  field-next (g ∷ fields) (t ∷ spots) (suc i) f s there at = field-next fields spots i f s there at

  pub field-step : (fields : List Field) (spots : List FieldSpot) (i : ℕ) (f : Field) (s : FieldSpot) (text new all : List ℕ) → slice_get fields i ≡ Some f → slice_get spots i ≡ Some s
      → new ≡ text ++ field_line program f s → text ++ field_lines program (drop i fields) (drop i spots) ≡ all → new ++ field_lines program (drop (i + 1) fields) (drop (i + 1) spots) ≡ all
  field-step fields spots i f s text new all there at added before =
      let next : suc i ≡ i + 1 = omega arith in
      ap (λ k. new ++ field_lines program (drop k fields) (drop k spots)) (sym next)
      ∙ ap (λ t. t ++ field_lines program (drop (suc i) fields) (drop (suc i) spots)) added
      ∙ append_assoc text (field_line program f s) (field_lines program (drop (suc i) fields) (drop (suc i) spots))
      ∙ ap (λ t. text ++ t) (sym (field-next fields spots i f s there at)) ∙ before
