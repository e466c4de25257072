use Rattle.std.proofs.Common.{ap, sym, ◌∙◌}
use Rattle.std.specs.List.{position_from}
use Rattle.std.specs.Str.{bytes_eq}
use Rattle.std.proofs.lemmas.Iterator.Adapters.{position_from-zero}
use Rattle.gt_types.specs.declared.program.Field.{Field}
use Rattle.gt_fields.specs.Places.{bind, place_in}
use Rattle.gt_routes.proofs.field_places.place_of_field.Goals as goal

pub returns : goal.returns
returns c =
    let name = c.args.name.now in
    let s = c.in_ok-structure.structure.now in
    record {
      place = c.find_in_few.ensures.place ∙ ap (position_from (λ (f : Field). bytes_eq f.name name) 0) c.as_slice.ensures.items ∙ sym (position_from-zero (λ (f : Field). bytes_eq f.name name) s.fields)
          ∙ ap (λ o. bind o (place_in name)) c.in_ok-structure.ensures.item;
    }
