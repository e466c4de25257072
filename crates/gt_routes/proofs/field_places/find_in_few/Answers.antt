use Rattle.std.proofs.Common.{arith, ◌<◌, length, sym, ◌∙◌}
use Rattle.std.specs.Str.{bytes_eq}
use Rattle.std.proofs.lemmas.Option.{slice_get_within}
use Rattle.gt_types.specs.declared.program.Field.{Field}
use Rattle.gt_tree.proofs.PathBits.{position-get}
use Rattle.gt_routes.proofs.field_places.find_in_few.Goals as goal

pub overflow_cast-result : goal.overflow_cast-result
overflow_cast-result c =
    let at = position-get (λ (f : Field). bytes_eq f.name c.args.name.now) c.args.fields.now 0 c.in-Some.place (sym c.find_field.ensures ∙ c.in-Some.is) in
    let low : at.0 < length c.args.fields.now = slice_get_within c.args.fields.now at.0 at.1 at.3 in
    let few = c.requires.few in
    record { fits = omega (arith, low, at.2, few) }
