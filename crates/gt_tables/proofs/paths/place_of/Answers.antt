use Rattle.std.proofs.Common.{◌∙◌, ap}
use Rattle.std.specs.Str.{bytes_eq}
use Rattle.std.proofs.lemmas.Iterator.Adapters.{position_from-zero}
use Rattle.gt_fields.specs.Places.{bind, place_in}
use Rattle.gt_fields.proofs.NameLemmas.{names_are}
use Rattle.gt_tables.proofs.paths.place_of.Goals as goal

pub returns : goal.returns
returns c s has =
    let structures = c.args.source.now.program.now.structures in
    let layouts = c.args.source.now.layouts.now in
    let name = c.args.name.now in
    let names = names_are structures layouts.names (ap (λ n. n.structures) c.requires.source.laid.names) in
    c.place.ensures.place structures names ∙ ap (λ o. bind o (place_in name)) has ∙ position_from-zero (λ f. bytes_eq f.name name) s.fields
