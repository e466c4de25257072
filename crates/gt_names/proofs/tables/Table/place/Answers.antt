use Rattle.std.proofs.Common.{◌∙◌, ap, position}
use Rattle.std.specs.Str.{bytes_eq}
use Rattle.gt_names.proofs.TableLemmas.{position-map}
use Rattle.gt_names.proofs.tables.Table.place.Goals as goal

pub returns : goal.returns
returns g c =
    record {
      place =
          c.get.ensures.place ∙ ap (position (λ name. bytes_eq name c.args.name.now)) c.self.invariant
          ∙ position-map (λ e. e.name) (λ name. bytes_eq name c.args.name.now) c.self.inside.entries.items
          ∙ ap (λ es. position (λ e. bytes_eq e.name c.args.name.now) es) c.self.view_is;
    }
