use Rattle.std.proofs.Common.{◌∙◌, [], ap}
use Rattle.gt_types.specs.declared.program.Structure.{Structure}
use Rattle.gt_types.specs.declared.program.Root.{Root}
use Rattle.gt_types.specs.declared.program.Cache.{Cache}
use Rattle.gt_types.specs.declared.program.Typedef.{Typedef}
use Rattle.gt_kinds.specs.Places.{places_from}
use Rattle.gt_kinds.proofs.PlaceLemmas.{name_found}
use Rattle.gt_kinds.proofs.index.ProgramNames.of.Goals as goal

pub returns : goal.returns
returns c = record {
  names = record {
    tags = name_found (λ (s : Structure). s.name) c.in_ok-tags.tags c.args.program.now.structures (c.in_ok-tags.ensures.places ∙ ap (places_from (λ (s : Structure). s.name) [] 0) c.as_slice-structures.ensures.items);
    roots = name_found (λ (r : Root). r.name) c.in_ok-roots.roots c.args.program.now.roots (c.in_ok-roots.ensures.places ∙ ap (places_from (λ (r : Root). r.name) [] 0) c.as_slice-globals.ensures.items);
    caches = name_found (λ (s : Cache). s.name) c.in_ok-caches.caches c.args.program.now.caches (c.in_ok-caches.ensures.places ∙ ap (places_from (λ (s : Cache). s.name) [] 0) c.as_slice-tables.ensures.items);
    words = name_found (λ (w : Typedef). w.name) c.in_ok-words.words c.args.program.now.words (c.in_ok-words.ensures.places ∙ ap (places_from (λ (w : Typedef). w.name) [] 0) c.as_slice-typedefs.ensures.items);
    standing = c.in_ok-standing.ensures.index;
  };
}
