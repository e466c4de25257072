use Rattle.std.specs.Prelude.{not}
use Rattle.std.proofs.lemmas.Bool.Decides.{Decides-not}
use Rattle.gt_markers.specs.declared.TheConstants.{CACHE_SHAPE}
use Rattle.gt_declare.specs.Programs.{key_type}
use Rattle.gt_rules.specs.Faults.{StandsAlone}
use Rattle.gt_rules.proofs.FirstLemmas.{first_if}
use Rattle.gt_rules.proofs.caches.of_cache.Goals as goal

pub returns : goal.returns
returns c =
    let draft = c.args.known.draft.now in
    let program = c.args.known.program.now in
    let cache = c.args.cache.now in
    record {
      first =
          first_if c.args.earliest c.with_fault.result (not c.stand_alone-stand.result) (¬ (StandsAlone draft program (key_type cache.key) × StandsAlone draft program (key_type cache.value))) CACHE_SHAPE cache.file
          cache.name.at c.with_fault.ensures.same (Decides-not c.stand_alone-stand.result c.stand_alone-stand.ensures.decides);
    }
