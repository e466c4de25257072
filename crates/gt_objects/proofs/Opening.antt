-- The heap from which a run begins.
use Rattle.std.proofs.Common.{◌≡◌, ℕ, ◌≤◌, List, [], ◌∷◌, length, map, replicate, refl, sym, ap, subst, ◌∙◌, arith}
use Rattle.std.specs.Prelude.{All}
use Rattle.std.specs.List.{AllZip}
use Rattle.std.proofs.lemmas.List.{length-replicate}
use Rattle.std.proofs.lemmas.Option.{none-some}
use Rattle.std.proofs.lemmas.List.Elements.{All-nil}
use Rattle.gt_types.specs.declared.program.Cache.{Cache}
use Rattle.gt_types.specs.declared.program.Program.{Program}
use Rattle.gt_types.specs.Settled.{Settled}
use Rattle.gt_layout.specs.declared.planes.Layouts.{Layouts}
use Rattle.gt_layout.specs.Planes.{IsLaidOut}
use Rattle.gt_space.specs.Range.{Range, IsSized, fresh_range, space_len}
use Rattle.gt_tree.specs.Trees.{Trees}
use Rattle.gt_tree.specs.Fits.{IsZeroRecord}
use Rattle.gt_pages.specs.Contents.{empty_contents, ledger_of as page_ledger}
use Rattle.gt_graph.specs.Objects.{blocks_of, pairs_in}
use Rattle.gt_graph.specs.Places.{address_in}
use Rattle.gt_graph.specs.Good.{ArePairsOf, IsGood}
use Rattle.gt_graph.specs.Stands.{Stands}
use Rattle.gt_objects.specs.declared.objects.Objects.{Objects}
use Rattle.gt_objects.specs.Holding.{IsHeapOf, opening}
use Rattle.gt_objects.proofs.Items.{none_there}
use Rattle.gt_objects.proofs.Standing.{zero_record_stands}
use Rattle.gt_objects.proofs.Zeros.{zeros_are, zeros_at, is_zero}

no_pairs : (caches : List Cache) → AllZip (ArePairsOf []) caches (map (λ cache. []) caches)
no_pairs [] = tt
no_pairs (c ∷ caches) = (record { singles = All-nil _; distinct = λ i j d before low. absurd (let no : 1 ≤ 0 = omega (arith, low) in omega (arith, no)) }, no_pairs caches)

few_pairs : (caches : List Cache) → pairs_in (map (λ cache. []) caches) ≡ 0
few_pairs [] = refl
few_pairs (c ∷ caches) = few_pairs caches

pub opening_good : (program : Program) (layouts : Layouts) (pages : ℕ) (statics : Trees) → IsZeroRecord program (blocks_of []) statics → IsGood program layouts (opening program pages statics)
opening_good program layouts pages statics zero = record {
  graph = record {
    distinct = λ i j d before low. absurd (let no : 1 ≤ 0 = omega (arith, low) in omega (arith, no));
    objects = All-nil _;
    statics = zero.fits;
    pairs = no_pairs program.caches;
    few_pairs = let none = few_pairs program.caches in omega (arith, none);
  };
  places = record {
    names = refl;
    by_address = All-nil _;
    rising = λ i p q e f. absurd (none-some p e);
    sound = record { in_space = All-nil _; apart = tt; sides = All-nil _; places = All-nil _ };
    sizes = λ o p here there named. none_there o here;
  };
}

pub opening_stands : (program : Program) (layouts : Layouts) (pages : ℕ) (statics : Trees) (range : Range) → Settled program → IsLaidOut program layouts → IsZeroRecord program (blocks_of []) statics
    → range ≡ fresh_range pages layouts.statics.size → IsSized range pages layouts.statics.size → Stands program layouts (opening program pages statics) range
opening_stands program layouts pages statics range settled laid zero fresh sized = record {
  sized = sized;
  statics = zero_record_stands program layouts settled laid (blocks_of []) statics (address_in []) range zero.fits zero.zero
      (zeros_at range range.start layouts.statics.size (subst (λ r. All is_zero r.bytes) (sym fresh) (zeros_are (space_len pages layouts.statics.size))));
  objects = λ o p here there named. none_there o here;
}

pub opening_is : (program : Program) (layouts : Layouts) (pages : ℕ) (statics : Trees) (objects : Objects) → Settled program → IsLaidOut program layouts → IsZeroRecord program (blocks_of []) statics
    → objects.space ≡ fresh_range pages layouts.statics.size → IsSized objects.space pages layouts.statics.size → objects.pages ≡ empty_contents pages → objects.directory.shelves ≡ replicate pages []
    → IsHeapOf program layouts objects (opening program pages statics)
opening_is program layouts pages statics objects settled laid zero fresh sized empty shelves = record {
  good = opening_good program layouts pages statics zero;
  stands = opening_stands program layouts pages statics objects.space settled laid zero fresh sized;
  ledger = ap page_ledger empty;
  shelves = ap length shelves ∙ length-replicate pages [];
  told = λ o p here there named. none_there o here;
}
