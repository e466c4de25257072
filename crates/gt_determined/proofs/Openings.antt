-- The state from which a run begins is good.
use Rattle.std.proofs.Common.{◌≡◌, ℕ, ◌≤◌, List, [], ◌∷◌, map, refl, ap, sym, subst, ◌∙◌, arith, Option, None}
use Rattle.std.specs.Prelude.{All, AllPairs}
use Rattle.std.specs.List.{AllZip}
use Rattle.std.specs.Ordering.{nat_cmp}
use Rattle.std.specs.Cmp.Lexicographic.{slice_cmp}
use Rattle.std.specs.FinMap as fin
use Rattle.std.proofs.lemmas.List.Elements.{All-nil}
use Rattle.gt_types.specs.declared.program.Cache.{Cache}
use Rattle.gt_types.specs.declared.program.Program.{Program}
use Rattle.gt_layout.specs.declared.planes.Layouts.{Layouts}
use Rattle.gt_space.specs.declared.TheConstants.{MIN_PAGES, MAX_PAGES}
use Rattle.gt_tree.specs.Fits.{StaticsFit}
use Rattle.gt_io.specs.Held.{Held}
use Rattle.gt_pages.specs.Ledger.{Sound}
use Rattle.gt_graph.specs.Objects.{Object, blocks_of, pairs_in}
use Rattle.gt_graph.specs.Places.{Places, ArePlacesOf, ledger_of}
use Rattle.gt_graph.specs.Good.{IsObject, ArePairsOf, IsGraph}
use Rattle.gt_types.specs.declared.limits.TheConstants.{MAX_MIN_EXPAND, MAX_MIN_HEAPSIZE}
use Rattle.gt_next.specs.States.{State, IsOpening, IsGoodState, meaning, count_of_variables}

none-in : (caches : List Cache) → pairs_in (map (λ cache. []) caches) ≡ 0
none-in [] = refl
none-in (cache ∷ caches) = none-in caches

no-pairs-fit : (objects : List Object) (caches : List Cache) → AllZip (ArePairsOf objects) caches (map (λ cache. []) caches)
no-pairs-fit objects [] = tt
no-pairs-fit objects (cache ∷ caches) = (record { singles = All-nil _; distinct = λ i j d lt within. absurd (omega arith) }, no-pairs-fit objects caches)

-- the places of no object
no-places : ℕ → Places
no-places pages = record { placed = []; image = record { first = 0; count = 0 }; pages = pages }

sound-empty : (pages : ℕ) → Sound (ledger_of (no-places pages))
unfolding no-places
sound-empty pages = record { in_space = All-nil _; apart = tt; sides = All-nil _; places = All-nil _ }

empty-places : (program : Program) (layouts : Layouts) (pages : ℕ) → ArePlacesOf program layouts [] (no-places pages)
unfolding no-places
empty-places program layouts pages = record {
  names = refl;
  by_address = All-nil _;
  rising = λ i p q e h. absurd (cc);
  sound = sound-empty pages;
  sizes = λ o p contains there same. absurd (omega (arith, contains.1));
}

module _ (program : Program) (layouts : Layouts) (s : State) {pages min_expand min_heapsize : ℕ} {told : Option Held} (o : IsOpening program pages min_expand min_heapsize told s) where
  opening-graph : IsGraph program s.heap.graph
  opening-graph = record {
    distinct = subst (λ xs. AllPairs (λ a b. a.id ≡ b.id → ⊥) xs) (sym o.objects) (λ i j d lt within. absurd (omega arith));
    objects = subst (λ xs. All (IsObject program s.heap.graph) xs) (sym o.objects) (All-nil _);
    statics = subst (λ xs. StaticsFit program (blocks_of xs) s.heap.graph.statics) (sym o.objects) o.statics.fits;
    pairs = subst (λ ps. AllZip (ArePairsOf s.heap.graph.objects) program.caches ps) (sym o.pairs) (no-pairs-fit s.heap.graph.objects program.caches);
    few_pairs = let none = ap pairs_in o.pairs ∙ none-in program.caches in omega (arith, none);
  }

  opening-places : ArePlacesOf program layouts s.heap.graph.objects s.heap.places
  unfolding no-places
  opening-places = subst (λ xs. ArePlacesOf program layouts xs s.heap.places) (sym o.objects) (subst (λ ps. ArePlacesOf program layouts [] ps) (sym o.places) (empty-places program layouts pages))

  no-variable : (name : List ℕ) → meaning s.variables name ≡ None
  no-variable name = ap (λ v. meaning v name) o.variables ∙ fin.get-empty (slice_cmp nat_cmp) name

  pub opening-good : MIN_PAGES ≤ pages → pages ≤ MAX_PAGES → min_expand ≤ MAX_MIN_EXPAND → min_heapsize ≤ MAX_MIN_HEAPSIZE → IsGoodState program layouts s
  opening-good some few expand size = record {
    heap = record { graph = opening-graph; places = opening-places };
    variables = λ name id e. let none = no-variable name in absurd (cc);
    few_variables = let none : count_of_variables s.variables ≡ 0 = ap count_of_variables o.variables ∙ fin.len-empty (slice_cmp nat_cmp) ℕ in omega (arith, none);
    pages = let same : s.heap.places.pages ≡ pages = ap (λ p. p.pages) o.places in (omega (arith, same, some), omega (arith, same, few));
    min_expand = let same = o.min_expand_is in omega (arith, same, expand);
    min_heapsize = let same = o.min_heapsize_is in omega (arith, same, size);
    last = let same = o.last in omega (arith, same);
  }
