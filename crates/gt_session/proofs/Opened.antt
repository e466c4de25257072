-- The state for which a new session stands.
use Rattle.std.proofs.Common.{◌≡◌, ◌≤◌, ◌∙◌, ℕ, List, [], ◌∷◌, None, Some, Option, length, map, replicate, refl, ap, sym, arith}
use Rattle.std.specs.Ordering.{nat_cmp}
use Rattle.std.specs.Cmp.Lexicographic.{slice_cmp}
use Rattle.std.specs.FinMap as fin
use Rattle.gt_types.specs.declared.program.Cache.{Cache}
use Rattle.gt_space.specs.declared.TheConstants.{MAX_PAGES, MIN_PAGES}
use Rattle.gt_tree.specs.Trees.{Trees}
use Rattle.gt_tree.specs.Fits.{IsZeroRecord}
use Rattle.gt_io.specs.Held.{Held}
use Rattle.gt_graph.specs.Objects.{blocks_of}
use Rattle.gt_objects.specs.Holding.{IsHeapOf, opening}
use Rattle.gt_types.specs.declared.limits.TheConstants.{MAX_MIN_EXPAND, MAX_MIN_HEAPSIZE}
use Rattle.gt_next.specs.States.{IsOpening, State, count_of_variables, meaning, no_variables}
use Rattle.gt_schema.specs.Schemas.{IsSchema}
use Rattle.gt_caches.specs.Pairs.{pairs_of}
use Rattle.gt_session.specs.declared.session.Session.{Session}
use Rattle.gt_session.specs.Sessions.{StandsFor}

-- so many caches without a pair have no pairs
none-paired : (caches : List Cache) → map (λ cache. []) caches ≡ pairs_of (replicate (length caches) [])
none-paired [] = refl
none-paired (cache ∷ caches) = ap (λ pairs. [] ∷ pairs) (none-paired caches)

pub opened : (session : Session) (pages : ℕ) (values : Trees) → IsZeroRecord session.schema.program (blocks_of []) values → IsSchema session.schema
    → IsHeapOf session.schema.program session.schema.layouts session.objects (opening session.schema.program pages values) → MIN_PAGES ≤ pages → pages ≤ MAX_PAGES
    → session.min_expand ≤ MAX_MIN_EXPAND → session.min_heapsize ≤ MAX_MIN_HEAPSIZE → session.vars ≡ no_variables → session.caches ≡ replicate (length session.schema.program.caches) [] → session.last ≡ 0 → session.rounds ≡ 0 → (told : Option Held)
    → (s : State) × IsOpening session.schema.program pages session.min_expand session.min_heapsize told s × StandsFor session told s
opened session pages values zero schema holds some few expand size none no_pairs last rounds told = (
  record {
    heap = opening session.schema.program pages values;
    variables = session.vars;
    min_expand = session.min_expand;
    min_heapsize = session.min_heapsize;
    last = session.last;
    rounds = session.rounds;
    files = told;
  },
  record {
    objects = refl;
    statics = zero;
    pairs = refl;
    places = refl;
    variables = none;
    min_expand_is = refl;
    min_heapsize_is = refl;
    last = last;
    rounds = rounds;
    files = refl;
  },
  record {
    holds = record {
      schema = schema;
      heap = holds;
      pairs = none-paired session.schema.program.caches ∙ ap pairs_of (sym no_pairs);
      variables = refl;
      min_expand = refl;
      min_heapsize = refl;
      last = refl;
      rounds = refl;
      files = refl;
    };
    good = record {
      heap = holds.good;
      variables = λ name id e. let unbound : meaning session.vars name ≡ None = ap (λ v. meaning v name) none ∙ fin.get-empty (slice_cmp nat_cmp) name in absurd (cc);
      few_variables = let unbound : count_of_variables session.vars ≡ 0 = ap count_of_variables none ∙ fin.len-empty (slice_cmp nat_cmp) ℕ in omega (arith, unbound);
      pages = (some, few);
      min_expand = expand;
      min_heapsize = size;
      last = omega (arith, last);
    };
  },
)
