-- It cannot be that files come to nothing.
use Rattle.std.proofs.Common.{◌≡◌, suc, Bool, List, [], ◌∷◌, length, Option, Some, None, refl}
use Rattle.gt_types.specs.declared.faults.Fault.{Fault}
use Rattle.gt_items.specs.declared.items.Items.{Items}
use Rattle.gt_types.specs.declared.limits.TheConstants.{MAX_DEPTH}
use Rattle.gt_drafts.specs.declared.draft.Draft.{Draft}
use Rattle.gt_drafts.specs.declared.draft.DraftStructure.{DraftStructure}
use Rattle.gt_scope.specs.declared.meaning.TypedefMeaning.{TypedefMeaning}
use Rattle.gt_scope.specs.Declarations.{declarations}
use Rattle.gt_resolve.specs.Drafts.{draft_of}
use Rattle.gt_resolve.specs.Faults.{faults_of}
use Rattle.gt_scope.specs.Meanings.{AreTypeNames}
use Rattle.gt_resolve.specs.Resolution.{IsRead}
use Rattle.gt_drafts.specs.Shapes.{AreShapes, Holds, IsNested, IsTail}
use Rattle.gt_drafts.specs.FirstFaults.{first_from, IsFirstOf}
use Rattle.gt_markers.proofs.Firsts.{first_from_first}
use Rattle.gt_exists.specs.Outcomes.{HasResolution}
use Rattle.gt_exists.proofs.NotNot.{NotNot, holds, and_then}
use Rattle.gt_exists.proofs.Meanings.{type_names}
use Rattle.gt_exists.proofs.Flags.{flags_of}

-- ---- shapes

record Shaped (structures : List DraftStructure) : Type 0 where
  cyclic : List Bool
  deep : List Bool
  tails : List Bool
  shapes : AreShapes structures cyclic deep tails

shaped : (structures : List DraftStructure) → NotNot (Shaped structures)
shaped structures =
    let count = length structures in
    and_then (flags_of count (λ i. Holds structures i i))
    (λ cycles.
    and_then (flags_of count (λ i. IsNested structures (suc MAX_DEPTH) i))
    (λ depths.
    and_then (flags_of count (λ i. IsTail structures i))
    (λ tail_types.
    holds
    (record {
      cyclic = cycles.0;
      deep = depths.0;
      tails = tail_types.0;
      shapes =
          record {
            counts = (cycles.1.counted, depths.1.counted, tail_types.1.counted);
            cycles = cycles.1.each;
            depths = depths.1.each;
            tail_types = tail_types.1.each;
          };
    }))))

-- ---- the outcome

some_fault : (fault : Fault) (faults : List Fault) → fault ∷ faults ≡ [] → ⊥
some_fault fault faults h = cc h

module _ (files : List Items) where
  by_first : (draft : Draft) (fault : Fault) (faults : List Fault) → IsRead files draft (fault ∷ faults)
      → (first : Option Fault) → IsFirstOf (fault ∷ faults) first → HasResolution files
  by_first draft fault faults read None none = absurd (some_fault fault faults none)
  by_first draft fault faults read (Some first) is =
      HasResolution.has_fault first (record { draft = draft; faults = fault ∷ faults; is_read = read; is_first = is })

  by_faults : (draft : Draft) (faults : List Fault) → IsRead files draft faults → HasResolution files
  by_faults draft [] read = HasResolution.has_draft draft read
  by_faults draft (fault ∷ faults) read =
      by_first draft fault faults read (first_from None (fault ∷ faults)) (first_from_first (fault ∷ faults))

  resolved : (types : List TypedefMeaning) → AreTypeNames (declarations files) types → Shaped (draft_of files (declarations files) types).structures → HasResolution files
  resolved types named s =
      let draft = draft_of files (declarations files) types in
      by_faults draft (faults_of (declarations files) types draft s.cyclic s.deep s.tails)
      (record {
        types = types;
        cyclic = s.cyclic;
        deep = s.deep;
        tails = s.tails;
        named = named;
        drafted = refl;
        shaped = s.shapes;
        faulty = refl;
      })

  pub some_resolution : NotNot (HasResolution files)
  some_resolution =
      and_then (type_names (declarations files))
      (λ names.
      and_then (shaped (draft_of files (declarations files) names.0).structures) (λ s. holds (resolved names.0 names.1 s)))
