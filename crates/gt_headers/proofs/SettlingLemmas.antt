-- What the steps of the work on texts come to.
use Rattle.std.proofs.Common.{◌≡◌, ℕ, true, false, List, length, sym, subst, inr}
use Rattle.gt_types.specs.declared.faults.Fault.{Fault}
use Rattle.gt_types.specs.declared.faults.Stop.{Stop}
use Rattle.gt_types.specs.declared.faults.Stop.TheVariants.{Memory, At}
use Rattle.gt_types.specs.declared.program.Program.{Program}
use Rattle.gt_items.specs.declared.items.Items.{Items}
use Rattle.gt_drafts.specs.declared.draft.Draft.{Draft}
use Rattle.gt_resolve.specs.Placings.{faults_from}
use Rattle.gt_resolve.specs.Resolution.{Resolves}
use Rattle.gt_rules.specs.Faults.{Declares as DeclaresProgram}
use Rattle.gt_headers.specs.Headers.{Declares, IsHeaderStop}
use Rattle.gt_headers.specs.Reading.{AreRead}
use Rattle.gt_headers.specs.Sizes.{IsSizeFault}
use Rattle.gt_headers.specs.Stops.{IsSizeStop}
use Rattle.gt_headers.proofs.SizePlaces.{count_roots, count_structures}

module _ (texts : List (List ℕ)) (files : List Items) (draft : Draft) (read : AreRead texts files) (resolved : Resolves files draft) where
  module _ (program : Program) (declares : DeclaresProgram draft program) (shown : List Items) (same : shown ≡ files) where
    pub structures_in : length program.structures ≡ length (faults_from true 1 shown)
    structures_in = subst (λ (fs : List Items). length program.structures ≡ length (faults_from true 1 fs)) (sym same) (count_structures files draft program resolved declares.made)

    pub roots_in : length program.roots ≡ length (faults_from false 1 shown)
    roots_in = subst (λ (fs : List Items). length program.roots ≡ length (faults_from false 1 fs)) (sym same) (count_roots files draft program resolved declares.made)

    -- a program that is not too large
    pub declares_by : ((fault : Fault) → ¬ IsSizeFault shown program fault) → Declares texts program
    declares_by sized = (
      draft,
      record {
        resolved = record { files = files; are_read = read; resolved = resolved };
        declares = declares;
        sized = λ fault f. sized fault (subst (λ (fs : List Items). IsSizeFault fs program fault) (sym same) f);
      },
    )

    -- a program that is, or no memory to lay it out
    pub size_stop : (stop : Stop) → IsSizeStop shown program stop → IsHeaderStop texts stop
    size_stop Memory stopped = tt
    size_stop (At fault) f =
        inr (inr (inr (record {
          draft = draft;
          resolved = record { files = files; are_read = read; resolved = resolved };
          program = program;
          declares = declares;
          first = subst (λ (fs : List Items). IsSizeFault fs program fault) same f;
        })))
