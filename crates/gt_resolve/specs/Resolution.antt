-- What names and types of all headers come to: a draft, or the first fault.
use Rattle.std.specs.Prelude.{◌≡◌, Bool, List, []}
use Rattle.gt_types.specs.declared.faults.Fault.{Fault}
use Rattle.gt_types.specs.declared.faults.Stop.{Stop}
use Rattle.gt_types.specs.declared.faults.Stop.TheVariants.{Memory, At}
use Rattle.gt_items.specs.declared.items.Items.{Items}
use Rattle.gt_scope.specs.declared.meaning.TypedefMeaning.{TypedefMeaning}
use Rattle.gt_drafts.specs.declared.draft.Draft.{Draft}
use Rattle.gt_scope.specs.Declarations.{declarations}
use Rattle.gt_resolve.specs.Drafts.{draft_of}
use Rattle.gt_resolve.specs.Faults.{faults_of}
use Rattle.gt_drafts.specs.FirstFaults.{IsFirst}
use Rattle.gt_scope.specs.Meanings.{AreTypeNames}
use Rattle.gt_drafts.specs.Shapes.{AreShapes}

-- what the files declare, and the faults that they have
pub record IsRead (files : List Items) (draft : Draft) (faults : List Fault) : Type 0 where
  pub types : List TypedefMeaning
  pub cyclic : List Bool
  pub deep : List Bool
  pub tails : List Bool
  pub named : AreTypeNames (declarations files) types
  pub drafted : draft ≡ draft_of files (declarations files) types
  pub shaped : AreShapes draft.structures cyclic deep tails
  pub faulty : faults ≡ faults_of (declarations files) types draft cyclic deep tails

-- the files declare this, and have no fault of names and types
abbrev pub Resolves : List Items → Draft → Type 0
Resolves files draft = IsRead files draft []

-- the files have this first fault of names and types
pub record HasFirstFault (files : List Items) (fault : Fault) : Type 0 where
  pub draft : Draft
  pub faults : List Fault
  pub is_read : IsRead files draft faults
  pub is_first : IsFirst faults fault

-- out of memory, or the first fault
abbrev pub IsResolveStop : List Items → Stop → Type 0
IsResolveStop files Memory = Unit {0}
IsResolveStop files (At fault) = HasFirstFault files fault
