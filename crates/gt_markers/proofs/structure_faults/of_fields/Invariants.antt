use Rattle.std.proofs.Common.{◌≡◌, [], take}
use Rattle.gt_drafts.specs.FirstFaults.{first_from}
use Rattle.gt_markers.specs.MarkerFaults.{fields_faults}
use Rattle.gt_markers.specs.Members.{AreMembers}
use Rattle.gt_markers.proofs.FieldLemmas.{rest_faults}
use Rattle.gt_markers.proofs.structure_faults.of_fields.Given as goal

-- The earliest of the faults of so many fields and of those of the others is the earliest of all; the fields so far are the members.
abbrev pub invariant-loop-place : goal.invariant-loop-place
invariant-loop-place l =
    record {
      found : first_from l.earliest (rest_faults l.draft l.structure l.place l.fields) ≡ first_from l.initial.earliest (fields_faults l.draft l.structure [] l.fields);
      members : AreMembers l.draft (take l.place l.fields) l.before;
    }
