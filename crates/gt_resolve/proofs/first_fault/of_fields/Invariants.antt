use Rattle.std.proofs.Common.{◌≡◌, ℕ, List, [], take}
use Rattle.gt_resolve.specs.Faults.{fields_faults}
use Rattle.gt_drafts.specs.FirstFaults.{first_from}
use Rattle.gt_resolve.proofs.Firsts.{fields_after, names_of}
use Rattle.gt_resolve.proofs.NameTests.{is_among}
use Rattle.gt_resolve.proofs.first_fault.of_fields.Given as goal

-- the earliest of the faults of so many fields and of those of the others is the earliest of all, and the names are those of the fields
abbrev pub invariant-loop-place : goal.invariant-loop-place
invariant-loop-place l =
    record {
      earliest : first_from l.earliest (fields_after l.tails l.file l.in_union l.place l.fields) ≡ first_from l.initial.earliest (fields_faults l.tails l.file l.in_union [] l.fields);
      names : (word : List ℕ) → is_among word (names_of (take l.place l.fields)) ≡ is_among word l.names;
    }
