-- A fault of the headers is of one of the texts.
use Rattle.std.proofs.Common.{◌≡◌, ℕ, suc, ◌+◌, ◌≤◌, List, [], ◌∷◌, length, refl, ap, ◌∙◌, inl, inr, length-append, arith}
use Rattle.gt_types.specs.declared.faults.Fault.{Fault}
use Rattle.gt_items.specs.declared.items.Items.{Items}
use Rattle.gt_resolve.proofs.FaultPlaces.{InFiles, first_fault_in, structures_in, roots_in, caches_in}
use Rattle.gt_headers.specs.Reading.{AreRead}
use Rattle.gt_headers.specs.Headers.{IsFirstFault}
use Rattle.gt_headers.proofs.OptionFiles.{of_options}
use Rattle.gt_headers.proofs.SizePlaces.{size_fault_in}

-- there are as many files as texts
as_many : (texts : List (List ℕ)) (files : List Items) → AreRead texts files → length files ≡ length texts
as_many [] [] read = refl
as_many [] (items ∷ files) read = absurd read
as_many (text ∷ texts) [] read = absurd read
as_many (text ∷ texts) (items ∷ files) read = let rest = as_many texts files read.1 in omega (arith, rest)

-- the first fault is of one of the texts
pub fault_within : (texts : List (List ℕ)) (fault : Fault) → IsFirstFault texts fault → (1 ≤ fault.file) × (fault.file ≤ length texts)
fault_within texts fault (inl r) =
    let file = r.file in
    let size : length texts ≡ length r.before + suc (length r.after) = ap length r.split ∙ length-append r.before (r.text ∷ r.after) in
    (omega (arith, file), omega (arith, file, size))
fault_within texts fault (inr (inl (files, read, first))) =
    let in_files : InFiles (length files) fault.file = first_fault_in files fault first in
    let many = as_many texts files read in
    (in_files.0, omega (arith, in_files.1, many))
fault_within texts fault (inr (inr (inl (draft, resolved, first)))) =
    let P = InFiles (length resolved.files) in
    let within = of_options P draft (structures_in resolved.files draft [] resolved.resolved) (roots_in resolved.files draft [] resolved.resolved) (caches_in resolved.files draft [] resolved.resolved) first.program fault first.there in
    let many = as_many texts resolved.files resolved.are_read in
    (within.0, omega (arith, within.1, many))
fault_within texts fault (inr (inr (inr large))) =
    let within = size_fault_in large.resolved.files large.program fault large.first in
    let many = as_many texts large.resolved.files large.resolved.are_read in
    (within.0, omega (arith, within.1, many))
