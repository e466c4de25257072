-- The elements of blocks are fixed by their bytes.
use Rattle.std.proofs.Common.{◌+◌, ◌*◌, ◌≤◌, true, length, refl, subst}
use Rattle.gt_types.specs.declared.program.Program.{Program}
use Rattle.gt_types.specs.Settled.{Settled}
use Rattle.gt_layout.specs.declared.planes.Layouts.{Layouts}
use Rattle.gt_layout.specs.Planes.{IsLaidOut}
use Rattle.gt_tree.specs.Trees.{count}
use Rattle.gt_tree.specs.Blocks.{element_type}
use Rattle.gt_tree.specs.Scopes.{outside}
use Rattle.gt_tree.specs.LeafLaws.{IsTypeIn}
use Rattle.gt_tree.specs.FixedLaws.{bit_in, ValueIsFixed, ElementsAreFixed}
use Rattle.gt_tree.proofs.Known.{value-placed, elements-placed}
use Rattle.gt_tree.proofs.PathScopes.{reading-same}
use Rattle.gt_tree.proofs.FixedBits.{leaves-read}
use Rattle.gt_tree.proofs.FixedValues.{Alike, fixed, fixed_each}
use Rattle.gt_tree.proofs.FixedTwins.{Outside, given, assumed}

pub value-fixed : (program : Program) (layouts : Layouts) → Settled program → IsLaidOut program layouts → ValueIsFixed program layouts
value-fixed program layouts settled laid blocks statics kind capacity width at address bytes a b may addresses is_width room v w =
    let type = element_type program kind in
    let in_program = IsTypeIn.of_block kind in
    let placed = value-placed program layouts settled laid blocks capacity (outside statics) type width at a v.leaves in_program is_width v.fits v.has in
    let other_placed = value-placed program layouts settled laid blocks capacity (outside statics) type width at b w.leaves in_program is_width w.fits w.has in
    fixed (given program layouts blocks capacity address (bit_in bytes)) (Outside program statics statics)
    (assumed program layouts blocks capacity address (bit_in bytes) settled statics statics (reading-same program layouts settled laid) (λ i is. refl) addresses) v.fits (outside statics) b true at
    (Alike.at_start (Outside.of_block kind may)) w.fits (v.leaves, v.has, leaves-read address at (at + width) v.leaves bytes placed room v.stand)
    (w.leaves, w.has, leaves-read address at (at + width) w.leaves bytes other_placed room w.stand)

pub elements-fixed : (program : Program) (layouts : Layouts) → Settled program → IsLaidOut program layouts → ElementsAreFixed program layouts
elements-fixed program layouts settled laid blocks statics kind capacity width at address bytes a b may addresses is_width as_many room v w =
    let type = element_type program kind in
    let in_program = IsTypeIn.of_block kind in
    let other_room : at + count b * width ≤ 8 * length bytes = subst (λ n. at + n * width ≤ 8 * length bytes) as_many room in
    let placed = elements-placed program layouts settled laid blocks capacity (outside statics) type width at a v.leaves in_program is_width v.fit v.have in
    let other_placed = elements-placed program layouts settled laid blocks capacity (outside statics) type width at b w.leaves in_program is_width w.fit w.have in
    fixed_each (given program layouts blocks capacity address (bit_in bytes)) (Outside program statics statics)
    (assumed program layouts blocks capacity address (bit_in bytes) settled statics statics (reading-same program layouts settled laid) (λ i is. refl) addresses) v.fit (outside statics) b true width at
    (Alike.at_start (Outside.of_block kind may)) as_many w.fit (v.leaves, v.have, leaves-read address at (at + count a * width) v.leaves bytes placed room v.stand)
    (w.leaves, w.have, leaves-read address at (at + count b * width) w.leaves bytes other_placed other_room w.stand)
