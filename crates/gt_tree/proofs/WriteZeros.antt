-- Two zero values of one type are one value: no bit of either is set, and a value is fixed by its bits.
use Rattle.std.proofs.Common.{ℕ, true, refl, sym, ◌∙◌, arith}
use Rattle.gt_types.specs.declared.types.Ty.{Ty}
use Rattle.gt_types.specs.declared.program.Program.{Program}
use Rattle.gt_types.specs.Settled.{Settled}
use Rattle.gt_layout.specs.declared.planes.Layouts.{Layouts}
use Rattle.gt_layout.specs.Planes.{IsLaidOut}
use Rattle.gt_layout.proofs.Ideal.{one_layout}
use Rattle.gt_tree.specs.Trees.{Tree, Trees}
use Rattle.gt_tree.specs.Blocks.{Blocks, element_type}
use Rattle.gt_tree.specs.Scopes.{outside}
use Rattle.gt_tree.specs.Fits.{IsZeroOf}
use Rattle.gt_tree.specs.FixedLaws.{AreStaticsOf}
use Rattle.gt_tree.specs.WriteLaws.{ZeroIsOne, ZeroRecordIsOne}
use Rattle.gt_tree.proofs.OneList.{value-one_list, record-one_list}
use Rattle.gt_tree.proofs.Bytes.{one-form}
use Rattle.gt_tree.proofs.PathScopes.{reading-same}
use Rattle.gt_tree.proofs.FixedRead.{IsRead}
use Rattle.gt_tree.proofs.FixedSame.{Got}
use Rattle.gt_tree.proofs.FixedValues.{Alike, fixed}
use Rattle.gt_tree.proofs.FixedTwins.{Outside, given, assumed}
use Rattle.gt_tree.proofs.FixedRecord.{record-fixed}
use Rattle.gt_tree.proofs.WriteLeaves.{no_blocks, no_address, no_bits, none-addressed, unnamed, unnamed_fields, noughts, noughts_fields, noughts-held, noughts-unset}

zero-read : (program : Program) (layouts : Layouts) → Settled program → IsLaidOut program layouts → (blocks : Blocks) (statics : Trees) (capacity : ℕ) (type : Ty) (tree : Tree)
    → IsZeroOf program blocks statics capacity type tree → IsRead program layouts.structures (Got no_address no_bits true) 0 type tree
zero-read program layouts settled laid blocks statics capacity type tree z =
    let found = value-one_list program layouts settled laid blocks capacity (outside statics) type tree 0 z.fits in
    (found.0, found.1, noughts-held found.0 (noughts found.1 z.zero))

pub zero-one : (program : Program) → Settled program → ZeroIsOne program
zero-one program settled blocks others statics kind capacity a b may z y =
    let one = one_layout program settled in
    let layouts = one.0 in
    fixed (given program layouts no_blocks capacity no_address no_bits) (Outside program statics statics)
    (assumed program layouts no_blocks capacity no_address no_bits settled statics statics (reading-same program layouts settled one.1) (λ i is. refl) none-addressed) (unnamed z.fits z.zero) (outside statics) b true 0
    (Alike.at_start (Outside.of_block kind may)) (unnamed y.fits y.zero)
    (zero-read program layouts settled one.1 blocks statics capacity (element_type program kind) a z)
    (zero-read program layouts settled one.1 others statics capacity (element_type program kind) b y)

pub zero-record-one : (program : Program) → Settled program → ZeroRecordIsOne program
zero-record-one program settled blocks others a b z y =
    let one = one_layout program settled in
    let layouts = one.0 in
    let mine = record-one_list program layouts settled one.1 blocks a z.fits in
    let theirs = record-one_list program layouts settled one.1 others b y.fits in
    let form = one-form no_address mine.0 layouts.statics.size in
    let long = form.1.long in
    let v : AreStaticsOf program layouts no_blocks no_address form.0 a = record { leaves = mine.0; fit = unnamed_fields z.fits z.zero; have = mine.1; stand = form.1.stand } in
    let w : AreStaticsOf program layouts no_blocks no_address form.0 b = record {
      leaves = theirs.0;
      fit = unnamed_fields y.fits y.zero;
      have = theirs.1;
      stand = λ i h. form.1.stand i h ∙ noughts-unset mine.0 i (noughts_fields mine.1 z.zero) ∙ sym (noughts-unset theirs.0 i (noughts_fields theirs.1 y.zero));
    } in
    record-fixed program layouts settled one.1 no_blocks no_address form.0 a b none-addressed (omega (arith, long)) v w
