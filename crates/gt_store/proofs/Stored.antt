-- The bytes that were stored stand for the value.
use Rattle.std.proofs.Common.{◌≡◌, ℕ, List, length, ap, sym, subst, ◌∙◌}
use Rattle.gt_types.specs.declared.program.Program.{Program}
use Rattle.gt_types.specs.Settled.{Settled}
use Rattle.gt_layout.specs.declared.planes.Layouts.{Layouts}
use Rattle.gt_layout.specs.Planes.{IsLaidOut}
use Rattle.gt_space.specs.Range.{Range, IsInside, bytes_at, with_bytes}
use Rattle.gt_space.proofs.RangeLemmas.{bytes_at-with_bytes}
use Rattle.gt_tree.specs.Blocks.{element_type}
use Rattle.gt_tree.specs.Scopes.{outside}
use Rattle.gt_tree.specs.Leaves.{Leaf, Stand}
use Rattle.gt_tree.specs.LeafLaws.{AreBytesOf}
use Rattle.gt_tree.proofs.Bytes.{one-form}
use Rattle.gt_tree.proofs.OneList.{value-one_list, record-one_list}
use Rattle.gt_value.specs.Bytes.{itself}
use Rattle.gt_store.specs.Stored.{StoredStands, StoredStaticsStand}

-- the bytes of a form, written at an address, are read there
form-read : (old : Range) (address size : ℕ) (form : List ℕ) → IsInside old address size → length form ≡ size → bytes_at (with_bytes old address form) address size ≡ form
form-read old address size form inside long =
    ap (bytes_at (with_bytes old address form) address) (sym long) ∙ bytes_at-with_bytes old address form (subst (IsInside old address) (sym long) inside)

-- so what was written as leaves stand is read as leaves stand
form-stands : (old new : Range) (address size : ℕ) (leaves : List Leaf) (form : List ℕ) → IsInside old address size → AreBytesOf itself leaves size form → new ≡ with_bytes old address form
    → Stand itself leaves (bytes_at new address size)
form-stands old new address size leaves form inside bytes written =
    let read : bytes_at new address size ≡ form = ap (λ r. bytes_at r address size) written ∙ form-read old address size form inside bytes.long in
    subst (Stand itself leaves) (sym read) bytes.stand

module _ (program : Program) (layouts : Layouts) (settled : Settled program) (laid : IsLaidOut program layouts) where
  pub stored-stands : StoredStands program layouts
  stored-stands blocks statics kind capacity size address old new value held takes inside fits stored =
      let list = value-one_list program layouts settled laid blocks capacity (outside statics) (element_type program kind) value 0 fits in
      let form = one-form itself list.0 size in
      record {
        leaves = list.0;
        fits = fits;
        has = list.1;
        stand = form-stands old new address size list.0 form.0 inside form.1 (stored size list.0 form.0 takes list.1 form.1);
      }

  pub stored-statics-stand : StoredStaticsStand program layouts
  stored-statics-stand blocks old new values inside fits stored =
      let size = layouts.statics.size in
      let list = record-one_list program layouts settled laid blocks values fits in
      let form = one-form itself list.0 size in
      let written = stored list.0 form.0 list.1 form.1 in
      let start : new.start ≡ old.start = ap (λ r. r.start) written in
      record {
        leaves = list.0;
        fit = fits;
        have = list.1;
        stand = subst (λ a. Stand itself list.0 (bytes_at new a size)) (sym start) (form-stands old new old.start size list.0 form.0 inside form.1 written);
      }
