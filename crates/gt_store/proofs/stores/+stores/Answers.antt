use Rattle.std.proofs.Common.{◌≡◌, ℕ, zero, suc, Bool, true, false, ◌+◌, ◌*◌, ◌<◌, ◌≤◌, ◌∙◌, ap, sym, subst, arith, refl, rules, length, map, get_or}
use Rattle.std.specs.Prelude.{◌==◌, slice_get}
use Rattle.std.proofs.lemmas.Int.{to_z-of_z}
use mir.Syntax.{w128}
use Rattle.std.proofs.lemmas.Option.{slice_get_within}
use Rattle.gt_layout.specs.Places.{begin_at, spot}
use Rattle.gt_tree.specs.Leaves.{byte_leaves}
use Rattle.gt_tree.proofs.PathBits.{some-same}
use Rattle.gt_types.specs.declared.types.Ty.{out-Ty}
use Rattle.gt_types.specs.declared.types.Ty.TheVariants as ty
use Rattle.gt_types.specs.declared.types.Ty.TheVariants.{outs-Arr, outs-Tail}
use Rattle.gt_types.specs.declared.types.Ty.TheOpen as part
use Rattle.gt_layout.proofs.Laying.{read_at}
use Rattle.gt_layout.specs.Storages.{extent_of}
use Rattle.gt_tree.specs.Trees.{Num, Raw, Rec, Alt, Row}
use Rattle.gt_tree.specs.Fits.{types_of}
use Rattle.gt_value.specs.Values.{tree_of, trees}
use Rattle.gt_value.proofs.TreesOf.{tree-num, tree-null, tree-to, tree-raw, tree-rec, tree-alt, tree-row}
use Rattle.gt_store.specs.Overlays.{CanStore, IsWritten, Overlays}
use Rattle.gt_store.proofs.Walks.{part-beyond, each-beyond}
use Rattle.gt_store.proofs.Steps.{stored-at, no-rec, no-alt, no-row, union-there, member-field, null-stored, to-whole, to-inside, to-stored, raw-whole, raw-inside, raw-stored, raw-none, can-member, member-stored, can-common, common-stored, can-plain, nothing-stored, can-array, can-tail, array-stored, tail-stored}
use Rattle.std.proofs.lemmas.Option.{slice_get-get_or}
use Rattle.std.proofs.Common.{min}
use Rattle.gt_types.specs.declared.limits.TheConstants.{TOO_LARGE}
use Rattle.gt_store.proofs.Walks.{CanFields, FieldsWritten, whole-stands}
use Rattle.gt_store.proofs.Forms.{member-there}
use Rattle.gt_store.proofs.Steps.{can-struct, struct-stored}
use Rattle.gt_store.proofs.Loops.{EachLoop, rest_of, types-long, types-at, min-held, fields-init, fields-within, fields-part, fields-next, fields-end, each-part, each-next, each-end}
use Rattle.std.proofs.lemmas.Grind.{common_steps}
use denote.Param.Weighed.{most, at_most}
use Rattle.gt_value.proofs.values.Value.TheLaws.{the_size}
use Rattle.gt_value.specs.declared.values.Value.TheFolds.{the_lemmas}
use borrow.Author.Tests.{eqb-true}
use Rattle.gt_store.proofs.stores.+stores.Goals as goal

falls-part : (m n t : ℕ) → 3 * n + 2 ≡ t → m ≤ n → 3 * m + 1 < t
falls-part m n t e le = omega (arith, e, le)

falls-value : (m n t : ℕ) → 3 * n + 1 ≡ t → m ≤ n → 3 * m + 0 < t
falls-value m n t e le = omega (arith, e, le)

not-empty : (n : ℕ) (r : Bool) → r ≡ (n == 0) → r ≡ false → 0 < n
not-empty zero r e f = absurd (cc)
not-empty (suc n) r e f = omega arith

is-empty : (n : ℕ) (r : Bool) → r ≡ (n == 0) → r ≡ true → n ≡ 0
is-empty n r e f = eqb-true n 0 (sym e ∙ f)

pub store_value-store_number-requires : goal.store_value-store_number-requires
store_value-store_number-requires t c = record {
  can = (
    c.args.program.now,
    c.args.layouts.now.structures,
    c.requires.settled,
    subst (CanStore c.args.program.now c.args.layouts.now.structures c.args.space.now c.args.at c.args.ty.now) (ap tree_of c.in-Num.is ∙ tree-num c.in-Num.n ∙ ap Num (sym (to_z-of_z w128 c.in-Num.n (search rules)))) c.requires.can,
  );
}

pub store_value-returns-in-Num-clause-stored : goal.store_value-returns-in-Num-clause-stored
store_value-returns-in-Num-clause-stored t c =
    stored-at c.args.program.now c.args.layouts.now.structures c.args.space.now c.store_number.new.space c.args.at c.args.ty.now c.args.ty.now (tree_of c.args.value.now) _ refl
    (ap tree_of c.in-Num.is ∙ tree-num c.in-Num.n ∙ ap Num (sym (to_z-of_z w128 c.in-Num.n (search rules)))) (c.store_number.ensures.stored c.args.program.now c.args.layouts.now.structures)

pub store_value-returns-in-Null-clause-stored : goal.store_value-returns-in-Null-clause-stored
store_value-returns-in-Null-clause-stored t c =
    subst (λ v. IsWritten c.args.program.now c.args.layouts.now.structures c.args.at c.args.ty.now v c.args.space.now c.args.space.now) (sym (ap tree_of c.in-Null.is ∙ tree-null))
    (null-stored c.args.program.now c.args.layouts.now.structures c.args.space.now c.args.at c.args.ty.now)

pub store_value-write_number-requires-clause-whole : goal.store_value-write_number-requires-clause-whole
store_value-write_number-requires-clause-whole t c =
    to-whole c.args.program.now c.args.layouts.now.structures c.args.space.now c.args.at c.args.ty.now c.in-To.address
    (subst (CanStore c.args.program.now c.args.layouts.now.structures c.args.space.now c.args.at c.args.ty.now) (ap tree_of c.in-To.is ∙ tree-to c.in-To.address) c.requires.can)

pub store_value-write_number-requires-clause-inside : goal.store_value-write_number-requires-clause-inside
store_value-write_number-requires-clause-inside t c =
    to-inside c.args.program.now c.args.layouts.now.structures c.args.space.now c.args.at c.args.ty.now c.in-To.address
    (subst (CanStore c.args.program.now c.args.layouts.now.structures c.args.space.now c.args.at c.args.ty.now) (ap tree_of c.in-To.is ∙ tree-to c.in-To.address) c.requires.can)

pub store_value-returns-in-To-clause-stored : goal.store_value-returns-in-To-clause-stored
store_value-returns-in-To-clause-stored t c =
    subst (λ v. IsWritten c.args.program.now c.args.layouts.now.structures c.args.at c.args.ty.now v c.args.space.now c.write_number.new.space) (sym (ap tree_of c.in-To.is ∙ tree-to c.in-To.address))
    (to-stored c.args.program.now c.args.layouts.now.structures c.args.space.now c.args.at c.args.ty.now c.in-To.address c.write_number.new.space c.write_number.ensures)

pub store_value-write_bytes-requires-clause-whole : goal.store_value-write_bytes-requires-clause-whole
store_value-write_bytes-requires-clause-whole t c =
    raw-whole c.args.program.now c.args.layouts.now.structures c.args.space.now c.args.at c.args.ty.now c.in-Raw.bytes
    (subst (CanStore c.args.program.now c.args.layouts.now.structures c.args.space.now c.args.at c.args.ty.now) (ap tree_of c.in-Raw.is ∙ tree-raw c.in-Raw.bytes) c.requires.can)

pub store_value-write_bytes-requires-clause-inside : goal.store_value-write_bytes-requires-clause-inside
store_value-write_bytes-requires-clause-inside t c =
    let some : 0 < length c.in-Raw.bytes = not-empty (length c.in-Raw.bytes) c.is_empty.result c.is_empty.ensures.empty c.if-not-is_empty.true in
    subst (λ xs. c.args.at + 8 * length xs ≤ 8 * length c.args.space.now.bytes) (sym c.as_slice.ensures.bytes)
    (raw-inside c.args.program.now c.args.layouts.now.structures c.args.space.now c.args.at c.args.ty.now c.in-Raw.bytes some
    (subst (CanStore c.args.program.now c.args.layouts.now.structures c.args.space.now c.args.at c.args.ty.now) (ap tree_of c.in-Raw.is ∙ tree-raw c.in-Raw.bytes) c.requires.can))

pub store_value-returns-then-not-is_empty-clause-stored : goal.store_value-returns-then-not-is_empty-clause-stored
store_value-returns-then-not-is_empty-clause-stored t c =
    stored-at c.args.program.now c.args.layouts.now.structures c.args.space.now c.write_bytes.new.space c.args.at c.args.ty.now c.args.ty.now (tree_of c.args.value.now) (Raw c.in-Raw.bytes) refl (ap tree_of c.in-Raw.is ∙ tree-raw c.in-Raw.bytes)
    (raw-stored c.args.program.now c.args.layouts.now.structures c.args.space.now c.args.at c.args.ty.now c.in-Raw.bytes c.write_bytes.new.space (subst (λ xs. Overlays (byte_leaves c.args.at xs) c.args.space.now c.write_bytes.new.space) c.as_slice.ensures.bytes c.write_bytes.ensures))

pub store_value-returns-else-not-is_empty-clause-stored : goal.store_value-returns-else-not-is_empty-clause-stored
store_value-returns-else-not-is_empty-clause-stored t c =
    stored-at c.args.program.now c.args.layouts.now.structures c.args.space.now c.args.space.now c.args.at c.args.ty.now c.args.ty.now (tree_of c.args.value.now) (Raw c.in-Raw.bytes) refl (ap tree_of c.in-Raw.is ∙ tree-raw c.in-Raw.bytes)
    (raw-none c.args.program.now c.args.layouts.now.structures c.args.space.now c.args.at c.args.ty.now c.in-Raw.bytes (is-empty (length c.in-Raw.bytes) c.is_empty.result c.is_empty.ensures.empty c.if-not-is_empty.false))

pub store_value-returns-in-Node-clause-stored : goal.store_value-returns-in-Node-clause-stored
store_value-returns-in-Node-clause-stored t c =
    stored-at c.args.program.now c.args.layouts.now.structures c.args.space.now c.store_fields.new.space c.args.at c.args.ty.now (ty.Node c.in-Node.id c.in-Node.desc) (tree_of c.args.value.now) (Rec (trees (map tree_of c.deref.result.now))) c.in-Node.is
    (ap tree_of c.in-Rec.is ∙ tree-rec c.in-Rec.parts ∙ ap (λ xs. Rec (trees (map tree_of xs))) (sym c.deref.ensures.value)) (c.store_fields.ensures.stored c.in-Node.desc)

pub store_value-returns-in_default : goal.store_value-returns-in_default
store_value-returns-in_default t c = record {
  addresses = record { start = refl; len = refl };
  stored = no-rec c.args.program.now c.args.layouts.now.structures c.args.space.now c.args.at c.args.ty.now (tree_of c.args.value.now) (trees (map tree_of c.in-Rec.parts.items)) (ap tree_of c.in-Rec.is ∙ tree-rec c.in-Rec.parts) c.in_default.not-Node;
}

pub store_value-returns-in_default-ty : goal.store_value-returns-in_default-ty
store_value-returns-in_default-ty t c = record {
  addresses = record { start = refl; len = refl };
  stored = no-alt c.args.program.now c.args.layouts.now.structures c.args.space.now c.args.at c.args.ty.now (tree_of c.args.value.now) c.in-Alt.member (tree_of c.in-Alt.value) (ap tree_of c.in-Alt.is ∙ tree-alt c.in-Alt.member c.in-Alt.value) c.in_default-ty.not-Node;
}

pub store_value-returns-in_default-ty-2 : goal.store_value-returns-in_default-ty-2
store_value-returns-in_default-ty-2 t c = record {
  addresses = record { start = refl; len = refl };
  stored = no-row c.args.program.now c.args.layouts.now.structures c.args.space.now c.args.at c.args.ty.now (tree_of c.args.value.now) (trees (map tree_of c.in-Row.parts.items)) (ap tree_of c.in-Row.is ∙ tree-row c.in-Row.parts) c.in_default-ty-2.not-Arr c.in_default-ty-2.not-Tail;
}

pub store_value-store_elements-requires : goal.store_value-store_elements-requires
store_value-store_elements-requires t c =
    let row : tree_of c.args.value.now ≡ Row (trees (map tree_of c.deref-in-Arr.result.now)) = ap tree_of c.in-Row.is ∙ tree-row c.in-Row.parts ∙ ap (λ xs. Row (trees (map tree_of xs))) (sym c.deref-in-Arr.ensures.value) in
    let is : out-Ty c.args.ty.now ≡ part.Arr c.in-Arr.n c.get-in-Arr.result.now = ap out-Ty c.in-Arr.is ∙ outs-Arr c.in-Arr.n c.in-Arr.elem ∙ ap (part.Arr c.in-Arr.n) (sym c.get-in-Arr.ensures) in (
      grind (arith, the_lemmas, common_steps),
      (
        c.requires.settled,
        (
          c.requires.laid,
          (
            c.requires.within,
            can-array c.args.program.now c.args.layouts.now c.requires.settled c.requires.laid c.requires.within c.args.space.now c.args.at c.args.ty.now c.get-in-Arr.result.now (trees (map tree_of c.deref-in-Arr.result.now))
                c.in-Arr.n is (subst (CanStore c.args.program.now c.args.layouts.now.structures c.args.space.now c.args.at c.args.ty.now) row c.requires.can),
          ),
        ),
      ),
    )

pub store_value-returns-in-Arr-clause-stored : goal.store_value-returns-in-Arr-clause-stored
store_value-returns-in-Arr-clause-stored t c =
    let row : tree_of c.args.value.now ≡ Row (trees (map tree_of c.deref-in-Arr.result.now)) = ap tree_of c.in-Row.is ∙ tree-row c.in-Row.parts ∙ ap (λ xs. Row (trees (map tree_of xs))) (sym c.deref-in-Arr.ensures.value) in
    let is : out-Ty c.args.ty.now ≡ part.Arr c.in-Arr.n c.get-in-Arr.result.now = ap out-Ty c.in-Arr.is ∙ outs-Arr c.in-Arr.n c.in-Arr.elem ∙ ap (part.Arr c.in-Arr.n) (sym c.get-in-Arr.ensures) in
    stored-at c.args.program.now c.args.layouts.now.structures c.args.space.now c.store_elements.new.space c.args.at c.args.ty.now c.args.ty.now (tree_of c.args.value.now) (Row (trees (map tree_of c.deref-in-Arr.result.now))) refl row
    (array-stored c.args.program.now c.args.layouts.now.structures c.args.space.now c.store_elements.new.space c.args.at c.args.ty.now c.get-in-Arr.result.now c.in-Arr.n (trees (map tree_of c.deref-in-Arr.result.now)) is c.store_elements.ensures.stored)

pub store_value-store_elements-requires-in-Tail : goal.store_value-store_elements-requires-in-Tail
store_value-store_elements-requires-in-Tail t c =
    let row : tree_of c.args.value.now ≡ Row (trees (map tree_of c.deref-in-Tail.result.now)) = ap tree_of c.in-Row.is ∙ tree-row c.in-Row.parts ∙ ap (λ xs. Row (trees (map tree_of xs))) (sym c.deref-in-Tail.ensures.value) in
    let is : out-Ty c.args.ty.now ≡ part.Tail c.in-Tail.len c.get-in-Tail.result.now = ap out-Ty c.in-Tail.is ∙ outs-Tail c.in-Tail.len c.in-Tail.elem ∙ ap (part.Tail c.in-Tail.len) (sym c.get-in-Tail.ensures) in (
      grind (arith, the_lemmas, common_steps),
      (
        c.requires.settled,
        (
          c.requires.laid,
          (
            c.requires.within,
            can-tail c.args.program.now c.args.layouts.now c.requires.settled c.requires.laid c.requires.within c.args.space.now c.args.at c.args.ty.now c.get-in-Tail.result.now (trees (map tree_of c.deref-in-Tail.result.now))
                c.in-Tail.len is (subst (CanStore c.args.program.now c.args.layouts.now.structures c.args.space.now c.args.at c.args.ty.now) row c.requires.can),
          ),
        ),
      ),
    )

pub store_value-returns-in-Tail-clause-stored : goal.store_value-returns-in-Tail-clause-stored
store_value-returns-in-Tail-clause-stored t c =
    let row : tree_of c.args.value.now ≡ Row (trees (map tree_of c.deref-in-Tail.result.now)) = ap tree_of c.in-Row.is ∙ tree-row c.in-Row.parts ∙ ap (λ xs. Row (trees (map tree_of xs))) (sym c.deref-in-Tail.ensures.value) in
    let is : out-Ty c.args.ty.now ≡ part.Tail c.in-Tail.len c.get-in-Tail.result.now = ap out-Ty c.in-Tail.is ∙ outs-Tail c.in-Tail.len c.in-Tail.elem ∙ ap (part.Tail c.in-Tail.len) (sym c.get-in-Tail.ensures) in
    stored-at c.args.program.now c.args.layouts.now.structures c.args.space.now c.store_elements-in-Tail.new.space c.args.at c.args.ty.now c.args.ty.now (tree_of c.args.value.now) (Row (trees (map tree_of c.deref-in-Tail.result.now))) refl row
    (tail-stored c.args.program.now c.args.layouts.now.structures c.args.space.now c.store_elements-in-Tail.new.space c.args.at c.args.ty.now c.get-in-Tail.result.now c.in-Tail.len (trees (map tree_of c.deref-in-Tail.result.now)) is c.store_elements-in-Tail.ensures.stored)

pub store_fields-bounds-structures-id : goal.store_fields-bounds-structures-id
store_fields-bounds-structures-id t c =
    let st = can-struct c.args.program.now c.args.layouts.now c.args.space.now c.args.at c.args.id c.requires.can.0 (trees (map tree_of c.args.values.now)) c.requires.laid c.requires.can.1 in
    let lt = slice_get_within c.args.program.now.structures c.args.id.0 st.0 st.2 in
    omega (arith, lt, ap length c.as_slice-structures.ensures.items)

pub store_fields-bounds-planes-id : goal.store_fields-bounds-planes-id
store_fields-bounds-planes-id t c =
    let st = can-struct c.args.program.now c.args.layouts.now c.args.space.now c.args.at c.args.id c.requires.can.0 (trees (map tree_of c.args.values.now)) c.requires.laid c.requires.can.1 in
    let near = slice_get_within c.args.layouts.now.structures c.args.id.0 st.1 st.3 in
    omega (arith, near, ap length c.as_slice-planes.ensures.items)

pub store_fields-loop-i-init : goal.store_fields-loop-i-init
store_fields-loop-i-init t c =
    let st = can-struct c.args.program.now c.args.layouts.now c.args.space.now c.args.at c.args.id c.requires.can.0 (trees (map tree_of c.args.values.now)) c.requires.laid c.requires.can.1 in
    let lt = slice_get_within c.args.program.now.structures c.args.id.0 st.0 st.2 in
    let near = slice_get_within c.args.layouts.now.structures c.args.id.0 st.1 st.3 in
    let there = read_at c.as_slice-structures.result.now c.args.program.now.structures c.args.id.0 c.index-structures-id.result c.as_slice-structures.ensures.items lt c.index-structures-id.is in
    let same : st.0 ≡ c.index-structures-id.result = some-same (slice_get c.args.program.now.structures c.args.id.0) st.0 c.index-structures-id.result st.2 there in
    let fe : st.0.fields ≡ c.as_slice-fields.result.now = ap (λ x. x.fields) (same ∙ c.index-structures-id.is) ∙ sym c.as_slice-fields.ensures.items in
    let laid = read_at c.as_slice-planes.result.now c.args.layouts.now.structures c.args.id.0 c.index-planes-id.result c.as_slice-planes.ensures.items near c.index-planes-id.is in
    let alike : st.1 ≡ c.index-planes-id.result = some-same (slice_get c.args.layouts.now.structures c.args.id.0) st.1 c.index-planes-id.result st.3 laid in
    let se : st.1.fields ≡ c.as_slice-spots.result.now = ap (λ x. x.fields) (alike ∙ c.index-planes-id.is) ∙ sym c.as_slice-spots.ensures.items in
    fields-init c.args.program.now c.args.layouts.now.structures c.args.at (types_of c.as_slice-fields.result.now) c.as_slice-spots.result.now c.args.values.now c.args.space.now
    (subst (λ fs. CanFields c.args.program.now c.args.layouts.now.structures c.args.space.now c.args.at (types_of fs) c.as_slice-spots.result.now (trees (map tree_of c.args.values.now))) fe (subst (λ ss. CanFields c.args.program.now c.args.layouts.now.structures c.args.space.now c.args.at (types_of st.0.fields) ss (trees (map tree_of c.args.values.now))) se st.4))

pub store_fields-offset_bounds-fields-i : goal.store_fields-offset_bounds-fields-i
store_fields-offset_bounds-fields-i t c =
    let got = read_at c.args.values.now c.args.values.now c.loop-i.i c.index-values-i.result refl c.loop-i-test.true c.index-values-i.is in
    let within = fields-within c.args.program.now c.args.layouts.now.structures c.args.at (types_of c.as_slice-fields.result.now) c.as_slice-spots.result.now c.args.values.now c.loop-i.i c.args.space.now c.loop-i.space c.index-values-i.result got c.loop-i.invariant in
    let in_fields : c.loop-i.i < length c.as_slice-fields.result.now = omega (arith, within.0, types-long c.as_slice-fields.result.now) in
    record { fits = omega (arith, in_fields, c.as_slice-fields.type_inv.1) }

pub store_fields-bounds-fields-i : goal.store_fields-bounds-fields-i
store_fields-bounds-fields-i t c =
    let got = read_at c.args.values.now c.args.values.now c.loop-i.i c.index-values-i.result refl c.loop-i-test.true c.index-values-i.is in
    let within = fields-within c.args.program.now c.args.layouts.now.structures c.args.at (types_of c.as_slice-fields.result.now) c.as_slice-spots.result.now c.args.values.now c.loop-i.i c.args.space.now c.loop-i.space c.index-values-i.result got c.loop-i.invariant in
    omega (arith, within.0, types-long c.as_slice-fields.result.now)

pub store_fields-bounds-spots-i : goal.store_fields-bounds-spots-i
store_fields-bounds-spots-i t c =
    let got = read_at c.args.values.now c.args.values.now c.loop-i.i c.index-values-i.result refl c.loop-i-test.true c.index-values-i.is in
    let within = fields-within c.args.program.now c.args.layouts.now.structures c.args.at (types_of c.as_slice-fields.result.now) c.as_slice-spots.result.now c.args.values.now c.loop-i.i c.args.space.now c.loop-i.space c.index-values-i.result got c.loop-i.invariant in
    within.1

pub store_fields-store_part-requires : goal.store_fields-store_part-requires
store_fields-store_part-requires t c =
    let got = read_at c.args.values.now c.args.values.now c.loop-i.i c.index-values-i.result refl c.loop-i-test.true c.index-values-i.is in
    let within = fields-within c.args.program.now c.args.layouts.now.structures c.args.at (types_of c.as_slice-fields.result.now) c.as_slice-spots.result.now c.args.values.now c.loop-i.i c.args.space.now c.loop-i.space c.index-values-i.result got c.loop-i.invariant in
    let in_fields : c.loop-i.i < length c.as_slice-fields.result.now = omega (arith, within.0, types-long c.as_slice-fields.result.now) in
    let typed = types-at c.as_slice-fields.result.now c.loop-i.i (get_or c.as_slice-fields.result.now c.loop-i.i c.index-fields-i.result) (slice_get-get_or c.as_slice-fields.result.now c.loop-i.i c.index-fields-i.result in_fields) in
    let placed = slice_get-get_or c.as_slice-spots.result.now c.loop-i.i (spot 0 0) within.1 in (
      falls-part (the_size c.index-values-i.result) (most the_size c.args.values.now) t c.decreases
          (subst (λ v. the_size v ≤ most the_size c.args.values.now) (sym c.index-values-i.is) (at_most the_size c.args.values.now c.loop-i.i c.index-values-i.result c.loop-i-test.true)),
      (
        c.requires.settled,
        (
          c.requires.laid,
          (
            c.requires.within,
            fields-part c.args.program.now c.args.layouts.now.structures c.args.at (types_of c.as_slice-fields.result.now) c.as_slice-spots.result.now c.args.values.now c.loop-i.i c.args.space.now c.loop-i.space c.index-values-i.result got c.loop-i.invariant (get_or c.as_slice-fields.result.now c.loop-i.i c.index-fields-i.result).ty (get_or c.as_slice-spots.result.now c.loop-i.i (spot 0 0)) typed placed,
          ),
        ),
      ),
    )

pub store_fields-loop-i-preserved : goal.store_fields-loop-i-preserved
store_fields-loop-i-preserved t c =
    let got = read_at c.args.values.now c.args.values.now c.loop-i.i c.index-values-i.result refl c.loop-i-test.true c.index-values-i.is in
    let within = fields-within c.args.program.now c.args.layouts.now.structures c.args.at (types_of c.as_slice-fields.result.now) c.as_slice-spots.result.now c.args.values.now c.loop-i.i c.args.space.now c.loop-i.space c.index-values-i.result got c.loop-i.invariant in
    let in_fields : c.loop-i.i < length c.as_slice-fields.result.now = omega (arith, within.0, types-long c.as_slice-fields.result.now) in
    let typed = types-at c.as_slice-fields.result.now c.loop-i.i (get_or c.as_slice-fields.result.now c.loop-i.i c.index-fields-i.result) (slice_get-get_or c.as_slice-fields.result.now c.loop-i.i c.index-fields-i.result in_fields) in
    let placed = slice_get-get_or c.as_slice-spots.result.now c.loop-i.i (spot 0 0) within.1 in
    fields-next c.args.program.now c.args.layouts.now.structures c.args.at (types_of c.as_slice-fields.result.now) c.as_slice-spots.result.now c.args.values.now c.loop-i.i c.args.space.now c.loop-i.space c.index-values-i.result got c.loop-i.invariant (get_or c.as_slice-fields.result.now c.loop-i.i c.index-fields-i.result).ty (get_or c.as_slice-spots.result.now c.loop-i.i (spot 0 0)) typed placed c.store_part.new.space c.store_part.ensures.addresses c.store_part.ensures.stored

pub store_fields-returns-clause-stored : goal.store_fields-returns-clause-stored
store_fields-returns-clause-stored t c =
    let st = can-struct c.args.program.now c.args.layouts.now c.args.space.now c.args.at c.args.id c.requires.can.0 (trees (map tree_of c.args.values.now)) c.requires.laid c.requires.can.1 in
    let lt = slice_get_within c.args.program.now.structures c.args.id.0 st.0 st.2 in
    let near = slice_get_within c.args.layouts.now.structures c.args.id.0 st.1 st.3 in
    let there = read_at c.as_slice-structures.result.now c.args.program.now.structures c.args.id.0 c.index-structures-id.result c.as_slice-structures.ensures.items lt c.index-structures-id.is in
    let same : st.0 ≡ c.index-structures-id.result = some-same (slice_get c.args.program.now.structures c.args.id.0) st.0 c.index-structures-id.result st.2 there in
    let fe : st.0.fields ≡ c.as_slice-fields.result.now = ap (λ x. x.fields) (same ∙ c.index-structures-id.is) ∙ sym c.as_slice-fields.ensures.items in
    let laid = read_at c.as_slice-planes.result.now c.args.layouts.now.structures c.args.id.0 c.index-planes-id.result c.as_slice-planes.ensures.items near c.index-planes-id.is in
    let alike : st.1 ≡ c.index-planes-id.result = some-same (slice_get c.args.layouts.now.structures c.args.id.0) st.1 c.index-planes-id.result st.3 laid in
    let se : st.1.fields ≡ c.as_slice-spots.result.now = ap (λ x. x.fields) (alike ∙ c.index-planes-id.is) ∙ sym c.as_slice-spots.ensures.items in
    let all = fields-end c.args.program.now c.args.layouts.now.structures c.args.at (types_of c.as_slice-fields.result.now) c.as_slice-spots.result.now c.args.values.now c.loop-i.i c.args.space.now c.loop-i.space (omega (arith, c.loop-i-test.false)) c.loop-i.invariant in
    struct-stored c.args.program.now c.args.layouts.now.structures c.args.space.now c.loop-i.space c.args.at c.args.id st.0 st.1 (trees (map tree_of c.args.values.now)) st.2 st.3
    (subst (λ ss. FieldsWritten c.args.program.now c.args.layouts.now.structures c.args.at (types_of st.0.fields) ss (trees (map tree_of c.args.values.now)) c.args.space.now c.loop-i.space) (sym se)
    (subst (λ fs. FieldsWritten c.args.program.now c.args.layouts.now.structures c.args.at (types_of fs) c.as_slice-spots.result.now (trees (map tree_of c.args.values.now)) c.args.space.now c.loop-i.space) (sym fe) all))

pub store_elements-returns-then-begin-gt-MAX_BITS-clause-stored : goal.store_elements-returns-then-begin-gt-MAX_BITS-clause-stored
store_elements-returns-then-begin-gt-MAX_BITS-clause-stored t c =
    c.loop-value.invariant.done c.loop-value.space
    (each-beyond c.args.program.now c.args.layouts.now.structures c.loop-value.space (8 * (extent_of c.args.layouts.now.structures c.args.elem.now).size) c.loop-value.begin c.args.elem.now (rest_of c.args.values.now c.loop-value.value-index) c.loop-value.invariant.can.short (omega (arith, c.if-begin-gt-MAX_BITS.true)))

pub store_elements-store_value-requires : goal.store_elements-store_value-requires
store_elements-store_value-requires t c =
    let got = read_at c.args.values.now c.args.values.now c.loop-value.value-index c.value-item.result refl c.loop-value-test.true c.value-item.is in (
      falls-value (the_size c.value-item.result) (most the_size c.args.values.now) t c.decreases
          (subst (λ v. the_size v ≤ most the_size c.args.values.now) (sym c.value-item.is) (at_most the_size c.args.values.now c.loop-value.value-index c.value-item.result c.loop-value-test.true)),
      (
        c.requires.settled,
        (
          c.requires.laid,
          (
            c.requires.within,
            each-part c.args.program.now c.args.layouts.now.structures (8 * (extent_of c.args.layouts.now.structures c.args.elem.now).size) c.args.at c.args.elem.now c.args.values.now c.loop-value.value-index c.loop-value.begin c.args.space.now c.loop-value.space c.value-item.result got c.loop-value.invariant (whole-stands c.args.elem.now c.loop-value.begin c.loop-value.invariant.can.whole) (omega (arith, c.if-begin-gt-MAX_BITS.false)),
          ),
        ),
      ),
    )

pub store_elements-loop-value-preserved : goal.store_elements-loop-value-preserved
store_elements-loop-value-preserved t c =
    let got = read_at c.args.values.now c.args.values.now c.loop-value.value-index c.value-item.result refl c.loop-value-test.true c.value-item.is in
    let size : c.extent.result.size ≡ (extent_of c.args.layouts.now.structures c.args.elem.now).size =
    ap (λ e. e.size) c.extent.ensures ∙ ap (λ ps. min (extent_of ps c.args.elem.now).size TOO_LARGE) c.as_slice.ensures.items
    ∙ min-held (extent_of c.args.layouts.now.structures c.args.elem.now).size (omega (arith, c.requires.can.narrow)) in
    subst (λ n. EachLoop c.args.program.now c.args.layouts.now.structures (8 * (extent_of c.args.layouts.now.structures c.args.elem.now).size) c.args.at c.args.elem.now c.args.values.now (c.loop-value.value-index + 1) (c.loop-value.begin + 8 * n) c.args.space.now c.store_value.new.space) (sym size)
    (each-next c.args.program.now c.args.layouts.now.structures (8 * (extent_of c.args.layouts.now.structures c.args.elem.now).size) c.args.at c.args.elem.now c.args.values.now c.loop-value.value-index c.loop-value.begin c.args.space.now c.loop-value.space c.value-item.result got c.loop-value.invariant c.store_value.new.space (omega arith) c.store_value.ensures.addresses c.store_value.ensures.stored)

pub store_elements-returns-clause-stored : goal.store_elements-returns-clause-stored
store_elements-returns-clause-stored t c =
    each-end c.args.program.now c.args.layouts.now.structures (8 * (extent_of c.args.layouts.now.structures c.args.elem.now).size) c.args.at c.args.elem.now c.args.values.now c.loop-value.value-index c.loop-value.begin c.args.space.now c.loop-value.space (omega (arith, c.loop-value-test.false)) c.loop-value.invariant

pub store_member-bounds-fields-place : goal.store_member-bounds-fields-place
store_member-bounds-fields-place t c =
    let union = (union-there c.args.program.now c.args.layouts.now.structures c.args.space.now c.args.at c.args.id c.requires.can.0 c.args.member (tree_of c.args.value.now) c.requires.can.1) in
    let lt = slice_get_within c.args.program.now.structures c.args.id.0 union.0 union.1 in
    let there = read_at c.as_slice-structures.result.now c.args.program.now.structures c.args.id.0 c.index-structures-id.result c.as_slice-structures.ensures.items lt c.index-structures-id.is in
    let can = subst (λ m. CanStore c.args.program.now c.args.layouts.now.structures c.args.space.now c.args.at (ty.Node c.args.id c.requires.can.0) (Alt m (tree_of c.args.value.now))) c.in-Some.is c.requires.can.1 in
    let inner = member-there c.args.id c.requires.can.0 c.index-structures-id.result c.in-Some.place (tree_of c.args.value.now) there can.fits in
    let within : c.in-Some.place < length c.index-structures-id.result.fields = slice_get_within c.index-structures-id.result.fields c.in-Some.place inner.0 inner.1 in
    omega (arith, within, ap length c.as_slice-fields.ensures.items)

pub store_part-returns-else-begin-le-MAX_BITS-clause-stored : goal.store_part-returns-else-begin-le-MAX_BITS-clause-stored
store_part-returns-else-begin-le-MAX_BITS-clause-stored t c =
    part-beyond c.args.program.now c.args.layouts.now.structures c.args.space.now (c.args.at + begin_at c.args.spot) c.args.ty.now (tree_of c.args.value.now) c.requires.can.near.short (omega (arith, c.if-begin-le-MAX_BITS.false))

pub store_member-bounds-structures-id : goal.store_member-bounds-structures-id
store_member-bounds-structures-id t c =
    let union = (union-there c.args.program.now c.args.layouts.now.structures c.args.space.now c.args.at c.args.id c.requires.can.0 c.args.member (tree_of c.args.value.now) c.requires.can.1) in
    let lt = slice_get_within c.args.program.now.structures c.args.id.0 union.0 union.1 in
    omega (arith, lt, ap length c.as_slice-structures.ensures.items)

pub store_member-store_value-requires : goal.store_member-store_value-requires
store_member-store_value-requires t c =
    let union = (union-there c.args.program.now c.args.layouts.now.structures c.args.space.now c.args.at c.args.id c.requires.can.0 c.args.member (tree_of c.args.value.now) c.requires.can.1) in
    let lt = slice_get_within c.args.program.now.structures c.args.id.0 union.0 union.1 in
    let there = read_at c.as_slice-structures.result.now c.args.program.now.structures c.args.id.0 c.index-structures-id.result c.as_slice-structures.ensures.items lt c.index-structures-id.is in
    let same : union.0 ≡ c.index-structures-id.result = some-same (slice_get c.args.program.now.structures c.args.id.0) union.0 c.index-structures-id.result union.1 there in
    let can = subst (λ m. CanStore c.args.program.now c.args.layouts.now.structures c.args.space.now c.args.at (ty.Node c.args.id c.requires.can.0) (Alt m (tree_of c.args.value.now))) c.in-Some.is c.requires.can.1 in
    let field = member-field c.args.program.now c.args.layouts.now.structures c.args.space.now c.args.at c.args.id c.requires.can.0 c.index-structures-id.result c.in-Some.place (tree_of c.args.value.now) c.as_slice-fields.result.now c.index-fields-place.result there
    c.as_slice-fields.ensures.items c.index-fields-place.is can in (
      search rules,
      (
        c.requires.settled,
        (
          c.requires.laid,
          (
            c.requires.within,
            can-member c.args.program.now c.args.layouts.now.structures c.requires.settled c.args.space.now c.args.at c.args.id c.requires.can.0 (tree_of c.args.value.now) c.index-structures-id.result c.in-Some.place
                c.index-fields-place.result there field can,
          ),
        ),
      ),
    )

pub store_member-returns-in-Some-clause-stored : goal.store_member-returns-in-Some-clause-stored
store_member-returns-in-Some-clause-stored t c desc =
    let union = (union-there c.args.program.now c.args.layouts.now.structures c.args.space.now c.args.at c.args.id c.requires.can.0 c.args.member (tree_of c.args.value.now) c.requires.can.1) in
    let lt = slice_get_within c.args.program.now.structures c.args.id.0 union.0 union.1 in
    let there = read_at c.as_slice-structures.result.now c.args.program.now.structures c.args.id.0 c.index-structures-id.result c.as_slice-structures.ensures.items lt c.index-structures-id.is in
    let same : union.0 ≡ c.index-structures-id.result = some-same (slice_get c.args.program.now.structures c.args.id.0) union.0 c.index-structures-id.result union.1 there in
    let can = subst (λ m. CanStore c.args.program.now c.args.layouts.now.structures c.args.space.now c.args.at (ty.Node c.args.id c.requires.can.0) (Alt m (tree_of c.args.value.now))) c.in-Some.is c.requires.can.1 in
    let field = member-field c.args.program.now c.args.layouts.now.structures c.args.space.now c.args.at c.args.id c.requires.can.0 c.index-structures-id.result c.in-Some.place (tree_of c.args.value.now) c.as_slice-fields.result.now c.index-fields-place.result there
    c.as_slice-fields.ensures.items c.index-fields-place.is can in
    subst (λ m. IsWritten c.args.program.now c.args.layouts.now.structures c.args.at (ty.Node c.args.id desc) (Alt m (tree_of c.args.value.now)) c.args.space.now c.store_value.new.space) (sym c.in-Some.is)
    (member-stored c.args.program.now c.args.layouts.now.structures c.requires.settled c.args.space.now c.args.at c.args.id desc (tree_of c.args.value.now) c.store_value.new.space c.index-structures-id.result c.in-Some.place
    c.index-fields-place.result there field c.store_value.ensures.stored)

pub store_member-common_structure-requires-clause-has : goal.store_member-common_structure-requires-clause-has
store_member-common_structure-requires-clause-has t c =
    let union = (union-there c.args.program.now c.args.layouts.now.structures c.args.space.now c.args.at c.args.id c.requires.can.0 c.args.member (tree_of c.args.value.now) c.requires.can.1) in
    let lt = slice_get_within c.args.program.now.structures c.args.id.0 union.0 union.1 in
    let there = read_at c.as_slice-structures.result.now c.args.program.now.structures c.args.id.0 c.index-structures-id.result c.as_slice-structures.ensures.items lt c.index-structures-id.is in
    let same : union.0 ≡ c.index-structures-id.result = some-same (slice_get c.args.program.now.structures c.args.id.0) union.0 c.index-structures-id.result union.1 there in
    there

pub store_member-common_structure-requires-clause-union : goal.store_member-common_structure-requires-clause-union
store_member-common_structure-requires-clause-union t c =
    let union = (union-there c.args.program.now c.args.layouts.now.structures c.args.space.now c.args.at c.args.id c.requires.can.0 c.args.member (tree_of c.args.value.now) c.requires.can.1) in
    let lt = slice_get_within c.args.program.now.structures c.args.id.0 union.0 union.1 in
    let there = read_at c.as_slice-structures.result.now c.args.program.now.structures c.args.id.0 c.index-structures-id.result c.as_slice-structures.ensures.items lt c.index-structures-id.is in
    let same : union.0 ≡ c.index-structures-id.result = some-same (slice_get c.args.program.now.structures c.args.id.0) union.0 c.index-structures-id.result union.1 there in
    ap (λ x. x.is_union) (sym same) ∙ union.2

pub store_member-store_value-requires-in-Some-common_structure : goal.store_member-store_value-requires-in-Some-common_structure
store_member-store_value-requires-in-Some-common_structure t c =
    let union = (union-there c.args.program.now c.args.layouts.now.structures c.args.space.now c.args.at c.args.id c.requires.can.0 c.args.member (tree_of c.args.value.now) c.requires.can.1) in
    let lt = slice_get_within c.args.program.now.structures c.args.id.0 union.0 union.1 in
    let there = read_at c.as_slice-structures.result.now c.args.program.now.structures c.args.id.0 c.index-structures-id.result c.as_slice-structures.ensures.items lt c.index-structures-id.is in
    let same : union.0 ≡ c.index-structures-id.result = some-same (slice_get c.args.program.now.structures c.args.id.0) union.0 c.index-structures-id.result union.1 there in
    let can = subst (λ m. CanStore c.args.program.now c.args.layouts.now.structures c.args.space.now c.args.at (ty.Node c.args.id c.requires.can.0) (Alt m (tree_of c.args.value.now))) c.in_default.is c.requires.can.1 in (
      search rules,
      (
        c.requires.settled,
        (
          c.requires.laid,
          (
            c.requires.within,
            can-common c.args.program.now c.args.layouts.now.structures c.requires.settled c.args.space.now c.args.at c.args.id c.requires.can.0 (tree_of c.args.value.now) c.index-structures-id.result
                c.in-Some-common_structure.id there c.in-Some-common_structure.ensures can,
          ),
        ),
      ),
    )

pub store_member-returns-in-Some-common_structure-clause-stored : goal.store_member-returns-in-Some-common_structure-clause-stored
store_member-returns-in-Some-common_structure-clause-stored t c desc =
    let union = (union-there c.args.program.now c.args.layouts.now.structures c.args.space.now c.args.at c.args.id c.requires.can.0 c.args.member (tree_of c.args.value.now) c.requires.can.1) in
    let lt = slice_get_within c.args.program.now.structures c.args.id.0 union.0 union.1 in
    let there = read_at c.as_slice-structures.result.now c.args.program.now.structures c.args.id.0 c.index-structures-id.result c.as_slice-structures.ensures.items lt c.index-structures-id.is in
    let same : union.0 ≡ c.index-structures-id.result = some-same (slice_get c.args.program.now.structures c.args.id.0) union.0 c.index-structures-id.result union.1 there in
    let can = subst (λ m. CanStore c.args.program.now c.args.layouts.now.structures c.args.space.now c.args.at (ty.Node c.args.id c.requires.can.0) (Alt m (tree_of c.args.value.now))) c.in_default.is c.requires.can.1 in
    let plain = can-plain c.args.program.now c.args.layouts.now.structures c.requires.settled c.args.space.now c.args.at c.args.id c.requires.can.0 (tree_of c.args.value.now) c.index-structures-id.result
    c.in-Some-common_structure.id there c.in-Some-common_structure.ensures can in
    subst (λ m. IsWritten c.args.program.now c.args.layouts.now.structures c.args.at (ty.Node c.args.id desc) (Alt m (tree_of c.args.value.now)) c.args.space.now c.store_value-in-Some-common_structure.new.space) (sym c.in_default.is)
    (common-stored c.args.program.now c.args.layouts.now.structures c.requires.settled c.args.space.now c.args.at c.args.id desc (tree_of c.args.value.now) c.store_value-in-Some-common_structure.new.space c.index-structures-id.result
    c.in-Some-common_structure.id there c.in-Some-common_structure.ensures plain c.store_value-in-Some-common_structure.ensures.stored)

pub store_member-returns-in_default-common_structure-clause-stored : goal.store_member-returns-in_default-common_structure-clause-stored
store_member-returns-in_default-common_structure-clause-stored t c desc =
    let union = (union-there c.args.program.now c.args.layouts.now.structures c.args.space.now c.args.at c.args.id c.requires.can.0 c.args.member (tree_of c.args.value.now) c.requires.can.1) in
    let lt = slice_get_within c.args.program.now.structures c.args.id.0 union.0 union.1 in
    let there = read_at c.as_slice-structures.result.now c.args.program.now.structures c.args.id.0 c.index-structures-id.result c.as_slice-structures.ensures.items lt c.index-structures-id.is in
    let same : union.0 ≡ c.index-structures-id.result = some-same (slice_get c.args.program.now.structures c.args.id.0) union.0 c.index-structures-id.result union.1 there in
    subst (λ m. IsWritten c.args.program.now c.args.layouts.now.structures c.args.at (ty.Node c.args.id desc) (Alt m (tree_of c.args.value.now)) c.args.space.now c.args.space.now) (sym c.in_default.is)
    (nothing-stored c.args.program.now c.args.layouts.now.structures c.requires.settled c.args.space.now c.args.at c.args.id desc (tree_of c.args.value.now) c.index-structures-id.result there c.in_default-common_structure.ensures)
