use Rattle.std.proofs.Common.{◌≡◌, ◌∙◌, ◌+◌, ◌-◌, ◌*◌, ◌<◌, ◌≤◌, ap, sym, subst, refl, arith, rules, length, map, Some, None, get_or}
use Rattle.std.specs.Prelude.{IfOk}
use Rattle.std.proofs.lemmas.List.{get_or_default}
use Rattle.std.proofs.lemmas.List.Elements.{All-get_or, All-contains}
use Rattle.std.proofs.lemmas.Result.{IfOk-weaker}
use Rattle.gt_types.specs.declared.types.TypeId.{TypeId}
use Rattle.gt_types.specs.declared.types.Ty.{out-Ty}
use Rattle.gt_types.specs.declared.types.Ty.TheOpen as part
use Rattle.gt_types.specs.declared.types.Ty.TheVariants as ty
use Rattle.gt_types.specs.declared.types.Ty.TheVariants.{outs-Arr, outs-Tail}
use Rattle.gt_types.specs.declared.program.Field.{Field}
use Rattle.gt_types.specs.Shapes.{dimensions}
use Rattle.gt_types.specs.Unions.{IsCommon}
use Rattle.gt_layout.specs.Progress.{HoldsWithinDepth}
use Rattle.gt_layout.proofs.Laying.{read_at}
use Rattle.gt_layout.proofs.Capacities.{node_within, shallow_fields}
use Rattle.gt_tree.specs.Trees.{Tree, Rec, Alt, Row, End}
use Rattle.gt_tree.proofs.Types.{held-array, held-tail}
use Rattle.gt_tree.proofs.FixedParts.{is-no_more}
use Rattle.gt_value.specs.declared.values.Value.TheVariants as value
use Rattle.gt_value.specs.Values.{tree_of, trees}
use Rattle.gt_value.specs.Reading.{Stands, EachStands, entered, without_pointers}
use Rattle.gt_value.proofs.TreesOf.{tree-rec, tree-row}
use Rattle.gt_value.proofs.ZeroSteps.{fields-flat, active-within}
use Rattle.gt_value.proofs.Dimensions.{array-dimensions, tail-dimensions}
use Rattle.gt_value.proofs.StandingParts.{struct-stands, array-stands, tail-stands, fields-as, active-is, member-read, common-read, nothing-read}
use Rattle.gt_value.proofs.StandingSteps.{each-size, each-next, each-more, each-end, front-none, spot-there, fields-next, fields-more, fields-end}
use Rattle.gt_value.proofs.reading.+reading.Goals as goal

pub read_elements-returns-then-n-eq0 : goal.read_elements-returns-then-n-eq0
read_elements-returns-then-n-eq0 t c values s =
    ap (λ xs. trees (map tree_of xs)) c.new-parts.ensures.items ∙ sym (is-no_more values (s.as_many ∙ c.if-n-eq0.true))

pub read_elements-size_of-stride-requires : goal.read_elements-size_of-stride-requires
read_elements-size_of-stride-requires t c = each-size c.args.source.now c.args.around c.args.elem.now c.args.at c.args.n c.requires.stand.0 (omega (arith, c.if-n-eq0.false)) c.requires.stand.1

pub read_elements-overflow_mul-stride : goal.read_elements-overflow_mul-stride
read_elements-overflow_mul-stride t c =
    let small = each-size c.args.source.now c.args.around c.args.elem.now c.args.at c.args.n c.requires.stand.0 (omega (arith, c.if-n-eq0.false)) c.requires.stand.1 in
    omega (arith, small, c.size_of-stride.ensures)

pub read_elements-loop-init : goal.read_elements-loop-init
read_elements-loop-init t c values s =
    let all : c.args.n ≡ c.args.n - 0 = omega arith in
    record {
      rest = values;
      front = front-none c.new-parts.result.items values c.new-parts.ensures.items;
      stand = subst (λ k. EachStands c.args.source.now c.args.around c.args.elem.now c.args.at k values) all s;
    }

pub read_elements-overflow_cast-begin-in-loop : goal.read_elements-overflow_cast-begin-in-loop
read_elements-overflow_cast-begin-in-loop t c =
    let r = c.loop.invariant c.requires.stand.0 c.requires.stand.1 in
    omega (arith, r.stand.inside, r.stand.context.small)

pub read_elements-read_type-requires : goal.read_elements-read_type-requires
read_elements-read_type-requires t c =
    let values = c.requires.stand.0 in
    let r = c.loop.invariant values c.requires.stand.1 in
    let step = each-next c.args.source.now c.args.around c.args.elem.now values c.loop.parts.items c.loop.begin c.args.n c.loop.counter c.loop-test.true r in
    (omega arith, ((step.tree, step.first), (c.requires.shallow, c.requires.flat)))

pub read_elements-overflow_add-begin : goal.read_elements-overflow_add-begin
read_elements-overflow_add-begin t c =
    let small = each-size c.args.source.now c.args.around c.args.elem.now c.args.at c.args.n c.requires.stand.0 (omega (arith, c.if-n-eq0.false)) c.requires.stand.1 in
    let r = c.loop.invariant c.requires.stand.0 c.requires.stand.1 in
    omega (arith, small, c.size_of-stride.ensures, r.stand.inside, r.stand.context.small)

pub read_elements-loop-preserved : goal.read_elements-loop-preserved
read_elements-loop-preserved t c values s =
    each-more c.args.source.now c.args.around c.args.elem.now values c.loop.parts.items c.push.new.self.items c.in_ok-part.part c.loop.begin c.args.n c.loop.counter (c.loop.begin + 8 * c.size_of-stride.result) c.loop-test.true
    (c.loop.invariant values s) (ap (λ k. c.loop.begin + 8 * k) c.size_of-stride.ensures) c.in_ok-part.ensures c.in_ok-push.ensures.items

pub read_elements-returns : goal.read_elements-returns
read_elements-returns t c values s =
    each-end c.args.source.now c.args.around c.args.elem.now values c.loop.parts.items c.loop.begin (c.args.n - c.loop.counter) (omega (arith, c.loop-test.false)) (c.loop.invariant values s)

pub read_fields-loop-i-init : goal.read_fields-loop-i-init
read_fields-loop-i-init t c values s = record { rest = values; front = front-none c.new-parts.result.items values c.new-parts.ensures.items; stand = s }

pub read_fields-bounds-spots-i : goal.read_fields-bounds-spots-i
read_fields-bounds-spots-i t c =
    let values = c.requires.stand.0 in
    spot-there c.args.source.now c.args.around (λ (f : Field). f.ty) c.args.fields.now c.args.spots.now c.args.at values c.loop-i.parts.items c.loop-i.i c.index-fields-i.result c.loop-i-test.true c.index-fields-i.is (c.loop-i.invariant values c.requires.stand.1)

pub read_fields-returns : goal.read_fields-returns
read_fields-returns t c values s =
    fields-end c.args.source.now c.args.around (λ (f : Field). f.ty) c.args.fields.now c.args.spots.now c.args.at values c.loop-i.parts.items c.loop-i.i c.loop-i-test.false (c.loop-i.invariant values s)

pub read_type-overflow_sub-depth : goal.read_type-overflow_sub-depth
read_type-overflow_sub-depth t c = (node_within c.args.source.now.program.now c.args.ty.now c.in-Node.id c.in-Node.desc c.args.depth c.requires.shallow c.in-Node.is).1

pub read_type-read_structure-requires : goal.read_type-read_structure-requires
read_type-read_structure-requires t c =
    let inner = node_within c.args.source.now.program.now c.args.ty.now c.in-Node.id c.in-Node.desc c.args.depth c.requires.shallow c.in-Node.is in
    let value = c.requires.stands.0 in
    (omega (arith, inner.1), ((value, subst (λ y. Stands c.args.source.now c.args.around y c.args.at value) c.in-Node.is c.requires.stands.1), (inner.0, inner.2)))

pub read_type-returns-in-Node : goal.read_type-returns-in-Node
read_type-returns-in-Node t c =
    subst (λ y. IfOk c.read_structure.result (λ v. (value : Tree) → Stands c.args.source.now c.args.around y c.args.at value → tree_of v ≡ value)) (sym c.in-Node.is) c.read_structure.ensures

pub read_type-returns-in-Opaque : goal.read_type-returns-in-Opaque
read_type-returns-in-Opaque t c =
    subst (λ y. IfOk c.read_opaque.result (λ v. (value : Tree) → Stands c.args.source.now c.args.around y c.args.at value → tree_of v ≡ value)) (sym c.in-Opaque.is) c.read_opaque.ensures

pub read_type-read_elements-requires : goal.read_type-read_elements-requires
read_type-read_elements-requires t c =
    let elem = c.get.result.now in
    let is : out-Ty c.args.ty.now ≡ part.Arr c.in-Arr.n elem = ap out-Ty c.in-Arr.is ∙ outs-Arr c.in-Arr.n c.in-Arr.elem ∙ ap (part.Arr c.in-Arr.n) (sym c.get.ensures) in
    let row = array-stands c.args.source.now c.args.around c.args.ty.now elem c.args.at c.in-Arr.n c.requires.stands.0 is c.requires.stands.1 in
    let flat = array-dimensions c.args.ty.now elem c.in-Arr.n is in
    (omega (arith, flat), ((row.trees, row.stand), (λ node h. c.requires.shallow node (held-array c.args.ty.now elem c.in-Arr.n is ∙ h), omega (arith, flat, c.requires.flat))))

pub read_type-returns-in_ok-parts-in-Arr : goal.read_type-returns-in_ok-parts-in-Arr
read_type-returns-in_ok-parts-in-Arr t c value stands =
    let elem = c.get.result.now in
    let is : out-Ty c.args.ty.now ≡ part.Arr c.in-Arr.n elem = ap out-Ty c.in-Arr.is ∙ outs-Arr c.in-Arr.n c.in-Arr.elem ∙ ap (part.Arr c.in-Arr.n) (sym c.get.ensures) in
    let row = array-stands c.args.source.now c.args.around c.args.ty.now elem c.args.at c.in-Arr.n value is stands in
    tree-row c.in_ok-parts-in-Arr.parts ∙ ap Row (c.in_ok-parts-in-Arr.ensures row.trees row.stand) ∙ sym row.is

pub read_type-read_length-n-requires : goal.read_type-read_length-n-requires
read_type-read_length-n-requires t c = record { laid = c.requires.stands.1.context.laid }

pub read_type-read_elements-requires-in-Tail : goal.read_type-read_elements-requires-in-Tail
read_type-read_elements-requires-in-Tail t c =
    let elem = c.get-in-Tail.result.now in
    let is : out-Ty c.args.ty.now ≡ part.Tail c.in-Tail.len elem = ap out-Ty c.in-Tail.is ∙ outs-Tail c.in-Tail.len c.in-Tail.elem ∙ ap (part.Tail c.in-Tail.len) (sym c.get-in-Tail.ensures) in
    let found = tail-stands c.args.source.now c.args.around c.args.ty.now elem c.args.at c.in-Tail.len c.requires.stands.0 is c.requires.stands.1 in
    let many = c.read_length-n.ensures found.n found.worth found.few in
    let flat = tail-dimensions c.args.ty.now elem c.in-Tail.len is in
    (omega (arith, flat), ((found.row.trees, subst (λ k. EachStands c.args.source.now c.args.around elem c.args.at k found.row.trees) (sym many) found.row.stand), (λ node h. c.requires.shallow node (held-tail c.args.ty.now elem c.in-Tail.len is ∙ h), omega (arith, flat, c.requires.flat))))

pub read_type-returns-in_ok-parts-in-Tail : goal.read_type-returns-in_ok-parts-in-Tail
read_type-returns-in_ok-parts-in-Tail t c value stands =
    let elem = c.get-in-Tail.result.now in
    let is : out-Ty c.args.ty.now ≡ part.Tail c.in-Tail.len elem = ap out-Ty c.in-Tail.is ∙ outs-Tail c.in-Tail.len c.in-Tail.elem ∙ ap (part.Tail c.in-Tail.len) (sym c.get-in-Tail.ensures) in
    let found = tail-stands c.args.source.now c.args.around c.args.ty.now elem c.args.at c.in-Tail.len value is stands in
    let many = c.read_length-n.ensures found.n found.worth found.few in
    tree-row c.in_ok-parts-in-Tail.parts
    ∙ ap Row (c.in_ok-parts-in-Tail.ensures found.row.trees (subst (λ k. EachStands c.args.source.now c.args.around elem c.args.at k found.row.trees) (sym many) found.row.stand))
    ∙ sym found.row.is

pub read_union-worth_of-worth-requires : goal.read_union-worth_of-worth-requires
read_union-worth_of-worth-requires t c = record { laid = c.requires.stands.1.context.laid }

pub read_union-active_member-requires-clause-laid : goal.read_union-active_member-requires-clause-laid
read_union-active_member-requires-clause-laid t c = c.requires.stands.1.context.laid

pub read_union-bounds-fields-place : goal.read_union-bounds-fields-place
read_union-bounds-fields-place t c =
    let within = active-within c.worth_of-worth.result c.args.structure.now.fields c.in-Some.place (sym c.in-Some.ensures) in
    omega (arith, within, ap length c.as_slice-fields.ensures.items)

pub read_fields-overflow_cast-begin-in-loop-i : goal.read_fields-overflow_cast-begin-in-loop-i
read_fields-overflow_cast-begin-in-loop-i t c =
    let values = c.requires.stand.0 in
    let f = c.index-fields-i.result in
    let b = c.begin_at.ensures.begin in
    let spot = get_or c.args.spots.now c.loop-i.i (record { offset = 0; bit = 0 }) in
    let r = c.loop-i.invariant values c.requires.stand.1 in
    let within = spot-there c.args.source.now c.args.around (λ (f : Field). f.ty) c.args.fields.now c.args.spots.now c.args.at values c.loop-i.parts.items c.loop-i.i f c.loop-i-test.true c.index-fields-i.is r in
    let spot_is : spot ≡ get_or c.args.spots.now c.loop-i.i spot = get_or_default c.args.spots.now c.loop-i.i (record { offset = 0; bit = 0 }) spot within in
    let step = fields-next c.args.source.now c.args.around (λ (f : Field). f.ty) c.args.fields.now c.args.spots.now c.args.at values c.loop-i.parts.items c.loop-i.i f spot c.loop-i-test.true c.index-fields-i.is spot_is r in
    omega (arith, step.first.inside, step.first.context.small, b)

pub read_fields-read_type-requires : goal.read_fields-read_type-requires
read_fields-read_type-requires t c =
    let values = c.requires.stand.0 in
    let f = c.index-fields-i.result in
    let b = c.begin_at.ensures.begin in
    let spot = get_or c.args.spots.now c.loop-i.i (record { offset = 0; bit = 0 }) in
    let r = c.loop-i.invariant values c.requires.stand.1 in
    let within = spot-there c.args.source.now c.args.around (λ (f : Field). f.ty) c.args.fields.now c.args.spots.now c.args.at values c.loop-i.parts.items c.loop-i.i f c.loop-i-test.true c.index-fields-i.is r in
    let spot_is : spot ≡ get_or c.args.spots.now c.loop-i.i spot = get_or_default c.args.spots.now c.loop-i.i (record { offset = 0; bit = 0 }) spot within in
    let step = fields-next c.args.source.now c.args.around (λ (f : Field). f.ty) c.args.fields.now c.args.spots.now c.args.at values c.loop-i.parts.items c.loop-i.i f spot c.loop-i-test.true c.index-fields-i.is spot_is r in
    let shallow = subst (λ g. HoldsWithinDepth c.args.source.now.program.now g.ty c.args.depth) (sym c.index-fields-i.is) (c.requires.shallow c.loop-i.i f c.loop-i-test.true) in
    let flat = subst (λ g. dimensions g.ty ≤ 4) (sym c.index-fields-i.is) (c.requires.flat c.loop-i.i f c.loop-i-test.true) in
    (omega (arith, flat), ((step.tree, subst (λ k. Stands c.args.source.now c.args.around f.ty (c.args.at + k) step.tree) (sym b) step.first), (shallow, flat)))

pub read_fields-loop-i-preserved : goal.read_fields-loop-i-preserved
read_fields-loop-i-preserved t c values s =
    let f = c.index-fields-i.result in
    let b = c.begin_at.ensures.begin in
    let spot = get_or c.args.spots.now c.loop-i.i (record { offset = 0; bit = 0 }) in
    let r = c.loop-i.invariant values s in
    let within = spot-there c.args.source.now c.args.around (λ (f : Field). f.ty) c.args.fields.now c.args.spots.now c.args.at values c.loop-i.parts.items c.loop-i.i f c.loop-i-test.true c.index-fields-i.is r in
    let spot_is : spot ≡ get_or c.args.spots.now c.loop-i.i spot = get_or_default c.args.spots.now c.loop-i.i (record { offset = 0; bit = 0 }) spot within in
    fields-more c.args.source.now c.args.around (λ (f : Field). f.ty) c.args.fields.now c.args.spots.now c.args.at values c.loop-i.parts.items c.push.new.self.items c.loop-i.i f spot c.in_ok-part.part c.loop-i-test.true c.index-fields-i.is spot_is r
    (λ value stands. c.in_ok-part.ensures value (subst (λ k. Stands c.args.source.now c.args.around f.ty (c.args.at + k) value) (sym b) stands)) c.in_ok-push.ensures.items

pub read_structure-read_fields-requires : goal.read_structure-read_fields-requires
read_structure-read_fields-requires t c =
    let program = c.args.source.now.program.now in
    let planes = c.args.source.now.layouts.now.structures in
    let y = c.index-as_slice-id.result in
    let plane = c.index-as_slice-id-2.result in
    let has = read_at c.as_slice.result.now program.structures c.args.id.0 y c.as_slice.ensures.items c.requires.there c.index-as_slice-id.is in
    let there : c.args.id.0 < length planes = omega (arith, c.requires.there, c.requires.stands.1.context.laid.structures.all) in
    let laid = read_at c.as_slice-2.result.now planes c.args.id.0 plane c.as_slice-2.ensures.items there c.index-as_slice-id-2.is in
    let parts = struct-stands c.args.source.now c.args.around c.args.id c.args.desc.now c.args.at y has plane c.requires.stands.0 c.if-structure.false laid c.requires.stands.1 in
    let stand = fields-as c.args.source.now c.enter.result (entered c.args.around c.args.id c.args.at) c.as_slice-3.result.now y.fields c.as_slice-4.result.now plane.fields c.args.at parts.trees c.enter.ensures c.as_slice-3.ensures.items c.as_slice-4.ensures.items parts.stand in (
      omega arith,
      (
        (parts.trees, stand),
        (
          shallow_fields program c.args.id.0 c.args.depth y c.as_slice-3.result.now c.requires.stands.1.context.settled has c.requires.shallow c.as_slice-3.ensures.items,
          fields-flat program c.args.id y c.as_slice-3.result.now c.requires.stands.1.context.settled has c.as_slice-3.ensures.items,
        ),
      ),
    )

pub read_structure-returns : goal.read_structure-returns
read_structure-returns t c value stands =
    let program = c.args.source.now.program.now in
    let planes = c.args.source.now.layouts.now.structures in
    let y = c.index-as_slice-id.result in
    let plane = c.index-as_slice-id-2.result in
    let has = read_at c.as_slice.result.now program.structures c.args.id.0 y c.as_slice.ensures.items c.requires.there c.index-as_slice-id.is in
    let there : c.args.id.0 < length planes = omega (arith, c.requires.there, stands.context.laid.structures.all) in
    let laid = read_at c.as_slice-2.result.now planes c.args.id.0 plane c.as_slice-2.ensures.items there c.index-as_slice-id-2.is in
    let parts = struct-stands c.args.source.now c.args.around c.args.id c.args.desc.now c.args.at y has plane value c.if-structure.false laid stands in
    let stand = fields-as c.args.source.now c.enter.result (entered c.args.around c.args.id c.args.at) c.as_slice-3.result.now y.fields c.as_slice-4.result.now plane.fields c.args.at parts.trees c.enter.ensures c.as_slice-3.ensures.items c.as_slice-4.ensures.items parts.stand in
    tree-rec c.in_ok-parts.parts ∙ ap Rec (c.in_ok-parts.ensures parts.trees stand) ∙ sym parts.is

pub read_union-read_type-requires : goal.read_union-read_type-requires
read_union-read_type-requires t c =
    let y = c.args.structure.now in
    let inner = entered c.args.around c.args.id c.args.at in
    let f = c.index-fields-place.result in
    let within = active-within c.worth_of-worth.result y.fields c.in-Some.place (sym c.in-Some.ensures) in
    let lt : c.in-Some.place < length c.as_slice-fields.result.now = omega (arith, within, ap length c.as_slice-fields.ensures.items) in
    let got = read_at c.as_slice-fields.result.now y.fields c.in-Some.place f c.as_slice-fields.ensures.items within c.index-fields-place.is in
    let active = active-is c.args.source.now c.enter-inner.result inner c.args.desc.now c.worth_of-worth.result y.fields (Some c.in-Some.place) c.enter-inner.ensures c.worth_of-worth.ensures c.in-Some.ensures in
    let found = member-read c.args.source.now c.args.around c.args.id c.args.desc.now c.args.at y c.requires.has c.requires.union c.in-Some.place f c.requires.stands.0 active got c.requires.stands.1 in
    let here = subst (λ g. Stands c.args.source.now c.enter-inner.result g.ty c.args.at found.0) c.index-fields-place.is (subst (λ x. Stands c.args.source.now x f.ty c.args.at found.0) (sym c.enter-inner.ensures) found.2) in
    let settled = c.requires.stands.1.context.settled in
    let flat = All-get_or (λ g. dimensions g.ty ≤ 4) c.as_slice-fields.result.now c.in-Some.place f lt (fields-flat c.args.source.now.program.now c.args.id y c.as_slice-fields.result.now settled c.requires.has c.as_slice-fields.ensures.items) in
    let shallow = All-get_or (λ g. HoldsWithinDepth c.args.source.now.program.now g.ty c.args.depth) c.as_slice-fields.result.now c.in-Some.place f lt
    (shallow_fields c.args.source.now.program.now c.args.id.0 c.args.depth y c.as_slice-fields.result.now settled c.requires.has c.requires.shallow c.as_slice-fields.ensures.items) in
    (omega (arith, flat), ((found.0, here), (shallow, flat)))

pub read_union-returns-in-Some : goal.read_union-returns-in-Some
read_union-returns-in-Some t c =
    let y = c.args.structure.now in
    let inner = entered c.args.around c.args.id c.args.at in
    let f = c.index-fields-place.result in
    let within = active-within c.worth_of-worth.result y.fields c.in-Some.place (sym c.in-Some.ensures) in
    let got = read_at c.as_slice-fields.result.now y.fields c.in-Some.place f c.as_slice-fields.ensures.items within c.index-fields-place.is in
    let active = active-is c.args.source.now c.enter-inner.result inner c.args.desc.now c.worth_of-worth.result y.fields (Some c.in-Some.place) c.enter-inner.ensures c.worth_of-worth.ensures c.in-Some.ensures in
    let found = λ (value : Tree) (stands : Stands c.args.source.now c.args.around (ty.Node c.args.id c.args.desc.now) c.args.at value). member-read c.args.source.now c.args.around c.args.id c.args.desc.now c.args.at y c.requires.has c.requires.union c.in-Some.place f value active got stands in
    let here = λ (value : Tree) (stands : Stands c.args.source.now c.args.around (ty.Node c.args.id c.args.desc.now) c.args.at value). subst (λ g. Stands c.args.source.now c.enter-inner.result g.ty c.args.at (found value stands).0) c.index-fields-place.is (subst (λ x. Stands c.args.source.now x f.ty c.args.at (found value stands).0) (sym c.enter-inner.ensures) (found value stands).2) in
    IfOk-weaker c.make_alt.result _ (λ v. (value : Tree) → Stands c.args.source.now c.args.around (ty.Node c.args.id c.args.desc.now) c.args.at value → tree_of v ≡ value)
    (λ v e value stands. e ∙ ap (Alt (Some c.in-Some.place)) (c.in_ok-value.ensures (found value stands).0 (here value stands)) ∙ sym (found value stands).1) c.make_alt.ensures

pub read_union-returns-in_default-common_structure : goal.read_union-returns-in_default-common_structure
read_union-returns-in_default-common_structure t c =
    let y = c.args.structure.now in
    let inner = entered c.args.around c.args.id c.args.at in
    let none : c.active_member.result ≡ None = search rules in
    let active = active-is c.args.source.now c.enter-inner.result inner c.args.desc.now c.worth_of-worth.result y.fields None c.enter-inner.ensures c.worth_of-worth.ensures (sym none ∙ c.active_member.ensures) in
    let no_common : (common : TypeId) → ¬ IsCommon c.args.source.now.program.now y common = search rules in
    let empty : tree_of (value.Rec c.new.result) ≡ Rec End = tree-rec c.new.result ∙ ap (λ xs. Rec (trees (map tree_of xs))) c.new.ensures.items in
    IfOk-weaker c.make_alt-in_default-common_structure.result _ (λ v. (value : Tree) → Stands c.args.source.now c.args.around (ty.Node c.args.id c.args.desc.now) c.args.at value → tree_of v ≡ value)
    (λ v e value stands. e ∙ ap (Alt None) empty ∙ sym (nothing-read c.args.source.now c.args.around c.args.id c.args.desc.now c.args.at y c.requires.has c.requires.union value active no_common stands)) c.make_alt-in_default-common_structure.ensures

pub read_union-overflow_sub-depth : goal.read_union-overflow_sub-depth
read_union-overflow_sub-depth t c =
    let y = c.args.structure.now in
    let inner = entered c.args.around c.args.id c.args.at in
    let none : c.active_member.result ≡ None = search rules in
    let active = active-is c.args.source.now c.enter-inner.result inner c.args.desc.now c.worth_of-worth.result y.fields None c.enter-inner.ensures c.worth_of-worth.ensures (sym none ∙ c.active_member.ensures) in
    let common = c.in-Some-common_structure.common in
    let is : IsCommon c.args.source.now.program.now y common = search rules in
    let changed : c.without_pointers.result ≡ without_pointers inner = c.without_pointers.ensures ∙ ap without_pointers c.enter-inner.ensures in
    let shallow = shallow_fields c.args.source.now.program.now c.args.id.0 c.args.depth y y.fields c.requires.stands.1.context.settled c.requires.has c.requires.shallow refl in
    let held = All-contains (λ f. HoldsWithinDepth c.args.source.now.program.now f.ty c.args.depth) y.fields is.member.0 shallow is.member.2 in
    let within = node_within c.args.source.now.program.now is.member.0.ty common is.member.1 c.args.depth held is.member.3 in
    within.1

pub read_union-read_structure-requires : goal.read_union-read_structure-requires
read_union-read_structure-requires t c =
    let y = c.args.structure.now in
    let inner = entered c.args.around c.args.id c.args.at in
    let none : c.active_member.result ≡ None = search rules in
    let active = active-is c.args.source.now c.enter-inner.result inner c.args.desc.now c.worth_of-worth.result y.fields None c.enter-inner.ensures c.worth_of-worth.ensures (sym none ∙ c.active_member.ensures) in
    let common = c.in-Some-common_structure.common in
    let is : IsCommon c.args.source.now.program.now y common = search rules in
    let changed : c.without_pointers.result ≡ without_pointers inner = c.without_pointers.ensures ∙ ap without_pointers c.enter-inner.ensures in
    let shallow = shallow_fields c.args.source.now.program.now c.args.id.0 c.args.depth y y.fields c.requires.stands.1.context.settled c.requires.has c.requires.shallow refl in
    let held = All-contains (λ f. HoldsWithinDepth c.args.source.now.program.now f.ty c.args.depth) y.fields is.member.0 shallow is.member.2 in
    let within = node_within c.args.source.now.program.now is.member.0.ty common is.member.1 c.args.depth held is.member.3 in
    let found = common-read c.args.source.now c.args.around c.args.id c.args.desc.now c.args.at y c.requires.has c.requires.union common c.requires.stands.0 active is c.requires.stands.1 in
    (omega (arith, within.1), ((found.0, subst (λ x. Stands c.args.source.now x (ty.Node common None) c.args.at found.0) (sym changed) found.2), (within.0, within.2)))

pub read_union-returns : goal.read_union-returns
read_union-returns t c =
    let y = c.args.structure.now in
    let inner = entered c.args.around c.args.id c.args.at in
    let none : c.active_member.result ≡ None = search rules in
    let active = active-is c.args.source.now c.enter-inner.result inner c.args.desc.now c.worth_of-worth.result y.fields None c.enter-inner.ensures c.worth_of-worth.ensures (sym none ∙ c.active_member.ensures) in
    let common = c.in-Some-common_structure.common in
    let is : IsCommon c.args.source.now.program.now y common = search rules in
    let changed : c.without_pointers.result ≡ without_pointers inner = c.without_pointers.ensures ∙ ap without_pointers c.enter-inner.ensures in
    let found = λ (value : Tree) (stands : Stands c.args.source.now c.args.around (ty.Node c.args.id c.args.desc.now) c.args.at value). common-read c.args.source.now c.args.around c.args.id c.args.desc.now c.args.at y c.requires.has c.requires.union common value active is stands in
    IfOk-weaker c.make_alt-2.result _ (λ v. (value : Tree) → Stands c.args.source.now c.args.around (ty.Node c.args.id c.args.desc.now) c.args.at value → tree_of v ≡ value)
    (λ v e value stands. e ∙ ap (Alt None) (c.in_ok-value-2.ensures (found value stands).0 (subst (λ x. Stands c.args.source.now x (ty.Node common None) c.args.at (found value stands).0) (sym changed) (found value stands).2)) ∙ sym (found value stands).1) c.make_alt-2.ensures
