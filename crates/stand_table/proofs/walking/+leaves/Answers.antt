use Rattle.std.proofs.Common.{◌≡◌, ◌++◌, ◌+◌, get_or, rules, subst, sym}
use Rattle.std.proofs.lemmas.Result.{IfOk-weaker}
use Rattle.gt_value.specs.Values.{tree_of}
use Rattle.stand_table.specs.Walks.{AreLeaves}
use Rattle.stand_table.proofs.LeafLists.{FieldsSoFar, ElementsSoFar, fields-more, fields-end, elements-more, elements-end}
use Rattle.stand_table.proofs.LeafRules.{struct-rule, member-rule, common-rule, nothing-rule, array-rule, tail-rule}
use Rattle.stand_table.proofs.walking.+leaves.Goals as goal

-- ---- structures

pub struct_leaves-returns : goal.struct_leaves-returns
struct_leaves-returns t c =
    IfOk-weaker c.field_leaves.result _ _
    (λ leaves are. struct-rule c.args.on.now c.args.at c.args.ty.now leaves.items c.in-Node.id c.in-Node.desc c.in-Some.structure.now c.in-Node.is (search rules) c.in-Some-get.plane.now c.args.parts.now c.if-structure.false (search rules) (search rules))
    c.field_leaves.ensures

pub field_leaves-loop-i-preserved : goal.field_leaves-loop-i-preserved
field_leaves-loop-i-preserved t c =
    let joined : c.append.new.self.items ≡ c.loop-i.leaves.items ++ c.in_ok-more.more.items = search rules in
    subst (FieldsSoFar c.args.on.now c.args.at c.args.fields.now c.args.spots.now c.args.parts.now (c.loop-i.i + 1)) (sym joined)
    (fields-more c.args.on.now c.args.at c.args.fields.now c.args.spots.now c.args.parts.now c.loop-i.i c.loop-i.leaves.items c.in_ok-more.more.items c.index-fields-i.result (record { offset = 0; bit = 0 }) c.index-parts-i.result
    (search rules) (search rules) c.loop-i-test.true c.index-parts-i.is
    (subst (λ bit. AreLeaves c.args.on.now bit (get_or c.args.fields.now c.loop-i.i c.index-fields-i.result).ty (tree_of c.index-parts-i.result) c.in_ok-more.more.items) c.in_ok-begin.ensures c.in_ok-more.ensures)
    c.loop-i.invariant)

pub field_leaves-returns : goal.field_leaves-returns
field_leaves-returns t c =
    fields-end c.args.on.now c.args.at c.args.fields.now c.args.spots.now c.args.parts.now c.loop-i.i c.loop-i.leaves.items c.loop-i-test.false (search rules) (search rules) c.loop-i.invariant

-- ---- unions

pub member_leaves-returns-in-Some-get : goal.member_leaves-returns-in-Some-get
member_leaves-returns-in-Some-get t c =
    IfOk-weaker c.leaves_of.result _ _
    (λ leaves are. member-rule c.args.on.now c.args.at c.args.ty.now leaves.items c.in-Node.id c.in-Node.desc c.in-Some.structure.now c.in-Node.is (search rules) c.args.place c.in-Some-get.field.now (tree_of c.args.there.now) (search rules) (search rules) are)
    c.leaves_of.ensures

pub memberless_leaves-returns-in-Some-common_structure : goal.memberless_leaves-returns-in-Some-common_structure
memberless_leaves-returns-in-Some-common_structure t c =
    IfOk-weaker c.common_leaves.result _ _
    (λ leaves are. common-rule c.args.on.now c.args.at c.args.ty.now leaves.items c.in-Node.id c.in-Node.desc c.in-Some.structure.now c.in-Node.is (search rules) c.in-Some-common_structure.common (tree_of c.args.there.now) (search rules) c.in-Some-common_structure.ensures are)
    c.common_leaves.ensures

pub memberless_leaves-returns-in-None : goal.memberless_leaves-returns-in-None
memberless_leaves-returns-in-None t c =
    IfOk-weaker c.nothing_leaves.result _ _
    (λ leaves are. nothing-rule c.args.on.now c.args.at c.args.ty.now leaves.items c.in-Node.id c.in-Node.desc c.in-Some.structure.now c.in-Node.is (search rules) (tree_of c.args.there.now) (search rules) c.in-None.ensures are)
    c.nothing_leaves.ensures

-- ---- arrays

pub array_leaves-returns-in-Arr : goal.array_leaves-returns-in-Arr
array_leaves-returns-in-Arr t c =
    IfOk-weaker c.element_leaves.result _ _
    (λ leaves are. array-rule c.args.on.now c.args.at c.args.ty.now leaves.items c.get.result.now c.in-Arr.elem c.args.parts.now c.get.ensures are c.in-Arr.n c.in-Arr.is) c.element_leaves.ensures

pub array_leaves-returns-in-Tail : goal.array_leaves-returns-in-Tail
array_leaves-returns-in-Tail t c =
    IfOk-weaker c.element_leaves-in-Tail.result _ _
    (λ leaves are. tail-rule c.args.on.now c.args.at c.args.ty.now leaves.items c.get-in-Tail.result.now c.in-Tail.elem c.args.parts.now c.get-in-Tail.ensures are c.in-Tail.len c.in-Tail.is)
    c.element_leaves-in-Tail.ensures

pub element_leaves-loop-part-preserved : goal.element_leaves-loop-part-preserved
element_leaves-loop-part-preserved t c =
    let joined : c.append.new.self.items ≡ c.loop-part.leaves.items ++ c.in_ok-more.more.items = search rules in
    subst (ElementsSoFar c.args.on.now c.args.at c.args.elem.now c.args.parts.now (c.loop-part.part-index + 1) c.in_ok-begin.begin) (sym joined)
    (elements-more c.args.on.now c.args.at c.args.elem.now c.args.parts.now c.loop-part.part-index c.loop-part.begin c.in_ok-begin.begin c.loop-part.leaves.items c.in_ok-more.more.items c.part-item.result
    c.loop-part-test.true c.part-item.is (search rules) (search rules) c.loop-part.invariant)

pub element_leaves-returns : goal.element_leaves-returns
element_leaves-returns t c =
    elements-end c.args.on.now c.args.at c.args.elem.now c.args.parts.now c.loop-part.part-index c.loop-part.begin c.loop-part.leaves.items c.loop-part-test.false c.loop-part.invariant
