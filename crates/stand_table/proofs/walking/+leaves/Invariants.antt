use Rattle.stand_table.proofs.LeafLists.{FieldsSoFar, ElementsSoFar}
use Rattle.stand_table.proofs.walking.+leaves.Given as goal

abbrev pub invariant-field_leaves-loop-i : goal.invariant-field_leaves-loop-i
invariant-field_leaves-loop-i l = FieldsSoFar l.on l.at l.fields l.spots l.parts l.i l.leaves.items

abbrev pub invariant-element_leaves-loop-part : goal.invariant-element_leaves-loop-part
invariant-element_leaves-loop-part l = ElementsSoFar l.on l.at l.elem l.parts l.part-index l.begin l.leaves.items
