use Rattle.std.proofs.Common.{◌∙◌, ap, sym}
use Rattle.gt_tree.specs.Blocks.{element_type}
use Rattle.gt_value.specs.Values.{tree_of}
use Rattle.gt_writes.proofs.AtElement.{lies_here, put_at, anew_at, misfit_all, misfit_one, word_there, nowhere, stands_here, type_is}
use Rattle.gt_writes.proofs.Anew.{both_ok}
use Rattle.gt_writes.proofs.LeafForms.{suits_word}
use Rattle.gt_writes.proofs.elements.write_in_object.Goals as goal

pub returns-in_default-clause-shape : goal.returns-in_default-clause-shape
returns-in_default-clause-shape c = λ e heap is.
    nowhere c.args.schema.now.program c.args.schema.now.layouts c.args.objects.now heap is c.args.addr c.args.place c.args.rest.now c.args.leaf (c.in_default.ensures.element heap is)

pub judge_element-requires-clause-stands : goal.judge_element-requires-clause-stands
judge_element-requires-clause-stands c = λ heap is.
    let program = c.args.schema.now.program in
    let at = c.in-Some.ensures.element heap is in
    let same = type_is program c.args.schema.now.layouts c.args.objects.now heap is c.args.addr at.0 at.1 c.in-Some.here.kind c.get-ty.result.now (c.get-ty.ensures.found program c.requires.schema.types) at.2.kind in
    (at.2.tree, stands_here program c.args.schema.now.layouts c.args.objects.now heap is c.args.addr c.args.place c.args.rest.now at.0 at.1 c.in-Some.here at.2 c.get-ty.result.now same)

pub store_leaf-requires-clause-from_start : goal.store_leaf-requires-clause-from_start
store_leaf-requires-clause-from_start c =
    let heap = c.requires.ready.0 in
    let is = c.requires.ready.1 in
    let program = c.args.schema.now.program in
    let at = c.in-Some.ensures.element heap is in
    let same = type_is program c.args.schema.now.layouts c.args.objects.now heap is c.args.addr at.0 at.1 c.in-Some.here.kind c.get-ty.result.now (c.get-ty.ensures.found program c.requires.schema.types) at.2.kind in
    let stands = stands_here program c.args.schema.now.layouts c.args.objects.now heap is c.args.addr c.args.place c.args.rest.now at.0 at.1 c.in-Some.here at.2 c.get-ty.result.now same in
    (c.judge_element.ensures.in_place c.in-InPlace.at c.in-InPlace.is heap at.2.tree is stands).at.is.from_start

pub store_leaf-requires-clause-bits : goal.store_leaf-requires-clause-bits
store_leaf-requires-clause-bits c =
    let heap = c.requires.ready.0 in
    let is = c.requires.ready.1 in
    let program = c.args.schema.now.program in
    let at = c.in-Some.ensures.element heap is in
    let same = type_is program c.args.schema.now.layouts c.args.objects.now heap is c.args.addr at.0 at.1 c.in-Some.here.kind c.get-ty.result.now (c.get-ty.ensures.found program c.requires.schema.types) at.2.kind in
    let stands = stands_here program c.args.schema.now.layouts c.args.objects.now heap is c.args.addr c.args.place c.args.rest.now at.0 at.1 c.in-Some.here at.2 c.get-ty.result.now same in
    (c.judge_element.ensures.in_place c.in-InPlace.at c.in-InPlace.is heap at.2.tree is stands).at.is.bits

pub store_leaf-requires-clause-may : goal.store_leaf-requires-clause-may
store_leaf-requires-clause-may c =
    let heap = c.requires.ready.0 in
    let is = c.requires.ready.1 in
    let program = c.args.schema.now.program in
    let at = c.in-Some.ensures.element heap is in
    let same = type_is program c.args.schema.now.layouts c.args.objects.now heap is c.args.addr at.0 at.1 c.in-Some.here.kind c.get-ty.result.now (c.get-ty.ensures.found program c.requires.schema.types) at.2.kind in
    let stands = stands_here program c.args.schema.now.layouts c.args.objects.now heap is c.args.addr c.args.place c.args.rest.now at.0 at.1 c.in-Some.here at.2 c.get-ty.result.now same in
    (c.judge_element.ensures.in_place c.in-InPlace.at c.in-InPlace.is heap at.2.tree is stands).holds

pub returns-in-InPlace-clause-written : goal.returns-in-InPlace-clause-written
returns-in-InPlace-clause-written c = λ heap is.
    let program = c.args.schema.now.program in
    let at = c.in-Some.ensures.element heap is in
    let same = type_is program c.args.schema.now.layouts c.args.objects.now heap is c.args.addr at.0 at.1 c.in-Some.here.kind c.get-ty.result.now (c.get-ty.ensures.found program c.requires.schema.types) at.2.kind in
    let stands = stands_here program c.args.schema.now.layouts c.args.objects.now heap is c.args.addr c.args.place c.args.rest.now at.0 at.1 c.in-Some.here at.2 c.get-ty.result.now same in
    put_at program c.args.schema.now.layouts c.args.objects.now heap is c.args.addr c.args.place c.args.rest.now at.0 at.1 c.in-Some.here at.2 c.get-ty.result.now same c.requires.schema.settled c.requires.schema.laid c.requires.schema.within c.sound.ensures.space c.args.leaf (c.requires.may heap is) c.in-InPlace.at
    (c.judge_element.ensures.in_place c.in-InPlace.at c.in-InPlace.is heap at.2.tree is stands) (c.judge_element.ensures.active c.in-InPlace.at c.in-InPlace.is) c.store_leaf.new.self c.store_leaf.ensures.rest c.store_leaf.ensures.written

pub returns-in-Misfit-clause-shape : goal.returns-in-Misfit-clause-shape
returns-in-Misfit-clause-shape c = λ e heap is.
    let program = c.args.schema.now.program in
    let at = c.in-Some.ensures.element heap is in
    let same = type_is program c.args.schema.now.layouts c.args.objects.now heap is c.args.addr at.0 at.1 c.in-Some.here.kind c.get-ty.result.now (c.get-ty.ensures.found program c.requires.schema.types) at.2.kind in
    let stands = stands_here program c.args.schema.now.layouts c.args.objects.now heap is c.args.addr c.args.place c.args.rest.now at.0 at.1 c.in-Some.here at.2 c.get-ty.result.now same in
    misfit_all program c.args.schema.now.layouts c.args.objects.now heap is c.args.addr c.args.place c.args.rest.now at.0 at.1 c.in-Some.here at.2 c.get-ty.result.now same c.args.leaf (λ tree means. c.judge_element.ensures.misfit c.in-Misfit.is heap at.2.tree tree is stands means)

pub leaf_value-requires : goal.leaf_value-requires
leaf_value-requires c =
    let heap = c.requires.ready.0 in
    let is = c.requires.ready.1 in
    let program = c.args.schema.now.program in
    let at = c.in-Some.ensures.element heap is in
    let same = type_is program c.args.schema.now.layouts c.args.objects.now heap is c.args.addr at.0 at.1 c.in-Some.here.kind c.get-ty.result.now (c.get-ty.ensures.found program c.requires.schema.types) at.2.kind in
    let takes = c.requires.may heap is in
    let word = word_there program c.args.schema.now.layouts c.args.objects.now heap is c.args.addr c.args.place c.args.rest.now at.0 at.1 c.in-Some.here at.2 c.get-ty.result.now same takes.t takes.standing c.is_word_at-is_word.result c.is_word_at-is_word.ensures in
    record { word = λ yes. suits_word heap.graph.objects takes.t.type c.args.leaf (sym word ∙ yes) takes.suits }

pub rewrite_element-requires-clause-stands : goal.rewrite_element-requires-clause-stands
rewrite_element-requires-clause-stands c = λ heap is.
    let program = c.args.schema.now.program in
    let at = c.in-Some.ensures.element heap is in
    let same = type_is program c.args.schema.now.layouts c.args.objects.now heap is c.args.addr at.0 at.1 c.in-Some.here.kind c.get-ty.result.now (c.get-ty.ensures.found program c.requires.schema.types) at.2.kind in
    (at.2.tree, stands_here program c.args.schema.now.layouts c.args.objects.now heap is c.args.addr c.args.place c.args.rest.now at.0 at.1 c.in-Some.here at.2 c.get-ty.result.now same)

pub returns-in_ok-value-in-NotInPlace-clause-written : goal.returns-in_ok-value-in-NotInPlace-clause-written
returns-in_ok-value-in-NotInPlace-clause-written c = both_ok c.rewrite_element.result
    (λ written others heap is.
    let program = c.args.schema.now.program in
    let at = c.in-Some.ensures.element heap is in
    let same = type_is program c.args.schema.now.layouts c.args.objects.now heap is c.args.addr at.0 at.1 c.in-Some.here.kind c.get-ty.result.now (c.get-ty.ensures.found program c.requires.schema.types) at.2.kind in
    let stands = stands_here program c.args.schema.now.layouts c.args.objects.now heap is c.args.addr c.args.place c.args.rest.now at.0 at.1 c.in-Some.here at.2 c.get-ty.result.now same in
    let takes = c.requires.may heap is in
    let word = word_there program c.args.schema.now.layouts c.args.objects.now heap is c.args.addr c.args.place c.args.rest.now at.0 at.1 c.in-Some.here at.2 c.get-ty.result.now same takes.t takes.standing c.is_word_at-is_word.result c.is_word_at-is_word.ensures in
    let tree_is = c.in_ok-value-in-NotInPlace.ensures.value heap.graph.objects takes.t.type word takes.suits in
    anew_at program c.args.schema.now.layouts c.args.objects.now heap is c.args.addr c.args.place c.args.rest.now at.0 at.1 c.in-Some.here at.2 c.get-ty.result.now same c.requires.schema.settled c.requires.schema.laid c.requires.schema.within c.sound.ensures.space c.args.leaf (c.requires.may heap is) (tree_of c.in_ok-value-in-NotInPlace.value) tree_is c.rewrite_element.new.objects others (written heap at.2.tree is stands))
    c.rewrite_element.ensures.written c.rewrite_element.ensures.rest

pub returns-in_ok-value-in-NotInPlace-clause-shape : goal.returns-in_ok-value-in-NotInPlace-clause-shape
returns-in_ok-value-in-NotInPlace-clause-shape c = λ e heap is.
    let program = c.args.schema.now.program in
    let at = c.in-Some.ensures.element heap is in
    let same = type_is program c.args.schema.now.layouts c.args.objects.now heap is c.args.addr at.0 at.1 c.in-Some.here.kind c.get-ty.result.now (c.get-ty.ensures.found program c.requires.schema.types) at.2.kind in
    let stands = stands_here program c.args.schema.now.layouts c.args.objects.now heap is c.args.addr c.args.place c.args.rest.now at.0 at.1 c.in-Some.here at.2 c.get-ty.result.now same in
    let takes = c.requires.may heap is in
    let word = word_there program c.args.schema.now.layouts c.args.objects.now heap is c.args.addr c.args.place c.args.rest.now at.0 at.1 c.in-Some.here at.2 c.get-ty.result.now same takes.t takes.standing c.is_word_at-is_word.result c.is_word_at-is_word.ensures in
    let tree_is = c.in_ok-value-in-NotInPlace.ensures.value heap.graph.objects takes.t.type word takes.suits in
    misfit_one program c.args.schema.now.layouts c.args.objects.now heap is c.args.addr c.args.place c.args.rest.now at.0 at.1 c.in-Some.here at.2 c.get-ty.result.now same c.args.leaf takes.t takes.standing (tree_of c.in_ok-value-in-NotInPlace.value) tree_is (c.rewrite_element.ensures.shape e heap at.2.tree is stands)

pub judge_element-requires-clause-found : goal.judge_element-requires-clause-found
judge_element-requires-clause-found c = λ f e.
    let heap = c.requires.ready.0 in
    let is = c.requires.ready.1 in
    let program = c.args.schema.now.program in
    let here = c.in-Some.here in
    let at = c.in-Some.ensures.element heap is in
    let same = type_is program c.args.schema.now.layouts c.args.objects.now heap is c.args.addr at.0 at.1 here.kind c.get-ty.result.now (c.get-ty.ensures.found program c.requires.schema.types) at.2.kind in
    lies_here program c.args.schema.now.layouts c.args.objects.now.space here f.element (c.in-Some.ensures.same f e) c.get-ty.result.now (same ∙ ap (element_type program) at.2.kind) c.args.rest.now f.place (c.requires.lies f e)
