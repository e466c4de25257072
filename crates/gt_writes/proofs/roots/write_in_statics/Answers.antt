use Rattle.std.proofs.Common.{◌∙◌, sym}
use Rattle.gt_value.specs.Values.{tree_of}
use Rattle.gt_writes.proofs.Anew.{both_ok}
use Rattle.gt_writes.proofs.AtRoot.{root_word, root_put_at, root_anew_at, root_misfit_all, root_misfit_one}
use Rattle.gt_writes.proofs.LeafForms.{suits_word}
use Rattle.gt_writes.proofs.roots.write_in_statics.Goals as goal

pub store_leaf-requires-clause-from_start : goal.store_leaf-requires-clause-from_start
store_leaf-requires-clause-from_start c =
    let heap = c.requires.ready.0 in
    let is = c.requires.ready.1 in
    (c.judge_root.ensures.in_place c.in-InPlace.at c.in-InPlace.is heap is).at.is.from_start

pub store_leaf-requires-clause-bits : goal.store_leaf-requires-clause-bits
store_leaf-requires-clause-bits c =
    let heap = c.requires.ready.0 in
    let is = c.requires.ready.1 in
    (c.judge_root.ensures.in_place c.in-InPlace.at c.in-InPlace.is heap is).at.is.bits

pub store_leaf-requires-clause-may : goal.store_leaf-requires-clause-may
store_leaf-requires-clause-may c =
    let heap = c.requires.ready.0 in
    let is = c.requires.ready.1 in
    (c.judge_root.ensures.in_place c.in-InPlace.at c.in-InPlace.is heap is).holds

pub returns-in-InPlace-clause-written : goal.returns-in-InPlace-clause-written
returns-in-InPlace-clause-written c = λ heap is.
    root_put_at c.args.schema.now.program c.args.schema.now.layouts c.requires.schema.settled c.requires.schema.laid c.requires.schema.within c.args.objects.now heap is c.sound.ensures.space c.args.path.now c.args.leaf (c.requires.may heap is) c.in-InPlace.at (c.judge_root.ensures.in_place c.in-InPlace.at c.in-InPlace.is heap is) (c.judge_root.ensures.active c.in-InPlace.at c.in-InPlace.is) c.store_leaf.new.self c.store_leaf.ensures.rest c.store_leaf.ensures.written

pub returns-in-Misfit-clause-shape : goal.returns-in-Misfit-clause-shape
returns-in-Misfit-clause-shape c = λ e heap is. root_misfit_all c.args.schema.now.program heap c.args.path.now c.args.leaf (λ tree means. c.judge_root.ensures.misfit c.in-Misfit.is heap tree is means)

pub leaf_value-requires : goal.leaf_value-requires
leaf_value-requires c =
    let heap = c.requires.ready.0 in
    let is = c.requires.ready.1 in
    let takes = c.requires.may heap is in
    let word = root_word c.args.schema.now.program heap.graph takes.t c.args.path.now takes.standing c.is_word_in_statics-is_word.result c.is_word_in_statics-is_word.ensures in
    record { word = λ yes. suits_word heap.graph.objects takes.t.type c.args.leaf (sym word ∙ yes) takes.suits }

pub returns-in_ok-value-in-NotInPlace-clause-written : goal.returns-in_ok-value-in-NotInPlace-clause-written
returns-in_ok-value-in-NotInPlace-clause-written c = both_ok c.rewrite_statics.result
    (λ written others heap is.
    let takes = c.requires.may heap is in
    let word = root_word c.args.schema.now.program heap.graph takes.t c.args.path.now takes.standing c.is_word_in_statics-is_word.result c.is_word_in_statics-is_word.ensures in
    let tree_is = c.in_ok-value-in-NotInPlace.ensures.value heap.graph.objects takes.t.type word takes.suits in
    root_anew_at c.args.schema.now.program c.args.schema.now.layouts c.requires.schema.settled c.requires.schema.laid c.requires.schema.within c.args.objects.now heap is c.sound.ensures.space c.args.path.now c.args.leaf (c.requires.may heap is) (tree_of c.in_ok-value-in-NotInPlace.value) tree_is c.rewrite_statics.new.objects others (written heap is))
    c.rewrite_statics.ensures.written c.rewrite_statics.ensures.rest

pub returns-in_ok-value-in-NotInPlace-clause-shape : goal.returns-in_ok-value-in-NotInPlace-clause-shape
returns-in_ok-value-in-NotInPlace-clause-shape c = λ e heap is.
    let takes = c.requires.may heap is in
    let word = root_word c.args.schema.now.program heap.graph takes.t c.args.path.now takes.standing c.is_word_in_statics-is_word.result c.is_word_in_statics-is_word.ensures in
    let tree_is = c.in_ok-value-in-NotInPlace.ensures.value heap.graph.objects takes.t.type word takes.suits in
    root_misfit_one c.args.schema.now.program heap c.args.path.now c.args.leaf takes.t takes.standing (tree_of c.in_ok-value-in-NotInPlace.value) tree_is (c.rewrite_statics.ensures.shape e heap is)
