use Rattle.std.proofs.Common.{ℕ, ◌≤◌, List, length, ap, sym, subst, ◌∙◌, arith}
use Rattle.std.specs.Prelude.{replicate, slice_index}
use Rattle.std.proofs.lemmas.List.{take_all}
use Rattle.std.proofs.lemmas.List.Elements.{All-get_or}
use Rattle.gt_space.specs.Range.{IsInside, with_bytes}
use Rattle.gt_value.specs.Bytes.{AreStaticsStored}
use Rattle.gt_graph.specs.Kept.{without_deletable}
use Rattle.gt_objects.specs.declared.objects.Objects.{Objects}
use Rattle.gt_objects.specs.Holding.{IsHeapOf}
use Rattle.gt_collect.specs.Clearing.{IsZeroedAt}
use Rattle.gt_collect.specs.Collecting.{cleared_heap}
use Rattle.gt_collect.proofs.Rooted.{inside_words, rooted, zeros_stored}
use Rattle.gt_collect.proofs.Zeros.{AreInside, inside_after, zeroed, zeroed_at, zeroed_more}
use Rattle.gt_collect.proofs.clearing.clear_roots.Goals as goal

pub clear_word-requires : goal.clear_word-requires
clear_word-requires c =
    let s = c.requires.schema in
    let r = c.requires.ready in
    let old = c.args.objects.now.space in
    let words : List ℕ = c.as_slice-word-items.result.now in
    let all : AreInside old words =
    subst (AreInside old) (sym (c.as_slice-word-items.ensures.items ∙ s.tables.deletable))
    (inside_words c.args.schema.now.program c.args.schema.now.layouts s.settled s.laid s.within c.args.objects.now r.0 r.1 c.sound.ensures.space) in
    record {
      inside = inside_after old c.loop-word.objects.space (slice_index words c.loop-word.word-index) 8 c.loop-word.invariant.addresses (All-get_or (λ w. IsInside old w 8) words c.loop-word.word-index 0 c.loop-word-test.true all);
    }

pub loop-word-preserved : goal.loop-word-preserved
loop-word-preserved c =
    let words : List ℕ = c.as_slice-word-items.result.now in
    let i = c.loop-word.word-index in
    let was = c.loop-word.invariant in
    let now = c.clear_word.ensures in
    let space = c.clear_word.new.self.space in
    record {
      addresses = record { start = now.addresses.start ∙ was.addresses.start; len = now.addresses.len ∙ was.addresses.len };
      rest = now.rest ∙ ap (λ (o : Objects). let x : Objects = record o { space = space } in x) was.rest;
      zeros = now.bytes ∙ ap (λ r. with_bytes r (slice_index words i) (replicate 8 0)) was.zeros ∙ sym (zeroed_more words i c.args.objects.now.space c.loop-word-test.true);
    }

pub returns-clause-cleared : goal.returns-clause-cleared
returns-clause-cleared c = λ heap is.
    let s = c.requires.schema in
    let program = c.args.schema.now.program in
    let layouts = c.args.schema.now.layouts in
    let old = c.args.objects.now in
    let ends : length c.as_slice-word-items.result.now ≤ c.loop-word.word-index = omega (arith, c.loop-word-test.false) in
    let words = take_all c.loop-word.word-index c.as_slice-word-items.result.now ends ∙ c.as_slice-word-items.ensures.items ∙ s.tables.deletable in
    let space = c.loop-word.invariant.zeros ∙ ap (zeroed old.space) words in
    let stored = subst (AreStaticsStored program layouts (without_deletable program.roots heap.graph.statics) old.space) (sym space)
    (zeros_stored program layouts s.settled s.laid s.within old heap is c.sound.ensures.space) in
    subst (λ x. IsHeapOf program layouts x (cleared_heap program heap)) (sym c.loop-word.invariant.rest)
    (rooted program layouts s.settled s.laid s.within old heap is c.sound.ensures.space c.loop-word.objects.space stored)

pub returns-clause-bytes : goal.returns-clause-bytes
returns-clause-bytes c =
    let s = c.requires.schema in
    let r = c.requires.ready in
    let old = c.args.objects.now.space in
    let words = c.args.schema.now.tables.deletable in
    let ends : length c.as_slice-word-items.result.now ≤ c.loop-word.word-index = omega (arith, c.loop-word-test.false) in
    let space = c.loop-word.invariant.zeros ∙ ap (zeroed old) (take_all c.loop-word.word-index c.as_slice-word-items.result.now ends ∙ c.as_slice-word-items.ensures.items) in
    let inside : AreInside old words =
    subst (AreInside old) (sym s.tables.deletable)
    (inside_words c.args.schema.now.program c.args.schema.now.layouts s.settled s.laid s.within c.args.objects.now r.0 r.1 c.sound.ensures.space) in
    subst (IsZeroedAt words old) (sym space) (zeroed_at words old inside)
