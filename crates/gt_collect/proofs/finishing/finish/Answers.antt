use Rattle.std.proofs.Common.{◌≡◌, ◌≤◌, ◌+◌, ◌∙◌, ap, sym, subst, arith}
use Rattle.gt_graph.specs.Objects.{pairs_in}
use Rattle.gt_graph.specs.Good.{MAX_PAIRS}
use Rattle.gt_objects.specs.Holding.{IsHeapOf}
use Rattle.gt_objects.specs.Marks.{swept}
use Rattle.gt_caches.specs.Pairs.{pairs_of, staying}
use Rattle.gt_collect.specs.Clearing.{IsZeroedAt}
use Rattle.gt_collect.specs.Collecting.{cleared_heap}
use Rattle.gt_caches.proofs.Heaps.{heap-with-pairs}
use Rattle.gt_collect.proofs.Closed.{closed, counted, pairs_are, same_swept, settled_heap}
use Rattle.gt_collect.proofs.finishing.finish.Goals as goal

pub keep_staying-dropped-requires : goal.keep_staying-dropped-requires
keep_staying-dropped-requires c =
    let few = c.requires.ready.1.good.graph.few_pairs in
    record { few = omega (arith, few, ap pairs_in c.requires.ready.2) }

pub sweep-freed-requires : goal.sweep-freed-requires
sweep-freed-requires c =
    let program = c.args.schema.now.program in
    let layouts = c.args.schema.now.layouts in
    let before = c.args.objects.now in
    let objects = c.clear_roots.new.objects in
    let caches = c.args.caches.now in
    let same = c.clear_roots.ensures.pages in
    let heap = c.requires.ready.0 in
    let is = c.requires.ready.1 in
    let held = c.requires.ready.2 in
    let can = c.requires.ready.3 in
    let cleared = c.clear_roots.ensures.cleared heap is in
    let total : pairs_in (staying caches) + c.keep_staying-dropped.result ≡ pairs_in (pairs_of caches) =
    ap (λ pairs. pairs_in pairs + c.keep_staying-dropped.result) (sym c.keep_staying-dropped.ensures.kept) ∙ c.keep_staying-dropped.ensures.dropped in
    let all = is.good.graph.few_pairs in
    let few : pairs_in (staying caches) ≤ MAX_PAIRS = omega (arith, total, all, ap pairs_in held) in
    record {
      ready = (
        program,
        layouts,
        settled_heap program layouts before objects same heap is caches can,
        c.requires.schema.settled,
        heap-with-pairs program layouts objects (cleared_heap program heap) (staying caches) cleared (pairs_are program layouts before objects same heap is caches can) few,
        closed program layouts before objects same heap is caches can,
      );
    }

pub returns-clause-heap : goal.returns-clause-heap
returns-clause-heap c = λ heap is held can.
    let program = c.args.schema.now.program in
    let layouts = c.args.schema.now.layouts in
    let before = c.args.objects.now in
    let objects = c.clear_roots.new.objects in
    let caches = c.args.caches.now in
    let same = c.clear_roots.ensures.pages in
    let cleared = c.clear_roots.ensures.cleared heap is in
    let total : pairs_in (staying caches) + c.keep_staying-dropped.result ≡ pairs_in (pairs_of caches) =
    ap (λ pairs. pairs_in pairs + c.keep_staying-dropped.result) (sym c.keep_staying-dropped.ensures.kept) ∙ c.keep_staying-dropped.ensures.dropped in
    let all = is.good.graph.few_pairs in
    let few : pairs_in (staying caches) ≤ MAX_PAIRS = omega (arith, total, all, ap pairs_in held) in
    let settled = settled_heap program layouts before objects same heap is caches can in
    let standing = heap-with-pairs program layouts objects (cleared_heap program heap) (staying caches) cleared (pairs_are program layouts before objects same heap is caches can) few in
    subst (λ h. IsHeapOf program layouts c.sweep-freed.new.self h) (same_swept program layouts before objects same heap is caches can)
    (c.sweep-freed.ensures.swept program layouts settled c.requires.schema.settled standing (closed program layouts before objects same heap is caches can))

pub returns-clause-counts : goal.returns-clause-counts
returns-clause-counts c = λ heap is held can.
    let program = c.args.schema.now.program in
    let layouts = c.args.schema.now.layouts in
    let before = c.args.objects.now in
    let objects = c.clear_roots.new.objects in
    let caches = c.args.caches.now in
    let same = c.clear_roots.ensures.pages in
    let cleared = c.clear_roots.ensures.cleared heap is in
    let total : pairs_in (staying caches) + c.keep_staying-dropped.result ≡ pairs_in (pairs_of caches) =
    ap (λ pairs. pairs_in pairs + c.keep_staying-dropped.result) (sym c.keep_staying-dropped.ensures.kept) ∙ c.keep_staying-dropped.ensures.dropped in
    let all = is.good.graph.few_pairs in
    let few : pairs_in (staying caches) ≤ MAX_PAIRS = omega (arith, total, all, ap pairs_in held) in
    let settled = settled_heap program layouts before objects same heap is caches can in
    let standing = heap-with-pairs program layouts objects (cleared_heap program heap) (staying caches) cleared (pairs_are program layouts before objects same heap is caches can) few in
    let holds = c.sweep-freed.ensures.swept program layouts settled c.requires.schema.settled standing (closed program layouts before objects same heap is caches can) in
    counted program layouts before objects same heap is caches can c.len.result c.sweep-freed.result c.keep_staying-dropped.result (c.len.ensures.len program layouts (swept objects settled) holds)
    (c.sweep-freed.ensures.freed program layouts settled standing) (total ∙ ap pairs_in (sym held))

pub returns-clause-bytes : goal.returns-clause-bytes
returns-clause-bytes c =
    subst (IsZeroedAt c.args.schema.now.tables.deletable c.args.objects.now.space) (sym c.sweep-freed.ensures.bytes) c.clear_roots.ensures.bytes
