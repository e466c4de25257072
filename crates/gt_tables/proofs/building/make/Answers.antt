use Rattle.std.proofs.Common.{◌∙◌, ◌+◌, ◌*◌, [], ap, length, sym, subst, arith}
use Rattle.std.specs.Prelude.{All}
use Rattle.gt_walk.specs.declared.tables.Tables.{Tables}
use Rattle.gt_edges.specs.Numbers.{first_part}
use Rattle.gt_edges.proofs.BlockEdges.{gives-elements}
use Rattle.gt_edges.proofs.RootEdges.{gives-roots}
use Rattle.gt_edges.specs.Tables.{AreNumbered}
use Rattle.gt_edges.specs.Deletable.{deletable_words}
use Rattle.gt_tables.specs.Building.{IsThere}
use Rattle.gt_tables.specs.Counting.{named_by}
use Rattle.gt_tables.proofs.Wholes.{nested-of, ordered-of, numbered-of}
use Rattle.gt_tables.proofs.PartCounts.{counted-none, counted-more, parts-shared}
use Rattle.gt_tables.proofs.TablesOf.{is-source, no-parts, none-served, made-walks}
use Rattle.gt_tables.proofs.building.make.Goals as goal

pub block_walks-requires : goal.block_walks-requires
block_walks-requires c = record {
  source = is-source _ c.requires.settled c.requires.laid c.requires.within (c.len.ensures.items) c.in_ok-inner_structures.field-0.items c.in_ok-readers.field-0.items c.of-inner.ensures.items c.in_ok-inner_structures.ensures.inner
      c.of-readers.ensures.items c.in_ok-readers.ensures.readers c.statics_start-start.ensures;
  parts = no-parts c.args.program.now c.new-parts.result c.new-parts.ensures.walks c.new-parts.ensures.known c.new-parts.ensures.cases;
  served = none-served _ c.new-parts.result c.new-parts.ensures.known;
}

pub root_walks-requires : goal.root_walks-requires
root_walks-requires c = record {
  source = is-source _ c.requires.settled c.requires.laid c.requires.within (c.len.ensures.items) c.in_ok-inner_structures.field-0.items c.in_ok-readers.field-0.items c.of-inner.ensures.items c.in_ok-inner_structures.ensures.inner
      c.of-readers.ensures.items c.in_ok-readers.ensures.readers c.statics_start-start.ensures;
  parts = c.in_ok-walks.ensures.grows.are;
  served = c.in_ok-walks.ensures.served;
}

pub returns-clause-numbered : goal.returns-clause-numbered
returns-clause-numbered c =
    numbered-of c.args.program.now (record { walks = c.of.result; roots = c.of-2.result; deletable = c.of-3.result; caches = c.of-4.result }) c.in_ok-walks.walks.items c.root_walks.new.parts.walks.items
    (c.of.ensures.items ∙ c.in_ok-append.ensures.items) c.in_ok-walks.ensures.long c.in_ok-walks.ensures.ends (ap length c.of-2.ensures.items ∙ c.in_ok-roots.ensures.count) (c.of-4.ensures.items ∙ c.in_ok-cache_walks.ensures)

pub returns-clause-nested : goal.returns-clause-nested
returns-clause-nested c =
    nested-of c.args.program.now c.requires.settled (record { walks = c.of.result; roots = c.of-2.result; deletable = c.of-3.result; caches = c.of-4.result }) c.in_ok-walks.walks.items c.block_walks.new.parts
    c.root_walks.new.parts c.in_ok-roots.ensures.grows (c.of.ensures.items ∙ c.in_ok-append.ensures.items) c.in_ok-walks.ensures.long c.in_ok-walks.ensures.walks
    (subst (All (IsThere (first_part c.args.program.now) c.root_walks.new.parts.walks.items)) (sym c.of-2.ensures.items) c.in_ok-roots.ensures.roots) (c.of-4.ensures.items ∙ c.in_ok-cache_walks.ensures)

-- walks serve structures, pointers and roots, and begin with their notes
pub returns-clause-walks : goal.returns-clause-walks
returns-clause-walks c =
    let tables : Tables = record { walks = c.of.result; roots = c.of-2.result; deletable = c.of-3.result; caches = c.of-4.result } in
    let is = c.of.ensures.items ∙ c.in_ok-append.ensures.items in
    let numbered : AreNumbered c.args.program.now tables =
    numbered-of c.args.program.now tables c.in_ok-walks.walks.items c.root_walks.new.parts.walks.items is c.in_ok-walks.ensures.long c.in_ok-walks.ensures.ends (ap length c.of-2.ensures.items ∙ c.in_ok-roots.ensures.count)
    (c.of-4.ensures.items ∙ c.in_ok-cache_walks.ensures) in
    let made =
    made-walks _ tables c.in_ok-walks.walks.items c.block_walks.new.parts c.root_walks.new.parts c.in_ok-roots.roots.items c.in_ok-roots.ensures.serves
    (is-source _ c.requires.settled c.requires.laid c.requires.within (c.len.ensures.items) c.in_ok-inner_structures.field-0.items c.in_ok-readers.field-0.items c.of-inner.ensures.items c.in_ok-inner_structures.ensures.inner
    c.of-readers.ensures.items c.in_ok-readers.ensures.readers c.statics_start-start.ensures)
    c.in_ok-roots.ensures.grows c.in_ok-walks.ensures.serves c.in_ok-walks.ensures.pointers is c.in_ok-walks.ensures.long c.of-2.ensures.items numbered in
    made.0

pub returns-clause-blocks : goal.returns-clause-blocks
returns-clause-blocks c =
    let tables : Tables = record { walks = c.of.result; roots = c.of-2.result; deletable = c.of-3.result; caches = c.of-4.result } in
    let is = c.of.ensures.items ∙ c.in_ok-append.ensures.items in
    let numbered : AreNumbered c.args.program.now tables =
    numbered-of c.args.program.now tables c.in_ok-walks.walks.items c.root_walks.new.parts.walks.items is c.in_ok-walks.ensures.long c.in_ok-walks.ensures.ends (ap length c.of-2.ensures.items ∙ c.in_ok-roots.ensures.count)
    (c.of-4.ensures.items ∙ c.in_ok-cache_walks.ensures) in
    let made =
    made-walks _ tables c.in_ok-walks.walks.items c.block_walks.new.parts c.root_walks.new.parts c.in_ok-roots.roots.items c.in_ok-roots.ensures.serves
    (is-source _ c.requires.settled c.requires.laid c.requires.within (c.len.ensures.items) c.in_ok-inner_structures.field-0.items c.in_ok-readers.field-0.items c.of-inner.ensures.items c.in_ok-inner_structures.ensures.inner
    c.of-readers.ensures.items c.in_ok-readers.ensures.readers c.statics_start-start.ensures)
    c.in_ok-roots.ensures.grows c.in_ok-walks.ensures.serves c.in_ok-walks.ensures.pointers is c.in_ok-walks.ensures.long c.of-2.ensures.items numbered in
    made.1

pub returns-clause-deletable : goal.returns-clause-deletable
returns-clause-deletable c =
    c.of-3.ensures.items ∙ c.in_ok-deletable_words.ensures.words
    ∙ ap (λ n. deletable_words c.args.layouts.now.structures n c.args.program.now.roots c.args.layouts.now.statics.fields) c.statics_start-start.ensures

-- walks that serve what they are for give its edges
pub returns-clause-elements : goal.returns-clause-elements
returns-clause-elements c =
    gives-elements c.args.program.now c.args.layouts.now (record { walks = c.of.result; roots = c.of-2.result; deletable = c.of-3.result; caches = c.of-4.result }) c.requires.settled c.requires.laid (returns-clause-walks c)

pub returns-clause-roots : goal.returns-clause-roots
returns-clause-roots c =
    gives-roots c.args.program.now c.args.layouts.now (record { walks = c.of.result; roots = c.of-2.result; deletable = c.of-3.result; caches = c.of-4.result }) c.requires.settled c.requires.laid (returns-clause-walks c)

-- walks are counted, and rows name them
pub returns-clause-shared : goal.returns-clause-shared
returns-clause-shared c =
    let tables : Tables = record { walks = c.of.result; roots = c.of-2.result; deletable = c.of-3.result; caches = c.of-4.result } in
    let parts = c.root_walks.new.parts in
    let own = c.in_ok-roots.roots.items in
    let none = counted-none _ c.new-parts.result c.new-parts.ensures.walks c.new-parts.ensures.cases c.new-parts.ensures.known in
    let hand = named_by c.in_ok-walks.walks.items in
    let counted = c.in_ok-roots.ensures.counted 0 hand (c.in_ok-walks.ensures.counted 0 [] [] none) in
    parts-shared _ tables c.in_ok-walks.walks.items parts (c.of.ensures.items ∙ c.in_ok-append.ensures.items) c.in_ok-walks.ensures.long own c.of-2.ensures.items
    (counted-more _ parts (0 + 2 * length own) (2 * length own) own hand (omega arith) counted)
    (ordered-of c.args.program.now c.requires.settled tables c.in_ok-walks.walks.items c.block_walks.new.parts parts c.in_ok-roots.ensures.grows (c.of.ensures.items ∙ c.in_ok-append.ensures.items) c.in_ok-walks.ensures.walks)
