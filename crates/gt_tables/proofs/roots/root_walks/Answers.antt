use Rattle.std.proofs.Common.{◌≡◌, ◌∙◌, ◌+◌, ◌*◌, ◌^◌, ◌<◌, length, drop, refl, ap, sym, subst, arith}
use Rattle.std.specs.Prelude.{IfSome, All, slice_get}
use Rattle.std.specs.List.{filter}
use Rattle.std.proofs.lemmas.Option.{slice_get_read}
use Rattle.std.proofs.lemmas.List.Elements.{All-nil}
use Rattle.gt_value.proofs.ZeroValues.{root-fits}
use Rattle.gt_edges.specs.Edges.{has_walk}
use Rattle.gt_tables.specs.Building.{first_of, IsThere}
use Rattle.gt_tables.specs.Counting.{Counted}
use Rattle.gt_tables.proofs.Keeping.{grows-not, grows-on}
use Rattle.gt_tables.proofs.Wholes.{count-more}
use Rattle.gt_tables.proofs.PartCounts.{counted-more}
use Rattle.gt_tables.proofs.ServingRoots.{roots-step, roots-none, roots-all}
use Rattle.gt_tables.proofs.roots.root_walks.Goals as goal

pub loop-i-preserved : goal.loop-i-preserved
loop-i-preserved c =
    let source = c.args.source.now in
    let all = c.as_slice-all.ensures.items in
    let here = slice_get_read c.as_slice-all.result.now (length c.as_slice-all.result.now) c.loop-i.i c.index-all-i.result refl c.loop-i-test.true c.index-all-i.is in
    let count = subst (λ rs. length c.loop-i.roots.items + length (filter has_walk (drop c.loop-i.i rs)) ≡ length (filter has_walk rs)) all c.loop-i.invariant.count in
    let at =
    subst (λ ss. IfSome (slice_get ss c.loop-i.i) (λ spot. source.start + spot.offset < 2 ^ 32 → c.root_address-address.result ≡ source.start + spot.offset)) c.as_slice-spots.ensures.items c.root_address-address.ensures.address in
    record {
      grows = grows-on c.args.source.now.program.now c.args.parts.now c.loop-i.parts c.add_root.new.parts c.loop-i.invariant.grows c.in_ok-add_root.ensures.grows;
      served = c.in_ok-add_root.ensures.served;
      counted = λ n hand h. c.in_ok-add_root.ensures.counted n hand (c.loop-i.invariant.counted n hand h);
      serves =
          roots-step source c.requires.source c.loop-i.parts c.add_root.new.parts c.in_ok-add_root.ensures.grows c.loop-i.i c.loop-i.roots.items c.add_root.new.roots.items c.index-all-i.result c.root_address-address.result
          (ap (λ rs. slice_get rs c.loop-i.i) (sym all) ∙ here) count at c.in_ok-add_root.ensures.serves c.in_ok-add_root.ensures.skips c.loop-i.invariant.serves;
      roots = c.in_ok-add_root.ensures.roots;
      count =
          count-more c.as_slice-all.result.now c.loop-i.i (length c.loop-i.roots.items) (length c.add_root.new.roots.items) c.index-all-i.result c.loop-i-test.true c.index-all-i.is c.loop-i.invariant.count
          c.in_ok-add_root.ensures.count;
    }

pub returns-clause-serves : goal.returns-clause-serves
returns-clause-serves c =
    roots-all c.args.source.now c.loop-i.parts.walks.items c.loop-i.i (length c.args.source.now.program.now.roots) c.loop-i.roots.items (omega (arith, c.loop-i-test.false, ap length c.as_slice-all.ensures.items)) c.loop-i.invariant.serves

pub loop-i-init : goal.loop-i-init
loop-i-init c =
    let There = IsThere (first_of c.args.source.now) c.args.parts.now.walks.items in
    let nothing : length c.new-roots.result.items ≡ 0 = ap length c.new-roots.ensures.items in
    record {
      grows = grows-not c.args.source.now.program.now c.args.parts.now c.requires.parts;
      served = c.requires.served;
      counted = λ n hand h.
          counted-more c.args.source.now c.args.parts.now n (n + 2 * length c.new-roots.result.items) c.new-roots.result.items hand (omega arith)
          (subst (λ own. Counted c.args.source.now c.args.parts.now n own hand) (sym c.new-roots.ensures.items) h);
      serves = roots-none c.args.source.now c.args.parts.now.walks.items c.new-roots.result.items;
      roots = subst (All There) (sym c.new-roots.ensures.items) (All-nil There);
      count = omega (arith, nothing);
    }

pub add_root-requires-clause-shallow : goal.add_root-requires-clause-shallow
add_root-requires-clause-shallow c =
    (root-fits c.args.source.now.program.now c.requires.source.settled c.as_slice-all.result.now c.loop-i.i c.index-all-i.result c.as_slice-all.ensures.items c.loop-i-test.true c.index-all-i.is).0

pub add_root-requires-clause-flat : goal.add_root-requires-clause-flat
add_root-requires-clause-flat c =
    (root-fits c.args.source.now.program.now c.requires.source.settled c.as_slice-all.result.now c.loop-i.i c.index-all-i.result c.as_slice-all.ensures.items c.loop-i-test.true c.index-all-i.is).1
