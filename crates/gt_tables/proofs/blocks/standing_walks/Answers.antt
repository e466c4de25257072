use Rattle.std.proofs.Common.{◌∙◌, ◌++◌, length, ap, sym, subst, arith, List}
use Rattle.std.specs.Prelude.{All, flat_map}
use Rattle.std.proofs.lemmas.List.Elements.{All-nil}
use Rattle.gt_walk.specs.declared.rows.WalkRow.{WalkRow}
use Rattle.gt_walk.specs.Nested.{parts_in}
use Rattle.gt_tables.specs.Building.{first_of, AreRows, Shallow, ServesWalk}
use Rattle.gt_tables.specs.Counting.{named_by}
use Rattle.gt_tables.proofs.Keeping.{grows-not, grows-on}
use Rattle.gt_tables.proofs.NamedParts.{named-push}
use Rattle.gt_tables.proofs.PartCounts.{stays-bare, stays-on}
use Rattle.gt_tables.proofs.Wholes.{list-add, list-on, one-longer}
use Rattle.gt_tables.proofs.ServingBlocks.{each-none, each-step, each-all}
use Rattle.gt_tables.proofs.blocks.standing_walks.Goals as goal

pub loop-i-preserved : goal.loop-i-preserved
loop-i-preserved c =
    let first = first_of c.args.source.now in
    let program = c.args.source.now.program.now in
    let walks = c.standing_rows.new.parts.walks.items in
    record {
      grows = grows-on program c.args.parts.now c.loop-i.parts c.standing_rows.new.parts c.loop-i.invariant.grows c.in_ok-rows.ensures.grows;
      served = c.in_ok-rows.ensures.served;
      counted =
          let named = flat_map parts_in c.in_ok-rows.rows.items in
          let is = ap named_by c.in_ok-push.ensures.items ∙ named-push c.loop-i.walks.items c.of.result ∙ ap (λ l. named_by c.loop-i.walks.items ++ flat_map parts_in l) c.of.ensures.items in
          stays-on c.args.source.now (named_by c.loop-i.walks.items) named (named_by c.push.new.self.items) c.args.parts.now c.loop-i.parts c.standing_rows.new.parts is c.loop-i.invariant.counted
          c.in_ok-rows.ensures.counted;
      serves =
          each-step c.args.source.now c.loop-i.parts c.standing_rows.new.parts c.in_ok-rows.ensures.grows c.loop-i.walks.items c.push.new.self.items c.of.result (record { 0 = c.loop-i.i })
          (sym c.loop-i.invariant.long) c.in_ok-push.ensures.items
          (subst (ServesWalk c.args.source.now walks (record { 0 = c.loop-i.i })) (sym c.of.ensures.items) c.in_ok-rows.ensures.serves) c.loop-i.invariant.serves;
      walks =
          list-add first walks c.loop-i.walks.items c.push.new.self.items c.of.result c.in_ok-push.ensures.items
          (list-on first program c.loop-i.parts c.standing_rows.new.parts c.in_ok-rows.ensures.grows c.loop-i.walks.items c.loop-i.invariant.walks)
          (subst (AreRows first walks Shallow) (sym c.of.ensures.items) c.in_ok-rows.ensures.rows);
      long = omega (arith, one-longer (List WalkRow) c.loop-i.walks.items c.push.new.self.items c.of.result c.in_ok-push.ensures.items, c.loop-i.invariant.long);
    }

pub returns-clause-serves : goal.returns-clause-serves
returns-clause-serves c = each-all c.args.source.now c.loop-i.parts.walks.items c.loop-i.walks.items c.loop-i.invariant.serves

pub loop-i-init : goal.loop-i-init
loop-i-init c =
    let P = AreRows (first_of c.args.source.now) c.args.parts.now.walks.items Shallow in
    record {
      grows = grows-not c.args.source.now.program.now c.args.parts.now c.requires.parts;
      served = c.requires.served;
      counted = stays-bare c.args.source.now (named_by c.new-walks.result.items) c.args.parts.now (ap named_by c.new-walks.ensures.items);
      serves = each-none c.args.source.now c.args.parts.now.walks.items c.new-walks.result.items c.new-walks.ensures.items;
      walks = subst (All P) (sym c.new-walks.ensures.items) (All-nil P);
      long = ap length c.new-walks.ensures.items;
    }
