use Rattle.std.proofs.Common.{◌∙◌, ◌++◌, [], ◌∷◌, length, refl, ap, sym, subst, arith, List}
use Rattle.std.specs.Prelude.{flat_map}
use Rattle.std.proofs.lemmas.List.{append-nil}
use Rattle.gt_walk.specs.declared.rows.WalkRow.{WalkRow}
use Rattle.gt_walk.specs.Nested.{parts_in}
use Rattle.gt_tables.specs.Building.{first_of, AreRows, Shallow, IsPointerWalk}
use Rattle.gt_tables.proofs.Growing.{append-assoc}
use Rattle.gt_tables.proofs.NamedParts.{named-bare}
use Rattle.gt_tables.proofs.Wholes.{list-add, one-longer}
use Rattle.gt_tables.proofs.ServingBlocks.{points-none, points-step, points-all}
use Rattle.gt_tables.proofs.blocks.add_pointer_walks.Goals as goal

pub loop-i-preserved : goal.loop-i-preserved
loop-i-preserved c =
    let first = first_of c.args.source.now in
    record {
      walks = λ parts all.
          list-add first parts c.loop-i.walks.items c.push.new.self.items c.of.result c.in_ok-push.ensures.items (c.loop-i.invariant.walks parts all)
          (subst (AreRows first parts Shallow) (sym c.of.ensures.items) (c.in_ok-rows.ensures.rows parts));
      kept = (
        c.loop-i.invariant.kept.0 ++ c.of.result ∷ [],
        c.in_ok-push.ensures.items ∙ ap (λ ws. ws ++ c.of.result ∷ []) c.loop-i.invariant.kept.1 ∙ append-assoc c.args.walks.now.items c.loop-i.invariant.kept.0 (c.of.result ∷ []),
      );
      pointers =
          points-step c.args.source.now.program.now (length c.args.walks.now.items) c.loop-i.walks.items c.push.new.self.items c.of.result (record { 0 = c.loop-i.i }) c.loop-i.invariant.long
          c.in_ok-push.ensures.items
          (subst (IsPointerWalk c.args.source.now.program.now (record { 0 = c.loop-i.i })) (sym c.of.ensures.items) c.in_ok-rows.ensures.serves) c.loop-i.invariant.pointers;
      bare =
          named-bare c.loop-i.walks.items c.push.new.self.items c.of.result c.in_ok-push.ensures.items (ap (λ l. flat_map parts_in l) c.of.ensures.items ∙ c.in_ok-rows.ensures.bare)
          ∙ c.loop-i.invariant.bare;
      long = omega (arith, one-longer (List WalkRow) c.loop-i.walks.items c.push.new.self.items c.of.result c.in_ok-push.ensures.items, c.loop-i.invariant.long);
    }

pub returns-clause-kept : goal.returns-clause-kept
returns-clause-kept c = c.loop-i.invariant.kept

pub returns-clause-pointers : goal.returns-clause-pointers
returns-clause-pointers c = points-all c.args.source.now.program.now (length c.args.walks.now.items) c.loop-i.walks.items c.loop-i.invariant.pointers

pub loop-i-init : goal.loop-i-init
loop-i-init c = record {
  walks = λ parts all. all;
  kept = ([], sym (append-nil c.args.walks.now.items));
  pointers = points-none c.args.source.now.program.now c.args.walks.now.items;
  bare = refl;
  long = omega arith;
}
