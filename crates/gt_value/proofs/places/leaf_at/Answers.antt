use Rattle.std.proofs.Common.{◌≡◌, [], sym, subst, rules, None}
use Rattle.gt_tree.specs.Trees.{Tree, Trees}
use Rattle.gt_tree.specs.Scopes.{outside}
use Rattle.gt_tree.specs.Reshapes.{LeadsToLeaf}
use Rattle.gt_value.specs.Bytes.{StandsFor}
use Rattle.gt_value.specs.Places.{IsPlaceOf}
use Rattle.gt_value.specs.declared.places.Holder.TheVariants.{Element}
use Rattle.gt_value.specs.Cursors.{frame, element_part}
use Rattle.gt_value.proofs.CursorFollows.{FollowsOn}
use Rattle.gt_value.proofs.CursorLeaves.{PlaceOn, pass, leads-not}
use Rattle.gt_value.proofs.places.leaf_at.Goals as goal

pub follow-requires : goal.follow-requires
follow-requires c =
    let s = c.requires.stands in
    record {
      stands = record {
        at = frame c.args.program.now c.args.layouts.now c.args.space.now c.args.addr;
        value = element_part s.1.statics c.args.ty.now s.0;
        path = [];
        is = c.at_element-start.ensures.whole s.1.statics s.0 s.1;
      };
    }

pub returns-in_err-there : goal.returns-in_err-there
returns-in_err-there c =
    let none : c.follow.result ≡ None = search rules in
    let nowhere = subst (λ r. FollowsOn c.at_element-start.result c.args.path.now r) none c.follow.ensures.part in
    let at = frame c.args.program.now c.args.layouts.now c.args.space.now c.args.addr in
    record {
      leaf = subst
          (λ r. PlaceOn r ((value : Tree) → StandsFor c.args.program.now c.args.layouts.now c.args.capacity c.args.ty.now c.args.space.now c.args.addr value → ¬ LeadsToLeaf value c.args.path.now)
          (λ place. (statics : Trees) (value : Tree) → StandsFor c.args.program.now c.args.layouts.now c.args.capacity c.args.ty.now c.args.space.now c.args.addr value
          → IsPlaceOf c.args.program.now c.args.layouts.now.structures (outside statics) Element c.args.ty.now c.args.space.now c.args.addr value c.args.path.now place))
          (sym c.from_residual.ensures)
          (λ value stands. (nowhere at (element_part stands.statics c.args.ty.now value) [] (c.at_element-start.ensures.whole stands.statics value stands)).leaf);
    }

pub leaf-requires : goal.leaf-requires
leaf-requires c =
    let s = c.requires.stands in
    let at = frame c.args.program.now c.args.layouts.now c.args.space.now c.args.addr in
    let value = element_part s.1.statics c.args.ty.now s.0 in
    record { stands = record { at = at; value = value; path = c.args.path.now; is = c.in_ok-there.ensures.part at value [] (c.at_element-start.ensures.whole s.1.statics s.0 s.1) } }

pub returns : goal.returns
returns c =
    let at = frame c.args.program.now c.args.layouts.now c.args.space.now c.args.addr in
    let start = c.at_element-start.ensures.whole in
    let there = λ (statics : Trees) (value : Tree) (stands : StandsFor c.args.program.now c.args.layouts.now c.args.capacity c.args.ty.now c.args.space.now c.args.addr value).
    c.in_ok-there.ensures.part at (element_part statics c.args.ty.now value) [] (start statics value stands) in
    record {
      leaf = pass c.leaf.result _ _ _ _
          (λ no value stands.
          let here = there stands.statics value stands in
          leads-not value here.p.tree c.args.path.now here.there (no at (element_part stands.statics c.args.ty.now value) c.args.path.now here))
          (λ place is statics value stands.
          let here = there statics value stands in
          record { p = here.p; lies = here.lies; there = here.there; is = is at (element_part statics c.args.ty.now value) c.args.path.now here })
          c.leaf.ensures.leaf;
    }
