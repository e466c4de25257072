use Rattle.std.proofs.Common.{◌≡◌, ◌-◌, ◌∷◌, [], get_or, take, drop, length, sym, subst, rules, None}
use Rattle.std.specs.Prelude.{slice_get}
use Rattle.gt_value.specs.Cursors.{frame, root_part}
use Rattle.gt_value.proofs.CursorStarts.{no-root}
use Rattle.gt_value.proofs.CursorSteps.{split-path}
use Rattle.gt_value.proofs.CursorFollows.{FollowsOn}
use Rattle.gt_value.proofs.CursorLeaves.{StaticLeafOn, root-leaf, root-somewhere, root-nowhere}
use Rattle.gt_value.proofs.places.leaf_in_statics.Goals as goal

pub returns-in_err-start : goal.returns-in_err-start
returns-in_err-start c =
    let path = c.args.path.now in
    let i = get_or path 0 0 in
    let rest = take (length path - 1) (drop 1 path) in
    let none : slice_get c.args.program.now.roots i ≡ None = search rules in
    record {
      leaf = subst (λ p. StaticLeafOn c.args.program.now c.args.layouts.now c.args.space.now p c.from_residual.result) (sym (split-path path c.in-len1-up.len_at_least))
          (subst (λ r. StaticLeafOn c.args.program.now c.args.layouts.now c.args.space.now (i ∷ rest) r) (sym c.from_residual.ensures) (λ values stand. no-root c.args.program.now _ values i rest stand.are.fit none));
    }

pub follow-requires : goal.follow-requires
follow-requires c =
    let s = c.requires.stands in
    let root = c.in_ok-start.ensures.root s.0 s.1 in
    record {
      stands = record {
        at = frame c.args.program.now c.args.layouts.now c.args.space.now c.args.space.now.start;
        value = root_part s.0 (get_or c.args.path.now 0 0) root.spot root.r root.tree;
        path = [];
        is = root.is;
      };
    }

pub returns-in_err-there : goal.returns-in_err-there
returns-in_err-there c =
    let path = c.args.path.now in
    let i = get_or path 0 0 in
    let rest = take (length path - 1) (drop 1 path) in
    let none : c.follow.result ≡ None = search rules in
    let nowhere = subst (λ r. FollowsOn c.in_ok-start.start rest r) none c.follow.ensures.part in
    record {
      leaf = subst (λ p. StaticLeafOn c.args.program.now c.args.layouts.now c.args.space.now p c.from_residual-in_err-there.result) (sym (split-path path c.in-len1-up.len_at_least))
          (subst (λ r. StaticLeafOn c.args.program.now c.args.layouts.now c.args.space.now (i ∷ rest) r) (sym c.from_residual-in_err-there.ensures)
          (root-nowhere c.args.program.now c.args.layouts.now c.args.space.now i rest c.in_ok-start.start c.in_ok-start.start c.in_ok-start.ensures.root nowhere));
    }

pub leaf-requires : goal.leaf-requires
leaf-requires c =
    let path = c.args.path.now in
    let s = c.requires.stands in
    record {
      stands = root-somewhere c.args.program.now c.args.layouts.now c.args.space.now (get_or path 0 0) (take (length path - 1) (drop 1 path)) c.in_ok-start.start c.in_ok-there.there c.in_ok-start.ensures.root s.0 s.1 c.in_ok-there.ensures.part;
    }

pub returns : goal.returns
returns c =
    let path = c.args.path.now in
    let i = get_or path 0 0 in
    let rest = take (length path - 1) (drop 1 path) in
    record {
      leaf = subst (λ p. StaticLeafOn c.args.program.now c.args.layouts.now c.args.space.now p c.leaf.result) (sym (split-path path c.in-len1-up.len_at_least))
          (root-leaf c.args.program.now c.args.layouts.now c.args.space.now i rest c.in_ok-start.start c.in_ok-there.there c.in_ok-start.ensures.root c.leaf.result c.in_ok-there.ensures.part c.leaf.ensures.leaf);
    }
