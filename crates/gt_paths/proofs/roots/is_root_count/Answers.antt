use Rattle.gt_paths.proofs.roots.is_root_count.Goals as goal

pub returns : goal.returns
returns c = record {
  decides = (
    λ e. record {
      operators = c.has_operators.ensures.decides.0 c.if-not-has_operators.false;
      roots = c.all_roots_are_scalars.ensures.0 c.if-not-all_roots_are_scalars.false;
      no_paths = c.has_no_paths.ensures.0 e;
    },
    λ count. c.has_no_paths.ensures.1 count.no_paths,
  );
}
