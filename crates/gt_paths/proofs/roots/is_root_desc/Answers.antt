use Rattle.gt_paths.proofs.roots.is_root_desc.Goals as goal

pub returns : goal.returns
returns c = record {
  decides = (
    λ e. record {
      operators = c.has_operators.ensures.decides.0 c.if-not-has_operators.false;
      roots = c.all_roots_are_scalars.ensures.0 c.if-not-all_roots_are_scalars.false;
      paths = c.all_paths_fit.ensures.0 e;
    },
    λ desc. c.all_paths_fit.ensures.1 desc.paths,
  );
}
