use Rattle.std.proofs.Common.{refl, ap, ◌∙◌}
use Rattle.gt_value.specs.Names.{kind_of}
use Rattle.gt_fit.proofs.naming.is_raw.Goals as goal

pub returns-in-Raw : goal.returns-in-Raw
returns-in-Raw g c =
    let t = c.in-Some.ensures.told in
    ((λ h. (t.0.count, (t.0, t.1, t.2 ∙ ap kind_of c.in-Raw.is, refl))), (λ h. refl))
