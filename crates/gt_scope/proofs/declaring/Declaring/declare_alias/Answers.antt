use Rattle.std.proofs.Common.{◌∙◌, Some, ap, sym}
use Rattle.gt_scope.proofs.DeclaringLemmas.{last_up_to, last_one}
use Rattle.gt_scope.proofs.declaring.Declaring.declare_alias.Goals as goal

pub with_one-requires : goal.with_one-requires
with_one-requires c =
    λ repeated.
    ap Some c.in_ok-ty.ensures.same ∙ sym (c.requires repeated)
    ∙ last_up_to c.args.file c.args.alias.now.name.at c.args.self.now c.up_to.new.self c.in_ok-up_to.ensures

pub returns-clause-repeated : goal.returns-clause-repeated
returns-clause-repeated c =
    λ repeated.
    last_one c.args.file c.args.alias.now.name c.in_ok-ty.ty c.args.alias.now.stars c.up_to.new.self c.with_one.new.self c.in_ok-with_one.ensures
    ∙ ap Some c.in_ok-ty.ensures.same
