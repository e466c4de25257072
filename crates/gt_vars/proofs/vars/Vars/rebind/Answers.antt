use Rattle.std.proofs.Common.{◌≡◌, ap, sym, subst, ◌∙◌, IsSome}
use Rattle.std.specs.Option.{option_copied_mut}
use Rattle.gt_next.specs.States.{Variables, meaning, with_variable}
use Rattle.gt_vars.specs.Held.{variables_of}
use Rattle.gt_vars.specs.declared.vars.Vars.TheInside.{Inside}
use Rattle.gt_vars.proofs.VarsEntries.{meaning-variables_of, variables_of-put}
use Rattle.gt_vars.proofs.vars.Vars.rebind.Goals as goal
use Rattle.gt_vars.proofs.vars.Vars.rebind.Goals.{in-Some, in_default}

-- the name is bound, so there is a place to write to
pub returns : goal.returns
returns c =
    let same : meaning c.args.self.now c.args.name.now ≡ option_copied_mut c.get_mut.result =
    ap (λ (v : Variables). meaning v c.args.name.now) (sym c.self.view_is) ∙ meaning-variables_of c.self.inside.addresses.entries c.args.name.now
    ∙ sym c.get_mut.ensures.value in
    let bound : IsSome (option_copied_mut c.get_mut.result) = subst (λ o. IsSome o) same c.requires.bound in
    record {
      bound = elim c.match-get_mut.branch [
        | in-Some w ↦
            ap (λ (i : Inside). variables_of i.addresses.entries) w.self-inside-is
            ∙ variables_of-put c.self.inside.addresses.entries (c.get_mut.follows.lender c.args.address).entries c.args.name.now c.args.address
            ((c.get_mut.follows.holds c.args.address).3 (subst (λ o. IsSome o) c.get_mut.ensures.value bound)).0
            ∙ ap (λ m. with_variable m c.args.name.now c.args.address) c.self.view_is
        | in_default w ↦ let never = subst (λ o. IsSome (option_copied_mut o)) w.in_default.is bound in cc
      ];
    }
