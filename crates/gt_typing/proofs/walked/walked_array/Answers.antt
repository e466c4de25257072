use Rattle.std.proofs.Common.{◌≡◌, ◌∙◌, Option, IfOk, ap, subst, refl}
use Rattle.std.specs.Prelude.{option_map}
use Rattle.gt_types.specs.declared.types.Ty.{Ty}
use Rattle.gt_markers.specs.declared.type_options.TypeOptions.{TypeOptions}
use Rattle.gt_markers.specs.Typing.{single_type, array_type}
use Rattle.gt_typing.proofs.walked.walked_array.Goals as goal

pub returns : goal.returns
returns c =
    let elem_is = c.in_ok-elem.ensures.made ∙ ap (λ (o : TypeOptions). single_type c.args.draft.now o c.args.ty.now) (c.of_elements.ensures c.args.options refl) in
    record {
      made = subst (λ (elem : Option Ty). IfOk c.array_of.result (λ t. t ≡ option_map (array_type c.args.options.length c.args.bound c.args.bounds.now) elem)) elem_is c.array_of.ensures.made;
    }
