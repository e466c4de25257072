use Rattle.std.proofs.Common.{◌≡◌, ◌∙◌, ℤ, Bool, List, [], ◌∷◌, ◌++◌, true, sym, ap, subst, rules, w64, SFits}
use Rattle.std.proofs.Math.Facts.{to_z-of_z}
use Rattle.gt_names.specs.Entries.{first_some}
use Rattle.gt_scope.specs.declared.declaration.Declaration.{Declaration}
use Rattle.gt_scope.specs.Declarations.{Progress}
use Rattle.gt_scope.specs.FirstValues.{value_in, value_named}
use Rattle.gt_scope.specs.Repeats.{type_of, last_type}
use Rattle.gt_scope.proofs.Progresses.{kept-others, kept-added}
use Rattle.gt_scope.proofs.TargetLemmas.{repeats_pushed}
use Rattle.gt_scope.proofs.declaring.Declaring.with_one.Goals as goal

pub invariant_of-self-in_default : goal.invariant_of-self-in_default
invariant_of-self-in_default c =
    let d : Declaration = record { file = c.args.file; name = record { word = c.in_ok-copy.field-0; at = c.args.name.now.at }; what = c.args.what } in
    let kept = kept-others (value_in c.self.inside.constants) c.self.inside.structures c.self.inside.done.items c.push.new.self.items d
    c.in_ok-push.ensures.items (sym c.in_default.is ∙ c.constant_of-value.ensures) (c.self.invariant.0, c.self.invariant.1) in (
      kept.0,
      kept.1,
      repeats_pushed c.self.inside.done.items c.push.new.self.items c.self.inside.repeated.items c.push_reserved.new.self.items c.self.invariant.2 d c.args.repeated
          (λ m. c.requires m ∙ sym (ap (λ (p : Progress). last_type p.done) c.self.view_is)) c.in_ok-push.ensures.items
          (c.push_reserved.ensures.items ∙ ap (λ (xs : List Bool). xs ++ c.args.repeated ∷ []) c.reserve.ensures.items),
    )

pub invariant_of-self-in-Ok : goal.invariant_of-self-in-Ok
invariant_of-self-in-Ok c =
    let fits : SFits w64 c.in-Some.value = search rules in
    let d : Declaration = record { file = c.args.file; name = record { word = c.in_ok-copy.field-0; at = c.args.name.now.at }; what = c.args.what } in
    let kept = kept-added (value_in c.self.inside.constants) (value_in c.add.new.self) c.self.inside.structures c.self.inside.done.items c.push.new.self.items
    d c.args.name.now.word c.in-Some.value
    c.in_ok-push.ensures.items (sym c.in-Some.is ∙ c.constant_of-value.ensures) c.in_ok-copy.ensures.same
    (λ word. c.in-Ok.ensures.added word ∙ ap (λ (v : ℤ). first_some (value_in c.self.inside.constants word) (value_named c.args.name.now.word v word)) (to_z-of_z {w = w64} {z = c.in-Some.value} fits))
    (c.self.invariant.0, c.self.invariant.1) in (
      kept.0,
      kept.1,
      repeats_pushed c.self.inside.done.items c.push.new.self.items c.self.inside.repeated.items c.push_reserved-in-Ok.new.self.items c.self.invariant.2 d c.args.repeated
          (λ m. c.requires m ∙ sym (ap (λ (p : Progress). last_type p.done) c.self.view_is)) c.in_ok-push.ensures.items
          (c.push_reserved-in-Ok.ensures.items ∙ ap (λ (xs : List Bool). xs ++ c.args.repeated ∷ []) c.reserve.ensures.items),
    )
