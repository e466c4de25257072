use Rattle.std.proofs.Common.{◌∙◌, Some, ap, sym}
use Rattle.std.specs.Prelude.{slice_get}
use Rattle.gt_scope.specs.Kinds.{names_in}
use Rattle.gt_scope.proofs.ScopeLemmas.{followed_end, followed_next, followed_past}
use Rattle.gt_scope.proofs.scope.Scope.meaning_at.Goals as goal

pub returns-in-End : goal.returns-in-End
returns-in-End c =
    record {
      means = λ d ty found is.
          followed_end c.args.self.now.declarations.items c.args.self.now.tags c.args.self.now.typedefs (names_in c.args.self.now.targets.tags)
          c.args.self.now.targets.targets.items c.args.self.now.meant.items c.args.self.now.types.items c.args.self.now.tagged c.args.self.now.typed
          c.args.self.now.named c.args.self.now.leads c.args.self.now.meanings c.args.place d ty found is
          c.in-End.kind (ap Some (sym c.in-End.is) ∙ c.in-Some.ensures.item ∙ ap (λ xs. slice_get xs c.args.place) c.deref.ensures.value);
    }

pub returns-in-Some-item_at : goal.returns-in-Some-item_at
returns-in-Some-item_at c =
    record {
      means = λ d ty found is.
          followed_next c.args.self.now.declarations.items c.args.self.now.tags c.args.self.now.typedefs (names_in c.args.self.now.targets.tags)
          c.args.self.now.targets.targets.items c.args.self.now.meant.items c.args.self.now.types.items c.args.self.now.tagged c.args.self.now.typed
          c.args.self.now.named c.args.self.now.leads c.args.self.now.meanings c.args.place d ty found is
          c.in-Next.next c.in-Some-item_at.means.now (ap Some (sym c.in-Next.is) ∙ c.in-Some.ensures.item ∙ ap (λ xs. slice_get xs c.args.place) c.deref.ensures.value)
          (c.in-Some-item_at.ensures.item ∙ ap (λ xs. slice_get xs c.in-Next.next) c.deref-in-Next.ensures.value);
    }

pub returns-in-None-item_at : goal.returns-in-None-item_at
returns-in-None-item_at c =
    record {
      means = λ d ty found is.
          absurd (followed_past c.args.self.now.declarations.items c.args.self.now.tags c.args.self.now.typedefs (names_in c.args.self.now.targets.tags)
          c.args.self.now.targets.targets.items c.args.self.now.meant.items c.args.self.now.types.items c.args.self.now.tagged c.args.self.now.typed
          c.args.self.now.named c.args.self.now.leads c.args.self.now.meanings c.args.place d ty found is
          c.in-Next.next (ap Some (sym c.in-Next.is) ∙ c.in-Some.ensures.item ∙ ap (λ xs. slice_get xs c.args.place) c.deref.ensures.value)
          (c.in-None-item_at.ensures.item ∙ ap (λ xs. slice_get xs c.in-Next.next) c.deref-in-Next.ensures.value));
    }
