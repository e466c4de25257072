use Rattle.std.proofs.Common.{◌∙◌, ap}
use Rattle.std.specs.Prelude.{slice_get}
use Rattle.gt_scope.proofs.ScopeLemmas.{none_resolved, past_resolved, found_resolved}
use Rattle.gt_scope.proofs.scope.Scope.resolve.Goals as goal

pub returns-in-None : goal.returns-in-None
returns-in-None c =
    record {
      same =
          none_resolved c.plain.result c.args.self.now.declarations.items c.args.self.now.typedefs c.args.self.now.types.items c.args.ty.now c.in-Named.word
          c.args.stars c.in-Named.is c.args.self.now.typed c.args.self.now.named c.in-None.ensures.place c.plain.ensures.plain;
    }

pub returns-in-None-item_at : goal.returns-in-None-item_at
returns-in-None-item_at c =
    record {
      same =
          past_resolved c.plain-in-None-item_at.result c.args.self.now.declarations.items c.args.self.now.typedefs c.args.self.now.types.items c.args.ty.now
          c.in-Named.word c.in-Some.place c.args.stars c.in-Named.is c.args.self.now.typed c.args.self.now.named c.in-Some.ensures.place
          (c.in-None-item_at.ensures.item ∙ ap (λ types. slice_get types c.in-Some.place) c.deref.ensures.value) c.plain-in-None-item_at.ensures.plain;
    }

pub returns-in-Some-item_at : goal.returns-in-Some-item_at
returns-in-Some-item_at c =
    record {
      same =
          found_resolved c.with_stars.result c.args.self.now.declarations.items c.args.self.now.typedefs c.args.self.now.types.items c.args.ty.now c.in-Named.word
          c.in-Some.place c.in-Some-item_at.found.now c.args.stars c.in-Named.is c.args.self.now.typed c.args.self.now.named c.in-Some.ensures.place
          (c.in-Some-item_at.ensures.item ∙ ap (λ types. slice_get types c.in-Some.place) c.deref.ensures.value) c.with_stars.ensures.following;
    }
