use Rattle.std.proofs.Common.{◌∙◌, ◌<◌, ap, sym, subst, Some, slice_get, length, reverse}
use Rattle.gt_scope.specs.declared.link.Target.TheVariants.{Next}
use Rattle.gt_scope.specs.Chains.{IsWalk}
use Rattle.gt_scope.proofs.ChainLemmas.{past_walk, known_walk, within_walk, on_walk, end_walk, walk_smaller}
use Rattle.gt_scope.proofs.typedefs.walk.Goals as goal

pub returns-in-None : goal.returns-in-None
returns-in-None c = record { walked = past_walk _ _ _ _ c.walk.at _ c.walk.invariant c.in-None.ensures.item c.opaque_meaning-means.ensures.opaque }

pub note_at-requires : goal.note_at-requires
note_at-requires c =
    record {
      within =
          subst (λ memo. c.walk.at < length memo) (sym c.deref.ensures.value)
          (within_walk _ _ _ _ c.walk.at c.in-Some.link.now (Next c.walk.at) c.walk.invariant c.in-Some.ensures.item);
    }

pub returns-in-Some-note_at : goal.returns-in-Some-note_at
returns-in-Some-note_at c =
    record {
      walked =
          known_walk _ _ _ _ c.walk.at c.in-Some-note_at.means c.walk.invariant
          (ap Some (sym c.in-Some-note_at.is) ∙ c.note_at.ensures.known ∙ ap (λ memo. slice_get memo c.walk.at) c.deref.ensures.value);
    }

pub note-requires : goal.note-requires
note-requires c =
    record { within = within_walk _ _ _ _ c.walk.at c.in-Some.link.now (Next c.walk.at) c.walk.invariant c.in-Some.ensures.item }

pub returns-in-End : goal.returns-in-End
returns-in-End c =
    record {
      walked =
          end_walk _ _ c.walk.way.items c.push.new.self.items c.walk.memo.items c.note.new.memo.items c.walk.at c.in-Some.link.now c.opaque_meaning.result
          c.in-End.kind c.walk.invariant c.in-Some.ensures.item c.in_ok-push-in-None-note_at.ensures.items c.note.ensures.noted
          c.opaque_meaning.ensures.opaque c.in-End.is;
    }

pub walk-preserved : goal.walk-preserved
walk-preserved c =
    subst (λ to. IsWalk c.args.links.now c.args.start (reverse c.push.new.self.items) c.note.new.memo.items to) c.in-Next.is
    (on_walk _ _ c.walk.way.items c.push.new.self.items c.walk.memo.items c.note.new.memo.items c.walk.at c.in-Some.link.now c.opaque_meaning.result
    c.walk.invariant c.in-Some.ensures.item c.in_ok-push-in-None-note_at.ensures.items c.note.ensures.noted c.opaque_meaning.ensures.opaque)

pub walk-smaller : goal.walk-smaller
walk-smaller c =
    walk_smaller c.walk.memo.items c.note.new.memo.items c.walk.at c.opaque_meaning.result
    (sym (ap (λ memo. slice_get memo c.walk.at) c.deref.ensures.value) ∙ sym c.note_at.ensures.known ∙ ap Some c.in-None-note_at.is) c.note.ensures.noted
