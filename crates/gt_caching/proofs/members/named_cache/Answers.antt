use Rattle.std.proofs.Common.{◌≡◌, sym, subst, None}
use Rattle.std.specs.Prelude.{MatchOption}
use Rattle.gt_next.specs.Caching.{cache_of}
use Rattle.gt_determined.proofs.Presence.{cache-there}
use Rattle.gt_caching.specs.Members.{IsNamed}
use Rattle.gt_caching.proofs.Caches.{named-there}
use Rattle.gt_caching.proofs.members.named_cache.Goals as goal

pub returns-in_err-place : goal.returns-in_err-place
returns-in_err-place c = record {
  named = λ told s st.
      let program = c.args.s.now.schema.program in
      subst (λ r. MatchOption r (cache_of program c.args.name.now ≡ None) (IsNamed program s c.args.name.now)) (sym c.from_residual.ensures) (sym (c.in_err-place.ensures.place program st.holds.schema.names));
}

pub returns-in_err-cache : goal.returns-in_err-cache
returns-in_err-cache c = record {
  named = λ told s st.
      let session = c.args.s.now in
      let there = cache-there session.schema.program session.schema.layouts s st.good c.args.name.now c.in_ok-place.place (sym (c.in_ok-place.ensures.place session.schema.program st.holds.schema.names)) in
      let declared = there.2.declared in
      let none = c.in_err-cache.ensures.item in
      absurd (cc);
}

pub returns : goal.returns
returns c = record {
  named = λ told s st.
      named-there c.args.s.now told s st c.args.name.now c.in_ok-place.place c.in_ok-cache.cache.now (sym (c.in_ok-place.ensures.place c.args.s.now.schema.program st.holds.schema.names)) (sym c.in_ok-cache.ensures.item);
}
