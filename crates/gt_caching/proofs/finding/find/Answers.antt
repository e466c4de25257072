use Rattle.std.proofs.Common.{◌≡◌, sym, subst, Some, None}
use Rattle.gt_next.specs.declared.answer.Answer.TheVariants.{Ref}
use Rattle.gt_next.specs.Caching.{value_of_key, RefusesMember, IsMember, NextFind}
use Rattle.gt_caching.proofs.Caches.{held-there, place-below, value-address}
use Rattle.gt_caching.proofs.finding.find.Goals as goal

pub returns-in_default : goal.returns-in_default
returns-in_default c = record { next = λ told s st. NextFind.no_cache (c.in_default.ensures.named told s st) }

pub value-requires : goal.value-requires
value-requires c =
    let w = c.requires.session in
    let named = c.in-Some.ensures.named w.0 w.1 w.2 in
    record { there = place-below c.args.s.now w.0 w.1 w.2 named.at }

pub returns-in-Err : goal.returns-in-Err
returns-in-Err c = record {
  next = λ told s st.
      let named = c.in-Some.ensures.named told s st in
      NextFind.key_refused named.at (subst (λ ty. RefusesMember s c.args.key.now ty c.in-Err.why) (sym named.key) (c.in-Err.ensures.refused told s st));
}

pub returns-in-Some-value : goal.returns-in-Some-value
returns-in-Some-value c = record {
  next = λ told s st.
      let session = c.args.s.now in
      let named = c.in-Some.ensures.named told s st in
      let key = subst (λ ty. IsMember s c.args.key.now ty c.in-Ok.key) (sym named.key) (c.in-Ok.ensures.member told s st) in
      let e : value_of_key c.in-Ok.key named.pairs ≡ Some c.in-Some-value.addr = sym (c.in-Some-value.ensures.value named.pairs (held-there session told s st named.at)) in
      subst (λ a. NextFind session.schema.program s c.args.cache.now c.args.key.now (Ref a) s) (value-address session told s st named.at c.in-Ok.key c.in-Some-value.addr e) (NextFind.finds named.at key e);
}

pub returns-in-None : goal.returns-in-None
returns-in-None c = record {
  next = λ told s st.
      let session = c.args.s.now in
      let named = c.in-Some.ensures.named told s st in
      let key = subst (λ ty. IsMember s c.args.key.now ty c.in-Ok.key) (sym named.key) (c.in-Ok.ensures.member told s st) in
      let e : value_of_key c.in-Ok.key named.pairs ≡ None = sym (c.in-None.ensures.value named.pairs (held-there session told s st named.at)) in
      NextFind.finds_none named.at key e;
}
