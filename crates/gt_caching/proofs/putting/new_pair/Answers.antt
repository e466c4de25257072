use Rattle.std.proofs.Common.{◌≡◌, ◌≤◌, sym, subst}
use Rattle.gt_graph.specs.Objects.{pairs_in}
use Rattle.gt_graph.specs.Good.{MAX_PAIRS}
use Rattle.gt_next.specs.Caching.{NextPut, IsMember, RefusesMember}
use Rattle.gt_caching.specs.Members.{HasRoom}
use Rattle.gt_caching.proofs.Caches.{held-there, place-below}
use Rattle.gt_caching.proofs.putting.new_pair.Goals as goal

pub returns-in_default-clause-refused : goal.returns-in_default-clause-refused
returns-in_default-clause-refused c = λ told s st. NextPut.no_cache (c.in_default.ensures.named told s st)

pub returns-in-Err-clause-refused : goal.returns-in-Err-clause-refused
returns-in-Err-clause-refused c = λ told s st.
    let named = c.in-Some.ensures.named told s st in
    NextPut.key_refused named.at (subst (λ ty. RefusesMember s c.args.key.now ty c.in-Err.why) (sym named.key) (c.in-Err.ensures.refused told s st))

pub returns-in-Err-member-clause-refused : goal.returns-in-Err-member-clause-refused
returns-in-Err-member-clause-refused c = λ told s st.
    let named = c.in-Some.ensures.named told s st in
    let key = subst (λ ty. IsMember s c.args.key.now ty c.in-Ok.key) (sym named.key) (c.in-Ok.ensures.member told s st) in
    NextPut.value_refused named.at key (subst (λ ty. RefusesMember s c.args.value.now ty c.in-Err-member.why) (sym named.value) (c.in-Err-member.ensures.refused told s st))

pub is_too_many-requires : goal.is_too_many-requires
is_too_many-requires c =
    let w = c.requires.session in
    let named = c.in-Some.ensures.named w.0 w.1 w.2 in
    record { there = place-below c.args.s.now w.0 w.1 w.2 named.at }

pub returns-then-is_too_many-clause-refused : goal.returns-then-is_too_many-clause-refused
returns-then-is_too_many-clause-refused c = λ told s st.
    let named = c.in-Some.ensures.named told s st in
    let key = subst (λ ty. IsMember s c.args.key.now ty c.in-Ok.key) (sym named.key) (c.in-Ok.ensures.member told s st) in
    let value = subst (λ ty. IsMember s c.args.value.now ty c.in-Ok-member.value) (sym named.value) (c.in-Ok-member.ensures.member told s st) in
    let full = c.if-is_too_many.ensures.too_many named.pairs (held-there c.args.s.now told s st named.at) in
    NextPut.too_large named.at key value full.0 (subst (λ ps. MAX_PAIRS ≤ pairs_in ps) (sym st.holds.pairs) full.1)

pub returns-clause-pair : goal.returns-clause-pair
returns-clause-pair c = λ told s st.
    let named = c.in-Some.ensures.named told s st in
    let room = c.if-is_too_many.ensures.too_many named.pairs (held-there c.args.s.now told s st named.at) in
    record {
      cache = named.cache;
      pairs = named.pairs;
      at = named.at;
      key_is = subst (λ ty. IsMember s c.args.key.now ty c.in-Ok.key) (sym named.key) (c.in-Ok.ensures.member told s st);
      value_is = subst (λ ty. IsMember s c.args.value.now ty c.in-Ok-member.value) (sym named.value) (c.in-Ok-member.ensures.member told s st);
      room = subst (λ ps. HasRoom c.in-Ok.key named.pairs (pairs_in ps)) (sym st.holds.pairs) room;
    }
