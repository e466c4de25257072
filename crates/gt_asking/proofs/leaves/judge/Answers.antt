use Rattle.std.proofs.Common.{◌≡◌, ap, sym, subst, ◌∙◌}
use Rattle.std.proofs.lemmas.Bool.Decides.{not_from_Decides}
use Rattle.gt_next.specs.declared.answer.Why.TheVariants.{Inactive, WrongType, OutOfRange}
use Rattle.gt_routes.specs.Reaching.{spot_of, IsEndAt}
use Rattle.gt_asking.specs.Judging.{RefusesLeaf, SuitsAs, is_beyond}
use Rattle.gt_elements.specs.Elements.{owner_of}
use Rattle.gt_asking.specs.Judging.{IsLeafTold, IsNamed}
use Rattle.gt_asking.proofs.Judged.{idle-refused, unsuited-refused, beyond-refused, takes-there}
use Rattle.gt_asking.proofs.Founds.{found-there, leaf-told, named-target}
use Rattle.gt_asking.proofs.leaves.judge.Goals as goal

pub returns-then-is_idle-clause-refused : goal.returns-then-is_idle-clause-refused
returns-then-is_idle-clause-refused c why e heap is =
    let schema = c.args.schema.now in
    let v = subst (IsEndAt schema.program schema.layouts c.args.objects.now heap (spot_of c.args.to.now)) c.in-Value.is (c.requires.end heap is) in
    let same : Inactive ≡ why = cc in
    subst (RefusesLeaf schema.program heap (spot_of c.args.to.now) c.args.leaf) same
    (idle-refused schema.program schema.layouts c.args.objects.now heap (spot_of c.args.to.now) c.in-Value.at v (sym (c.is_idle.ensures.idle schema.program schema.layouts c.args.objects.now heap (spot_of c.args.to.now) v) ∙ c.if-is_idle.true))

pub returns-then-not-suits-clause-refused : goal.returns-then-not-suits-clause-refused
returns-then-not-suits-clause-refused c why e heap is =
    let schema = c.args.schema.now in
    let v = subst (IsEndAt schema.program schema.layouts c.args.objects.now heap (spot_of c.args.to.now)) c.in-Value.is (c.requires.end heap is) in
    let same : WrongType ≡ why = cc in
    let unsuited = not_from_Decides c.suits.result (c.suits.ensures.suits heap.graph.objects (c.target_of-target.ensures.named schema.program schema.layouts heap is)) c.if-not-suits.true in
    subst (RefusesLeaf schema.program heap (spot_of c.args.to.now) c.args.leaf) same
    (unsuited-refused schema.program schema.layouts c.args.objects.now heap (spot_of c.args.to.now) c.in-Value.at v c.args.leaf
    (sym (c.is_idle.ensures.idle schema.program schema.layouts c.args.objects.now heap (spot_of c.args.to.now) v) ∙ c.if-is_idle.false)
    (subst (λ t. ¬ SuitsAs heap.graph.objects t c.args.leaf) c.ty.ensures unsuited))

pub returns-then-is_beyond-clause-refused : goal.returns-then-is_beyond-clause-refused
returns-then-is_beyond-clause-refused c why e heap is =
    let schema = c.args.schema.now in
    let v = subst (IsEndAt schema.program schema.layouts c.args.objects.now heap (spot_of c.args.to.now)) c.in-Value.is (c.requires.end heap is) in
    let same : OutOfRange ≡ why = cc in
    let suits = (c.suits.ensures.suits heap.graph.objects (c.target_of-target.ensures.named schema.program schema.layouts heap is)).0 c.if-not-suits.false in
    subst (RefusesLeaf schema.program heap (spot_of c.args.to.now) c.args.leaf) same
    (beyond-refused schema.program schema.layouts c.args.objects.now heap (spot_of c.args.to.now) c.in-Value.at v c.args.leaf (sym (c.is_idle.ensures.idle schema.program schema.layouts c.args.objects.now heap (spot_of c.args.to.now) v) ∙ c.if-is_idle.false)
    (subst (λ t. SuitsAs heap.graph.objects t c.args.leaf) c.ty.ensures suits) (not_from_Decides c.is_fixed.result (c.is_fixed.ensures.fixed heap is) c.if-is_fixed.false)
    (ap (λ t. is_beyond t c.args.leaf) (sym c.ty-2.ensures) ∙ sym c.is_beyond.ensures ∙ c.if-is_beyond.true))

pub returns-clause-takes : goal.returns-clause-takes
returns-clause-takes c heap is =
    let schema = c.args.schema.now in
    let v = subst (IsEndAt schema.program schema.layouts c.args.objects.now heap (spot_of c.args.to.now)) c.in-Value.is (c.requires.end heap is) in
    let suits = (c.suits.ensures.suits heap.graph.objects (c.target_of-target.ensures.named schema.program schema.layouts heap is)).0 c.if-not-suits.false in
    takes-there schema.program schema.layouts c.args.objects.now heap (spot_of c.args.to.now) c.in-Value.at v c.args.leaf (sym (c.is_idle.ensures.idle schema.program schema.layouts c.args.objects.now heap (spot_of c.args.to.now) v) ∙ c.if-is_idle.false)
    (subst (λ t. SuitsAs heap.graph.objects t c.args.leaf) c.ty.ensures suits) (not_from_Decides c.is_fixed.result (c.is_fixed.ensures.fixed heap is) c.if-is_fixed.false)
    (ap (λ t. is_beyond t c.args.leaf) (sym c.ty-2.ensures) ∙ sym c.is_beyond.ensures ∙ c.if-is_beyond.false)

pub leaf-place-requires : goal.leaf-place-requires
leaf-place-requires c =
    let schema = c.args.schema.now in
    let v = subst (IsEndAt schema.program schema.layouts c.args.objects.now c.requires.ready.0 (spot_of c.args.to.now)) c.in-Value.is (c.requires.end c.requires.ready.0 c.requires.ready.1) in
    record { stands = record { at = v.frame; value = v.value; path = v.path; is = v.here.here } }

pub is_idle-requires : goal.is_idle-requires
is_idle-requires c = record { told = leaf-told c.in-Value.at c.leaf-place.result c.leaf-place.ensures.leaf }

pub returns-clause-found : goal.returns-clause-found
returns-clause-found c f e heap is =
    let schema = c.args.schema.now in
    let to = c.args.to.now in
    let parts = c.found_in.ensures.found f e in
    let leaf = subst (IsLeafTold c.in-Value.at) parts.1 (leaf-told c.in-Value.at c.leaf-place.result c.leaf-place.ensures.leaf) in
    found-there schema.program schema.layouts c.args.objects.now heap (owner_of to.owner) to.places.items c.in-Value.at f (c.requires.first heap is f.element parts.0)
    (c.requires.inside c.in-Value.at c.in-Value.is f.element parts.0) leaf
    (λ t known. named-target heap.graph.objects c.args.leaf t (subst (IsNamed heap.graph.objects c.args.leaf) (parts.2 ∙ known) (c.target_of-target.ensures.named schema.program schema.layouts heap is)))
