use Rattle.std.proofs.Common.{◌≤◌, ◌-◌, ap, arith, sym, subst, ◌∙◌, SFits}
use Rattle.std.specs.Int.{w128}
use Rattle.std.proofs.lemmas.Int.{to_z-of_z, ints}
use Rattle.gt_elements.specs.Elements.{owner_of}
use Rattle.gt_value.specs.Places.{HasBits, IsContentOf, content_at}
use Rattle.gt_next.specs.Leaves.{IsNumber, Reads}
use Rattle.gt_routes.specs.Reaching.{spot_of, IsEndAt}
use Rattle.gt_asking.proofs.Ends.{whole-read, none-read, number-read, null-read, to-read}
use Rattle.gt_asking.proofs.reading.read_end.Goals as goal

pub returns-in-Object-owner : goal.returns-in-Object-owner
returns-in-Object-owner c = record {
  read = λ heap what is e.
      let schema = c.args.schema.now in
      let at = spot_of c.args.to.now in
      whole-read schema.program schema.layouts c.args.objects.now heap at c.in-Object-owner.addr what (ap owner_of c.in-Object-owner.is) (subst (IsEndAt schema.program schema.layouts c.args.objects.now heap at) c.in-Object.is (c.requires.end heap is)) e;
}

pub leaf-requires : goal.leaf-requires
leaf-requires c =
    let schema = c.args.schema.now in
    let heap = c.requires.ready.0 in
    let v = subst (IsEndAt schema.program schema.layouts c.args.objects.now heap (spot_of c.args.to.now)) c.in-Value.is (c.requires.end heap c.requires.ready.1) in
    record { stands = record { at = v.frame; value = v.value; path = v.path; is = v.here.here } }

pub returns-in_default : goal.returns-in_default
returns-in_default c = record {
  read = λ heap what is e.
      let schema = c.args.schema.now in
      let v = subst (IsEndAt schema.program schema.layouts c.args.objects.now heap (spot_of c.args.to.now)) c.in-Value.is (c.requires.end heap is) in
      none-read schema.program schema.layouts c.args.objects.now heap (spot_of c.args.to.now) c.in-Value.cursor v what e (c.in_default.ensures.leaf v.frame v.value v.path v.here.here);
}

pub read_leaf-requires-clause-from_start : goal.read_leaf-requires-clause-from_start
read_leaf-requires-clause-from_start c =
    let schema = c.args.schema.now in
    let heap = c.requires.ready.0 in
    let v = subst (IsEndAt schema.program schema.layouts c.args.objects.now heap (spot_of c.args.to.now)) c.in-Value.is (c.requires.end heap c.requires.ready.1) in
    subst (λ r. r.start ≤ c.in-Some.place.addr) (v.space_is ∙ sym c.space.ensures) (c.in-Some.ensures.leaf v.frame v.value v.path v.here.here).from_start

pub read_leaf-requires-clause-bits : goal.read_leaf-requires-clause-bits
read_leaf-requires-clause-bits c =
    let schema = c.args.schema.now in
    let heap = c.requires.ready.0 in
    let v = subst (IsEndAt schema.program schema.layouts c.args.objects.now heap (spot_of c.args.to.now)) c.in-Value.is (c.requires.end heap c.requires.ready.1) in
    subst (λ r. HasBits r (c.in-Some.place.addr - r.start) c.in-Some.place.bit c.in-Some.place.kind) (v.space_is ∙ sym c.space.ensures) (c.in-Some.ensures.leaf v.frame v.value v.path v.here.here).bits

pub returns-in-Num : goal.returns-in-Num
returns-in-Num c =
    let fits : SFits w128 c.in-Num.n = search (arith, ints) in
    record {
      read = λ heap what is e.
          let schema = c.args.schema.now in
          let v = subst (IsEndAt schema.program schema.layouts c.args.objects.now heap (spot_of c.args.to.now)) c.in-Value.is (c.requires.end heap is) in
          let place = c.in-Some.ensures.leaf v.frame v.value v.path v.here.here in
          let there = subst (λ r. IsContentOf (content_at r c.in-Some.place) v.here.here.p.tree) (v.space_is ∙ sym c.space.ensures) place.holds in
          let holds = subst (λ x. IsContentOf x v.here.here.p.tree) (sym c.read_leaf.ensures.content ∙ c.in-Num.is) there in
          let reads = number-read schema.program schema.layouts c.args.objects.now heap (spot_of c.args.to.now) c.in-Value.cursor v what e c.in-Num.n holds in
          subst (λ m. Reads what (IsNumber m)) (sym (to_z-of_z w128 c.in-Num.n fits)) reads;
    }

pub returns-in-Null : goal.returns-in-Null
returns-in-Null c = record {
  read = λ heap what is e.
      let schema = c.args.schema.now in
      let v = subst (IsEndAt schema.program schema.layouts c.args.objects.now heap (spot_of c.args.to.now)) c.in-Value.is (c.requires.end heap is) in
      let place = c.in-Some.ensures.leaf v.frame v.value v.path v.here.here in
      let there = subst (λ r. IsContentOf (content_at r c.in-Some.place) v.here.here.p.tree) (v.space_is ∙ sym c.space.ensures) place.holds in
      null-read schema.program schema.layouts c.args.objects.now heap (spot_of c.args.to.now) c.in-Value.cursor v what e (subst (λ x. IsContentOf x v.here.here.p.tree) (sym c.read_leaf.ensures.content ∙ c.in-Null.is) there);
}

pub returns-in-To : goal.returns-in-To
returns-in-To c = record {
  read = λ heap what is e.
      let schema = c.args.schema.now in
      let v = subst (IsEndAt schema.program schema.layouts c.args.objects.now heap (spot_of c.args.to.now)) c.in-Value.is (c.requires.end heap is) in
      let place = c.in-Some.ensures.leaf v.frame v.value v.path v.here.here in
      let there = subst (λ r. IsContentOf (content_at r c.in-Some.place) v.here.here.p.tree) (v.space_is ∙ sym c.space.ensures) place.holds in
      to-read schema.program schema.layouts c.args.objects.now heap (spot_of c.args.to.now) c.in-Value.cursor v what e c.in-To.addr (subst (λ x. IsContentOf x v.here.here.p.tree) (sym c.read_leaf.ensures.content ∙ c.in-To.is) there);
}
