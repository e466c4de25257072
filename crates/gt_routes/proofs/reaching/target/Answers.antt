use Rattle.std.proofs.Common.{◌≤◌, ◌-◌, sym, ◌∙◌, subst}
use Rattle.gt_value.specs.Places.{IsContentOf, HasBits, content_at}
use Rattle.gt_routes.proofs.Targets.{pointer-leaf, null-content, to-content, number-content}
use Rattle.gt_routes.proofs.reaching.target.Goals as goal

pub returns-in_default : goal.returns-in_default
returns-in_default c = record { target = λ frame value path here e. absurd (pointer-leaf frame value path c.args.at.now here c.requires.pointer (c.in_default.ensures.leaf frame value path here.here)) }

pub read_leaf-requires-clause-from_start : goal.read_leaf-requires-clause-from_start
read_leaf-requires-clause-from_start c =
    let s = c.requires.stands in
    subst (λ r. r.start ≤ c.in-Some.place.addr) s.4 (c.in-Some.ensures.leaf s.0 s.1 s.2 s.3.here).from_start

pub read_leaf-requires-clause-bits : goal.read_leaf-requires-clause-bits
read_leaf-requires-clause-bits c =
    let s = c.requires.stands in
    subst (λ r. HasBits r (c.in-Some.place.addr - r.start) c.in-Some.place.bit c.in-Some.place.kind) s.4 (c.in-Some.ensures.leaf s.0 s.1 s.2 s.3.here).bits

pub returns-in-To : goal.returns-in-To
returns-in-To c = record {
  target = λ frame value path here e.
      let is = c.in-Some.ensures.leaf frame value path here.here in
      let holds = subst (λ r. IsContentOf (content_at r c.in-Some.place) here.here.p.tree) e is.holds in
      to-content here.here.p.tree c.in-To.address (subst (λ x. IsContentOf x here.here.p.tree) (sym c.read_leaf.ensures.content ∙ c.in-To.is) holds);
}

pub returns-in-Null : goal.returns-in-Null
returns-in-Null c = record {
  target = λ frame value path here e.
      let is = c.in-Some.ensures.leaf frame value path here.here in
      let holds = subst (λ r. IsContentOf (content_at r c.in-Some.place) here.here.p.tree) e is.holds in
      null-content here.here.p.tree (subst (λ x. IsContentOf x here.here.p.tree) (sym c.read_leaf.ensures.content ∙ c.in-Null.is) holds);
}

pub returns-in-Num : goal.returns-in-Num
returns-in-Num c = record {
  target = λ frame value path here e.
      let is = c.in-Some.ensures.leaf frame value path here.here in
      let holds = subst (λ r. IsContentOf (content_at r c.in-Some.place) here.here.p.tree) e is.holds in
      absurd (number-content frame value path c.args.at.now here c.requires.pointer c.in-Num.field-0 (subst (λ x. IsContentOf x here.here.p.tree) (sym c.read_leaf.ensures.content ∙ c.in-Num.is) holds));
}
