use Rattle.std.proofs.Common.{◌≡◌, ◌∙◌, Some, arith, ap, length, refl, slice_get, subst, sym}
use Rattle.gt_layout.specs.Growths.{AreTails}
use Rattle.gt_layout.specs.Progress.{type_id}
use Rattle.gt_layout.proofs.Laying.{field_within, read_at}
use Rattle.gt_layout.proofs.Depths.{held-node}
use Rattle.gt_layout.proofs.Growing.{found-none, is-marked, member-again, member-found, one-more, other-member, tails-whole}
use Rattle.gt_layout.proofs.Capacities.{own-tails}
use Rattle.gt_layout.proofs.growths.+growths.Goals.{find_tails-in-Node+else-not-index, find_tails-in-Node+then-not-index+in_ok-find_growth+in_ok-add_tails, find_tails-in_default}
use Rattle.gt_layout.proofs.growths.+growths.Goals as goal

pub find_growth-returns-clause-keeps : goal.find_growth-returns-clause-keeps
find_growth-returns-clause-keeps t c =
    (one-more c.args.program.now c.args.planes.now c.args.known.now.items c.find_tails.new.known.items c.args.place (record { tails = c.of.result })
    (omega (arith, c.requires.inside, c.requires.all, c.in_ok-tails.ensures.keeps.all)) c.in_ok-tails.ensures.keeps c.in_ok-tails.ensures.right
    (subst (AreTails c.args.program.now c.args.planes.now (type_id c.args.place)) (sym c.of.ensures.items) c.in_ok-tails.ensures.tails)).keeps

pub find_growth-returns-clause-right : goal.find_growth-returns-clause-right
find_growth-returns-clause-right t c =
    (one-more c.args.program.now c.args.planes.now c.args.known.now.items c.find_tails.new.known.items c.args.place (record { tails = c.of.result })
    (omega (arith, c.requires.inside, c.requires.all, c.in_ok-tails.ensures.keeps.all)) c.in_ok-tails.ensures.keeps c.in_ok-tails.ensures.right
    (subst (AreTails c.args.program.now c.args.planes.now (type_id c.args.place)) (sym c.of.ensures.items) c.in_ok-tails.ensures.tails)).right

pub find_growth-returns-clause-found : goal.find_growth-returns-clause-found
find_growth-returns-clause-found t c =
    (one-more c.args.program.now c.args.planes.now c.args.known.now.items c.find_tails.new.known.items c.args.place (record { tails = c.of.result })
    (omega (arith, c.requires.inside, c.requires.all, c.in_ok-tails.ensures.keeps.all)) c.in_ok-tails.ensures.keeps c.in_ok-tails.ensures.right
    (subst (AreTails c.args.program.now c.args.planes.now (type_id c.args.place)) (sym c.of.ensures.items) c.in_ok-tails.ensures.tails)).found

pub find_tails-returns-then-not-structure-clause-tails : goal.find_tails-returns-then-not-structure-clause-tails
find_tails-returns-then-not-structure-clause-tails t c =
    own-tails c.args.program.now c.args.planes.now c.args.place c.index-as_slice-place.result c.index-planes-place.result c.tails_of_struct.result c.requires.within
    (read_at c.as_slice.result.now c.args.program.now.structures c.args.place c.index-as_slice-place.result c.as_slice.ensures.items c.requires.inside c.index-as_slice-place.is)
    (read_at c.args.planes.now c.args.planes.now c.args.place c.index-planes-place.result refl (omega (arith, c.requires.inside, c.requires.laid_out.all)) c.index-planes-place.is)
    c.if-not-structure.true c.tails_of_struct.ensures

pub find_tails-loop-field-init : goal.find_tails-loop-field-init
find_tails-loop-field-init t c =
    found-none c.args.program.now c.args.planes.now c.args.known.now.items c.in_ok-taken.taken.items c.new-tails.result.items c.len.result c.requires.right (c.in_ok-taken.ensures.items_if_clones_equal (λ y same. same)) c.len.ensures.items c.new-tails.ensures.items

pub find_tails-index-requires : goal.find_tails-index-requires
find_tails-index-requires t c =
    let inside = (field_within c.args.program.now c.args.place c.args.depth c.as_slice.result.now c.index-as_slice-place.result c.as_slice-field-items.result.now c.loop-field.field-index c.field-item.result c.requires.settled
    c.as_slice.ensures.items c.requires.inside c.index-as_slice-place.is c.as_slice-field-items.ensures.items c.loop-field-test.true c.field-item.is c.requires.shallow
    c.in-Node.id (held-node c.field-item.result.ty c.in-Node.id c.in-Node.desc c.in-Node.is)).0 in
    omega (arith, inside, c.loop-field.invariant.places)

pub find_tails-index_mut-requires : goal.find_tails-index_mut-requires
find_tails-index_mut-requires t c =
    let inside = (field_within c.args.program.now c.args.place c.args.depth c.as_slice.result.now c.index-as_slice-place.result c.as_slice-field-items.result.now c.loop-field.field-index c.field-item.result c.requires.settled
    c.as_slice.ensures.items c.requires.inside c.index-as_slice-place.is c.as_slice-field-items.ensures.items c.loop-field-test.true c.field-item.is c.requires.shallow
    c.in-Node.id (held-node c.field-item.result.ty c.in-Node.id c.in-Node.desc c.in-Node.is)).0 in
    omega (arith, inside, c.loop-field.invariant.places)

pub find_tails-overflow_sub-depth : goal.find_tails-overflow_sub-depth
find_tails-overflow_sub-depth t c =
    (field_within c.args.program.now c.args.place c.args.depth c.as_slice.result.now c.index-as_slice-place.result c.as_slice-field-items.result.now c.loop-field.field-index c.field-item.result c.requires.settled
    c.as_slice.ensures.items c.requires.inside c.index-as_slice-place.is c.as_slice-field-items.ensures.items c.loop-field-test.true c.field-item.is c.requires.shallow
    c.in-Node.id (held-node c.field-item.result.ty c.in-Node.id c.in-Node.desc c.in-Node.is)).1

pub find_tails-find_growth-requires : goal.find_tails-find_growth-requires
find_tails-find_growth-requires t c =
    let inner = field_within c.args.program.now c.args.place c.args.depth c.as_slice.result.now c.index-as_slice-place.result c.as_slice-field-items.result.now c.loop-field.field-index c.field-item.result c.requires.settled
    c.as_slice.ensures.items c.requires.inside c.index-as_slice-place.is c.as_slice-field-items.ensures.items c.loop-field-test.true c.field-item.is c.requires.shallow
    c.in-Node.id (held-node c.field-item.result.ty c.in-Node.id c.in-Node.desc c.in-Node.is) in
    let some = inner.1 in (
      omega (arith, some),
      (
        c.requires.settled,
        (
          c.requires.laid_out,
          (
            c.requires.within,
            (inner.0, (c.loop-field.invariant.keeps.all ∙ c.requires.all, (c.loop-field.invariant.right, inner.2))),
          ),
        ),
      ),
    )

pub find_tails-loop-field-preserved : goal.find_tails-loop-field-preserved
find_tails-loop-field-preserved t c = elim c.match-field.branch [
  | find_tails-in-Node+then-not-index+in_ok-find_growth+in_ok-add_tails w ↦
      member-found c.args.program.now c.args.planes.now c.args.known.now.items c.loop-field.known.items w.find_growth.new.known.items c.match-field.known.items c.as_slice-field-items.result.now c.loop-field.field-index
      c.field-item.result c.loop-field.taken.items c.match-field.taken.items c.loop-field.tails.items w.tails_at.result.now c.match-field.tails.items w.in-Node.id w.in-Node.desc
      c.loop-field-test.true c.field-item.is c.loop-field.invariant w.in-Node.is w.in_ok-find_growth.ensures.keeps w.in_ok-find_growth.ensures.right w.in_ok-find_growth.ensures.found
      (λ growth at. w.tails_at.ensures growth (subst (λ ks. slice_get ks w.in-Node.id.0 ≡ Some (Some growth)) (sym w.as_slice-then-not-index.ensures.value) at)) (ap (λ v. v.items) w.known-is) (ap (λ v. v.items) w.taken-is)
      (ap (λ v. v.items) w.tails-is ∙ w.in_ok-add_tails.ensures)
  | find_tails-in-Node+else-not-index w ↦
      member-again c.args.program.now c.args.planes.now c.args.known.now.items c.loop-field.known.items c.match-field.known.items c.as_slice-field-items.result.now c.loop-field.field-index
      c.field-item.result c.loop-field.taken.items c.match-field.taken.items c.loop-field.tails.items c.match-field.tails.items w.in-Node.id w.in-Node.desc c.loop-field-test.true c.field-item.is c.loop-field.invariant w.in-Node.is
      (is-marked c.loop-field.taken.items (length c.args.program.now.structures) w.in-Node.id.0 w.index.result.now c.loop-field.invariant.places
      (field_within c.args.program.now c.args.place c.args.depth c.as_slice.result.now c.index-as_slice-place.result c.as_slice-field-items.result.now c.loop-field.field-index c.field-item.result c.requires.settled
      c.as_slice.ensures.items c.requires.inside c.index-as_slice-place.is c.as_slice-field-items.ensures.items c.loop-field-test.true c.field-item.is c.requires.shallow
      w.in-Node.id (held-node c.field-item.result.ty w.in-Node.id w.in-Node.desc w.in-Node.is)).0
      w.index.ensures w.if-not-index.false)
      (ap (λ v. v.items) w.known-is) (ap (λ v. v.items) w.taken-is) (ap (λ v. v.items) w.tails-is)
  | find_tails-in_default w ↦
      other-member c.args.program.now c.args.planes.now c.args.known.now.items c.loop-field.known.items c.match-field.known.items c.as_slice-field-items.result.now c.loop-field.field-index
      c.field-item.result c.loop-field.taken.items c.match-field.taken.items c.loop-field.tails.items c.match-field.tails.items c.loop-field-test.true c.field-item.is c.loop-field.invariant w.in_default.not-Node (ap (λ v. v.items) w.known-is)
      (ap (λ v. v.items) w.taken-is) (ap (λ v. v.items) w.tails-is)
]

pub find_tails-returns-clause-tails : goal.find_tails-returns-clause-tails
find_tails-returns-clause-tails t c =
    tails-whole c.args.program.now c.args.planes.now c.args.place c.index-as_slice-place.result c.as_slice-field-items.result.now c.loop-field.field-index c.loop-field.tails.items
    (read_at c.as_slice.result.now c.args.program.now.structures c.args.place c.index-as_slice-place.result c.as_slice.ensures.items c.requires.inside c.index-as_slice-place.is)
    c.if-not-structure.false c.as_slice-field-items.ensures.items c.loop-field-test.false c.loop-field.invariant.gathered
