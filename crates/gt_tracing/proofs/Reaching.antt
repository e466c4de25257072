-- What is marked is what is reached.
use Rattle.std.proofs.Common.{◌≡◌, ◌∙◌, ◌==◌, ◌↔◌, ℕ, Bool, true, false, cond, List, [], ◌∷◌, map, Option, Some, None, is_some, inl, inr, refl, sym, ap, subst}
use Rattle.std.specs.Prelude.{Contains, IsTrue, find, option_and_then}
use Rattle.std.proofs.lemmas.Bool.{cases_Bool, eq-eqb, eqb-true, false≢true}
use Rattle.gt_types.specs.declared.program.Program.{Program}
use Rattle.gt_space.specs.Range.{Range}
use Rattle.gt_entries.specs.declared.marks.Mark.{Mark}
use Rattle.gt_pages.specs.Slots.{Slot, StartsSome, is_marked, mark_at, with_mark}
use Rattle.gt_pages.specs.Contents.{Contents}
use Rattle.gt_graph.specs.Objects.{Object, Graph}
use Rattle.gt_graph.specs.Kept.{ReachedWith}
use Rattle.gt_walk.specs.declared.tables.Tables.{Tables}
use Rattle.gt_mark.specs.Reached.{IsMarkedAt, IsReached, Reaches}
use Rattle.gt_mark.specs.Marks.{Marks, mark_after, own_mark}
use Rattle.gt_mark.proofs.Remarked.{contains_head, contains_map, contains_map_from, contains_none, contains_tail, starts_cases}
use Rattle.gt_tracing.specs.Walked.{walks_in}
use Rattle.gt_tracing.specs.Traces.{Traces}
use Rattle.gt_tracing.specs.Laws.{MarksAreReached, NoneIsMarked, StartAt}
use Rattle.gt_tracing.proofs.Blocks.{object_at, reach_back, reach_on, start_of}
use Rattle.gt_tracing.proofs.Starting.{no_mark}

-- a block without a mark has one afterwards where it is reached
some_after : (reached pending : Bool) (own : Mark) (mark : Option Mark) → mark ≡ None → is_some (mark_after reached pending own mark) ≡ reached
some_after true pending own None e = refl
some_after false pending own None e = refl
some_after reached pending own (Some k) e = absurd (false≢true (sym (ap is_some e)))

module _ (program : Program) (tables : Tables) (space : Range) (g : Graph) (starts : List ℕ) (old new : Contents) (t : Traces program tables space old.slots g) (none : NoneIsMarked old.slots)
    (m : Marks tables space (walks_in program g.objects) starts old new) where
  abbrev pub after : Slot → Slot
  after s = with_mark (mark_after (m.reached s.address) (m.pending s.address) (own_mark (walks_in program g.objects) s.address) s.mark) s

  pub after_marked : (s : Slot) → s.mark ≡ None → is_marked (after s) ≡ m.reached s.address
  after_marked s bare = some_after (m.reached s.address) (m.pending s.address) (own_mark (walks_in program g.objects) s.address) s.mark bare

  abbrev some_of : Option Slot → Bool
  some_of found = is_some (option_and_then (λ x. x.mark) found)

  marked_at : (slots : List Slot) (a : ℕ) → ((s : Slot) → Contains slots s → s.mark ≡ None) → StartsSome slots a → is_some (mark_at (map after slots) a) ≡ m.reached a
  marked_at [] a bare start = contains_none start.0 start.1
  marked_at (s ∷ slots) a bare start = elim (cases_Bool (s.address == a)) [
    | inl here ↦
        ap (λ b. some_of (cond b (Some (after s)) (find (λ x. x.address == a) (map after slots)))) here
        ∙ after_marked s (bare s (contains_head s slots)) ∙ ap m.reached (eqb-true s.address a here)
    | inr other ↦
        ap (λ b. some_of (cond b (Some (after s)) (find (λ x. x.address == a) (map after slots)))) other
        ∙ marked_at slots a (λ x has. bare x (contains_tail s x slots has)) (elim (starts_cases s slots a start) [
          | inl is ↦ absurd (false≢true (sym other ∙ eq-eqb s.address a is))
          | inr later ↦ later
        ])
  ]

  -- an object is marked afterwards where it is reached
  pub marked_is : (o : Object) → Contains g.objects o → is_some (mark_at new.slots o.id) ≡ m.reached o.id
  marked_is o has =
      ap (λ c. is_some (mark_at c.slots o.id)) m.marked
      ∙ marked_at old.slots o.id (λ s there. no_mark old.slots s none there) (start_of program tables space old.slots g t o has)

  -- a block that is marked afterwards is that of a marked object
  pub marked_object : (a : ℕ) → IsMarkedAt new.slots a → (o : Object) × Contains g.objects o × (o.id ≡ a) × (is_some (mark_at new.slots o.id) ≡ true)
  marked_object a at =
      let x = contains_map_from after old.slots at.0 (subst (λ l. Contains l at.0) (ap (λ c. c.slots) m.marked) at.1) in
      let here : x.0.address ≡ a = ap (λ s. s.address) x.2 ∙ at.2 in
      let o = object_at program tables space old.slots g t a (x.0, x.1, here) in
      let reached : m.reached x.0.address ≡ true = sym (after_marked x.0 (no_mark old.slots x.0 none x.1)) ∙ ap is_marked x.2 ∙ at.3 in
      (o.0, o.1, o.2, marked_is o.0 o.1 ∙ ap m.reached (o.2 ∙ sym here) ∙ reached)

  -- a marked object's block is marked
  pub object_marked : (o : Object) → Contains g.objects o → is_some (mark_at new.slots o.id) ≡ true → IsMarkedAt new.slots o.id
  object_marked o has marked =
      let s = start_of program tables space old.slots g t o has in
      let reached : m.reached s.0.address ≡ true = ap m.reached s.2 ∙ sym (marked_is o has) ∙ marked in (
        after s.0,
        subst (λ l. Contains l (after s.0)) (sym (ap (λ c. c.slots) m.marked)) (contains_map after old.slots s.0 s.1),
        s.2,
        after_marked s.0 (no_mark old.slots s.0 none s.1) ∙ reached,
      )

  pub marked_reached : (values : List ℕ) → StartAt program g values starts → (o : Object) → Contains g.objects o → IsTrue (is_some (mark_at new.slots o.id)) ↔ ReachedWith program g values o.id
  marked_reached values start o has =
      let s = start_of program tables space old.slots g t o has in (
        λ marked.
            let reached : m.reached s.0.address ≡ true = ap m.reached s.2 ∙ sym (marked_is o has) ∙ marked in
            let r = (m.exact s.0 s.1).0 reached in
            (r.0, (start r.0).0 r.1, reach_on program tables space old.slots g t r.0 o.id (subst (Reaches tables space (walks_in program g.objects) r.0) s.2 r.2)),
        λ r.
            let back = reach_back program tables space old.slots g t r.0 o.id r.2 in
            let reached = (m.exact s.0 s.1).1 (subst (IsReached tables space (walks_in program g.objects) starts) (sym s.2) (r.0, (start r.0).1 r.1, back)) in
            marked_is o has ∙ ap m.reached (sym s.2) ∙ reached,
      )

pub marks_are_reached : MarksAreReached
marks_are_reached program tables space g values starts old new o t none start m has = marked_reached program tables space g starts old new t none m values start o has
