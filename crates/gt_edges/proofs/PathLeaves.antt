-- The leaf of a path reads the number to which the path leads.
use Rattle.std.proofs.Common.{◌≡◌, ℕ, ◌+◌, ◌<◌, Bool, true, false, cond, nat_le, List, [], ◌∷◌, refl, ap, sym, ◌∙◌, arith, Option, Some, None}
use Rattle.std.specs.Prelude.{slice_get}
use Rattle.std.specs.Str.{bytes_eq}
use Rattle.std.specs.List.{position_from}
use Rattle.std.proofs.lemmas.Bool.{leb-false}
use Rattle.gt_types.specs.declared.types.TypeId.{TypeId}
use Rattle.gt_types.specs.declared.types.Ty.{Ty}
use Rattle.gt_types.specs.declared.program.Program.{Program}
use Rattle.gt_types.specs.Contains.{itself}
use Rattle.gt_layout.specs.declared.planes.Plane.{Plane}
use Rattle.gt_layout.specs.Places.{begin_at}
use Rattle.gt_tree.specs.Scopes.{◌then◌}
use Rattle.gt_value.specs.Reading.{Place, place, place_field, step_to, walk_on, walk_to}
use Rattle.gt_edges.specs.Walks.{field_named, place_after, place_named}
use Rattle.gt_edges.proofs.Chained.{then-same, then-then, then-none, cond-then}

module _ {Y : Type 0} (program : Program) (planes : List Plane) (end : ℕ) (read : Place → Option Y) (past : (p : Place) → end < p.at → read p ≡ None) where
  -- a step reaches the field of this name, where it begins inside
  step-named : (node : TypeId) (at : ℕ) (name : List ℕ) (rest : Place → Option Y)
      → (step_to program planes end node at name then rest) ≡ (field_named program planes node name then λ p. cond (nat_le (at + p.at) end) (rest (place p.type (at + p.at))) None)
  step-named node at name rest =
      let goal = λ (p : Place). cond (nat_le (at + p.at) end) (rest (place p.type (at + p.at))) None in
      then-then (slice_get program.structures node.0) (λ s. slice_get planes node.0 then λ plane. position_from (λ f. bytes_eq f.name name) 0 s.fields then λ i. place_field s.fields plane.fields end at i) rest
      ∙ then-same (slice_get program.structures node.0) _ _ (λ s.
      then-then (slice_get planes node.0) (λ plane. position_from (λ f. bytes_eq f.name name) 0 s.fields then λ i. place_field s.fields plane.fields end at i) rest
      ∙ then-same (slice_get planes node.0) _ _ (λ plane.
      then-then (position_from (λ f. bytes_eq f.name name) 0 s.fields) (λ i. place_field s.fields plane.fields end at i) rest
      ∙ then-same (position_from (λ f. bytes_eq f.name name) 0 s.fields) _ _ (λ i.
      then-then (slice_get s.fields i) (λ f. slice_get plane.fields i then λ spot. cond (nat_le (at + begin_at spot) end) (Some (place f.ty (at + begin_at spot))) None) rest
      ∙ then-same (slice_get s.fields i) _ _ (λ f.
      then-then (slice_get plane.fields i) (λ spot. cond (nat_le (at + begin_at spot) end) (Some (place f.ty (at + begin_at spot))) None) rest
      ∙ then-same (slice_get plane.fields i) _ _ (λ spot. cond-then (nat_le (at + begin_at spot) end) (place f.ty (at + begin_at spot)) rest)
      ∙ sym (then-then (slice_get plane.fields i) (λ spot. Some (place f.ty (begin_at spot))) goal))
      ∙ sym (then-then (slice_get s.fields i) (λ f. slice_get plane.fields i then λ spot. Some (place f.ty (begin_at spot))) goal))
      ∙ sym (then-then (position_from (λ f. bytes_eq f.name name) 0 s.fields) (λ i. slice_get s.fields i then λ f. slice_get plane.fields i then λ spot. Some (place f.ty (begin_at spot))) goal))
      ∙ sym (then-then (slice_get planes node.0) (λ plane. position_from (λ f. bytes_eq f.name name) 0 s.fields then λ i. slice_get s.fields i then λ f. slice_get plane.fields i then λ spot. Some (place f.ty (begin_at spot))) goal))
      ∙ sym (then-then (slice_get program.structures node.0) (λ s. slice_get planes node.0 then λ plane. position_from (λ f. bytes_eq f.name name) 0 s.fields then λ i. slice_get s.fields i then λ f. slice_get plane.fields i then λ spot. Some (place f.ty (begin_at spot))) goal)

  -- what is read at places that are counted from a bit
  abbrev from_bit : ℕ → Place → Option Y
  from_bit at p = read (place p.type (at + p.at))

  -- past the end nothing is read, however names lead on
  after-past : (at : ℕ) (p : Place) (names : List (List ℕ)) → end < at + p.at → (place_after program planes p names then from_bit at) ≡ None
  after-past at p [] lt = past (place p.type (at + p.at)) lt
  after-past at p (name ∷ names) lt =
      then-then (itself p.type) (λ node. field_named program planes node name then λ next. place_after program planes (place next.type (p.at + next.at)) names) (from_bit at)
      ∙ then-none (itself p.type) _ (λ node.
      then-then (field_named program planes node name) (λ next. place_after program planes (place next.type (p.at + next.at)) names) (from_bit at)
      ∙ then-none (field_named program planes node name) _ (λ next. after-past at (place next.type (p.at + next.at)) names (omega (arith, lt))))

  joined : (b : Bool) (at k : ℕ) (type : Ty) (names : List (List ℕ)) (x : Option Y) → nat_le (at + k) end ≡ b → x ≡ (place_after program planes (place type k) names then from_bit at)
      → cond b x None ≡ (place_after program planes (place type k) names then from_bit at)
  joined true at k type names x e same = same
  joined false at k type names x e same = sym (after-past at (place type k) names (leb-false (at + k) end e))

  on-read : (at k : ℕ) (type : Ty) (names : List (List ℕ)) → (walk_on program planes end (place type (at + k)) names then read) ≡ (place_after program planes (place type k) names then from_bit at)
  on-read at k type [] = refl
  on-read at k type (name ∷ names) =
      then-then (itself type) (λ node. step_to program planes end node (at + k) name then λ next. walk_on program planes end next names) read
      ∙ then-same (itself type) _ _ (λ node.
      then-then (step_to program planes end node (at + k) name) (λ next. walk_on program planes end next names) read
      ∙ step-named node (at + k) name (λ next. walk_on program planes end next names then read)
      ∙ then-same (field_named program planes node name) _ _ (λ next.
      let assoc : at + k + next.at ≡ at + (k + next.at) = omega arith in
      ap (λ j. cond (nat_le j end) (walk_on program planes end (place next.type j) names then read) None) assoc
      ∙ joined (nat_le (at + (k + next.at)) end) at (k + next.at) next.type names _ refl (on-read at (k + next.at) next.type names))
      ∙ sym (then-then (field_named program planes node name) (λ next. place_after program planes (place next.type (k + next.at)) names) (from_bit at)))
      ∙ sym (then-then (itself type) (λ node. field_named program planes node name then λ next. place_after program planes (place next.type (k + next.at)) names) (from_bit at))

  -- a path reads at the place to which it leads, which is counted from the begin of its structure
  pub path-read : (node : TypeId) (at : ℕ) (names : List (List ℕ)) → (walk_to program planes end (record { node = node; at = at }) names then read) ≡ (place_named program planes node names then from_bit at)
  path-read node at [] = refl
  path-read node at (name ∷ names) =
      then-then (step_to program planes end node at name) (λ p. walk_on program planes end p names) read
      ∙ step-named node at name (λ p. walk_on program planes end p names then read)
      ∙ then-same (field_named program planes node name) _ _ (λ p. joined (nat_le (at + p.at) end) at p.at p.type names _ refl (on-read at p.at p.type names))
      ∙ sym (then-then (field_named program planes node name) (λ p. place_after program planes p names) (from_bit at))
