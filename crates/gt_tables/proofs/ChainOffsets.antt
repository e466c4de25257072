-- Where the places of fields lead to.
use Rattle.std.proofs.Common.{◌≡◌, ◌∙◌, ℕ, zero, suc, ◌+◌, ◌-◌, ◌*◌, ◌≤◌, Bool, true, false, Option, Some, None, List, [], ◌∷◌, length, drop, take, get_or, refl, ap, sym, subst, inl, inr, arith}
use Rattle.std.specs.Prelude.{All, Contains, find, slice_get}
use Rattle.std.specs.Option.{option_map}
use Rattle.std.specs.Prelude.{◌==◌}
use Rattle.std.proofs.lemmas.Bool.{cases_lt}
use Rattle.std.proofs.lemmas.Bool.Decides.{nat_tests}
use Rattle.std.proofs.lemmas.List.{take_all}
use Rattle.std.proofs.lemmas.List.Elements.{All-head, All-tail, All-contains}
use Rattle.std.proofs.lemmas.List.Folds.{find_at}
use Rattle.std.specs.List.{position_or_len}
use Rattle.std.proofs.lemmas.Option.{slice_get-map, slice_get_within, get_or_from_slice_get, same_Some}
use Rattle.gt_types.specs.declared.expressions.Expr.{Expr}
use Rattle.gt_types.specs.declared.types.TypeId.{TypeId}
use Rattle.gt_types.specs.declared.types.Ty.{Ty}
use Rattle.gt_types.specs.declared.types.Ty.TheVariants as ty
use Rattle.gt_types.specs.declared.program.Chain.{Chain}
use Rattle.gt_types.specs.declared.program.Field.{Field}
use Rattle.gt_types.specs.declared.program.Structure.{Structure}
use Rattle.gt_types.specs.declared.program.Program.{Program}
use Rattle.gt_types.specs.Contains.{HasStructure}
use Rattle.gt_types.specs.Paths.{Leads, last_step, next_step, by_place, LeadsToOwnPointer}
use Rattle.gt_types.specs.Settled.{Settled}
use Rattle.gt_layout.specs.declared.planes.TheConstants.{MAX_SIZE}
use Rattle.gt_layout.specs.declared.planes.Plane.{Plane}
use Rattle.gt_layout.specs.declared.planes.FieldSpot.{FieldSpot}
use Rattle.gt_layout.specs.declared.planes.Layouts.{Layouts}
use Rattle.gt_layout.specs.declared.storages.Storage.{Storage}
use Rattle.gt_layout.specs.declared.storages.Storage.TheVariants.{Bytes, Bits}
use Rattle.gt_layout.specs.Storages.{extent_of, storage_of, storages_of}
use Rattle.gt_layout.specs.Places.{begin_at, end_at, end_of, ends, Lie, Overlap}
use Rattle.gt_layout.specs.Planes.{IsLaidOut}
use Rattle.gt_layout.specs.Excess.{IsWithin}
use Rattle.gt_tree.specs.Scopes.{◌then◌}
use Rattle.gt_tree.proofs.Exists.{follow-long}
use Rattle.gt_tree.proofs.Structures.{get-as_long}
use Rattle.gt_tree.proofs.Types.{extent-node}
use Rattle.gt_edges.specs.Notes.{placed, field_at, leads_on, offset_to}
use Rattle.gt_tables.specs.Chains.{field_type, field_offset, LeadsByPlace}

-- ---- a field lies inside its structure

overlap-long : (fields : List Storage) (spots : List FieldSpot) → Overlap fields spots → length fields ≡ length spots
overlap-long [] [] h = refl
overlap-long [] (s ∷ ss) h = absurd h
overlap-long (f ∷ fs) [] h = absurd h
overlap-long (f ∷ fs) (s ∷ ss) h = ap suc (overlap-long fs ss h.1)

pub lie-long : (u : Bool) (fields : List Storage) (spots : List FieldSpot) → Lie u fields spots → length fields ≡ length spots
lie-long true fields spots h = overlap-long fields spots h
lie-long false fields spots h = follow-long 0 fields spots h

pub spot-inside : (fields : List Storage) (spots : List FieldSpot) (end : ℕ) → length fields ≡ length spots → All (λ e. e ≤ end) (ends fields spots) → (i : ℕ) (f : Storage) → slice_get fields i ≡ Some f
    → (s : FieldSpot) × (slice_get spots i ≡ Some s) × (end_at f s ≤ end)
spot-inside [] spots end long all i f get = absurd (cc)
spot-inside (g ∷ fs) [] end long all i f get = absurd (omega arith)
spot-inside (g ∷ fs) (s ∷ ss) end long all zero f get =
    let same : g ≡ f = same_Some g f get in
    (s, refl, subst (λ x. end_at x s ≤ end) same (All-head (λ e. e ≤ end) (end_at g s) (ends fs ss) all))
spot-inside (g ∷ fs) (s ∷ ss) end long all (suc i) f get = spot-inside fs ss end (omega arith) (All-tail (λ e. e ≤ end) (end_at g s) (ends fs ss) all) i f get

pub end-after : (f : Storage) (begin : ℕ) → begin ≤ end_of f begin
end-after (Bytes e) begin = omega arith
end-after (Bits unit count) begin = omega arith

module _ (program : Program) (layouts : Layouts) (laid : IsLaidOut program layouts) (within : IsWithin program layouts) where
  abbrev planes : List Plane
  planes = layouts.structures

  -- a field of a structure, with its place
  record Lies (node : TypeId) (f : Field) (place : ℕ) : Type 0 where
    plane : Plane
    spot : FieldSpot
    got : slice_get planes node.0 ≡ Some plane
    at : slice_get plane.fields place ≡ Some spot
    inside : end_at (storage_of planes f.ty) spot ≤ 8 * plane.size

  lies : (node : TypeId) (s : Structure) (f : Field) (place : ℕ) → HasStructure program node s → slice_get s.fields place ≡ Some f → Lies node f place
  lies node s f place has get =
      let found = get-as_long planes program.structures node.0 s laid.structures.all has in
      let is = laid.structures.each node.0 s found.0 has found.1 in
      let here : slice_get (storages_of planes s.fields) place ≡ Some (storage_of planes f.ty) = slice_get-map (λ g. storage_of planes g.ty) s.fields place ∙ ap (option_map (λ g. storage_of planes g.ty)) get in
      let spot = spot-inside (storages_of planes s.fields) found.0.fields (8 * found.0.size) (lie-long s.is_union _ _ is.places) is.size.room.inside place (storage_of planes f.ty) here in
      record { plane = found.0; spot = spot.0; got = found.1; at = spot.1; inside = spot.2 }

  field-at : (node : TypeId) (s : Structure) (f : Field) (place : ℕ) → HasStructure program node s → slice_get s.fields place ≡ Some f → (l : Lies node f place)
      → field_at program planes node place ≡ Some (placed f.ty l.spot.offset)
  field-at node s f place has get l =
      ap (λ o. o then λ s. slice_get planes node.0 then λ plane. slice_get s.fields place then λ f. slice_get plane.fields place then λ spot. Some (placed f.ty spot.offset)) has
      ∙ ap (λ o. o then λ plane. slice_get s.fields place then λ f. slice_get plane.fields place then λ spot. Some (placed f.ty spot.offset)) l.got
      ∙ ap (λ o. o then λ f. slice_get l.plane.fields place then λ spot. Some (placed f.ty spot.offset)) get
      ∙ ap (λ o. o then λ spot. Some (placed f.ty spot.offset)) l.at

  no-desc : (node : TypeId) (desc : Option Expr) (places : List ℕ) → offset_to program planes (ty.Node node desc) places ≡ offset_to program planes (ty.Node node None) places
  no-desc node desc [] = refl
  no-desc node desc (place ∷ places) = refl

  -- ---- where places lead to

  record Reaches (node : TypeId) (places : List ℕ) : Type 0 where
    plane : Plane
    offset : ℕ
    got : slice_get planes node.0 ≡ Some plane
    is : offset_to program planes (ty.Node node None) places ≡ Some offset
    inside : offset ≤ plane.size

  node-end : (node : TypeId) (desc : Option Expr) (plane : Plane) (s : FieldSpot) → slice_get planes node.0 ≡ Some plane → end_at (storage_of planes (ty.Node node desc)) s ≡ begin_at s + 8 * plane.size
  node-end node desc plane s got =
      ap (λ e. begin_at s + 8 * e.size) (extent-node planes node desc ∙ ap Rattle.gt_layout.specs.Storages.extent_of_plane got)

  reaches : {node : TypeId} {places : List ℕ} {type : Ty} → Leads program by_place node places type → Reaches node places
  reaches (last_step {node} {x = place} {s} {f} has get may) =
      let l = lies node s f place has get in
      let after = end-after (storage_of planes f.ty) (begin_at l.spot) in
      record {
        plane = l.plane;
        offset = l.spot.offset + 0;
        got = l.got;
        is = ap (λ o. o then λ f. Some (f.offset + 0)) (field-at node s f place has get l);
        inside = omega (arith, after, l.inside);
      }
  reaches (next_step {node} {next} {x = place} {xs = places} {s} {f} {desc} has get may is leads) =
      let l = lies node s f place has get in
      let r = reaches leads in
      let end : end_at (storage_of planes f.ty) l.spot ≡ begin_at l.spot + 8 * r.plane.size = ap (λ t. end_at (storage_of planes t) l.spot) is ∙ node-end next desc r.plane l.spot r.got in
      record {
        plane = l.plane;
        offset = l.spot.offset + r.offset;
        got = l.got;
        is =
            ap (λ o. o then λ f. offset_to program planes f.type places then λ rest. Some (f.offset + rest)) (field-at node s f place has get l)
            ∙ ap (λ t. offset_to program planes t places then λ rest. Some (l.spot.offset + rest)) is
            ∙ ap (λ o. o then λ rest. Some (l.spot.offset + rest)) (no-desc next desc places ∙ r.is);
        inside = omega (arith, end, l.inside, r.inside);
      }

  small : (node : TypeId) (s : Structure) (plane : Plane) → HasStructure program node s → slice_get planes node.0 ≡ Some plane → plane.size ≤ MAX_SIZE
  small node s plane has got = elim (cases_lt MAX_SIZE plane.size) [ inl large ↦ absurd (within.structures node.0 (s, plane, has, got, inl large)) | inr le ↦ le ]

  there : {node : TypeId} {places : List ℕ} {type : Ty} → Leads program by_place node places type → (s : Structure) × HasStructure program node s
  there (last_step {s = s} has get may) = (s, has)
  there (next_step {s = s} has get may is leads) = (s, has)

  pub offset-small : (node : TypeId) (places : List ℕ) (n : ℕ) → LeadsByPlace program node places → offset_to program planes (ty.Node node None) places ≡ Some n → n ≤ MAX_SIZE
  offset-small node places n leads is =
      let r = reaches leads.1 in
      let s = there leads.1 in
      let same : r.offset ≡ n = same_Some r.offset n (sym r.is ∙ is) in
      omega (arith, same, r.inside, small node s.0 r.plane s.1 r.got)

  -- ---- one place, and those after it

  type-parts : (place : ℕ) (o : Option Structure) (t : Ty) → (o then λ s. slice_get s.fields place then λ f. Some f.ty) ≡ Some t → (s : Structure) × (f : Field) × (o ≡ Some s) × (slice_get s.fields place ≡ Some f) × (f.ty ≡ t)
  type-parts place None t e = absurd (cc)
  type-parts place (Some s) t e = of-field (slice_get s.fields place) refl e
    where
      of-field : (o : Option Field) → slice_get s.fields place ≡ o → (o then λ f. Some f.ty) ≡ Some t → (u : Structure) × (f : Field) × (Some s ≡ Some u) × (slice_get u.fields place ≡ Some f) × (f.ty ≡ t)
      of-field None is e = absurd (cc)
      of-field (Some f) is e = (s, f, refl, is, same_Some f.ty t e)

  offset-parts : (place : ℕ) (o : Option Plane) (n : ℕ) → (o then λ p. slice_get p.fields place then λ s. Some s.offset) ≡ Some n → (p : Plane) × (s : FieldSpot) × (o ≡ Some p) × (slice_get p.fields place ≡ Some s) × (s.offset ≡ n)
  offset-parts place None n e = absurd (cc)
  offset-parts place (Some p) n e = of-spot (slice_get p.fields place) refl e
    where
      of-spot : (o : Option FieldSpot) → slice_get p.fields place ≡ o → (o then λ s. Some s.offset) ≡ Some n → (q : Plane) × (s : FieldSpot) × (Some p ≡ Some q) × (slice_get q.fields place ≡ Some s) × (s.offset ≡ n)
      of-spot None is e = absurd (cc)
      of-spot (Some s) is e = (p, s, refl, is, same_Some s.offset n e)

  module _ (node next : TypeId) (desc : Option Expr) (place : ℕ) (rest : List ℕ) (type : Ty) (offset : ℕ) (typed : field_type program node place ≡ Some type) (is : type ≡ ty.Node next desc) where
    pub one-place : field_offset planes node place ≡ Some offset → offset_to program planes (ty.Node node None) (place ∷ rest) ≡ (offset_to program planes (ty.Node next None) rest then λ r. Some (offset + r))
    one-place lies_at =
        let t = type-parts place (slice_get program.structures node.0) type typed in
        let o = offset-parts place (slice_get planes node.0) offset lies_at in
        ap (λ q. (q then λ s. slice_get planes node.0 then λ plane. slice_get s.fields place then λ f. slice_get plane.fields place then λ spot. Some (placed f.ty spot.offset)) then λ f. offset_to program planes f.type rest then λ r. Some (f.offset + r)) t.2
        ∙ ap (λ q. (q then λ plane. slice_get t.0.fields place then λ f. slice_get plane.fields place then λ spot. Some (placed f.ty spot.offset)) then λ f. offset_to program planes f.type rest then λ r. Some (f.offset + r)) o.2
        ∙ ap (λ q. (q then λ f. slice_get o.0.fields place then λ spot. Some (placed f.ty spot.offset)) then λ f. offset_to program planes f.type rest then λ r. Some (f.offset + r)) t.3
        ∙ ap (λ q. (q then λ spot. Some (placed t.1.ty spot.offset)) then λ f. offset_to program planes f.type rest then λ r. Some (f.offset + r)) o.3
        ∙ ap (λ x. offset_to program planes x rest then λ r. Some (o.1.offset + r)) (t.4 ∙ is)
        ∙ ap (λ n. offset_to program planes (ty.Node next desc) rest then λ r. Some (n + r)) o.4
        ∙ ap (λ q. q then λ r. Some (offset + r)) (no-desc next desc rest)

    rest-leads : {places : List ℕ} {last : Ty} → Leads program by_place node places last → places ≡ place ∷ rest → 1 ≤ length rest → LeadsByPlace program next rest
    rest-leads (last_step {x} has get may) e some =
        let none : [] ≡ rest = cc in
        let empty = ap length none in
        absurd (omega arith)
    rest-leads {last = last} (next_step {next = after} {x} {xs} {s} {f} has get may to leads) e some =
        let t = type-parts place (slice_get program.structures node.0) type typed in
        let at : x ≡ place = cc in
        let others : xs ≡ rest = cc in
        let same : s ≡ t.0 = same_Some s t.0 (sym has ∙ t.2) in
        let field : f ≡ t.1 = same_Some f t.1 (sym get ∙ ap (λ (u : Structure). slice_get u.fields x) same ∙ ap (slice_get t.0.fields) at ∙ t.3) in
        let both = sym to ∙ ap (λ (g : Field). g.ty) field ∙ t.4 ∙ is in
        let node_is : after ≡ next = cc in
        (last, subst (λ n. Leads program by_place n rest last) node_is (subst (λ ys. Leads program by_place after ys last) others leads))

    pub leads-on : LeadsByPlace program node (place ∷ rest) → 1 ≤ length rest → LeadsByPlace program next rest
    leads-on leads some = rest-leads leads.1 refl some

-- a list that is not empty is its first element and the rest
pub parts-of : (places : List ℕ) → 1 ≤ length places → places ≡ get_or places 0 0 ∷ take (length places - 1) (drop 1 places)
parts-of [] h = absurd (omega arith)
parts-of (place ∷ rest) h = ap (λ ps. place ∷ ps) (sym (take_all (length (place ∷ rest) - 1) rest (omega arith)))

-- ---- answers

module _ (program : Program) (layouts : Layouts) (laid : IsLaidOut program layouts) (within : IsWithin program layouts) (node next : TypeId) (desc : Option Expr) (places : List ℕ) (some : 1 ≤ length places) (type : Ty) (offset : ℕ)
    (typed : Some type ≡ field_type program node (get_or places 0 0)) (lies_at : Some offset ≡ field_offset layouts.structures node (get_or places 0 0)) (is : type ≡ ty.Node next desc)
    (leads : LeadsByPlace program node places) where
  abbrev rest : List ℕ
  rest = take (length places - 1) (drop 1 places)

  pub on-leads : (false ≡ (length rest == 0)) → LeadsByPlace program next rest
  on-leads more =
      leads-on program layouts laid within node next desc (get_or places 0 0) rest type offset (sym typed) is (subst (LeadsByPlace program node) (parts-of places some) leads) (grind (arith, nat_tests))

  pub on-offset : offset_to program layouts.structures (ty.Node node None) places ≡ (offset_to program layouts.structures (ty.Node next None) rest then λ r. Some (offset + r))
  on-offset =
      ap (offset_to program layouts.structures (ty.Node node None)) (parts-of places some)
      ∙ one-place program layouts laid within node next desc (get_or places 0 0) rest type offset (sym typed) is (sym lies_at)

  pub on-none : None ≡ offset_to program layouts.structures (ty.Node next None) rest → None ≡ offset_to program layouts.structures (ty.Node node None) places
  on-none none = sym (on-offset ∙ ap (λ o. o then λ r. Some (offset + r)) (sym none))

  pub on-some : (inside : ℕ) → Some inside ≡ offset_to program layouts.structures (ty.Node next None) rest → Some (offset + inside) ≡ offset_to program layouts.structures (ty.Node node None) places
  on-some inside found = sym (on-offset ∙ ap (λ o. o then λ r. Some (offset + r)) (sym found))

  pub on-small : (inside : ℕ) → Some inside ≡ offset_to program layouts.structures (ty.Node next None) rest → offset + inside ≤ MAX_SIZE
  on-small inside found = offset-small program layouts laid within node places (offset + inside) leads (sym (on-some inside found))

-- a chain that is found leads to a pointer
found-in : {X : Type 0} (p : X → Bool) (xs : List X) (x : X) → find p xs ≡ Some x → Contains xs x
found-in p xs x e =
    let got : slice_get xs (position_or_len p xs) ≡ Some x = sym (find_at p xs) ∙ e in
    (position_or_len p xs, slice_get_within xs (position_or_len p xs) x got, get_or_from_slice_get xs (position_or_len p xs) x x got)

pub chain-leads : (program : Program) → Settled program → (node : TypeId) (s : Structure) → HasStructure program node s → (c : Chain) → find (λ c. leads_on c.kind) s.chains ≡ Some c → LeadsByPlace program node c.path
chain-leads program settled node s has c found =
    let own = All-contains (λ c. LeadsToOwnPointer program node c.path) s.chains c (settled.structures node s has).chains (found-in (λ c. leads_on c.kind) s.chains c found) in
    (_, own.1)
