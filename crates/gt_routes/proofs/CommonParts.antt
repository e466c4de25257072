-- Steps to the common structure of a union.
use Rattle.std.proofs.Common.{◌≡◌, ℕ, Bool, true, false, IsTrue, cond, ℤ, List, [], ◌∷◌, ◌++◌, refl, ap, sym, subst, ◌∙◌, arith, Option, Some, None, ◌⊎◌, inl, inr, append_assoc}
use Rattle.std.specs.Prelude.{◌==◌, ◌≢◌, slice_get}
use Rattle.std.specs.List.{position_from}
use Rattle.gt_types.specs.declared.expressions.Expr.{Expr}
use Rattle.gt_types.specs.declared.types.TypeId.{TypeId}
use Rattle.gt_types.specs.declared.types.Ty.{Ty}
use Rattle.gt_types.specs.declared.types.Ty.TheVariants as ty
use Rattle.gt_types.specs.declared.program.Active.{Active}
use Rattle.gt_types.specs.declared.program.Active.TheVariants.{Always, Tag, Other, Never}
use Rattle.gt_types.specs.declared.program.Field.{Field}
use Rattle.gt_types.specs.declared.program.Structure.{Structure}
use Rattle.gt_types.specs.declared.program.Program.{Program}
use Rattle.gt_types.specs.Contains.{HasStructure}
use Rattle.gt_types.specs.Settled.{Settled}
use Rattle.gt_types.specs.Unions.{BeginsWith, IsCommon, may_be_active}
use Rattle.gt_layout.specs.declared.planes.Plane.{Plane}
use Rattle.gt_script.specs.declared.command.Hop.TheVariants.{Name}
use Rattle.gt_tree.specs.Trees.{Tree, Alt, part_at}
use Rattle.gt_tree.specs.Scopes.{Scope, inside, typed, is_node}
use Rattle.gt_tree.specs.Fits.{is_tag, is_default, active_member, first_place}
use Rattle.gt_tree.proofs.Commons.{one-common}
use Rattle.gt_tree.proofs.PathBegins.{same-number}
use Rattle.gt_tree.proofs.PathBits.{some-same, position-get}
use Rattle.gt_tree.proofs.PathParts.{All-at}
use Rattle.gt_tree.proofs.WriteReads.{node-type}
use Rattle.gt_value.specs.declared.cursors.Cursor.{Cursor}
use Rattle.gt_value.specs.declared.places.Holder.{Holder}
use Rattle.gt_value.specs.declared.places.Holder.TheVariants as lies_in
use Rattle.gt_fields.specs.Places.{bind, place_in}
use Rattle.std.specs.Str.{bytes_eq}
use Rattle.gt_value.specs.Places.{Part, PartLies}
use Rattle.gt_value.specs.Cursors.{Frame, IsAt, IsNoPart, member_of}
use Rattle.gt_value.proofs.CursorCommons.{bare-field}
use Rattle.gt_value.proofs.CursorPaths.{lies-on, lies-after}
use Rattle.gt_value.proofs.StandingParts.{union-stands}
use Rattle.gt_next.specs.Spots.{typed_part, type_of_part}
use Rattle.gt_next.specs.Paths.{StepsIn, RefusesIn, IsCommonMember, place_of}
use Rattle.gt_next.specs.declared.answer.Why.TheVariants.{Inactive}
use Rattle.gt_routes.specs.declared.steps.Step.{Step}
use Rattle.gt_routes.specs.Steps.{IsIn, StandsAt, StepsTo, MadeOf, IsInactive, IsBegin, LeadsFrom, RefusedFrom, along}
use Rattle.gt_routes.proofs.TypedParts.{IsNamedIn, typed-after, typed-one, one-typed, field-type, whole-is}
use Rattle.gt_routes.proofs.Fields.{part-type, node-there, place-is}
use Rattle.gt_routes.proofs.Members.{alt-of, member-there}

-- ---- the active member may be active

tag-may : (value : Option ℤ) (active : Active) → is_tag value active ≡ true → IsTrue (may_be_active active)
tag-may value (Tag tag) e = refl
tag-may value Other e = refl
tag-may None active e = absurd (cc)
tag-may (Some v) Always e = absurd (cc)
tag-may (Some v) Never e = absurd (cc)

default-may : (active : Active) → is_default active ≡ true → IsTrue (may_be_active active)
default-may Other e = refl
default-may active e = absurd (cc)

one-of-both : (a b : Option ℕ) (place : ℕ) → first_place a b ≡ Some place → (a ≡ Some place) ⊎ (b ≡ Some place)
one-of-both None b place e = inr e
one-of-both (Some i) b place e = inl e

-- what is at the place that is found, and passes
found-at : {X : Type 0} (p : X → Bool) (xs : List X) (place : ℕ) → position_from p 0 xs ≡ Some place → (x : X) × (slice_get xs place ≡ Some x) × (p x ≡ true)
found-at p xs place e =
    let found = position-get p xs 0 place e in
    let there : place ≡ found.0 = omega (arith, found.2) in
    (found.1, subst (λ i. slice_get xs i ≡ Some found.1) (sym there) found.3, found.4)

active-field : (value : Option ℤ) (fields : List Field) (place : ℕ) → active_member value fields ≡ Some place → (f : Field) × (slice_get fields place ≡ Some f) × IsTrue (may_be_active f.active)
active-field value fields place e = go (one-of-both (position_from (λ g. is_tag value g.active) 0 fields) (position_from (λ g. is_default g.active) 0 fields) place e)
  where
    go : (position_from (λ g. is_tag value g.active) 0 fields ≡ Some place) ⊎ (position_from (λ g. is_default g.active) 0 fields ≡ Some place) → (f : Field) × (slice_get fields place ≡ Some f) × IsTrue (may_be_active f.active)
    go (inl tagged) = let found = found-at (λ (g : Field). is_tag value g.active) fields place tagged in (found.0, found.1, tag-may value found.0.active found.2)
    go (inr default) = let found = found-at (λ (g : Field). is_default g.active) fields place default in (found.0, found.1, default-may found.0.active found.2)

-- ---- what lies in a common structure that is kept

record KeptIn (program : Program) (node : TypeId) (q : Part) : Type 0 where
  common : TypeId
  s : Structure
  has : HasStructure program node s
  is : IsCommon program s common
  type_is : q.type ≡ ty.Node common None

module _ {program : Program} {planes : List Plane} where
  kept-in : {scope : Scope} {holder : Holder} {active : Bool} {at : ℕ} {type : Ty} {value : Tree} {path : List ℕ} {q : Part} → PartLies program planes scope holder active at type value path q
      → (node : TypeId) (desc : Option Expr) (i : ℕ) (tree : Tree) → type ≡ ty.Node node desc → value ≡ Alt None tree → path ≡ i ∷ [] → KeptIn program node q
  kept-in PartLies.whole node desc i tree t v p = absurd (cc)
  kept-in (PartLies.field has struct laid got spot there lies) node desc i tree t v p = absurd (cc)
  kept-in (PartLies.member has union got lies) node desc i tree t v p = absurd (cc)
  kept-in {q} (PartLies.common {scope} {holder} {at} {node = n} {common} {s} {tree = w} {path} has c lies) node desc i tree t v p =
      let nodes : n ≡ node = cc in
      let paths : path ≡ [] = cc in
      let here = whole-is (subst (λ x. PartLies program planes (inside scope n (Alt None w)) holder false at (ty.Node common None) w x q) paths lies) in
      record { common = common; s = s; has = subst (λ x. HasStructure program x s) nodes has; is = c; type_is = sym here.0 }
  kept-in (PartLies.array out there lies) node desc i tree t v p = absurd (cc)
  kept-in (PartLies.tail out there lies) node desc i tree t v p = absurd (cc)

-- ---- at a union

-- the value of a union, and that its active member may be active
record IsAlt (s : Structure) (tree : Tree) : Type 0 where
  member : Option ℕ
  inner : Tree
  is : tree ≡ Alt member inner
  active : (place : ℕ) → member ≡ Some place → (f : Field) × (slice_get s.fields place ≡ Some f) × IsTrue (may_be_active f.active)

module _ (at : Frame) (value : Part) (path : List ℕ) (c : Cursor) (here : StandsAt at value path c) (settled : Settled at.program) (node : TypeId) (desc : Option Expr) (type : c.ty.now ≡ ty.Node node desc)
    (s : Structure) (has : HasStructure at.program node s) (union : s.is_union ≡ true) where
  is-alt : IsAlt s here.here.p.tree
  is-alt =
      let has_read = subst (λ program. HasStructure program node s) (sym here.here.read.program) has in
      let there = node-there at value path c here settled node desc type in
      let parts = union-stands c.source c.site.around node desc c.at s has_read union here.here.p.tree there.0 in
      record { member = parts.member; inner = parts.part; is = parts.is; active = λ place e. active-field _ s.fields place (parts.active ∙ e) }

  same : ty.Node node desc ≡ here.here.p.type
  same = part-type at value path c here settled node desc type

  module _ (name : List ℕ) (place : ℕ) (found : place_of s name ≡ Some place) (inactive : member_of here.here.p.tree ≢ Some place) where
    refuses : ((common : TypeId) → ¬ IsCommonMember at.program s place common) → RefusesIn at.program (typed here.here.p.type here.here.p.tree) (Name name) Inactive
    refuses none =
        let alt = is-alt in
        let ne : alt.member ≢ Some place = λ e. inactive (ap member_of alt.is ∙ e) in
        let of_tree = subst (λ v. RefusesIn at.program (typed (ty.Node node desc) v) (Name name) Inactive) (sym alt.is) (RefusesIn.inactive has found ne none) in
        subst (λ t. RefusesIn at.program (typed t here.here.p.tree) (Name name) Inactive) same of_tree

    -- the union has no common structure
    pub refused-none : ((common : TypeId) → ¬ IsCommon at.program s common) → RefusesIn at.program (typed here.here.p.type here.here.p.tree) (Name name) Inactive
    refused-none none = refuses (λ common m. none common m.4)

    module _ (common : TypeId) (c_is : IsCommon at.program s common) (f : Field) (got : slice_get s.fields place ≡ Some f) where
      -- the member is of another type
      pub refused-other : is_node common f.ty ≡ false → RefusesIn at.program (typed here.here.p.type here.here.p.tree) (Name name) Inactive
      refused-other other = refuses (λ node_there m.
          let commons : common ≡ node_there = one-common at.program node s common node_there settled has c_is m.4 in
          let fields : m.0 ≡ f = some-same (slice_get s.fields place) m.0 f m.2 got in
          let types : f.ty ≡ ty.Node node_there m.1 = ap (λ (x : Field). x.ty) (sym fields) ∙ m.3 in
          let is : is_node common f.ty ≡ true = ap (is_node common) types ∙ ap (λ (n : TypeId). common.0 == n.0) (sym commons) ∙ same-number common.0 in
          absurd (cc))

      member-of : is_node common f.ty ≡ true → IsCommonMember at.program s place common
      member-of e = let type_there = node-type common f.ty e in (f, type_there.0, got, type_there.1, c_is)

      -- no member is active
      pub kept-leads : is_node common f.ty ≡ true → member_of here.here.p.tree ≡ None → (next : Cursor) → IsAt at next value (path ++ place ∷ []) → StepsTo at value path c (Name name) next (place ∷ []) here
      unfolding member-of
      kept-leads e none next there =
          let p = here.here.p in
          let alt = is-alt in
          let bare : p.tree ≡ Alt None alt.inner = alt.is ∙ ap (λ m. Alt m alt.inner) (sym (ap member_of alt.is) ∙ none) in
          let lies = lies-after settled here.here.lies (place ∷ []) there.p there.lies in
          let kept = kept-in lies node desc place alt.inner (sym same) bare refl in
          let structures : kept.s ≡ s = some-same (slice_get at.program.structures node.0) kept.s s kept.has has in
          let commons : kept.common ≡ common = one-common at.program node s kept.common common settled has (subst (λ x. IsCommon at.program x kept.common) structures kept.is) c_is in
          let m = member-of e in
          let field : f.ty ≡ ty.Node common None = bare-field at.program node s f place common m.1 settled has got m.3 c_is.plain.0 c_is.plain.1 c_is.plain.2 in
          let types : f.ty ≡ there.p.type = field ∙ ap (λ n. ty.Node n None) (sym commons) ∙ sym kept.type_is in
          let of_type : IsNamedIn at.program (ty.Node node desc) (Alt None alt.inner) place there.p.type = field-type at.program node desc s place f has got ∙ ap Some types in
          let of_tree = subst (λ v. IsNamedIn at.program (ty.Node node desc) v place there.p.type) (sym bare) of_type in
          let named = subst (λ t. IsNamedIn at.program t p.tree place there.p.type) same of_tree in
          let steps = subst (λ v. StepsIn at.program (typed (ty.Node node desc) v) (Name name) (place ∷ [])) (sym bare) (StepsIn.to_kept has found m) in
          record {
            there = record { here = there; known = typed-after at.program value.type value.tree path (place ∷ []) (typed p.type p.tree) here.known ∙ one-typed lies named };
            steps = subst (λ t. StepsIn at.program (typed t p.tree) (Name name) (place ∷ [])) same steps;
          }

  -- where another member is active
  pub record IsMember (member : ℕ) (next : Cursor) : Type 0 where
    pub f : Field
    pub got : slice_get s.fields member ≡ Some f
    pub may : IsTrue (may_be_active f.active)
    pub inner : Tree
    pub is : here.here.p.tree ≡ Alt (Some member) inner
    pub there : StandsAt at value (path ++ member ∷ []) next
    pub type_is : there.here.p.type ≡ f.ty
    pub tree_is : there.here.p.tree ≡ inner

  module _ (member : ℕ) (active : member_of here.here.p.tree ≡ Some member) (next : Cursor) (there : IsAt at next value (path ++ member ∷ [])) where
    pub is-member : IsMember member next
    is-member =
        let p = here.here.p in
        let alt = is-alt in
        let field = alt.active member (sym (ap member_of alt.is) ∙ active) in
        let whole = alt-of p.tree member active in
        let stands = member-there at value path c here settled node desc type next member active there in
        let q = stands.here.p in
        let known = sym (typed-after at.program value.type value.tree path (member ∷ []) (typed p.type p.tree) here.known) ∙ stands.known in
        let of_tree = subst (λ v. typed_part at.program p.type v (member ∷ []) ≡ Some (typed q.type q.tree)) whole.1 known in
        let of_type = subst (λ t. typed_part at.program t (Alt (Some member) whole.0) (member ∷ []) ≡ Some (typed q.type q.tree)) (sym same) of_tree in
        let one = typed-one (type_of_part at.program (ty.Node node desc) member) (part_at (Alt (Some member) whole.0) (member ∷ [])) field.0.ty (typed q.type q.tree) (field-type at.program node desc s member field.0 has field.1) of_type in
        let inner = ap (λ b. cond b (Some whole.0) None) (sym (same-number member)) ∙ one.1 in
        let inner_is : whole.0 ≡ q.tree = cc in
        record { f = field.0; got = field.1; may = field.2; inner = whole.0; is = whole.1; there = stands; type_is = one.0; tree_is = sym inner_is }

    -- the active member begins with the common structure
    pub member-begins : (common : TypeId) → IsCommon at.program s common → BeginsWith at.program next.ty.now common
    member-begins common c_is =
        let m = is-member in
        let begins = All-at (λ x. IsTrue (may_be_active x.active) → BeginsWith at.program x.ty common) s.fields member m.f m.got c_is.begun m.may in
        let types : m.f.ty ≡ next.ty.now = sym m.type_is ∙ sym m.there.here.is.type_is in
        subst (λ t. BeginsWith at.program t common) types begins

    pub common-leads : (name : List ℕ) (place : ℕ) → place_of s name ≡ Some place → member_of here.here.p.tree ≢ Some place → (common : TypeId) → IsCommon at.program s common → (f : Field) → slice_get s.fields place ≡ Some f
        → is_node common f.ty ≡ true → (to : Step) → ((there : StandsAt at value (path ++ member ∷ []) next) → IsBegin at value (path ++ member ∷ []) next common member to there) → StepsTo at value path c (Name name) to.at (along to) here
    common-leads name place found inactive common c_is f got e to begin =
        let m = is-member in
        let b = begin m.there in
        let type_there = node-type common f.ty e in
        let ne : place ≢ member = λ same_place. inactive (active ∙ ap Some (sym same_place)) in
        let of_tree = subst (λ v. Rattle.gt_next.specs.Paths.way_to at.program common (Some m.there.here.p.type) v ≡ Some b.way) m.tree_is b.found in
        let way = subst (λ t. Rattle.gt_next.specs.Paths.way_to at.program common (Some t) m.inner ≡ Some b.way) m.type_is of_tree in
        let steps : StepsIn at.program (typed (ty.Node node desc) (Alt (Some member) m.inner)) (Name name) (member ∷ b.way) = StepsIn.to_common has found ne (f, type_there.0, got, type_there.1, c_is) m.got way in
        let steps_tree = subst (λ v. StepsIn at.program (typed (ty.Node node desc) v) (Name name) (member ∷ b.way)) (sym m.is) steps in
        let steps_type = subst (λ t. StepsIn at.program (typed t here.here.p.tree) (Name name) (member ∷ b.way)) same steps_tree in
        record {
          there = subst (λ xs. StandsAt at value xs to.at) (append_assoc path (member ∷ []) b.way ∙ ap (λ xs. path ++ xs) (sym b.places_are)) b.there;
          steps = subst (λ xs. StepsIn at.program (typed here.here.p.type here.here.p.tree) (Name name) xs) (sym b.places_are) steps_type;
        }

-- ---- wherever a cursor stands

not-active : (program : Program) (node : TypeId) (s : Structure) (name : List ℕ) (place : ℕ) (tree : Tree) → HasStructure program node s → place_of s name ≡ Some place → IsInactive program tree node name → member_of tree ≢ Some place
not-active program node s name place tree has found i =
    let structures : i.s ≡ s = some-same (slice_get program.structures node.0) i.s s i.has has in
    let places : i.place ≡ place = some-same (place_of s name) i.place place (subst (λ x. place_of x name ≡ Some i.place) structures i.place_is) found in
    λ active. i.inactive (active ∙ ap Some (sym places))

module _ (program : Program) (settled : Settled program) (c : Cursor) (node : TypeId) (desc : Option Expr) (type : c.ty.now ≡ ty.Node node desc) (s : Structure) (has : HasStructure program node s) (union : s.is_union ≡ true)
    (name : List ℕ) (place : ℕ) (found : place_of s name ≡ Some place) where
  has-at : (at : Frame) → at.program ≡ program → HasStructure at.program node s
  has-at at p = subst (λ x. HasStructure x node s) (sym p) has

  settled-at : (at : Frame) → at.program ≡ program → Settled at.program
  settled-at at p = subst Settled (sym p) settled

  module _ (inactive : (at : Frame) (value : Part) (path : List ℕ) (here : StandsAt at value path c) → at.program ≡ program → IsInactive at.program here.here.p.tree node name) where
    ne-at : (at : Frame) (value : Part) (path : List ℕ) (here : StandsAt at value path c) → at.program ≡ program → member_of here.here.p.tree ≢ Some place
    ne-at at value path here p = not-active at.program node s name place here.here.p.tree (has-at at p) found (inactive at value path here p)

    pub none-from : ((common : TypeId) → ¬ IsCommon program s common) → RefusedFrom program c (Name name) Inactive
    none-from none at value path here p =
        refused-none at value path c here (settled-at at p) node desc type s (has-at at p) union name place found (ne-at at value path here p) (λ common is. none common (subst (λ x. IsCommon x s common) p is))

    module _ (common : TypeId) (is : IsCommon program s common) (f : Field) (got : slice_get s.fields place ≡ Some f) where
      is-at : (at : Frame) → at.program ≡ program → IsCommon at.program s common
      is-at at p = subst (λ x. IsCommon x s common) (sym p) is

      pub other-from : is_node common f.ty ≡ false → RefusedFrom program c (Name name) Inactive
      other-from other at value path here p =
          refused-other at value path c here (settled-at at p) node desc type s (has-at at p) union name place found (ne-at at value path here p) common (is-at at p) f got other

      pub kept-from : is_node common f.ty ≡ true → ((at : Frame) (value : Part) (path : List ℕ) (here : StandsAt at value path c) → member_of here.here.p.tree ≡ None) → (next : Cursor)
          → ((at : Frame) (value : Part) (path : List ℕ) → IsAt at c value path → IsAt at next value (path ++ place ∷ [])) → (to : Step) → MadeOf to next (place ∷ []) → LeadsFrom program c (Name name) to
      kept-from e none next step to made at value path here p =
          let steps = kept-leads at value path c here (settled-at at p) node desc type s (has-at at p) union name place found (ne-at at value path here p) common (is-at at p) f got e (none at value path here) next (step at value path here.here) in
          subst (λ xs. StepsTo at value path c (Name name) to.at xs here) (sym made.places_are) (subst (λ x. StepsTo at value path c (Name name) x (place ∷ []) here) (sym made.at_is) steps)

      pub common-from : is_node common f.ty ≡ true → (member : ℕ) → ((at : Frame) (value : Part) (path : List ℕ) (here : StandsAt at value path c) → member_of here.here.p.tree ≡ Some member) → (next : Cursor)
          → ((at : Frame) (value : Part) (path : List ℕ) → IsAt at c value path → IsAt at next value (path ++ member ∷ [])) → (to : Step)
          → ((at : Frame) (value : Part) (path : List ℕ) (there : StandsAt at value path next) → at.program ≡ program → IsBegin at value path next common member to there) → LeadsFrom program c (Name name) to
      common-from e member active next step to begin at value path here p =
          common-leads at value path c here (settled-at at p) node desc type s (has-at at p) union member (active at value path here) next (step at value path here.here) name place found (ne-at at value path here p) common (is-at at p) f got e to
          (λ there. begin at value (path ++ member ∷ []) there p)

  -- the active member, which begins with the common structure
  module _ (stands : IsIn program c) (common : TypeId) (is : IsCommon program s common) (member : ℕ) (active : (at : Frame) (value : Part) (path : List ℕ) (here : StandsAt at value path c) → member_of here.here.p.tree ≡ Some member)
      (next : Cursor) (step : (at : Frame) (value : Part) (path : List ℕ) → IsAt at c value path → IsAt at next value (path ++ member ∷ [])) where
    pub member-in : IsIn program next
    member-in =
        let p = stands.program_is in
        record {
          at = stands.at;
          value = stands.value;
          path = stands.path ++ member ∷ [];
          program_is = p;
          stands = member-there stands.at stands.value stands.path c stands.stands (settled-at stands.at p) node desc type next member (active stands.at stands.value stands.path stands.stands) (step stands.at stands.value stands.path stands.stands.here);
        }

    pub member-begins-in : BeginsWith program next.ty.now common
    member-begins-in =
        let p = stands.program_is in
        subst (λ x. BeginsWith x next.ty.now common) p
        (member-begins stands.at stands.value stands.path c stands.stands (settled-at stands.at p) node desc type s (has-at stands.at p) union member (active stands.at stands.value stands.path stands.stands) next
        (step stands.at stands.value stands.path stands.stands.here) common (subst (λ x. IsCommon x s common) (sym p) is))

-- ---- what cannot be

-- a name that is found has a field
pub field-missing : (s : Structure) (name : List ℕ) (place : ℕ) → place_of s name ≡ Some place → slice_get s.fields place ≡ None → ⊥
field-missing s name place found none = let at = found-at (λ (f : Field). bytes_eq f.name name) s.fields place found in let got = at.1 in cc

-- a member that is not active has a place
pub place-missing : (program : Program) (node : TypeId) (name : List ℕ) (tree : Tree) → IsInactive program tree node name → bind (slice_get program.structures node.0) (place_in name) ≡ None → ⊥
place-missing program node name tree i none = let found = place-is program node i.s name None i.has (sym none) in let other = i.place_is in cc

module _ (at : Frame) (value : Part) (path : List ℕ) (c : Cursor) (here : StandsAt at value path c) (settled : Settled at.program) (node : TypeId) (desc : Option Expr) (type : c.ty.now ≡ ty.Node node desc)
    (s : Structure) (has : HasStructure at.program node s) (union : s.is_union ≡ true) where
  -- the common structure that is kept is a part
  pub kept-there : (place : ℕ) (common : TypeId) → IsCommon at.program s common → member_of here.here.p.tree ≡ None → IsNoPart at value path place → ⊥
  kept-there place common c_is none no_part =
      let p = here.here.p in
      let alt = is-alt at value path c here settled node desc type s has union in
      let bare : p.tree ≡ Alt None alt.inner = alt.is ∙ ap (λ m. Alt m alt.inner) (sym (ap member_of alt.is) ∙ none) in
      let types = part-type at value path c here settled node desc type in
      let q : Part = record { bit = p.bit; type = ty.Node common None; holder = p.holder; scope = inside p.scope node (Alt None alt.inner); active = false; tree = alt.inner } in
      let of_type = subst (λ t. PartLies at.program at.layouts.structures p.scope p.holder p.active p.bit t (Alt None alt.inner) (place ∷ []) q) types (PartLies.common has c_is PartLies.whole) in
      let of_tree = subst (λ v. PartLies at.program at.layouts.structures p.scope p.holder p.active p.bit p.type v (place ∷ []) q) (sym bare) of_type in
      (no_part []).lies q (lies-on here.here.lies (place ∷ []) q of_tree)

  -- so is the active member
  pub active-there : (member : ℕ) → member_of here.here.p.tree ≡ Some member → IsNoPart at value path member → ⊥
  active-there member active no_part =
      let p = here.here.p in
      let alt = is-alt at value path c here settled node desc type s has union in
      let field = alt.active member (sym (ap member_of alt.is) ∙ active) in
      let whole = alt-of p.tree member active in
      let types = part-type at value path c here settled node desc type in
      let q : Part = record { bit = p.bit; type = field.0.ty; holder = lies_in.Field node member; scope = inside p.scope node (Alt (Some member) whole.0); active = p.active; tree = whole.0 } in
      let of_type = subst (λ t. PartLies at.program at.layouts.structures p.scope p.holder p.active p.bit t (Alt (Some member) whole.0) (member ∷ []) q) types (PartLies.member has union field.1 PartLies.whole) in
      let of_tree = subst (λ v. PartLies at.program at.layouts.structures p.scope p.holder p.active p.bit p.type v (member ∷ []) q) (sym whole.1) of_type in
      (no_part []).lies q (lies-on here.here.lies (member ∷ []) q of_tree)
