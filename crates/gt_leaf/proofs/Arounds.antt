-- The structures around a leaf: those on a path have those on its rest among them; and a leaf that is unread inside some is so inside fewer.
use Rattle.std.proofs.Common.{◌≡◌, ◌⊎◌, ℕ, Bool, true, false, List, [], ◌∷◌, refl, ap, sym, subst, ◌∙◌, Option, Some, None, inl, inr}
use Rattle.std.specs.Prelude.{Contains, slice_get}
use Rattle.gt_types.specs.declared.expressions.Base.{Base}
use Rattle.gt_types.specs.declared.expressions.Base.TheVariants.{Here, Outer, Outermost}
use Rattle.gt_types.specs.declared.expressions.Expr.{Expr}
use Rattle.gt_types.specs.declared.types.TypeId.{TypeId}
use Rattle.gt_types.specs.declared.types.Ty.{Ty, out-Ty}
use Rattle.gt_types.specs.declared.types.Ty.TheOpen as part
use Rattle.gt_types.specs.declared.types.Ty.TheVariants as ty
use Rattle.gt_types.specs.declared.program.Field.{Field}
use Rattle.gt_types.specs.declared.program.Root.{Root}
use Rattle.gt_types.specs.declared.program.Structure.{Structure}
use Rattle.gt_types.specs.declared.program.Program.{Program}
use Rattle.gt_types.specs.Contains.{HasStructure}
use Rattle.gt_layout.specs.declared.planes.Plane.{Plane}
use Rattle.gt_layout.specs.declared.planes.FieldSpot.{FieldSpot}
use Rattle.gt_tree.specs.Trees.{Trees}
use Rattle.gt_tree.specs.Scopes.{◌then◌}
use Rattle.gt_tree.proofs.FixedValues.{in-array, in-tail}
use Rattle.gt_value.specs.declared.places.Holder.{Holder}
use Rattle.gt_value.specs.declared.places.Holder.TheVariants as lies_in
use Rattle.gt_value.specs.Places.{Part, StaticPartLies}
use Rattle.gt_starts.specs.Ways.{hidden, way_to, EndsIn, LeadsAlong}
use Rattle.gt_leaf.specs.Unread.{Enclosing, Around, none_around, outermost_in, with_enclosing, elem_of, part_at, root_at, with_structure, with_itself, structures_from, structures_on, structures_in_statics, StandsAround, HasPath, number_name, IsReadRoot, IsUnread}
use Rattle.gt_leaf.proofs.Members.{first, later, first-or-later}

-- what stands around a part stands around a leaf, or the leaf is hidden in a union without an active member
pub record Covers (around : Around) (active : Bool) (inner : Around) : Type 0 where
  pub each : (base : Base) (outer : Enclosing) → StandsAround inner base outer → (active ≡ false) ⊎ StandsAround around base outer

-- those around a leaf may stand around it
pub covers-same : (around inner : Around) (active : Bool) → inner ≡ around → Covers around active inner
covers-same around inner active e = record { each = λ base b c. inr (subst (λ (a : Around). StandsAround a base b) e c) }

-- anything may stand around a leaf in a union without an active member
pub covers-all : (around inner : Around) (active : Bool) → active ≡ false → Covers around active inner
covers-all around inner active e = record { each = λ base b c. inl e }

-- some path that ends in the name of the number at a place of a structure may lead to it from a structure around it
abbrev pub LeadsInside : Program → Around → TypeId → ℕ → Type 0
LeadsInside program around node i =
    (last : List ℕ) × (number_name program node i ≡ Some last) × (base : Base) × (outer : Enclosing) × StandsAround around base outer × (names : List (List ℕ)) × HasPath program base outer.0 names × LeadsAlong outer.1 last names × EndsIn last names

-- no path does that leads to a leaf that lies in this
abbrev pub IsUnreadInside : Program → Around → Holder → Type 0
IsUnreadInside program around lies_in.Element = Unit {0}
IsUnreadInside program around (lies_in.Root i) = ¬ IsReadRoot program i
IsUnreadInside program around (lies_in.Field node i) = ¬ LeadsInside program around node i

-- so it is with a leaf that is unread inside more structures
pub unread-inside : (program : Program) (h : Holder) (around inner : Around) (active : Bool) → Covers around active inner → IsUnread program around active h → IsUnreadInside program inner h
unread-inside program lies_in.Element around inner active covers unread = unread
unread-inside program (lies_in.Root i) around inner active covers unread = unread
unread-inside program (lies_in.Field node i) around inner true covers unread = λ (last, named, base, outer, stands, names, has, leads, ends). elim (covers.each base outer stands) [
  | inl e ↦ absurd (cc)
  | inr c ↦ unread (last, named, (base, outer, c, (names, has, leads)))
]
unread-inside program (lies_in.Field node i) around inner false covers unread = λ (last, named, base, outer, stands, names, has, leads, ends). unread (last, named, (base, (outer.0, hidden []), refl, (names, has, (names, refl, ends))))

-- ---- more structures around a part

-- what stands around a part still does with one more structure inside
pub stands-within : (around : Around) (inner : Enclosing) (base : Base) (outer : Enclosing) → StandsAround around base outer → StandsAround (with_enclosing around inner) base outer
stands-within around inner Here outer c = later inner outer around.structures c
stands-within around inner Outer outer c = later inner outer around.structures c
stands-within around inner Outermost outer e = ap (λ o. Some (outermost_in o inner)) e

-- and so does this structure itself, for paths from `%0` where it is the outermost one
pub stands-itself : (top : Option Enclosing) (outer : Enclosing) (base : Base) → (base ≡ Outermost → top ≡ None) → StandsAround (with_enclosing (none_around top) outer) base outer
stands-itself top outer Here begins = first outer []
stands-itself top outer Outer begins = first outer []
stands-itself top outer Outermost begins = ap (λ o. Some (outermost_in o outer)) (begins refl)

-- more structures are around one part than around another, and one is the outermost of both
record IsMore (few many : Around) : Type 0 where
  structures : (b : Enclosing) → Contains few.structures b → Contains many.structures b
  outermost : few.outermost ≡ many.outermost

more-stand : (few many : Around) → IsMore few many → (base : Base) (outer : Enclosing) → StandsAround few base outer → StandsAround many base outer
more-stand few many more Here outer c = more.structures outer c
more-stand few many more Outer outer c = more.structures outer c
more-stand few many more Outermost outer e = sym more.outermost ∙ e

-- the outermost structure around the parts of one
abbrev pub begun : Program → Option Enclosing → TypeId → List ℕ → Option Enclosing
begun program top node path = Some (outermost_in top (node, way_to program (Some node) path))

-- ---- the structures on a path

module _ (program : Program) where
  array-at : (type elem : Ty) (n i : ℕ) → out-Ty type ≡ part.Arr n elem → part_at program type i ≡ Some elem
  array-at (ty.Node node desc) elem n i e = absurd (in-array (ty.Node node desc) elem n refl e)
  array-at type elem n i e = ap elem_of e

  tail-at : (type elem : Ty) (length : Expr) (i : ℕ) → out-Ty type ≡ part.Tail length elem → part_at program type i ≡ Some elem
  tail-at (ty.Node node desc) elem length i e = absurd (in-tail (ty.Node node desc) elem length refl e)
  tail-at type elem length i e = ap elem_of e

  -- more structures around the value are more around its parts
  with-more : (type : Ty) (path : List ℕ) (few many : Around) → IsMore few many → IsMore (with_itself program few type path) (with_itself program many type path)
  with-more (ty.Node node desc) path few many more =
      let outer : Enclosing = (node, way_to program (Some node) path) in
      record {
        structures = λ b c. elim (first-or-later outer b few.structures c) [ inl is ↦ subst (Contains (outer ∷ many.structures)) is (first outer many.structures) | inr d ↦ later outer b many.structures (more.structures b d) ];
        outermost = ap (λ o. Some (outermost_in o outer)) more.outermost;
      }
  with-more type path few many more = record { structures = λ b c. c; outermost = more.outermost }

  from-more : (type : Option Ty) (path : List ℕ) (few many : Around) → IsMore few many → IsMore (structures_from program few type path) (structures_from program many type path)
  from-more None path few many more = more
  from-more (Some type) [] few many more = more
  from-more (Some type) (i ∷ path) few many more = from-more (part_at program type i) path (with_itself program few type (i ∷ path)) (with_itself program many type (i ∷ path)) (with-more type (i ∷ path) few many more)

  field-type : (node : TypeId) (desc : Option Expr) (s : Structure) (f : Field) (i : ℕ) → HasStructure program node s → slice_get s.fields i ≡ Some f → part_at program (ty.Node node desc) i ≡ Some f.ty
  field-type node desc s f i has get = ap (λ o. o then λ (x : Structure). slice_get x.fields i then λ (y : Field). Some y.ty) has ∙ ap (λ o. o then λ (y : Field). Some y.ty) get

  -- where no structure is around an array, none is around its elements
  array-alone : (type elem : Ty) (n : ℕ) (top : Option Enclosing) (path : List ℕ) → out-Ty type ≡ part.Arr n elem → with_itself program (none_around top) type path ≡ none_around top
  array-alone (ty.Node node desc) elem n top path e = absurd (in-array (ty.Node node desc) elem n refl e)
  array-alone type elem n top path e = refl

  tail-alone : (type elem : Ty) (length : Expr) (top : Option Enclosing) (path : List ℕ) → out-Ty type ≡ part.Tail length elem → with_itself program (none_around top) type path ≡ none_around top
  tail-alone (ty.Node node desc) elem length top path e = absurd (in-tail (ty.Node node desc) elem length refl e)
  tail-alone type elem length top path e = refl

  -- where a leaf may stand inside those on a path, it may inside those on the rest
  module _ {around : Around} {active : Bool} where
    -- those around the rest have the structure among them
    pub inside-covers : (inner : Around) (node : TypeId) (desc : Option Expr) (s : Structure) (f : Field) (i : ℕ) (path : List ℕ) → HasStructure program node s → slice_get s.fields i ≡ Some f
        → Covers around active (structures_from program inner (Some (ty.Node node desc)) (i ∷ path)) → Covers around active (structures_from program (with_structure program inner node (i ∷ path)) (Some f.ty) path)
    inside-covers inner node desc s f i path has get covers = subst (λ o. Covers around active (structures_from program (with_structure program inner node (i ∷ path)) o path)) (field-type node desc s f i has get) covers

    -- those around the rest alone, and the outermost one, are among them
    pub field-covers : (top : Option Enclosing) (node : TypeId) (desc : Option Expr) (s : Structure) (f : Field) (i : ℕ) (path : List ℕ) → HasStructure program node s → slice_get s.fields i ≡ Some f
        → Covers around active (structures_from program (none_around top) (Some (ty.Node node desc)) (i ∷ path))
        → Covers around active (structures_from program (none_around (begun program top node (i ∷ path))) (Some f.ty) path)
    field-covers top node desc s f i path has get covers =
        let inside = inside-covers (none_around top) node desc s f i path has get covers in
        let outer : Enclosing = (node, way_to program (Some node) (i ∷ path)) in
        let alone = none_around (begun program top node (i ∷ path)) in
        let within = with_structure program (none_around top) node (i ∷ path) in
        let more = from-more (Some f.ty) path alone within (record { structures = λ x d. later outer x [] d; outermost = refl }) in
        record { each = λ base b c. inside.each base b (more-stand (structures_from program alone (Some f.ty) path) (structures_from program within (Some f.ty) path) more base b c) }

    pub array-covers : (top : Option Enclosing) (type elem : Ty) (n i : ℕ) (path : List ℕ) → out-Ty type ≡ part.Arr n elem → Covers around active (structures_from program (none_around top) (Some type) (i ∷ path))
        → Covers around active (structures_from program (none_around top) (Some elem) path)
    array-covers top type elem n i path e covers =
        subst (λ xs. Covers around active (structures_from program xs (Some elem) path)) (array-alone type elem n top (i ∷ path) e)
        (subst (λ o. Covers around active (structures_from program (with_itself program (none_around top) type (i ∷ path)) o path)) (array-at type elem n i e) covers)

    pub tail-covers : (top : Option Enclosing) (type elem : Ty) (length : Expr) (i : ℕ) (path : List ℕ) → out-Ty type ≡ part.Tail length elem → Covers around active (structures_from program (none_around top) (Some type) (i ∷ path))
        → Covers around active (structures_from program (none_around top) (Some elem) path)
    tail-covers top type elem length i path e covers =
        subst (λ xs. Covers around active (structures_from program xs (Some elem) path)) (tail-alone type elem length top (i ∷ path) e)
        (subst (λ o. Covers around active (structures_from program (with_itself program (none_around top) type (i ∷ path)) o path)) (tail-at type elem length i e) covers)

  -- those on a path from a root are those in the static record
  pub static-covers : {planes : List Plane} {spots : List FieldSpot} {statics : Trees} {path : List ℕ} {p : Part} (active : Bool) (l : StaticPartLies program planes spots statics path p)
      → Covers (structures_in_statics program path) active (structures_on program (Some l.r.ty) l.rest)
  static-covers {path} active l =
      let root_is : root_at program l.i ≡ Some l.r.ty = ap (λ o. o then λ (r : Root). Some r.ty) l.root in
      covers-same (structures_in_statics program path) (structures_on program (Some l.r.ty) l.rest) active (sym (ap (structures_in_statics program) l.path_is ∙ ap (λ o. structures_on program o l.rest) root_is))
