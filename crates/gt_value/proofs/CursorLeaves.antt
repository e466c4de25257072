-- What a cursor answers of a leaf, of a union and of an array.
use Rattle.std.proofs.Common.{◌≡◌, ℕ, ◌+◌, ◌/◌, ◌%◌, ◌^◌, ◌<◌, Bool, true, false, List, [], ◌∷◌, length, length-drop, ap, sym, subst, ◌∙◌, refl, arith, Option, Some, None, inl, inr}
use Rattle.std.specs.Prelude.{pos, MatchOption}
use Rattle.gt_types.specs.declared.expressions.Expr.{Expr}
use Rattle.gt_types.specs.declared.types.TypeId.{TypeId}
use Rattle.gt_types.specs.declared.types.Ty.{Ty, out-Ty}
use Rattle.gt_types.specs.declared.types.Ty.TheOpen as part
use Rattle.gt_types.specs.declared.types.Ty.TheVariants as ty
use Rattle.gt_types.specs.declared.program.Structure.{Structure}
use Rattle.gt_types.specs.declared.types.Ty.TheVariants.{outs-Arr', outs-Tail'}
use Rattle.gt_types.specs.Shapes.{is_pointer}
use Rattle.gt_types.specs.Values.{value_of}
use Rattle.gt_types.specs.Contains.{HasStructure, itself}
use Rattle.gt_tree.specs.Trees.{Tree, Rec, Trees, is_word, part_at}
use Rattle.gt_tree.specs.Fits.{active_member}
use Rattle.gt_tree.specs.Reshapes.{LeadsToLeaf}
use Rattle.gt_space.specs.Range.{Range}
use Rattle.gt_tree.proofs.FixedParts.{is-number, is-bits, is-opaque, is-pointer, is-struct, is-union}
use Rattle.gt_value.specs.declared.cursors.Cursor.{Cursor}
use Rattle.gt_value.specs.declared.places.Place.{Place}
use Rattle.gt_value.specs.declared.sources.Around.{Around}
use Rattle.gt_value.specs.declared.sources.Source.{Source}
use Rattle.gt_value.specs.declared.places.LeafKind.{LeafKind}
use Rattle.gt_value.specs.declared.places.LeafKind.TheVariants.{Number, Pointer}
use Rattle.gt_types.specs.declared.program.Program.{Program}
use Rattle.gt_layout.specs.declared.planes.Layouts.{Layouts}
use Rattle.gt_value.specs.Bytes.{StandForStatics}
use Rattle.gt_value.specs.Places.{IsStaticPlaceOf, HasBits, Part, IsPlaceOfPart, IsContentOf, content_of, leaf_kind, length_there}
use Rattle.gt_value.specs.Finding.{length_read}
use Rattle.gt_value.specs.Reading.{Stands, path_worth, root_worth, worth_of, entered, bits_from}
use Rattle.gt_value.specs.Cursors.{Frame, frame, root_part, IsAt, IsAtRoot, IsSomewhere, member_of, count_of}
use Rattle.gt_value.proofs.CursorFollows.{Follows, FollowsOn}
use Rattle.gt_value.proofs.StandingParts.{array-stands, tail-stands, union-stands}
use Rattle.gt_value.proofs.FindingSteps.{node-has, no-word, part-there}
use Rattle.gt_value.proofs.FindingContents.{word-holds, leaf-placed}
use Rattle.gt_value.proofs.CursorSteps.{length-is}

abbrev pub is_row : Ty → Bool
is_row (ty.Arr' n shape elem) = true
is_row (ty.Tail' count shape elem) = true
is_row type = false

-- no union and no array
abbrev IsPlain : Tree → Type 0
IsPlain value = (member_of value ≡ None) × (count_of value ≡ 0)

plain-as : (value tree : Tree) → value ≡ tree → IsPlain tree → IsPlain value
plain-as value tree e h = subst IsPlain (sym e) h

pointer-plain : (source : Source) (around : Around) (type : Ty) (at : ℕ) (value : Tree) → is_pointer type ≡ true → Stands source around type at value → IsPlain value
pointer-plain source around type at value p s =
    elim (is-pointer type value p s.fits) [
      | inl e ↦ plain-as value _ e (refl, refl)
      | inr x ↦ plain-as value _ x.1 (refl, refl)
    ]

-- what is no structure has no member
pub memberless : (source : Source) (around : Around) (type : Ty) (at : ℕ) (value : Tree) → itself type ≡ None → Stands source around type at value → member_of value ≡ None
memberless source around (ty.Num number) at value u s = ap member_of (is-number number value s.fits).1
memberless source around (ty.Bits unit width) at value u s = ap member_of (is-bits unit width value s.fits).1
memberless source around (ty.Opaque size align) at value u s = ap member_of (is-opaque size align value s.fits).1
memberless source around (ty.Str count) at value u s = (pointer-plain source around (ty.Str count) at value refl s).0
memberless source around (ty.Ptr target kind reorder) at value u s = (pointer-plain source around (ty.Ptr target kind reorder) at value refl s).0
memberless source around (ty.Node node desc) at value u s = absurd (cc)
memberless source around (ty.Arr' n shape elem) at value u s = ap member_of (array-stands source around (ty.Arr' n shape elem) _ at n value (outs-Arr' n shape elem) s).is
memberless source around (ty.Tail' count shape elem) at value u s = ap member_of (tail-stands source around (ty.Tail' count shape elem) _ at count value (outs-Tail' count shape elem) s).row.is

node-uncounted : (source : Source) (around : Around) (node : TypeId) (desc : Option Expr) (at : ℕ) (value : Tree) (y : Structure) → HasStructure source.program.now node y → Stands source around (ty.Node node desc) at value → count_of value ≡ 0
node-uncounted source around node desc at value y has s = go y.is_union refl
  where
    go : (b : Bool) → y.is_union ≡ b → count_of value ≡ 0
    go false e = ap count_of (is-struct node desc y value has e s.fits).1
    go true e = ap count_of (is-union node desc y value has e s.fits).2

-- what is no array has no elements
pub uncounted : (source : Source) (around : Around) (type : Ty) (at : ℕ) (value : Tree) → is_row type ≡ false → Stands source around type at value → count_of value ≡ 0
uncounted source around (ty.Num number) at value u s = ap count_of (is-number number value s.fits).1
uncounted source around (ty.Bits unit width) at value u s = ap count_of (is-bits unit width value s.fits).1
uncounted source around (ty.Opaque size align) at value u s = ap count_of (is-opaque size align value s.fits).1
uncounted source around (ty.Str count) at value u s = (pointer-plain source around (ty.Str count) at value refl s).1
uncounted source around (ty.Ptr target kind reorder) at value u s = (pointer-plain source around (ty.Ptr target kind reorder) at value refl s).1
uncounted source around (ty.Node node desc) at value u s = let known = node-has node desc value s.fits in node-uncounted source around node desc at value known.0 known.1 s
uncounted source around type at value u s = absurd (cc)

-- ---- unions

module _ (source : Source) (around : Around) (node : TypeId) (desc : Option Expr) (at : ℕ) (value : Tree) (y : Structure) (has : HasStructure source.program.now node y) (s : Stands source around (ty.Node node desc) at value) where
  pub struct-memberless : y.is_union ≡ false → member_of value ≡ None
  struct-memberless e = ap member_of (is-struct node desc y value has e s.fits).1

  pub union-member : (member : Option ℕ) → y.is_union ≡ true → active_member (worth_of source (entered around node at) desc) y.fields ≡ member → member ≡ member_of value
  union-member member union active =
      let found = union-stands source around node desc at y has union value s in
      sym active ∙ found.active ∙ sym (ap member_of found.is)

-- ---- arrays

pub array-counted : (source : Source) (around : Around) (type elem : Ty) (at n : ℕ) (value : Tree) → out-Ty type ≡ part.Arr n elem → Stands source around type at value → (member_of value ≡ None) × (n ≡ count_of value)
array-counted source around type elem at n value e s =
    let row = array-stands source around type elem at n value e s in
    (ap member_of row.is, sym row.stand.as_many ∙ sym (ap count_of row.is))

pub tail-counted : (source : Source) (around : Around) (type elem : Ty) (length : Expr) (at n : ℕ) (value : Tree) → out-Ty type ≡ part.Tail length elem
    → ((k : ℕ) → value_of (path_worth source around) (root_worth source) length ≡ Some (pos k) → k < 2 ^ 32 → n ≡ k) → Stands source around type at value → (member_of value ≡ None) × (n ≡ count_of value)
tail-counted source around type elem length at n value e many s =
    let t = tail-stands source around type elem at length value e s in
    (ap member_of t.row.is, many t.n t.worth t.few ∙ sym t.row.stand.as_many ∙ sym (ap count_of t.row.is))

module _ (at : Frame) (c : Cursor) (value : Part) (path : List ℕ) (here : IsAt at c value path) where
  -- what is no leaf
  pub no-leaf : leaf_kind c.ty.now ≡ None → is_word here.p.tree ≡ false
  no-leaf none = no-word c.source c.site.around c.ty.now c.at here.p.tree none here.stands.0

  -- the place of a leaf
  pub leaf-there : (place : Place) → leaf_kind c.ty.now ≡ Some place.kind → place.addr ≡ c.source.space.now.start + c.source.from + c.at / 8 → place.bit ≡ c.at % 8 → place.active ≡ c.site.around.whole
      → place.holder ≡ c.site.holder → place.length ≡ length_read c.source c.site.around c.ty.now → IsPlaceOfPart at.program at.space at.addr here.p place
  leaf-there place kind addr bit active holder length =
      let holds = word-holds c.source c.site.around c.ty.now c.at here.p.tree place.kind kind here.stands.0 in
      let space = ap (λ r. r.start) here.read.space in
      let there : place.addr ≡ at.addr + c.at / 8 = omega (arith, addr, space, here.read.from, here.read.from_start) in
      let long = length ∙ length-is c.source c.site.around c.ty.now c.at here.p.scope here.p.tree here.stands in
      leaf-placed c.source.space.now at.space at.program c.source.from at.addr c.at here.p place here.read.space here.read.from here.read.from_start here.is.bit_is there bit (sym (ap leaf_kind here.is.type_is) ∙ kind) (active ∙ here.is.active_is)
      (holder ∙ here.is.holder_is)
      (long ∙ ap (λ x. length_there x here.p.scope c.ty.now) here.read.program ∙ ap (λ t. length_there at.program here.p.scope t) here.is.type_is) holds.0
      (subst (λ w. IsContentOf (content_of (bits_from c.source.space.now c.source.from) c.at place.kind w) here.p.tree) (sym active) holds.1)

-- what is answered of a leaf
abbrev pub LeafOn : Cursor → Option Place → Type 0
LeafOn c result =
    MatchOption result ((at : Frame) (value : Part) (path : List ℕ) (there : IsAt at c value path) → is_word there.p.tree ≡ false)
    (λ place. (at : Frame) (value : Part) (path : List ℕ) (there : IsAt at c value path) → IsPlaceOfPart at.program at.space at.addr there.p place)

pub pass : (result : Option Place) (P P' : Type 0) (Q Q' : Place → Type 0) → (P → P') → ((x : Place) → Q x → Q' x) → MatchOption result P Q → MatchOption result P' Q'
pass None P P' Q Q' p q h = p h
pass (Some x) P P' Q Q' p q h = q x h

-- a path to what is no leaf leads to no leaf
pub leads-not : (value part : Tree) (path : List ℕ) → part_at value path ≡ Some part → is_word part ≡ false → ¬ LeadsToLeaf value path
leads-not value part path there word (leaf, leads, is) = let same : leaf ≡ part = cc in let a : is_word part ≡ true = ap is_word (sym same) ∙ is in absurd (cc)

-- the bits of a leaf begin in the space
pub bits-inside : (range : Range) (from at : ℕ) (kind : LeafKind) → HasBits range from at kind → from + at / 8 < length range.bytes
bits-inside range from at (Number signed n) (width, (e, some, few), inside) = let d = length-drop from range.bytes in omega (arith, d, e, some, inside)
bits-inside range from at Pointer (width, e, inside) = let d = length-drop from range.bytes in omega (arith, d, e, inside)

abbrev pub PlaceOn : Option Place → Type 0 → (Place → Type 0) → Type 0
PlaceOn result P Q = MatchOption result P Q

-- what is answered of a leaf of the static record
abbrev pub StaticLeafOn : Program → Layouts → Range → List ℕ → Option Place → Type 0
StaticLeafOn program layouts space path result =
    MatchOption result ((values : Trees) → StandForStatics program layouts space values → ¬ LeadsToLeaf (Rec values) path)
    (λ place. (values : Trees) → StandForStatics program layouts space values → IsStaticPlaceOf program layouts space values path place)

module _ (program : Program) (layouts : Layouts) (space : Range) (i : ℕ) (rest : List ℕ) (start there : Cursor)
    (at_root : (values : Trees) → StandForStatics program layouts space values → IsAtRoot program layouts space values i start) where
  -- the leaf at a path of a root
  pub root-leaf : (result : Option Place) → Follows start there rest → LeafOn there result → StaticLeafOn program layouts space (i ∷ rest) result
  root-leaf result follows leaf =
      pass result ((at : Frame) (value : Part) (path : List ℕ) (here : IsAt at there value path) → is_word here.p.tree ≡ false)
      ((values : Trees) → StandForStatics program layouts space values → ¬ LeadsToLeaf (Rec values) (i ∷ rest))
      (λ place. (at : Frame) (value : Part) (path : List ℕ) (here : IsAt at there value path) → IsPlaceOfPart at.program at.space at.addr here.p place)
      (λ place. (values : Trees) → StandForStatics program layouts space values → IsStaticPlaceOf program layouts space values (i ∷ rest) place)
      (λ no values stand.
      let root = at_root values stand in
      let value = root_part values i root.spot root.r root.tree in
      let here = follows (frame program layouts space space.start) value [] root.is in
      leads-not (Rec values) here.p.tree (i ∷ rest) (part-there values i rest root.tree root.there ∙ here.there) (no (frame program layouts space space.start) value rest here))
      (λ place is values stand.
      let root = at_root values stand in
      let value = root_part values i root.spot root.r root.tree in
      let here = follows (frame program layouts space space.start) value [] root.is in
      record {
        p = here.p;
        lies = record { i = i; rest = rest; r = root.r; spot = root.spot; tree = root.tree; path_is = refl; root = root.root; spot_is = root.spot_is; there = root.there; lies = here.lies };
        there = part-there values i rest root.tree root.there ∙ here.there;
        is = is (frame program layouts space space.start) value rest here;
      }) leaf

  pub root-somewhere : (values : Trees) → StandForStatics program layouts space values → Follows start there rest → IsSomewhere there
  root-somewhere values stand follows =
      let root = at_root values stand in
      record { at = frame program layouts space space.start; value = root_part values i root.spot root.r root.tree; path = rest; is = follows _ _ [] root.is }

  -- where a path of a root leads nowhere
  pub root-nowhere : FollowsOn start rest None → StaticLeafOn program layouts space (i ∷ rest) None
  root-nowhere none values stand leads =
      let root = at_root values stand in
      let nowhere = none (frame program layouts space space.start) (root_part values i root.spot root.r root.tree) [] root.is in
      nowhere.leaf (leads.0, sym (part-there values i rest root.tree root.there) ∙ leads.1, leads.2)
