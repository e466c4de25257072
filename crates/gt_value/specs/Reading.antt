-- Numbers in the bits of a space, of which the places of leaves speak. From paths on it is no promise: what the proofs of reading
-- values need.
use Rattle.std.specs.Prelude.{◌≡◌, ◌≤◌, ◌<◌, ℕ, zero, suc, ◌+◌, ◌-◌, ◌*◌, ◌^◌, ◌&&◌, Bool, true, false, cond, nat_le, nat_lt, if◌then◌else◌, ℤ, pos, negsuc, List, [], ◌∷◌, drop, length, Option, Some, None, slice_get, All, Contains}
use Rattle.std.specs.Str.{bytes_eq}
use Rattle.std.specs.List.{position_from}
use Rattle.gt_types.specs.declared.expressions.Base.{Base}
use Rattle.gt_types.specs.declared.expressions.Base.TheVariants.{Here, Outer, Outermost}
use Rattle.gt_types.specs.declared.expressions.Expr.{Expr}
use Rattle.gt_types.specs.declared.types.TypeId.{TypeId}
use Rattle.gt_types.specs.declared.types.Ty.{Ty}
use Rattle.gt_types.specs.declared.types.Ty.TheVariants as ty
use Rattle.gt_types.specs.declared.program.Field.{Field}
use Rattle.gt_types.specs.declared.program.Root.{Root}
use Rattle.gt_types.specs.declared.program.Program.{Program}
use Rattle.gt_types.specs.Contains.{itself as node_of}
use Rattle.gt_types.specs.Paths.{IsScalarRoot}
use Rattle.gt_types.specs.Settled.{Settled}
use Rattle.gt_types.specs.Values.{value_of, within_i64}
use Rattle.gt_layout.specs.declared.planes.Plane.{Plane}
use Rattle.gt_layout.specs.declared.planes.FieldSpot.{FieldSpot}
use Rattle.gt_layout.specs.Storages.{bytes_of, extent_of}
use Rattle.gt_layout.specs.Places.{begin_at}
use Rattle.gt_layout.specs.Planes.{IsLaidOut}
use Rattle.gt_space.specs.Range.{Range}
use Rattle.gt_tree.specs.Numbers.{is_signed}
use Rattle.gt_tree.specs.Trees.{Tree, Trees, count}
use Rattle.gt_tree.specs.Blocks.{Kind, Blocks, element_type}
use Rattle.gt_tree.specs.Scopes.{Held, Scope, outside, root_in, ◌then◌}
use Rattle.gt_tree.specs.Fits.{Fits, AllFit, EachFits}
use Rattle.gt_tree.specs.FixedLaws.{MayHold, AreAddresses, bit_in}
use Rattle.gt_tree.proofs.Types.{Plain}
use Rattle.gt_tree.proofs.Rooms.{Room, Laid}
use Rattle.gt_tree.proofs.FixedRead.{IsRead, FieldsRead, EachRead}
use Rattle.gt_tree.proofs.FixedSame.{Got}
use Rattle.gt_tree.proofs.FixedValues.{Given, Alike}
use Rattle.gt_tree.proofs.FixedTwins.{given}
use Rattle.gt_value.specs.Bytes.{itself}
use Rattle.gt_value.specs.declared.sources.Anchor.{Anchor}
use Rattle.gt_value.specs.declared.sources.Around.{Around}
use Rattle.gt_value.specs.declared.sources.Source.{Source}
use Rattle.gt_value.specs.declared.sources.Shape.{Shape}

-- ---- bits

-- the bytes of a space from a place on, which is counted from its lowest address
abbrev pub bytes_from : Range → ℕ → List ℕ
bytes_from range from = drop from range.bytes

-- a bit of them
abbrev pub bits_from : Range → ℕ → ℕ → Bool
bits_from range from = bit_in (bytes_from range from)

-- how many bits they have
abbrev pub end_from : Range → ℕ → ℕ
end_from range from = 8 * length (bytes_from range from)

abbrev pub digit : Bool → ℕ
digit true = 1
digit false = 0

-- so many bits from one on, as a number, of which the first is the lowest
unfoldable pub bits_number : (ℕ → Bool) → ℕ → ℕ → ℕ
bits_number bits at zero = 0
bits_number bits at (suc n) = digit (bits at) + 2 * bits_number bits (at + 1) n

-- so many bytes from a bit on
abbrev pub byte_numbers : (ℕ → Bool) → ℕ → ℕ → List ℕ
byte_numbers bits at zero = []
byte_numbers bits at (suc n) = bits_number bits at 8 ∷ byte_numbers bits (at + 8) n

-- the number that has so many bits, of these as a number, with a sign where `true` is given
abbrev pub number_from : Bool → ℕ → ℕ → ℤ
number_from false width n = pos n
number_from true width n = if nat_lt n (2 ^ (width - 1)) then pos n else negsuc (2 ^ width - (n + 1))

-- ---- numbers at places

-- a type at a bit
pub record Place : Type 0 where
  pub type : Ty
  pub at : ℕ

abbrev pub place : Ty → ℕ → Place
place type at = record { type = type; at = at }

abbrev pub shape : Bool → ℕ → Shape
shape signed width = record { signed = signed; width = width }

-- how a number of this type is held: a bit-field has at most 64 bits
abbrev pub shape_of : Ty → Option Shape
shape_of (ty.Num scalar) = Some (shape (is_signed scalar) (8 * bytes_of scalar))
shape_of (ty.Bits unit width) = cond (nat_le 1 width && nat_le width 64) (Some (shape (is_signed unit) width)) None
shape_of type = None

-- the number of a type at a bit, in the bits of a space from a place on, where it ends inside
abbrev pub number_in : Range → ℕ → Place → Option ℤ
number_in range from p =
    shape_of p.type then λ s. cond (nat_le (p.at + s.width) (end_from range from)) (Some (number_from s.signed s.width (bits_number (bits_from range from) p.at s.width))) None

-- ---- paths

-- the field at a place in a structure that begins at a bit, where it begins inside
abbrev pub place_field : List Field → List FieldSpot → ℕ → ℕ → ℕ → Option Place
place_field fields spots end at i =
    slice_get fields i then λ f. slice_get spots i then λ spot. cond (nat_le (at + begin_at spot) end) (Some (place f.ty (at + begin_at spot))) None

-- the field of this name in a structure that begins at a bit, where it begins inside
abbrev pub step_to : Program → List Plane → ℕ → TypeId → ℕ → List ℕ → Option Place
step_to program planes end node at name =
    slice_get program.structures node.0 then λ s.
    slice_get planes node.0 then λ plane.
    position_from (λ f. bytes_eq f.name name) 0 s.fields then λ i. place_field s.fields plane.fields end at i

-- the place to which names lead from a place
abbrev pub walk_on : Program → List Plane → ℕ → Place → List (List ℕ) → Option Place
walk_on program planes end p [] = Some p
walk_on program planes end p (name ∷ names) =
    node_of p.type then λ node. step_to program planes end node p.at name then λ next. walk_on program planes end next names

-- the place to which names, one at least, lead from a structure that begins at a bit
abbrev pub walk_to : Program → List Plane → ℕ → Anchor → List (List ℕ) → Option Place
walk_to program planes end a [] = None
walk_to program planes end a (name ∷ names) = step_to program planes end a.node a.at name then λ p. walk_on program planes end p names

abbrev pub anchor_of : Around → Base → Option Anchor
anchor_of around Here = around.here
anchor_of around Outer = around.outer
anchor_of around Outermost = around.outermost

-- the number to which a path leads
abbrev pub path_worth : Source → Around → Base → List (List ℕ) → Option ℤ
path_worth source around base steps =
    anchor_of around base then λ a.
    walk_to source.program.now source.layouts.now.structures (end_from source.space.now source.from) a steps then λ p.
    number_in source.space.now source.from p then within_i64

-- the number of a root, in the static record at the lowest address
abbrev pub root_worth : Source → ℕ → Option ℤ
root_worth source i =
    slice_get source.program.now.roots i then λ r.
    slice_get source.layouts.now.statics.fields i then λ spot.
    number_in source.space.now 0 (place r.ty (begin_at spot)) then within_i64

abbrev pub first_anchor : Option Anchor → Option Anchor → Option Anchor
first_anchor (Some a) other = Some a
first_anchor None other = other

-- outside every structure
abbrev pub outside_all : Around
outside_all = record { here = None; outer = None; outermost = None; whole = true }

-- inside a structure that begins at a bit
abbrev pub entered : Around → TypeId → ℕ → Around
entered around node at = record {
  here = Some (record { node = node; at = at });
  outer = around.here;
  outermost = first_anchor around.outermost (Some (record { node = node; at = at }));
  whole = around.whole;
}

-- inside a part that is no member of its union, where pointers are null
abbrev pub without_pointers : Around → Around
without_pointers around = record around { whole = false }

-- ---- values that stand in bytes

-- where a value is read: in a block that may hold it, or in the static record, whose roots then have their numbers there
pub data Begins (source : Source) (statics : Trees) : Scope → Scope → Ty → Type 0 where
  in_block : (kind : Kind) → MayHold source.program.now kind → Begins source statics (outside statics) (outside statics) (element_type source.program.now kind)
  in_statics : (r : Root) → Contains source.program.now.roots r → ((i : ℕ) → IsScalarRoot source.program.now i → root_worth source i ≡ root_in (outside statics) i)
      → Begins source statics (outside statics) (outside statics) r.ty

-- a value of a structure stands at its anchor, and ends inside
pub record IsAt (g : Given) (end : ℕ) (held : Held) (anchor : Anchor) : Type 0 where
  pub same : held.node ≡ anchor.node
  pub scope : Scope
  pub desc : Option Expr
  pub whole : Bool
  pub width : ℕ
  pub fits : Fits g.program g.blocks g.capacity scope (ty.Node held.node desc) held.value
  pub read : IsRead g.program g.planes (Got g.address g.bits whole) anchor.at (ty.Node held.node desc) held.value
  pub room : Room g.program g.planes g.capacity (ty.Node held.node desc) width
  pub inside : anchor.at + width ≤ end

abbrev pub AreAt : Given → ℕ → Option Held → Option Anchor → Type 0
AreAt g end None None = Unit {0}
AreAt g end (Some held) (Some anchor) = IsAt g end held anchor
AreAt g end _ _ = ⊥

-- what is known around a part of a value
pub record Context (source : Source) (around : Around) : Type 0 where
  pub settled : Settled source.program.now
  pub laid : IsLaidOut source.program.now source.layouts.now
  pub blocks : Blocks
  pub addresses : AreAddresses blocks itself
  pub capacity : ℕ
  pub few : capacity < 2 ^ 32
  pub small : end_from source.space.now source.from < 2 ^ 32
  pub statics : Trees
  pub scope : Scope
  pub here : AreAt (given source.program.now source.layouts.now blocks capacity itself (bits_from source.space.now source.from)) (end_from source.space.now source.from) scope.here around.here
  pub outer : AreAt (given source.program.now source.layouts.now blocks capacity itself (bits_from source.space.now source.from)) (end_from source.space.now source.from) scope.outer around.outer
  pub outermost : AreAt (given source.program.now source.layouts.now blocks capacity itself (bits_from source.space.now source.from)) (end_from source.space.now source.from) scope.outermost around.outermost

abbrev pub given_in : {source : Source} {around : Around} → Context source around → Given
given_in {source} x = given source.program.now source.layouts.now x.blocks x.capacity itself (bits_from source.space.now source.from)

-- a type has its place there
abbrev pub IsTyped : (source : Source) (around : Around) → Context source around → Ty → Type 0
IsTyped source around x type = Alike (given_in x) (Begins source x.statics) x.scope x.scope type

-- a value of a type stands at a bit; of a part that is no member its pointers are null
pub record Stands (source : Source) (around : Around) (type : Ty) (at : ℕ) (value : Tree) : Type 0 where
  pub context : Context source around
  pub typed : IsTyped source around context type
  pub fits : Fits source.program.now context.blocks context.capacity context.scope type value
  pub read : IsRead source.program.now source.layouts.now.structures (Got itself (bits_from source.space.now source.from) around.whole) at type value
  pub width : ℕ
  pub room : Room source.program.now source.layouts.now.structures context.capacity type width
  pub inside : at + width ≤ end_from source.space.now source.from

-- values of fields stand at their places in a structure that begins at a bit
pub record FieldsStand (source : Source) (around : Around) (types : List Ty) (spots : List FieldSpot) (at : ℕ) (values : Trees) : Type 0 where
  pub context : Context source around
  pub typed : All (IsTyped source around context) types
  pub fit : AllFit source.program.now context.blocks context.capacity context.scope types values
  pub read : FieldsRead source.program.now source.layouts.now.structures (Got itself (bits_from source.space.now source.from) around.whole) at types spots values
  pub from : ℕ
  pub width : ℕ
  pub laid : Laid source.program.now source.layouts.now.structures context.capacity from types spots width
  pub inside : at + width ≤ end_from source.space.now source.from

-- so many values of a type stand one after another
pub record EachStands (source : Source) (around : Around) (type : Ty) (at n : ℕ) (values : Trees) : Type 0 where
  pub context : Context source around
  pub typed : IsTyped source around context type
  pub fit : EachFits source.program.now context.blocks context.capacity context.scope type values
  pub as_many : count values ≡ n
  pub stride : ℕ
  pub is_stride : stride ≡ 8 * (extent_of source.layouts.now.structures type).size
  pub read : EachRead source.program.now source.layouts.now.structures (Got itself (bits_from source.space.now source.from) around.whole) stride at type values
  pub plain : Plain source.program.now type
  pub inside : at + n * stride ≤ end_from source.space.now source.from

-- what an expression is worth, where there is one
abbrev pub worth_of : Source → Around → Option Expr → Option ℤ
worth_of source around (Some e) = value_of (path_worth source around) (root_worth source) e
worth_of source around None = None
