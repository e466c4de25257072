-- What expressions are worth in bytes is what they are worth in values.
use Rattle.std.proofs.Common.{◌≡◌, ℕ, ◌+◌, ◌*◌, ◌≤◌, Bool, true, false, ◌&&◌, cond, nat_le, IsTrue, List, refl, ap, sym, subst, ◌∙◌, arith, Option, Some, None}
use Rattle.std.specs.Prelude.{Contains, ℤ, slice_get}
use Rattle.std.proofs.lemmas.Bool.{le-leb, leb-true}
use Rattle.std.proofs.lemmas.List.Elements.{All-contains, All-weaker}
use Rattle.std.proofs.lemmas.Option.{slice_get_within, get_or_from_slice_get}
use Rattle.gt_types.specs.declared.expressions.Base.{Base}
use Rattle.gt_types.specs.declared.expressions.Base.TheVariants.{Here, Outer, Outermost}
use Rattle.gt_types.specs.declared.expressions.Expr.{Expr}
use Rattle.gt_types.specs.declared.types.TypeId.{TypeId}
use Rattle.gt_types.specs.declared.types.Ty.{Ty}
use Rattle.gt_types.specs.declared.types.Ty.TheVariants as ty
use Rattle.gt_types.specs.declared.types.Ty.TheVariants.{outs-Bits}
use Rattle.gt_types.specs.declared.program.Program.{Program}
use Rattle.gt_types.specs.Shapes.{bits_of, field_type_at, is_field_type}
use Rattle.gt_types.specs.Values.{value_of, within_i64}
use Rattle.gt_types.specs.Paths.{LeadsToNumber, paths_of}
use Rattle.gt_types.specs.Settled.{Settled}
use Rattle.gt_layout.specs.declared.planes.Plane.{Plane}
use Rattle.gt_layout.specs.Places.{begin_at}
use Rattle.gt_layout.specs.Planes.{IsLaidOut}
use Rattle.gt_tree.specs.Blocks.{Blocks}
use Rattle.gt_tree.specs.Scopes.{Held, read_path, leaf_in, root_in, eval_in, ◌then◌}
use Rattle.gt_tree.specs.Leaves.{leaf, Number, LiesBetween}
use Rattle.gt_tree.specs.PathLaws.{StepBit, PathBit, last_bit, next_bit, LeadsInScope, number_width, has_room_in}
use Rattle.gt_tree.proofs.Chains.{between-Chain}
use Rattle.gt_tree.proofs.Ordered.{chain}
use Rattle.gt_tree.proofs.PathReads.{named-place, paths-read}
use Rattle.gt_tree.proofs.PathNumbers.{path-field}
use Rattle.gt_tree.proofs.PathExprs.{worth-same}
use Rattle.gt_tree.proofs.FixedExprs.{roots-worth}
use Rattle.gt_tree.proofs.FixedSame.{Got}
use Rattle.gt_tree.proofs.FixedTwins.{given}
use Rattle.gt_value.specs.declared.sources.Anchor.{Anchor}
use Rattle.gt_value.specs.declared.sources.Around.{Around}
use Rattle.gt_value.specs.declared.sources.Source.{Source}
use Rattle.gt_value.specs.Bytes.{itself}
use Rattle.gt_value.specs.Reading.{place, step_to, walk_on, walk_to, path_worth, root_worth, number_in, bits_from, end_from, bits_number, number_from, AreAt, Context}
use Rattle.gt_value.proofs.BitNumbers.{number_from-is}
use Rattle.gt_value.proofs.Paths.{step-is}
use Rattle.gt_value.proofs.Origins.{CanRead}
use Rattle.gt_value.proofs.LeafReads.{held-number, room-in_bytes, some-bytes, few-bits, shape-of_bits}

-- ---- the place of a path

pub Contains-get : {X : Type 0} (xs : List X) (i : ℕ) (x : X) → slice_get xs i ≡ Some x → Contains xs x
Contains-get xs i x e = (i, slice_get_within xs i x e, get_or_from_slice_get xs i x x e)

module _ (program : Program) (planes : List Plane) (end : ℕ) (settled : Settled program) where
  step-placed : (node : TypeId) (name : List ℕ) (bit : ℕ) (type : Ty) (at : ℕ) → StepBit program planes node name bit type → at + bit ≤ end → step_to program planes end node at name ≡ Some (place type (at + bit))
  step-placed node name bit type at a le =
      let found = named-place program settled node a.s a.f name a.has (Contains-get a.s.fields a.place a.f a.field) a.named in
      let same : found.0 ≡ a.place = Rattle.gt_tree.proofs.PathBits.one-place a.s.fields name (settled.structures node a.s a.has).distinct found.0 a.place a.f a.f found.2 a.field a.named a.named in
      let spot = subst (λ i. slice_get a.plane.fields i ≡ Some a.spot) (sym same) a.spot_of in
      let inside : at + begin_at a.spot ≤ end = omega (arith, a.begins) in
      step-is program planes end node at name a.s a.plane found.0 a.has a.laid found.1
      ∙ ap (λ o. o then λ f. slice_get a.plane.fields found.0 then λ spot. cond (nat_le (at + begin_at spot) end) (Some (place f.ty (at + begin_at spot))) None) found.2
      ∙ ap (λ o. o then λ spot. cond (nat_le (at + begin_at spot) end) (Some (place a.f.ty (at + begin_at spot))) None) spot
      ∙ ap (λ b. cond b (Some (place a.f.ty (at + begin_at a.spot))) None) (le-leb (at + begin_at a.spot) end inside)
      ∙ ap (λ t. Some (place t (at + begin_at a.spot))) (sym a.is_type)
      ∙ ap (λ b. Some (place type (at + b))) (sym a.begins)

  on-placed : {node : TypeId} {names : List (List ℕ)} {bit : ℕ} {type : Ty} → PathBit program planes node names bit type → (desc : Option Expr) (at : ℕ) → at + bit ≤ end
      → walk_on program planes end (place (ty.Node node desc) at) names ≡ Some (place type (at + bit))
  on-placed (last_bit {node} {name} {bit} {type} a) desc at le = ap (λ o. o then λ next. Some next) (step-placed node name bit type at a le)
  on-placed (next_bit {node} {next} {name} {names} {bit} {rest} {desc = d} {type} a path) desc at le =
      let e : at + bit + rest ≡ at + (bit + rest) = omega arith in
      ap (λ o. o then λ p. walk_on program planes end p names) (step-placed node name bit (ty.Node next d) at a (omega arith))
      ∙ on-placed path d (at + bit) (omega arith)
      ∙ ap (λ b. Some (place type b)) e

  pub walk-placed : {node : TypeId} {names : List (List ℕ)} {bit : ℕ} {type : Ty} → PathBit program planes node names bit type → (at : ℕ) → at + bit ≤ end
      → walk_to program planes end (record { node = node; at = at }) names ≡ Some (place type (at + bit))
  walk-placed (last_bit {node} {name} {bit} {type} a) at le = ap (λ o. o then λ p. Some p) (step-placed node name bit type at a le)
  walk-placed (next_bit {node} {next} {name} {names} {bit} {rest} {desc} {type} a path) at le =
      let e : at + bit + rest ≡ at + (bit + rest) = omega arith in
      ap (λ o. o then λ p. walk_on program planes end p names) (step-placed node name bit (ty.Node next desc) at a (omega arith))
      ∙ on-placed path desc (at + bit) (omega arith)
      ∙ ap (λ b. Some (place type b)) e

-- ---- the number there

both : (a b : Bool) → IsTrue (a && b) → IsTrue a × IsTrue b
both true true h = (refl, refl)
both true false h = (refl, h)
both false b h = absurd (cc)

bits-within : (unit : Rattle.gt_types.specs.declared.types.Scalar.Scalar) (width : ℕ) → IsTrue (is_field_type (ty.Bits unit width)) → (1 ≤ width) × (width ≤ 64)
bits-within unit width h =
    let layer : IsTrue (nat_le 1 width && nat_le width (bits_of unit)) = subst (λ x. IsTrue (field_type_at x)) (outs-Bits unit width) h in
    let parts = both (nat_le 1 width) (nat_le width (bits_of unit)) layer in
    let few = leb-true width (bits_of unit) parts.1 in
    (leb-true 1 width parts.0, omega (arith, few, few-bits unit))

-- a number that is held at a bit is read there
pub number-read : (source : Source) (whole : Bool) (type : Ty) (at : ℕ) (n : ℤ) → IsTrue (is_field_type type) → IsTrue (has_room_in type n) → at + number_width type ≤ end_from source.space.now source.from
    → Got itself (bits_from source.space.now source.from) whole (leaf at (number_width type) (Number n)) → number_in source.space.now source.from (place type at) ≡ Some n
number-read source whole (ty.Num number) at n field room le got =
    let bits = bits_from source.space.now source.from in
    let width = 8 * Rattle.gt_layout.specs.Storages.bytes_of number in
    ap (λ b. cond b (Some (number_from (Rattle.gt_tree.specs.Numbers.is_signed number) width (bits_number bits at width))) None) (le-leb (at + width) (end_from source.space.now source.from) le)
    ∙ ap Some (number_from-is bits (Rattle.gt_tree.specs.Numbers.is_signed number) at width n (some-bytes number).0 (room-in_bytes number n room) (held-number itself bits whole at width n got))
number-read source whole (ty.Bits unit width) at n field room le got =
    let bits = bits_from source.space.now source.from in
    let within = bits-within unit width field in
    ap (λ o. o then λ s. cond (nat_le (at + s.width) (end_from source.space.now source.from)) (Some (number_from s.signed s.width (bits_number bits at s.width))) None) (shape-of_bits unit width within.0 within.1)
    ∙ ap (λ b. cond b (Some (number_from (Rattle.gt_tree.specs.Numbers.is_signed unit) width (bits_number bits at width))) None) (le-leb (at + width) (end_from source.space.now source.from) le)
    ∙ ap Some (number_from-is bits (Rattle.gt_tree.specs.Numbers.is_signed unit) at width n within.0 room (held-number itself bits whole at width n got))
number-read source whole type at n field room le got = absurd (cc)

-- ---- paths

module _ (source : Source) (settled : Settled source.program.now) (laid : IsLaidOut source.program.now source.layouts.now) (blocks : Blocks) (capacity : ℕ) where
  abbrev held-in : Option Held → Option Anchor → Type 0
  held-in held anchor = AreAt (given source.program.now source.layouts.now blocks capacity itself (bits_from source.space.now source.from)) (end_from source.space.now source.from) held anchor

  abbrev read-at : Option Anchor → List (List ℕ) → Option ℤ
  read-at anchor steps =
      anchor then λ a. walk_to source.program.now source.layouts.now.structures (end_from source.space.now source.from) a steps then λ p. number_in source.space.now source.from p then within_i64

  path-read : (held : Option Held) (anchor : Option Anchor) (steps : List (List ℕ)) → held-in held anchor → ((h : Held) → held ≡ Some h → LeadsToNumber source.program.now h.node steps)
      → read-at anchor steps ≡ (held then λ h. read_path source.program.now steps (ty.Node h.node None) h.value)
  path-read None None steps at leads = refl
  path-read None (Some a) steps at leads = absurd at
  path-read (Some h) None steps at leads = absurd at
  path-read (Some h) (Some a) steps at leads =
      let program = source.program.now in
      let planes = source.layouts.now.structures in
      let end = end_from source.space.now source.from in
      let leaves = at.read.0 in
      let r = paths-read program source.layouts.now settled laid blocks capacity at.scope h.node at.desc h.value a.at leaves steps at.fits at.read.1 (leads h refl) in
      let ordered = chain program planes blocks capacity settled laid.structures at.read.1 at.scope at.width at.fits at.room in
      let l = leaf (a.at + r.bit) (number_width r.type) (Number r.n) in
      let between = All-contains (LiesBetween a.at (a.at + at.width)) leaves l (between-Chain a.at leaves (a.at + at.width) ordered) r.there in
      let got = All-contains (Got itself (bits_from source.space.now source.from) at.whole) leaves l at.read.2 r.there in
      let inside : a.at + r.bit + number_width r.type ≤ end = omega (arith, between.1, at.inside) in
      let path = subst (λ n. PathBit program planes n steps r.bit r.type) at.same r.path in
      ap (λ o. o then λ p. number_in source.space.now source.from p then within_i64) (walk-placed program planes end settled path a.at (omega (arith, inside)))
      ∙ ap (λ o. o then within_i64) (number-read source at.whole r.type (a.at + r.bit) r.n (path-field program planes settled r.path) r.room inside got)
      ∙ sym r.read

-- ---- expressions

module _ (source : Source) (around : Around) (x : Context source around) where
  leaf-same : (base : Base) (steps : List (List ℕ)) → LeadsInScope source.program.now x.scope (base, steps) → path_worth source around base steps ≡ leaf_in source.program.now x.scope base steps
  leaf-same Here steps leads = path-read source x.settled x.laid x.blocks x.capacity x.scope.here around.here steps x.here leads
  leaf-same Outer steps leads = path-read source x.settled x.laid x.blocks x.capacity x.scope.outer around.outer steps x.outer leads
  leaf-same Outermost steps leads = path-read source x.settled x.laid x.blocks x.capacity x.scope.outermost around.outermost steps x.outermost leads

  -- an expression that can be read has its value in the bytes
  pub worth-is : (e : Expr) → CanRead source source.program.now x.scope e → value_of (path_worth source around) (root_worth source) e ≡ eval_in source.program.now x.scope e
  worth-is e can =
      roots-worth (path_worth source around) (path_worth source around) (root_worth source) (root_in x.scope) (λ base steps. refl) e can.roots
      ∙ worth-same (path_worth source around) (leaf_in source.program.now x.scope) (root_in x.scope) (root_in x.scope) (λ i. refl) e
      (All-weaker (LeadsInScope source.program.now x.scope) (λ path. path_worth source around path.0 path.1 ≡ leaf_in source.program.now x.scope path.0 path.1) (λ path leads. leaf-same path.0 path.1 leads) (paths_of e) can.readable.leads)
