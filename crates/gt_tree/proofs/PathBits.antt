-- A path leads to one bit, and a name to one field.
use Rattle.std.proofs.Common.{◌≡◌, ℕ, zero, suc, ◌+◌, ◌<◌, Bool, true, false, cond, List, [], ◌∷◌, get_or, refl, sym, ap, subst, ◌∙◌, arith, Option, Some, ◌⊎◌, inl, inr}
use Rattle.std.specs.Prelude.{◌≢◌, slice_get, AllPairs}
use Rattle.std.specs.List.{position_from}
use Rattle.std.proofs.lemmas.Option.{slice_get_within, get_or_from_slice_get}
use Rattle.gt_types.specs.declared.types.TypeId.{TypeId}
use Rattle.gt_types.specs.declared.types.Ty.{Ty}
use Rattle.gt_types.specs.declared.types.Ty.TheVariants as ty
use Rattle.gt_types.specs.declared.program.Field.{Field}
use Rattle.gt_types.specs.declared.program.Program.{Program}
use Rattle.gt_types.specs.Contains.{itself}
use Rattle.gt_types.specs.Settled.{Settled}
use Rattle.gt_layout.specs.declared.planes.Plane.{Plane}
use Rattle.gt_layout.specs.Places.{begin_at}
use Rattle.gt_tree.specs.PathLaws.{StepBit, PathBit, last_bit, next_bit, PathsAreOne}

-- ---- places in a list

pub some-same : {X : Type 0} (o : Option X) (x y : X) → o ≡ Some x → o ≡ Some y → x ≡ y
some-same o x y a b = cc

compared : (i j : ℕ) → (i < j) ⊎ ((i ≡ j) ⊎ (j < i))
compared zero zero = inr (inl refl)
compared zero (suc j) = inl (omega arith)
compared (suc i) zero = inr (inr (omega arith))
compared (suc i) (suc j) = go (compared i j)
  where
    go : (i < j) ⊎ ((i ≡ j) ⊎ (j < i)) → (suc i < suc j) ⊎ ((suc i ≡ suc j) ⊎ (suc j < suc i))
    go (inl lt) = inl (omega arith)
    go (inr (inl e)) = inr (inl (ap suc e))
    go (inr (inr gt)) = inr (inr (omega arith))

pair-get : {X : Type 0} (R : X → X → Type 0) (xs : List X) (i j : ℕ) (x y : X) → AllPairs R xs → i < j → slice_get xs i ≡ Some x → slice_get xs j ≡ Some y → R x y
pair-get R xs i j x y pairs lt a b =
    let at_i = get_or_from_slice_get xs i x x a in
    let at_j = get_or_from_slice_get xs j y x b in
    subst (λ v. R x v) at_j (subst (λ u. R u (get_or xs j x)) at_i (pairs i j x lt (slice_get_within xs j y b)))

-- the fields of one name are at one place
pub one-place : (fields : List Field) (name : List ℕ) → AllPairs (λ f g. f.name ≢ g.name) fields → (i j : ℕ) (f g : Field) → slice_get fields i ≡ Some f → slice_get fields j ≡ Some g
    → f.name ≡ name → g.name ≡ name → i ≡ j
one-place fields name distinct i j f g a b x y = go (compared i j)
  where
    go : (i < j) ⊎ ((i ≡ j) ⊎ (j < i)) → i ≡ j
    go (inl lt) = absurd (pair-get (λ f g. f.name ≢ g.name) fields i j f g distinct lt a b (x ∙ sym y))
    go (inr (inl e)) = e
    go (inr (inr gt)) = absurd (pair-get (λ f g. f.name ≢ g.name) fields j i g f distinct gt b a (y ∙ sym x))

-- ---- the first element that passes

pub position-get : {X : Type 0} (p : X → Bool) (xs : List X) (from place : ℕ) → position_from p from xs ≡ Some place
    → (i : ℕ) × (x : X) × (place ≡ from + i) × (slice_get xs i ≡ Some x) × (p x ≡ true)
position-get p [] from place e = absurd (cc)
position-get {X} p (y ∷ ys) from place e = go (p y) refl (position-get p ys (from + 1) place) e
  where
    go : (b : Bool) → p y ≡ b → (position_from p (from + 1) ys ≡ Some place → (i : ℕ) × (x : X) × (place ≡ from + 1 + i) × (slice_get ys i ≡ Some x) × (p x ≡ true))
        → cond b (Some from) (position_from p (from + 1) ys) ≡ Some place → (i : ℕ) × (x : X) × (place ≡ from + i) × (slice_get (y ∷ ys) i ≡ Some x) × (p x ≡ true)
    go true passes later e = let same : from ≡ place = cc in (0, y, omega arith, refl, passes)
    go false passes later e = let found = later e in (suc found.0, found.1, omega (arith, found.2), found.3, found.4)

pub position-first : {X : Type 0} (p : X → Bool) (xs : List X) (from i : ℕ) (x : X) → slice_get xs i ≡ Some x → p x ≡ true → (k : ℕ) × (position_from p from xs ≡ Some k)
position-first p [] from i x got passes = absurd (cc)
position-first p (y ∷ ys) from zero x got passes =
    let same : y ≡ x = cc in
    (from, ap (λ b. cond b (Some from) (position_from p (from + 1) ys)) (ap p same ∙ passes))
position-first p (y ∷ ys) from (suc i) x got passes = go (p y) (position-first p ys (from + 1) i x got passes)
  where
    go : (b : Bool) → (k : ℕ) × (position_from p (from + 1) ys ≡ Some k) → (k : ℕ) × (cond b (Some from) (position_from p (from + 1) ys) ≡ Some k)
    go true later = (from, refl)
    go false later = later

-- ---- paths

step-one : (program : Program) (planes : List Plane) → Settled program → (node : TypeId) (name : List ℕ) (bit other : ℕ) (type like : Ty) → StepBit program planes node name bit type → StepBit program planes node name other like
    → (bit ≡ other) × (type ≡ like)
step-one program planes settled node name bit other type like a b =
    let s : b.s ≡ a.s = some-same (slice_get program.structures node.0) b.s a.s b.has a.has in
    let plane : b.plane ≡ a.plane = some-same (slice_get planes node.0) b.plane a.plane b.laid a.laid in
    let field : slice_get a.s.fields b.place ≡ Some b.f = subst (λ x. slice_get x.fields b.place ≡ Some b.f) s b.field in
    let spot : slice_get a.plane.fields b.place ≡ Some b.spot = subst (λ x. slice_get x.fields b.place ≡ Some b.spot) plane b.spot_of in
    let place : b.place ≡ a.place = one-place a.s.fields name (settled.structures node a.s a.has).distinct b.place a.place b.f a.f field a.field b.named a.named in
    let f : a.f ≡ b.f = some-same (slice_get a.s.fields a.place) a.f b.f a.field (subst (λ i. slice_get a.s.fields i ≡ Some b.f) place field) in
    let spots : a.spot ≡ b.spot = some-same (slice_get a.plane.fields a.place) a.spot b.spot a.spot_of (subst (λ i. slice_get a.plane.fields i ≡ Some b.spot) place spot) in
    (a.begins ∙ ap begin_at spots ∙ sym b.begins, a.is_type ∙ ap (λ x. x.ty) f ∙ sym b.is_type)

no-steps : (program : Program) (planes : List Plane) (node : TypeId) (steps : List (List ℕ)) (bit : ℕ) (type : Ty) → PathBit program planes node steps bit type → steps ≡ [] → ⊥
no-steps program planes node steps bit type (last_bit a) e = cc
no-steps program planes node steps bit type (next_bit a rest) e = cc

pub path-one : (program : Program) (planes : List Plane) → Settled program → {node : TypeId} {steps : List (List ℕ)} {bit other : ℕ} {type like : Ty} → PathBit program planes node steps bit type
    → PathBit program planes node steps other like → (bit ≡ other) × (type ≡ like)
path-one program planes settled (last_bit {node} {name} {bit} {type} a) (last_bit {bit = other} {type = like} b) = step-one program planes settled node name bit other type like a b
path-one program planes settled (last_bit a) (next_bit {next} {rest} {type} b more) = absurd (no-steps program planes next [] rest type more refl)
path-one program planes settled (next_bit {next} {rest} {type} a more) (last_bit b) = absurd (no-steps program planes next [] rest type more refl)
path-one program planes settled (next_bit {node} {next} {name} {names} {bit} {rest} {desc} {type} a more) (next_bit {next = other} {bit = bit'} {rest = rest'} {desc = desc'} {type = type'} b others) =
    let here = step-one program planes settled node name bit bit' (ty.Node next desc) (ty.Node other desc') a b in
    let named = ap itself here.1 in
    let same : other ≡ next = cc in
    let found = path-one program planes settled more (subst (λ n. PathBit program planes n names rest' type') same others) in
    (omega (arith, here.0, found.0), found.1)

pub paths-one : (program : Program) (planes : List Plane) → Settled program → PathsAreOne program planes
paths-one program planes settled node steps bit other type like a b = path-one program planes settled a b
