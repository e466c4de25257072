-- Values that stand one after another, read from the first on.
use Rattle.std.proofs.Common.{◌≡◌, ℕ, zero, suc, ◌+◌, ◌-◌, ◌*◌, ◌^◌, ◌<◌, ◌≤◌, List, [], ◌∷◌, ◌++◌, length, map, drop, get_or, refl, ap, sym, subst, ◌∙◌, arith, length-drop}
use Rattle.std.proofs.Math.Seq.{drop-cons}
use Rattle.std.proofs.Math.ListN.{drop_of_length-le}
use Rattle.std.proofs.lemmas.List.Elements.{All-head, All-tail}
use Rattle.gt_types.specs.declared.types.Ty.{Ty}
use Rattle.gt_types.specs.declared.program.Program.{Program}
use Rattle.gt_layout.specs.declared.planes.Plane.{Plane}
use Rattle.gt_layout.specs.declared.planes.FieldSpot.{FieldSpot}
use Rattle.gt_layout.specs.Storages.{extent_of}
use Rattle.gt_layout.specs.Places.{begin_at}
use Rattle.gt_tree.specs.Trees.{Tree, Trees, End, And, count}
use Rattle.gt_tree.proofs.Rooms.{Room, Laid}
use Rattle.gt_tree.proofs.FixedParts.{is-more, is-none, is-one, is-no_more}
use Rattle.gt_tree.proofs.FixedRead.{EachRead, FieldsRead, read-more, read-one, read-no_spots}
use Rattle.gt_tree.proofs.FixedSame.{Got}
use Rattle.gt_value.specs.declared.values.Value.{Value}
use Rattle.gt_value.specs.declared.sources.Around.{Around}
use Rattle.gt_value.specs.declared.sources.Source.{Source}
use Rattle.gt_value.specs.Values.{tree_of, trees}
use Rattle.gt_value.specs.Bytes.{itself}
use Rattle.gt_value.specs.Reading.{IsTyped, Stands, FieldsStand, EachStands, bits_from, end_from}

-- ---- values that were read, and the rest

-- some trees, and then others
abbrev pub joined : List Tree → Trees → Trees
joined [] rest = rest
joined (x ∷ xs) rest = And x (joined xs rest)

joined-more : (xs : List Tree) (x : Tree) (rest : Trees) → joined (xs ++ x ∷ []) rest ≡ joined xs (And x rest)
joined-more [] x rest = refl
joined-more (y ∷ ys) x rest = ap (And y) (joined-more ys x rest)

joined-end : (xs : List Tree) → joined xs End ≡ trees xs
joined-end [] = refl
joined-end (x ∷ xs) = ap (And x) (joined-end xs)

map-last : (xs : List Value) (x : Value) → map tree_of (xs ++ x ∷ []) ≡ map tree_of xs ++ tree_of x ∷ []
map-last [] x = refl
map-last (y ∷ ys) x = ap (λ zs. tree_of y ∷ zs) (map-last ys x)

-- one more value was read
pub front-more : (xs ys : List Value) (x : Value) (values rest more : Trees) (tree : Tree) → values ≡ joined (map tree_of xs) rest → rest ≡ And tree more → tree_of x ≡ tree → ys ≡ xs ++ x ∷ []
    → values ≡ joined (map tree_of ys) more
front-more xs ys x values rest more tree e f g h =
    e
    ∙ ap (joined (map tree_of xs)) (f ∙ ap (λ t. And t more) (sym g))
    ∙ sym (joined-more (map tree_of xs) (tree_of x) more)
    ∙ ap (λ zs. joined zs more) (sym (map-last xs x))
    ∙ ap (λ zs. joined (map tree_of zs) more) (sym h)

pub front-none : (xs : List Value) (values : Trees) → xs ≡ [] → values ≡ joined (map tree_of xs) values
front-none xs values e = ap (λ zs. joined (map tree_of zs) values) (sym e)

pub front-all : (xs : List Value) (values rest : Trees) → values ≡ joined (map tree_of xs) rest → rest ≡ End → trees (map tree_of xs) ≡ values
front-all xs values rest e f = sym (joined-end (map tree_of xs)) ∙ ap (joined (map tree_of xs)) (sym f) ∙ sym e

-- ---- elements

pub record EachStep (source : Source) (around : Around) (type : Ty) (at n : ℕ) (values : Trees) : Type 0 where
  pub tree : Tree
  pub rest : Trees
  pub is : values ≡ And tree rest
  pub first : Stands source around type at tree
  pub others : EachStands source around type (at + 8 * (extent_of source.layouts.now.structures type).size) n rest

pub each-step : (source : Source) (around : Around) (type : Ty) (at n : ℕ) (values : Trees) → EachStands source around type at (suc n) values → EachStep source around type at n values
each-step source around type at n values s =
    let held = Got itself (bits_from source.space.now source.from) around.whole in
    let stride = 8 * (extent_of source.layouts.now.structures type).size in
    let found = is-one type n values s.as_many s.fit in
    let even = subst (λ k. EachRead source.program.now source.layouts.now.structures held k at type values) s.is_stride s.read in
    let read = subst (λ v. EachRead source.program.now source.layouts.now.structures held stride at type v) found.2 even in
    let parts = read-one held stride type found.0 found.1 read.0 read.1 read.2 in
    let inside : at + suc n * stride ≤ end_from source.space.now source.from = subst (λ k. at + suc n * k ≤ end_from source.space.now source.from) s.is_stride s.inside in
    let many : suc (count found.1) ≡ suc n = ap count (sym found.2) ∙ s.as_many in
    record {
      tree = found.0;
      rest = found.1;
      is = found.2;
      first = record { context = s.context; typed = s.typed; fits = found.3; read = parts.0; width = stride; room = Room.plain s.plain; inside = omega (arith, inside) };
      others = record {
        context = s.context;
        typed = s.typed;
        fit = found.4;
        as_many = omega (arith, many);
        stride = stride;
        is_stride = refl;
        read = parts.1;
        plain = s.plain;
        inside = omega (arith, inside);
      };
    }

pub each-first : (source : Source) (around : Around) (type : Ty) (at n : ℕ) (values : Trees) (s : EachStands source around type at (suc n) values) → (each-step source around type at n values s).first.context.scope ≡ s.context.scope
unfolding each-step
each-first source around type at n values s = refl

pub each-others : (source : Source) (around : Around) (type : Ty) (at n : ℕ) (values : Trees) (s : EachStands source around type at (suc n) values) → (each-step source around type at n values s).others.context.scope ≡ s.context.scope
unfolding each-step
each-others source around type at n values s = refl

-- elements of which there is one are not too large
pub each-size : (source : Source) (around : Around) (type : Ty) (at n : ℕ) (values : Trees) → 0 < n → EachStands source around type at n values → (extent_of source.layouts.now.structures type).size < 2 ^ 32
each-size source around type at zero values some s = absurd (omega arith)
each-size source around type at (suc n) values some s =
    let stride = 8 * (extent_of source.layouts.now.structures type).size in
    let inside : at + suc n * stride ≤ end_from source.space.now source.from = subst (λ k. at + suc n * k ≤ end_from source.space.now source.from) s.is_stride s.inside in
    omega (arith, inside, s.context.small)

-- the values of which some were read, and where the rest stand
pub record EachRest (source : Source) (around : Around) (type : Ty) (values : Trees) (made : List Value) (begin left : ℕ) : Type 0 where
  pub rest : Trees
  pub front : values ≡ joined (map tree_of made) rest
  pub stand : EachStands source around type begin left rest

pub each-end : (source : Source) (around : Around) (type : Ty) (values : Trees) (made : List Value) (begin left : ℕ) → left ≡ 0 → EachRest source around type values made begin left → trees (map tree_of made) ≡ values
each-end source around type values made begin left none r = front-all made values r.rest r.front (is-no_more r.rest (r.stand.as_many ∙ none))

-- the next of them
pub each-next : (source : Source) (around : Around) (type : Ty) (values : Trees) (made : List Value) (begin n i : ℕ) → i < n → (r : EachRest source around type values made begin (n - i))
    → EachStep source around type begin (n - (i + 1)) r.rest
each-next source around type values made begin n i lt r =
    let left : n - i ≡ suc (n - (i + 1)) = omega arith in
    each-step source around type begin (n - (i + 1)) r.rest (subst (λ k. EachStands source around type begin k r.rest) left r.stand)

pub each-more : (source : Source) (around : Around) (type : Ty) (values : Trees) (made more : List Value) (x : Value) (begin n i next : ℕ) → (lt : i < n) → (r : EachRest source around type values made begin (n - i))
    → next ≡ begin + 8 * (extent_of source.layouts.now.structures type).size → ((value : Tree) → Stands source around type begin value → tree_of x ≡ value) → more ≡ made ++ x ∷ []
    → EachRest source around type values more next (n - (i + 1))
each-more source around type values made more x begin n i next lt r e is pushed =
    let step = each-next source around type values made begin n i lt r in
    record {
      rest = step.rest;
      front = front-more made more x values r.rest step.rest step.tree r.front step.is (is step.tree step.first) pushed;
      stand = subst (λ k. EachStands source around type k (n - (i + 1)) step.rest) (sym e) step.others;
    }

-- ---- fields

Laid-le : {program : Program} {planes : List Plane} {capacity : ℕ} {from : ℕ} {types : List Ty} {spots : List FieldSpot} {end : ℕ} → Laid program planes capacity from types spots end → from ≤ end
Laid-le (Laid.none le) = le
Laid-le (Laid.more {width} le room rest) = let more = Laid-le rest in omega (arith, le, more)

laid-more : {program : Program} {planes : List Plane} {capacity : ℕ} (from end : ℕ) (type : Ty) (types : List Ty) (s : FieldSpot) (spots : List FieldSpot)
    → Laid program planes capacity from (type ∷ types) (s ∷ spots) end → (w : ℕ) × Room program planes capacity type w × Laid program planes capacity (begin_at s + w) types spots end
laid-more from end type types s spots (Laid.more {width = w} le room rest) = (w, room, rest)

pub record FieldsStep (source : Source) (around : Around) (type : Ty) (types : List Ty) (spot : FieldSpot) (spots : List FieldSpot) (at : ℕ) (values : Trees) : Type 0 where
  pub tree : Tree
  pub rest : Trees
  pub is : values ≡ And tree rest
  pub first : Stands source around type (at + begin_at spot) tree
  pub others : FieldsStand source around types spots at rest

pub fields-step : (source : Source) (around : Around) (type : Ty) (types : List Ty) (spot : FieldSpot) (spots : List FieldSpot) (at : ℕ) (values : Trees) → FieldsStand source around (type ∷ types) (spot ∷ spots) at values
    → FieldsStep source around type types spot spots at values
fields-step source around type types spot spots at values s =
    let held = Got itself (bits_from source.space.now source.from) around.whole in
    let found = is-more type types values s.fit in
    let read = subst (λ v. FieldsRead source.program.now source.layouts.now.structures held at (type ∷ types) (spot ∷ spots) v) found.2 s.read in
    let parts = read-more held type types spot spots found.0 found.1 read.0 read.1 read.2 in
    let lies = laid-more s.from s.width type types spot spots s.laid in
    let le = Laid-le lies.2 in
    record {
      tree = found.0;
      rest = found.1;
      is = found.2;
      first = record {
        context = s.context;
        typed = All-head (IsTyped source around s.context) type types s.typed;
        fits = found.3;
        read = parts.0;
        width = lies.0;
        room = lies.1;
        inside = omega (arith, s.inside, le);
      };
      others = record {
        context = s.context;
        typed = All-tail (IsTyped source around s.context) type types s.typed;
        fit = found.4;
        read = parts.1;
        from = begin_at spot + lies.0;
        width = s.width;
        laid = lies.2;
        inside = s.inside;
      };
    }

pub fields-first : (source : Source) (around : Around) (type : Ty) (types : List Ty) (spot : FieldSpot) (spots : List FieldSpot) (at : ℕ) (values : Trees) (s : FieldsStand source around (type ∷ types) (spot ∷ spots) at values)
    → (fields-step source around type types spot spots at values s).first.context.scope ≡ s.context.scope
unfolding fields-step
fields-first source around type types spot spots at values s = refl

pub fields-others : (source : Source) (around : Around) (type : Ty) (types : List Ty) (spot : FieldSpot) (spots : List FieldSpot) (at : ℕ) (values : Trees) (s : FieldsStand source around (type ∷ types) (spot ∷ spots) at values)
    → (fields-step source around type types spot spots at values s).others.context.scope ≡ s.context.scope
unfolding fields-step
fields-others source around type types spot spots at values s = refl

pub some-spots : (source : Source) (around : Around) (type : Ty) (types : List Ty) (spots : List FieldSpot) (at : ℕ) (values : Trees) → FieldsStand source around (type ∷ types) spots at values → 0 < length spots
some-spots source around type types [] at values s = let found = is-more type types values s.fit in absurd (read-no_spots type types values s.read.0 s.read.1)
some-spots source around type types (spot ∷ spots) at values s = omega arith

-- the values of fields of which some were read, and the rest
pub record FieldsRest {X : Type 0} (source : Source) (around : Around) (type_of : X → Ty) (fields : List X) (spots : List FieldSpot) (at : ℕ) (values : Trees) (made : List Value) (i : ℕ) : Type 0 where
  pub rest : Trees
  pub front : values ≡ joined (map tree_of made) rest
  pub stand : FieldsStand source around (map type_of (drop i fields)) (drop i spots) at rest

module _ {X : Type 0} (source : Source) (around : Around) (type_of : X → Ty) (fields : List X) (spots : List FieldSpot) (at : ℕ) (values : Trees) where
  pub fields-end : (made : List Value) (i : ℕ) → length fields ≤ i → FieldsRest source around type_of fields spots at values made i → trees (map tree_of made) ≡ values
  fields-end made i le r =
      let none : drop i fields ≡ [] = drop_of_length-le fields le in
      front-all made values r.rest r.front (is-none r.rest (subst (λ fs. Rattle.gt_tree.specs.Fits.AllFit source.program.now r.stand.context.blocks r.stand.context.capacity r.stand.context.scope (map type_of fs) r.rest) none r.stand.fit))

  spots-left : (made : List Value) (i : ℕ) (f : X) → i < length fields → f ≡ get_or fields i f → (r : FieldsRest source around type_of fields spots at values made i)
      → FieldsStand source around (type_of f ∷ map type_of (drop (i + 1) fields)) (drop i spots) at r.rest
  spots-left made i f lt is r =
      let next : suc i ≡ i + 1 = omega arith in
      let here : drop i fields ≡ f ∷ drop (i + 1) fields = drop-cons fields i f lt ∙ ap (λ g. g ∷ drop (suc i) fields) (sym is) ∙ ap (λ k. f ∷ drop k fields) next in
      subst (λ fs. FieldsStand source around (map type_of fs) (drop i spots) at r.rest) here r.stand

  pub spot-there : (made : List Value) (i : ℕ) (f : X) → i < length fields → f ≡ get_or fields i f → FieldsRest source around type_of fields spots at values made i → i < length spots
  spot-there made i f lt is r =
      let some = some-spots source around (type_of f) (map type_of (drop (i + 1) fields)) (drop i spots) at r.rest (spots-left made i f lt is r) in
      omega (arith, some, length-drop i spots)

  -- the next of them
  pub fields-next : (made : List Value) (i : ℕ) (f : X) (spot : FieldSpot) → i < length fields → f ≡ get_or fields i f → spot ≡ get_or spots i spot → (r : FieldsRest source around type_of fields spots at values made i)
      → FieldsStep source around (type_of f) (map type_of (drop (i + 1) fields)) spot (drop (i + 1) spots) at r.rest
  fields-next made i f spot lt is spot_is r =
      let within = spot-there made i f lt is r in
      let next : suc i ≡ i + 1 = omega arith in
      let here : drop i spots ≡ spot ∷ drop (i + 1) spots = drop-cons spots i spot within ∙ ap (λ g. g ∷ drop (suc i) spots) (sym spot_is) ∙ ap (λ k. spot ∷ drop k spots) next in
      fields-step source around (type_of f) (map type_of (drop (i + 1) fields)) spot (drop (i + 1) spots) at r.rest
      (subst (λ ss. FieldsStand source around (type_of f ∷ map type_of (drop (i + 1) fields)) ss at r.rest) here (spots-left made i f lt is r))

  pub fields-more : (made more : List Value) (i : ℕ) (f : X) (spot : FieldSpot) (x : Value) → i < length fields → f ≡ get_or fields i f → spot ≡ get_or spots i spot → FieldsRest source around type_of fields spots at values made i
      → ((value : Tree) → Stands source around (type_of f) (at + begin_at spot) value → tree_of x ≡ value) → more ≡ made ++ x ∷ [] → FieldsRest source around type_of fields spots at values more (i + 1)
  fields-more made more i f spot x lt is spot_is r reads pushed =
      let step = fields-next made i f spot lt is spot_is r in
      record { rest = step.rest; front = front-more made more x values r.rest step.rest step.tree r.front step.is (reads step.tree step.first) pushed; stand = step.others }
