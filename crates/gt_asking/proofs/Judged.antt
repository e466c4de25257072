-- Which leaves may be written at a spot.
use Rattle.std.proofs.Common.{◌≡◌, ℕ, Bool, true, false, List, refl, ap, sym, subst, ◌∙◌, Some, None}
use Rattle.std.specs.Prelude.{not, ◌&&◌}
use Rattle.std.specs.Bool.{Decides}
use Rattle.gt_types.specs.declared.types.Ty.{Ty}
use Rattle.gt_types.specs.declared.program.Program.{Program}
use Rattle.gt_types.specs.Shapes.{is_pointer}
use Rattle.gt_layout.specs.declared.planes.Layouts.{Layouts}
use Rattle.gt_tree.specs.Trees.{is_word}
use Rattle.gt_tree.specs.Blocks.{Chars}
use Rattle.gt_tree.proofs.PathBits.{some-same}
use Rattle.gt_value.specs.declared.cursors.Cursor.{Cursor}
use Rattle.gt_value.specs.declared.places.Place.{Place}
use Rattle.gt_value.specs.declared.places.LeafContent.{LeafContent}
use Rattle.gt_value.specs.declared.places.LeafContent.TheVariants as content
use Rattle.gt_value.specs.declared.names.BlockKind.{BlockKind}
use Rattle.gt_value.specs.Names.{kind_of}
use Rattle.gt_value.specs.Places.{IsPlaceOfPart}
use Rattle.gt_graph.specs.Objects.{Object, object_of}
use Rattle.gt_graph.specs.Changes.{Owner, Of}
use Rattle.gt_graph.specs.Good.{Heap}
use Rattle.gt_objects.specs.declared.objects.Objects.{Objects}
use Rattle.gt_objects.specs.declared.objects.Known.{Known}
use Rattle.gt_objects.specs.Knowing.{IsKnownAt}
use Rattle.gt_elements.specs.declared.parts.Element.{Element}
use Rattle.gt_elements.specs.Elements.{IsFirstOf}
use Rattle.gt_next.specs.Spots.{Spot, is_in_none}
use Rattle.gt_next.specs.Leaves.{kind_named}
use Rattle.gt_routes.specs.Reaching.{IsValueAt}
use Rattle.gt_routes.proofs.Targets.{pointer-leaf}
use Rattle.gt_tree.specs.Scopes.{Typed, typed}
use Rattle.gt_next.specs.Spots.{Value, standing_at}
use Rattle.gt_next.specs.Leaves.{is_in_range}
use Rattle.gt_next.specs.declared.answer.Why.TheVariants.{WrongType, OutOfRange}
use Rattle.gt_routes.proofs.SpotParts.{value-same}
use Rattle.gt_writes.specs.SpotWrites.{LeafSuits, SpotTakes}
use Rattle.gt_writes.specs.declared.found.Target.{Target}
use Rattle.gt_asking.specs.Judging.{is_idle, is_beyond, IsFixedIn, IsIdleAt, IsNamed, SuitsAs, RefusesLeaf}

of-same : (a b : ℕ) → Of a ≡ Of b → a ≡ b
of-same a b e = cc

fixed-of : (heap : Heap) (address : ℕ) (owner : Owner) (o : Object) (kind : BlockKind) (r : Bool) → owner ≡ Of address → object_of heap.graph.objects address ≡ Some o → o.kind ≡ kind_of kind → Decides r (kind_of kind ≡ Chars)
    → Decides r (IsFixedIn heap owner)
fixed-of heap address owner o kind r is there of_kind d = (λ e. (address, o, is, there, of_kind ∙ d.0 e), back)
  where
    back : IsFixedIn heap owner → r ≡ true
    back (id, x, own, found, chars) =
        let ids : address ≡ id = of-same address id (sym is ∙ own) in
        let here = subst (λ i. object_of heap.graph.objects i ≡ Some x) (sym ids) found in
        let same : o ≡ x = some-same (object_of heap.graph.objects address) o x there here in
        d.1 (sym of_kind ∙ ap (λ (y : Object). y.kind) same ∙ chars)

pub fixed-some : (heap : Heap) (address : ℕ) (owner : Owner) (known : Known) (r : Bool) → owner ≡ Of address → IsKnownAt heap.graph.objects address (Some known) → Decides r (kind_of known.kind ≡ Chars) → Decides r (IsFixedIn heap owner)
fixed-some heap address owner known r is (o, there, k) d = fixed-of heap address owner o known.kind r is there k.kind d

-- the element to which a path first leads is of what its object holds
pub fixed-first : (program : Program) (layouts : Layouts) (objects : Objects) (heap : Heap) (owner : Owner) (path : List ℕ) (e : Element) (r : Bool) → IsFirstOf program layouts objects heap owner path e → Decides r (kind_of e.kind ≡ Chars)
    → Decides r (IsFixedIn heap owner)
fixed-first program layouts objects heap owner path e r f d = fixed-of heap f.address owner f.there.0 e.kind r f.owner_is f.there.1 f.there.2.kind d

pub fixed-none : (heap : Heap) (address : ℕ) (owner : Owner) → owner ≡ Of address → object_of heap.graph.objects address ≡ None → Decides false (IsFixedIn heap owner)
fixed-none heap address owner is none = (λ e. absurd (cc), back)
  where
    back : IsFixedIn heap owner → false ≡ true
    back (id, x, own, found, chars) =
        let ids : address ≡ id = of-same address id (sym is ∙ own) in
        let here = subst (λ i. object_of heap.graph.objects i ≡ Some x) (sym ids) found in
        absurd (cc)

pub suits-named : (there : List Object) (id : ℕ) (type : Ty) (t : Target) (r : Bool) → IsNamed there (content.To id) (Some t) → Decides r (kind_named type ≡ Some (kind_of t.known.kind)) → Decides r (SuitsAs there type (content.To id))
suits-named there id type t r (at, o) d =
    let here : object_of there id ≡ Some o.0 = subst (λ i. object_of there i ≡ Some o.0) at o.1 in
    (λ e. (o.0, here, d.0 e ∙ ap Some (sym o.2.kind)), λ su. d.1 (su.2 ∙ ap (λ (y : Object). Some y.kind) (some-same (object_of there id) su.0 o.0 su.1 here) ∙ ap Some o.2.kind))

pub suits-none : (there : List Object) (id : ℕ) (type : Ty) → object_of there id ≡ None → Decides false (SuitsAs there type (content.To id))
suits-none there id type none = (λ e. absurd (cc), back)
  where
    back : SuitsAs there type (content.To id) → false ≡ true
    back (x, found, names) = absurd (cc)

-- what is known of the object that a leaf names
pub named-known : (heap : Heap) (id : ℕ) (known : Known) → IsKnownAt heap.graph.objects id (Some known) → IsNamed heap.graph.objects (content.To id) (Some (record { addr = id; known = known }))
named-known heap id known is = (refl, is)

not-not : (a b : Bool) → a ≡ not b → not a ≡ b
not-not a true e = ap not e
not-not a false e = ap not e

both-true : (a b : Bool) → (a && b) ≡ true → (a ≡ true) × (b ≡ true)
both-true true b e = (refl, e)
both-true false b e = absurd (cc)

true-of : (b : Bool) → not b ≡ false → b ≡ true
true-of true e = refl
true-of false e = absurd (cc)

leaf-suits : (heap : Heap) (type : Ty) (leaf : LeafContent) → SuitsAs heap.graph.objects type leaf → is_beyond type leaf ≡ false → LeafSuits heap.graph.objects type leaf
leaf-suits heap type (content.Num n) s e = LeafSuits.number s (true-of (is_in_range type n) e)
leaf-suits heap type content.Null s e = LeafSuits.null s
leaf-suits heap type (content.To id) (o, there, names) e = LeafSuits.to there names

module _ (program : Program) (layouts : Layouts) (objects : Objects) (heap : Heap) (at : Spot) (c : Cursor) (v : IsValueAt program layouts objects heap at c) where
  pub idle-some : (place : Place) → IsPlaceOfPart v.frame.program v.frame.space v.frame.addr v.here.here.p place → (is_pointer c.ty.now && not place.active) ≡ is_idle heap at c.ty.now
  idle-some place is = ap (λ b. is_pointer c.ty.now && b) (not-not place.active (is_in_none heap.graph at) (is.active_is ∙ v.active))

  pub idle-none : is_word v.here.here.p.tree ≡ false → false ≡ is_idle heap at c.ty.now
  idle-none none = go (is_pointer c.ty.now) refl
    where
      go : (b : Bool) → is_pointer c.ty.now ≡ b → false ≡ (b && is_in_none heap.graph at)
      go true e = absurd (pointer-leaf v.frame v.value v.path c v.here e none)
      go false e = refl

  pub idle-of : (place : Place) → IsPlaceOfPart v.frame.program v.frame.space v.frame.addr v.here.here.p place → (r pointer : Bool) (type : Ty) → r ≡ (pointer && not place.active) → pointer ≡ is_pointer type → type ≡ c.ty.now → r ≡ is_idle heap at c.ty.now
  idle-of place is r pointer type e h i = e ∙ ap (λ b. b && not place.active) (h ∙ ap is_pointer i) ∙ idle-some place is

  abbrev here : Typed
  here = typed v.here.here.p.type v.here.here.p.tree

  type-is : c.ty.now ≡ v.here.here.p.type
  type-is = v.here.here.is.type_is

  same-there : (t : Typed) → standing_at program heap.graph at ≡ Some (Value t) → t ≡ here
  same-there t e = value-same t here (some-same (standing_at program heap.graph at) (Value t) (Value here) e v.standing)

  pub idle-refused : is_idle heap at c.ty.now ≡ true → IsIdleAt program heap at
  idle-refused e = let both = both-true (is_pointer c.ty.now) (is_in_none heap.graph at) e in (here, v.standing, sym (ap is_pointer type-is) ∙ both.0, both.1)

  not-idle : is_idle heap at c.ty.now ≡ false → ¬ IsIdleAt program heap at
  not-idle e (t, st, pointer, none) =
      let types : is_pointer c.ty.now ≡ true = ap is_pointer type-is ∙ sym (ap (λ (u : Typed). is_pointer u.type) (same-there t st)) ∙ pointer in
      let idle : is_idle heap at c.ty.now ≡ true = ap (λ b. b && is_in_none heap.graph at) types ∙ none in
      cc

  pub unsuited-refused : (leaf : LeafContent) → is_idle heap at c.ty.now ≡ false → ¬ SuitsAs heap.graph.objects c.ty.now leaf → RefusesLeaf program heap at leaf WrongType
  unsuited-refused leaf free unsuited =
      (not-idle free, λ s. unsuited (subst (λ t. SuitsAs heap.graph.objects t leaf) (ap (λ (u : Typed). u.type) (same-there s.0 s.1) ∙ sym type-is) s.2))

  module _ (leaf : LeafContent) (free : is_idle heap at c.ty.now ≡ false) (suits : SuitsAs heap.graph.objects c.ty.now leaf) (open_to : ¬ IsFixedIn heap at.owner) where
    suits-here : SuitsAs heap.graph.objects v.here.here.p.type leaf
    suits-here = subst (λ t. SuitsAs heap.graph.objects t leaf) type-is suits

    pub beyond-refused : is_beyond c.ty.now leaf ≡ true → RefusesLeaf program heap at leaf OutOfRange
    beyond-refused e = (not-idle free, (here, v.standing, suits-here, open_to), here, v.standing, sym (ap (λ t. is_beyond t leaf) type-is) ∙ e)

    pub takes-there : is_beyond c.ty.now leaf ≡ false → SpotTakes program heap.graph at leaf
    takes-there e = record {
      t = here;
      standing = v.standing;
      suits = leaf-suits heap v.here.here.p.type leaf suits-here (sym (ap (λ t. is_beyond t leaf) type-is) ∙ e);
      no_string = λ id o owner there chars. open_to (id, o, owner, there, chars);
      not_idle = λ pointer none. not-idle free (here, v.standing, pointer, none);
    }
