-- A leaf at the end of a path, found in the element to which the path first leads.
use Rattle.std.proofs.Common.{◌≡◌, ℕ, List, ◌∷◌, false, sym, subst, ◌∙◌, Option, Some, None}
use Rattle.std.specs.Prelude.{MatchOption}
use Rattle.gt_types.specs.declared.program.Program.{Program}
use Rattle.gt_layout.specs.declared.planes.Layouts.{Layouts}
use Rattle.gt_tree.specs.Trees.{is_word}
use Rattle.gt_tree.specs.Blocks.{element_type}
use Rattle.gt_value.specs.declared.cursors.Cursor.{Cursor}
use Rattle.gt_value.specs.declared.places.Place.{Place}
use Rattle.gt_value.specs.declared.places.LeafContent.{LeafContent}
use Rattle.gt_value.specs.declared.places.LeafContent.TheVariants as content
use Rattle.gt_value.specs.Names.{kind_of}
use Rattle.gt_value.specs.Places.{Part}
use Rattle.gt_value.specs.Cursors.{Frame, frame, element_part, IsAt}
use Rattle.gt_graph.specs.Objects.{Object}
use Rattle.gt_graph.specs.Changes.{Owner}
use Rattle.gt_graph.specs.Good.{Heap}
use Rattle.gt_objects.specs.declared.objects.Objects.{Objects}
use Rattle.gt_elements.specs.declared.parts.Element.{Element}
use Rattle.gt_elements.specs.Elements.{IsFirstOf}
use Rattle.gt_routes.specs.Reaching.{IsInElement}
use Rattle.gt_writes.specs.declared.found.Found.{Found}
use Rattle.gt_writes.specs.declared.found.Target.{Target}
use Rattle.gt_writes.specs.FoundLeaves.{LiesInElement, IsFoundAt, IsTarget}
use Rattle.gt_asking.specs.Judging.{IsLeafOf, IsLeafTold, IsNamed}

rest-same : (a b : ℕ) (xs ys : List ℕ) → a ∷ xs ≡ b ∷ ys → xs ≡ ys
rest-same a b xs ys e = cc

-- it lies in the element in which the cursor stands
lies-in : (program : Program) (layouts : Layouts) (objects : Objects) (e : Element) (path : List ℕ) (c : Cursor) (place : Place) → IsInElement program layouts objects e path c → IsLeafOf c place → LiesInElement program layouts objects.space e path place
lies-in program layouts objects e path c place inside leaf statics value s =
    let here = (inside statics value s).here in
    record { p = here.p; lies = here.lies; there = here.there; is = leaf (frame program layouts objects.space e.addr) (element_part statics (element_type program (kind_of e.kind)) value) path here }

pub found-there : (program : Program) (layouts : Layouts) (objects : Objects) (heap : Heap) (owner : Owner) (path : List ℕ) (c : Cursor) (f : Found) → IsFirstOf program layouts objects heap owner path f.element
    → (place : ℕ) × (rest : List ℕ) × (path ≡ place ∷ rest) × IsInElement program layouts objects f.element rest c → IsLeafOf c f.place → ((t : Target) → f.target ≡ Some t → IsTarget heap.graph.objects t)
    → IsFoundAt program layouts objects heap owner path f
found-there program layouts objects heap owner path c f first (place, rest, path_is, inside) is target =
    let rests = rest-same place first.place rest first.rest (sym path_is ∙ first.path_is) in
    record { first = first; lies = subst (λ r. LiesInElement program layouts objects.space f.element r f.place) rests (lies-in program layouts objects f.element rest c f.place inside is); target = target }

-- what is known of the object that a leaf names
pub named-target : (there : List Object) (leaf : LeafContent) (t : Target) → IsNamed there leaf (Some t) → IsTarget there t
named-target there (content.To id) t (same, is) = is
named-target there (content.Num n) t h = absurd (cc)
named-target there content.Null t h = absurd (cc)

-- what a cursor tells of the leaf at which it stands
pub leaf-told : (c : Cursor) (place : Option Place) → MatchOption place ((at : Frame) (value : Part) (path : List ℕ) (there : IsAt at c value path) → is_word there.p.tree ≡ false) (IsLeafOf c) → IsLeafTold c place
leaf-told c (Some place) h = h
leaf-told c None h = h
