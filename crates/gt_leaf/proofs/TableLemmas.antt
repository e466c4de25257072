-- The paths and roots that are collected are the table of the program, and what the table says of a holder.
use Rattle.std.proofs.Common.{◌≡◌, ℕ, Bool, true, false, not, IsTrue, List, [], ◌∷◌, refl, ap, sym, subst, ◌∙◌, Option, Some, None, inl, inr}
use Rattle.std.specs.Prelude.{◌↔◌, Contains, nat_eq}
use Rattle.std.specs.List.{list_any}
use Rattle.std.proofs.lemmas.Bool.Decides.{Decides-eqb}
use Rattle.gt_types.specs.declared.expressions.Base.TheVariants.{Here, Outer, Outermost}
use Rattle.gt_types.specs.declared.expressions.Expr.{Expr}
use Rattle.gt_types.specs.declared.types.TypeId.{TypeId}
use Rattle.gt_types.specs.declared.types.Ty.{Ty}
use Rattle.gt_types.specs.declared.types.Ty.TheVariants as ty
use Rattle.gt_types.specs.declared.program.Program.{Program}
use Rattle.gt_paths.specs.Numbers.{numbered}
use Rattle.gt_value.specs.declared.places.Holder.{Holder}
use Rattle.gt_value.specs.declared.places.Holder.TheVariants as lies_in
use Rattle.gt_starts.specs.Paths.{Starts, BeginsIn, EndsFrom}
use Rattle.gt_starts.specs.Ways.{Way, hidden, way_to, EndsIn, LeadsAlong}
use Rattle.gt_leaf.specs.declared.reads.Reads.{Reads}
use Rattle.gt_leaf.specs.Collecting.{roots_of_all}
use Rattle.gt_leaf.specs.Seeking.{PathStarts, AllInside, AllOutermost}
use Rattle.gt_leaf.specs.Tables.{IsTableOf}
use Rattle.gt_leaf.specs.Around.{LeadsFrom, SomeLead, TopLeads}
use Rattle.gt_leaf.specs.Unread.{Enclosing, Around, none_around, outermost_in, with_structure, with_itself, part_at, root_at, structures_from, structures_on, structures_in_statics, IsReadName, IsReadRoot, IsUnread}
use Rattle.gt_leaf.proofs.RootLemmas.{roots-read}
use Rattle.gt_leaf.proofs.Members.{nothing, first, later, first-or-later, found-there, there-found}

-- ---- the table

pub table-of : (program : Program) (inside outermost : Starts) (roots no_roots : List ℕ) (table : Reads) → table ≡ record { inside = inside; outermost = outermost; roots = roots }
    → ((names : List (List ℕ)) (begin : ℕ) → BeginsIn inside names begin ↔ AllInside program names begin) → ((names : List (List ℕ)) (begin : ℕ) → BeginsIn outermost names begin ↔ AllOutermost program names begin)
    → no_roots ≡ [] → roots ≡ roots_of_all program no_roots → IsTableOf program table
table-of program inside outermost roots no_roots table is are_inside are_outermost none_roots roots_is =
    let named : roots ≡ roots_of_all program [] = roots_is ∙ ap (roots_of_all program) none_roots in
    subst (IsTableOf program) (sym is)
    (record {
      inside = λ begin names. are_inside names begin.0;
      outermost = λ begin names. are_outermost names begin.0;
      roots = λ i. subst (λ places. Contains places i ↔ IsReadRoot program i) (sym named) (roots-read program i);
    })

-- ---- the structures around a leaf

module _ (starts : PathStarts) (last : List ℕ) where
  pub none-lead : (false ≡ true) ↔ SomeLead starts last []
  none-lead = (λ e. absurd (cc), λ (outer, c, leads). absurd (nothing outer c))

  -- a path may lead from the structure itself, or from one around it
  pub itself-leads : (outer : Enclosing) (structures : List Enclosing) (b : Bool) → b ≡ true → (b ≡ true) ↔ LeadsFrom starts last outer → (b ≡ true) ↔ SomeLead starts last (outer ∷ structures)
  itself-leads outer structures b is f = (λ e. (outer, first outer structures, f.0 e), λ some. is)

  pub others-lead : (outer : Enclosing) (structures : List Enclosing) (b any : Bool) → b ≡ false → (b ≡ true) ↔ LeadsFrom starts last outer → (any ≡ true) ↔ SomeLead starts last structures
      → (any ≡ true) ↔ SomeLead starts last (outer ∷ structures)
  others-lead outer structures b any is f g = (there, back)
    where
      there : any ≡ true → SomeLead starts last (outer ∷ structures)
      there e = let some = g.0 e in (some.0, later outer some.0 structures some.1, some.2)

      back : SomeLead starts last (outer ∷ structures) → any ≡ true
      back (other, c, leads) = elim (first-or-later outer other structures c) [
        | inl same ↦ let so : b ≡ true = f.1 (subst (LeadsFrom starts last) (sym same) leads) in absurd (cc)
        | inr after ↦ g.1 (other, after, leads)
      ]

  pub top-leads : (top : Option Enclosing) (outer : Enclosing) (b : Bool) → top ≡ Some outer → (b ≡ true) ↔ LeadsFrom starts last outer → (b ≡ true) ↔ TopLeads starts last top
  top-leads top outer b is f = (λ e. (outer, is, f.0 e), back)
    where
      back : TopLeads starts last top → b ≡ true
      back (other, h, leads) = let same : other ≡ outer = cc in f.1 (subst (LeadsFrom starts last) same leads)

-- one step on a path
pub from-step : (program : Program) (around : Around) (o : Option Ty) (type : Ty) (path : List ℕ) (i : ℕ) (rest : List ℕ) (next : Option Ty) → o ≡ Some type → path ≡ i ∷ rest → next ≡ part_at program type i
    → structures_from program around o path ≡ structures_from program (with_itself program around type path) next rest
from-step program around o type path i rest next there is goes =
    ap (λ q. structures_from program around q path) there
    ∙ ap (structures_from program around (Some type)) is
    ∙ ap (λ q. structures_from program (with_itself program around type (i ∷ rest)) q rest) (sym goes)
    ∙ ap (λ w. structures_from program (with_itself program around type w) next rest) (sym is)

-- so the first one in the static record
pub static-step : (program : Program) (path : List ℕ) (i : ℕ) (rest : List ℕ) (o : Option Ty) → path ≡ i ∷ rest → o ≡ root_at program i → structures_on program o rest ≡ structures_in_statics program path
static-step program path i rest o is root = ap (λ q. structures_on program q rest) root ∙ ap (structures_in_statics program) (sym is)

-- the outermost structure stays so further inside
outermost-stays : (program : Program) (around : Around) (outer : Enclosing) (type : Option Ty) (path : List ℕ) → around.outermost ≡ Some outer → (structures_from program around type path).outermost ≡ Some outer
outermost-stays program around outer None path e = e
outermost-stays program around outer (Some type) [] e = e
outermost-stays program around outer (Some (ty.Node node desc)) (i ∷ path) e =
    outermost-stays program (with_structure program around node (i ∷ path)) outer (part_at program (ty.Node node desc) i) path (ap (λ o. Some (outermost_in o (node, way_to program (Some node) (i ∷ path)))) e)
outermost-stays program around outer (Some type) (i ∷ path) e = outermost-stays program (with_itself program around type (i ∷ path)) outer (part_at program type i) path e

-- the first structure on a path is the outermost one
pub first-outermost : (program : Program) (o : Option Ty) (type : Ty) (node : TypeId) (desc : Option Expr) (path : List ℕ) (i : ℕ) (rest : List ℕ) → o ≡ Some type → type ≡ ty.Node node desc → path ≡ i ∷ rest
    → (structures_from program (none_around None) o path).outermost ≡ Some (node, way_to program (Some node) path)
first-outermost program o type node desc path i rest there is steps =
    let outer : Enclosing = (node, way_to program (Some node) path) in
    let step = from-step program (none_around None) o (ty.Node node desc) path i rest (part_at program (ty.Node node desc) i) (there ∙ ap Some is) steps refl in
    ap (λ (a : Around). a.outermost) step ∙ outermost-stays program (with_structure program (none_around None) node path) outer (part_at program (ty.Node node desc) i) rest refl

-- ---- what the table says of a name

module _ (program : Program) (table : Reads) (around : Around) (last : List ℕ) (t : IsTableOf program table) where
  top-back : TopLeads (BeginsIn table.outermost) last around.outermost → IsReadName program around true last
  top-back (outer, stands, (names, begins, leads)) = (Outermost, outer, stands, (names, (t.outermost outer.0 names).0 begins, leads))

  pub top-read : (a : Bool) → a ≡ true → (a ≡ true) ↔ TopLeads (BeginsIn table.outermost) last around.outermost → (a ≡ true) ↔ IsReadName program around true last
  top-read a is f = (λ e. top-back (f.0 e), λ read. is)

  pub around-read : (a b : Bool) → a ≡ false → (a ≡ true) ↔ TopLeads (BeginsIn table.outermost) last around.outermost → (b ≡ true) ↔ SomeLead (BeginsIn table.inside) last around.structures → (b ≡ true) ↔ IsReadName program around true last
  around-read a b is f g = (there, back)
    where
      there : b ≡ true → IsReadName program around true last
      there e =
          let some = g.0 e in
          let names = some.2.0 in
          elim ((t.inside some.0.0 names).0 some.2.1) [ inl has ↦ (Here, some.0, some.1, (names, has, some.2.2)) | inr has ↦ (Outer, some.0, some.1, (names, has, some.2.2)) ]

      back : IsReadName program around true last → b ≡ true
      back (Here, outer, stands, (names, has, leads)) = g.1 (outer, stands, (names, (t.inside outer.0 names).1 (inl has), leads))
      back (Outer, outer, stands, (names, has, leads)) = g.1 (outer, stands, (names, (t.inside outer.0 names).1 (inr has), leads))
      back (Outermost, outer, stands, (names, has, leads)) = let so : a ≡ true = f.1 (outer, stands, (names, (t.outermost outer.0 names).1 has, leads)) in absurd (cc)

  -- some path that ends in the name, from a table of paths
  abbrev SomeEnds : Starts → Type 0
  SomeEnds starts = (begin : ℕ) × EndsFrom starts last begin

  inside-hidden : SomeEnds table.inside → IsReadName program around false last
  inside-hidden (begin, (names, ends, begins)) = elim ((t.inside (numbered begin) names).0 begins) [
    | inl has ↦ (Here, (numbered begin, hidden []), refl, (names, has, (names, refl, ends)))
    | inr has ↦ (Outer, (numbered begin, hidden []), refl, (names, has, (names, refl, ends)))
  ]

  outermost-hidden : SomeEnds table.outermost → IsReadName program around false last
  outermost-hidden (begin, (names, ends, begins)) = (Outermost, (numbered begin, hidden []), refl, (names, (t.outermost (numbered begin) names).0 begins, (names, refl, ends)))

  pub inside-read : (a : Bool) → a ≡ true → (a ≡ true) ↔ SomeEnds table.inside → (a ≡ true) ↔ IsReadName program around false last
  inside-read a is f = (λ e. inside-hidden (f.0 e), λ read. is)

  -- a path that may lead anywhere ends in the name
  ends-there : (way : Way) (names : List (List ℕ)) → way ≡ hidden [] → LeadsAlong way last names → EndsIn last names
  ends-there way names none leads = let along = subst (λ w. LeadsAlong w last names) none leads in (along.2.0, along.1 ∙ along.2.1)

  pub outermost-read : (a b : Bool) → a ≡ false → (a ≡ true) ↔ SomeEnds table.inside → (b ≡ true) ↔ SomeEnds table.outermost → (b ≡ true) ↔ IsReadName program around false last
  outermost-read a b is f g = (λ e. outermost-hidden (g.0 e), back)
    where
      back : IsReadName program around false last → b ≡ true
      back (Here, outer, none, (names, has, leads)) = let so : a ≡ true = f.1 (outer.0.0, (names, ends-there outer.1 names none leads, (t.inside outer.0 names).1 (inl has))) in absurd (cc)
      back (Outer, outer, none, (names, has, leads)) = let so : a ≡ true = f.1 (outer.0.0, (names, ends-there outer.1 names none leads, (t.inside outer.0 names).1 (inr has))) in absurd (cc)
      back (Outermost, outer, none, (names, has, leads)) = g.1 (outer.0.0, (names, ends-there outer.1 names none leads, (t.outermost outer.0 names).1 has))

-- ---- what it says of a root

true-or-not : (b : Bool) → ¬ (b ≡ true) → IsTrue (not b)
true-or-not true h = absurd (h refl)
true-or-not false h = refl

not-true : (b : Bool) → IsTrue (not b) → ¬ (b ≡ true)
not-true true h e = absurd (cc)
not-true false h e = cc

root-unread : (program : Program) (table : Reads) (around : Around) (active : Bool) (place : ℕ) → IsTableOf program table → IsTrue (not (list_any (nat_eq place) table.roots)) ↔ IsUnread program around active (lies_in.Root place)
root-unread program table around active place t = (there, back)
  where
    there : IsTrue (not (list_any (nat_eq place) table.roots)) → IsUnread program around active (lies_in.Root place)
    there h = λ read. not-true (list_any (nat_eq place) table.roots) h (there-found (nat_eq place) table.roots place ((Decides-eqb place place).1 refl) ((t.roots place).1 read))

    back : IsUnread program around active (lies_in.Root place) → IsTrue (not (list_any (nat_eq place) table.roots))
    back unread =
        true-or-not (list_any (nat_eq place) table.roots)
        (λ e. unread ((t.roots place).0 (found-there (nat_eq place) table.roots place (λ z h. sym ((Decides-eqb place z).0 h)) e)))

pub root-answer : (program : Program) (table : Reads) (around : Around) (active : Bool) (place : ℕ) (told : Bool) (holder : Holder) → told ≡ list_any (nat_eq place) table.roots → holder ≡ lies_in.Root place → IsTableOf program table
    → IsTrue (not told) ↔ IsUnread program around active holder
root-answer program table around active place told holder e is t =
    subst (λ x. IsTrue (not x) ↔ IsUnread program around active holder) (sym e)
    (subst (λ y. IsTrue (not (list_any (nat_eq place) table.roots)) ↔ IsUnread program around active y) (sym is) (root-unread program table around active place t))
