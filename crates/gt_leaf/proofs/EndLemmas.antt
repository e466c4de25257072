-- Each known way to a field ends in its name: where no path ends in it, none leads there.
use Rattle.std.proofs.Common.{◌≡◌, ℕ, ◌≤◌, Bool, true, false, List, [], ◌∷◌, ◌++◌, length, refl, ap, sym, subst, ◌∙◌, ◌⊎◌, arith, Option, Some, None, inl, inr, if◌then◌else◌}
use Rattle.std.specs.Prelude.{◌↔◌, Contains}
use Rattle.std.proofs.lemmas.List.{append_assoc}
use Rattle.gt_types.specs.declared.types.TypeId.{TypeId}
use Rattle.gt_types.specs.declared.types.Ty.{Ty}
use Rattle.gt_types.specs.declared.types.Ty.TheVariants as ty
use Rattle.gt_types.specs.declared.program.Program.{Program}
use Rattle.gt_types.specs.Contains.{itself}
use Rattle.gt_tree.specs.Scopes.{◌then◌}
use Rattle.gt_starts.specs.Paths.{Starts, BeginsIn, EndsFrom}
use Rattle.gt_starts.specs.Ways.{Way, known, hidden, after_name, name_at, inner_at, is_union, way_to, EndsIn, LeadsAlong}
use Rattle.gt_leaf.specs.Around.{SomeLead}
use Rattle.gt_leaf.specs.Ends.{last_name}
use Rattle.gt_leaf.specs.Unread.{Enclosing, Around, none_around, with_structure, with_itself, part_at, structures_from, structures_on}
use Rattle.gt_leaf.proofs.Members.{nothing, first-or-later}
use Rattle.gt_leaf.proofs.WaySteps.{Names, with_first, after}

-- a way is hidden, or goes on so after some names
abbrev GoesOn : Way → Way → Type 0
GoesOn way rest = ((front : Names) × (way ≡ hidden front)) ⊎ ((front : Names) × (way ≡ after front rest))

after-both : (front names : Names) (way : Way) → after front (after names way) ≡ after (front ++ names) way
after-both front names (known rest) = ap known (sym (append_assoc front names rest))
after-both front names (hidden rest) = ap hidden (sym (append_assoc front names rest))

goes-further : (way next rest : Way) → GoesOn way next → GoesOn next rest → GoesOn way rest
goes-further way next rest (inl up) on = inl up
goes-further way next rest (inr (front, is)) (inl (names, up)) = inl (front ++ names, is ∙ ap (after front) up)
goes-further way next rest (inr (front, is)) (inr (names, goes)) = inr (front ++ names, is ∙ ap (after front) goes ∙ after-both front names rest)

-- one step of a way from a structure
way-steps : (union : Bool) (name : Option (List ℕ)) (rest : Way) → GoesOn (if union then hidden [] else after_name name rest) rest
way-steps true name rest = inl ([], refl)
way-steps false None rest = inl ([], refl)
way-steps false (Some n) (known names) = inr (n ∷ [], refl)
way-steps false (Some n) (hidden names) = inr (n ∷ [], refl)

pub way-over : (program : Program) (begin : Option TypeId) → way_to program begin [] ≡ known []
way-over program None = refl
way-over program (Some node) = refl

-- the last step
last-steps : (union : Bool) (name : Option (List ℕ)) (last : List ℕ) (rest : Way) → name ≡ Some last → rest ≡ known [] → GoesOn (if union then hidden [] else after_name name rest) (known (last ∷ []))
last-steps true name last rest e is = inl ([], refl)
last-steps false None last rest e is = absurd (cc)
last-steps false (Some n) last rest e is = let same : n ≡ last = cc in inr ([], ap (with_first n) is ∙ ap (λ x. known (x ∷ [])) same)

-- the known ways from these structures go on so
abbrev AllGo : List Enclosing → Way → Type 0
AllGo structures rest = (outer : Enclosing) → Contains structures outer → GoesOn outer.1 rest

none-go : (rest : Way) → AllGo [] rest
none-go rest = λ outer c. absurd (nothing outer c)

all-step : (structures : List Enclosing) (outer : Enclosing) (rest : Way) → AllGo structures outer.1 → GoesOn outer.1 rest → AllGo (outer ∷ structures) rest
all-step structures outer rest all on other c = elim (first-or-later outer other structures c) [
  | inl same ↦ subst (λ (o : Enclosing). GoesOn o.1 rest) same on
  | inr later ↦ goes-further other.1 outer.1 rest (all other later) on
]

module _ (program : Program) (last : List ℕ) where
  from-over : (around : Around) (type : Option Ty) → structures_from program around type [] ≡ around
  from-over around None = refl
  from-over around (Some type) = refl

  -- where a path ends in a field of this name, the known ways to it do
  all-end : (path : List ℕ) (type : Option Ty) (around : Around) → last_name program type path ≡ Some last → AllGo around.structures (way_to program (type then itself) path) → AllGo (structures_from program around type path).structures (known (last ∷ []))
  all-end [] None around e all = absurd (cc)
  all-end [] (Some type) around e all = absurd (cc)
  all-end (i ∷ path) None around e all = absurd (cc)
  all-end (i ∷ []) (Some (ty.Node node desc)) around e all =
      subst (λ (a : Around). AllGo a.structures (known (last ∷ []))) (sym (from-over (with_structure program around node (i ∷ [])) (part_at program (ty.Node node desc) i)))
      (all-step around.structures (node, way_to program (Some node) (i ∷ [])) (known (last ∷ [])) all
      (last-steps (is_union program node) (name_at program node i) last (way_to program (inner_at program node i) []) e (way-over program (inner_at program node i))))
  all-end (i ∷ []) (Some type) around e all = absurd (cc)
  all-end (i ∷ j ∷ path) (Some (ty.Node node desc)) around e all =
      all-end (j ∷ path) (part_at program (ty.Node node desc) i) (with_structure program around node (i ∷ j ∷ path)) e
      (all-step around.structures (node, way_to program (Some node) (i ∷ j ∷ path)) (way_to program (inner_at program node i) (j ∷ path)) all
      (way-steps (is_union program node) (name_at program node i) (way_to program (inner_at program node i) (j ∷ path))))
  all-end (i ∷ j ∷ path) (Some type) around e all =
      all-end (j ∷ path) (part_at program type i) (with_itself program around type (i ∷ j ∷ path)) e (none-go (way_to program (part_at program type i then itself) (j ∷ path)))

  -- a path that leads along such a way ends in the name
  along-ends : (way : Way) (names : Names) → GoesOn way (known (last ∷ [])) → LeadsAlong way last names → EndsIn last names
  along-ends (hidden front) names on (rest, split, ends) = (front ++ ends.0, split ∙ ap (λ r. front ++ r) ends.1 ∙ sym (append_assoc front ends.0 (last ∷ [])))
  along-ends (known way) names (inl (front, up)) is = absurd (cc)
  along-ends (known way) names (inr (front, goes)) is = let same : way ≡ front ++ last ∷ [] = cc in (front, is ∙ same)

  -- where none ends in it, none leads to the field
  pub none-leads : (starts : Starts) (type : Option Ty) (path : List ℕ) (ends : Bool) → ends ≡ false → (ends ≡ true) ↔ ((begin : ℕ) × EndsFrom starts last begin) → last_name program type path ≡ Some last
      → (false ≡ true) ↔ SomeLead (BeginsIn starts) last (structures_on program type path).structures
  none-leads starts type path ends none any is = (λ e. absurd (cc), back)
    where
      back : SomeLead (BeginsIn starts) last (structures_on program type path).structures → false ≡ true
      back (outer, c, (names, begins, leads)) =
          let all = all-end path type (none_around None) is (none-go (way_to program (type then itself) path)) in
          let so : ends ≡ true = any.1 (outer.0.0, (names, along-ends outer.1 names (all outer c) leads, begins)) in
          absurd (cc)

-- ---- the last name

-- one step on a path that goes on
pub name-step : (program : Program) (o : Option Ty) (type : Ty) (path : List ℕ) (i : ℕ) (rest : List ℕ) (next : Option Ty) → o ≡ Some type → path ≡ i ∷ rest → 1 ≤ length rest → next ≡ part_at program type i
    → last_name program o path ≡ last_name program next rest
name-step program o type path i [] next there is more goes = absurd (omega (arith, more))
name-step program o type path i (j ∷ rest) next there is more goes = ap (λ q. last_name program q path) there ∙ ap (last_name program (Some type)) is ∙ ap (λ q. last_name program q (j ∷ rest)) (sym goes)
