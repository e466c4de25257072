-- The ways from structures to their parts, step by step; and what is left of a path of names on its way to a leaf.
use Rattle.std.proofs.Common.{◌≡◌, ℕ, true, false, List, [], ◌∷◌, ◌++◌, refl, ap, sym, subst, ◌∙◌, Some, None, if◌then◌else◌, append-nil}
use Rattle.std.specs.Prelude.{slice_get}
use Rattle.std.proofs.lemmas.List.{append_assoc}
use Rattle.gt_types.specs.declared.types.TypeId.{TypeId}
use Rattle.gt_types.specs.declared.types.Ty.{Ty}
use Rattle.gt_types.specs.declared.types.Ty.TheVariants as ty
use Rattle.gt_types.specs.declared.program.Field.{Field}
use Rattle.gt_types.specs.declared.program.Structure.{Structure}
use Rattle.gt_types.specs.declared.program.Program.{Program}
use Rattle.gt_types.specs.Shapes.{is_number}
use Rattle.gt_types.specs.Contains.{HasStructure, itself}
use Rattle.gt_tree.specs.Scopes.{◌then◌}
use Rattle.gt_starts.specs.Ways.{Way, known, hidden, after_name, name_at, inner_at, is_union_in, is_union, way_to, EndsIn, LeadsAlong}

abbrev pub Names : Type 0
Names = List (List ℕ)

-- a way with a name in front of it
abbrev pub with_first : List ℕ → Way → Way
with_first name way = after_name (Some name) way

-- a way with names in front of it
abbrev pub after : Names → Way → Way
after front (known names) = known (front ++ names)
after front (hidden names) = hidden (front ++ names)

-- ---- a way

-- a number is no structure
no-inner : (type : Ty) → is_number type ≡ true → itself type ≡ None
no-inner (ty.Node node desc) e = absurd (cc)
no-inner type e = refl

module _ (program : Program) (node : TypeId) (s : Structure) (has : HasStructure program node s) where
  is-union : is_union program node ≡ s.is_union
  is-union = ap is_union_in has

  name-is : (i : ℕ) (f : Field) → slice_get s.fields i ≡ Some f → name_at program node i ≡ Some f.name
  name-is i f get = ap (λ o. o then λ (x : Structure). slice_get x.fields i then λ (y : Field). Some y.name) has ∙ ap (λ o. o then λ (y : Field). Some y.name) get

  inner-is : (i : ℕ) (f : Field) → slice_get s.fields i ≡ Some f → inner_at program node i ≡ itself f.ty
  inner-is i f get = ap (λ o. (o then λ (x : Structure). slice_get x.fields i then λ (y : Field). Some y.ty) then itself) has ∙ ap (λ o. (o then λ (y : Field). Some y.ty) then itself) get

  -- a way into a union is hidden
  pub ways-stop : (i : ℕ) (path : List ℕ) → s.is_union ≡ true → way_to program (Some node) (i ∷ path) ≡ hidden []
  ways-stop i path union = ap (λ b. if b then hidden [] else after_name (name_at program node i) (way_to program (inner_at program node i) path)) (is-union ∙ union)

  -- from a struct it goes on with the name of the field
  pub ways-step : (i : ℕ) (path : List ℕ) (f : Field) → s.is_union ≡ false → slice_get s.fields i ≡ Some f → way_to program (Some node) (i ∷ path) ≡ with_first f.name (way_to program (itself f.ty) path)
  ways-step i path f struct get =
      ap (λ b. if b then hidden [] else after_name (name_at program node i) (way_to program (inner_at program node i) path)) (is-union ∙ struct)
      ∙ ap (λ o. after_name o (way_to program (inner_at program node i) path)) (name-is i f get)
      ∙ ap (λ o. with_first f.name (way_to program o path)) (inner-is i f get)

  -- with that of a number it ends
  pub ways-end : (i : ℕ) (path : List ℕ) (f : Field) → s.is_union ≡ false → slice_get s.fields i ≡ Some f → is_number f.ty ≡ true → way_to program (Some node) (i ∷ path) ≡ known (f.name ∷ [])
  ways-end i path f struct get number = ways-step i path f struct get ∙ ap (λ o. with_first f.name (way_to program o path)) (no-inner f.ty number)

-- ---- what is left

-- The names that are left of a path stand after those up to a structure, and what is left of the way that the path may lead does too; or a
-- union lies between the names up to it and these.
pub data OnWay (all : Names) (way : Way) (names : Names) (rest : Way) : Type 0 where
  onward : (front : Names) → all ≡ front ++ names → way ≡ after front rest → OnWay all way names rest
  behind : (front middle : Names) → all ≡ front ++ (middle ++ names) → way ≡ hidden front → OnWay all way names rest

after-none : (way : Way) → after [] way ≡ way
after-none (known names) = refl
after-none (hidden names) = refl

-- nothing stands in front of the whole path
pub whole-way : (names : Names) (way : Way) → OnWay names way names way
whole-way names way = OnWay.onward [] refl (sym (after-none way))

next-names : (front : Names) (name : List ℕ) (names : Names) → front ++ name ∷ names ≡ (front ++ name ∷ []) ++ names
next-names front name names = sym (append_assoc front (name ∷ []) names)

next-way : (front : Names) (name : List ℕ) (way : Way) → after front (with_first name way) ≡ after (front ++ name ∷ []) way
next-way front name (known names) = ap known (next-names front name names)
next-way front name (hidden names) = ap hidden (next-names front name names)

-- a name behind a union is passed
still-behind : (all : Names) (way : Way) (name : List ℕ) (names : Names) (rest : Way) (front middle : Names) → all ≡ front ++ (middle ++ name ∷ names) → way ≡ hidden front → OnWay all way names rest
still-behind all way name names rest front middle is up = OnWay.behind front (middle ++ name ∷ []) (is ∙ ap (λ ns. front ++ ns) (next-names middle name names)) up

-- a name on the way is passed
pub way-goes : (all : Names) (way : Way) (name : List ℕ) (names : Names) (rest : Way) → OnWay all way (name ∷ names) (with_first name rest) → OnWay all way names rest
way-goes all way name names rest (OnWay.onward front is along) = OnWay.onward (front ++ name ∷ []) (is ∙ next-names front name names) (along ∙ next-way front name rest)
way-goes all way name names rest (OnWay.behind front middle is up) = still-behind all way name names rest front middle is up

-- a name is passed that leads into a union
pub way-stops : (all : Names) (way : Way) (name : List ℕ) (names : Names) (rest : Way) → OnWay all way (name ∷ names) (hidden []) → OnWay all way names rest
way-stops all way name names rest (OnWay.onward front is along) = OnWay.behind front (name ∷ []) is (along ∙ ap hidden (append-nil front))
way-stops all way name names rest (OnWay.behind front middle is up) = still-behind all way name names rest front middle is up

-- the last name leads to the leaf
pub way-ends : (all : Names) (way : Way) (last : List ℕ) → OnWay all way (last ∷ []) (known (last ∷ [])) → LeadsAlong way last all × EndsIn last all
way-ends all way last (OnWay.onward front is along) = (subst (λ w. LeadsAlong w last all) (sym along) is, (front, is))
way-ends all way last (OnWay.behind front middle is up) =
    (subst (λ w. LeadsAlong w last all) (sym up) (middle ++ last ∷ [], is, (middle, refl)), (front ++ middle, is ∙ sym (append_assoc front middle (last ∷ []))))
