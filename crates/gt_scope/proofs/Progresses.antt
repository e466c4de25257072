-- What is declared so far, and one more declaration.
use Rattle.std.proofs.Common.{◌≡◌, ℕ, suc, ◌≤◌, ℤ, Bool, true, false, List, [], ◌∷◌, ◌++◌, length, Option, Some, None, arith, sym, ap, ap₂, subst, ◌∙◌, refl, if◌then◌else◌}
use Rattle.std.specs.Str.{bytes_eq}
use Rattle.gt_scope.specs.declared.declaration.Declaration.{Declaration}
use Rattle.gt_scope.specs.declared.declaration.What.{What}
use Rattle.gt_names.specs.Entries.{first_some}
use Rattle.gt_scope.specs.Declarations.{first_named, as_constant, constant_in}
use Rattle.gt_scope.specs.FirstValues.{value_named}
use Rattle.gt_scope.proofs.NamedValues.{some-or-none, first_some-assoc}
use Rattle.gt_names.proofs.NameLists.{length-added}

-- the first of a name, with one more declaration after the others
first_named-added : {A : Type 0} (kind : What → Option A) (word : List ℕ) (ds : List Declaration) (d : Declaration)
    → first_named kind word (ds ++ d ∷ []) ≡ first_some (first_named kind word ds) (if bytes_eq d.name.word word then kind d.what else None)
first_named-added kind word [] d = some-or-none _
first_named-added kind word (e ∷ ds) d =
    ap (first_some (if bytes_eq e.name.word word then kind e.what else None)) (first_named-added kind word ds d)
    ∙ first_some-assoc (if bytes_eq e.name.word word then kind e.what else None) (first_named kind word ds) (if bytes_eq d.name.word word then kind d.what else None)

none-either : (b : Bool) (what : What) → as_constant what ≡ None → (if b then as_constant what else None) ≡ None
none-either true what e = e
none-either false what e = refl

-- a declaration of another kind changes no constant
pub constants-others : (word : List ℕ) (ds : List Declaration) (d : Declaration) → as_constant d.what ≡ None → constant_in ds word ≡ constant_in (ds ++ d ∷ []) word
constants-others word ds d e =
    sym (first_named-added as_constant word ds d ∙ ap (first_some (constant_in ds word)) (none-either (bytes_eq d.name.word word) d.what e) ∙ some-or-none _)

-- a constant is added to the constants
pub constants-added : (word : List ℕ) (ds : List Declaration) (d : Declaration) (value : ℤ) → as_constant d.what ≡ Some value
    → first_some (constant_in ds word) (value_named d.name.word value word) ≡ constant_in (ds ++ d ∷ []) word
constants-added word ds d value e =
    sym (first_named-added as_constant word ds d ∙ ap (λ found. first_some (constant_in ds word) (if bytes_eq d.name.word word then found else None)) e)

-- there are no more structures than declarations
pub still-few : (n : ℕ) (ds : List Declaration) (d : Declaration) → n ≤ length ds → n ≤ length (ds ++ d ∷ [])
still-few n ds d h = let e : length (ds ++ d ∷ []) ≡ suc (length ds) = length-added ds d in omega arith

-- what the names' values and the count of structures keep to
abbrev pub IsKept : (List ℕ → Option ℤ) → ℕ → List Declaration → Type 0
IsKept values n ds = ((word : List ℕ) → values word ≡ constant_in ds word) × (n ≤ length ds)

pub kept-others : (values : List ℕ → Option ℤ) (n : ℕ) (ds all : List Declaration) (d : Declaration) → all ≡ ds ++ d ∷ [] → None ≡ as_constant d.what
    → IsKept values n ds → IsKept values n all
kept-others values n ds all d is e kept =
    let few : n ≤ length (ds ++ d ∷ []) = still-few n ds d kept.1 in (
      λ word. kept.0 word ∙ constants-others word ds d (sym e) ∙ ap (λ (items : List Declaration). constant_in items word) (sym is),
      subst (λ (items : List Declaration). n ≤ length items) (sym is) few,
    )

pub kept-added : (values more : List ℕ → Option ℤ) (n : ℕ) (ds all : List Declaration) (d : Declaration) (name : List ℕ) (value : ℤ) → all ≡ ds ++ d ∷ []
    → Some value ≡ as_constant d.what → d.name.word ≡ name → ((word : List ℕ) → more word ≡ first_some (values word) (value_named name value word))
    → IsKept values n ds → IsKept more n all
kept-added values more n ds all d name value is e same added kept =
    let few : n ≤ length (ds ++ d ∷ []) = still-few n ds d kept.1 in (
      λ word. added word
          ∙ ap₂ (λ found (other : List ℕ). first_some found (value_named other value word)) (kept.0 word) (sym same)
          ∙ constants-added word ds d value (sym e) ∙ ap (λ (items : List Declaration). constant_in items word) (sym is),
      subst (λ (items : List Declaration). n ≤ length items) (sym is) few,
    )
