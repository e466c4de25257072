-- Values fit one after another: fields, elements, and parts without pointers.
use Rattle.std.proofs.Common.{◌≡◌, ◌≢◌, ℕ, ◌+◌, ◌<◌, ◌≤◌, true, false, IsTrue, List, [], ◌∷◌, ◌↔◌, refl, ap, sym, subst, ◌∙◌, length, map, drop, get_or, suc, arith}
use Rattle.gt_types.specs.declared.types.Ty.{Ty}
use Rattle.gt_types.specs.declared.program.Program.{Program}
use Rattle.gt_tree.specs.Trees.{Tree, Rec, Trees, End, And, without_pointers, all_without_pointers}
use Rattle.gt_tree.specs.Blocks.{Blocks}
use Rattle.gt_tree.specs.Scopes.{Scope}
use Rattle.gt_tree.specs.Fits.{Fits, AllFit, EachFits}
use Rattle.gt_value.specs.declared.values.Value.{Value}
use Rattle.gt_value.specs.Values.{trees, tree_of}
use Rattle.gt_fit.proofs.Listing.{drop-item, drop-none}

pub never : (P : Type 0) → ¬ P → IsTrue false ↔ P
never P off = ((λ h. absurd (cc)), (λ p. absurd (off p)))

pub always : (P : Type 0) → P → IsTrue true ↔ P
always P p = ((λ h. p), (λ h. refl))

module _ (program : Program) (blocks : Blocks) (capacity : ℕ) (scope : Scope) where
  -- ---- fields or roots, by the type of each

  module _ {X : Type 0} (type_of : X → Ty) where
    abbrev pub FieldsDo : List X → List Value → Type 0
    FieldsDo fields parts = AllFit program blocks capacity scope (map type_of fields) (trees (map tree_of parts))

    fields-split : (f : X) (fs : List X) (p : Value) (ps : List Value) → FieldsDo (f ∷ fs) (p ∷ ps) → Fits program blocks capacity scope (type_of f) (tree_of p) × FieldsDo fs ps
    fields-split f fs p ps (AllFit.more first rest) = (first, rest)

    fields-even : (fs : List X) (ps : List Value) → FieldsDo fs ps → length ps ≡ length fs
    fields-even [] [] fit = refl
    fields-even (f ∷ fs) (p ∷ ps) (AllFit.more first rest) = ap suc (fields-even fs ps rest)
    fields-even [] (p ∷ ps) fit = elim fit [ ]
    fields-even (f ∷ fs) [] fit = elim fit [ ]

    pub fields-uneven : (fs : List X) (ps : List Value) → length ps ≢ length fs → IsTrue false ↔ FieldsDo fs ps
    fields-uneven fs ps off = never (FieldsDo fs ps) (λ fit. off (fields-even fs ps fit))

    module _ (fs : List X) (ps : List Value) (i : ℕ) where
      fields-at : (f : X) (p : Value) → i < length fs → f ≡ get_or fs i f → i < length ps → p ≡ get_or ps i p → (FieldsDo (drop i fs) (drop i ps) ↔ FieldsDo fs ps)
          → FieldsDo (f ∷ drop (i + 1) fs) (p ∷ drop (i + 1) ps) ↔ FieldsDo fs ps
      fields-at f p hf ef hp ep so =
          subst (λ xs. FieldsDo xs (p ∷ drop (i + 1) ps) ↔ FieldsDo fs ps) (drop-item fs i f hf ef) (subst (λ ys. FieldsDo (drop i fs) ys ↔ FieldsDo fs ps) (drop-item ps i p hp ep) so)

      pub fields-more : (f : X) (p : Value) → i < length fs → f ≡ get_or fs i f → i < length ps → p ≡ get_or ps i p → Fits program blocks capacity scope (type_of f) (tree_of p)
          → (FieldsDo (drop i fs) (drop i ps) ↔ FieldsDo fs ps) → FieldsDo (drop (i + 1) fs) (drop (i + 1) ps) ↔ FieldsDo fs ps
      fields-more f p hf ef hp ep fit so =
          let at = fields-at f p hf ef hp ep so in
          ((λ rest. at.0 (AllFit.more fit rest)), (λ all. (fields-split f (drop (i + 1) fs) p (drop (i + 1) ps) (at.1 all)).1))

      pub fields-stop : (f : X) (p : Value) → i < length fs → f ≡ get_or fs i f → i < length ps → p ≡ get_or ps i p → ¬ Fits program blocks capacity scope (type_of f) (tree_of p)
          → (FieldsDo (drop i fs) (drop i ps) ↔ FieldsDo fs ps) → IsTrue false ↔ FieldsDo fs ps
      fields-stop f p hf ef hp ep off so =
          let at = fields-at f p hf ef hp ep so in
          never (FieldsDo fs ps) (λ all. off (fields-split f (drop (i + 1) fs) p (drop (i + 1) ps) (at.1 all)).0)

      pub fields-done : length ps ≡ length fs → length ps ≤ i → (FieldsDo (drop i fs) (drop i ps) ↔ FieldsDo fs ps) → IsTrue true ↔ FieldsDo fs ps
      fields-done even past so =
          always (FieldsDo fs ps)
          (so.0 (subst (λ xs. FieldsDo xs (drop i ps)) (sym (drop-none fs i (omega (arith, even, past)))) (subst (λ ys. FieldsDo [] ys) (sym (drop-none ps i past)) AllFit.none)))

  -- ---- elements

  abbrev pub EachDoes : Ty → List Value → Type 0
  EachDoes elem parts = EachFits program blocks capacity scope elem (trees (map tree_of parts))

  each-split : (elem : Ty) (p : Value) (ps : List Value) → EachDoes elem (p ∷ ps) → Fits program blocks capacity scope elem (tree_of p) × EachDoes elem ps
  each-split elem p ps (EachFits.one_more first rest) = (first, rest)

  module _ (elem : Ty) (ps : List Value) (i : ℕ) where
    each-at : (p : Value) → i < length ps → p ≡ get_or ps i p → (EachDoes elem (drop i ps) ↔ EachDoes elem ps) → EachDoes elem (p ∷ drop (i + 1) ps) ↔ EachDoes elem ps
    each-at p hp ep so = subst (λ ys. EachDoes elem ys ↔ EachDoes elem ps) (drop-item ps i p hp ep) so

    pub each-more : (p : Value) → i < length ps → p ≡ get_or ps i p → Fits program blocks capacity scope elem (tree_of p) → (EachDoes elem (drop i ps) ↔ EachDoes elem ps)
        → EachDoes elem (drop (i + 1) ps) ↔ EachDoes elem ps
    each-more p hp ep fit so =
        let at = each-at p hp ep so in
        ((λ rest. at.0 (EachFits.one_more fit rest)), (λ all. (each-split elem p (drop (i + 1) ps) (at.1 all)).1))

    pub each-stop : (p : Value) → i < length ps → p ≡ get_or ps i p → ¬ Fits program blocks capacity scope elem (tree_of p) → (EachDoes elem (drop i ps) ↔ EachDoes elem ps) → IsTrue false ↔ EachDoes elem ps
    each-stop p hp ep off so =
        let at = each-at p hp ep so in
        never (EachDoes elem ps) (λ all. off (each-split elem p (drop (i + 1) ps) (at.1 all)).0)

    pub each-done : length ps ≤ i → (EachDoes elem (drop i ps) ↔ EachDoes elem ps) → IsTrue true ↔ EachDoes elem ps
    each-done past so = always (EachDoes elem ps) (so.0 (subst (λ ys. EachDoes elem ys) (sym (drop-none ps i past)) EachFits.no_more))

-- ---- parts without pointers

abbrev pub AreBare : List Value → Type 0
AreBare parts = all_without_pointers (trees (map tree_of parts)) ≡ trees (map tree_of parts)

and-both : (a b : Tree) (xs ys : Trees) → And a xs ≡ And b ys → (a ≡ b) × (xs ≡ ys)
and-both a b xs ys e = let first : a ≡ b = cc in let rest : xs ≡ ys = cc in (first, rest)

bare-at : (ps : List Value) (i : ℕ) (p : Value) → i < length ps → p ≡ get_or ps i p → (AreBare (drop i ps) ↔ AreBare ps) → AreBare (p ∷ drop (i + 1) ps) ↔ AreBare ps
bare-at ps i p hp ep so = subst (λ ys. AreBare ys ↔ AreBare ps) (drop-item ps i p hp ep) so

pub bare-more : (ps : List Value) (i : ℕ) (p : Value) → i < length ps → p ≡ get_or ps i p → without_pointers (tree_of p) ≡ tree_of p → (AreBare (drop i ps) ↔ AreBare ps) → AreBare (drop (i + 1) ps) ↔ AreBare ps
bare-more ps i p hp ep bare so =
    let at = bare-at ps i p hp ep so in
    ((λ rest. at.0 (ap (λ t. And t (all_without_pointers (trees (map tree_of (drop (i + 1) ps))))) bare ∙ ap (And (tree_of p)) rest)), (λ all. (and-both _ _ _ _ (at.1 all)).1))

pub bare-stop : (ps : List Value) (i : ℕ) (p : Value) → i < length ps → p ≡ get_or ps i p → ¬ (without_pointers (tree_of p) ≡ tree_of p) → (AreBare (drop i ps) ↔ AreBare ps) → IsTrue false ↔ AreBare ps
bare-stop ps i p hp ep off so =
    let at = bare-at ps i p hp ep so in
    never (AreBare ps) (λ all. off (and-both _ _ _ _ (at.1 all)).0)

pub bare-done : (ps : List Value) (i : ℕ) → length ps ≤ i → (AreBare (drop i ps) ↔ AreBare ps) → IsTrue true ↔ AreBare ps
bare-done ps i past so = always (AreBare ps) (so.0 (subst (λ ys. AreBare ys) (sym (drop-none ps i past)) refl))

pub some-parts : (ps : List Value) → 1 ≤ length ps → IsTrue false ↔ (Rec (trees (map tree_of ps)) ≡ Rec End)
some-parts [] h = absurd (omega arith)
some-parts (p ∷ ps) h = never (Rec (And (tree_of p) (trees (map tree_of ps))) ≡ Rec End) (λ e. cc)
