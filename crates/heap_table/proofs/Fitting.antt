-- Values of one type, and of the types of roots, one after another.
use Rattle.std.proofs.Common.{◌≡◌, ◌≢◌, ◌==◌, ◌<◌, ◌≤◌, ℕ, suc, Bool, true, false, List, [], ◌∷◌, length, get_or, map, refl, ap, subst, sym, ◌∙◌, arith, eqb-true}
use Rattle.std.specs.Bool.{Decides}
use Rattle.gt_types.specs.declared.types.Ty.{Ty}
use Rattle.gt_types.specs.declared.program.Program.{Program}
use Rattle.gt_types.specs.declared.program.Root.{Root}
use Rattle.gt_tree.specs.Trees.{Tree, Trees, End, And, count}
use Rattle.gt_tree.specs.Blocks.{Blocks}
use Rattle.gt_tree.specs.Scopes.{Scope}
use Rattle.gt_tree.specs.Fits.{Fits, AllFit, EachFits}
use Rattle.gt_value.specs.declared.values.Value.{Value}
use Rattle.gt_value.specs.Values.{trees, tree_of}
use Rattle.heap_table.specs.Graphs.{values_of}
use Rattle.heap_table.proofs.Pairing.{rest_of, split}

module _ {program : Program} {blocks : Blocks} {capacity : ℕ} {scope : Scope} where
  pub each_parts : {type : Ty} {tree : Tree} {trees : Trees} → EachFits program blocks capacity scope type (And tree trees)
      → Fits program blocks capacity scope type tree × EachFits program blocks capacity scope type trees
  each_parts (EachFits.one_more first rest) = (first, rest)

  pub all_parts : {type : Ty} {types : List Ty} {tree : Tree} {trees : Trees} → AllFit program blocks capacity scope (type ∷ types) (And tree trees)
      → Fits program blocks capacity scope type tree × AllFit program blocks capacity scope types trees
  all_parts (AllFit.more first rest) = (first, rest)

  -- ---- values of one type

  pub none_fits : (type : Ty) (values : List Value) → length values < 1 → Decides true (EachFits program blocks capacity scope type (values_of values))
  none_fits type [] short = ((λ h. EachFits.no_more), (λ each. refl))
  none_fits type (v ∷ values) short = absurd (omega (arith, short))

  pub more_fit : (type : Ty) (values : List Value) (v : Value) (r : Bool) → 1 ≤ length values → v ≡ get_or values 0 v → Fits program blocks capacity scope type (tree_of v)
      → Decides r (EachFits program blocks capacity scope type (values_of (rest_of values))) → Decides r (EachFits program blocks capacity scope type (values_of values))
  more_fit type values v r long is fit d =
      let whole = split values v long is in (
        (λ h. subst (λ vs. EachFits program blocks capacity scope type (values_of vs)) (sym whole) (EachFits.one_more fit (d.0 h))),
        (λ each. d.1 (each_parts (subst (λ vs. EachFits program blocks capacity scope type (values_of vs)) whole each)).1),
      )

  -- ---- values of roots

  pub no_roots : (roots : List Root) (values : List Value) (r : Bool) → length roots < 1 → r ≡ (length values == 0)
      → Decides r (AllFit program blocks capacity scope (map (λ (r : Root). r.ty) roots) (values_of values))
  no_roots [] [] r short e = ((λ h. AllFit.none), (λ all. e))
  no_roots [] (v ∷ values) r short e = (
    (λ h. let none : length (v ∷ values) ≡ 0 = eqb-true (length (v ∷ values)) 0 (sym e ∙ h) in absurd (omega (arith, none))),
    (λ all. elim all [ ]),
  )
  no_roots (root ∷ roots) values r short e = absurd (omega (arith, short))

  pub more_roots : (roots : List Root) (root : Root) (values : List Value) (v : Value) (r : Bool) → 1 ≤ length roots → root ≡ get_or roots 0 root → 1 ≤ length values → v ≡ get_or values 0 v
      → Fits program blocks capacity scope root.ty (tree_of v) → Decides r (AllFit program blocks capacity scope (map (λ (r : Root). r.ty) (rest_of roots)) (values_of (rest_of values)))
      → Decides r (AllFit program blocks capacity scope (map (λ (r : Root). r.ty) roots) (values_of values))
  more_roots roots root values v r many is long same fit d =
      let all = split roots root many is in
      let whole = split values v long same in (
        (λ h. subst (λ rs. AllFit program blocks capacity scope (map (λ (r : Root). r.ty) rs) (values_of values)) (sym all)
            (subst (λ vs. AllFit program blocks capacity scope (map (λ (r : Root). r.ty) (root ∷ rest_of roots)) (values_of vs)) (sym whole) (AllFit.more fit (d.0 h)))),
        (λ fits. d.1 (all_parts (subst (λ vs. AllFit program blocks capacity scope (map (λ (r : Root). r.ty) (root ∷ rest_of roots)) (values_of vs)) whole
            (subst (λ rs. AllFit program blocks capacity scope (map (λ (r : Root). r.ty) rs) (values_of values)) all fits))).1),
      )

  as_many : (roots : List Root) (values : List Value) → AllFit program blocks capacity scope (map (λ (r : Root). r.ty) roots) (values_of values) → length roots ≡ length values
  as_many [] [] fit = refl
  as_many (r ∷ roots) (v ∷ values) (AllFit.more first rest) = ap suc (as_many roots values rest)
  as_many [] (v ∷ values) fit = elim fit [ ]
  as_many (r ∷ roots) [] fit = elim fit [ ]

  pub uneven_roots : (roots : List Root) (values : List Value) → length roots ≢ length values → Decides false (AllFit program blocks capacity scope (map (λ (r : Root). r.ty) roots) (values_of values))
  uneven_roots roots values off = ((λ h. absurd (cc)), (λ fits. absurd (off (as_many roots values fits))))
