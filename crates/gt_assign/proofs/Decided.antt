-- What becomes of the parts of a value, decided one after another.
use Rattle.std.proofs.Common.{◌≡◌, ℕ, zero, suc, ◌+◌, ◌<◌, ◌≤◌, Vec, Global, List, [], ◌∷◌, ◌++◌, length, map, take, drop, min, ◌⊎◌, refl, ap, sym, subst, ◌∙◌, arith, add-one, Option, Some, None, Err, IsSome, ◌↔◌, inl, inr}
use Rattle.std.specs.Option.{option_to_list, unwrap_or}
use Rattle.std.proofs.Math.Nat.{min-eq_left, min-eq_right, min-le_right}
use Rattle.std.proofs.lemmas.Bool.{cases_lt}
use Rattle.std.proofs.lemmas.List.{map-append, length-map, length-append, nil_from_length}
use Rattle.gt_tree.specs.Trees.{Tree, Null, Rec, Trees, End, And, count, tree_at}
use Rattle.gt_tree.specs.Scopes.{◌then◌}
use Rattle.gt_value.specs.declared.values.Value.{Value, Null as NullOf}
use Rattle.gt_value.specs.declared.values.ValueFail.{ValueFail}
use Rattle.gt_value.specs.declared.values.ValueFail.TheVariants.{Shape, Memory}
use Rattle.gt_value.specs.Values.{trees, tree_of}
use Rattle.gt_fit.proofs.Values.{null-tree}
use Rattle.gt_assign.specs.declared.changes.Change.{Change}
use Rattle.gt_assign.specs.declared.changes.Change.TheVariants as change
use Rattle.gt_assign.specs.declared.changes.Change.TheVariants.{Kept, New, Parts as PartsOf, Bare, There, OfFirst, Begins}
use Rattle.gt_assign.specs.declared.changes.Change.TheOpen as open_part
use Rattle.gt_assign.specs.declared.changes.Change.TheOpen.{Change-F}
use Rattle.gt_assign.specs.declared.changes.Change.TheFolds.{fold-Change, fold-roll-Change}
use Rattle.gt_assign.proofs.Nested.{most}
use Rattle.gt_assign.specs.declared.changes.Parts.{Parts}
use Rattle.gt_assign.specs.Turning.{Gives}
use Rattle.gt_assign.specs.Changes.{all_changed, parts_changed, change_step, changed, or_null, Decides, IsNext}

-- parts before others
abbrev pub append : Trees → Trees → Trees
append End rest = rest
append (And tree trees) rest = And tree (append trees rest)

append-more : (a : Trees) (tree : Tree) (rest : Trees) → append (append a (And tree End)) rest ≡ append a (And tree rest)
append-more End tree rest = refl
append-more (And x a) tree rest = ap (And x) (append-more a tree rest)

append-end : (a : Trees) → append a End ≡ a
append-end End = refl
append-end (And x a) = ap (And x) (append-end a)

-- ---- one more part

all-more : (changes : List (Tree → Tree)) (change : Tree → Tree) (old : Trees) → all_changed (changes ++ change ∷ []) old ≡ append (all_changed changes old) (And (change (or_null (tree_at old (length changes)))) End)
all-more [] change End = refl
all-more [] change (And tree old) = refl
all-more (first ∷ changes) change End = ap (And (first Null)) (all-more changes change End)
all-more (first ∷ changes) change (And tree old) = ap (And (first tree)) (all-more changes change old)

parts-more : (kept : ℕ) (changes : List (Tree → Tree)) (change : Tree → Tree) (old : Trees) → kept ≤ count old
    → parts_changed kept (changes ++ change ∷ []) old ≡ append (parts_changed kept changes old) (And (change (or_null (tree_at old (kept + length changes)))) End)
parts-more zero changes change old h =
    let none : length changes ≡ 0 + length changes = omega arith in
    all-more changes change old ∙ ap (λ n. append (all_changed changes old) (And (change (or_null (tree_at old n))) End)) none
parts-more (suc kept) changes change End h = absurd (omega arith)
parts-more (suc kept) changes change (And tree old) h =
    let place : suc (kept + length changes) ≡ suc kept + length changes = omega arith in
    ap (And tree) (parts-more kept changes change old (omega arith)) ∙ ap (λ n. append (parts_changed (suc kept) changes (And tree old)) (And (change (or_null (tree_at (And tree old) n))) End)) place

parts-stay : (kept : ℕ) (old : Trees) → kept < count old → parts_changed (suc kept) [] old ≡ append (parts_changed kept [] old) (And (or_null (tree_at old kept)) End)
parts-stay zero End h = absurd (omega arith)
parts-stay zero (And tree old) h = refl
parts-stay (suc kept) End h = absurd (omega arith)
parts-stay (suc kept) (And tree old) h = ap (And tree) (parts-stay kept old (omega arith))

-- all parts stay
pub parts-same : (kept : ℕ) (old : Trees) → count old ≡ kept → parts_changed kept [] old ≡ old
parts-same zero End h = refl
parts-same zero (And tree old) h = absurd (omega arith)
parts-same (suc kept) End h = absurd (omega arith)
parts-same (suc kept) (And tree old) h = ap (And tree) (parts-same kept old (omega arith))

-- ---- what is decided

-- without a part there is no whole
pub decided-stop : (fail : ValueFail) (part old : Tree) (one all : Option Tree) → Decides (Err fail) part one → (one ≡ None → all ≡ None) → Decides (Err fail) old all
decided-stop Shape part old one all none so = so none
decided-stop Memory part old one all none so = tt

-- where nothing is decided, nothing is made
pub decided-none : (fail : ValueFail) (old : Tree) (tree : Option Tree) → Decides (Err fail) old tree → Gives (Err fail) tree
decided-none Shape old tree none = none
decided-none Memory old tree none = tt

abbrev pub so_far : Parts → Trees → Trees
so_far parts old = parts_changed parts.kept (map changed parts.changes.items) old

-- some are decided, and the others are left
abbrev pub onto : Trees → Option Trees → Option Trees
onto before (Some rest) = Some (append before rest)
onto before None = None

abbrev pub more : Tree → Option Trees → Option Trees
more tree o = o then λ rest. Some (And tree rest)

pub onto-end : (o : Option Trees) → o ≡ onto End o
onto-end (Some rest) = refl
onto-end None = refl

onto-more : (before : Trees) (tree : Tree) (o : Option Trees) → onto before (more tree o) ≡ onto (append before (And tree End)) o
onto-more before tree (Some rest) = ap Some (sym (append-more before tree rest))
onto-more before tree None = refl

-- the parts before a place are decided, where `rest` is what is made from a place on
pub record SoFar (rest : ℕ → Option Trees) (old : Trees) (i : ℕ) (parts : Parts) : Type 0 where
  pub len : parts.len ≡ count old
  pub within : parts.kept ≤ count old
  pub place : parts.kept + length parts.changes.items ≡ i
  pub whole : rest 0 ≡ onto (so_far parts old) (rest i)

pub kept-changed : (tree : Tree) → changed Kept tree ≡ tree
kept-changed tree = ap (λ (f : Tree → Tree). f tree) (ap changed (sym change.rolls-Kept) ∙ fold-roll-Change (Tree → Tree) change_step open_part.Kept)

pub new-changed : (value : Value) (tree : Tree) → changed (New value) tree ≡ tree_of value
new-changed value tree = ap (λ (f : Tree → Tree). f tree) (ap changed (sym (change.rolls-New value)) ∙ fold-roll-Change (Tree → Tree) change_step (open_part.New value))

pub begins-changed : (first : Change) (rest : Vec Value Global) (tree : Tree) → changed (Begins first rest) tree ≡ Rec (And (changed first tree) (trees (map tree_of rest.items)))
begins-changed c rest tree = ap (λ (f : Tree → Tree). f tree) (ap changed (sym (change.rolls-Begins c rest)) ∙ fold-roll-Change (Tree → Tree) change_step (open_part.Begins c rest))

module _ (rest : ℕ → Option Trees) (old : Trees) (i : ℕ) (parts : Parts) where
  far-more : (change : Change) (next : Parts) → IsNext parts change next → SoFar rest old i parts → so_far next old ≡ append (so_far parts old) (And (changed change (or_null (tree_at old i))) End)
  far-more change next (inl kept) so =
      let none = kept.3 in
      let nothing : parts_changed parts.kept (map changed parts.changes.items) old ≡ parts_changed parts.kept [] old = ap (λ (cs : List Change). parts_changed parts.kept (map changed cs) old) none in
      let length_none : length parts.changes.items ≡ 0 = ap length none in
      let at = so.place in
      let place : parts.kept ≡ i = omega (arith, length_none, at) in
      ap (λ n. parts_changed n (map changed next.changes.items) old) kept.4
      ∙ ap (λ (cs : List Change). parts_changed (parts.kept + 1) (map changed cs) old) kept.5
      ∙ ap (λ n. parts_changed n [] old) (add-one parts.kept)
      ∙ parts-stay parts.kept old (subst (λ n. parts.kept < n) so.len kept.1)
      ∙ ap (λ n. append (parts_changed parts.kept [] old) (And (or_null (tree_at old n)) End)) place
      ∙ ap (λ t. append (parts_changed parts.kept [] old) (And t End)) (sym (ap (λ (c : Change). changed c (or_null (tree_at old i))) kept.2 ∙ kept-changed (or_null (tree_at old i))))
      ∙ ap (λ ts. append ts (And (changed change (or_null (tree_at old i))) End)) (sym nothing)
  far-more change next (inr changes) so =
      let place : parts.kept + length (map changed parts.changes.items) ≡ i = ap (λ n. parts.kept + n) (length-map parts.changes.items changed) ∙ so.place in
      ap (λ n. parts_changed n (map changed next.changes.items) old) changes.1
      ∙ ap (λ (cs : List Change). parts_changed parts.kept (map changed cs) old) changes.2
      ∙ ap (λ fs. parts_changed parts.kept fs old) (map-append changed parts.changes.items (change ∷ []))
      ∙ parts-more parts.kept (map changed parts.changes.items) (changed change) old so.within
      ∙ ap (λ n. append (so_far parts old) (And (changed change (or_null (tree_at old n))) End)) place

  more-len : (change : Change) (next : Parts) → IsNext parts change next → next.len ≡ parts.len
  more-len change next (inl kept) = kept.0
  more-len change next (inr changes) = changes.0

  more-within : (change : Change) (next : Parts) → IsNext parts change next → SoFar rest old i parts → next.kept ≤ count old
  more-within change next (inl kept) so = let len = so.len in let inside = kept.1 in let one = kept.4 in omega (arith, len, inside, one)
  more-within change next (inr changes) so = subst (λ n. n ≤ count old) (sym changes.1) so.within

  more-place : (change : Change) (next : Parts) → IsNext parts change next → SoFar rest old i parts → next.kept + length next.changes.items ≡ i + 1
  more-place change next (inl kept) so =
      let place = so.place in
      let one = kept.4 in
      let before : length parts.changes.items ≡ 0 = ap length kept.3 in
      let after : length next.changes.items ≡ 0 = ap length kept.5 in
      omega (arith, place, one, before, after)
  more-place change next (inr changes) so =
      let place = so.place in
      let same = changes.1 in
      let long : length next.changes.items ≡ length parts.changes.items + 1 = ap length changes.2 ∙ length-append parts.changes.items (change ∷ []) in
      omega (arith, place, same, long)

  -- one more part is decided
  pub parts-next : (change : Change) (next : Parts) → SoFar rest old i parts → IsNext parts change next → rest i ≡ more (changed change (or_null (tree_at old i))) (rest (i + 1)) → SoFar rest old (i + 1) next
  parts-next change next so is e =
      record {
        len = more-len change next is ∙ so.len;
        within = more-within change next is so;
        place = more-place change next is so;
        whole =
            so.whole ∙ ap (onto (so_far parts old)) e ∙ onto-more (so_far parts old) (changed change (or_null (tree_at old i))) (rest (i + 1))
            ∙ ap (λ ts. onto ts (rest (i + 1))) (sym (far-more change next is so));
      }

  -- one part cannot be made
  pub parts-none : SoFar rest old i parts → rest i ≡ None → rest 0 ≡ None
  parts-none so e = so.whole ∙ ap (onto (so_far parts old)) e

  pub parts-end : SoFar rest old i parts → rest i ≡ Some End → rest 0 ≡ Some (so_far parts old)
  parts-end so e = so.whole ∙ ap (onto (so_far parts old)) e ∙ ap Some (append-end (so_far parts old))

-- nothing is decided yet
pub parts-start : (rest : ℕ → Option Trees) (old : Trees) (parts : Parts) → parts.len ≡ count old → parts.kept ≡ 0 → parts.changes.items ≡ [] → SoFar rest old 0 parts
parts-start rest old parts len kept changes =
    let none : length parts.changes.items ≡ 0 = ap length changes in
    let far : so_far parts old ≡ End = ap (λ n. parts_changed n (map changed parts.changes.items) old) kept ∙ ap (λ (cs : List Change). parts_changed 0 (map changed cs) old) changes in
    record {
      len = len;
      within = omega (arith, kept);
      place = omega (arith, kept, none);
      whole = onto-end (rest 0) ∙ ap (λ ts. onto ts (rest 0)) (sym far);
    }

-- ---- the parts moved

parts-split : (kept : ℕ) (changes : List (Tree → Tree)) (values : List Value) → kept ≤ length values
    → parts_changed kept changes (trees (map tree_of values)) ≡ append (trees (map tree_of (take kept values))) (all_changed changes (trees (map tree_of (drop kept values))))
parts-split zero changes values h = refl
parts-split (suc kept) changes [] h = absurd (omega arith)
parts-split (suc kept) changes (value ∷ values) h = ap (And (tree_of value)) (parts-split kept changes values (omega arith))

-- more than all parts stay
parts-all : (kept : ℕ) (changes : List (Tree → Tree)) (values : List Value) → length values ≤ kept
    → parts_changed kept changes (trees (map tree_of values)) ≡ parts_changed (length values) changes (trees (map tree_of values))
parts-all zero changes [] h = refl
parts-all zero changes (value ∷ values) h = absurd (omega arith)
parts-all (suc kept) changes [] h = refl
parts-all (suc kept) changes (value ∷ values) h = ap (And (tree_of value)) (parts-all kept changes values (omega arith))

parts-min : (kept : ℕ) (changes : List (Tree → Tree)) (values : List Value) → parts_changed kept changes (trees (map tree_of values)) ≡ parts_changed (min kept (length values)) changes (trees (map tree_of values))
parts-min kept changes values = go (cases_lt kept (length values))
  where
    go : (kept < length values) ⊎ (length values ≤ kept) → parts_changed kept changes (trees (map tree_of values)) ≡ parts_changed (min kept (length values)) changes (trees (map tree_of values))
    go (inl h) = let within : kept ≤ length values = omega (arith, h) in ap (λ n. parts_changed n changes (trees (map tree_of values))) (sym (min-eq_left within))
    go (inr h) = parts-all kept changes values h ∙ ap (λ n. parts_changed n changes (trees (map tree_of values))) (sym (min-eq_right h))

-- before the first change
pub apply-start : (kept place : ℕ) (changes left : List Change) (values firsts olds : List Value) → place ≡ min kept (length values) → firsts ≡ take place values → olds ≡ drop place values → left ≡ changes
    → append (trees (map tree_of firsts)) (all_changed (map changed left) (trees (map tree_of olds))) ≡ parts_changed kept (map changed changes) (trees (map tree_of values))
apply-start kept place changes left values firsts olds at first rest same =
    ap (λ (vs : List Value). append (trees (map tree_of vs)) (all_changed (map changed left) (trees (map tree_of olds)))) first
    ∙ ap (λ (vs : List Value). append (trees (map tree_of (take place values))) (all_changed (map changed left) (trees (map tree_of vs)))) rest
    ∙ ap (λ (cs : List Change). append (trees (map tree_of (take place values))) (all_changed (map changed cs) (trees (map tree_of (drop place values))))) same
    ∙ sym (parts-split place (map changed changes) values (subst (λ n. n ≤ length values) (sym at) (min-le_right kept (length values))))
    ∙ ap (λ n. parts_changed n (map changed changes) (trees (map tree_of values))) at
    ∙ sym (parts-min kept (map changed changes) values)

before-one : (made : List Value) (new : Value) (rest : Trees) → append (trees (map tree_of (made ++ new ∷ []))) rest ≡ append (trees (map tree_of made)) (And (tree_of new) rest)
before-one [] new rest = refl
before-one (first ∷ made) new rest = ap (And (tree_of first)) (before-one made new rest)

one-more : (change : Change) (changes : List Change) (r : Option Value) (olds left : List Value) → olds ≡ option_to_list r ++ left → (r ≡ None → olds ≡ [])
    → all_changed (map changed (change ∷ changes)) (trees (map tree_of olds)) ≡ And (changed change (tree_of (unwrap_or r NullOf))) (all_changed (map changed changes) (trees (map tree_of left)))
one-more change changes (Some old) olds left items none = ap (λ (vs : List Value). all_changed (map changed (change ∷ changes)) (trees (map tree_of vs))) items
one-more change changes None olds left items none =
    ap (λ (vs : List Value). all_changed (map changed (change ∷ changes)) (trees (map tree_of vs))) (none refl)
    ∙ ap (λ t. And (changed change t) (all_changed (map changed changes) End)) (sym null-tree)
    ∙ ap (λ (vs : List Value). And (changed change (tree_of NullOf)) (all_changed (map changed changes) (trees (map tree_of vs)))) (sym (none refl) ∙ items)

-- one change more
pub apply-next : (made next : List Value) (change : Change) (all changes : List Change) (r : Option Value) (old new : Value) (olds left : List Value) (whole : Trees)
    → append (trees (map tree_of made)) (all_changed (map changed all) (trees (map tree_of olds))) ≡ whole → all ≡ change ∷ changes → olds ≡ option_to_list r ++ left → (r ≡ None → olds ≡ [])
    → old ≡ unwrap_or r NullOf → tree_of new ≡ changed change (tree_of old) → next ≡ made ++ new ∷ []
    → append (trees (map tree_of next)) (all_changed (map changed changes) (trees (map tree_of left))) ≡ whole
apply-next made next change all changes r old new olds left whole so is items none is_old is_new is_next =
    ap (λ (vs : List Value). append (trees (map tree_of vs)) (all_changed (map changed changes) (trees (map tree_of left)))) is_next
    ∙ before-one made new (all_changed (map changed changes) (trees (map tree_of left)))
    ∙ ap (λ t. append (trees (map tree_of made)) (And t (all_changed (map changed changes) (trees (map tree_of left))))) (is_new ∙ ap (λ (v : Value). changed change (tree_of v)) is_old)
    ∙ ap (append (trees (map tree_of made))) (sym (one-more change changes r olds left items none))
    ∙ ap (λ (cs : List Change). append (trees (map tree_of made)) (all_changed (map changed cs) (trees (map tree_of olds)))) (sym is)
    ∙ so

pub apply-end : (made : List Value) (changes : List Change) (olds : List Value) (whole : Trees) → append (trees (map tree_of made)) (all_changed (map changed changes) (trees (map tree_of olds))) ≡ whole → changes ≡ []
    → trees (map tree_of made) ≡ whole
apply-end made changes olds whole so none =
    sym (append-end (trees (map tree_of made)))
    ∙ ap (λ (cs : List Change). append (trees (map tree_of made)) (all_changed (map changed cs) (trees (map tree_of olds)))) (sym none) ∙ so

pub all-kept : (kept len : ℕ) (changes : List Change) (old : Trees) → kept ≡ len → changes ≡ [] → count old ≡ len → old ≡ parts_changed kept (map changed changes) old
all-kept kept len changes old full none h = sym (ap (λ (cs : List Change). parts_changed kept (map changed cs) old) none ∙ parts-same kept old (h ∙ sym full))

-- ---- how deep changes nest

abbrev pub levels_step : Change-F ℕ → ℕ
levels_step open_part.Kept = 0
levels_step (open_part.New value) = 0
levels_step (open_part.Parts kept changes) = suc (most changes.items)
levels_step open_part.Bare = 0
levels_step (open_part.There member inner) = suc inner
levels_step (open_part.OfFirst inner) = suc inner
levels_step (open_part.Begins inner rest) = suc inner

abbrev pub levels : Change → ℕ
levels = fold-Change ℕ levels_step

pub parts-levels : (kept : ℕ) (changes : Vec Change Global) → levels (PartsOf kept changes) ≡ suc (most (map levels changes.items))
parts-levels kept changes = ap levels (sym (change.rolls-Parts kept changes)) ∙ fold-roll-Change ℕ levels_step (open_part.Parts kept changes)

pub there-levels : (member : Option ℕ) (change : Change) → levels (There member change) ≡ suc (levels change)
there-levels member c = ap levels (sym (change.rolls-There member c)) ∙ fold-roll-Change ℕ levels_step (open_part.There member c)

-- nothing comes of an iterator that has nothing
pub olds-none : (r : Option Value) (olds : List Value) (len : ℕ) → len ≡ length olds → (IsSome r ↔ (0 < len)) → r ≡ None → olds ≡ []
olds-none None olds len e variant is = nil_from_length olds (go (length olds) e)
  where
    go : (n : ℕ) → len ≡ n → n ≡ 0
    go zero e = refl
    go (suc n) e = let some = variant.1 (omega (arith, e)) in absurd (cc)
olds-none (Some x) olds len e variant is = absurd (cc)
