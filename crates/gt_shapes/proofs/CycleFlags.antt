-- For each structure there is an answer to whether it contains itself, also where it is left unsaid.
use Rattle.std.proofs.Common.{◌≡◌, ◌∙◌, ℕ, zero, suc, ◌+◌, ◌<◌, ◌≤◌, Bool, true, false, List, [], ◌∷◌, ◌++◌, length, map, Some, refl, sym, ap, subst, arith, inl, inr, replicate}
use Rattle.std.specs.Prelude.{◌↔◌, ◌⊎◌, slice_get}
use Rattle.std.proofs.lemmas.List.{length_push}
use Rattle.std.proofs.lemmas.Option.{same_Some, slice_get_within}
use Rattle.gt_types.specs.declared.limits.TheConstants.{MAX_DEPTH}
use Rattle.gt_drafts.specs.declared.draft.DraftStructure.{DraftStructure}
use Rattle.gt_shapes.specs.Cycles.{IsPreceded, AreShapesFor}
use Rattle.gt_shapes.specs.Graphs.{Reached, AreReached, Seen, edges_at, nested_flags, with_places}
use Rattle.gt_drafts.specs.Shapes.{IsTail, held_in}
use Rattle.gt_shapes.proofs.Depths.{are_shapes}
use Rattle.gt_shapes.proofs.SearchLemmas.{IsSearch, unseen, search_begins, search_follows, search_shrinks, search_ends}
use Rattle.gt_shapes.proofs.CycleLemmas.{get_before, get_last, last_or}

-- a list is empty, or has a last item
ends : (xs : List ℕ) → (xs ≡ []) ⊎ ((before : List ℕ) × (x : ℕ) × (xs ≡ before ++ x ∷ []))
ends [] = inl refl
ends (x ∷ xs) =
    elim (ends xs) [
      | inl none ↦ inr ([], x, ap (λ (rest : List ℕ). x ∷ rest) none)
      | inr (before, last, e) ↦ inr (x ∷ before, last, ap (λ (rest : List ℕ). x ∷ rest) e)
    ]

none_left : (xs : List ℕ) → length xs ≤ 0 → xs ≡ []
none_left [] l = refl
none_left (x ∷ xs) l = absurd (omega (arith, l))

-- ---- a search comes to an end

module _ (graph : List (List ℕ)) (first : List ℕ) where
  searched : (n : ℕ) (s : Seen) → IsSearch graph first s → unseen s.seen + length s.waiting ≤ n → (flags : List Bool) × AreReached graph first flags
  searched zero s is l = (s.seen, search_ends graph first s is (none_left s.waiting (omega (arith, l))))
  searched (suc n) s is l =
      elim (ends s.waiting) [
        | inl none ↦ (s.seen, search_ends graph first s is none)
        | inr (before, x, e) ↦
            let less = search_shrinks graph first s before x e in
            searched n _ (search_follows graph first s before x e is) (omega (arith, l, less))
      ]

  are_reached : (flags : List Bool) × AreReached graph first flags
  are_reached =
      let start : Seen = record { seen = replicate (length graph) false; waiting = [] } in
      let s = with_places first start in searched (unseen s.seen + length s.waiting) s (search_begins graph first start refl refl) (omega arith)

-- ---- flags of cycles

flag_at : (flags : List Bool) (i : ℕ) → i < length flags → (b : Bool) × (slice_get flags i ≡ Some b)
flag_at [] i l = absurd (omega (arith, l))
flag_at (b ∷ flags) zero l = (b, refl)
flag_at (b ∷ flags) (suc i) l = flag_at flags i (omega (arith, l))

-- the flags of so many places
record AreCycles (graph : List (List ℕ)) (n : ℕ) (flags : List Bool) : Type 0 where
  count : length flags ≡ n
  cycles : (i : ℕ) → i < n → (slice_get flags i ≡ Some true) ↔ Reached graph (edges_at graph i) i

one_more : (graph : List (List ℕ)) (n : ℕ) (flags : List Bool) (b : Bool) → AreCycles graph n flags → (b ≡ true) ↔ Reached graph (edges_at graph n) n → AreCycles graph (suc n) (flags ++ b ∷ [])
one_more graph n flags b are is =
    record {
      count = length_push flags b ∙ (let e : length flags + 1 ≡ suc (length flags) = omega arith in e) ∙ ap suc are.count;
      cycles = λ i l.
          elim (last_or i n (omega (arith, l))) [
            | inl x ↦
                let same = get_before flags b i (omega (arith, x, are.count)) in
                let c = are.cycles i x in (λ h. c.0 (sym same ∙ h), λ h. same ∙ c.1 h)
            | inr x ↦
                let at : slice_get (flags ++ b ∷ []) i ≡ Some b = ap (λ (m : ℕ). slice_get (flags ++ b ∷ []) m) (x ∙ sym are.count) ∙ get_last flags b in (
                  λ h. subst (λ (m : ℕ). Reached graph (edges_at graph m) m) (sym x) (is.0 (same_Some b true (sym at ∙ h))),
                  λ h. at ∙ ap (λ (y : Bool). Some y) (is.1 (subst (λ (m : ℕ). Reached graph (edges_at graph m) m) x h)),
                )
          ];
    }

flags_to : (graph : List (List ℕ)) (n : ℕ) → n ≤ length graph → (flags : List Bool) × AreCycles graph n flags
flags_to graph zero l = ([], record { count = refl; cycles = λ i k. absurd (omega (arith, k)) })
flags_to graph (suc n) l =
    let before = flags_to graph n (omega (arith, l)) in
    let reached = are_reached graph (edges_at graph n) in
    let m : n < length reached.0 = subst (λ (k : ℕ). n < k) (sym reached.1.count) (omega (arith, l)) in
    let flag = flag_at reached.0 n m in
    let is = reached.1.reached n (omega (arith, l)) in (
      before.0 ++ flag.0 ∷ [],
      one_more graph n before.0 flag.0 before.1
          (λ h. is.0 (flag.1 ∙ ap (λ (y : Bool). Some y) h), λ h. same_Some flag.0 true (sym flag.1 ∙ is.1 h)),
    )

-- ---- shapes

module _ (ss : List DraftStructure) where
  abbrev graph : List (List ℕ)
  graph = map held_in ss

  -- flags of which some cycles are missing are good for shapes
  pub are_shapes_for : (told deep tails : List Bool) → deep ≡ nested_flags graph MAX_DEPTH → length told ≡ length graph
      → ((i : ℕ) → i < length graph → slice_get told i ≡ Some true → Reached graph (edges_at graph i) i)
      → ((i : ℕ) → i < length graph → Reached graph (edges_at graph i) i → (slice_get told i ≡ Some true) ⊎ IsPreceded ss deep i)
      → (length tails ≡ length ss) × ((i : ℕ) → i < length ss → (slice_get tails i ≡ Some true) ↔ IsTail ss i)
      → AreShapesFor ss told deep tails
  are_shapes_for told deep tails are count only known tail =
      let all = flags_to graph (length graph) (omega arith) in
      record {
        cyclic = all.0;
        shapes = are_shapes ss all.0 deep tails are all.1.count all.1.cycles tail;
        suffice =
            record {
              only = λ i h.
                  let l : i < length graph = subst (λ (n : ℕ). i < n) count (slice_get_within told i true h) in (all.1.cycles i l).1 (only i l h);
              known = λ i h.
                  let l : i < length graph = subst (λ (n : ℕ). i < n) all.1.count (slice_get_within all.0 i true h) in known i l ((all.1.cycles i l).0 h);
            };
      }
