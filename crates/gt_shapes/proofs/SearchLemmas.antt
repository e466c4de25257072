-- A search sees the places that are reached, and ends.
use Rattle.std.proofs.Common.{◌≡◌, ◌≢◌, ◌∙◌, ℕ, zero, suc, ◌+◌, ◌<◌, Bool, true, false, not, List, [], ◌∷◌, ◌++◌, length, Option, Some, None, refl, sym, ap, subst, arith, inl, inr, replicate}
use Rattle.std.specs.Prelude.{Contains, if◌then◌else◌, ◌⊎◌, slice_get, slice_set}
use Rattle.std.specs.Option.{option_map_or}
use Rattle.std.proofs.lemmas.Bool.{cases_eq, true≢false}
use Rattle.std.proofs.lemmas.List.Elements.{Contains-append_left, Contains-push, Contains-push_cases}
use Rattle.std.proofs.lemmas.List.{length_push, length-replicate}
use Rattle.std.proofs.lemmas.Option.{slice_get_within, same_Some}
use Rattle.gt_shapes.specs.Graphs.{Reached, at_first, along, AreReached, Seen, edges_at, with_place, with_places}

-- ---- lists of flags

pub Contains_head : {X : Type 0} (x : X) (xs : List X) → Contains (x ∷ xs) x
Contains_head x xs = (0, omega arith, refl)

pub Contains_tail : {X : Type 0} (y x : X) (xs : List X) → Contains xs x → Contains (y ∷ xs) x
Contains_tail y x xs (k, l, e) = (suc k, omega (arith, l), e)

pub Contains_cases : {X : Type 0} (y x : X) (xs : List X) → Contains (y ∷ xs) x → (y ≡ x) ⊎ Contains xs x
Contains_cases y x xs (zero, l, e) = inl e
Contains_cases y x xs (suc k, l, e) = inr (k, omega (arith, l), e)

pub Contains_none : {X : Type 0} (x : X) → Contains [] x → ⊥
Contains_none x (k, l, e) = absurd (omega (arith, l))

abbrev IsSeen : List Bool → ℕ → Type 0
IsSeen seen k = slice_get seen k ≡ Some true

pub get_same : {X : Type 0} (xs : List X) (i : ℕ) (x : X) → i < length xs → slice_get (slice_set xs i x) i ≡ Some x
get_same [] i x l = absurd (omega (arith, l))
get_same (y ∷ xs) zero x l = refl
get_same (y ∷ xs) (suc i) x l = get_same xs i x (omega (arith, l))

pub get_other : {X : Type 0} (xs : List X) (i j : ℕ) (x : X) → i ≢ j → slice_get (slice_set xs i x) j ≡ slice_get xs j
get_other [] i j x ne = refl
get_other (y ∷ xs) zero zero x ne = absurd (ne refl)
get_other (y ∷ xs) zero (suc j) x ne = refl
get_other (y ∷ xs) (suc i) zero x ne = refl
get_other (y ∷ xs) (suc i) (suc j) x ne = get_other xs i j x (λ e. ne (ap suc e))

pub length_set : {X : Type 0} (xs : List X) (i : ℕ) (x : X) → length (slice_set xs i x) ≡ length xs
length_set [] i x = refl
length_set (y ∷ xs) zero x = refl
length_set (y ∷ xs) (suc i) x = ap suc (length_set xs i x)

-- how many places were not seen
abbrev pub unseen : List Bool → ℕ
unseen [] = 0
unseen (true ∷ flags) = unseen flags
unseen (false ∷ flags) = suc (unseen flags)

unseen_set : (flags : List Bool) (i : ℕ) → slice_get flags i ≡ Some false → suc (unseen (slice_set flags i true)) ≡ unseen flags
unseen_set [] i e = absurd (cc)
unseen_set (true ∷ flags) zero e = absurd (true≢false (same_Some true false e))
unseen_set (false ∷ flags) zero e = refl
unseen_set (true ∷ flags) (suc i) e = unseen_set flags i e
unseen_set (false ∷ flags) (suc i) e = ap suc (unseen_set flags i e)

-- ---- one more place

-- what a search knows when it has seen more places
record Grows (places : List ℕ) (s t : Seen) : Type 0 where
  count : length t.seen ≡ length s.seen
  still : (k : ℕ) → IsSeen s.seen k → IsSeen t.seen k
  from : (k : ℕ) → IsSeen t.seen k → IsSeen s.seen k ⊎ (Contains places k × Contains t.waiting k)
  now : (k : ℕ) → Contains places k → k < length s.seen → IsSeen t.seen k
  waits : (k : ℕ) → Contains s.waiting k → Contains t.waiting k
  waiting : (k : ℕ) → Contains t.waiting k → Contains s.waiting k ⊎ IsSeen t.seen k
  work : unseen t.seen + length t.waiting ≡ unseen s.seen + length s.waiting

grows_none : (s : Seen) → Grows [] s s
grows_none s =
    record {
      count = refl;
      still = λ k h. h;
      from = λ k h. inl h;
      now = λ k has l. absurd (Contains_none k has);
      waits = λ k h. h;
      waiting = λ k h. inl h;
      work = refl;
    }

seen_cases : (flags : List Bool) (i : ℕ) → (slice_get flags i ≡ Some true) ⊎ (slice_get flags i ≡ Some false) ⊎ (slice_get flags i ≡ None)
seen_cases [] i = inr (inr refl)
seen_cases (true ∷ flags) zero = inl refl
seen_cases (false ∷ flags) zero = inr (inl refl)
seen_cases (b ∷ flags) (suc i) = seen_cases flags i

past_end : {X : Type 0} (xs : List X) (i : ℕ) → slice_get xs i ≡ None → i < length xs → ⊥
past_end [] i e l = absurd (omega (arith, l))
past_end (x ∷ xs) zero e l = absurd (cc)
past_end (x ∷ xs) (suc i) e l = past_end xs i e (omega (arith, l))

-- the flag after a place was seen
set_cases : (flags : List Bool) (i k : ℕ) → IsSeen (slice_set flags i true) k → IsSeen flags k ⊎ (i ≡ k)
set_cases flags i k h = elim (cases_eq i k) [ inl e ↦ inr e | inr ne ↦ inl (sym (get_other flags i k true ne) ∙ h) ]

set_still : (flags : List Bool) (i k : ℕ) → i < length flags → IsSeen flags k → IsSeen (slice_set flags i true) k
set_still flags i k l h =
    elim (cases_eq i k) [
      | inl e ↦ subst (λ (n : ℕ). IsSeen (slice_set flags i true) n) e (get_same flags i true l)
      | inr ne ↦ get_other flags i k true ne ∙ h
    ]

grows_same : (place : ℕ) (s : Seen) → (place < length s.seen → IsSeen s.seen place) → Grows (place ∷ []) s s
grows_same place s is =
    record {
      count = refl;
      still = λ k h. h;
      from = λ k h. inl h;
      now = λ k has l.
          elim (Contains_cases place k [] has) [
            | inl e ↦ subst (λ (n : ℕ). IsSeen s.seen n) e (is (subst (λ (n : ℕ). n < length s.seen) (sym e) l))
            | inr none ↦ absurd (Contains_none k none)
          ];
      waits = λ k h. h;
      waiting = λ k h. inl h;
      work = refl;
    }

abbrev seen_more : ℕ → Seen → Seen
seen_more place s = record { seen = slice_set s.seen place true; waiting = s.waiting ++ place ∷ [] }

grows_more : (place : ℕ) (s : Seen) → slice_get s.seen place ≡ Some false → Grows (place ∷ []) s (seen_more place s)
grows_more place s e =
    let l : place < length s.seen = slice_get_within s.seen place false e in
    record {
      count = length_set s.seen place true;
      still = λ k h. set_still s.seen place k l h;
      from = λ k h.
          elim (set_cases s.seen place k h) [
            | inl before ↦ inl before
            | inr same ↦
                inr (
                  subst (λ (n : ℕ). Contains (place ∷ []) n) same (Contains_head place []),
                  subst (λ (n : ℕ). Contains (s.waiting ++ place ∷ []) n) same (Contains-push s.waiting place),
                )
          ];
      now = λ k has l'.
          elim (Contains_cases place k [] has) [
            | inl same ↦ subst (λ (n : ℕ). IsSeen (slice_set s.seen place true) n) same (get_same s.seen place true l)
            | inr none ↦ absurd (Contains_none k none)
          ];
      waits = λ k h. Contains-append_left s.waiting (place ∷ []) k h;
      waiting = λ k h.
          elim (Contains-push_cases s.waiting place k h) [
            | inl before ↦ inl before
            | inr same ↦ inr (subst (λ (n : ℕ). IsSeen (slice_set s.seen place true) n) same (get_same s.seen place true l))
          ];
      work =
          let fewer : suc (unseen (slice_set s.seen place true)) ≡ unseen s.seen = unseen_set s.seen place e in
          let longer : length (s.waiting ++ place ∷ []) ≡ length s.waiting + 1 = length_push s.waiting place in
          omega (arith, fewer, longer);
    }

grows_place : (place : ℕ) (s : Seen) → Grows (place ∷ []) s (with_place place s)
grows_place place s =
    elim (seen_cases s.seen place) [
      | inl is ↦
          subst (λ (o : Option Bool). Grows (place ∷ []) s (if option_map_or not o false then seen_more place s else s)) (sym is) (grows_same place s (λ l. is))
      | inr (inl not_yet) ↦
          subst (λ (o : Option Bool). Grows (place ∷ []) s (if option_map_or not o false then seen_more place s else s)) (sym not_yet) (grows_more place s not_yet)
      | inr (inr past) ↦
          subst (λ (o : Option Bool). Grows (place ∷ []) s (if option_map_or not o false then seen_more place s else s)) (sym past)
          (grows_same place s (λ l. absurd (past_end s.seen place past l)))
    ]

grows_then : (place : ℕ) (places : List ℕ) (s t u : Seen) → Grows (place ∷ []) s t → Grows places t u → Grows (place ∷ places) s u
grows_then place places s t u g h =
    record {
      count = h.count ∙ g.count;
      still = λ k is. h.still k (g.still k is);
      from = λ k is.
          elim (h.from k is) [
            | inl before ↦ elim (g.from k before) [
              | inl first ↦ inl first
              | inr (has, waits) ↦ elim (Contains_cases place k [] has) [
                | inl same ↦ inr (subst (λ (n : ℕ). Contains (place ∷ places) n) same (Contains_head place places), h.waits k waits)
                | inr none ↦ absurd (Contains_none k none)
              ]
            ]
            | inr (has, waits) ↦ inr (Contains_tail place k places has, waits)
          ];
      now = λ k has l.
          elim (Contains_cases place k places has) [
            | inl same ↦ h.still k (g.now k (subst (λ (n : ℕ). Contains (place ∷ []) n) same (Contains_head place [])) l)
            | inr others ↦ h.now k others (subst (λ (n : ℕ). k < n) (sym g.count) l)
          ];
      waits = λ k has. h.waits k (g.waits k has);
      waiting = λ k has.
          elim (h.waiting k has) [
            | inl before ↦ elim (g.waiting k before) [ inl first ↦ inl first | inr is ↦ inr (h.still k is) ]
            | inr is ↦ inr is
          ];
      work = h.work ∙ g.work;
    }

grows_places : (places : List ℕ) (s : Seen) → Grows places s (with_places places s)
unfolding with_places
grows_places [] s = grows_none s
grows_places (place ∷ places) s =
    grows_then place places s (with_place place s) (with_places places (with_place place s)) (grows_place place s) (grows_places places (with_place place s))

-- ---- the search

not_seen_at_first : (n k : ℕ) → slice_get (replicate n false) k ≡ Some true → ⊥
not_seen_at_first zero k e = absurd (cc)
not_seen_at_first (suc n) zero e = true≢false (sym (same_Some false true e))
not_seen_at_first (suc n) (suc k) e = not_seen_at_first n k e

pub edges_within : (graph : List (List ℕ)) (i j : ℕ) → Contains (edges_at graph i) j → i < length graph
edges_within [] i j has = absurd (Contains_none j has)
edges_within (edges ∷ graph) zero j has = omega arith
edges_within (edges ∷ graph) (suc i) j has = let l = edges_within graph i j has in omega (arith, l)

abbrev without : Seen → List ℕ → Seen
without s waiting = record { seen = s.seen; waiting = waiting }

module _ (graph : List (List ℕ)) (first : List ℕ) where
  -- What was seen is reached. What waits was seen. From what was seen and does not wait each edge leads to what was seen.
  pub record IsSearch (s : Seen) : Type 0 where
    pub count : length s.seen ≡ length graph
    pub sound : (k : ℕ) → IsSeen s.seen k → Reached graph first k
    pub waiting : (k : ℕ) → Contains s.waiting k → IsSeen s.seen k
    pub closed : (k : ℕ) → IsSeen s.seen k → Contains s.waiting k ⊎ ((j : ℕ) → Contains (edges_at graph k) j → j < length graph → IsSeen s.seen j)
    pub firsts : (j : ℕ) → Contains first j → j < length graph → IsSeen s.seen j

  search_starts : (s t : Seen) → s.seen ≡ replicate (length graph) false → s.waiting ≡ [] → Grows first s t → IsSearch t
  search_starts s t none empty g =
      let never = λ (k : ℕ) (h : IsSeen s.seen k). not_seen_at_first (length graph) k (subst (λ (flags : List Bool). IsSeen flags k) none h) in
      let count : length s.seen ≡ length graph = ap (λ (flags : List Bool). length flags) none ∙ length-replicate (length graph) false in
      record {
        count = g.count ∙ count;
        sound = λ k h. elim (g.from k h) [ inl before ↦ absurd (never k before) | inr (has, waits) ↦ at_first has ];
        waiting = λ k h.
            elim (g.waiting k h) [ inl before ↦ absurd (Contains_none k (subst (λ (w : List ℕ). Contains w k) empty before)) | inr is ↦ is ];
        closed = λ k h. elim (g.from k h) [ inl before ↦ absurd (never k before) | inr (has, waits) ↦ inl waits ];
        firsts = λ j has l. g.now j has (subst (λ (n : ℕ). j < n) (sym count) l);
      }

  -- what is seen when a search starts
  pub search_begins : (s : Seen) → s.seen ≡ replicate (length graph) false → s.waiting ≡ [] → IsSearch (with_places first s)
  search_begins s none empty = search_starts s (with_places first s) none empty (grows_places first s)

  follows : (s t : Seen) (waiting : List ℕ) (place : ℕ) → s.waiting ≡ waiting ++ place ∷ [] → IsSearch s → Grows (edges_at graph place) (without s waiting) t → IsSearch t
  follows s t waiting place e is g =
      let there : Contains s.waiting place = subst (λ (w : List ℕ). Contains w place) (sym e) (Contains-push waiting place) in
      let before = λ (k : ℕ) (has : Contains waiting k). subst (λ (w : List ℕ). Contains w k) (sym e) (Contains-append_left waiting (place ∷ []) k has) in
      record {
        count = g.count ∙ is.count;
        sound = λ k h. elim (g.from k h) [ inl seen ↦ is.sound k seen | inr (has, waits) ↦ along (is.sound place (is.waiting place there)) has ];
        waiting = λ k h. elim (g.waiting k h) [ inl waits ↦ g.still k (is.waiting k (before k waits)) | inr seen ↦ seen ];
        closed = λ k h.
            elim (g.from k h) [
              | inl seen ↦ elim (is.closed k seen) [
                | inl waits ↦ elim (Contains-push_cases waiting place k (subst (λ (w : List ℕ). Contains w k) e waits)) [
                  | inl still ↦ inl (g.waits k still)
                  | inr same ↦ inr (λ j has l.
                      g.now j (subst (λ (n : ℕ). Contains (edges_at graph n) j) (sym same) has) (subst (λ (n : ℕ). j < n) (sym is.count) l))
                ]
                | inr done ↦ inr (λ j has l. g.still j (done j has l))
              ]
              | inr (has, waits) ↦ inl waits
            ];
        firsts = λ j has l. g.still j (is.firsts j has l);
      }

  -- a place that waited is followed
  pub search_follows : (s : Seen) (waiting : List ℕ) (place : ℕ) → s.waiting ≡ waiting ++ place ∷ [] → IsSearch s → IsSearch (with_places (edges_at graph place) (without s waiting))
  search_follows s waiting place e is =
      follows s (with_places (edges_at graph place) (without s waiting)) waiting place e is (grows_places (edges_at graph place) (without s waiting))

  -- and there is less work then
  pub search_shrinks : (s : Seen) (waiting : List ℕ) (place : ℕ) → s.waiting ≡ waiting ++ place ∷ []
      → let t = with_places (edges_at graph place) (without s waiting) in unseen t.seen + length t.waiting < unseen s.seen + length s.waiting
  search_shrinks s waiting place e =
      let g = grows_places (edges_at graph place) (without s waiting) in
      let one : length s.waiting ≡ length waiting + 1 = ap (λ (w : List ℕ). length w) e ∙ length_push waiting place in
      omega (arith, g.work, one)

  all_seen : (s : Seen) → IsSearch s → s.waiting ≡ [] → (i : ℕ) → Reached graph first i → i < length graph → IsSeen s.seen i
  all_seen s is empty i (at_first has) l = is.firsts i has l
  all_seen s is empty i (along {i = k} reached has) l =
      elim (is.closed k (all_seen s is empty k reached (edges_within graph k i has))) [
        | inl waits ↦ absurd (Contains_none k (subst (λ (w : List ℕ). Contains w k) empty waits))
        | inr done ↦ done i has l
      ]

  -- where no place waits, those that were seen are those that are reached
  pub search_ends : (s : Seen) → IsSearch s → s.waiting ≡ [] → AreReached graph first s.seen
  search_ends s is empty = record { count = is.count; reached = λ i l. (λ h. is.sound i h, λ reached. all_seen s is empty i reached l) }

-- the same places seen
same_seen : (a b : List Bool) (waiting : List ℕ) → a ≡ b → ◌≡◌ {A = Seen} (record { seen = a; waiting = waiting }) (record { seen = b; waiting = waiting })
same_seen a b waiting e = ap (λ (flags : List Bool). let s : Seen = record { seen = flags; waiting = waiting } in s) e

-- the search when a place was taken from those that wait, and followed
pub followed : (graph : List (List ℕ)) (edges : List ℕ) (s n t : Seen) (place : ℕ) → edges ≡ edges_at graph place → n.seen ≡ s.seen → t ≡ with_places edges n
    → t ≡ with_places (edges_at graph place) (without s n.waiting)
followed graph edges s n t place e same is =
    is ∙ ap (λ (es : List ℕ). with_places es n) e ∙ ap (with_places (edges_at graph place)) (same_seen n.seen s.seen n.waiting same)
