-- The entries of a map, as entries of a cache and as pairs.
use Rattle.std.proofs.Common.{◌≡◌, ℕ, zero, suc, Bool, true, false, cond, ◌||◌, List, [], ◌∷◌, ◌++◌, map, filter, set, nat_eq, refl, ap, sym, subst, ◌∙◌, arith, Option, Some, None}
use Rattle.std.specs.Prelude.{◌==◌, find, option_map, slice_get}
use Rattle.std.specs.List.{list_any, IsDistinct, AllByRecursion}
use Rattle.std.specs.Map.{keys_of, values_of, lookup}
use Rattle.std.proofs.lemmas.Bool.Decides.{nat_tests}
use Rattle.std.proofs.lemmas.Map.Keys.{IsDistinct-head, IsDistinct-tail}
use Rattle.std.proofs.lemmas.Bool.{eqb-true}
use Rattle.indexmap.specs.IndexMap.{set_value_at}
use Rattle.indexmap.specs.IndexMap.{insert_entry}
use Rattle.gt_caches.specs.declared.keyed.Held.{Held}
use Rattle.gt_next.specs.Caching.{value_of_key, paired, with_pair}
use Rattle.gt_caches.specs.Pairs.{Entry, pair_of, decided_at}
use Rattle.gt_caches.specs.Held.{entry_of}
use Rattle.gt_caches.specs.Kept.{staying_in}
use Rattle.std.specs.Option.{option_map_or}

abbrev pub entries_in : List (ℕ × Held) → List Entry
entries_in es = map entry_of es

abbrev pub pairs_at : List (ℕ × Held) → List (ℕ × ℕ)
pairs_at es = map pair_of (entries_in es)

turned : (a b : ℕ) → nat_eq a b ≡ nat_eq b a
turned a b = grind (arith, nat_tests)

pub value-lookup : (key : ℕ) (es : List (ℕ × Held)) → option_map (λ h. h.value) (lookup (nat_eq key) es) ≡ value_of_key key (pairs_at es)
value-lookup key [] = refl
value-lookup key (e ∷ es) = by (nat_eq e.0 key) (turned key e.0) (value-lookup key es)
  where
    by : (b : Bool) → nat_eq key e.0 ≡ b → option_map (λ h. h.value) (lookup (nat_eq key) es) ≡ value_of_key key (pairs_at es)
        → option_map (λ h. h.value) (cond (nat_eq key e.0) (Some e.1) (lookup (nat_eq key) es)) ≡ option_map (λ pair. pair.1) (cond b (Some (e.0, e.1.value)) (find (λ pair. pair.0 == key) (pairs_at es)))
    by true t rest = rw t
    by false t rest = rw t rest

-- pairs of which none has a key
none-paired : (key value : ℕ) (es : List (ℕ × Held)) → AllByRecursion (λ k. nat_eq key k ≡ false) (keys_of es) → map (paired key value) (pairs_at es) ≡ pairs_at es
none-paired key value [] h = refl
none-paired key value (e ∷ es) h = by (nat_eq e.0 key) (turned e.0 key ∙ h.0) (none-paired key value es h.1)
  where
    by : (b : Bool) → b ≡ false → map (paired key value) (pairs_at es) ≡ pairs_at es → (cond b (key, value) (e.0, e.1.value)) ∷ map (paired key value) (pairs_at es) ≡ (e.0, e.1.value) ∷ pairs_at es
    by true t rest = absurd (cc)
    by false t rest = ap (λ ys. (e.0, e.1.value) ∷ ys) rest

module _ (key : ℕ) (h : Held) (e : ℕ × Held) (es : List (ℕ × Held)) where
  -- the first pair has the key, so that no other has it
  put-first : e.0 ≡ key → IsDistinct nat_eq (e.0 ∷ keys_of es) → (e.0, h.value) ∷ pairs_at es ≡ (key, h.value) ∷ map (paired key h.value) (pairs_at es)
  put-first same d =
      let others = none-paired key h.value es (subst (λ n. AllByRecursion (λ k. nat_eq n k ≡ false) (keys_of es)) same (IsDistinct-head nat_eq e.0 (keys_of es) d)) in
      ap (λ k. (k, h.value) ∷ pairs_at es) same ∙ ap (λ ys. (key, h.value) ∷ ys) (sym others)

  -- the first pair has another key
  put-later : (b : Bool) → pairs_at (insert_entry nat_eq es key h) ≡ cond b (map (paired key h.value) (pairs_at es)) (pairs_at es ++ (key, h.value) ∷ [])
      → pair_of (entry_of e) ∷ pairs_at (insert_entry nat_eq es key h) ≡ cond b (pair_of (entry_of e) ∷ map (paired key h.value) (pairs_at es)) (pair_of (entry_of e) ∷ (pairs_at es ++ (key, h.value) ∷ []))
  put-later true q = ap (λ ys. pair_of (entry_of e) ∷ ys) q
  put-later false q = ap (λ ys. pair_of (entry_of e) ∷ ys) q

  abbrev inserted : Bool → List (ℕ × Held)
  inserted b = cond b ((e.0, h) ∷ es) (e ∷ insert_entry nat_eq es key h)

  put-step : (b : Bool) → nat_eq e.0 key ≡ b → IsDistinct nat_eq (keys_of (inserted b)) → (IsDistinct nat_eq (keys_of (insert_entry nat_eq es key h)) → pairs_at (insert_entry nat_eq es key h) ≡ with_pair key h.value (pairs_at es))
      → pairs_at (inserted b)
      ≡ cond (b || list_any (λ pair. pair.0 == key) (pairs_at es)) (cond b (key, h.value) (e.0, e.1.value) ∷ map (paired key h.value) (pairs_at es)) (pair_of (entry_of e) ∷ (pairs_at es ++ (key, h.value) ∷ []))
  put-step true s d rest = put-first (eqb-true e.0 key s) d
  put-step false s d rest = put-later (list_any (λ pair. pair.0 == key) (pairs_at es)) (rest (IsDistinct-tail nat_eq e.0 (keys_of (insert_entry nat_eq es key h)) d))

pub put-insert : (key : ℕ) (h : Held) (es : List (ℕ × Held)) → IsDistinct nat_eq (keys_of (insert_entry nat_eq es key h))
    → pairs_at (insert_entry nat_eq es key h) ≡ with_pair key h.value (pairs_at es)
put-insert key h [] d = refl
put-insert key h (e ∷ es) d =
    let flip = turned key e.0 in
    ap (λ b. pairs_at (inserted key h e es b)) flip ∙ put-step key h e es (nat_eq e.0 key) refl (subst (λ b. IsDistinct nat_eq (keys_of (inserted key h e es b))) flip d) (put-insert key h es)

-- ---- places

pub pair-at : (es : List (ℕ × Held)) (i : ℕ) (e : ℕ × Held) → slice_get es i ≡ Some e → slice_get (pairs_at es) i ≡ Some (e.0, e.1.value)
pair-at [] i e h = absurd (cc)
pair-at (x ∷ es) zero e h = let same : x ≡ e = cc in ap (λ y. Some (y.0, y.1.value)) same
pair-at (x ∷ es) (suc i) e h = pair-at es i e h

pub staying-filter : (es : List (ℕ × Held)) → entries_in (filter (λ e. e.1.stays) es) ≡ staying_in (entries_in es)
staying-filter [] = refl
staying-filter (e ∷ es) = by e.1.stays (staying-filter es)
  where
    by : (b : Bool) → entries_in (filter (λ x. x.1.stays) es) ≡ staying_in (entries_in es) → entries_in (cond b (e ∷ filter (λ x. x.1.stays) es) (filter (λ x. x.1.stays) es)) ≡ cond b (entry_of e ∷ staying_in (entries_in es)) (staying_in (entries_in es))
    by true rest = ap (λ ys. entry_of e ∷ ys) rest
    by false rest = rest

decided-cons : (x : Entry) (xs : List Entry) (i : ℕ) (stays : Bool) → decided_at (x ∷ xs) (suc i) stays ≡ x ∷ decided_at xs i stays
decided-cons x xs i stays = by (slice_get xs i)
  where
    by : (o : Option Entry) → option_map_or (λ e. x ∷ set xs i (record e { stays = stays })) o (x ∷ xs) ≡ x ∷ option_map_or (λ e. set xs i (record e { stays = stays })) o xs
    by None = refl
    by (Some e) = refl

pub decided-entry : (es : List (ℕ × Held)) (i : ℕ) (h : Held) (stays : Bool) → slice_get (values_of es) i ≡ Some h
    → entries_in (set_value_at es i (record { value = h.value; stays = stays })) ≡ decided_at (entries_in es) i stays
decided-entry [] i h stays at = absurd (cc)
decided-entry (e ∷ es) zero h stays at = let same : h ≡ e.1 = cc in ap (λ v. record { key = e.0; value = v.value; stays = stays } ∷ entries_in es) same
decided-entry (e ∷ es) (suc i) h stays at = ap (λ ys. entry_of e ∷ ys) (decided-entry es i h stays at) ∙ sym (decided-cons (entry_of e) (entries_in es) i stays)
