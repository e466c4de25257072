-- What is known of chains of typedefs.
use Rattle.std.proofs.Common.{◌≡◌, ◌∙◌, ◌⊎◌, ℕ, suc, zero, ◌+◌, ◌<◌, List, [], ◌∷◌, ◌++◌, length, set, Option, Some, None, refl, sym, ap, inl, inr, arith, subst, reverse, map, take, get_or}
use Rattle.std.specs.Prelude.{option_map, slice_get}
use Rattle.std.proofs.lemmas.Bool.{cases_eq}
use Rattle.std.proofs.lemmas.List.{take_more, reverse-append, length-set, get_or-set_same, get_or-set_other}
use Rattle.std.proofs.lemmas.Option.{get_or_from_slice_get, slice_get_within, slice_get-get_or, same_Some, none-some}
use Rattle.gt_items.specs.declared.items.Stars.{Stars}
use Rattle.gt_items.specs.declared.items.Stars.TheVariants as stars
use Rattle.gt_scope.specs.declared.kinds.Kind.{Kind}
use Rattle.gt_scope.specs.declared.kinds.Meant.{Meant}
use Rattle.gt_scope.specs.declared.link.Link.{Link}
use Rattle.gt_scope.specs.declared.link.Target.{Target}
use Rattle.gt_scope.specs.declared.link.Target.TheVariants.{End, Next}
use Rattle.gt_scope.specs.Kinds.{meant_after, kept_after, unkept}
use Rattle.gt_scope.specs.Chains.{AreMeanings, follow_links, follow_link, follow_target, IsTargetMeaning, IsOneOf, LeadsTo, IsWay, IsMemo, IsWalk, IsWalked}

-- what is after stars of an opaque name is opaque
pub opaque_after : (s : Stars) → meant_after s unkept ≡ unkept
unfolding kept_after
opaque_after stars.Zero = refl
opaque_after stars.One = refl
opaque_after stars.Two = refl
opaque_after stars.More = refl

-- an end is its own meaning
pub end_means : (links : List Link) (kind : Kind) → IsTargetMeaning links (End kind) (record { kind = kind; stars = stars.Zero })
end_means links kind = inl (0, refl)

past_never : (links : List Link) (at : ℕ) → slice_get links at ≡ None → (steps : ℕ) → follow_links links steps at ≡ None
unfolding follow_links
past_never links at h zero = refl
past_never links at h (suc steps) = ap (follow_link (follow_links links steps)) h

-- where there is no typedef, there is no end
pub past_means : (links : List Link) (at : ℕ) → slice_get links at ≡ None → IsTargetMeaning links (Next at) unkept
past_means links at h = inr (past_never links at h, refl)

no_step : (links : List Link) (p : ℕ) (to : Target) → LeadsTo links p to → ((steps : ℕ) → follow_target (follow_links links steps) to ≡ None) → (steps : ℕ) → follow_links links steps p ≡ None
unfolding follow_links
no_step links p to l never zero = refl
no_step links p to l never (suc steps) =
    ap (follow_link (follow_links links steps)) l.found ∙ ap (option_map (meant_after l.link.stars)) (ap (follow_target (follow_links links steps)) l.leads ∙ never steps)

-- a typedef means what it leads to, after its stars
pub one_means : (links : List Link) (p : ℕ) (to : Target) (l : LeadsTo links p to) (m : Meant) → IsTargetMeaning links to m
    → IsTargetMeaning links (Next p) (meant_after l.link.stars m)
unfolding follow_links
one_means links p to l m (inl found) =
    inl (suc found.0, ap (follow_link (follow_links links found.0)) l.found ∙ ap (option_map (meant_after l.link.stars)) (ap (follow_target (follow_links links found.0)) l.leads ∙ found.1))
one_means links p to l m (inr never) =
    inr (no_step links p to l never.0, ap (meant_after l.link.stars) never.1 ∙ opaque_after l.link.stars)

-- ---- a way back to itself

-- the next of one on a way
record Goes (links : List Link) (whole : List ℕ) (p : ℕ) : Type 0 where
  next : ℕ
  leads : LeadsTo links p (Next next)
  stays : IsOneOf whole next

goes : (links : List Link) (start : ℕ) (whole rest : List ℕ) (to : Target) (at : ℕ) → to ≡ Next at → IsOneOf whole at
    → ((i : ℕ) → IsOneOf rest i → IsOneOf whole i) → IsWay links start rest to → (p : ℕ) → IsOneOf rest p → Goes links whole p
goes links start whole [] to at e here within way p one = elim one [ ]
goes links start whole (q ∷ rest) to at e here within way p (inl same) =
    record {
      next = at;
      leads = record { link = way.0.link; found = ap (slice_get links) same ∙ way.0.found; leads = way.0.leads ∙ e };
      stays = here;
    }
goes links start whole (q ∷ rest) to at e here within way p (inr more) =
    goes links start whole rest (Next q) q refl (within q (inl refl)) (λ i one. within i (inr one)) way.1 p more

never_ends : (links : List Link) (whole : List ℕ) → ((p : ℕ) → IsOneOf whole p → Goes links whole p) → (steps p : ℕ) → IsOneOf whole p
    → follow_links links steps p ≡ None
unfolding follow_links
never_ends links whole closed zero p one = refl
never_ends links whole closed (suc steps) p one =
    let g = closed p one in
    ap (follow_link (follow_links links steps)) g.leads.found
    ∙ ap (option_map (meant_after g.leads.link.stars)) (ap (follow_target (follow_links links steps)) g.leads.leads ∙ never_ends links whole closed steps g.next g.stays)

-- ---- walking

known_case : (links : List Link) (start : ℕ) (way : List ℕ) (memo : List (Option Meant)) (at : ℕ) (m : Meant)
    → IsWalk links start way memo (Next at) → IsTargetMeaning links (Next at) m ⊎ (IsOneOf way at × (m ≡ unkept)) → IsTargetMeaning links (Next at) m
known_case links start way memo at m w (inl means) = means
known_case links start way memo at m w (inr on) =
    inr (λ steps. never_ends links way (goes links start way way (Next at) at refl on.0 (λ i one. one) w.is_way) steps at on.0, on.1)

pub known_means : (links : List Link) (start : ℕ) (way : List ℕ) (memo : List (Option Meant)) (at : ℕ) (m : Meant)
    → IsWalk links start way memo (Next at) → slice_get memo at ≡ Some (Some m) → IsTargetMeaning links (Next at) m
known_means links start way memo at m w found = known_case links start way memo at m w (w.known at m found)

set_same : {A : Type 0} (xs : List A) (i : ℕ) (y x : A) → i < length xs → slice_get (set xs i y) i ≡ Some x → x ≡ y
set_same xs i y x h e =
    let a = get_or_from_slice_get (set xs i y) i x y e in
    let b = get_or-set_same xs i y y h in cc

set_other : {A : Type 0} (xs : List A) (i j : ℕ) (y x : A) → i < length xs → (j ≡ i → ⊥) → slice_get (set xs i y) j ≡ Some x → slice_get xs j ≡ Some x
set_other xs i j y x h apart e =
    let a = slice_get_within (set xs i y) j x e in
    let b = get_or_from_slice_get (set xs i y) j x y e in
    let c = slice_get-get_or xs j y (subst (λ n. j < n) (length-set xs i y) a) in
    c ∙ ap Some (sym (get_or-set_other xs i j y y apart) ∙ b)

some_inj : {A : Type 0} (x y : A) → Some x ≡ Some y → x ≡ y
some_inj x y e = same_Some x y e

one_more : (links : List Link) (way : List ℕ) (at i : ℕ) (m : Meant) → IsTargetMeaning links (Next i) m ⊎ (IsOneOf way i × (m ≡ unkept))
    → IsTargetMeaning links (Next i) m ⊎ (IsOneOf (at ∷ way) i × (m ≡ unkept))
one_more links way at i m (inl means) = inl means
one_more links way at i m (inr on) = inr (inr on.0, on.1)

walk_on_case : (links : List Link) (start : ℕ) (way : List ℕ) (memo : List (Option Meant)) (at i : ℕ) (m : Meant)
    → IsWalk links start way memo (Next at) → at < length memo → slice_get (set memo at (Some unkept)) i ≡ Some (Some m) → (i ≡ at) ⊎ (i ≡ at → ⊥)
    → IsTargetMeaning links (Next i) m ⊎ (IsOneOf (at ∷ way) i × (m ≡ unkept))
walk_on_case links start way memo at i m w h e (inl same) =
    inr (inl same, some_inj m unkept (set_same memo at (Some unkept) (Some m) h (subst (λ j. slice_get (set memo at (Some unkept)) j ≡ Some (Some m)) same e)))
walk_on_case links start way memo at i m w h e (inr apart) =
    one_more links way at i m (w.known i m (set_other memo at i (Some unkept) (Some m) h apart e))

-- one more typedef is on the way, and counts as opaque so far
pub walk_on : (links : List Link) (start : ℕ) (way : List ℕ) (memo : List (Option Meant)) (at : ℕ) (link : Link)
    → IsWalk links start way memo (Next at) → at < length memo → slice_get links at ≡ Some link
    → IsWalk links start (at ∷ way) (set memo at (Some unkept)) link.to
walk_on links start way memo at link w h found =
    record {
      counted = length-set memo at (Some unkept) ∙ w.counted;
      is_way = (record { link = link; found = found; leads = refl }, w.is_way);
      known = λ i m e. walk_on_case links start way memo at i m w h e (cases_eq i at);
    }

-- ---- going back

one_less_of : (links : List Link) (way : List ℕ) (p i : ℕ) (m : Meant) → (i ≡ p → ⊥) → IsOneOf (p ∷ way) i → m ≡ unkept
    → IsTargetMeaning links (Next i) m ⊎ (IsOneOf way i × (m ≡ unkept))
one_less_of links way p i m apart (inl same) e = absurd (apart same)
one_less_of links way p i m apart (inr on) e = inr (on, e)

one_less : (links : List Link) (way : List ℕ) (p i : ℕ) (m : Meant) → (i ≡ p → ⊥) → IsTargetMeaning links (Next i) m ⊎ (IsOneOf (p ∷ way) i × (m ≡ unkept))
    → IsTargetMeaning links (Next i) m ⊎ (IsOneOf way i × (m ≡ unkept))
one_less links way p i m apart (inl means) = inl means
one_less links way p i m apart (inr on) = one_less_of links way p i m apart on.0 on.1

walk_back_case : (links : List Link) (start p : ℕ) (way : List ℕ) (memo : List (Option Meant)) (to : Target) (m : Meant)
    → IsTargetMeaning links (Next p) m → IsWalk links start (p ∷ way) memo to → p < length memo
    → (i : ℕ) (n : Meant) → slice_get (set memo p (Some m)) i ≡ Some (Some n) → (i ≡ p) ⊎ (i ≡ p → ⊥)
    → IsTargetMeaning links (Next i) n ⊎ (IsOneOf way i × (n ≡ unkept))
walk_back_case links start p way memo to m means w h i n e (inl same) =
    let s : n ≡ m = some_inj n m (set_same memo p (Some m) (Some n) h (subst (λ j. slice_get (set memo p (Some m)) j ≡ Some (Some n)) same e)) in
    inl (rw same (rw s means))
walk_back_case links start p way memo to m means w h i n e (inr apart) =
    one_less links way p i n apart (w.known i n (set_other memo p i (Some m) (Some n) h apart e))

-- the last on the way has its meaning
pub walk_back : (links : List Link) (start p : ℕ) (way : List ℕ) (memo : List (Option Meant)) (link : Link) (m : Meant)
    → IsWalked links start (p ∷ way) memo m → p < length memo → slice_get links p ≡ Some link
    → IsWalked links start way (set memo p (Some (meant_after link.stars m))) (meant_after link.stars m)
walk_back links start p way memo link m w h found =
    let l : LeadsTo links p w.to = record { link = link; found = found; leads = ap (λ l. l.to) (some_inj link w.walk.is_way.0.link (sym found ∙ w.walk.is_way.0.found)) ∙ w.walk.is_way.0.leads } in
    let means : IsTargetMeaning links (Next p) (meant_after link.stars m) = one_means links p w.to l m w.means in
    record {
      to = Next p;
      means = means;
      walk = record {
        counted = length-set memo p (Some (meant_after link.stars m)) ∙ w.walk.counted;
        is_way = w.walk.is_way.1;
        known = λ i n e. walk_back_case links start p way memo w.to (meant_after link.stars m) means w.walk h i n e (cases_eq i p);
      };
    }

memo_case : (links : List Link) (i : ℕ) (m : Meant) → IsTargetMeaning links (Next i) m ⊎ (IsOneOf [] i × (m ≡ unkept)) → IsTargetMeaning links (Next i) m
memo_case links i m (inl means) = means
memo_case links i m (inr on) = absurd on.0

-- nothing is left of the way
pub walked_memo : (links : List Link) (start : ℕ) (memo : List (Option Meant)) (m : Meant) → IsWalked links start [] memo m → IsMemo links memo
walked_memo links start memo m w = record { counted = w.walk.counted; known = λ i n e. memo_case links i n (w.walk.known i n e) }

pub walked_means : (links : List Link) (start : ℕ) (memo : List (Option Meant)) (m : Meant) → IsWalked links start [] memo m
    → IsTargetMeaning links (Next start) m
walked_means links start memo m w = subst (λ to. IsTargetMeaning links to m) w.walk.is_way w.means

-- a walk begins where it is to end
pub walk_start : (links : List Link) (start : ℕ) (memo : List (Option Meant)) → IsMemo links memo → IsWalk links start [] memo (Next start)
walk_start links start memo known = record { counted = known.counted; is_way = refl; known = λ i m e. inl (known.known i m e) }

-- ---- what is not known

-- how many meanings are not known
abbrev pub unknown_count : List (Option Meant) → ℕ
unknown_count [] = 0
unknown_count (None ∷ memo) = suc (unknown_count memo)
unknown_count (Some m ∷ memo) = unknown_count memo

-- there is one less where one becomes known
pub one_known : (memo : List (Option Meant)) (at : ℕ) (m : Meant) → slice_get memo at ≡ Some None → suc (unknown_count (set memo at (Some m))) ≡ unknown_count memo
one_known [] at m h = cc
one_known (None ∷ memo) zero m h = refl
one_known (Some n ∷ memo) zero m h = cc
one_known (None ∷ memo) (suc at) m h = ap (λ n. suc n) (one_known memo at m h)
one_known (Some n ∷ memo) (suc at) m h = one_known memo at m h

-- no meaning is known
pub record AreUnknown (memo : List (Option Meant)) (count : ℕ) : Type 0 where
  pub counted : length memo ≡ count
  pub unknown : (i : ℕ) (m : Meant) → slice_get memo i ≡ Some (Some m) → ⊥

one_further : {A : Type 0} (xs : List A) (x z : A) (i : ℕ) (y : A) → (slice_get xs i ≡ Some y) ⊎ ((x ≡ y) × (i ≡ length xs))
    → (slice_get xs i ≡ Some y) ⊎ ((x ≡ y) × (suc i ≡ length (z ∷ xs)))
one_further xs x z i y (inl old) = inl old
one_further xs x z i y (inr new) = inr (new.0, ap (λ n. suc n) new.1)

get_pushed : {A : Type 0} (xs : List A) (x : A) (i : ℕ) (y : A) → slice_get (xs ++ x ∷ []) i ≡ Some y → (slice_get xs i ≡ Some y) ⊎ ((x ≡ y) × (i ≡ length xs))
get_pushed [] x zero y h = inr (same_Some x y h, refl)
get_pushed [] x (suc i) y h = absurd (none-some y h)
get_pushed (z ∷ xs) x zero y h = inl h
get_pushed (z ∷ xs) x (suc i) y h = one_further xs x z i y (get_pushed xs x i y h)

length_pushed : {A : Type 0} (xs : List A) (x : A) → length (xs ++ x ∷ []) ≡ suc (length xs)
length_pushed [] x = refl
length_pushed (y ∷ xs) x = ap (λ n. suc n) (length_pushed xs x)

unknown_case : (memo : List (Option Meant)) (count i : ℕ) (m : Meant) → AreUnknown memo count
    → (slice_get memo i ≡ Some (Some m)) ⊎ ((None ≡ Some m) × (i ≡ length memo)) → ⊥
unknown_case memo count i m u (inl old) = u.unknown i m old
unknown_case memo count i m u (inr new) = none-some m new.0

pub unknown_push : (memo : List (Option Meant)) (count : ℕ) → AreUnknown memo count → AreUnknown (memo ++ None ∷ []) (count + 1)
unknown_push memo count u =
    record {
      counted = (let e = length_pushed memo None in let f = u.counted in omega arith);
      unknown = λ i m h. unknown_case memo count i m u (get_pushed memo None i (Some m) h);
    }

pub unknown_none : AreUnknown [] 0
unknown_none = record { counted = refl; unknown = λ i m h. none-some (Some m) h }

pub unknown_memo : (links : List Link) (memo : List (Option Meant)) (count : ℕ) → AreUnknown memo count → count ≡ length links → IsMemo links memo
unknown_memo links memo count u e = record { counted = u.counted ∙ e; known = λ i m h. absurd (u.unknown i m h) }

-- ---- steps of the walks

-- there is no typedef here
pub past_walk : (links : List Link) (start : ℕ) (way : List ℕ) (memo : List (Option Meant)) (at : ℕ) (m : Meant)
    → IsWalk links start way memo (Next at) → None ≡ slice_get links at → m ≡ unkept → IsWalked links start way memo m
past_walk links start way memo at m w h e =
    record { to = Next at; walk = w; means = subst (λ n. IsTargetMeaning links (Next at) n) (sym e) (past_means links at (sym h)) }

-- its meaning is known
pub known_walk : (links : List Link) (start : ℕ) (way : List ℕ) (memo : List (Option Meant)) (at : ℕ) (m : Meant)
    → IsWalk links start way memo (Next at) → Some (Some m) ≡ slice_get memo at → IsWalked links start way memo m
known_walk links start way memo at m w h = record { to = Next at; walk = w; means = known_means links start way memo at m w (sym h) }

-- it is within what may be known
pub within_walk : (links : List Link) (start : ℕ) (way : List ℕ) (memo : List (Option Meant)) (at : ℕ) (link : Link) (to : Target)
    → IsWalk links start way memo to → Some link ≡ slice_get links at → at < length memo
within_walk links start way memo at link to w h = subst (λ n. at < n) (sym w.counted) (slice_get_within links at link (sym h))

reverse_push : (way : List ℕ) (at : ℕ) → reverse (way ++ at ∷ []) ≡ at ∷ reverse way
reverse_push way at = reverse-append way (at ∷ [])

-- it is put on the way
pub on_walk : (links : List Link) (start : ℕ) (way pushed : List ℕ) (memo noted : List (Option Meant)) (at : ℕ) (link : Link) (m : Meant)
    → IsWalk links start (reverse way) memo (Next at) → Some link ≡ slice_get links at → pushed ≡ way ++ at ∷ [] → noted ≡ set memo at (Some m) → m ≡ unkept
    → IsWalk links start (reverse pushed) noted link.to
on_walk links start way pushed memo noted at link m w h p n o =
    rw (p ∙ refl) (rw n (rw o (rw (reverse_push way at)
    (walk_on links start (reverse way) memo at link w (within_walk links start (reverse way) memo at link (Next at) w h) (sym h)))))

-- and leads to an end
pub end_walk : (links : List Link) (start : ℕ) (way pushed : List ℕ) (memo noted : List (Option Meant)) (at : ℕ) (link : Link) (m : Meant) (kind : Kind)
    → IsWalk links start (reverse way) memo (Next at) → Some link ≡ slice_get links at → pushed ≡ way ++ at ∷ [] → noted ≡ set memo at (Some m) → m ≡ unkept
    → link.to ≡ End kind → IsWalked links start (reverse pushed) noted (record { kind = kind; stars = stars.Zero })
end_walk links start way pushed memo noted at link m kind w h p n o e =
    record {
      to = link.to;
      walk = on_walk links start way pushed memo noted at link m w h p n o;
      means = rw e (end_means links kind);
    }

-- what is last on the way is a typedef
pub no_back : (links : List Link) (start : ℕ) (way rest : List ℕ) (memo : List (Option Meant)) (p : ℕ) (m : Meant)
    → IsWalked links start (reverse way) memo m → way ≡ rest ++ p ∷ [] → None ≡ slice_get links p → ⊥
no_back links start way rest memo p m w e h =
    let v : IsWalked links start (p ∷ reverse rest) memo m = subst (λ ps. IsWalked links start ps memo m) (ap reverse e ∙ reverse_push rest p) w in
    none-some v.walk.is_way.0.link (h ∙ v.walk.is_way.0.found)

-- going back by one
pub one_back : (links : List Link) (start : ℕ) (way rest : List ℕ) (memo noted : List (Option Meant)) (p : ℕ) (link : Link) (m n : Meant)
    → IsWalked links start (reverse way) memo m → way ≡ rest ++ p ∷ [] → Some link ≡ slice_get links p → n ≡ meant_after link.stars m
    → noted ≡ set memo p (Some n) → IsWalked links start (reverse rest) noted n
one_back links start way rest memo noted p link m n w e h b k =
    let v : IsWalked links start (p ∷ reverse rest) memo m = subst (λ ps. IsWalked links start ps memo m) (ap reverse e ∙ reverse_push rest p) w in
    rw k (rw b (walk_back links start p (reverse rest) memo link m v (within_walk links start (p ∷ reverse rest) memo p link v.to v.walk h) (sym h)))

pub within_back : (links : List Link) (start : ℕ) (way : List ℕ) (memo : List (Option Meant)) (p : ℕ) (link : Link) (m : Meant)
    → IsWalked links start way memo m → Some link ≡ slice_get links p → p < length memo
within_back links start way memo p link m w h = within_walk links start way memo p link w.to w.walk h

-- the whole way is back
pub all_back_memo : (links : List Link) (start : ℕ) (way : List ℕ) (memo : List (Option Meant)) (m : Meant)
    → IsWalked links start (reverse way) memo m → way ≡ [] → IsMemo links memo
all_back_memo links start way memo m w e = walked_memo links start memo m (subst (λ ps. IsWalked links start (reverse ps) memo m) e w)

pub all_back_means : (links : List Link) (start : ℕ) (way : List ℕ) (memo : List (Option Meant)) (m : Meant)
    → IsWalked links start (reverse way) memo m → way ≡ [] → IsTargetMeaning links (Next start) m
all_back_means links start way memo m w e = walked_means links start memo m (subst (λ ps. IsWalked links start (reverse ps) memo m) e w)

-- ---- all meanings

meant_case : (links : List Link) (meant : List Meant) (m n : Meant) (i : ℕ)
    → ((i : ℕ) (m : Meant) → slice_get meant i ≡ Some m → IsTargetMeaning links (Next i) m) → IsTargetMeaning links (Next (length meant)) m
    → (slice_get meant i ≡ Some n) ⊎ ((m ≡ n) × (i ≡ length meant)) → IsTargetMeaning links (Next i) n
meant_case links meant m n i all one (inl old) = all i n old
meant_case links meant m n i all one (inr new) = rw new.1 (subst (λ (x : Meant). IsTargetMeaning links (Next (length meant)) x) new.0 one)

-- so many typedefs have their meanings
pub record AreFirst (links : List Link) (meant : List Meant) (count : ℕ) : Type 0 where
  pub counted : length meant ≡ count
  pub each : (i : ℕ) (m : Meant) → slice_get meant i ≡ Some m → IsTargetMeaning links (Next i) m

pub no_meanings : (links : List Link) → AreFirst links [] 0
no_meanings links = record { counted = refl; each = λ i m h. absurd (none-some m h) }

-- one more typedef has its meaning
pub meanings_push : (links : List Link) (meant pushed : List Meant) (m : Meant) (place : ℕ)
    → AreFirst links meant place → IsTargetMeaning links (Next place) m → pushed ≡ meant ++ m ∷ [] → AreFirst links pushed (place + 1)
meanings_push links meant pushed m place a one p =
    rw p (record {
      counted = (let e = length_pushed meant m in let f = a.counted in omega arith);
      each = λ i n h. meant_case links meant m n i a.each (subst (λ (k : ℕ). IsTargetMeaning links (Next k) m) (sym a.counted) one) (get_pushed meant m i n h);
    })

pub meanings_all : (links : List Link) (meant : List Meant) (count : ℕ) → AreFirst links meant count → count ≡ length links → AreMeanings links meant
meanings_all links meant count a e = record { counted = a.counted ∙ e; each = a.each }

-- less is unknown after each step
pub walk_smaller : (memo noted : List (Option Meant)) (at : ℕ) (m : Meant) → slice_get memo at ≡ Some None → noted ≡ set memo at (Some m)
    → unknown_count noted < unknown_count memo
walk_smaller memo noted at m h e =
    let a = one_known memo at m h in
    let b = ap unknown_count e in omega arith
