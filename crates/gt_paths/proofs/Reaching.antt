-- What the prefixes of paths reach from several structures.
use Rattle.std.proofs.Common.{◌≡◌, ◌≢◌, inl, inr, ℕ, suc, ◌+◌, ◌-◌, ◌<◌, ◌≤◌, Bool, true, false, cond, List, [], ◌∷◌, ◌++◌, length, get_or, take, drop, Option, Some, None, refl, sym, ap, subst, ◌∙◌, arith, nat_eq}
use Rattle.std.specs.Prelude.{All, IfOk, Result, slice_get}
use Rattle.std.specs.Bool.{Decides}
use Rattle.std.specs.BTreeMap.{BTreeMap, get, is_at}
use Rattle.std.specs.List.{list_any}
use Rattle.std.proofs.lemmas.Bool.Decides.{not_from_Decides}
use Rattle.std.proofs.lemmas.List.{length-drop, take-append-drop, take_all, take_more}
use Rattle.std.proofs.lemmas.List.Elements.{All-append, All-contains, All-cons, All-head, All-nil, Contains-get_or}
use Rattle.std.proofs.lemmas.Result.{IfOk-weaker}
use Rattle.indexmap.specs.IndexSet.{insert_key}
use Rattle.gt_types.specs.declared.types.TypeId.{TypeId}
use Rattle.gt_types.specs.declared.types.Ty.{Ty}
use Rattle.gt_types.specs.declared.program.Program.{Program}
use Rattle.gt_types.specs.Contains.{itself}
use Rattle.gt_types.specs.Paths.{LeadsToNumber}
use Rattle.gt_fields.specs.Places.{bind, place_in}
use Rattle.gt_paths.specs.Numbers.{numbered}
use Rattle.gt_paths.specs.OuterPaths.{AllLead, ArePrefixes, AreReached, path_cmp}
use Rattle.gt_paths.specs.Steps.{GoesOn, IsNext, NextLeads, StepsAt}
use Rattle.gt_paths.proofs.Ascents.{inserted, kept}
use Rattle.gt_paths.proofs.ByStep.{Distinct, by_named, from_step, named_at, not_named, one_type, place_ends, to_step}
use Rattle.gt_paths.proofs.Fitting.{exact_paths, kept_more}
use Rattle.gt_paths.proofs.Lists.{all_further}
use Rattle.gt_paths.proofs.Nodes.{itself-node}
use Rattle.gt_paths.proofs.Walks.{all_of_first, all_of_second}

-- ---- the structure to which a name leads

no_next : (program : Program) (node : TypeId) (name : List ℕ) → ((rest : List (List ℕ)) → Decides false (LeadsToNumber program node (name ∷ rest))) → IsNext program node name None
no_next program node name ends rest some = (λ leads. absurd (not_from_Decides false (ends rest) refl leads), λ never. absurd never)

-- no field has this name
pub nothing_named : (program : Program) (node : TypeId) (name : List ℕ) → None ≡ bind (slice_get program.structures node.0) (place_in name) → IsNext program node name None
nothing_named program node name none = no_next program node name (λ rest. by_named program node name rest false (not_named program node name rest none))

-- no path may go to the field
pub nothing_there : (program : Program) (node : TypeId) (name : List ℕ) (place : ℕ) → Distinct program → Some place ≡ bind (slice_get program.structures node.0) (place_in name)
    → ((type : Ty) → ¬ StepsAt program node place type) → IsNext program node name None
nothing_there program node name place distinct found none =
    no_next program node name (λ rest. by_named program node name rest false (named_at program node name rest place false distinct found (place_ends program node rest place none)))

goes_to : (program : Program) (rest : List (List ℕ)) (type : Ty) → rest ≢ [] → GoesOn program rest type → NextLeads program (itself type) rest
goes_to program rest type some (inl (none, number)) = absurd (some none)
goes_to program rest type some (inr (next, desc, is, leads)) = subst (λ (t : Ty). NextLeads program (itself t) rest) (sym is) leads

goes_from : (program : Program) (rest : List (List ℕ)) (type : Ty) (o : Option TypeId) → itself type ≡ o → NextLeads program o rest → GoesOn program rest type
goes_from program rest type None is never = absurd never
goes_from program rest type (Some next) is leads = let node = itself-node type next is in inr (next, node.0, node.1, leads)

-- a path may go to the field
pub next_there : (program : Program) (node : TypeId) (name : List ℕ) (place : ℕ) (type : Ty) → Distinct program → Some place ≡ bind (slice_get program.structures node.0) (place_in name)
    → StepsAt program node place type → IsNext program node name (itself type)
next_there program node name place type distinct found step rest some = (
  λ leads.
      let (other, step', goes) = to_step program node name rest place distinct found leads in
      goes_to program rest type some (subst (GoesOn program rest) (one_type program node place other type step' step) goes),
  λ next. from_step program node name rest place distinct found (type, step, goes_from program rest type (itself type) refl next),
)

-- ---- what a name reaches

all_inserted : (P : ℕ → Type 0) (ks : List ℕ) (k : ℕ) → All P ks → P k → All P (insert_key nat_eq ks k)
all_inserted P ks k all holds = by (list_any (nat_eq k) ks) where
  by : (b : Bool) → All P (cond b ks (ks ++ k ∷ []))
  by true = all
  by false = All-append P ks (k ∷ []) all (All-cons P k [] holds (All-nil P))

before_inserted : (P : ℕ → Type 0) (ks : List ℕ) (k : ℕ) → All P (insert_key nat_eq ks k) → All P ks
before_inserted P ks k all i d within = All-contains P (insert_key nat_eq ks k) (get_or ks i d) all (kept ks k (get_or ks i d) (Contains-get_or ks i d within))

at_inserted : (P : ℕ → Type 0) (ks : List ℕ) (k : ℕ) → All P (insert_key nat_eq ks k) → P k
at_inserted P ks k all = All-contains P (insert_key nat_eq ks k) k all (inserted ks k)

all_before : (P : ℕ → Type 0) (xs : List ℕ) (i d : ℕ) → i < length xs → All P (take (i + 1) xs) → All P (take i xs)
all_before P xs i d within all = all_of_first P (take i xs) (get_or xs i d ∷ []) (subst (All P) (take_more xs i d within) all)

all_at : (P : ℕ → Type 0) (xs : List ℕ) (i d : ℕ) → i < length xs → All P (take (i + 1) xs) → P (get_or xs i d)
all_at P xs i d within all = All-head P (get_or xs i d) [] (all_of_second P (take i xs) (get_or xs i d ∷ []) (subst (All P) (take_more xs i d within) all))

-- one more reaches a structure
pub reached_more : (program : Program) (starts : List ℕ) (name : List ℕ) (i : ℕ) (d : ℕ) (keys : List ℕ) (next : TypeId) → i < length starts
    → AreReached program (take i starts) (name ∷ []) (Some keys) → IsNext program (numbered (get_or starts i d)) name (Some next)
    → AreReached program (take (i + 1) starts) (name ∷ []) (Some (insert_key nat_eq keys next.0))
reached_more program starts name i d keys next within before step rest some =
    let here = λ (id : ℕ). LeadsToNumber program (numbered id) (name ∷ rest) in
    let there = λ (id : ℕ). LeadsToNumber program (numbered id) rest in (
      λ all. all_inserted there keys next.0 ((before rest some).0 (all_before here starts i d within all)) ((step rest some).0 (all_at here starts i d within all)),
      λ all. all_further here starts i d within ((before rest some).1 (before_inserted there keys next.0 all)) ((step rest some).1 (at_inserted there keys next.0 all)),
    )

-- one reaches no structure
pub reached_stops : (program : Program) (starts : List ℕ) (name : List ℕ) (i : ℕ) (d : ℕ) → i < length starts → IsNext program (numbered (get_or starts i d)) name None
    → AreReached program starts (name ∷ []) None
reached_stops program starts name i d within step rest some = (λ all. (step rest some).0 (all i d within), λ never. absurd never)

-- all were taken
pub reached_all : (program : Program) (starts : List ℕ) (name : List ℕ) (i : ℕ) (keys listed : List ℕ) → length starts ≤ i → listed ≡ keys
    → AreReached program (take i starts) (name ∷ []) (Some keys) → AreReached program starts (name ∷ []) (Some listed)
reached_all program starts name i keys listed past same before =
    subst (λ (ks : List ℕ). AreReached program starts (name ∷ []) (Some ks)) (sym same) (subst (λ (xs : List ℕ). AreReached program xs (name ∷ []) (Some keys)) (take_all i starts past) before)

-- ---- prefixes

-- no name
none_walked : (program : Program) (starts listed : List ℕ) → listed ≡ starts → AreReached program starts [] (Some listed)
none_walked program starts listed same = subst (λ (ids : List ℕ). AreReached program starts [] (Some ids)) (sym same) (λ rest some. (λ all. all, λ all. all))

pub no_names : (program : Program) (starts listed : List ℕ) (prefix : List (List ℕ)) → length prefix < 1 → listed ≡ starts → AreReached program starts prefix (Some listed)
no_names program starts listed [] none same = none_walked program starts listed same
no_names program starts listed (x ∷ xs) none same = absurd (omega (arith, none))

-- what is kept of a prefix is what it reaches
pub kept_copy : {E : Type 0} (program : Program) (starts : List ℕ) (prefixes : BTreeMap (List (List ℕ)) (Option (List ℕ))) (key prefix : List (List ℕ)) (reached : Option (List ℕ)) (r : Result (Option (List ℕ)) E)
    → ArePrefixes program starts prefixes → Some reached ≡ get path_cmp prefixes key → key ≡ prefix → IfOk r (λ made. made ≡ reached) → IfOk r (AreReached program starts prefix)
kept_copy program starts prefixes key prefix reached r are at same copied =
    IfOk-weaker r (λ made. made ≡ reached) (AreReached program starts prefix)
    (λ made is. subst (λ (o : Option (List ℕ)). AreReached program starts prefix o) (sym is) (subst (λ (p : List (List ℕ)). AreReached program starts p reached) same (are key reached (sym at)))) copied

some_rest : (name : List ℕ) (rest : List (List ℕ)) → (name ∷ rest) ≢ []
some_rest name rest none = let e : suc (length rest) ≡ 0 = ap length none in absurd (omega (arith, e))

together : (shorter : List (List ℕ)) (name : List ℕ) (rest : List (List ℕ)) → (shorter ++ name ∷ []) ++ rest ≡ shorter ++ name ∷ rest
together [] name rest = refl
together (x ∷ xs) name rest = ap (λ (ys : List (List ℕ)). x ∷ ys) (together xs name rest)

-- one more name, from what the names before it reach
pub name_more : (program : Program) (starts : List ℕ) (shorter prefix : List (List ℕ)) (name : List ℕ) (from : List ℕ) (reached : Option (List ℕ)) → prefix ≡ shorter ++ name ∷ []
    → AreReached program starts shorter (Some from) → AreReached program from (name ∷ []) reached → AreReached program starts prefix reached
name_more program starts shorter prefix name from reached is before step = subst (λ (p : List (List ℕ)). AreReached program starts p reached) (sym is) (λ rest some. (
  λ all. (step rest some).0 ((before (name ∷ rest) (some_rest name rest)).0 (subst (AllLead program starts) (together shorter name rest) all)),
  λ leads. subst (AllLead program starts) (sym (together shorter name rest)) ((before (name ∷ rest) (some_rest name rest)).1 ((step rest some).1 leads)),
))

-- where the names before it reach nothing from one, it does not
pub never_more : (program : Program) (starts : List ℕ) (shorter prefix : List (List ℕ)) (name : List ℕ) → prefix ≡ shorter ++ name ∷ []
    → AreReached program starts shorter None → AreReached program starts prefix None
never_more program starts shorter prefix name is before = subst (λ (p : List (List ℕ)). AreReached program starts p None) (sym is) (λ rest some. (
  λ all. (before (name ∷ rest) (some_rest name rest)).0 (subst (AllLead program starts) (together shorter name rest) all),
  λ never. absurd never,
))

-- one more prefix is kept
pub prefixes_more : (program : Program) (starts : List ℕ) (old new : BTreeMap (List (List ℕ)) (Option (List ℕ))) (own prefix : List (List ℕ)) (kept reached : Option (List ℕ))
    → ((q : List (List ℕ)) → get path_cmp new q ≡ cond (is_at (path_cmp own) q) (Some kept) (get path_cmp old q)) → own ≡ prefix → kept ≡ reached → ArePrefixes program starts old
    → AreReached program starts prefix reached → ArePrefixes program starts new
prefixes_more program starts old new own prefix kept reached updates same copied are reaches =
    kept_more path_cmp exact_paths (AreReached program starts) old new own prefix kept updates same are (subst (AreReached program starts prefix) (sym copied) reaches)

-- ---- the last name

last_some : (steps : List (List ℕ)) (last : ℕ) → length steps ≡ last + 1 → take (length steps - last) (drop last steps) ≢ []
last_some steps last long none =
    let e : length (drop last steps) ≡ 0 = ap length (sym (take_all (length steps - last) (drop last steps) (omega (arith, long, length-drop last steps))) ∙ none) in
    absurd (omega (arith, e, long, length-drop last steps))

all_of_it : (steps : List (List ℕ)) (last : ℕ) → length steps ≡ last + 1 → take last steps ++ take (length steps - last) (drop last steps) ≡ steps
all_of_it steps last long =
    ap (λ (rest : List (List ℕ)). take last steps ++ rest) (take_all (length steps - last) (drop last steps) (omega (arith, long, length-drop last steps))) ∙ take-append-drop last steps

-- it is asked of each
pub asked_each : (program : Program) (starts : List ℕ) (steps : List (List ℕ)) (last : ℕ) (reached : List ℕ) (b : Bool) → length steps ≡ last + 1
    → AreReached program starts (take last steps) (Some reached) → Decides b (AllLead program reached (take (length steps - last) (drop last steps))) → Decides b (AllLead program starts steps)
asked_each program starts steps last reached b long are decides =
    let both = are (take (length steps - last) (drop last steps)) (last_some steps last long) in
    subst (λ (path : List (List ℕ)). Decides b (AllLead program starts path)) (all_of_it steps last long) (λ e. both.1 (decides.0 e), λ all. decides.1 (both.0 all))

-- of none
pub asked_none : (program : Program) (starts : List ℕ) (steps : List (List ℕ)) (last : ℕ) → length steps ≡ last + 1 → AreReached program starts (take last steps) None
    → Decides false (AllLead program starts steps)
asked_none program starts steps last long are =
    let both = are (take (length steps - last) (drop last steps)) (last_some steps last long) in
    subst (λ (path : List (List ℕ)). Decides false (AllLead program starts path)) (all_of_it steps last long) (λ never. cc, λ all. absurd (both.0 all))

-- the names before the last, and the last
pub with_last : (prefix : List (List ℕ)) (name : List ℕ) → 1 ≤ length prefix → name ≡ get_or prefix (length prefix - 1) name → prefix ≡ take (length prefix - 1) prefix ++ name ∷ []
with_last prefix name some is =
    let next : length prefix - 1 + 1 ≡ length prefix = omega (arith, some) in
    sym (sym (take_more prefix (length prefix - 1) name (omega (arith, some))) ∙ take_all (length prefix - 1 + 1) prefix (omega (arith, next)))
    ∙ ap (λ (last : List ℕ). take (length prefix - 1) prefix ++ last ∷ []) (sym is)
