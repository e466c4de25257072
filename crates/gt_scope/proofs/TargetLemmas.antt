-- What typedefs lead to, one declaration after another.
use Rattle.std.proofs.Common.{◌≡◌, ◌∙◌, ◌⊎◌, ℕ, zero, suc, ◌+◌, ◌<◌, ◌≤◌, Bool, true, false, List, [], ◌∷◌, ◌++◌, length, map, take, drop, get_or, Option, Some, None, refl, sym, ap, subst, inl, inr, arith, if◌then◌else◌}
use Rattle.std.specs.Prelude.{slice_get, nat_lt, option_map}
use Rattle.std.specs.Option.{option_or, option_map_or}
use Rattle.std.specs.List.{list_any}
use Rattle.std.specs.Str.{bytes_eq}
use Rattle.std.proofs.lemmas.Bool.{true≢false}
use Rattle.std.proofs.lemmas.Bool.Decides.{nat_tests}
use Rattle.std.proofs.lemmas.List.{take_more, take_all, drop_more, drop_all}
use Rattle.std.proofs.lemmas.Option.{none-some, same_Some, slice_get-get_or, slice_get_within}
use Rattle.gt_items.specs.declared.items.RawConstant.{RawConstant}
use Rattle.gt_items.specs.declared.items.Stars.{Stars}
use Rattle.gt_names.specs.declared.tables.Entry.{Entry}
use Rattle.gt_names.specs.Entries.{with_value}
use Rattle.gt_names.proofs.NameLists.{length-added}
use Rattle.gt_scope.specs.declared.types.Spelled.{Spelled}
use Rattle.gt_scope.specs.declared.declaration.Declaration.{Declaration}
use Rattle.gt_scope.specs.declared.declaration.What.{What}
use Rattle.gt_scope.specs.declared.declaration.What.TheVariants as what
use Rattle.gt_scope.specs.declared.kinds.Meant.{Meant}
use Rattle.gt_scope.specs.declared.link.Link.{Link}
use Rattle.gt_scope.specs.declared.link.Target.{Target}
use Rattle.gt_scope.specs.declared.link.Target.TheVariants.{End, Next}
use Rattle.gt_scope.specs.declared.meaning.TypedefMeaning.{TypedefMeaning}
use Rattle.gt_scope.specs.Chains.{IsTarget}
use Rattle.gt_scope.specs.Declarations.{define_of}
use Rattle.gt_drafts.specs.declared.types.Resolved.{Resolved}
use Rattle.gt_scope.specs.Kinds.{names_in, IsMeant, Keeps}
use Rattle.gt_scope.specs.Meanings.{as_typedef}
use Rattle.gt_scope.specs.Tables.{values_from}
use Rattle.gt_scope.specs.Repeats.{type_of, last_type, AreRepeats, AreTargets, IsFirst, AreFirsts, AreLinks, AreNamed}
use Rattle.gt_scope.proofs.KindLemmas.{kind_kept}

-- ---- an item more

-- an item of a list with one more at the end
pub get_more : {A : Type 0} (xs : List A) (x : A) (i : ℕ) (y : A) → slice_get (xs ++ x ∷ []) i ≡ Some y → (slice_get xs i ≡ Some y) ⊎ ((x ≡ y) × (i ≡ length xs))
get_more [] x zero y h = inr (same_Some x y h, refl)
get_more [] x (suc i) y h = absurd (none-some y h)
get_more (z ∷ xs) x zero y h = inl h
get_more (z ∷ xs) x (suc i) y h = further (get_more xs x i y h)
  where
    further : (slice_get xs i ≡ Some y) ⊎ ((x ≡ y) × (i ≡ length xs)) → (slice_get xs i ≡ Some y) ⊎ ((x ≡ y) × (suc i ≡ length (z ∷ xs)))
    further (inl old) = inl old
    further (inr new) = inr (new.0, ap (λ n. suc n) new.1)

get_within : {A : Type 0} (xs : List A) (x : A) (i : ℕ) (y : A) → slice_get xs i ≡ Some y → slice_get (xs ++ x ∷ []) i ≡ Some y
get_within [] x i y h = absurd (none-some y h)
get_within (z ∷ xs) x zero y h = h
get_within (z ∷ xs) x (suc i) y h = get_within xs x i y h

get_last : {A : Type 0} (xs : List A) (x : A) → slice_get (xs ++ x ∷ []) (length xs) ≡ Some x
get_last [] x = refl
get_last (y ∷ xs) x = get_last xs x

-- the item at a place within
pub entry_at : {A : Type 0} (xs : List A) (i : ℕ) → i < length xs → (x : A) × (slice_get xs i ≡ Some x)
entry_at [] i h = absurd (omega (arith, h))
entry_at (x ∷ xs) zero h = (x, refl)
entry_at (x ∷ xs) (suc i) h = entry_at xs i (omega (arith, h))

-- ---- the type of the last typedef

or_none : {A : Type 0} (o : Option A) → option_or o None ≡ o
or_none None = refl
or_none (Some x) = refl

or_assoc : {A : Type 0} (a b c : Option A) → option_or (option_or a b) c ≡ option_or a (option_or b c)
or_assoc None b c = refl
or_assoc (Some x) b c = refl

pub last_added : (ds : List Declaration) (d : Declaration) → last_type (ds ++ d ∷ []) ≡ option_or (type_of d.what) (last_type ds)
last_added [] d = sym (or_none (type_of d.what))
last_added (e ∷ ds) d = ap (λ o. option_or o (type_of e.what)) (last_added ds d) ∙ or_assoc (type_of d.what) (last_type ds) (type_of e.what)

last_with : (ds more : List Declaration) → last_type more ≡ None → last_type (ds ++ more) ≡ last_type ds
last_with [] more h = h
last_with (d ∷ ds) more h = ap (λ o. option_or o (type_of d.what)) (last_with ds more h)

no_defined : (file : ℕ) (cs : List RawConstant) → last_type (map (define_of file) cs) ≡ None
no_defined file [] = refl
no_defined file (c ∷ cs) = ap (λ o. option_or o None) (no_defined file cs)

-- constants leave the last typedef
pub last_defined : (file : ℕ) (ds : List Declaration) (cs : List RawConstant) → last_type (ds ++ map (define_of file) cs) ≡ last_type ds
last_defined file ds cs = last_with ds (map (define_of file) cs) (no_defined file cs)

-- ---- marks

take_within : {A : Type 0} (xs : List A) (x : A) (i : ℕ) → i ≤ length xs → take i (xs ++ x ∷ []) ≡ take i xs
take_within xs x zero h = refl
take_within [] x (suc i) h = absurd (omega (arith, h))
take_within (y ∷ xs) x (suc i) h = ap (λ ys. y ∷ ys) (take_within xs x i (omega (arith, h)))

take_whole : {A : Type 0} (xs : List A) (x : A) → take (length xs) (xs ++ x ∷ []) ≡ xs
take_whole [] x = refl
take_whole (y ∷ xs) x = ap (λ ys. y ∷ ys) (take_whole xs x)

module _ (ds : List Declaration) (repeated : List Bool) (are : AreRepeats ds repeated) (d : Declaration) (mark : Bool)
    (is : mark ≡ true → type_of d.what ≡ last_type ds) where
  mark_case : (i : ℕ) (e : Declaration) → (slice_get ds i ≡ Some e) ⊎ ((d ≡ e) × (i ≡ length ds)) → (slice_get repeated i ≡ Some true) ⊎ ((mark ≡ true) × (i ≡ length repeated))
      → type_of e.what ≡ last_type (take i (ds ++ d ∷ []))
  mark_case i e (inl old) (inl marked) =
      are.each i e old marked ∙ ap last_type (sym (take_within ds d i (let w = slice_get_within ds i e old in omega arith)))
  mark_case i e (inr new) (inr marked) =
      ap (λ (x : Declaration). type_of x.what) (sym new.0) ∙ is marked.0 ∙ ap last_type (sym (take_whole ds d)) ∙ ap (λ k. last_type (take k (ds ++ d ∷ []))) (sym new.1)
  mark_case i e (inl old) (inr marked) =
      absurd (let w = slice_get_within ds i e old in let n = marked.1 in let c = are.counted in omega arith)
  mark_case i e (inr new) (inl marked) =
      absurd (let w = slice_get_within repeated i true marked in let n = new.1 in let c = are.counted in omega arith)

  pub repeats_added : AreRepeats (ds ++ d ∷ []) (repeated ++ mark ∷ [])
  repeats_added =
      record {
        counted = length-added repeated mark ∙ ap suc are.counted ∙ sym (length-added ds d);
        each = λ i e found marked. mark_case i e (get_more ds d i e found) (get_more repeated mark i true marked);
      }

pub repeats_pushed : (ds more : List Declaration) (repeated pushed : List Bool) → AreRepeats ds repeated → (d : Declaration) (mark : Bool)
    → (mark ≡ true → type_of d.what ≡ last_type ds) → more ≡ ds ++ d ∷ [] → pushed ≡ repeated ++ mark ∷ [] → AreRepeats more pushed
repeats_pushed ds more repeated pushed are d mark is e p = rw e (rw p (repeats_added ds repeated are d mark is))

pub no_repeats : AreRepeats [] []
no_repeats = record { counted = refl; each = λ i d found marked. absurd (none-some d found) }

-- ---- targets

pub target_kept : (defined : List (Entry What)) (typedefs : List (Entry (Spelled × Stars))) (tags more : List (List ℕ)) → Keeps tags more → (ty : Spelled) (to : Target)
    → IsTarget defined typedefs tags ty to → IsTarget defined typedefs more ty to
target_kept defined typedefs tags more keeps ty (Next place) h = h
target_kept defined typedefs tags more keeps ty (End kind) h = (h.0, kind_kept tags more keeps kind _ h.1)

-- the targets of so many declarations
pub record SoFar (defined : List (Entry What)) (typedefs : List (Entry (Spelled × Stars))) (ds : List Declaration) (tags : List (List ℕ)) (targets : List Target)
    (last : Target) (count : ℕ) : Type 0 where
  pub counted : length targets ≡ count
  pub each : (i : ℕ) (d : Declaration) (ty : Spelled) (to : Target) → slice_get ds i ≡ Some d → type_of d.what ≡ Some ty → slice_get targets i ≡ Some to
      → IsTarget defined typedefs tags ty to
  pub latest : (ty : Spelled) → last_type (take count ds) ≡ Some ty → IsTarget defined typedefs tags ty last

pub so_far_none : (defined : List (Entry What)) (typedefs : List (Entry (Spelled × Stars))) (ds : List Declaration) (tags : List (List ℕ)) (last : Target)
    → SoFar defined typedefs ds tags [] last 0
so_far_none defined typedefs ds tags last =
    record { counted = refl; each = λ i d ty to found is at. absurd (none-some to at); latest = λ ty h. absurd (none-some ty h) }

module _ (defined : List (Entry What)) (typedefs : List (Entry (Spelled × Stars))) (ds : List Declaration) (repeated : List Bool) (are : AreRepeats ds repeated)
    (tags more : List (List ℕ)) (targets : List Target) (last next : Target) (count : ℕ) (so : SoFar defined typedefs ds tags targets last count)
    (keeps : Keeps tags more) (d : Declaration) (found : slice_get ds count ≡ Some d) (mark : Bool) (at : slice_get repeated count ≡ Some mark)
    (new : mark ≡ false → (ty : Spelled) → type_of d.what ≡ Some ty → IsTarget defined typedefs more ty next)
    (same : mark ≡ true → next ≡ last) (other : type_of d.what ≡ None → next ≡ last) where
  old_target : (ty : Spelled) → last_type (take count ds) ≡ Some ty → next ≡ last → IsTarget defined typedefs more ty next
  old_target ty h e =
      subst (IsTarget defined typedefs more ty) (sym e) (target_kept defined typedefs tags more keeps ty last (so.latest ty h))

  marked_target : (b : Bool) → mark ≡ b → (ty : Spelled) → type_of d.what ≡ Some ty → IsTarget defined typedefs more ty next
  marked_target false m ty is = new m ty is
  marked_target true m ty is = old_target ty (sym (are.each count d found (at ∙ ap (λ b. Some b) m)) ∙ is) (same m)

  latest_case : (o : Option Spelled) → type_of d.what ≡ o → (ty : Spelled) → option_or o (last_type (take count ds)) ≡ Some ty → IsTarget defined typedefs more ty next
  latest_case None is ty h = old_target ty h (other is)
  latest_case (Some u) is ty h = marked_target mark refl ty (is ∙ h)

  one_case : (i : ℕ) (e : Declaration) (ty : Spelled) (to : Target) → slice_get ds i ≡ Some e → type_of e.what ≡ Some ty
      → (slice_get targets i ≡ Some to) ⊎ ((next ≡ to) × (i ≡ length targets)) → IsTarget defined typedefs more ty to
  one_case i e ty to there is (inl old) = target_kept defined typedefs tags more keeps ty to (so.each i e ty to there is old)
  one_case i e ty to there is (inr one) =
      let here : e ≡ d = same_Some e d (sym there ∙ ap (slice_get ds) (one.1 ∙ so.counted) ∙ found) in
      subst (IsTarget defined typedefs more ty) one.0 (marked_target mark refl ty (ap (λ (x : Declaration). type_of x.what) (sym here) ∙ is))

  pub so_far_more : (pushed : List Target) → pushed ≡ targets ++ next ∷ [] → count < length ds → d ≡ get_or ds count d
      → SoFar defined typedefs ds more pushed next (count + 1)
  so_far_more pushed p within is =
      record {
        counted = ap length p ∙ (let e = length-added targets next in let f = so.counted in omega arith);
        each = λ i e ty to there typed h. one_case i e ty to there typed (get_more targets next i to (ap (λ ts. slice_get ts i) (sym p) ∙ h));
        latest = λ ty h. latest_case (type_of d.what) refl ty
            (sym (last_added (take count ds) d) ∙ ap last_type (sym (take_more ds count d within ∙ ap (λ x. take count ds ++ x ∷ []) (sym is))) ∙ h);
      }

pub so_far_all : (defined : List (Entry What)) (typedefs : List (Entry (Spelled × Stars))) (ds : List Declaration) (tags : List (List ℕ)) (targets : List Target)
    (last : Target) (count : ℕ) → SoFar defined typedefs ds tags targets last count → count ≡ length ds → AreTargets defined typedefs tags ds targets
so_far_all defined typedefs ds tags targets last count so e = record { counted = so.counted ∙ e; each = so.each }

-- ---- first typedefs

grown : {A : Type 0} (es : List (Entry A)) (name : List ℕ) (value : A) (b : Bool) → list_any (λ e. bytes_eq e.name name) es ≡ b
    → (with_value es name value ≡ es) ⊎ (with_value es name value ≡ es ++ record { name = name; value = value } ∷ [])
grown es name value true h = inl (ap (λ b. if b then es else es ++ record { name = name; value = value } ∷ []) h)
grown es name value false h = inr (ap (λ b. if b then es else es ++ record { name = name; value = value } ∷ []) h)

-- a table with a declaration more is the same, or has one entry more
record IsOneMore (es more : List (Entry (Spelled × Stars))) (name : List ℕ) (o : Option (Spelled × Stars)) : Type 0 where
  value : Spelled × Stars
  is : o ≡ Some value
  all : more ≡ es ++ record { name = name; value = value } ∷ []

one_more_of : (es : List (Entry (Spelled × Stars))) (name : List ℕ) (value : Spelled × Stars)
    → (with_value es name value ≡ es) ⊎ (with_value es name value ≡ es ++ record { name = name; value = value } ∷ [])
    → (with_value es name value ≡ es) ⊎ IsOneMore es (with_value es name value) name (Some value)
one_more_of es name value (inl same) = inl same
one_more_of es name value (inr new) = inr (record { value = value; is = refl; all = new })

one_more : (es : List (Entry (Spelled × Stars))) (name : List ℕ) (o : Option (Spelled × Stars))
    → (option_map_or (with_value es name) o es ≡ es) ⊎ IsOneMore es (option_map_or (with_value es name) o es) name o
one_more es name None = inl refl
one_more es name (Some value) = one_more_of es name value (grown es name value (list_any (λ e. bytes_eq e.name name) es) refl)

not_below : (n : ℕ) → nat_lt n n ≡ false
not_below n = grind (arith, nat_tests)

below_next : (n : ℕ) → nat_lt n (suc n) ≡ true
below_next n = grind (arith, nat_tests)

module _ (ds : List Declaration) (es : List (Entry (Spelled × Stars))) (firsts : List ℕ) (are : AreFirsts ds es firsts) (d : Declaration) (place : ℕ)
    (found : slice_get ds place ≡ Some d) (made : List (Entry (Spelled × Stars))) (noted : List ℕ) where
  first_case : (value : Spelled × Stars) → as_typedef d.what ≡ Some value → (i : ℕ) (e : Entry (Spelled × Stars)) (p : ℕ)
      → (slice_get es i ≡ Some e) ⊎ ((record { name = d.name.word; value = value } ≡ e) × (i ≡ length es)) → (slice_get firsts i ≡ Some p) ⊎ ((place ≡ p) × (i ≡ length firsts))
      → IsFirst ds e.value p
  first_case value is i e p (inl old) (inl at) = are.each i e p old at
  first_case value is i e p (inr new) (inr one) =
      subst (λ (x : Entry (Spelled × Stars)). IsFirst ds x.value p) new.0
      (subst (IsFirst ds value) one.0 (record { declaration = d; found = found; is = is }))
  first_case value is i e p (inl old) (inr one) =
      absurd (let w = slice_get_within es i e old in let n = one.1 in let c = are.counted in omega arith)
  first_case value is i e p (inr new) (inl at) =
      absurd (let w = slice_get_within firsts i p at in let n = new.1 in let c = are.counted in omega arith)

  firsts_case : (made ≡ es) ⊎ IsOneMore es made d.name.word (as_typedef d.what)
      → noted ≡ (if nat_lt (length firsts) (length made) then firsts ++ place ∷ [] else firsts) → AreFirsts ds made noted
  firsts_case (inl same) n =
      let e : noted ≡ firsts =
      n ∙ ap (λ b. if b then firsts ++ place ∷ [] else firsts) (ap (λ (k : ℕ). nat_lt (length firsts) k) (ap length same ∙ sym are.counted) ∙ not_below (length firsts)) in
      rw same (rw e are)
  firsts_case (inr new) n =
      let count : length made ≡ suc (length firsts) = ap length new.all ∙ length-added es (record { name = d.name.word; value = new.value }) ∙ ap suc (sym are.counted) in
      let e : noted ≡ firsts ++ place ∷ [] =
      n ∙ ap (λ b. if b then firsts ++ place ∷ [] else firsts) (ap (λ (k : ℕ). nat_lt (length firsts) k) count ∙ below_next (length firsts)) in
      record {
        counted = ap length e ∙ length-added firsts place ∙ sym count;
        each = λ i x p h k. first_case new.value new.is i x p (get_more es (record { name = d.name.word; value = new.value }) i x (ap (λ xs. slice_get xs i) (sym new.all) ∙ h))
            (get_more firsts place i p (ap (λ xs. slice_get xs i) (sym e) ∙ k));
      }

-- one declaration more
pub firsts_more : (ds : List Declaration) (es made : List (Entry (Spelled × Stars))) (firsts noted : List ℕ) (d : Declaration) (place count : ℕ) → AreFirsts ds es firsts
    → slice_get ds place ≡ Some d → made ≡ option_map_or (with_value es d.name.word) (as_typedef d.what) es → count ≡ length made
    → noted ≡ (if nat_lt (length firsts) count then firsts ++ place ∷ [] else firsts) → AreFirsts ds made noted
firsts_more ds es made firsts noted d place count are found m c n =
    firsts_case ds es firsts are d place found made noted
    (subst (λ (x : List (Entry (Spelled × Stars))). (x ≡ es) ⊎ IsOneMore es x d.name.word (as_typedef d.what)) (sym m) (one_more es d.name.word (as_typedef d.what)))
    (n ∙ ap (λ (k : ℕ). if nat_lt (length firsts) k then firsts ++ place ∷ [] else firsts) c)

pub no_firsts : (ds : List Declaration) → AreFirsts ds [] []
no_firsts ds = record { counted = refl; each = λ i e place h k. absurd (none-some e h) }

-- the table with one declaration more
pub values_more : (es made : List (Entry (Spelled × Stars))) (ds : List Declaration) (i : ℕ) (d : Declaration) → i < length ds → d ≡ get_or ds i d
    → made ≡ option_map_or (with_value es d.name.word) (as_typedef d.what) es
    → values_from as_typedef made (drop (i + 1) ds) ≡ values_from as_typedef es (drop i ds)
unfolding values_from
values_more es made ds i d within is m =
    ap (λ (x : List (Entry (Spelled × Stars))). values_from as_typedef x (drop (i + 1) ds)) m
    ∙ sym (ap (values_from as_typedef es) (drop_more ds i d within ∙ ap (λ (x : Declaration). x ∷ drop (i + 1) ds) (sym is)))

pub values_end : (es : List (Entry (Spelled × Stars))) (ds : List Declaration) (i : ℕ) → length ds ≤ i → values_from as_typedef es (drop i ds) ≡ es
unfolding values_from
values_end es ds i h = ap (values_from as_typedef es) (drop_all i ds h)

-- ---- links

typed : (w : What) (typedef : Spelled × Stars) → as_typedef w ≡ Some typedef → type_of w ≡ Some typedef.0
typed (what.Typedef ty stars) typedef h = ap (λ (o : Option (Spelled × Stars)). option_map (λ t. t.0) o) h
typed (what.Structure is_union id) typedef h = absurd (none-some typedef h)
typed (what.Enum is_signed) typedef h = absurd (none-some typedef h)
typed (what.Constant value) typedef h = absurd (none-some typedef h)
typed what.Root typedef h = absurd (none-some typedef h)
typed what.Cache typedef h = absurd (none-some typedef h)

pub record LinksSoFar (defined : List (Entry What)) (typedefs : List (Entry (Spelled × Stars))) (tags : List (List ℕ)) (links : List Link) (count : ℕ) : Type 0 where
  pub counted : length links ≡ count
  pub each : (i : ℕ) (e : Entry (Spelled × Stars)) (link : Link) → slice_get typedefs i ≡ Some e → slice_get links i ≡ Some link
      → (link.stars ≡ e.value.1) × IsTarget defined typedefs tags e.value.0 link.to

pub no_links : (defined : List (Entry What)) (typedefs : List (Entry (Spelled × Stars))) (tags : List (List ℕ)) → LinksSoFar defined typedefs tags [] 0
no_links defined typedefs tags = record { counted = refl; each = λ i e link h k. absurd (none-some link k) }

module _ (ds : List Declaration) (defined : List (Entry What)) (typedefs : List (Entry (Spelled × Stars))) (tags : List (List ℕ)) (firsts : List ℕ) (targets : List Target)
    (are : AreFirsts ds typedefs firsts) (lead : AreTargets defined typedefs tags ds targets) (links : List Link) (count : ℕ)
    (so : LinksSoFar defined typedefs tags links count) (entry : Entry (Spelled × Stars)) (found : slice_get typedefs count ≡ Some entry)
    (place : ℕ) (first : slice_get firsts count ≡ Some place) (to : Target) (at : slice_get targets place ≡ Some to) where
  link_case : (i : ℕ) (e : Entry (Spelled × Stars)) (link : Link) → slice_get typedefs i ≡ Some e
      → (slice_get links i ≡ Some link) ⊎ ((record { stars = entry.value.1; to = to } ≡ link) × (i ≡ length links))
      → (link.stars ≡ e.value.1) × IsTarget defined typedefs tags e.value.0 link.to
  link_case i e link h (inl old) = so.each i e link h old
  link_case i e link h (inr new) =
      let here : e ≡ entry = same_Some e entry (sym h ∙ ap (slice_get typedefs) (new.1 ∙ so.counted) ∙ found) in
      let f = are.each count entry place found first in
      let target : IsTarget defined typedefs tags entry.value.0 to = lead.each place f.declaration entry.value.0 to f.found (typed f.declaration.what entry.value f.is) at in
      subst (λ (l : Link). (l.stars ≡ e.value.1) × IsTarget defined typedefs tags e.value.0 l.to) new.0
      (subst (λ (x : Entry (Spelled × Stars)). (entry.value.1 ≡ x.value.1) × IsTarget defined typedefs tags x.value.0 to) (sym here) (refl, target))

  pub links_more : (pushed : List Link) → pushed ≡ links ++ record { stars = entry.value.1; to = to } ∷ [] → LinksSoFar defined typedefs tags pushed (count + 1)
  links_more pushed p =
      record {
        counted = ap length p ∙ (let e = length-added links (record { stars = entry.value.1; to = to }) in let f = so.counted in omega arith);
        each = λ i e link h k. link_case i e link h (get_more links (record { stars = entry.value.1; to = to }) i link (ap (λ ls. slice_get ls i) (sym p) ∙ k));
      }

pub links_all : (defined : List (Entry What)) (typedefs : List (Entry (Spelled × Stars))) (tags : List (List ℕ)) (links : List Link) (count : ℕ)
    → LinksSoFar defined typedefs tags links count → count ≡ length typedefs → AreLinks defined typedefs tags links
links_all defined typedefs tags links count so e = record { counted = so.counted ∙ e; each = so.each }

-- the first typedef of a name is a declaration
pub first_within : (ds : List Declaration) (typedefs : List (Entry (Spelled × Stars))) (firsts : List ℕ) (targets : List Target) (i place : ℕ) → AreFirsts ds typedefs firsts
    → length targets ≡ length ds → i < length typedefs → slice_get firsts i ≡ Some place → place < length targets
first_within ds typedefs firsts targets i place are count within first =
    let e = entry_at typedefs i within in
    let f = are.each i e.0 place e.1 first in
    let w = slice_get_within ds place f.declaration f.found in omega arith

-- ---- names with their types

pub record NamedSoFar (typedefs : List (Entry (Spelled × Stars))) (tags : List (List ℕ)) (meant : List Meant) (types : List TypedefMeaning) (count : ℕ) : Type 0 where
  pub counted : length types ≡ count
  pub names : map (λ t. t.name) types ≡ names_in (take count typedefs)
  pub each : (i : ℕ) (t : TypedefMeaning) (m : Meant) (r : Resolved) → slice_get types i ≡ Some t → slice_get meant i ≡ Some m → IsMeant tags m r → t.means ≡ r

pub named_none : (typedefs : List (Entry (Spelled × Stars))) (tags : List (List ℕ)) (meant : List Meant) → NamedSoFar typedefs tags meant [] 0
named_none typedefs tags meant = record { counted = refl; names = refl; each = λ i t m r h k a. absurd (none-some t h) }

map_added : {A B : Type 0} (f : A → B) (xs : List A) (x : A) → map f (xs ++ x ∷ []) ≡ map f xs ++ f x ∷ []
map_added f [] x = refl
map_added f (y ∷ xs) x = ap (λ ys. f y ∷ ys) (map_added f xs x)

module _ (typedefs : List (Entry (Spelled × Stars))) (tags : List (List ℕ)) (meant : List Meant) (types : List TypedefMeaning) (count : ℕ)
    (so : NamedSoFar typedefs tags meant types count) (entry : Entry (Spelled × Stars)) (within : count < length typedefs) (is : entry ≡ get_or typedefs count entry)
    (m : Meant) (at : slice_get meant count ≡ Some m) (name : List ℕ) (same : name ≡ entry.name) (type : Resolved)
    (means : (r : Resolved) → IsMeant tags m r → type ≡ r) where
  named_case : (i : ℕ) (t : TypedefMeaning) (n : Meant) (r : Resolved) → slice_get meant i ≡ Some n → IsMeant tags n r
      → (slice_get types i ≡ Some t) ⊎ ((record { name = name; means = type } ≡ t) × (i ≡ length types)) → t.means ≡ r
  named_case i t n r h a (inl old) = so.each i t n r old h a
  named_case i t n r h a (inr new) =
      let here : n ≡ m = same_Some n m (sym h ∙ ap (slice_get meant) (new.1 ∙ so.counted) ∙ at) in
      sym (ap (λ (t : TypedefMeaning). t.means) new.0) ∙ means r (subst (λ (x : Meant). IsMeant tags x r) here a)

  pub named_more : (pushed : List TypedefMeaning) → pushed ≡ types ++ record { name = name; means = type } ∷ [] → NamedSoFar typedefs tags meant pushed (count + 1)
  named_more pushed p =
      record {
        counted = ap length p ∙ (let e = length-added types (record { name = name; means = type }) in let f = so.counted in omega arith);
        names = ap (map (λ t. t.name)) p ∙ map_added (λ t. t.name) types (record { name = name; means = type })
            ∙ ap (λ ns. ns ++ name ∷ []) so.names ∙ ap (λ n. names_in (take count typedefs) ++ n ∷ []) same
            ∙ sym (ap (λ (x : List (Entry (Spelled × Stars))). names_in x) (take_more typedefs count entry within ∙ ap (λ x. take count typedefs ++ x ∷ []) (sym is))
            ∙ map_added (λ e. e.name) (take count typedefs) entry);
        each = λ i t n r h k a. named_case i t n r k a (get_more types (record { name = name; means = type }) i t (ap (λ ts. slice_get ts i) (sym p) ∙ h));
      }

pub named_all : (typedefs : List (Entry (Spelled × Stars))) (tags : List (List ℕ)) (meant : List Meant) (types : List TypedefMeaning) (count : ℕ)
    → NamedSoFar typedefs tags meant types count → length typedefs ≤ count → (map (λ t. t.name) types ≡ names_in typedefs) × AreNamed tags meant types
named_all typedefs tags meant types count so h =
    (so.names ∙ ap (λ (x : List (Entry (Spelled × Stars))). names_in x) (take_all count typedefs h), record { each = so.each })
