-- Steps of the declarations: a structure is counted, and a place is reached twice.
use Rattle.std.proofs.Common.{◌≡◌, ℕ, suc, ◌+◌, ◌≤◌, ℤ, pos, int_lt, ◌||◌, Bool, true, false, cond, List, [], ◌∷◌, ◌++◌, length, map, take, drop, take_while, Option, Some, None, Result, Ok, Err, OnOk, arith, sym, ap, ap₂, subst, ◌∙◌, refl, if◌then◌else◌, length-append, append-nil}
use Rattle.std.specs.List.{prefix_len}
use Rattle.gt_items.specs.declared.items.Alias.{Alias}
use Rattle.gt_items.specs.declared.items.Enumerator.{Enumerator}
use Rattle.gt_items.specs.declared.items.Enumerator.TheVariants as enumerator
use Rattle.gt_items.specs.declared.items.Name.{Name}
use Rattle.gt_items.specs.declared.items.RawConstant.{RawConstant}
use Rattle.gt_items.specs.declared.items.RawStructure.{RawStructure}
use Rattle.gt_scope.specs.declared.declaration.Declaration.{Declaration}
use Rattle.gt_scope.specs.declared.declaration.What.{What}
use Rattle.gt_scope.specs.declared.declaration.What.TheVariants.{Structure, Constant, Typedef}
use Rattle.gt_items.specs.declared.items.Stars.{Stars}
use Rattle.gt_scope.specs.declared.types.Spelled.{Spelled}
use Rattle.gt_scope.specs.declared.types.Spelled.TheVariants.{Tagged}
use Rattle.gt_scope.specs.Repeats.{last_type}
use Rattle.gt_scope.proofs.TargetLemmas.{last_added, last_defined}
use Rattle.gt_scope.specs.Declarations.{Progress, define_of, defines_before, with_one, up_to, declare, is_in_range, with_constant, enumerate, value_at, next_count, enumerators, keyword_of, declare_alias, declare_structure}
use Rattle.gt_names.proofs.NameLists.{length-added}

-- ---- structures

-- one more declaration leaves room for one more structure
declared-few : (file : ℕ) (name : Name) (what : What) (p : Progress) → p.structures ≤ length p.done
    → (declare file name what p).structures + 1 ≤ length (declare file name what p).done
unfolding up_to
declared-few file name what p h =
    let before : List Declaration = p.done ++ map (define_of file) (defines_before name.at p.defines) in
    let more : length before ≡ length p.done + length (map (define_of file) (defines_before name.at p.defines)) = length-append p.done _ in
    let last : length (before ++ record { file = file; name = name; what = what } ∷ []) ≡ suc (length before) = length-added before _ in
    omega arith

pub few-next : (file : ℕ) (name : Name) (what : What) (p q : Progress) → q ≡ declare file name what p → p.structures ≤ length p.done → q.structures + 1 ≤ length q.done
few-next file name what p q e h = subst (λ (r : Progress). r.structures + 1 ≤ length r.done) (sym e) (declared-few file name what p h)

-- a structure is declared and counted
abbrev pub tagged : ℕ → RawStructure → Progress → Progress
tagged file s p = let q = declare file s.tag (Structure s.is_union p.structures) p in record q { structures = suc q.structures }

pub structure-alone : (file : ℕ) (s : RawStructure) (p q : Progress) → s.alias ≡ None
    → q ≡ tagged file s p → q ≡ declare_structure file s p
unfolding declare_structure up_to
structure-alone file s p q none e = e ∙ sym (simp none)

pub structure-named : (file : ℕ) (s : RawStructure) (alias : Alias) (p q r : Progress) → s.alias ≡ Some alias
    → q ≡ tagged file s p
    → r ≡ declare_alias file (Tagged (keyword_of s.is_union) s.tag.word) alias q → r ≡ declare_structure file s p
unfolding declare_structure up_to
structure-named file s alias p q r some e f = f ∙ ap (λ (x : Progress). declare_alias file (Tagged (keyword_of s.is_union) s.tag.word) alias x) e ∙ sym (simp some)

-- ---- a place that is reached twice

cons-by : {X : Type 0} (b : Bool) (x : X) (xs : List X) (k : ℕ) → take (cond b (1 + k) 0) (x ∷ xs) ≡ (if b then x ∷ take k xs else [])
cons-by true x xs k = let e : 1 + k ≡ suc k = omega arith in ap (λ n. take n (x ∷ xs)) e
cons-by false x xs k = refl

take_while-cons : {X : Type 0} (q : X → Bool) (x : X) (xs : List X) → take_while q (x ∷ xs) ≡ (if q x then x ∷ take_while q xs else [])
take_while-cons q x xs = cons-by (q x) x xs (prefix_len q xs)

by-first : {X : Type 0} (q : X → Bool) (x : X) (xs : List X) (b : Bool) → q x ≡ b → take_while q (drop (length (take_while q xs)) xs) ≡ []
    → take_while q (drop (length (take_while q (x ∷ xs))) (x ∷ xs)) ≡ []
by-first {X} q x xs true e more =
    let c : take_while q (x ∷ xs) ≡ x ∷ take_while q xs = take_while-cons q x xs ∙ ap (λ b. if b then x ∷ take_while q xs else []) e in
    ap (λ (ys : List X). take_while q (drop (length ys) (x ∷ xs))) c ∙ more
by-first {X} q x xs false e more =
    let c : take_while q (x ∷ xs) ≡ [] = take_while-cons q x xs ∙ ap (λ b. if b then x ∷ take_while q xs else []) e in
    ap (λ (ys : List X). take_while q (drop (length ys) (x ∷ xs))) c ∙ c

-- after what passes from the front on, nothing passes at the front
none-after : {X : Type 0} (q : X → Bool) (xs : List X) → take_while q (drop (length (take_while q xs)) xs) ≡ []
none-after q [] = refl
none-after q (x ∷ xs) = by-first q x xs (q x) refl (none-after q xs)

nothing-more : (file : ℕ) (p : Progress) (before rest : List RawConstant) → before ≡ []
    → record p { done = p.done ++ map (define_of file) before; defines = drop (length before) rest } ≡ record p { defines = rest }
nothing-more file p before rest e =
    ap (λ (bs : List RawConstant). record p { done = p.done ++ map (define_of file) bs; defines = drop (length bs) rest }) e
    ∙ ap (λ (ds : List Declaration). record p { done = ds; defines = rest }) (append-nil p.done)

up_to-twice : (file at : ℕ) (p : Progress) → up_to file at (up_to file at p) ≡ up_to file at p
unfolding up_to
up_to-twice file at p =
    nothing-more file (up_to file at p) (defines_before at (up_to file at p).defines) (up_to file at p).defines (none-after _ p.defines)

in-range : (b : Bool) (x y z w : Progress) → x ≡ y → z ≡ w → (if b then x else z) ≡ (if b then y else w)
in-range true x y z w e f = e
in-range false x y z w e f = f

constant-twice : (file : ℕ) (name : Name) (n : ℤ) (p : Progress) → with_constant file name n (up_to file name.at p) ≡ with_constant file name n p
unfolding up_to
constant-twice file name n p = ap (with_one file name (Constant n)) (up_to-twice file name.at (record p { negative = p.negative || int_lt n (pos 0) }))

enumerate-twice : (file : ℕ) (name : Name) (value : Option ℤ) (p : Progress) → enumerate file name value (up_to file name.at p) ≡ enumerate file name value p
enumerate-twice file name None p = up_to-twice file name.at p
enumerate-twice file name (Some n) p = in-range (is_in_range n) _ _ _ _ (constant-twice file name n p) (up_to-twice file name.at p)

-- a constant of an enum with a text: its value is that at its place
pub valued-step : (file : ℕ) (count value next : Option ℤ) (name : Name) (text : List ℕ) (rest : List Enumerator) (p q r : Progress)
    → value ≡ value_at file name text p → q ≡ up_to file name.at p → r ≡ enumerate file name value q → next ≡ next_count value
    → enumerators file count (enumerator.Valued name text ∷ rest) p ≡ enumerators file next rest r
unfolding enumerators
valued-step file count value next name text rest p q r e f g h =
    ap₂ (λ (n : Option ℤ) (s : Progress). enumerators file n rest s) (ap next_count (sym e) ∙ sym h)
    (ap (λ (v : Option ℤ). enumerate file name v p) (sym e)
    ∙ sym (enumerate-twice file name value p)
    ∙ ap (λ (s : Progress). enumerate file name value s) (sym f)
    ∙ sym g)

-- what follows from what holds on success
pub on-ok : {A E : Type 0} (r : Result A E) (P Q : Type 0) → (P → Q) → OnOk r P → OnOk r Q
on-ok (Ok x) P Q f h = f h
on-ok (Err e) P Q f h = tt

-- ---- the last typedef

-- constants `#define` leave the last typedef
pub last_up_to : (file at : ℕ) (p q : Progress) → q ≡ up_to file at p → last_type p.done ≡ last_type q.done
unfolding up_to
last_up_to file at p q e = sym (ap (λ (r : Progress). last_type r.done) e ∙ last_defined file p.done (defines_before at p.defines))

-- a typedef is the last one
pub last_one : (file : ℕ) (name : Name) (ty : Spelled) (stars : Stars) (p q : Progress) → q ≡ with_one file name (Typedef ty stars) p → last_type q.done ≡ Some ty
last_one file name ty stars p q e =
    ap (λ (r : Progress). last_type r.done) e ∙ last_added p.done (record { file = file; name = name; what = Typedef ty stars })
