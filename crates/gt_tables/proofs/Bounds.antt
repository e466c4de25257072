-- How many parts a program can have, and so how many walks there can be.
use Rattle.std.proofs.Common.{◌≡◌, ◌≢◌, ◌∙◌, ℕ, zero, suc, ◌+◌, ◌*◌, ◌≤◌, ◌<◌, inl, inr, List, [], ◌∷◌, ◌++◌, length, map, get_or, Option, Some, None, refl, ap, sym, subst, arith}
use Rattle.std.specs.Prelude.{MatchOption, IsSome, All, AllPairs, Contains, is_some, slice_get, filter_map}
use Rattle.std.specs.List.{cons_option, flat_map}
use Rattle.std.specs.Option.{option_map}
use Rattle.std.proofs.lemmas.Bool.Decides.{Decides-eqb}
use Rattle.std.proofs.lemmas.List.{length-append, length-map, get_or_default}
use Rattle.std.proofs.lemmas.List.Elements.{All-weaker, All-nil, All-cons, All-head, All-tail, All-contains, Contains-append_left, Contains-append_right}
use Rattle.std.proofs.lemmas.Map.Made.{IsDistinct-from_AllPairs}
use Rattle.std.proofs.lemmas.Map.Steps.{length-le_from_distinct_below}
use Rattle.std.proofs.lemmas.Map.Views.{Contains-from_any}
use Rattle.std.proofs.lemmas.Option.{same_Some, slice_get_within}
use Rattle.gt_types.specs.declared.types.TypeId.{TypeId}
use Rattle.gt_types.specs.declared.program.Field.{Field}
use Rattle.gt_types.specs.declared.program.Structure.{Structure}
use Rattle.gt_types.specs.declared.program.Program.{Program}
use Rattle.gt_types.specs.Contains.{HasStructure, held_by}
use Rattle.gt_layout.specs.declared.planes.Layouts.{Layouts}
use Rattle.gt_walk.specs.declared.tables.Tables.{Tables}
use Rattle.gt_edges.specs.Numbers.{first_part}
use Rattle.gt_tables.specs.Sharing.{Site, Part, PartWalk, LiesAt, DependsOnSite, ReadsOutermost, IsOutermostRead, reader_of, IsPart, places, AreTold, ArePartsShared}
use Rattle.gt_tables.proofs.Elements.{nothing, first, later, first-or-later}

-- ---- what stands in a list, no two of them the same

-- where the values of these items stand
record Stand {X Y : Type 0} (ys : List X) (f : Y → X) (xs : List Y) : Type 0 where
  at : List ℕ
  long : length at ≡ length xs
  below : All (λ k. k < length ys) at
  is : (i : ℕ) (d : Y) → i < length xs → get_or ys (get_or at i 0) (f d) ≡ f (get_or xs i d)

module _ {X Y : Type 0} (ys : List X) (f : Y → X) where
  stand-is : (x : Y) (xs : List Y) (at : List ℕ) (c : Contains ys (f x)) → ((i : ℕ) (d : Y) → i < length xs → get_or ys (get_or at i 0) (f d) ≡ f (get_or xs i d))
      → (i : ℕ) (d : Y) → i < length (x ∷ xs) → get_or ys (get_or (c.0 ∷ at) i 0) (f d) ≡ f (get_or (x ∷ xs) i d)
  stand-is x xs at c rest zero d h = get_or_default ys c.0 (f d) (f x) c.1 ∙ c.2
  stand-is x xs at c rest (suc i) d h = rest i d (omega (arith, h))

  stand : (xs : List Y) → All (λ y. Contains ys (f y)) xs → Stand ys f xs
  stand [] each = record { at = []; long = refl; below = All-nil (λ k. k < length ys); is = λ i d h. absurd (omega (arith, h)) }
  stand (x ∷ xs) each =
      let c = All-head (λ y. Contains ys (f y)) x xs each in
      let rest = stand xs (All-tail (λ y. Contains ys (f y)) x xs each) in
      record {
        at = c.0 ∷ rest.at;
        long = let l = rest.long in grind arith;
        below = All-cons (λ k. k < length ys) c.0 rest.at c.1 rest.below;
        is = stand-is x xs rest.at c rest.is;
      }

  stand-apart : (xs : List Y) (s : Stand ys f xs) (d : Y) → AllPairs (λ a b. f a ≢ f b) xs → AllPairs (λ (a b : ℕ). a ≢ b) s.at
  stand-apart xs s d apart i j e less within same =
      let later : j < length xs = omega (arith, within, s.long) in
      let earlier : i < length xs = omega (arith, less, later) in
      let one : get_or s.at i 0 ≡ get_or s.at i e = get_or_default s.at i 0 e (omega (arith, less, within)) in
      let two : get_or s.at j 0 ≡ get_or s.at j e = get_or_default s.at j 0 e within in
      apart i j d less later (sym (s.is i d earlier) ∙ ap (λ k. get_or ys k (f d)) (one ∙ same ∙ sym two) ∙ s.is j d later)

  -- items with values in a list, no two of them the same, are at most as many as it is long
  pub length-le_from_values : (xs : List Y) → All (λ y. Contains ys (f y)) xs → AllPairs (λ a b. f a ≢ f b) xs → length xs ≤ length ys
  length-le_from_values [] each apart = omega arith
  length-le_from_values (x ∷ xs) each apart =
      let s = stand (x ∷ xs) each in
      let few = length-le_from_distinct_below s.at (length ys) (IsDistinct-from_AllPairs Decides-eqb s.at (stand-apart (x ∷ xs) s x apart))
      (λ q h. All-contains (λ k. k < length ys) s.at q s.below (Contains-from_any (λ a b. (Decides-eqb a b).0) q s.at h)) in
      omega (arith, few, s.long)

-- ---- the parts that a program can have where no outermost structure is told

-- each structure, wherever it lies
abbrev anywhere : ℕ → List Structure → List Part
anywhere first [] = []
anywhere first (s ∷ rest) = record { node = record { 0 = first }; site = None; outermost = None } ∷ anywhere (first + 1) rest

-- the structure that a field holds, at its site
abbrev at_field : ℕ → ℕ → Field → Option Part
at_field container field f = option_map (λ node. record { node = node; site = Some (record { container = record { 0 = container }; field = field }); outermost = None }) (held_by f.ty)

abbrev at_fields : ℕ → ℕ → List Field → List Part
at_fields container first [] = []
at_fields container first (f ∷ rest) = cons_option (at_field container first f) (at_fields container (first + 1) rest)

abbrev at_sites : ℕ → List Structure → List Part
at_sites first [] = []
at_sites first (s ∷ rest) = at_fields first 0 s.fields ++ at_sites (first + 1) rest

abbrev parts_of : Program → List Part
parts_of program = anywhere 0 program.structures ++ at_sites 0 program.structures

-- as many as there are places

length-anywhere : (first : ℕ) (ss : List Structure) → length (anywhere first ss) ≡ length ss
length-anywhere first [] = refl
length-anywhere first (s ∷ rest) = let more = length-anywhere (first + 1) rest in grind arith

length-given : {X Y : Type 0} (g : X → Y) (o : Option X) (ys : List Y) (xs : List X) → length ys ≡ length xs → length (cons_option (option_map g o) ys) ≡ length (cons_option o xs)
length-given g None ys xs same = same
length-given g (Some x) ys xs same = grind arith

length-at_fields : (container first : ℕ) (fs : List Field) → length (at_fields container first fs) ≡ length (filter_map (λ f. held_by f.ty) fs)
length-at_fields container first [] = refl
length-at_fields container first (f ∷ rest) = length-given _ (held_by f.ty) (at_fields container (first + 1) rest) (filter_map (λ f. held_by f.ty) rest) (length-at_fields container (first + 1) rest)

length-at_sites : (first : ℕ) (ss : List Structure) → length (at_sites first ss) ≡ length (flat_map (λ s. filter_map (λ f. held_by f.ty) s.fields) ss)
length-at_sites first [] = refl
length-at_sites first (s ∷ rest) =
    let here = length-at_fields first 0 s.fields in
    let more = length-at_sites (first + 1) rest in
    let one = length-append (at_fields first 0 s.fields) (at_sites (first + 1) rest) in
    let two = length-append (filter_map (λ f. held_by f.ty) s.fields) (flat_map (λ s. filter_map (λ f. held_by f.ty) s.fields) rest) in
    omega (arith, here, more, one, two)

length-parts_of : (program : Program) → length (parts_of program) ≡ places program
length-parts_of program =
    let one = length-anywhere 0 program.structures in
    let two = length-at_sites 0 program.structures in
    let both = length-append (anywhere 0 program.structures) (at_sites 0 program.structures) in
    omega (arith, one, two, both)

-- each is among them

contains-anywhere : (first : ℕ) (ss : List Structure) (k n : ℕ) (s : Structure) → slice_get ss k ≡ Some s → n ≡ first + k → Contains (anywhere first ss) (record { node = record { 0 = n }; site = None; outermost = None })
contains-anywhere first [] k n s got is = absurd (cc (got))
contains-anywhere first (t ∷ rest) zero n s got is =
    let same : first ≡ n = omega (arith, is) in
    (zero, omega arith, ap (λ (m : ℕ). let p : Part = record { node = record { 0 = m }; site = None; outermost = None } in p) same)
contains-anywhere first (t ∷ rest) (suc k) n s got is = later _ _ (anywhere (first + 1) rest) (contains-anywhere (first + 1) rest k n s got (omega (arith, is)))

contains-first : {X : Type 0} (o : Option X) (x : X) (xs : List X) → o ≡ Some x → Contains (cons_option o xs) x
contains-first o x xs is = subst (λ p. Contains (cons_option p xs) x) (sym is) (first x xs)

contains-later : {X : Type 0} (o : Option X) (x : X) (xs : List X) → Contains xs x → Contains (cons_option o xs) x
contains-later None x xs c = c
contains-later (Some y) x xs c = later y x xs c

contains-at_fields : (container first : ℕ) (fs : List Field) (k n : ℕ) (f : Field) (p : Part) → slice_get fs k ≡ Some f → n ≡ first + k → at_field container n f ≡ Some p → Contains (at_fields container first fs) p
contains-at_fields container first [] k n f p got is at = absurd (cc (got))
contains-at_fields container first (g ∷ rest) zero n f p got is at =
    let same : first ≡ n = omega (arith, is) in
    contains-first (at_field container first g) p (at_fields container (first + 1) rest) (ap (λ m. at_field container m g) same ∙ ap (at_field container n) (same_Some g f got) ∙ at)
contains-at_fields container first (g ∷ rest) (suc k) n f p got is at =
    contains-later (at_field container first g) p (at_fields container (first + 1) rest) (contains-at_fields container (first + 1) rest k n f p got (omega (arith, is)) at)

contains-at_sites : (first : ℕ) (ss : List Structure) (k n field : ℕ) (s : Structure) (f : Field) (p : Part) → slice_get ss k ≡ Some s → n ≡ first + k → slice_get s.fields field ≡ Some f → at_field n field f ≡ Some p
    → Contains (at_sites first ss) p
contains-at_sites first [] k n field s f p got is there at = absurd (cc (got))
contains-at_sites first (t ∷ rest) zero n field s f p got is there at =
    let same : first ≡ n = omega (arith, is) in
    let fields = ap (λ (u : Structure). u.fields) (same_Some t s got) in
    Contains-append_left (at_fields first 0 t.fields) (at_sites (first + 1) rest) p
    (contains-at_fields first 0 t.fields field field f p (ap (λ fs. slice_get fs field) fields ∙ there) (omega arith) (ap (λ m. at_field m field f) same ∙ at))
contains-at_sites first (t ∷ rest) (suc k) n field s f p got is there at =
    Contains-append_right (at_fields first 0 t.fields) (at_sites (first + 1) rest) p (contains-at_sites (first + 1) rest k n field s f p got (omega (arith, is)) there at)

part-among : (program : Program) (node : TypeId) (site : Option Site) → ((s : Structure) × HasStructure program node s) → MatchOption site (¬ DependsOnSite program node) (λ site. LiesAt program node site × DependsOnSite program node)
    → Contains (parts_of program) (record { node = node; site = site; outermost = None })
part-among program node None there lies =
    Contains-append_left (anywhere 0 program.structures) (at_sites 0 program.structures) _ (contains-anywhere 0 program.structures node.0 node.0 there.0 there.1 (omega arith))
part-among program node (Some site) there lies =
    let at = lies.0 in
    let made : at_field site.container.0 site.field at.1 ≡ Some (record { node = node; site = Some site; outermost = None }) = ap (option_map _) at.4 in
    Contains-append_right (anywhere 0 program.structures) (at_sites 0 program.structures) _ (contains-at_sites 0 program.structures site.container.0 site.container.0 site.field at.0 at.1 _ at.2 (omega arith) at.3 made)

-- ---- the bound

-- a part is at one of the places, or its outermost structure is told
part-among-all : (program : Program) (told : List Part) → AreTold program told → (p : Part) (o : Option ℕ) → p.outermost ≡ o → IsPart program p → Contains (parts_of program ++ told) p
part-among-all program told are p None e is =
    let at = part-among program p.node p.site is.there is.site in
    Contains-append_left (parts_of program) told p (subst (λ o. Contains (parts_of program) (record { node = p.node; site = p.site; outermost = o })) (sym e) at)
part-among-all program told are p (Some o) e is = Contains-append_right (parts_of program) told p (are p is (ap is_some e))

pub bounded : (program : Program) (layouts : Layouts) (tables : Tables) (told : List Part) → ArePartsShared program layouts tables → AreTold program told
    → length tables.walks ≤ first_part program + 2 * length tables.roots + places program + length told
bounded program layouts tables told shared are =
    let Among = λ (p : PartWalk). Contains (parts_of program ++ told) p.part in
    let among : (p : PartWalk) → IsPart program p.part → Among p = λ p is. part-among-all program told are p.part p.part.outermost refl is in
    let few = length-le_from_values (parts_of program ++ told) (λ (p : PartWalk). p.part) shared.parts (All-weaker (λ (p : PartWalk). IsPart program p.part) Among among shared.parts shared.each) shared.distinct in
    let both = length-append (parts_of program) told in
    let long = length-parts_of program in
    omega (arith, shared.few, few, both, long)

-- ---- each structure may be the outermost one

abbrev with_outermost : ℕ → Part → Part
with_outermost n p = record { node = p.node; site = p.site; outermost = Some n }

-- each place with each of so many structures, from this one on
abbrev told_from : List Part → ℕ → ℕ → List Part
told_from parts first zero = []
told_from parts first (suc n) = map (with_outermost first) parts ++ told_from parts (first + 1) n

length-told : (parts : List Part) (first n : ℕ) → length (told_from parts first n) ≡ length parts * n
length-told parts first zero = grind arith
length-told parts first (suc n) =
    let one = length-append (map (with_outermost first) parts) (told_from parts (first + 1) n) in
    let here = length-map parts (with_outermost first) in
    let more = length-told parts (first + 1) n in
    let times : length parts * suc n ≡ length parts + length parts * n = grind arith in
    omega (arith, one, here, more, times)

contains-map : {X Y : Type 0} (f : X → Y) (xs : List X) (x : X) → Contains xs x → Contains (map f xs) (f x)
contains-map f [] x c = absurd (nothing x c)
contains-map f (y ∷ ys) x c = elim (first-or-later y x ys c) [
  | inl is ↦ subst (λ z. Contains (map f (y ∷ ys)) (f z)) is (first (f y) (map f ys))
  | inr after ↦ later (f y) (f x) (map f ys) (contains-map f ys x after)
]

contains-told : (parts : List Part) (first n k : ℕ) (p : Part) → k < n → Contains parts p → Contains (told_from parts first n) (with_outermost (first + k) p)
contains-told parts first zero k p less c = absurd (omega (arith, less))
contains-told parts first (suc n) zero p less c =
    let same : first ≡ first + 0 = omega arith in
    Contains-append_left (map (with_outermost first) parts) (told_from parts (first + 1) n) _
    (subst (λ m. Contains (map (with_outermost first) parts) (with_outermost m p)) same (contains-map (with_outermost first) parts p c))
contains-told parts first (suc n) (suc k) p less c =
    let same : first + 1 + k ≡ first + suc k = omega arith in
    Contains-append_right (map (with_outermost first) parts) (told_from parts (first + 1) n) _
    (subst (λ m. Contains (told_from parts (first + 1) n) (with_outermost m p)) same (contains-told parts (first + 1) n k p (omega (arith, less)) c))

all-told : (program : Program) (p : Part) (o : Option ℕ) → p.outermost ≡ o → IsPart program p → IsSome o → Contains (told_from (parts_of program) 0 (length program.structures)) p
all-told program p None e is some = absurd (cc (some))
all-told program p (Some n) e is some =
    let read : IsOutermostRead program (reader_of p.node p.site) n =
    subst (λ o. MatchOption o (¬ ReadsOutermost program (reader_of p.node p.site)) (IsOutermostRead program (reader_of p.node p.site))) e is.outermost in
    let within = slice_get_within program.structures n read.1.0.0 read.1.0.1 in
    let place : Part = record { node = p.node; site = p.site; outermost = None } in
    let told : Contains (told_from (parts_of program) 0 (length program.structures)) (with_outermost (0 + n) place) =
    contains-told (parts_of program) 0 (length program.structures) n place within (part-among program p.node p.site is.there is.site) in
    let same : 0 + n ≡ n = omega arith in
    subst (λ o. Contains (told_from (parts_of program) 0 (length program.structures)) (record { node = p.node; site = p.site; outermost = o })) (sym e)
    (subst (λ m. Contains (told_from (parts_of program) 0 (length program.structures)) (with_outermost m place)) same told)

pub bounded-all : (program : Program) (layouts : Layouts) (tables : Tables) → ArePartsShared program layouts tables
    → length tables.walks ≤ first_part program + 2 * length tables.roots + places program * (1 + length program.structures)
bounded-all program layouts tables shared =
    let n = length program.structures in
    let told = told_from (parts_of program) 0 n in
    let most = bounded program layouts tables told shared (λ p is some. all-told program p p.outermost refl is some) in
    let long : length told ≡ places program * n = length-told (parts_of program) 0 n ∙ ap (λ m. m * n) (length-parts_of program) in
    let times : places program * (1 + n) ≡ places program + places program * n = grind arith in
    omega (arith, most, long, times)
