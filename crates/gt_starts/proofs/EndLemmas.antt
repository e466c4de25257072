-- Where paths begin, and how they go on and end, as paths are added.
use Rattle.std.proofs.Common.{◌≡◌, ◌≢◌, ◌⊎◌, ◌↔◌, ℕ, zero, suc, ◌+◌, ◌-◌, ◌<◌, ◌≤◌, length, get_or, set, take, drop, arith, Bool, true, List, [], ◌∷◌, ◌++◌, Option, Some, None, inl, inr, refl, sym, ap, subst, ◌∙◌}
use Rattle.std.proofs.Common.{append_assoc, append-nil, get_or-set_same, get_or-set_other}
use Rattle.std.proofs.lemmas.Bool.{cases_eq}
use Rattle.std.proofs.lemmas.List.{take_rest}
use Rattle.gt_sets.specs.Sets.{IsIn}
use Rattle.gt_tree.specs.Scopes.{◌then◌}
use Rattle.gt_starts.specs.Begins.{IsInSome, sets_at}
use Rattle.gt_starts.specs.Tries.{Trie, child, node_of}
use Rattle.gt_starts.specs.Nodes.{AreApart, Grows}
use Rattle.gt_starts.specs.Ways.{Way, known, hidden, EndsIn, LeadsAlong}
use Rattle.gt_starts.specs.Paths.{Starts, BeginsIn, EndsFrom}
use Rattle.gt_starts.specs.Ends.{EndsAfter, AreEndsOf, IsEnd, AddsEnds, led_to, led}
use Rattle.gt_starts.specs.declared.ways.Led.{Led}
use Rattle.gt_starts.specs.declared.ways.Led.TheVariants.{Known, Hidden, Nowhere}
use Rattle.gt_starts.proofs.LeadLemmas.{lead-last}

abbrev pub Rows : Type 0
Rows = List (List (List ℕ))

abbrev pub starts-of : Trie → Rows → Starts
starts-of trie rows = record { trie = trie; begins = rows }

-- ---- rows of nodes

-- some path leads to each node that has structures
abbrev IsCovered : Trie → Rows → Type 0
IsCovered trie rows = (node begin : ℕ) → IsInSome (sets_at rows node) begin → (path : List (List ℕ)) × (node_of trie path ≡ Some node)

abbrev pub AreSame : Rows → Rows → Type 0
AreSame rows more = (i : ℕ) → sets_at more i ≡ sets_at rows i

-- the rows have these structures more
abbrev pub RowsAdd : Rows → Rows → (ℕ → ℕ → Type 0) → Type 0
RowsAdd rows more added = (node begin : ℕ) → IsInSome (sets_at more node) begin ↔ (IsInSome (sets_at rows node) begin ⊎ added node begin)

abbrev Nothing : ℕ → ℕ → Type 0
Nothing node begin = ⊥

same-add : (rows more : Rows) → AreSame rows more → RowsAdd rows more Nothing
same-add rows more same node begin = (
  λ h. inl (subst (λ sets. IsInSome sets begin) (same node) h),
  λ either. elim either [
    | inl h ↦ subst (λ sets. IsInSome sets begin) (sym (same node)) h
    | inr none ↦ absurd none
  ],
)

-- one row has one more set
put-adds : (was rows : Rows) (node : ℕ) (row : List (List ℕ)) (more : List ℕ) → AreSame was rows → node < length rows → ((begin : ℕ) → IsInSome row begin ↔ (IsInSome (sets_at was node) begin ⊎ IsIn more begin))
    → RowsAdd was (set rows node row) (λ n begin. (n ≡ node) × IsIn more begin)
put-adds was rows node row more same within adds n begin = elim (cases_eq n node) [
  | inl e ↦
      let here : sets_at (set rows node row) n ≡ row = ap (sets_at (set rows node row)) e ∙ get_or-set_same rows node row [] within in (
        λ h. elim ((adds begin).0 (subst (λ sets. IsInSome sets begin) here h)) [
          | inl before ↦ inl (subst (λ m. IsInSome (sets_at was m) begin) (sym e) before)
          | inr m ↦ inr (e, m)
        ],
        λ either. subst (λ sets. IsInSome sets begin) (sym here) ((adds begin).1 (elim either [
          | inl before ↦ inl (subst (λ m. IsInSome (sets_at was m) begin) e before)
          | inr m ↦ inr m.1
        ])),
      )
  | inr apart ↦
      let there : sets_at (set rows node row) n ≡ sets_at was n = get_or-set_other rows node n row [] apart ∙ same n in (
        λ h. inl (subst (λ sets. IsInSome sets begin) there h),
        λ either. elim either [
          | inl before ↦ subst (λ sets. IsInSome sets begin) (sym there) before
          | inr m ↦ absurd (apart m.0)
        ],
      )
]

module _ (old new : Trie) (rows more : Rows) (added : ℕ → ℕ → Type 0) (grows : Grows old new) (apart : AreApart new) (covered : IsCovered old rows) (adds : RowsAdd rows more added) where
  -- with more nodes paths begin where they did, and at what is added to their nodes
  begins-more : (path : List (List ℕ)) (begin : ℕ) → BeginsIn (starts-of new more) path begin ↔ (BeginsIn (starts-of old rows) path begin ⊎ ((node : ℕ) × (node_of new path ≡ Some node) × added node begin))
  begins-more path begin = (
    λ h. elim ((adds h.node begin).0 h.here) [
      | inl was ↦
          let other = covered h.node begin was in
          let one : other.0 ≡ path = apart other.0 path h.node (grows.nodes other.0 h.node other.1) h.leads in
          inl (record { node = h.node; leads = subst (λ p. node_of old p ≡ Some h.node) one other.1; here = was })
      | inr m ↦ inr (h.node, h.leads, m)
    ],
    λ either. elim either [
      | inl h ↦ record { node = h.node; leads = grows.nodes path h.node h.leads; here = (adds h.node begin).1 (inl h.here) }
      | inr m ↦ record { node = m.0; leads = m.1; here = (adds m.0 begin).1 (inr m.2) }
    ],
  )

  covered-more : ((node begin : ℕ) → added node begin → (path : List (List ℕ)) × (node_of new path ≡ Some node)) → IsCovered new more
  covered-more leads node begin h = elim ((adds node begin).0 h) [
    | inl was ↦ let path = covered node begin was in (path.0, grows.nodes path.0 node path.1)
    | inr m ↦ leads node begin m
  ]

-- ---- ends of paths

-- no path without names ends in a name
not_empty : (front : List (List ℕ)) (last : List ℕ) → [] ≢ front ++ last ∷ []
not_empty [] last e = absurd (cc)
not_empty (name ∷ front) last e = absurd (cc)

-- names and a last one are those of one path
one-front : (front other : List (List ℕ)) (last end : List ℕ) → front ++ last ∷ [] ≡ other ++ end ∷ [] → (front ≡ other) × (last ≡ end)
one-front [] [] last end e = let same : last ≡ end = cc in (refl, same)
one-front [] (name ∷ other) last end e = let rest : [] ≡ other ++ end ∷ [] = cc in absurd (not_empty other end rest)
one-front (name ∷ front) [] last end e = let rest : [] ≡ front ++ last ∷ [] = cc in absurd (not_empty front last (rest))
one-front (name ∷ front) (first ∷ other) last end e =
    let one : name ≡ first = cc in
    let rest = one-front front other last end (cc) in
    (ap (λ n. n ∷ front) one ∙ ap (λ f. first ∷ f) rest.0, rest.1)

-- a path ends in its last name
last_at : (names : List (List ℕ)) (n : ℕ) (last : List ℕ) → n + 1 ≡ length names → last ≡ get_or names n last → EndsIn last names
last_at [] n last count e = absurd (omega (arith, count))
last_at (name ∷ []) zero last count e = ([], ap (λ x. x ∷ []) (sym e))
last_at (name ∷ []) (suc n) last count e = absurd (omega (arith, count))
last_at (name ∷ next ∷ names) zero last count e = absurd (omega (arith, count))
last_at (name ∷ next ∷ names) (suc n) last count e = let rest = last_at (next ∷ names) n last (omega (arith, count)) e in (name ∷ rest.0, ap (λ l. name ∷ l) rest.1)

pub last_of : (names : List (List ℕ)) (last : List ℕ) → 1 ≤ length names → last ≡ get_or names (length names - 1) last → EndsIn last names
last_of names last some e = last_at names (length names - 1) last (omega (arith, some)) e

-- what is left of a path that ends in a name does too
rest-ends : (front : List (List ℕ)) (next : List ℕ) (rest whole : List (List ℕ)) (last : List ℕ) → front ++ next ∷ rest ≡ whole ++ last ∷ [] → EndsIn last (next ∷ rest)
rest-ends [] next rest whole last e = (whole, e)
rest-ends (name ∷ front) next rest [] last e = let none : front ++ next ∷ rest ≡ [] = cc in absurd (some-left front next rest none)
  where
    some-left : (front : List (List ℕ)) (next : List ℕ) (rest : List (List ℕ)) → front ++ next ∷ rest ≢ []
    some-left [] next rest e = absurd (cc)
    some-left (name ∷ front) next rest e = absurd (cc)
rest-ends (name ∷ front) next rest (first ∷ whole) last e = rest-ends front next rest whole last (cc)

-- the name in which a rest ends is that in which the whole path does
whole-ends : (names front rest : List (List ℕ)) (last end : List ℕ) → EndsIn end names → EndsIn last rest → names ≡ front ++ rest → last ≡ end
whole-ends names front rest last end whole part splits =
    (one-front (front ++ part.0) whole.0 last end (append_assoc front part.0 (last ∷ []) ∙ ap (λ r. front ++ r) (sym part.1) ∙ sym splits ∙ whole.1)).1

-- ---- paths and their ends

-- in the new paths these names begin at more structures, and no others do
abbrev pub Adds : Starts → Starts → List (List ℕ) → List ℕ → Type 0
Adds old new names more = (path : List (List ℕ)) (begin : ℕ) → BeginsIn new path begin ↔ (BeginsIn old path begin ⊎ ((path ≡ names) × IsIn more begin))

-- the new paths begin where the old ones do
abbrev pub BeginAlike : Starts → Starts → Type 0
BeginAlike old new = (path : List (List ℕ)) (begin : ℕ) → BeginsIn new path begin ↔ BeginsIn old path begin

-- paths that are added go on so
abbrev Goes : (List (List ℕ) → ℕ → Type 0) → List (List ℕ) → List ℕ → ℕ → Type 0
Goes added front last begin = (rest : List (List ℕ)) × EndsIn last rest × added (front ++ rest) begin

-- where paths are added, and in the table of ends how they go on, it says how all of them do
module _ (old new : Trie) (rows more ends more_ends : Rows) (added : List (List ℕ) → ℕ → Type 0) (are : AreEndsOf (starts-of old rows) ends)
    (begins : (path : List (List ℕ)) (begin : ℕ) → BeginsIn (starts-of new more) path begin ↔ (BeginsIn (starts-of old rows) path begin ⊎ added path begin))
    (goes : (front : List (List ℕ)) (last : List ℕ) (begin : ℕ) → BeginsIn (starts-of new more_ends) (front ++ last ∷ []) begin ↔ (BeginsIn (starts-of old ends) (front ++ last ∷ []) begin ⊎ Goes added front last begin)) where
  ends-same : (front : List (List ℕ)) (last : List ℕ) (begin : ℕ) → BeginsIn (starts-of new more_ends) (front ++ last ∷ []) begin ↔ EndsAfter (starts-of new more) front last begin
  ends-same front last begin = (
    λ h. elim ((goes front last begin).0 h) [
      | inl was ↦ let from = (are.same front last begin).0 was in (from.0, from.1, (begins (front ++ from.0) begin).1 (inl from.2))
      | inr m ↦ (m.0, m.1, (begins (front ++ m.0) begin).1 (inr m.2))
    ],
    λ h. (goes front last begin).1 (elim ((begins (front ++ h.0) begin).0 h.2) [
      | inl was ↦ inl ((are.same front last begin).1 (h.0, h.1, was))
      | inr m ↦ inr (h.0, h.1, m)
    ]),
  )

-- ---- no path is added

none-or : {A B C : Type 0} → A ↔ (B ⊎ C) → ¬ C → A ↔ B
none-or either none = (λ a. elim (either.0 a) [ inl b ↦ b | inr c ↦ absurd (none c) ], λ b. either.1 (inl b))

or-none : {A B C : Type 0} → A ↔ B → ¬ C → A ↔ (B ⊎ C)
or-none same none = (λ a. inl (same.0 a), λ either. elim either [ inl b ↦ same.1 b | inr c ↦ absurd (none c) ])

module _ (old new : Trie) (rows more ends more_ends : Rows) (grows : Grows old new) (apart : AreApart new) (same : AreSame rows more) (same_ends : AreSame ends more_ends)
    (are : AreEndsOf (starts-of old rows) ends) where
  -- with more nodes and the same sets paths begin where they did
  pub begins-still : BeginAlike (starts-of old rows) (starts-of new more)
  begins-still path begin = none-or (begins-more old new rows more Nothing grows apart are.nodes (same-add rows more same) path begin) (λ m. m.2)

  -- and end as they did
  pub ends-still : AreEndsOf (starts-of new more) more_ends
  ends-still = record {
    nodes = covered-more old new rows more Nothing grows apart are.nodes (same-add rows more same) (λ node begin none. absurd none);
    end_nodes = covered-more old new ends more_ends Nothing grows apart are.end_nodes (same-add ends more_ends same_ends) (λ node begin none. absurd none);
    same = ends-same old new rows more ends more_ends (λ path begin. ⊥) are (λ path begin. or-none (begins-still path begin) (λ none. none))
        (λ front last begin. or-none
        (none-or (begins-more old new ends more_ends Nothing grows apart are.end_nodes (same-add ends more_ends same_ends) (front ++ last ∷ []) begin) (λ m. m.2)) (λ m. m.2));
  }

-- ---- a path is added

module _ (old new : Trie) (rows mid ends more_ends : Rows) (grows : Grows old new) (apart : AreApart new) (same : AreSame rows mid) (are : AreEndsOf (starts-of old rows) ends)
    (names : List (List ℕ)) (node : ℕ) (row : List (List ℕ)) (set_of : List ℕ) (at : node_of new names ≡ Some node) (within : node < length mid)
    (adds : (begin : ℕ) → IsInSome row begin ↔ (IsInSome (sets_at rows node) begin ⊎ IsIn set_of begin)) where
  abbrev Own : ℕ → ℕ → Type 0
  Own n begin = (n ≡ node) × IsIn set_of begin

  -- it begins at these structures
  pub path-added : Adds (starts-of old rows) (starts-of new (set mid node row)) names set_of
  path-added path begin =
      let more = begins-more old new rows (set mid node row) Own grows apart are.nodes (put-adds rows mid node row set_of same within adds) path begin in (
        λ h. elim (more.0 h) [
          | inl was ↦ inl was
          | inr m ↦ inr (apart path names node (m.1 ∙ ap Some m.2.0) at, m.2.1)
        ],
        λ either. more.1 (elim either [
          | inl was ↦ inl was
          | inr m ↦ inr (node, ap (node_of new) m.0 ∙ at, (refl, m.1))
        ]),
      )

  module _ (more : AddsEnds new [] names ends more_ends set_of) where
    abbrev End : ℕ → ℕ → Type 0
    End n begin = IsEnd new [] names n × IsIn set_of begin

    -- it goes on as its names do
    goes-on : (front : List (List ℕ)) (last : List ℕ) (begin : ℕ)
        → BeginsIn (starts-of new more_ends) (front ++ last ∷ []) begin ↔ (BeginsIn (starts-of old ends) (front ++ last ∷ []) begin ⊎ Goes (λ path b. (path ≡ names) × IsIn set_of b) front last begin)
    goes-on front last begin =
        let both = begins-more old new ends more_ends End grows apart are.end_nodes more.adds (front ++ last ∷ []) begin in (
          λ h. elim (both.0 h) [
            | inl was ↦ inl was
            | inr m ↦
                let end = m.2.0 in
                let one = one-front front end.front last end.last (apart (front ++ last ∷ []) (end.front ++ end.last ∷ []) m.0 m.1 end.leads) in
                inr (end.rest, subst (λ name. EndsIn name end.rest) (sym one.1) end.ends, (ap (λ f. f ++ end.rest) one.0 ∙ sym end.splits, m.2.1))
          ],
          λ either. both.1 (elim either [
            | inl was ↦ inl was
            | inr m ↦
                let at = more.there front m.0 last (sym m.2.0) m.1 in
                inr (at.0, at.1, (record { front = front; rest = m.0; last = last; splits = sym m.2.0; ends = m.1; leads = at.1 }, m.2.1))
          ]),
        )

    pub ends-added : AreEndsOf (starts-of new (set mid node row)) more_ends
    ends-added = record {
      nodes = covered-more old new rows (set mid node row) Own grows apart are.nodes (put-adds rows mid node row set_of same within adds) (λ n begin m. (names, at ∙ ap Some (sym m.0)));
      end_nodes = covered-more old new ends more_ends End grows apart are.end_nodes more.adds (λ n begin m. (m.0.front ++ m.0.last ∷ [], m.0.leads));
      same = ends-same old new rows (set mid node row) ends more_ends (λ path b. (path ≡ names) × IsIn set_of b) are path-added goes-on;
    }

-- ---- the ends of a path are added, from the last one on

module _ (trie : Trie) (before : List (List ℕ)) (name : List ℕ) (rest : List (List ℕ)) (last : List ℕ) (is : EndsIn last (name ∷ rest)) (end : ℕ) (leads : node_of trie (before ++ last ∷ []) ≡ Some end) where
  first-end : IsEnd trie before (name ∷ rest) end
  first-end = record {
    front = [];
    rest = name ∷ rest;
    last = last;
    splits = refl;
    ends = is;
    leads = ap (λ f. node_of trie (f ++ last ∷ [])) (append-nil before) ∙ leads;
  }

  later-end : (node : ℕ) → IsEnd trie (before ++ name ∷ []) rest node → IsEnd trie before (name ∷ rest) node
  later-end node e = record {
    front = name ∷ e.front;
    rest = e.rest;
    last = e.last;
    splits = ap (λ r. name ∷ r) e.splits;
    ends = e.ends;
    leads = ap (λ f. node_of trie (f ++ e.last ∷ [])) (sym (append_assoc before (name ∷ []) e.front)) ∙ e.leads;
  }

  -- each is the first one, or one of the others
  either-end : (node : ℕ) → IsEnd trie before (name ∷ rest) node → (node ≡ end) ⊎ IsEnd trie (before ++ name ∷ []) rest node
  either-end node e = by e.front e.splits e.leads
    where
      by : (front : List (List ℕ)) → name ∷ rest ≡ front ++ e.rest → node_of trie ((before ++ front) ++ e.last ∷ []) ≡ Some node → (node ≡ end) ⊎ IsEnd trie (before ++ name ∷ []) rest node
      by [] splits at =
          let one : e.last ≡ last = whole-ends (name ∷ rest) [] e.rest e.last last is e.ends splits in
          let two : Some node ≡ Some end = sym at ∙ ap (λ f. node_of trie (f ++ e.last ∷ [])) (append-nil before) ∙ ap (λ (n : List ℕ). node_of trie (before ++ n ∷ [])) one ∙ leads in
          inl (cc)
      by (first ∷ front) splits at =
          let same : name ≡ first = cc in
          inr (record {
            front = front;
            rest = e.rest;
            last = e.last;
            splits = cc;
            ends = e.ends;
            leads = ap (λ f. node_of trie (f ++ e.last ∷ [])) (append_assoc before (name ∷ []) front ∙ ap (λ (n : List ℕ). before ++ n ∷ front) same) ∙ at;
          })

-- names are the first one and those behind it
pub split-names : (names : List (List ℕ)) (name : List ℕ) → 1 ≤ length names → name ≡ get_or names 0 name → names ≡ name ∷ take (length names - 1) (drop 1 names)
split-names [] name some is = absurd (omega (arith, some))
split-names (first ∷ names) name some is = ap (λ n. n ∷ names) (sym is) ∙ ap (λ r. name ∷ r) (sym (take_rest (first ∷ names) 1))

-- one more in front
module _ (trie : Trie) (before : List (List ℕ)) (name : List ℕ) (rest : List (List ℕ)) (last : List ℕ) (is : EndsIn last (name ∷ rest)) (end : ℕ) (leads : node_of trie (before ++ last ∷ []) ≡ Some end)
    (rows mid more : Rows) (begins : List ℕ) (row : List (List ℕ)) (same : AreSame rows mid) (within : end < length more) (joins : (begin : ℕ) → IsInSome row begin ↔ (IsInSome (sets_at rows end) begin ⊎ IsIn begins begin))
    (later : AddsEnds trie (before ++ name ∷ []) rest mid more begins) where
  pub more-ends : AddsEnds trie before (name ∷ rest) rows (set more end row) begins
  more-ends = record {
    adds = λ node begin. elim (cases_eq node end) [
      | inl e ↦
          let here : sets_at (set more end row) node ≡ row = ap (sets_at (set more end row)) e ∙ get_or-set_same more end row [] within in (
            λ h. elim ((joins begin).0 (subst (λ sets. IsInSome sets begin) here h)) [
              | inl was ↦ inl (subst (λ n. IsInSome (sets_at rows n) begin) (sym e) was)
              | inr m ↦ inr (subst (IsEnd trie before (name ∷ rest)) (sym e) (first-end trie before name rest last is end leads), m)
            ],
            λ either. subst (λ sets. IsInSome sets begin) (sym here) ((joins begin).1 (elim either [
              | inl was ↦ inl (subst (λ n. IsInSome (sets_at rows n) begin) e was)
              | inr m ↦ inr m.1
            ])),
          )
      | inr apart ↦
          let there : sets_at (set more end row) node ≡ sets_at more node = get_or-set_other more end node row [] apart in (
            λ h. elim ((later.adds node begin).0 (subst (λ sets. IsInSome sets begin) there h)) [
              | inl was ↦ inl (subst (λ sets. IsInSome sets begin) (same node) was)
              | inr m ↦ inr (later-end trie before name rest last is end leads node m.0, m.1)
            ],
            λ either. subst (λ sets. IsInSome sets begin) (sym there) ((later.adds node begin).1 (elim either [
              | inl was ↦ inl (subst (λ sets. IsInSome sets begin) (sym (same node)) was)
              | inr m ↦ elim (either-end trie before name rest last is end leads node m.0) [
                | inl e ↦ absurd (apart e)
                | inr deeper ↦ inr (deeper, m.1)
              ]
            ])),
          )
    ];
    there = all;
  }
    where
      all : (front left : List (List ℕ)) (end_name : List ℕ) → name ∷ rest ≡ front ++ left → EndsIn end_name left → (node : ℕ) × (node_of trie ((before ++ front) ++ end_name ∷ []) ≡ Some node)
      all [] left end_name splits ends =
          let one : end_name ≡ last = whole-ends (name ∷ rest) [] left end_name last is ends splits in
          (end, ap (λ f. node_of trie (f ++ end_name ∷ [])) (append-nil before) ∙ ap (λ (n : List ℕ). node_of trie (before ++ n ∷ [])) one ∙ leads)
      all (first ∷ front) left end_name splits ends =
          let same_name : name ≡ first = cc in
          let on = later.there front left end_name (cc) ends in
          (on.0, ap (λ f. node_of trie (f ++ end_name ∷ [])) (sym (append_assoc before (name ∷ []) front ∙ ap (λ (n : List ℕ). before ++ n ∷ front) same_name)) ∙ on.1)

-- ---- where a way leads

-- a path that begins there leads along a way
abbrev pub Leads : Starts → ℕ → Way → List ℕ → Type 0
Leads starts begin way last = (names : List (List ℕ)) × BeginsIn starts names begin × LeadsAlong way last names

-- a way is known, and leads to this node
led-known : (trie : Trie) (way : Way) (node : ℕ) → Known node ≡ led trie 0 way → (names : List (List ℕ)) × (way ≡ known names) × (node_of trie names ≡ Some node)
led-known trie (known names) node e = (names, refl, by (node_of trie names) e)
  where
    by : (o : Option ℕ) → Known node ≡ led_to Known o → o ≡ Some node
    by None e = absurd (cc)
    by (Some n) e = cc
led-known trie (hidden front) node e = absurd (by (node_of trie front) e)
  where
    by : (o : Option ℕ) → ¬ (Known node ≡ led_to Hidden o)
    by None e = absurd (cc)
    by (Some n) e = absurd (cc)

-- it is hidden, and its front leads to this node
led-hidden : (trie : Trie) (way : Way) (node : ℕ) → Hidden node ≡ led trie 0 way → (front : List (List ℕ)) × (way ≡ hidden front) × (node_of trie front ≡ Some node)
led-hidden trie (known names) node e = absurd (by (node_of trie names) e)
  where
    by : (o : Option ℕ) → ¬ (Hidden node ≡ led_to Known o)
    by None e = absurd (cc)
    by (Some n) e = absurd (cc)
led-hidden trie (hidden front) node e = (front, refl, by (node_of trie front) e)
  where
    by : (o : Option ℕ) → Hidden node ≡ led_to Hidden o → o ≡ Some node
    by None e = absurd (cc)
    by (Some n) e = cc

-- it leads nowhere
led-nowhere : (kind : ℕ → Led) (o : Option ℕ) → ((n : ℕ) → ¬ (Nowhere ≡ kind n)) → Nowhere ≡ led_to kind o → o ≡ None
led-nowhere kind None some e = refl
led-nowhere kind (Some n) some e = absurd (some n e)

module _ (trie : Trie) (rows ends : Rows) (are : AreEndsOf (starts-of trie rows) ends) (last : List ℕ) (begin : ℕ) where
  -- the paths that go on from the front of a hidden way may lead behind a union
  goes-hidden : (front : List (List ℕ)) → BeginsIn (starts-of trie ends) (front ++ last ∷ []) begin ↔ Leads (starts-of trie rows) begin (hidden front) last
  goes-hidden front = (
    λ h. let from = (are.same front last begin).0 h in (front ++ from.0, from.2, (from.0, refl, from.1)),
    λ (names, begins, (rest, split, ends_in)). (are.same front last begin).1 (rest, ends_in, subst (λ ns. BeginsIn (starts-of trie rows) ns begin) split begins),
  )

  -- none do where the front and the name lead nowhere
  none-hidden : (front : List (List ℕ)) (o : Option ℕ) → node_of trie front ≡ o → (o then λ n. child trie n last) ≡ None → ¬ Leads (starts-of trie rows) begin (hidden front) last
  none-hidden front o at none h =
      let here = (goes-hidden front).1 h in
      let two : Some here.node ≡ None = sym here.leads ∙ lead-last (child trie) 0 front last ∙ ap (λ x. x then λ n. child trie n last) at ∙ none in
      absurd (cc)

  -- no path has the names of a known way that leads nowhere
  none-known : (names : List (List ℕ)) → node_of trie names ≡ None → ¬ Leads (starts-of trie rows) begin (known names) last
  none-known names none h = let two : Some h.1.node ≡ None = sym h.1.leads ∙ ap (node_of trie) h.2 ∙ none in absurd (cc)

  pub leads-nowhere : (way : Way) → Nowhere ≡ led trie 0 way → ¬ Leads (starts-of trie rows) begin way last
  leads-nowhere (known names) e = none-known names (led-nowhere Known (node_of trie names) (λ n same. absurd (cc)) e)
  leads-nowhere (hidden front) e = none-hidden front None (led-nowhere Hidden (node_of trie front) (λ n same. absurd (cc)) e) refl

  module _ (way : Way) where
    -- the path of the names on a known way may lead there
    pub leads-known : (node : ℕ) (b : Bool) → Known node ≡ led trie 0 way → (b ≡ true ↔ IsInSome (sets_at rows node) begin) → (b ≡ true ↔ Leads (starts-of trie rows) begin way last)
    leads-known node b e is =
        let on = led-known trie way node e in
        subst (λ w. b ≡ true ↔ Leads (starts-of trie rows) begin w last) (sym on.1) (
          λ h. (on.0, record { node = node; leads = on.2; here = is.0 h }, refl),
          λ h. is.1 (
              let two : Some h.1.node ≡ Some node = sym h.1.leads ∙ ap (node_of trie) h.2 ∙ on.2 in
              let one : h.1.node ≡ node = cc in
              subst (λ n. IsInSome (sets_at rows n) begin) one h.1.here
              ),
        )

    pub leads-hidden : (node end : ℕ) (b : Bool) → Hidden node ≡ led trie 0 way → Some end ≡ child trie node last → (b ≡ true ↔ IsInSome (sets_at ends end) begin)
        → (b ≡ true ↔ Leads (starts-of trie rows) begin way last)
    leads-hidden node end b e goes is =
        let on = led-hidden trie way node e in
        let at : node_of trie (on.0 ++ last ∷ []) ≡ Some end = lead-last (child trie) 0 on.0 last ∙ ap (λ o. o then λ n. child trie n last) on.2 ∙ sym goes in
        let along = goes-hidden on.0 in
        subst (λ w. b ≡ true ↔ Leads (starts-of trie rows) begin w last) (sym on.1) (
          λ h. along.0 (record { node = end; leads = at; here = is.0 h }),
          λ h. is.1 (
              let here = along.1 h in
              let two : Some here.node ≡ Some end = sym here.leads ∙ at in
              let one : here.node ≡ end = cc in
              subst (λ n. IsInSome (sets_at ends n) begin) one here.here
              ),
        )

    pub leads-childless : (node : ℕ) → Hidden node ≡ led trie 0 way → None ≡ child trie node last → ¬ Leads (starts-of trie rows) begin way last
    leads-childless node e none =
        let on = led-hidden trie way node e in
        subst (λ w. ¬ Leads (starts-of trie rows) begin w last) (sym on.1) (none-hidden on.0 (Some node) on.2 (sym none))

-- ---- in which names paths end

module _ (trie : Trie) (rows ends : Rows) (are : AreEndsOf (starts-of trie rows) ends) (last : List ℕ) where
  -- some path that ends in a name begins anywhere, where there are any sets behind the root
  pub ends-anywhere : (end : ℕ) (b : Bool) → Some end ≡ child trie 0 last → (b ≡ true ↔ ((begin : ℕ) × IsInSome (sets_at ends end) begin)) → (b ≡ true ↔ ((begin : ℕ) × EndsFrom (starts-of trie rows) last begin))
  ends-anywhere end b goes is =
      let at : node_of trie (last ∷ []) ≡ Some end = lead-last (child trie) 0 [] last ∙ sym goes in (
        λ h. let some = is.0 h in (some.0, (are.same [] last some.0).0 (record { node = end; leads = at; here = some.1 })),
        λ h. is.1 (
            let here = (are.same [] last h.0).1 h.1 in
            let two : Some here.node ≡ Some end = sym here.leads ∙ at in
            let one : here.node ≡ end = cc in
            (h.0, subst (λ n. IsInSome (sets_at ends n) h.0) one here.here)
            ),
      )

  pub ends-nowhere : None ≡ child trie 0 last → (begin : ℕ) → ¬ EndsFrom (starts-of trie rows) last begin
  ends-nowhere none begin h =
      let here = (are.same [] last begin).1 h in
      let two : Some here.node ≡ None = sym here.leads ∙ lead-last (child trie) 0 [] last ∙ sym none in
      absurd (cc)
